-- The clause for all values that no other clause takes.
use Rattle.std.proofs.Common.{◌<◌, ◌≤◌, ◌+◌, ℕ, inl, codes, List, [], ◌∷◌, ◌++◌, length, refl, sym, subst, arith}
use Rattle.ef_base.specs.declared.name.Name.{Name}
use Rattle.ef_base.specs.Texts.{IsNameOf, Texts}
use Rattle.ef_core.specs.declared.env.Bind.{Bind}
use Rattle.ef_core.specs.declared.literal.CoreVar.{CoreVar}
use Rattle.ef_core.specs.declared.literal.CoreVar.TheVariants.{Numbered}
use Rattle.ef_core.specs.declared.literal.FName.{FName}
use Rattle.ef_core.specs.Conditions.{NoneTwice}
use Rattle.ef_core.specs.Depth.{depth}
use Rattle.ef_core.specs.Everywhere.{Each}
use Rattle.ef_core.specs.Fresh.{most_variables, variables_from}
use Rattle.ef_core.specs.LetForm.{AreSimple}
use Rattle.ef_core.specs.Lowered.{IsLowered}
use Rattle.ef_core.specs.Plain.{ClauseTree, lits, trees}
use Rattle.ef_core.specs.Readable.{readable}
use Rattle.ef_core.specs.Scope.{IsAmong, InScope, pats_vars}
use Rattle.ef_core.specs.Tree as c
use Rattle.ef_core.specs.Tree.{CoreTree}
use Rattle.ef_core.specs.WellFormed.{AreSingle}
use Rattle.ef_forms.specs.declared.tables.FunctionName.{FunctionName}
use Rattle.ef_meaning.specs.Cases.{variables}
use Rattle.ef_lower.specs.Lowers.{IsLoweredStep}
use Rattle.ef_lower.specs.Matches.{FailsWith, IsLastClause}
use Rattle.ef_lower.proofs.Clauses.{IsLoweredClause}
use Rattle.ef_lower.proofs.Forms.{atom_lowered, numbered_readable as one_readable, run_lowered, variable_lowered}
use Rattle.ef_lower.proofs.Listed.{among_themselves, patterns, patterns_depth, patterns_lowered, patterns_sizes, patterns_vars, variables_depth, variables_in_scope, variables_lowered, variables_simple, variables_single}
use Rattle.ef_lower.proofs.Numbered.{numbered_count, numbered_differ, numbered_readable}
use Rattle.ef_lower.proofs.Variables.{among_each}

-- ---- the error

-- the reason of a word alone
abbrev literal : Name → CoreTree
literal why = c.lit (c.lit_tuple (lits (c.atom why ∷ [])))

abbrev reason : Name → List CoreVar → CoreTree
reason why zs = c.tuple (trees (c.lit (c.atom why) ∷ variables zs))

module _ (texts : Texts) (word : List ℕ) where
  raise_lowered : (match_fail : Name) (e : CoreTree) → IsNameOf texts match_fail (codes "match_fail") → AreSimple (c.more e c.end) → AreSingle (c.more e c.end) → IsLowered texts e → IsLowered texts (c.primop match_fail (trees (e ∷ [])))
  raise_lowered match_fail e is simple single low = ((simple, ((tt, (single, is.within)), (tt, tt, tt))), (low, tt))

  reason_step : (why : Name) (z : CoreVar) (zs : List CoreVar) (y : ℕ) → IsNameOf texts why word → Each (readable texts).variable (z ∷ zs) → y < most_variables → IsLoweredStep texts 1 (record { vars = Numbered y ∷ []; value = reason why (z ∷ zs) })
  reason_step why z zs y is in_range small = record {
    variables = ((tt, (one_readable texts y small, tt)), tt);
    differ = ((λ none. none), tt);
    value = (
      ((tt, variables_simple (z ∷ zs)), (((λ lits. lits.1.0), ((tt, variables_single (z ∷ zs)), tt)), (tt, tt, tt))),
      (atom_lowered texts why is.within, variables_lowered texts (z ∷ zs) in_range),
    );
    shallow = let flat = variables_depth (z ∷ zs) in omega arith;
  }

  fails_lowered : (zs : List CoreVar) (y : ℕ) (e : CoreTree) → FailsWith texts word zs (Numbered y) e → Each (readable texts).variable zs → (1 ≤ length zs → y < most_variables) → IsLowered texts e
  fails_lowered [] y e error in_range small =
      subst (IsLowered texts) (sym error.is) (raise_lowered error.match_fail (literal error.why) error.match_fail_text (tt, tt) (tt, tt)
      ((tt, ((tt, (tt, tt)), (tt, tt, tt))), ((tt, ((tt, (tt, tt)), tt)), ((tt, ((tt, (tt, error.why_text.within)), tt)), tt))))
  fails_lowered (z ∷ zs) y e error in_range small =
      let few = small (omega arith) in
      run_lowered texts 1 (record { vars = Numbered y ∷ []; value = reason error.why (z ∷ zs) } ∷ []) (c.primop error.match_fail (trees (c.var (Numbered y) ∷ []))) e
      (reason_step error.why z zs y error.why_text in_range few, tt)
      (raise_lowered error.match_fail (c.var (Numbered y)) error.match_fail_text (tt, tt) (tt, tt) (variable_lowered texts (Numbered y) (one_readable texts y few))) tt error.is

  fails_deep : (zs : List CoreVar) (y : CoreVar) (e : CoreTree) → FailsWith texts word zs y e → depth e ≤ 3
  fails_deep [] y e error = subst (λ t. depth t ≤ 3) (sym error.is) (omega arith)
  fails_deep (z ∷ zs) y e error = let flat = variables_depth (z ∷ zs) in subst (λ t. depth t ≤ 3) (sym error.is) (omega arith)

  fails_in_scope : (zs : List CoreVar) (y : CoreVar) (e : CoreTree) → FailsWith texts word zs y e → (us : List CoreVar) (fs : List FName) → Each (IsAmong us) zs → InScope us fs e
  fails_in_scope [] y e error us fs are = subst (InScope us fs) (sym error.is) (tt, tt)
  fails_in_scope (z ∷ zs) y e error us fs are = subst (InScope us fs) (sym error.is) ((((tt, variables_in_scope us fs (z ∷ zs) are)), tt), (inl refl, tt))

-- ---- the clause

module _ (texts : Texts) (defined : List FunctionName) (env : List Bind) (levels : ℕ) (some : 1 ≤ levels) (word : List ℕ) (count n m : ℕ) (last : ClauseTree) (is : IsLastClause texts word count n m last) (fits : m ≤ most_variables) where
  abbrev zs : List CoreVar
  zs = variables_from is.z count

  in_range : Each (readable texts).variable zs
  in_range = numbered_readable texts is.z count (let next = is.next in omega arith)

  reason_small : 1 ≤ length zs → is.z + count < most_variables
  reason_small filled = let number = numbered_count is.z count in let next = is.next in omega arith

  taken : (vs : List CoreVar) → Each (IsAmong (pats_vars (patterns zs) ++ vs)) zs
  taken vs = subst (λ us. Each (IsAmong (us ++ vs)) zs) (sym (patterns_vars zs)) (among_each (λ z. z) zs vs zs (among_themselves zs))

  pub last_lowered : IsLoweredClause texts defined env levels last
  last_lowered = subst (IsLoweredClause texts defined env levels) (sym is.is) (record {
    distinct = subst NoneTwice (sym (patterns_vars zs)) (numbered_differ is.z count);
    pats = patterns_lowered texts zs in_range;
    guard = is.is_guard.lowered;
    body = fails_lowered texts word zs (is.z + count) is.fails is.is_error in_range reason_small;
    in_scope = λ vs fs variables functions.
        let us = pats_vars (patterns zs) ++ vs in (
          patterns_sizes vs fs zs,
          is.is_guard.in_scope us fs tt,
          fails_in_scope texts word zs (Numbered (is.z + count)) is.fails is.is_error us fs (taken vs),
        );
    shallow =
        let flat = patterns_depth zs in let always = is.is_guard.shallow in
        let fails = fails_deep texts word zs (Numbered (is.z + count)) is.fails is.is_error in
        omega arith;
  })
