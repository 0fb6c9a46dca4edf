-- A case of the parameters, from its clauses.
use Rattle.std.proofs.Common.{◌≡◌, ◌≤◌, ◌<◌, ◌+◌, ◌*◌, ℕ, codes, List, [], ◌∷◌, ◌++◌, length, get_or, take, map, sym, ap, ◌∙◌, subst, arith}
use Rattle.std.proofs.lemmas.List.{take_more}
use Rattle.ef_base.specs.Texts.{Texts, Extends}
use Rattle.ef_core.specs.declared.literal.CoreVar.{CoreVar}
use Rattle.ef_core.specs.declared.literal.CoreVar.TheVariants.{Numbered}
use Rattle.ef_core.specs.declared.literal.FName.{FName}
use Rattle.ef_core.specs.Conditions.{NoneTwice, VariablesDiffer}
use Rattle.ef_core.specs.Depth as deep
use Rattle.ef_core.specs.Depth.{depth}
use Rattle.ef_core.specs.Everywhere.{ClausesHold, Each}
use Rattle.ef_core.specs.Fresh.{most_variables, variables_from}
use Rattle.ef_core.specs.Lowered.{IsLowered, lowered}
use Rattle.ef_core.specs.Plain.{ClauseTree, clauses}
use Rattle.ef_core.specs.Readable.{readable}
use Rattle.ef_core.specs.Scope.{ClausesInScope, InScope, IsAmong, pats_vars}
use Rattle.ef_core.specs.Tree as c
use Rattle.ef_core.specs.Tree.{CoreTree}
use Rattle.ef_core.specs.WellFormed.{AreSomeClauses}
use Rattle.ef_forms.specs.declared.expr.Clause.{Clause, out-Clause}
use Rattle.ef_forms.specs.declared.tables.FunctionName.{FunctionName}
use Rattle.ef_forms.specs.Depth.{clauses_depth}
use Rattle.ef_forms.specs.Plain.{plain, plain_all, plain_clauses}
use Rattle.ef_forms.specs.Tree.{clause}
use Rattle.ef_lower.specs.Matches.{FailsWith, IsLastClause}
use Rattle.ef_lower.specs.Scope.{HasFunctions}
use Rattle.ef_lower.proofs.LastClause.{last_lowered}
use Rattle.ef_lower.proofs.Numbered.{numbered_count}
use Rattle.ef_lower.proofs.Listed.{among_themselves, variables_depth, variables_in_scope, variables_lowered, variables_single}
use Rattle.ef_lowmod.specs.Clauses.{AreLoweredClauses, IsLoweredBody, IsLoweredClause}
use Rattle.ef_lowmod.proofs.Lowered.{has_earlier, lowered_later, pats_lowered_later, variable_lowered}
use Rattle.ef_lowpat.specs.Budgets.{depth_per_level}
use Rattle.ef_meaning.specs.Cases.{FailsFunction, together, variables}
use Rattle.ef_meaning.specs.Lowers.{KeepsFunction}
use Rattle.ef_meaning.specs.Patterns.{KeepsPicks}
use Rattle.ef_meaning.specs.Source.{by_clauses}
use Rattle.ef_meaning.proofs.Fails.{function_literal_fails, function_step_fails}
use Rattle.ef_meaning.proofs.Functions.{function_body_keeps}
use Rattle.ef_meaning.proofs.Later.{body_later, guard_later, patterns_later}
use Rattle.ef_meaning.proofs.Picks.{picks_clause, picks_none}

-- ---- clauses, one behind another

module _ (now all : Texts) (later : Extends now all) (defined : List FunctionName) where
  clause_later : (c : Clause) (m : ClauseTree) → IsLoweredClause now defined c m → IsLoweredClause all defined c m
  clause_later c m is = record {
    tests = is.tests;
    binds = is.binds;
    first = is.first;
    last = is.last;
    unguarded = is.unguarded;
    matched = patterns_later now all later (plain_all (out-Clause c).patterns.items) is.first [] m.pats is.tests is.last is.binds is.matched;
    tested = guard_later now all later is.tests m.guard is.tested;
    followed = body_later now all later (map plain (out-Clause c).body.items) is.binds [] m.body is.followed;
    distinct = is.distinct;
    pats = pats_lowered_later now all later m.pats is.pats;
    guard = lowered_later now all later m.guard is.guard;
    body = lowered_later now all later m.body is.body;
    in_scope = λ vs fs has. is.in_scope vs fs (has_earlier now all later defined fs has);
    shallow = is.shallow;
  }

  clauses_later : (cs : List Clause) (ms : List ClauseTree) → AreLoweredClauses now defined cs ms → AreLoweredClauses all defined cs ms
  clauses_later [] [] are = tt
  clauses_later [] (m ∷ ms) are = absurd are
  clauses_later (c ∷ cs) [] are = absurd are
  clauses_later (c ∷ cs) (m ∷ ms) are = (clause_later c m are.0, clauses_later cs ms are.1)

one_more : (all : Texts) (defined : List FunctionName) (cs : List Clause) (ms : List ClauseTree) (c : Clause) (m : ClauseTree) → AreLoweredClauses all defined cs ms → IsLoweredClause all defined c m → AreLoweredClauses all defined (cs ++ c ∷ []) (ms ++ m ∷ [])
one_more all defined [] [] c m are is = (is, tt)
one_more all defined [] (n ∷ ms) c m are is = absurd are
one_more all defined (d ∷ cs) [] c m are is = absurd are
one_more all defined (d ∷ cs) (n ∷ ms) c m are is = (are.0, one_more all defined cs ms c m are.1 is)

-- one more of a slice
pub clauses_more : (now all : Texts) (defined : List FunctionName) (cs : List Clause) (i : ℕ) (c : Clause) (ms : List ClauseTree) (m : ClauseTree) → Extends now all → AreLoweredClauses now defined (take i cs) ms → i < length cs → c ≡ get_or cs i c → IsLoweredClause all defined c m → AreLoweredClauses all defined (take (i + 1) cs) (ms ++ m ∷ [])
clauses_more now all defined cs i c ms m later are small read is =
    subst (λ l. AreLoweredClauses all defined l (ms ++ m ∷ [])) (sym (take_more cs i c small ∙ ap (λ x. take i cs ++ x ∷ []) (sym read)))
    (one_more all defined (take i cs) ms c m (clauses_later now all later defined (take i cs) ms are) is)

-- ---- the clauses of a case

module _ (all : Texts) (defined : List FunctionName) where
  clauses_keep : (cs : List Clause) (ms : List ClauseTree) → AreLoweredClauses all defined cs ms → KeepsPicks all (plain_clauses cs) [] [] ms
  clauses_keep [] [] are = picks_none all [] []
  clauses_keep [] (m ∷ ms) are = absurd are
  clauses_keep (c ∷ cs) [] are = absurd are
  clauses_keep (c ∷ cs) (m ∷ ms) are =
      let one = are.0 in
      subst (λ g. KeepsPicks all (clause (out-Clause c).place (plain_all (out-Clause c).patterns.items) g (plain_all (out-Clause c).body.items) (plain_clauses cs)) [] [] (m ∷ ms)) (sym one.unguarded)
      (picks_clause all (out-Clause c).place (plain_all (out-Clause c).patterns.items) (map plain (out-Clause c).body.items) one.first [] m.pats one.tests one.last one.binds [] m.guard m.body (plain_clauses cs) ms one.matched one.tested one.followed (clauses_keep cs ms are.1))

  -- before a last one
  module _ (last : ClauseTree) where
    clauses_lowered : (cs : List Clause) (ms : List ClauseTree) → AreLoweredClauses all defined cs ms → ClausesHold (lowered all) (clauses (last ∷ [])) → ClausesHold (lowered all) (clauses (ms ++ last ∷ []))
    clauses_lowered [] [] are is = is
    clauses_lowered [] (m ∷ ms) are is = absurd are
    clauses_lowered (c ∷ cs) [] are is = absurd are
    clauses_lowered (c ∷ cs) (m ∷ ms) are is = (are.0.pats, are.0.guard, are.0.body, clauses_lowered cs ms are.1 is)

    clauses_differ : (e : CoreTree) (cs : List Clause) (ms : List ClauseTree) → AreLoweredClauses all defined cs ms → NoneTwice (pats_vars last.pats) → VariablesDiffer (c.case_of e (clauses (ms ++ last ∷ [])))
    clauses_differ e [] [] are is = (is, tt)
    clauses_differ e [] (m ∷ ms) are is = absurd are
    clauses_differ e (c ∷ cs) [] are is = absurd are
    clauses_differ e (c ∷ cs) (m ∷ ms) are is = (are.0.distinct, clauses_differ e cs ms are.1 is)

    clauses_in_scope : (vs : List CoreVar) (fs : List FName) (cs : List Clause) (ms : List ClauseTree) → HasFunctions all defined fs → AreLoweredClauses all defined cs ms → ClausesInScope vs fs (clauses (last ∷ [])) → ClausesInScope vs fs (clauses (ms ++ last ∷ []))
    clauses_in_scope vs fs [] [] has are is = is
    clauses_in_scope vs fs [] (m ∷ ms) has are is = absurd are
    clauses_in_scope vs fs (c ∷ cs) [] has are is = absurd are
    clauses_in_scope vs fs (c ∷ cs) (m ∷ ms) has are is =
        let one = are.0.in_scope vs fs has in (one.0, one.1, one.2, clauses_in_scope vs fs cs ms has are.1 is)

    clauses_shallow : (levels : ℕ) (cs : List Clause) (ms : List ClauseTree) → AreLoweredClauses all defined cs ms → clauses_depth (plain_clauses cs) ≤ levels → deep.clauses_depth (clauses (last ∷ [])) + 1 ≤ depth_per_level * levels → deep.clauses_depth (clauses (ms ++ last ∷ [])) + 1 ≤ depth_per_level * levels
    clauses_shallow levels [] [] are within is = is
    clauses_shallow levels [] (m ∷ ms) are within is = absurd are
    clauses_shallow levels (c ∷ cs) [] are within is = absurd are
    clauses_shallow levels (c ∷ cs) (m ∷ ms) are within is =
        let here = are.0.shallow in
        let rest = clauses_shallow levels cs ms are.1 (omega arith) is in
        omega arith

some_clauses : (ms : List ClauseTree) (last : ClauseTree) → AreSomeClauses (clauses (ms ++ last ∷ []))
some_clauses [] last = tt
some_clauses (m ∷ ms) last = tt

-- ---- variables together

together_lowered : (all : Texts) (ys : List CoreVar) → Each (readable all).variable ys → IsLowered all (together (variables ys))
together_lowered all [] is = ((tt, ((tt, (tt, tt)), (tt, tt, tt))), tt)
together_lowered all (y ∷ []) is = variable_lowered all y is.0
together_lowered all (y ∷ z ∷ ys) is = ((tt, ((tt, (variables_single (y ∷ z ∷ ys), tt)), (tt, tt, tt))), variables_lowered all (y ∷ z ∷ ys) is)

together_in_scope : (us : List CoreVar) (fs : List FName) (ys : List CoreVar) → Each (IsAmong us) ys → InScope us fs (together (variables ys))
together_in_scope us fs [] are = tt
together_in_scope us fs (y ∷ []) are = are.0
together_in_scope us fs (y ∷ z ∷ ys) are = variables_in_scope us fs (y ∷ z ∷ ys) are

together_depth : (ys : List CoreVar) → depth (together (variables ys)) ≤ 2
together_depth [] = omega arith
together_depth (y ∷ []) = omega arith
together_depth (y ∷ z ∷ ys) = let flat = variables_depth (y ∷ z ∷ ys) in omega arith

-- ---- the last clause

function_fails : (all : Texts) (ys : List CoreVar) (y : CoreVar) (e : CoreTree) → FailsWith all (codes "function_clause") ys y e → FailsFunction all ys e
function_fails all [] y e error = subst (FailsFunction all []) (sym error.is) (function_literal_fails all error.match_fail error.why error.match_fail_text error.why_text)
function_fails all (z ∷ zs) y e error = subst (FailsFunction all (z ∷ zs)) (sym error.is) (function_step_fails all error.match_fail error.why (z ∷ zs) error.match_fail_text error.why_text y)

-- ---- the case

pub case_lowered : (all : Texts) (defined : List FunctionName) (cs : List Clause) (ms : List ClauseTree) (params : List CoreVar) (n m : ℕ) (last : ClauseTree) (e : CoreTree) →
    1 ≤ clauses_depth (plain_clauses cs) → NoneTwice params → Each (readable all).variable params → AreLoweredClauses all defined cs ms →
    IsLastClause all (codes "function_clause") (length params) n m last → m ≤ most_variables →
    e ≡ c.case_of (together (variables params)) (clauses (ms ++ last ∷ [])) → IsLoweredBody all defined (plain_clauses cs) params e
case_lowered all defined cs ms params n m last e some differ in_range are is fits same =
    let ys = variables_from is.z (length params) in
    let levels = clauses_depth (plain_clauses cs) in
    let end = last_lowered all defined [] levels some (codes "function_clause") (length params) n m last is fits in
    subst (IsLoweredBody all defined (plain_clauses cs) params) (sym same) (record {
      keeps = subst (λ k. KeepsFunction all (by_clauses (plain_clauses cs) []) params (c.case_of (together (variables params)) (clauses (ms ++ k ∷ [])))) (sym is.is)
          (function_body_keeps all (plain_clauses cs) params ms is.always ys is.fails differ (numbered_count is.z (length params)) is.is_guard.gives
          (function_fails all ys (Numbered (is.z + length params)) is.fails is.is_error) (clauses_keep all defined cs ms are));
      lowered = (
        (tt, ((tt, (some_clauses ms last, tt)), (clauses_differ all defined last (together (variables params)) cs ms are end.distinct, tt, tt))),
        together_lowered all params in_range,
        clauses_lowered all defined last cs ms are (end.pats, end.guard, end.body, tt),
      );
      in_scope = λ fs has. (
        together_in_scope params fs params (among_themselves params),
        clauses_in_scope all defined last params fs cs ms has are (let here = end.in_scope params fs tt has in (here.0, here.1, here.2, tt)),
      );
      shallow =
          let flat = together_depth params in let deepest = end.shallow in
          let all_clauses = clauses_shallow all defined last levels cs ms are (omega arith) (omega arith) in
          omega arith;
    })
