-- One clause, from its parts.
use Rattle.std.proofs.Common.{◌≡◌, ◌≤◌, ◌+◌, ◌*◌, ◌⊎◌, ℕ, ◌||◌, inl, inr, List, [], ◌∷◌, ◌++◌, length, get_or, map, Option, Some, IfSome, refl, sym, ap, ◌∙◌, subst, arith}
use Rattle.ef_base.specs.Texts.{Texts, Extends}
use Rattle.ef_core.specs.declared.env.Bind.{Bind}
use Rattle.ef_core.specs.declared.literal.CoreVar.{CoreVar}
use Rattle.ef_core.specs.declared.literal.FName.{FName}
use Rattle.ef_core.specs.declared.lowered.Test.{Test}
use Rattle.ef_core.specs.Conditions.{NoneTwice}
use Rattle.ef_core.specs.Depth.{depth, pats_depth}
use Rattle.ef_core.specs.Env.{NamesDiffer}
use Rattle.ef_core.specs.Everywhere.{Each, PatsHold}
use Rattle.ef_core.specs.Lowered.{IsLowered, lowered}
use Rattle.ef_core.specs.Plain.{ClauseTree}
use Rattle.ef_core.specs.Scope.{InScope, IsAmong, SizesInScope, pats_vars}
use Rattle.ef_forms.specs.declared.expr.Clause.{Clause, out-Clause}
use Rattle.ef_forms.specs.declared.expr.Expr.{Expr}
use Rattle.ef_forms.specs.declared.tables.FunctionName.{FunctionName}
use Rattle.ef_forms.specs.Depth.{all_depth}
use Rattle.ef_forms.specs.Plain.{plain, plain_all, plain_guard}
use Rattle.ef_forms.specs.Tree.{no_guard}
use Rattle.ef_forms.specs.Ways.{NameSet}
use Rattle.ef_lowpat.proofs.Depths.{some_depths}
use Rattle.ef_forms.proofs.Plain.{counted}
use Rattle.ef_lower.specs.Scope.{HasVariables, IsInScope}
use Rattle.ef_lower.proofs.Scopes.{among_first}
use Rattle.ef_lowmod.specs.Clauses.{IsLoweredClause}
use Rattle.ef_lowmod.specs.Parameters.{AreParameters, HasOwnNames, own_names}
use Rattle.ef_lowmod.proofs.Lowered.{has_earlier, lowered_later, pats_lowered_later}
use Rattle.ef_lowpat.specs.Budgets.{depth_per_level}
use Rattle.ef_lowpat.specs.Guards.{HasTested}
use Rattle.ef_lowpat.specs.Lowers.{IsVariableOf}
use Rattle.ef_meaning.specs.Lowers.{AreBelow, KeepsBody}
use Rattle.ef_meaning.specs.Named.{bound_names}
use Rattle.ef_meaning.specs.Patterns.{IsGuard, KeepsPatterns}
use Rattle.ef_meaning.proofs.Later.{guard_later, patterns_later}
use Rattle.ef_meaning.proofs.Variables.{are_below_more}

-- ---- the names of its patterns

-- where no name was bound before, those that are bound are theirs
pub names_alone : (bound binds env : List Bind) (set : NameSet) → bound ≡ [] → env ≡ binds → ((y : ℕ) → bound_names (bound ++ binds) y ≡ (bound_names bound y || set y)) → bound_names env ≡ set
names_alone bound binds env set none is all = λ i y. same y i
  where
    same : (y : ℕ) → bound_names env y ≡ set y
    same y = ap (λ e. bound_names e y) is ∙ subst (λ b. bound_names (b ++ binds) y ≡ (bound_names b y || set y)) none (all y)

pub below_alone : (bound binds env : List Bind) (n m : ℕ) → bound ≡ [] → env ≡ binds → n ≤ m → AreBelow n (bound ++ binds) → AreBelow m env
below_alone bound binds env n m none is le below =
    subst (AreBelow m) (sym is) (are_below_more n m binds le (subst (λ b. AreBelow n (b ++ binds)) none below))

-- ---- scope

tests_within : (vars vs : List CoreVar) (tests : List Test) → Each (λ (t : Test). IsAmong vars t.left) tests → Each (λ (t : Test). IsAmong vars t.right ⊎ IsVariableOf [] t.right) tests → HasTested tests (vars ++ vs)
tests_within vars vs [] lefts rights = tt
tests_within vars vs (t ∷ tests) lefts rights = ((among_first vars vs t.left lefts.0, right rights.0), tests_within vars vs tests lefts.1 rights.1)
  where
    right : IsAmong vars t.right ⊎ IsVariableOf [] t.right → IsAmong (vars ++ vs) t.right
    right (inl here) = among_first vars vs t.right here
    right (inr none) = absurd none.1

binds_within : (vars vs : List CoreVar) (binds : List Bind) → Each (λ (b : Bind). IsAmong vars b.var) binds → HasVariables binds (vars ++ vs)
binds_within vars vs [] all = tt
binds_within vars vs (b ∷ binds) all = (among_first vars vs b.var all.0, binds_within vars vs binds all.1)

-- ---- what is known of a clause's patterns, of its guard and of its body

pub record PatternFacts (now : Texts) (ps : List Expr) (bound binds : List Bind) (tests : List Test) (n0 n1 : ℕ) (made : ClauseTree) : Type 0 where
  pub matched : KeepsPatterns now (plain_all ps) n0 bound made.pats tests n1 binds
  pub distinct : NoneTwice (pats_vars made.pats)
  pub binds_in : Each (λ (b : Bind). IsAmong (pats_vars made.pats) b.var) binds
  pub lefts : Each (λ (t : Test). IsAmong (pats_vars made.pats) t.left) tests
  pub rights : Each (λ (t : Test). IsAmong (pats_vars made.pats) t.right ⊎ IsVariableOf bound t.right) tests
  pub lowered : PatsHold (lowered now) made.pats
  pub sizes : (vs : List CoreVar) (fs : List FName) → SizesInScope vs fs made.pats
  pub shallow : pats_depth made.pats ≤ all_depth (plain_all ps)

pub record GuardFacts (now : Texts) (tests : List Test) (made : ClauseTree) : Type 0 where
  pub gives : IsGuard now tests made.guard
  pub lowered : IsLowered now made.guard
  pub in_scope : (vs : List CoreVar) (fs : List FName) → HasTested tests vs → InScope vs fs made.guard
  pub shallow : depth made.guard ≤ 3

pub record BodyFacts (now all : Texts) (defined : List FunctionName) (es : List Expr) (env : List Bind) (made : ClauseTree) : Type 0 where
  pub means : KeepsBody all (map plain es) env [] made.body
  pub lowered : IsLowered all made.body
  pub in_scope : IsInScope now defined env made.body
  pub shallow : depth made.body + 1 ≤ depth_per_level * all_depth (plain_all es)

pub clause_lowered : (now all : Texts) (defined : List FunctionName) (c : Clause) (ps es : List Expr) (bound binds env : List Bind) (tests : List Test) (n0 n1 : ℕ) (made : ClauseTree) → Extends now all →
    ps ≡ (out-Clause c).patterns.items → es ≡ (out-Clause c).body.items → bound ≡ [] → env ≡ binds → plain_guard (out-Clause c).guard.items ≡ no_guard → 1 ≤ length (out-Clause c).body.items →
    PatternFacts now ps bound binds tests n0 n1 made → GuardFacts now tests made → BodyFacts now all defined es env made → IsLoweredClause all defined c made
clause_lowered now all defined c ps es bound binds env tests n0 n1 made later is_ps is_es none is unguarded some pattern guard body =
    let vars = pats_vars made.pats in
    let rights = subst (λ b. Each (λ (t : Test). IsAmong vars t.right ⊎ IsVariableOf b t.right) tests) none pattern.rights in
    let matched = subst (λ l. KeepsPatterns now (plain_all l) n0 [] made.pats tests n1 binds) is_ps (subst (λ b. KeepsPatterns now (plain_all ps) n0 b made.pats tests n1 binds) none pattern.matched) in
    record {
      tests = tests;
      binds = binds;
      first = n0;
      last = n1;
      unguarded = unguarded;
      matched = patterns_later now all later (plain_all (out-Clause c).patterns.items) n0 [] made.pats tests n1 binds matched;
      tested = guard_later now all later tests made.guard guard.gives;
      followed = subst (λ l. KeepsBody all (map plain l) binds [] made.body) is_es (subst (λ e. KeepsBody all (map plain es) e [] made.body) is body.means);
      distinct = pattern.distinct;
      pats = pats_lowered_later now all later made.pats pattern.lowered;
      guard = lowered_later now all later made.guard guard.lowered;
      body = body.lowered;
      in_scope = λ vs fs has. (
        pattern.sizes vs fs,
        guard.in_scope (vars ++ vs) fs (tests_within vars vs tests pattern.lefts rights),
        body.in_scope (vars ++ vs) fs (subst (λ e. HasVariables e (vars ++ vs)) (sym is) (binds_within vars vs binds pattern.binds_in)) (has_earlier now all later defined fs has),
      );
      shallow =
          let patterns = ap (λ l. all_depth (plain_all l)) is_ps in
          let bodies = ap (λ l. all_depth (plain_all l)) is_es in
          let number = counted (out-Clause c).body.items in
          let deep = some_depths (plain_all (out-Clause c).body.items) (omega arith) in
          let p = pattern.shallow in let g = guard.shallow in let b = body.shallow in
          omega arith;
    }

-- ---- one clause of its own names

pub record OneClause (cs : List Clause) (params : List CoreVar) (env : List Bind) (c : Clause) : Type 0 where
  pub alone : cs ≡ c ∷ []
  pub parameters : AreParameters (plain_all (out-Clause c).patterns.items)
  pub names : env ≡ own_names (plain_all (out-Clause c).patterns.items) params
  pub differ : NamesDiffer env

one_clause : (cs : List Clause) (params : List CoreVar) (env : List Bind) (c : Clause) → HasOwnNames cs params env → c ≡ get_or cs 0 c → OneClause cs params env c
one_clause [] params env c has read = absurd has
one_clause (x ∷ []) params env c has read =
    subst (OneClause (x ∷ []) params env) (sym read) (record { alone = refl; parameters = has.0; names = has.1; differ = has.2 })
one_clause (x ∷ y ∷ cs) params env c has read = absurd has

-- the same, where they are found
pub found_clause : (cs : List Clause) (params : List CoreVar) (found : Option (List Bind)) (env : List Bind) (c : Clause) → IfSome found (HasOwnNames cs params) → found ≡ Some env → c ≡ get_or cs 0 c → OneClause cs params env c
found_clause cs params found env c has is read = one_clause cs params env c (subst (λ o. IfSome o (HasOwnNames cs params)) is has) read
