-- What a match is lowered to.
use Rattle.std.specs.Prelude.{ℕ, ◌≡◌, ◌≤◌, ◌+◌, ◌*◌, ◌||◌, ◌⊎◌, List, [], ◌∷◌, ◌++◌, None, codes, length, min}
use Rattle.ef_base.specs.declared.name.Name.{Name}
use Rattle.ef_base.specs.declared.fault.Place.{Place}
use Rattle.ef_base.specs.Texts.{Texts, IsNameOf}
use Rattle.ef_core.specs.declared.env.Bind.{Bind}
use Rattle.ef_core.specs.declared.literal.CoreVar.{CoreVar}
use Rattle.ef_core.specs.declared.literal.CoreVar.TheVariants.{Numbered}
use Rattle.ef_core.specs.declared.literal.FName.{FName}
use Rattle.ef_core.specs.declared.lowered.Test.{Test}
use Rattle.ef_core.specs.Conditions.{NoneTwice}
use Rattle.ef_core.specs.Depth.{depth, pats_depth}
use Rattle.ef_core.specs.Env.{NamesDiffer, bind, held}
use Rattle.ef_core.specs.Everywhere.{Each, PatsHold}
use Rattle.ef_core.specs.Fresh.{DrawsAtMost, most_variables, variables_from}
use Rattle.ef_core.specs.Lowered.{IsLowered, IsReadableBind, lowered}
use Rattle.ef_core.specs.Plain.{ClauseTree, StepTree, clauses, lits, steps, trees}
use Rattle.ef_core.specs.Scope.{IsAmong, InScope, SizesInScope, pats_vars}
use Rattle.ef_core.specs.Tree as c
use Rattle.ef_core.specs.Tree.{CoreTree, PatTrees}
use Rattle.ef_forms.specs.Depth.{all_depth}
use Rattle.ef_forms.specs.Tree.{Tree, Trees, tree, any, var, end, more}
use Rattle.ef_forms.specs.Ways.{all_names}
use Rattle.ef_forms.specs.Weight.{all_weight}
use Rattle.ef_lowpat.specs.Budgets.{variables_per_pattern}
use Rattle.ef_meaning.specs.Cases.{last_clause, names_of, together, variables}
use Rattle.ef_meaning.specs.Lowers.{env_from, params_from}
use Rattle.ef_meaning.specs.Named.{bound_names}
use Rattle.ef_meaning.specs.Patterns.{IsGuard, KeepsPatterns}
use Rattle.ef_lowpat.specs.Guards.{HasTested}
use Rattle.ef_lowpat.specs.Lowers.{IsVariableOf}
use Rattle.ef_lower.specs.Exports.{held_variables}
use Rattle.ef_lower.specs.Lowers.{StandsFor}

-- ---- the front of a clause

-- a guard that says what the tests say
pub record IsGuardOf (texts : Texts) (tests : List Test) (e : CoreTree) : Type 0 where
  pub gives : IsGuard texts tests e
  pub lowered : IsLowered texts e
  pub in_scope : (vs : List CoreVar) (fs : List FName) → HasTested tests vs → InScope vs fs e
  pub shallow : depth e ≤ 3

-- Core patterns, tests and names of patterns
pub record IsPatternsOf (texts : Texts) (ps : Trees) (n : ℕ) (bound : List Bind) (made : PatTrees) (tests : List Test) (m : ℕ) (binds : List Bind) : Type 0 where
  pub matched : KeepsPatterns texts ps n bound made tests m binds
  pub distinct : NoneTwice (pats_vars made)
  pub binds_in_pattern : Each (λ b. IsAmong (pats_vars made) b.var) binds
  pub lefts_in_pattern : Each (λ t. IsAmong (pats_vars made) t.left) tests
  pub rights_known : Each (λ t. IsAmong (pats_vars made) t.right ⊎ IsVariableOf bound t.right) tests
  pub names_differ : NamesDiffer binds
  pub names_new : Each (λ b. held bound b.name ≡ None) binds
  pub names_all : (y : ℕ) → bound_names (bound ++ binds) y ≡ (bound_names bound y || all_names ps y)
  pub lowered : PatsHold (lowered texts) made
  pub readable_binds : Each (IsReadableBind texts) binds
  pub sizes : (vs : List CoreVar) (fs : List FName) → SizesInScope vs fs made
  pub shallow : pats_depth made ≤ all_depth ps
  pub drawn : DrawsAtMost (variables_per_pattern * all_weight ps) n m

-- the front of a clause: Core patterns, the guard of the tests beside them, and the names that they bind
pub record IsFrontOf (texts : Texts) (ps : Trees) (n : ℕ) (env : List Bind) (m : ℕ) (made : PatTrees) (guard : CoreTree) (binds : List Bind) : Type 0 where
  pub tests : List Test
  -- how many variables are drawn behind the patterns
  pub matched : ℕ
  pub is_pattern : IsPatternsOf texts ps n env made tests matched binds
  pub is_guard : IsGuardOf texts tests guard
  pub guard_drawn : DrawsAtMost 2 matched m

-- the clause of a front, which gives the values of the names
abbrev pub match_clause : PatTrees → CoreTree → List Bind → ClauseTree
match_clause made guard binds = record { pats = made; guard = guard; body = together (held_variables binds) }

-- ---- the clause for all other values

-- an error whose reason is the tuple of a word and the values of variables: a literal, or what a step puts into a variable
abbrev pub failing : Name → Name → List CoreVar → CoreVar → CoreTree
failing match_fail why [] y = c.primop match_fail (trees (c.lit (c.lit_tuple (lits (c.atom why ∷ []))) ∷ []))
failing match_fail why (z ∷ zs) y =
    c.lets (steps (record { vars = y ∷ []; value = c.tuple (trees (c.lit (c.atom why) ∷ variables (z ∷ zs))) } ∷ [])) (c.primop match_fail (trees (c.var y ∷ [])))

pub record FailsWith (texts : Texts) (word : List ℕ) (zs : List CoreVar) (y : CoreVar) (e : CoreTree) : Type 0 where
  pub match_fail : Name
  pub why : Name
  pub match_fail_text : IsNameOf texts match_fail (codes "match_fail")
  pub why_text : IsNameOf texts why word
  pub is : e ≡ failing match_fail why zs y

-- a clause for so many values, whatever they are, which raises an error with this word and the values
pub record IsLastClause (texts : Texts) (word : List ℕ) (count n m : ℕ) (last : ClauseTree) : Type 0 where
  pub always : CoreTree
  pub fails : CoreTree
  -- the first of its variables; where there are any, one more holds the reason
  pub z : ℕ
  pub drawn : n ≤ z
  pub enough : m ≤ n + count + 3
  pub next : m ≡ z + count + min count 1
  pub is_guard : IsGuardOf texts [] always
  pub is_error : FailsWith texts word (variables_from z count) (Numbered (z + count)) fails
  pub is : last ≡ last_clause always (variables_from z count) fails

-- ---- the step of a match

-- a step that matches a variable; the step's own variables hold what the names are bound to
pub record IsMatchStep (texts : Texts) (p : Tree) (x : CoreVar) (n : ℕ) (env : List Bind) (m : ℕ) (env1 : List Bind) (s : StepTree) : Type 0 where
  pub made : PatTrees
  pub tests : List Test
  pub binds : List Bind
  pub guard : CoreTree
  pub last : ClauseTree
  -- how many variables are drawn behind the pattern, the guard and the last clause
  pub matched : ℕ
  pub guarded : ℕ
  pub first : ℕ
  pub is_pattern : IsPatternsOf texts (more p end) n env made tests matched binds
  pub is_guard : IsGuardOf texts tests guard
  pub guard_drawn : DrawsAtMost 2 matched guarded
  pub is_last : IsLastClause texts (codes "badmatch") 1 guarded first last
  pub drawn : m ≡ first + length binds
  pub in_range : m ≤ most_variables
  pub bound : env1 ≡ env ++ env_from first (names_of binds)
  pub is : s ≡ record { vars = params_from first (names_of binds); value = c.case_of (c.var x) (clauses (record { pats = made; guard = guard; body = together (held_variables binds) } ∷ last ∷ [])) }

-- ---- the match, behind its value

-- `_` matches every value
pub record MatchesAny (p : Tree) (value : CoreTree) (n : ℕ) (env : List Bind) (old : List StepTree) (m : ℕ) (env1 : List Bind) (new : List StepTree) (e : CoreTree) : Type 0 where
  pub place : Place
  pub is : p ≡ tree place any
  pub drawn : m ≡ n
  pub bound : env1 ≡ env
  pub steps : new ≡ old
  pub same : e ≡ value

-- a name that is not bound yet: the variable of the value is its variable
pub record MatchesNew (p : Tree) (value : CoreTree) (n : ℕ) (env : List Bind) (old : List StepTree) (m : ℕ) (env1 : List Bind) (new : List StepTree) (e : CoreTree) : Type 0 where
  pub place : Place
  pub name : Name
  pub y : CoreVar
  pub is : p ≡ tree place (var name)
  pub free : held env name ≡ None
  pub stands : StandsFor value n old m new (c.var y)
  pub bound : env1 ≡ env ++ bind name y ∷ []
  pub same : e ≡ c.var y

-- any other pattern: a step matches the variable of the value
pub record MatchesByCase (texts : Texts) (p : Tree) (value : CoreTree) (n : ℕ) (env : List Bind) (old : List StepTree) (m : ℕ) (env1 : List Bind) (new : List StepTree) (e : CoreTree) : Type 0 where
  pub x : CoreVar
  pub mid : ℕ
  pub before : List StepTree
  pub step : StepTree
  pub stands : StandsFor value n old mid before (c.var x)
  pub is_match : IsMatchStep texts p x mid env m env1 step
  pub steps : new ≡ before ++ step ∷ []
  pub same : e ≡ c.var x

abbrev pub Matches : Texts → Tree → CoreTree → ℕ → List Bind → List StepTree → ℕ → List Bind → List StepTree → CoreTree → Type 0
Matches texts p value n env old m env1 new e = MatchesAny p value n env old m env1 new e ⊎ (MatchesNew p value n env old m env1 new e ⊎ MatchesByCase texts p value n env old m env1 new e)
