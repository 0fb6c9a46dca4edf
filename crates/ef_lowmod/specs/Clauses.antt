-- Clauses that can be lowered, and what they are lowered to.
use Rattle.std.specs.Prelude.{ℕ, ◌+◌, ◌*◌, ◌≡◌, ◌≤◌, max, List, [], ◌∷◌, ◌++◌, length, map}
use Rattle.ef_base.specs.Texts.{Texts}
use Rattle.ef_core.specs.declared.env.Bind.{Bind}
use Rattle.ef_core.specs.declared.literal.CoreVar.{CoreVar}
use Rattle.ef_core.specs.declared.literal.FName.{FName}
use Rattle.ef_core.specs.declared.lowered.Test.{Test}
use Rattle.ef_core.specs.Conditions.{NoneTwice}
use Rattle.ef_core.specs.Depth.{depth, pats_depth}
use Rattle.ef_core.specs.Everywhere.{PatsHold}
use Rattle.ef_core.specs.Lowered.{IsLowered, lowered}
use Rattle.ef_core.specs.Plain.{ClauseTree}
use Rattle.ef_core.specs.Scope.{InScope, SizesInScope, pats_vars}
use Rattle.ef_core.specs.Tree.{CoreTree}
use Rattle.ef_forms.specs.declared.expr.Clause.{Clause, out-Clause}
use Rattle.ef_forms.specs.declared.tables.FunctionName.{FunctionName}
use Rattle.ef_forms.specs.Built.{AreBuilt, AreBuiltClauses, AreNarrow, AreNarrowClauses, ArePatterns}
use Rattle.ef_forms.specs.Depth.{all_depth, clauses_depth}
use Rattle.ef_forms.specs.OfTable.{ClausesOf, TreesOf}
use Rattle.ef_forms.specs.Plain.{plain, plain_all, plain_guard}
use Rattle.ef_forms.specs.Tree.{Clauses, no_guard}
use Rattle.ef_forms.specs.Ways.{all_names, body_faults, clauses_faults, no_names}
use Rattle.ef_lower.specs.Scope.{HasFunctions}
use Rattle.ef_lowpat.specs.Budgets.{depth_per_level}
use Rattle.ef_meaning.specs.Lowers.{KeepsBody, KeepsFunction}
use Rattle.ef_meaning.specs.Patterns.{IsGuard, KeepsPatterns}
use Rattle.ef_meaning.specs.Source.{by_clauses}

-- clauses of so many patterns
pub record AreReadyClauses (all : Texts) (defined : List FunctionName) (arity : ℕ) (cs : Clauses) : Type 0 where
  pub built : AreBuiltClauses all defined arity cs
  pub narrow : AreNarrowClauses cs
  pub of_table : ClausesOf all cs
  pub no_fault : clauses_faults all cs (no_names ∷ []) ≡ []

-- the same of one clause
pub record IsReadyClause (all : Texts) (defined : List FunctionName) (c : Clause) : Type 0 where
  pub unguarded : plain_guard (out-Clause c).guard.items ≡ no_guard
  pub patterns : ArePatterns (plain_all (out-Clause c).patterns.items)
  pub named : TreesOf all (plain_all (out-Clause c).patterns.items)
  pub some : 1 ≤ length (out-Clause c).body.items
  pub built : AreBuilt all defined (plain_all (out-Clause c).body.items)
  pub narrow : AreNarrow (plain_all (out-Clause c).body.items)
  pub of_table : TreesOf all (plain_all (out-Clause c).body.items)
  pub no_fault : body_faults all (plain_all (out-Clause c).body.items) (all_names (plain_all (out-Clause c).patterns.items) ∷ []) ≡ []

-- ---- the clauses of a case

-- a Core clause that keeps a clause, and such that a text can say it
pub record IsLoweredClause (all : Texts) (defined : List FunctionName) (c : Clause) (made : ClauseTree) : Type 0 where
  pub tests : List Test
  pub binds : List Bind
  pub first : ℕ
  pub last : ℕ
  pub unguarded : plain_guard (out-Clause c).guard.items ≡ no_guard
  pub matched : KeepsPatterns all (plain_all (out-Clause c).patterns.items) first [] made.pats tests last binds
  pub tested : IsGuard all tests made.guard
  pub followed : KeepsBody all (map plain (out-Clause c).body.items) binds [] made.body
  --
  pub distinct : NoneTwice (pats_vars made.pats)
  pub pats : PatsHold (lowered all) made.pats
  pub guard : IsLowered all made.guard
  pub body : IsLowered all made.body
  pub in_scope : (vs : List CoreVar) (fs : List FName) → HasFunctions all defined fs
      → SizesInScope vs fs made.pats × InScope (pats_vars made.pats ++ vs) fs made.guard × InScope (pats_vars made.pats ++ vs) fs made.body
  pub shallow : max (pats_depth made.pats) (max (depth made.guard) (depth made.body)) + 1 ≤ depth_per_level * max (all_depth (plain_all (out-Clause c).patterns.items)) (all_depth (plain_all (out-Clause c).body.items))

abbrev pub AreLoweredClauses : Texts → List FunctionName → List Clause → List ClauseTree → Type 0
AreLoweredClauses all defined [] [] = Unit {0}
AreLoweredClauses all defined (c ∷ cs) (m ∷ ms) = IsLoweredClause all defined c m × AreLoweredClauses all defined cs ms
AreLoweredClauses all defined _ _ = ⊥

-- ---- the body of a function

-- behind its parameters it keeps the clauses, and a text can say it, no deeper than the levels of the source allow
pub record IsLoweredBody (all : Texts) (defined : List FunctionName) (cs : Clauses) (params : List CoreVar) (body : CoreTree) : Type 0 where
  pub keeps : KeepsFunction all (by_clauses cs []) params body
  pub lowered : IsLowered all body
  pub in_scope : (fs : List FName) → HasFunctions all defined fs → InScope params fs body
  pub shallow : depth body ≤ depth_per_level * clauses_depth cs
