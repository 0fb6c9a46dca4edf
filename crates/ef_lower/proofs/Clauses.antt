-- Clauses that a text can say, and the case of them.
use Rattle.std.proofs.Common.{◌≤◌, ◌+◌, ◌*◌, ℕ, max, List, [], ◌∷◌, ◌++◌, arith}
use Rattle.ef_base.specs.Texts.{Texts}
use Rattle.ef_core.specs.declared.env.Bind.{Bind}
use Rattle.ef_core.specs.declared.literal.CoreVar.{CoreVar}
use Rattle.ef_core.specs.declared.literal.FName.{FName}
use Rattle.ef_core.specs.Conditions.{NoneTwice, VariablesDiffer}
use Rattle.ef_core.specs.Depth as deep
use Rattle.ef_core.specs.Depth.{depth, pats_depth}
use Rattle.ef_core.specs.Everywhere.{ClausesHold, Each, PatsHold}
use Rattle.ef_core.specs.Lowered.{IsLowered, lowered}
use Rattle.ef_core.specs.Plain.{ClauseTree, clauses}
use Rattle.ef_core.specs.Scope.{ClausesInScope, InScope, SizesInScope, pats_vars}
use Rattle.ef_core.specs.Tree as c
use Rattle.ef_core.specs.Tree.{CoreTree}
use Rattle.ef_core.specs.WellFormed.{AreSomeClauses}
use Rattle.ef_forms.specs.declared.tables.FunctionName.{FunctionName}
use Rattle.ef_lower.specs.Scope.{HasFunctions, HasVariables}
use Rattle.ef_lower.proofs.Forms.{each_both}
use Rattle.ef_lowpat.specs.Budgets.{depth_per_level}

-- a clause that stands behind an environment, no deeper than the levels of the source allow
pub record IsLoweredClause (texts : Texts) (defined : List FunctionName) (env : List Bind) (levels : ℕ) (made : ClauseTree) : Type 0 where
  pub distinct : NoneTwice (pats_vars made.pats)
  pub pats : PatsHold (lowered texts) made.pats
  pub guard : IsLowered texts made.guard
  pub body : IsLowered texts made.body
  pub in_scope : (vs : List CoreVar) (fs : List FName) → HasVariables env vs → HasFunctions texts defined fs
      → SizesInScope vs fs made.pats × InScope (pats_vars made.pats ++ vs) fs made.guard × InScope (pats_vars made.pats ++ vs) fs made.body
  pub shallow : max (pats_depth made.pats) (max (depth made.guard) (depth made.body)) + 1 ≤ depth_per_level * levels

module _ (texts : Texts) (defined : List FunctionName) (env : List Bind) (levels : ℕ) where
  clauses_hold : (ms : List ClauseTree) → Each (IsLoweredClause texts defined env levels) ms → ClausesHold (lowered texts) (clauses ms)
  clauses_hold [] all = tt
  clauses_hold (m ∷ ms) all = (all.0.pats, all.0.guard, all.0.body, clauses_hold ms all.1)

  clauses_differ : (e : CoreTree) (ms : List ClauseTree) → Each (IsLoweredClause texts defined env levels) ms → VariablesDiffer (c.case_of e (clauses ms))
  clauses_differ e [] all = tt
  clauses_differ e (m ∷ ms) all = (all.0.distinct, clauses_differ e ms all.1)

  clauses_in_scope : (vs : List CoreVar) (fs : List FName) (ms : List ClauseTree) → HasVariables env vs → HasFunctions texts defined fs → Each (IsLoweredClause texts defined env levels) ms → ClausesInScope vs fs (clauses ms)
  clauses_in_scope vs fs [] variables functions all = tt
  clauses_in_scope vs fs (m ∷ ms) variables functions all =
      let one = all.0.in_scope vs fs variables functions in (one.0, one.1, one.2, clauses_in_scope vs fs ms variables functions all.1)

  clauses_shallow : (ms : List ClauseTree) → 1 ≤ levels → Each (IsLoweredClause texts defined env levels) ms → deep.clauses_depth (clauses ms) + 1 ≤ depth_per_level * levels
  clauses_shallow [] some all = omega arith
  clauses_shallow (m ∷ ms) some all = let here = all.0.shallow in let rest = clauses_shallow ms some all.1 in omega arith

  some_clauses : (ms : List ClauseTree) (last : ClauseTree) → AreSomeClauses (clauses (ms ++ last ∷ []))
  some_clauses [] last = tt
  some_clauses (m ∷ ms) last = tt

  -- ---- the case

  module _ (x : CoreTree) (ms : List ClauseTree) (last : ClauseTree) (are : Each (IsLoweredClause texts defined env levels) ms) (is : IsLoweredClause texts defined env levels last) where
    every : Each (IsLoweredClause texts defined env levels) (ms ++ last ∷ [])
    every = each_both (IsLoweredClause texts defined env levels) ms (last ∷ []) are (is, tt)

    pub case_lowered : IsLowered texts x → IsLowered texts (c.case_of x (clauses (ms ++ last ∷ [])))
    case_lowered argument = (
      (tt, ((tt, (some_clauses ms last, tt)), (clauses_differ x (ms ++ last ∷ []) every, tt, tt))),
      argument,
      clauses_hold (ms ++ last ∷ []) every,
    )

    pub case_in_scope : (vs : List CoreVar) (fs : List FName) → HasVariables env vs → HasFunctions texts defined fs → InScope vs fs x → InScope vs fs (c.case_of x (clauses (ms ++ last ∷ [])))
    case_in_scope vs fs variables functions argument = (argument, clauses_in_scope vs fs (ms ++ last ∷ []) variables functions every)

    pub case_shallow : 1 ≤ levels → depth x ≤ depth_per_level * levels → depth (c.case_of x (clauses (ms ++ last ∷ []))) ≤ 1 + depth_per_level * levels
    case_shallow some argument = let all = clauses_shallow (ms ++ last ∷ []) some every in omega arith
