-- Arguments that are given together.
use Rattle.std.proofs.Common.{◌≤◌, ◌+◌, List, [], ◌∷◌, arith, ℕ}
use Rattle.ef_base.specs.Texts.{Texts}
use Rattle.ef_core.specs.declared.env.Bind.{Bind}
use Rattle.ef_core.specs.declared.literal.CoreVar.{CoreVar}
use Rattle.ef_core.specs.declared.literal.FName.{FName}
use Rattle.ef_core.specs.Depth.{depth}
use Rattle.ef_core.specs.Everywhere.{Each}
use Rattle.ef_core.specs.LetForm.{IsSimple}
use Rattle.ef_core.specs.Lowered.{IsLowered, IsReadableBind}
use Rattle.ef_core.specs.Normal.{IsNoRun}
use Rattle.ef_core.specs.Plain as core
use Rattle.ef_core.specs.Scope.{AllInScope, InScope, IsAmong}
use Rattle.ef_core.specs.Tree as c
use Rattle.ef_core.specs.Tree.{CoreTree}
use Rattle.ef_meaning.specs.Cases.{together}
use Rattle.ef_lower.specs.Exports.{held_variables}
use Rattle.ef_lower.specs.Lowers.{IsArgument}
use Rattle.ef_lower.proofs.Forms.{arguments_depth, arguments_lowered, single, variable_lowered}

pub simple_no_run : (v : CoreTree) → IsSimple v → IsNoRun v
simple_no_run (c.var v) is = tt
simple_no_run (c.lit l) is = tt
simple_no_run e is = absurd is

module _ (texts : Texts) (levels : ℕ) where
  pub variables_arguments : (bs : List Bind) → 1 ≤ levels → Each (IsReadableBind texts) bs → Each (IsArgument texts levels) (held_variables bs)
  variables_arguments [] some all = tt
  variables_arguments (b ∷ bs) some all = (record { simple = tt; lowered = variable_lowered texts b.var all.0; shallow = omega arith }, variables_arguments bs some all.1)

  pub together_lowered : (vs : List CoreTree) → Each (IsArgument texts levels) vs → IsLowered texts (together vs)
  together_lowered [] all = ((tt, ((tt, (tt, tt)), (tt, tt, tt))), tt)
  together_lowered (v ∷ []) all = all.0.lowered
  together_lowered (v ∷ u ∷ vs) all = ((tt, ((tt, (single texts levels (v ∷ u ∷ vs) all, tt)), (tt, tt, tt))), arguments_lowered texts levels (v ∷ u ∷ vs) all)

  pub together_depth : (vs : List CoreTree) → Each (IsArgument texts levels) vs → depth (together vs) ≤ 1 + levels
  together_depth [] all = omega arith
  together_depth (v ∷ []) all = let one : depth v ≤ levels = all.0.shallow in omega arith
  together_depth (v ∷ u ∷ vs) all = let deep = arguments_depth texts levels (v ∷ u ∷ vs) all in omega arith

  pub together_no_run : (vs : List CoreTree) → Each (IsArgument texts levels) vs → IsNoRun (together vs)
  together_no_run [] all = tt
  together_no_run (v ∷ []) all = simple_no_run v all.0.simple
  together_no_run (v ∷ u ∷ vs) all = tt

pub together_in_scope : (xs : List CoreVar) (fs : List FName) (vs : List CoreTree) → AllInScope xs fs (core.trees vs) → InScope xs fs (together vs)
together_in_scope xs fs [] is = tt
together_in_scope xs fs (v ∷ []) is = is.0
together_in_scope xs fs (v ∷ u ∷ vs) is = is

pub variables_in_scope : (xs : List CoreVar) (fs : List FName) (bs : List Bind) → Each (λ b. IsAmong xs b.var) bs → AllInScope xs fs (core.trees (held_variables bs))
variables_in_scope xs fs [] all = tt
variables_in_scope xs fs (b ∷ bs) all = (all.0, variables_in_scope xs fs bs all.1)
