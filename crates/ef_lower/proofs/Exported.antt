-- Bodies that give the values of names beside their own.
use Rattle.std.proofs.Common.{◌≡◌, ℕ, List, [], ◌∷◌, map, refl, ap, subst}
use Rattle.ef_base.specs.Texts.{Texts}
use Rattle.ef_core.specs.declared.env.Bind.{Bind}
use Rattle.ef_core.specs.declared.literal.CoreVar.{CoreVar}
use Rattle.ef_core.specs.Plain.{StepTree}
use Rattle.ef_core.specs.Tree.{CoreTree, var}
use Rattle.ef_forms.specs.Tree.{Tree}
use Rattle.ef_meaning.specs.Cases.{AreHeld, HoldsNames, names_of, together, variables}
use Rattle.ef_meaning.specs.Lowers.{KeepsBody, KeepsLast, finished}
use Rattle.ef_meaning.proofs.Bodies.{body_exports}
use Rattle.ef_lower.specs.Exports.{held_variables}

abbrev vars_of : List Bind → List CoreVar
vars_of bs = map (λ (b : Bind). b.var) bs

same_variables : (bs : List Bind) → variables (vars_of bs) ≡ held_variables bs
same_variables [] = refl
same_variables (b ∷ bs) = ap (λ l. var b.var ∷ l) (same_variables bs)

holds_names : (env bs : List Bind) → AreHeld env bs → HoldsNames env (names_of bs) (vars_of bs)
holds_names env [] are = tt
holds_names env (b ∷ bs) are = (are.0, holds_names env bs are.1)

-- the names are in the order of their variables
pub named_keeps : (now : Texts) (es : List Tree) (n0 : ℕ) (env0 : List Bind) (added : List StepTree) (n1 : ℕ) (env1 : List Bind) (value : CoreTree) → KeepsLast now es n0 env0 added n1 env1 value →
    (binds : List Bind) → AreHeld env1 binds → KeepsBody now es env0 (names_of binds) (finished added (together (value ∷ held_variables binds)))
named_keeps now es n0 env0 added n1 env1 value k binds are =
    subst (λ l. KeepsBody now es env0 (names_of binds) (finished added (together (value ∷ l)))) (same_variables binds)
    (body_exports now es n0 env0 added n1 env1 value k (names_of binds) (vars_of binds) (holds_names env1 binds are))
