-- The sides of tests, as tuples.
use Rattle.std.proofs.Common.{◌≡◌, List, [], ◌∷◌, map, Vec, Box, refl, ap, ◌∙◌}
use Rattle.ef_core.specs.declared.literal.CoreVar.{CoreVar}
use Rattle.ef_core.specs.declared.lowered.Test.{Test}
use Rattle.ef_core.specs.declared.tree.CoreExpr.{CoreExpr}
use Rattle.std.specs.declared.alloc.Global.{Global}
use Rattle.ef_core.specs.declared.tree.CoreExpr.TheVariants as made
use Rattle.ef_core.specs.declared.tree.LetStep.{LetStep}
use Rattle.ef_core.specs.Laws.{plain_lets, plain_var}
use Rattle.ef_core.specs.Plain.{plain, plain_all, plain_step, plain_steps, steps, trees}
use Rattle.ef_core.specs.Tree.{done, lets, step, tuple, var}
use Rattle.ef_lowpat.specs.Guards.{behind_sides, lefts, rights}

as_trees : (f : Test → CoreVar) (tests : List Test) → map plain (map (λ t. made.Var (f t)) tests) ≡ map (λ t. var (f t)) tests
as_trees f [] = refl
as_trees f (t ∷ ts) = λ i. plain_var (f t) i ∷ as_trees f ts i

pub sides_are : (tests : List Test) (left right : CoreVar) (ss : List LetStep) (first second : LetStep) (ls rs : List CoreExpr) → ss ≡ first ∷ second ∷ []
    → plain_step first ≡ record { vars = left ∷ []; value = tuple (plain_all ls) } → plain_step second ≡ record { vars = right ∷ []; value = tuple (plain_all rs) }
    → ls ≡ map (λ t. made.Var t.left) tests → rs ≡ map (λ t. made.Var t.right) tests → plain_steps ss ≡ step (left ∷ []) (tuple (lefts tests)) (step (right ∷ []) (tuple (rights tests)) done)
sides_are tests left right ss first second ls rs items one two from_left from_right =
    ap plain_steps items
    ∙ (λ i. steps (one i ∷ two i ∷ []))
    ∙ (λ i. step (left ∷ []) (tuple (trees ((ap (map plain) from_left ∙ as_trees (λ t. t.left) tests) i))) (step (right ∷ []) (tuple (trees ((ap (map plain) from_right ∙ as_trees (λ t. t.right) tests) i))) done))

pub behind_sides_is : (tests : List Test) (left right : CoreVar) (ss : Vec LetStep Global) (b : Box CoreExpr Global) (body : CoreExpr)
    → plain_steps ss.items ≡ step (left ∷ []) (tuple (lefts tests)) (step (right ∷ []) (tuple (rights tests)) done) → b.value ≡ body → plain (made.Lets ss b) ≡ behind_sides tests left right (plain body)
behind_sides_is tests left right ss b body sides boxed = plain_lets ss b ∙ (λ i. lets (sides i) (plain (boxed i)))
