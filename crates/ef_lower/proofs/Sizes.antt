-- Weights, depths and names of trees one behind another.
use Rattle.std.proofs.Common.{◌≡◌, ◌≤◌, ◌+◌, ℕ, Bool, true, false, ◌||◌, ◌==◌, List, [], ◌∷◌, ◌++◌, max, map, length, refl, sym, ap, ◌∙◌, arith}
use Rattle.ef_core.specs.declared.env.Bind.{Bind}
use Rattle.ef_forms.specs.Depth.{all_depth}
use Rattle.ef_forms.specs.Plain.{trees}
use Rattle.ef_forms.specs.Sure.{all_sure, sure}
use Rattle.ef_forms.specs.Tree.{Tree, tree, any, count}
use Rattle.ef_forms.specs.Weight.{all_weight, weight}
use Rattle.ef_meaning.specs.Named.{bound_names}

pub some_weight : (e : Tree) → 1 ≤ weight e
some_weight (tree p any) = omega arith
some_weight (tree p _) = omega arith

pub weight_both : (es ds : List Tree) → all_weight (trees (es ++ ds)) ≡ all_weight (trees es) + all_weight (trees ds)
weight_both [] ds = omega arith
weight_both (e ∷ es) ds = let rest = weight_both es ds in omega arith

pub depth_both : (es ds : List Tree) → all_depth (trees (es ++ ds)) ≡ max (all_depth (trees es)) (all_depth (trees ds))
depth_both [] ds = omega arith
depth_both (e ∷ es) ds = let rest = depth_both es ds in omega arith

pub counted : (es : List Tree) → count (trees es) ≡ length es
counted [] = refl
counted (e ∷ es) = let rest = counted es in omega arith

pub mapped_count : {A B : Type 0} (f : A → B) (xs : List A) → length (map f xs) ≡ length xs
mapped_count f [] = refl
mapped_count f (x ∷ xs) = let rest = mapped_count f xs in omega arith

-- ---- names

pub or_assoc : (a b c : Bool) → (a || b || c) ≡ (a || (b || c))
or_assoc true b c = refl
or_assoc false b c = refl

pub or_false : (a : Bool) → (a || false) ≡ a
or_false true = refl
or_false false = refl

-- what holds already
pub or_absorb : (a b : Bool) → (b ≡ true → a ≡ true) → a ≡ (a || b)
or_absorb true b h = refl
or_absorb false true h = h refl
or_absorb false false h = refl

pub sure_both : (es ds : List Tree) (y : ℕ) → all_sure (trees (es ++ ds)) y ≡ (all_sure (trees es) y || all_sure (trees ds) y)
sure_both [] ds y = refl
sure_both (e ∷ es) ds y = ap (λ b. sure e y || b) (sure_both es ds y) ∙ sym (or_assoc (sure e y) (all_sure (trees es) y) (all_sure (trees ds) y))

pub bound_both : (xs ys : List Bind) (y : ℕ) → bound_names (xs ++ ys) y ≡ (bound_names xs y || bound_names ys y)
bound_both [] ys y = refl
bound_both (x ∷ xs) ys y = ap (λ b. (x.name.index == y) || b) (bound_both xs ys y) ∙ sym (or_assoc (x.name.index == y) (bound_names xs y) (bound_names ys y))
