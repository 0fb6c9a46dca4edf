-- The values on the stack from the last one downwards.
use Rattle.std.proofs.Common.{◌≡◌, ◌<◌, ℕ, suc, Bool, true, false, List, [], ◌∷◌, refl, ap, ◌∙◌, take, get_or, length, Option, Some, None}
use Rattle.std.proofs.Math.Seq.{take-suc}
use Rattle.ef_build.specs.declared.value.Value.{Value as TheValue}
use Rattle.ef_build.specs.Expressions.{at_catch, tells}
use Rattle.ef_build.specs.Values.{Value, value, stack, at, operator, leaf, operand, items, guard, clauses, mark, caught, catches, open_segment, segments, qualifiers, steps, fields, definitions, references, form}
use Rattle.ef_build.proofs.Tops.{stack_more}

abbrev pub told : Option Bool → Bool → Bool
told None b = b
told (Some a) b = a

pub at_catch_is : (v : Value) (vs : List Value) → at_catch (v ∷ vs) ≡ told (tells v) (at_catch vs)
at_catch_is (at p) vs = refl
at_catch_is (operator o p) vs = refl
at_catch_is (leaf l p) vs = refl
at_catch_is (operand x) vs = refl
at_catch_is (items x) vs = refl
at_catch_is (guard x) vs = refl
at_catch_is (clauses x) vs = refl
at_catch_is (mark x) vs = refl
at_catch_is (caught x) vs = refl
at_catch_is (catches x) vs = refl
at_catch_is (open_segment x) vs = refl
at_catch_is (segments x) vs = refl
at_catch_is (qualifiers x) vs = refl
at_catch_is (steps x) vs = refl
at_catch_is (fields x) vs = refl
at_catch_is (definitions x) vs = refl
at_catch_is (references x) vs = refl
at_catch_is (form x) vs = refl

-- one value more
pub stack_taken : (vs : List TheValue) (k : ℕ) (d : TheValue) → k < length vs → stack (take (suc k) vs) ≡ value (get_or vs k d) ∷ stack (take k vs)
stack_taken vs k d within = ap stack (take-suc vs k d within) ∙ stack_more (take k vs) (get_or vs k d)

pub below : (vs : List TheValue) (k : ℕ) (d : TheValue) → k < length vs → at_catch (stack (take (suc k) vs)) ≡ told (tells (value (get_or vs k d))) (at_catch (stack (take k vs)))
below vs k d within = ap at_catch (stack_taken vs k d within) ∙ at_catch_is (value (get_or vs k d)) (stack (take k vs))
