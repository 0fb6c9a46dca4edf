-- Marks of names.
use Rattle.std.proofs.Common.{◌≡◌, ℕ, Bool, true, false, List, [], refl, ap, ◌∙◌, cond, nat_eq, arith, Some, Option}
use Rattle.std.specs.Prelude.{◌==◌, if◌then◌else◌}
use Rattle.std.specs.Map.{lookup}
use Rattle.std.specs.Option.{unwrap_or}
use Rattle.std.proofs.lemmas.Bool.Decides.{nat_tests}
use Rattle.ef_scope.specs.declared.marks.Mark.{Mark}
use Rattle.ef_scope.specs.declared.marks.Mark.TheVariants.{Unbound}
use Rattle.ef_scope.specs.Marks.{mark_of}

same_test : (a b : ℕ) → nat_eq a b ≡ (a == b)
same_test a b = grind (arith, nat_tests)

pub mark_in_none : (m : ℕ) → mark_of [] m ≡ Unbound
unfolding mark_of
mark_in_none m = refl

pub mark_set : (old new : List (ℕ × Mark)) (name : ℕ) (mark : Mark) (m : ℕ) → lookup (nat_eq m) new ≡ cond (nat_eq name m) (Some mark) (lookup (nat_eq m) old)
    → mark_of new m ≡ (if name == m then mark else mark_of old m)
unfolding mark_of
mark_set old new name mark m is = ap (λ o. unwrap_or o Unbound) is ∙ by (nat_eq name m) (lookup (nat_eq m) old) ∙ ap (λ b. if b then mark else unwrap_or (lookup (nat_eq m) old) Unbound) (same_test name m)
  where
    by : (b : Bool) (o : Option Mark) → unwrap_or (cond b (Some mark) o) Unbound ≡ (if b then mark else unwrap_or o Unbound)
    by true o = refl
    by false o = refl
