-- Variables from a number on.
use Rattle.std.proofs.Common.{◌≡◌, ◌≤◌, ◌+◌, ◌^◌, ℕ, zero, suc, inl, inr, List, [], ◌∷◌, ◌++◌, length, refl, sym, ap, ◌∙◌, arith, add-one}
use Rattle.ef_base.specs.Texts.{Texts}
use Rattle.ef_core.specs.declared.literal.CoreVar.{CoreVar}
use Rattle.ef_core.specs.declared.literal.CoreVar.TheVariants.{Numbered}
use Rattle.ef_core.specs.Conditions.{NoneTwice}
use Rattle.ef_core.specs.Everywhere.{Each}
use Rattle.ef_core.specs.Fresh.{variables_from}
use Rattle.ef_core.specs.Readable.{readable}
use Rattle.ef_core.specs.Scope.{IsAmong}
use Rattle.ef_meaning.specs.Lowers.{IsBelow}

variables_push : (n k : ℕ) → variables_from n k ++ Numbered (n + k) ∷ [] ≡ variables_from n (suc k)
variables_push n zero = ap (λ m. Numbered m ∷ []) (let same : n + 0 ≡ n = omega arith in same)
variables_push n (suc k) =
    ap (λ m. Numbered n ∷ (variables_from (n + 1) k ++ Numbered m ∷ [])) (let same : n + suc k ≡ n + 1 + k = omega arith in same)
    ∙ ap (λ vs. Numbered n ∷ vs) (variables_push (n + 1) k)

-- one more
pub one_more_variable : (vs new : List CoreVar) (v : CoreVar) (n k : ℕ) → new ≡ vs ++ v ∷ [] → vs ≡ variables_from n k → v ≡ Numbered (n + k) → new ≡ variables_from n (k + 1)
one_more_variable vs new v n k pushed are is =
    pushed ∙ (λ i. are i ++ is i ∷ []) ∙ variables_push n k ∙ ap (variables_from n) (sym (add-one k))

-- the numbers are in range
pub numbered_readable : (texts : Texts) (n k : ℕ) → n + k ≤ 2 ^ 32 → Each (readable texts).variable (variables_from n k)
numbered_readable texts n zero few = tt
numbered_readable texts n (suc k) few = ((tt, (omega arith, tt)), numbered_readable texts (n + 1) k (omega arith))

pub numbered_below : (m n k : ℕ) → n + k ≤ m → Each (IsBelow m) (variables_from n k)
numbered_below m n zero few = tt
numbered_below m n (suc k) few = (omega arith, numbered_below m (n + 1) k (omega arith))

same_number : (n m : ℕ) → Numbered n ≡ Numbered m → n ≡ m
same_number n m same = cc

no_less : (n k m : ℕ) → IsAmong (variables_from n k) (Numbered m) → n ≤ m
no_less n zero m is = absurd is
no_less n (suc k) m (inl same) = let number = same_number m n same in omega arith
no_less n (suc k) m (inr is) = let rest = no_less (n + 1) k m is in omega arith

pub numbered_differ : (n k : ℕ) → NoneTwice (variables_from n k)
numbered_differ n zero = tt
numbered_differ n (suc k) = ((λ is. let rest = no_less (n + 1) k n is in omega arith), numbered_differ (n + 1) k)

pub numbered_count : (n k : ℕ) → length (variables_from n k) ≡ k
numbered_count n zero = refl
numbered_count n (suc k) = let rest = numbered_count (n + 1) k in omega arith
