-- Sets of faults that are put together, and lists without any.
use Rattle.std.proofs.Common.{◌≡◌, ◌≢◌, Bool, true, false, List, [], ◌∷◌, ◌++◌, length, refl, sym, ap, ◌∙◌, append-nil, append_assoc, arith}
use Rattle.std.specs.Prelude.{◌==◌}
use Rattle.std.proofs.lemmas.Bool.{eqb-true}
use Rattle.std.specs.BTreeSet.{insert_key}
use Rattle.std.specs.Ordering.{match_ordering}
use Rattle.std.specs.declared.cmp.Ordering.TheVariants.{Less, Equal, Greater}
use Rattle.ef_base.specs.declared.fault.Fault.{Fault}
use Rattle.ef_base.specs.Faults.{set_of, insert_fault}
use Rattle.ef_base.specs.Order.{fault_cmp}
use Rattle.ef_base.proofs.FaultLaws.{set_of-push, set_of-append}

pub no_fault : (f : Fault) (fs : List Fault) → f ∷ fs ≡ [] → ⊥
no_fault f fs e = cc

inserted : (f : Fault) (fs : List Fault) → insert_fault f fs ≡ [] → ⊥
inserted f [] e = cc
inserted f (g ∷ gs) e =
    elim (fault_cmp f g) as (λ o. match_ordering o (f ∷ g ∷ gs) (g ∷ gs) (g ∷ insert_key fault_cmp gs f) ≡ [] → ⊥) [ Less ↦ λ is. cc | Equal ↦ λ is. cc | Greater ↦ λ is. cc ] e

pub none_in_set : (fs : List Fault) → set_of fs ≡ [] → fs ≡ []
none_in_set [] e = refl
none_in_set (f ∷ fs) e = absurd (inserted f (set_of fs) e)

pub first_none : (fs gs : List Fault) → fs ++ gs ≡ [] → fs ≡ []
first_none [] gs e = refl
first_none (f ∷ fs) gs e = absurd (no_fault f (fs ++ gs) e)

pub second_none : (fs gs : List Fault) → fs ++ gs ≡ [] → gs ≡ []
second_none [] gs e = e
second_none (f ∷ fs) gs e = absurd (no_fault f (fs ++ gs) e)

pub some_written : (found written : List Fault) → found ≡ set_of written → found ≢ [] → written ≢ []
some_written found written is some none = some (is ∙ ap set_of none)

pub none_written : (found written : List Fault) → found ≡ set_of written → found ≡ [] → written ≡ []
none_written found written is none = none_in_set written (sym is ∙ none)

-- what the length tells
pub is_none : (fs : List Fault) (b : Bool) → b ≡ (length fs == 0) → b ≡ true → fs ≡ []
is_none [] b is sure = refl
is_none (f ∷ fs) b is sure = let none : length (f ∷ fs) ≡ 0 = eqb-true (length (f ∷ fs)) 0 (sym is ∙ sure) in absurd (omega (arith, none))

pub is_some : (fs : List Fault) (b : Bool) → b ≡ (length fs == 0) → b ≡ false → fs ≢ []
is_some [] b is sure none = let bad : false ≡ true = sym sure ∙ is in cc
is_some (f ∷ fs) b is sure none = no_fault f fs none

set_left : (a b c : List Fault) → set_of a ≡ set_of b → set_of (a ++ c) ≡ set_of (b ++ c)
set_left a b [] e = ap set_of (append-nil a) ∙ e ∙ ap set_of (sym (append-nil b))
set_left a b (f ∷ c) e =
    ap set_of (sym (append_assoc a (f ∷ []) c))
    ∙ set_left (a ++ f ∷ []) (b ++ f ∷ []) c (sym (set_of-push a f) ∙ ap (insert_fault f) e ∙ set_of-push b f)
    ∙ ap set_of (append_assoc b (f ∷ []) c)

-- sets put together are those of the lists
pub set_both : (a b c d : List Fault) → set_of a ≡ set_of b → set_of c ≡ set_of d → set_of (a ++ c) ≡ set_of (b ++ d)
set_both a b c d left right = set_left a b c left ∙ sym (set_of-append b c) ∙ ap (λ s. set_of (b ++ s)) right ∙ set_of-append b d
