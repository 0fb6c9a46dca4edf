-- What a loop that takes a list from the front adds.
use Rattle.std.proofs.Common.{◌≡◌, ℕ, suc, ◌-◌, cond, drop-cons, ◌≤◌, ◌<◌, Bool, List, [], ◌∷◌, length, get_or, drop, slice_range, map, refl, true, false, arith, ap, ◌∙◌, subst, sym, Option}
use Rattle.std.specs.Prelude.{◌||◌, ◌&&◌}
use Rattle.std.proofs.lemmas.List.{drop_all, take_all}
use Rattle.ef_base.specs.declared.fault.Fault.{Fault}
use Rattle.ef_base.specs.FaultTable as table
use Rattle.ef_base.specs.NamedFaults.{plain}
use Rattle.ef_token.specs.declared.token.Token.{Token}
use Rattle.ef_forms.specs.declared.form.PlacedForm.{PlacedForm}
use Rattle.ef_forms.specs.Plain.{plain_placed}
use Rattle.ef_profile.specs.Adds.{Adds}
use Rattle.ef_module.specs.Modules.{second_form, seconds, is_module, late_form, late_faults, is_function, number_faults}
use Rattle.ef_module.specs.Refused.{outside, refused, refused_from, behind}
use Rattle.ef_profile.proofs.Adding.{adds_none, adds_then}

pub front_range : {A : Type 0} (xs : List A) (x : A) → 1 ≤ length xs → x ≡ get_or xs 0 x → xs ≡ x ∷ slice_range xs 1 (length xs)
front_range [] x some is = absurd (omega arith)
front_range (y ∷ ys) x some is = ap (λ z. z ∷ ys) (sym is) ∙ ap (λ zs. x ∷ zs) (sym (take_all (length (y ∷ ys) - 1) ys (omega arith)))

pub refused_step : (typed : Bool) (o : Option ℕ) (ts : List Token) (t : Token) (after : List Token) (old mid new : List Fault) → ts ≡ t ∷ after
    → Adds (outside o (refused t.kind t.place after)) old mid → Adds (refused_from typed (behind typed o t.kind) after) mid new → Adds (refused_from typed o ts) old new
refused_step typed o ts t after old mid new is one two =
    subst (λ l. Adds (refused_from typed o l) old new) (sym is)
    (adds_then old mid new (outside o (refused t.kind t.place after)) (refused_from typed (behind typed o t.kind) after) one two)

-- what `or` gives where the left is known
pub or_left : (b m : Bool) → b ≡ true → b ≡ (b || m)
or_left true m is = refl
or_left false m is = absurd (cc)

pub or_right : (b m r : Bool) → b ≡ false → r ≡ m → r ≡ (b || m)
or_right true m r is same = absurd (cc)
or_right false m r is same = same

pub seconds_step : (seen next : Bool) (fs : List PlacedForm) (f : PlacedForm) (after : List PlacedForm) (old mid new : List Fault) → next ≡ (seen || is_module (plain_placed f).form) → fs ≡ f ∷ after
    → Adds (second_form seen (plain_placed f)) old mid → Adds (seconds next (map plain_placed after)) mid new → Adds (seconds seen (map plain_placed fs)) old new
seconds_step seen next fs f after old mid new to is one two =
    subst (λ l. Adds (seconds seen (map plain_placed l)) old new) (sym is)
    (adds_then old mid new (second_form seen (plain_placed f)) (seconds (seen || is_module (plain_placed f).form) (map plain_placed after)) one
    (subst (λ b. Adds (seconds b (map plain_placed after)) mid new) to two))

pub late_step : (seen next : Bool) (fs : List PlacedForm) (f : PlacedForm) (after : List PlacedForm) (old mid new : List Fault) → next ≡ (seen || is_function (plain_placed f).form) → fs ≡ f ∷ after
    → Adds (late_form seen (plain_placed f)) old mid → Adds (late_faults next (map plain_placed after)) mid new → Adds (late_faults seen (map plain_placed fs)) old new
late_step seen next fs f after old mid new to is one two =
    subst (λ l. Adds (late_faults seen (map plain_placed l)) old new) (sym is)
    (adds_then old mid new (late_form seen (plain_placed f)) (late_faults (seen || is_function (plain_placed f).form) (map plain_placed after)) one
    (subst (λ b. Adds (late_faults b (map plain_placed after)) mid new) to two))

-- and nothing in the end

pub refused_end : (typed : Bool) (o : Option ℕ) (ts : List Token) (l : List Fault) → length ts < 1 → Adds (refused_from typed o ts) l l
refused_end typed o [] l none = adds_none l
refused_end typed o (t ∷ ts) l none = absurd (omega arith)

pub seconds_end : (seen : Bool) (fs : List PlacedForm) (l : List Fault) → length fs < 1 → Adds (seconds seen (map plain_placed fs)) l l
seconds_end seen [] l none = adds_none l
seconds_end seen (f ∷ fs) l none = absurd (omega arith)

pub late_end : (seen : Bool) (fs : List PlacedForm) (l : List Fault) → length fs < 1 → Adds (late_faults seen (map plain_placed fs)) l l
late_end seen [] l none = adds_none l
late_end seen (f ∷ fs) l none = absurd (omega arith)

-- ---- the number of functions

pub number_last : (left : ℕ) (fs : List PlacedForm) (i : ℕ) (f : PlacedForm) → i < length fs → f ≡ get_or fs i f → is_function (plain_placed f).form ≡ true → left ≡ 0
    → number_faults left (map plain_placed (drop i fs)) ≡ plain f.place table.too_many_functions ∷ []
number_last left fs i f within is sure none =
    ap (λ l. number_faults left (map plain_placed l)) (drop-cons fs i f within ∙ ap (λ g. g ∷ drop (suc i) fs) (sym is))
    ∙ ap (λ n. number_faults n (map plain_placed (f ∷ drop (suc i) fs))) none
    ∙ ap (λ b. cond (b && true) (plain f.place table.too_many_functions ∷ []) (number_faults (cond b (0 - 1) 0) (map plain_placed (drop (suc i) fs)))) sure

pub number_end : (left : ℕ) (fs : List PlacedForm) (i : ℕ) → length fs ≤ i → number_faults left (map plain_placed (drop i fs)) ≡ []
number_end left fs i over = ap (λ l. number_faults left (map plain_placed l)) (drop_all i fs over)
