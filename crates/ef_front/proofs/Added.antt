-- Faults that are added form by form.
use Rattle.std.proofs.Common.{◌≡◌, ◌<◌, ◌≤◌, ◌+◌, ℕ, List, ◌∷◌, ◌++◌, length, drop, get_or, suc, add-one, refl, sym, ap, ◌∙◌, subst, append-nil, append_assoc, map, true, false}
use Rattle.std.proofs.Math.Seq.{drop-cons}
use Rattle.std.proofs.lemmas.List.{drop_all}
use Rattle.ef_base.specs.declared.fault.Fault.{Fault}
use Rattle.ef_base.specs.declared.fault.Place.{Place}
use Rattle.ef_base.specs.FaultTable as table
use Rattle.ef_base.specs.Faults.{set_of, insert_fault}
use Rattle.ef_base.specs.NamedFaults.{plain}
use Rattle.ef_base.specs.Texts.{Texts, Extends}
use Rattle.ef_base.proofs.FaultLaws.{set_of-append}
use Rattle.ef_forms.specs.declared.form.PlacedForm.{PlacedForm}
use Rattle.ef_forms.specs.OfTable.{FormOf, FormsOf}
use Rattle.ef_forms.specs.Plain.{plain_placed, plain_form}
use Rattle.ef_forms.specs.Tree.{FunctionTree}
use Rattle.ef_profile.specs.Adds.{Adds, where_}
use Rattle.ef_profile.proofs.Adding.{adds_none, adds_one}
use Rattle.ef_front.specs.Sizes.{is_too_large}
use Rattle.ef_front.specs.Source.{form_faults, forms_faults, size_faults}

next : {A : Type 0} (xs : List A) (i : ℕ) (x : A) → i < length xs → x ≡ get_or xs i x → drop i xs ≡ x ∷ drop (i + 1) xs
next xs i x small read = rw add-one (drop-cons xs i x small ∙ ap (λ z. z ∷ drop (suc i) xs) (sym read))

-- what is left of the forms
pub record FormsLeft (names : Texts) (forms : List PlacedForm) (i : ℕ) (old found : List Fault) : Type 0 where
  pub of : FormsOf names (map plain_placed (drop i forms))
  pub left : (all : Texts) → Extends names all → (before : List Fault) → old ≡ set_of before
      → (now : List Fault) × (found ≡ set_of now) × (now ++ forms_faults all (map plain_placed (drop i forms)) ≡ before ++ forms_faults all (map plain_placed forms))

pub forms_none : (names : Texts) (forms : List PlacedForm) (old : List Fault) → FormsOf names (map plain_placed forms) → FormsLeft names forms 0 old old
forms_none names forms old of = record { of = of; left = λ all later before is. (before, is, refl) }

pub forms_more : (names : Texts) (forms : List PlacedForm) (i : ℕ) (f : PlacedForm) (old found found' : List Fault) → i < length forms → f ≡ get_or forms i f
    → FormsLeft names forms i old found
    → ((all : Texts) → Extends names all → (before : List Fault) → found ≡ set_of before → found' ≡ set_of (before ++ form_faults all (plain_placed f) (plain_form f.form)))
    → FormsLeft names forms (i + 1) old found'
forms_more names forms i f old found found' small read before here =
    let at = next forms i f small read in
    record {
      of = (subst (λ l. FormsOf names (map plain_placed l)) at before.of).1;
      left = λ all later b is.
          let was = before.left all later b is in (
            was.0 ++ form_faults all (plain_placed f) (plain_form f.form),
            here all later was.0 was.1,
            append_assoc was.0 (form_faults all (plain_placed f) (plain_form f.form)) (forms_faults all (map plain_placed (drop (i + 1) forms)))
                ∙ ap (λ l. was.0 ++ forms_faults all (map plain_placed l)) (sym at) ∙ was.2,
          );
    }

pub first_form : (names : Texts) (forms : List PlacedForm) (i : ℕ) (f : PlacedForm) → i < length forms → f ≡ get_or forms i f → FormsOf names (map plain_placed (drop i forms)) → FormOf names (plain_form f.form)
first_form names forms i f small read of = (subst (λ l. FormsOf names (map plain_placed l)) (next forms i f small read) of).0

pub forms_end : (names : Texts) (forms : List PlacedForm) (i : ℕ) (old found : List Fault) → length forms ≤ i → FormsLeft names forms i old found
    → (all : Texts) → Extends names all → (before : List Fault) → old ≡ set_of before → found ≡ set_of (before ++ forms_faults all (map plain_placed forms))
forms_end names forms i old found all_read before all later b is =
    let was = before.left all later b is in
    was.1 ∙ ap set_of (sym (append-nil was.0) ∙ ap (λ l. was.0 ++ forms_faults all (map plain_placed l)) (sym (drop_all i forms all_read)) ∙ was.2)

pub added : (before faults fs : List Fault) (new : List Fault) → faults ≡ set_of fs → new ≡ set_of (before ++ faults) → new ≡ set_of (before ++ fs)
added before faults fs new is sum = sum ∙ ap (λ l. set_of (before ++ l)) is ∙ set_of-append before fs

-- the fault of a function that is too large

pub size_none : (p : Place) (f : FunctionTree) (l : List Fault) → is_too_large f ≡ false → Adds (size_faults p f) l l
size_none p f l is = subst (λ b. Adds (where_ b (plain p table.function_too_large)) l l) (sym is) (adds_none l)

pub size_one : (p : Place) (f : FunctionTree) (old new : List Fault) → is_too_large f ≡ true → new ≡ insert_fault (plain p table.function_too_large) old → Adds (size_faults p f) old new
size_one p f old new is pushed = subst (λ b. Adds (where_ b (plain p table.function_too_large)) old new) (sym is) (adds_one old new (plain p table.function_too_large) pushed)
