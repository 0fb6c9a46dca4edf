-- Functions without a fault are neither too deep nor too heavy.
use Rattle.std.proofs.Common.{◌≡◌, ◌≤◌, ℕ, List, [], ◌∷◌, ◌++◌, Bool, true, false, refl, arith}
use Rattle.std.specs.Prelude.{nat_lt, ◌||◌}
use Rattle.std.proofs.lemmas.Bool.{ltb-false}
use Rattle.ef_base.specs.declared.fault.Fault.{Fault}
use Rattle.ef_base.specs.declared.fault.Place.{Place}
use Rattle.ef_base.specs.FaultTable as table
use Rattle.ef_base.specs.NamedFaults.{plain}
use Rattle.ef_base.specs.Texts.{Texts}
use Rattle.ef_forms.specs.Built.{Each, functions_in, functions_of}
use Rattle.ef_forms.specs.Depth.{function_depth}
use Rattle.ef_forms.specs.Tree.{FunctionTree, FormTree, PlacedTree, module_name, export, import, record_of, attribute, dropped, export_all, function}
use Rattle.ef_forms.specs.Ways.{function_faults}
use Rattle.ef_forms.specs.Weight.{function_weight}
use Rattle.ef_profile.specs.Adds.{where_}
use Rattle.ef_lowmod.specs.Function.{IsLight, HasNoFault}
use Rattle.ef_front.specs.Source.{most_depth, most_weight, size_faults, form_faults, forms_faults}

pub none_first : {A : Type 0} (xs ys : List A) → xs ++ ys ≡ [] → (xs ≡ []) × (ys ≡ [])
none_first [] ys is = (refl, is)
none_first (x ∷ xs) ys is = cc

pub not_one : (b : Bool) (f : Fault) → where_ b f ≡ [] → b ≡ false
not_one true f none = let bad : f ∷ [] ≡ [] = none in cc
not_one false f none = refl

pub neither : (a b : Bool) → (a || b) ≡ false → (a ≡ false) × (b ≡ false)
neither true b is = let bad : true ≡ false = is in cc
neither false b is = (refl, is)

pub at_most : (most n : ℕ) → nat_lt most n ≡ false → n ≤ most
at_most most n is = ltb-false most n is

pub record IsSmall (all : Texts) (f : FunctionTree) : Type 0 where
  pub no_fault : HasNoFault all f
  pub shallow : function_depth f ≤ most_depth
  pub light : IsLight f

small : (all : Texts) (p : Place) (f : FunctionTree) → function_faults all f ++ size_faults p f ≡ [] → IsSmall all f
small all p f none =
    let parts = none_first (function_faults all f) (size_faults p f) none in
    let tests = neither (nat_lt most_depth (function_depth f)) (nat_lt most_weight (function_weight f)) (not_one (nat_lt most_depth (function_depth f) || nat_lt most_weight (function_weight f)) (plain p table.function_too_large) parts.1) in
    let heavy : function_weight f ≤ 4194304 = at_most most_weight (function_weight f) tests.1 in
    record {
      no_fault = parts.0;
      shallow = at_most most_depth (function_depth f) tests.0;
      light = omega arith;
    }

pub all_small : (all : Texts) (fs : List PlacedTree) → forms_faults all fs ≡ [] → Each (IsSmall all) (functions_in fs)
all_small all [] none = tt
all_small all (f ∷ fs) none =
    let parts = none_first (form_faults all f f.form) (forms_faults all fs) none in
    by_form f.form parts.0 (all_small all fs parts.1)
  where
    by_form : (g : FormTree) → form_faults all f g ≡ [] → Each (IsSmall all) (functions_in fs) → Each (IsSmall all) (functions_of g ++ functions_in fs)
    by_form (module_name n) here rest = rest
    by_form (export rs) here rest = rest
    by_form (import m rs) here rest = rest
    by_form (record_of r) here rest = rest
    by_form (attribute n e) here rest = rest
    by_form dropped here rest = rest
    by_form export_all here rest = rest
    by_form (function g) here rest = (small all f.place g here, rest)

pub each_of : {P Q : FunctionTree → Type 0} (fs : List FunctionTree) → Each P fs → ((f : FunctionTree) → P f → Q f) → Each Q fs
each_of [] h g = tt
each_of (f ∷ fs) h g = (g f h.0, each_of fs h.1 g)

pub each_joined : {A : Type 0} (P : A → Type 0) (xs ys : List A) → Each P xs → Each P ys → Each P (xs ++ ys)
each_joined P [] ys first second = second
each_joined P (x ∷ xs) ys first second = (first.0, each_joined P xs ys first.1 second)

pub each_parted : {A : Type 0} (P : A → Type 0) (xs ys : List A) → Each P (xs ++ ys) → Each P xs × Each P ys
each_parted P [] ys h = (tt, h)
each_parted P (x ∷ xs) ys h = let rest = each_parted P xs ys h.1 in ((h.0, rest.0), rest.1)
