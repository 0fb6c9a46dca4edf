-- Tokens are read in one way, and what is read has names of the table alone.
use Rattle.std.proofs.Common.{◌≡◌, Bool, true, false, List, [], ◌∷◌, ◌++◌, Some, refl, sym, ap, ap₂, ◌∙◌, subst}
use Rattle.ef_base.specs.declared.fault.Fault.{Fault}
use Rattle.ef_base.specs.declared.name.Name.{Name}
use Rattle.ef_base.specs.Texts.{Texts}
use Rattle.ef_token.specs.declared.token.Token.{Token}
use Rattle.ef_token.specs.TokenForm.{TokensOf, AllTokensOf}
use Rattle.ef_forms.specs.OfTable.{FormOf, FormsOf}
use Rattle.ef_forms.specs.Tree.{FormTree, PlacedTree, ModuleTree}
use Rattle.ef_build.specs.Values.{form}
use Rattle.ef_rows.specs.Makes.{Makes}
use Rattle.ef_rows.proofs.Renamed.{one_made, form_made}
use Rattle.ef_parse.specs.Spelled.{start_of, start_for}
use Rattle.ef_module.specs.Forms.{FormFaults, ReadsForm, kept, of_tokens, is_not_spelled, is_too_deep, of_tree}
use Rattle.ef_profile.specs.Kinds.{kind_of}
use Rattle.ef_module.specs.Modules.{ReadsForms, no_forms, read, faulty, order_faults, first_name, ReadsModule, ModuleFaults}
use Rattle.ef_profile.specs.Unbuilt.{tree_faults}
use Rattle.ef_module.proofs.Later.{kept_of}

-- ---- one form

form_left : (f g : FormTree) → form g ≡ form f → g ≡ f
form_left f g e = cc

not_both_deep : false ≡ true → ⊥
not_both_deep e = cc

module _ (all : Texts) (ts : List Token) where
  abbrev MakesForm : FormTree → List Fault → Bool → Type 0
  MakesForm f faults deep = Makes all (start_for (kind_of all ts)) ts (form f) faults deep

  one_spelled : (f g : FormTree) (xs ys : List Fault) (d e : Bool) → MakesForm f xs d → MakesForm g ys e → (g ≡ f) × (ys ≡ xs) × (e ≡ d)
  one_spelled f g xs ys d e x y =
      let same = one_made all (start_for (kind_of all ts)) ts (form f) (form g) xs ys d e x y in
      (form_left f g same.0, same.1, same.2)

  pub one_form : (f g : FormTree) → ReadsForm all f ts → ReadsForm all g ts → f ≡ g
  one_form f g x y = x.is ∙ ap (kept all) (one_spelled y.written x.written [] [] false false y.spelled x.spelled).0 ∙ sym y.is

  same_tree : (f g : FormTree) (xs ys : List Fault) → MakesForm f xs false → MakesForm g ys false → xs ++ tree_faults all (start_of ts) f ≡ ys ++ tree_faults all (start_of ts) g
  same_tree f g xs ys x y =
      let same = one_spelled g f ys xs false false y x in
      ap₂ (λ heads tree. heads ++ tree_faults all (start_of ts) tree) same.1 same.0

  pub one_form_faults : (xs ys : List Fault) → FormFaults all ts xs → FormFaults all ts ys → xs ≡ ys
  one_form_faults xs ys (of_tokens some) (of_tokens _) = refl
  one_form_faults xs ys (of_tokens some) (is_not_spelled none none_is) = absurd (some none)
  one_form_faults xs ys (of_tokens some) (is_too_deep none deep) = absurd (some none)
  one_form_faults xs ys (of_tokens some) (of_tree g hs none y _) = absurd (some none)
  one_form_faults xs ys (is_not_spelled none none_is) (of_tokens some) = absurd (some none)
  one_form_faults xs ys (is_not_spelled none none_is) (is_not_spelled _ _) = refl
  one_form_faults xs ys (is_not_spelled none none_is) (is_too_deep _ deep) = absurd (none_is deep.0 deep.1 true deep.2)
  one_form_faults xs ys (is_not_spelled none none_is) (of_tree g hs _ y _) = absurd (none_is g hs false y)
  one_form_faults xs ys (is_too_deep none deep) (of_tokens some) = absurd (some none)
  one_form_faults xs ys (is_too_deep none deep) (is_not_spelled _ none_is) = absurd (none_is deep.0 deep.1 true deep.2)
  one_form_faults xs ys (is_too_deep none deep) (is_too_deep _ _) = refl
  one_form_faults xs ys (is_too_deep none deep) (of_tree g hs _ y _) = absurd (not_both_deep (one_spelled deep.0 g deep.1 hs true false deep.2 y).2)
  one_form_faults xs ys (of_tree f hs none x _) (of_tokens some) = absurd (some none)
  one_form_faults xs ys (of_tree f hs none x _) (is_not_spelled _ none_is) = absurd (none_is f hs false x)
  one_form_faults xs ys (of_tree f hs none x _) (is_too_deep _ deep) = absurd (not_both_deep (one_spelled deep.0 f deep.1 hs true false deep.2 x).2)
  one_form_faults xs ys (of_tree f hs none x _) (of_tree g is _ y _) = same_tree f g hs is x y

  -- what is read has no faults
  pub not_both : (f : FormTree) (faults : List Fault) → ReadsForm all f ts → FormFaults all ts faults → ⊥
  not_both f faults x (of_tokens some) = some x.tokens
  not_both f faults x (is_not_spelled _ none_is) = none_is x.written [] false x.spelled
  not_both f faults x (is_too_deep _ deep) = not_both_deep (one_spelled deep.0 x.written deep.1 [] true false deep.2 x.spelled).2
  not_both f faults x (of_tree g hs _ y some) = some (same_tree g x.written hs [] y x.spelled ∙ x.tree)

  form_of_table : (f : FormTree) → TokensOf all ts → ReadsForm all f ts → FormOf all f
  form_of_table f h x = subst (FormOf all) (sym x.is) (kept_of all x.written (form_made all (start_for (kind_of all ts)) ts x.written [] false h x.spelled))

-- ---- modules

abbrev placed : List Token → FormTree → PlacedTree
placed ts f = record { place = start_of ts; form = f }

module _ (all : Texts) where
  pub one_reading : (tss : List (List Token)) (fs gs : List PlacedTree) (xs ys : List Fault) → ReadsForms all tss fs xs → ReadsForms all tss gs ys → (fs ≡ gs) × (xs ≡ ys)
  one_reading tss fs gs xs ys no_forms no_forms = (refl, refl)
  one_reading tss fs gs xs ys (read ts us f hs own x rest) (read _ _ g is more y others) =
      let same = one_reading us hs is own more rest others in
      (ap₂ (λ (h : FormTree) (trees : List PlacedTree). placed ts h ∷ trees) (one_form all ts f g x y) same.0, same.1)
  one_reading tss fs gs xs ys (read ts us f hs own x rest) (faulty _ _ is found more y others) = absurd (not_both all ts f found x y)
  one_reading tss fs gs xs ys (faulty ts us hs found own x rest) (read _ _ g is more y others) = absurd (not_both all ts g found y x)
  one_reading tss fs gs xs ys (faulty ts us hs found own x rest) (faulty _ _ is theirs more y others) =
      let same = one_reading us hs is own more rest others in
      (same.0, ap₂ (λ a b. a ++ b) (one_form_faults all ts found theirs x y) same.1)

  pub forms_of_table : (tss : List (List Token)) (fs : List PlacedTree) (xs : List Fault) → AllTokensOf all tss → ReadsForms all tss fs xs → FormsOf all fs
  forms_of_table tss fs xs h no_forms = tt
  forms_of_table tss fs xs h (read ts us f hs own x rest) = (form_of_table all ts f h.0 x, forms_of_table us hs own h.1 rest)
  forms_of_table tss fs xs h (faulty ts us hs found own x rest) = forms_of_table us hs own h.1 rest

  some_left : (m n : Name) → Some m ≡ Some n → m ≡ n
  some_left m n e = cc

  pub one_module : (m n : ModuleTree) (tss : List (List Token)) → ReadsModule all m tss → ReadsModule all n tss → m ≡ n
  one_module m n tss x y =
      let same = (one_reading tss m.forms n.forms [] [] x.reads y.reads).0 in
      ap₂ (λ (name : Name) (fs : List PlacedTree). let tree : ModuleTree = record { name = name; forms = fs } in tree)
      (some_left m.name n.name (sym x.named ∙ ap first_name same ∙ y.named)) same

  pub one_module_faults : (tss : List (List Token)) (xs ys : List Fault) → ModuleFaults all tss xs → ModuleFaults all tss ys → xs ≡ ys
  one_module_faults tss xs ys x y =
      let same = one_reading tss x.trees y.trees x.own y.own x.reads y.reads in
      x.are ∙ ap₂ (λ trees own. own ++ order_faults all tss trees own) same.0 same.1 ∙ sym y.are

  -- a module that is read has no faults
  pub faultless_module : (m : ModuleTree) (tss : List (List Token)) → ReadsModule all m tss → ModuleFaults all tss []
  faultless_module m tss x = record { trees = m.forms; own = []; reads = x.reads; are = sym x.ordered }
