-- Functions and modules that keep the meaning.
use Rattle.std.proofs.Common.{◌≡◌, ◌<◌, ◌+◌, ℕ, List, [], ◌∷◌, ◌++◌, get_or, length, map, take, refl, sym, ap, ◌∙◌, subst, add-one}
use Rattle.ef_base.specs.Texts.{Extends, Texts}
use Rattle.ef_core.specs.declared.literal.CoreVar.TheVariants.{Numbered}
use Rattle.ef_core.specs.Tree.{CoreModuleTree, DefTree}
use Rattle.ef_forms.specs.declared.form.PlacedForm.{PlacedForm}
use Rattle.ef_forms.specs.Built.{Each, IsBuilt, functions_in}
use Rattle.ef_forms.specs.Plain.{plain_placed}
use Rattle.ef_forms.specs.Tree.{FunctionTree, ModuleTree}
use Rattle.ef_lowmod.specs.declared.info.Fixed.{Fixed}
use Rattle.ef_lowmod.specs.Function.{HasNoFault, KeepsForm}
use Rattle.ef_lowmod.specs.Info.{AreFixed, info_def, item_def}
use Rattle.ef_lowmod.proofs.Modules.{next_form}
use Rattle.ef_meaning.specs.Lowers.{IsInformation, KeepDefinitions}
use Rattle.ef_meaning.specs.Runs.{KeepsMeaning}
use Rattle.ef_meaning.proofs.Kept.{definitions_later, module_keeps}

-- ---- forms

keep_both : (now : Texts) (fs gs : List FunctionTree) (ds es : List DefTree) → KeepDefinitions now fs ds → KeepDefinitions now gs es → KeepDefinitions now (fs ++ gs) (ds ++ es)
keep_both now [] gs [] es left right = right
keep_both now [] gs (d ∷ ds) es left right = absurd left
keep_both now (f ∷ fs) gs [] es left right = absurd left
keep_both now (f ∷ fs) gs (d ∷ ds) es left right = (left.0, keep_both now fs gs ds es left.1 right)

-- one more form
pub form_keeps : (now all : Texts) (forms : List PlacedForm) (i : ℕ) (x : PlacedForm) (ds new : List DefTree) → Extends now all → KeepDefinitions now (functions_in (map plain_placed (take i forms))) ds → i < length forms → x ≡ get_or forms i x → KeepsForm all (plain_placed x) ds new → KeepDefinitions all (functions_in (map plain_placed (take (i + 1) forms))) new
form_keeps now all forms i x ds new later before small read one =
    subst (KeepDefinitions all (functions_in (map plain_placed (take (i + 1) forms)))) (sym one.is)
    (subst (λ fs. KeepDefinitions all fs (ds ++ one.added)) (sym (ap (λ n. functions_in (map plain_placed (take n forms))) (add-one i) ∙ next_form forms i x small read))
    (keep_both all (functions_in (map plain_placed (take i forms))) (functions_in (plain_placed x ∷ [])) ds one.added (definitions_later now all (functions_in (map plain_placed (take i forms))) ds later before) one.keep))

-- ---- the whole

module _ (all : Texts) (m : ModuleTree) (fixed : Fixed) (are : AreFixed all fixed) where
  information_is : IsInformation all m.name [] (info_def fixed m.name)
  information_is = record {
    erlang = fixed.erlang;
    get_module_info = fixed.get_module_info;
    erlang_text = are.erlang.is;
    get_module_info_text = are.get_module_info.is;
    name_text = are.module_info.is;
    arity = refl;
    parameters = refl;
    body = refl;
  }

  item_is : IsInformation all m.name (Numbered 0 ∷ []) (item_def fixed m.name)
  item_is = record {
    erlang = fixed.erlang;
    get_module_info = fixed.get_module_info;
    erlang_text = are.erlang.is;
    get_module_info_text = are.get_module_info.is;
    name_text = are.module_info.is;
    arity = refl;
    parameters = refl;
    body = refl;
  }

  pub lowered_keeps : (t : CoreModuleTree) (functions : List DefTree) → t.defs ≡ functions ++ (info_def fixed m.name ∷ item_def fixed m.name ∷ []) → KeepDefinitions all (functions_in m.forms) functions →
      IsBuilt all m → Each (HasNoFault all) (functions_in m.forms) → KeepsMeaning all m t
  lowered_keeps t functions defs keep built none =
      module_keeps all m t
      (record { functions = functions; information = info_def fixed m.name; item = item_def fixed m.name; definitions = defs; keep = keep; is_information = information_is; is_item = item_is })
      built none
