-- What is found on the way to a form and to a module.
use Rattle.std.specs.Prelude.{◌≡◌, List, [], ◌∷◌, ◌++◌, Option, Some, None}
use Rattle.ef_base.specs.declared.fault.Fault.{Fault}
use Rattle.ef_base.specs.Faults.{set_of}
use Rattle.ef_base.specs.Texts.{Texts}
use Rattle.ef_token.specs.declared.token.Token.{Token}
use Rattle.ef_forms.specs.declared.form.Form.{Form}
use Rattle.ef_forms.specs.declared.form.Module.{Module}
use Rattle.ef_forms.specs.OfTable.{FormOf, FormsOf, ModuleOf}
use Rattle.ef_forms.specs.Plain.{plain_form, plain_module}
use Rattle.ef_forms.specs.Tree.{FormTree, PlacedTree}
use Rattle.ef_parse.specs.Spelled.{start_of}
use Rattle.ef_module.specs.Forms.{IsForm, AreFormFaults}
use Rattle.ef_module.specs.Modules.{IsModule, AreModuleFaults}

-- the form, or its faults
abbrev pub IsFound : Texts → List Token → Option Form → List Fault → Type 0
IsFound all ts (Some f) found = IsForm all (plain_form f) ts × FormOf all (plain_form f)
IsFound all ts None found = AreFormFaults all ts found

-- each form is the one that is read, or has these faults and is none
pub data AreAnswers (all : Texts) : List (List Token) → List PlacedTree → List Fault → Type 0 where
  no_forms : AreAnswers all [] [] []
  read : (ts : List Token) (tss : List (List Token)) (f : FormTree) (fs : List PlacedTree) (faults : List Fault)
      → IsForm all f ts → AreAnswers all tss fs faults → AreAnswers all (ts ∷ tss) (record { place = start_of ts; form = f } ∷ fs) faults
  faulty : (ts : List Token) (tss : List (List Token)) (fs : List PlacedTree) (found faults : List Fault)
      → (own : AreFormFaults all ts found) → AreAnswers all tss fs faults → AreAnswers all (ts ∷ tss) fs (own.written ++ faults)

-- the forms that are read, and the sorted faults of the others
pub record AreFound (all : Texts) (tss : List (List Token)) (fs : List PlacedTree) (found : List Fault) : Type 0 where
  pub written : List Fault
  pub answers : AreAnswers all tss fs written
  pub sorted : found ≡ set_of written
  pub of_table : FormsOf all fs

-- the module, or its faults
abbrev pub IsModuleFound : Texts → List (List Token) → Option Module → List Fault → Type 0
IsModuleFound all tss (Some m) found = IsModule all (plain_module m) tss × ModuleOf all (plain_module m)
IsModuleFound all tss None found = AreModuleFaults all tss found
