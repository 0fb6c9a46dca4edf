-- What is made of the forms of a source, and of its module.
use Rattle.std.specs.Prelude.{List, [], ◌∷◌, ◌≡◌, ◌≢◌, ◌⊎◌}
use Rattle.std.specs.List.{flat_map}
use Rattle.ef_base.specs.declared.fault.Fault.{Fault}
use Rattle.ef_base.specs.Faults.{set_of}
use Rattle.ef_base.specs.NamedFaults.{not_built}
use Rattle.ef_base.specs.Texts.{Texts, AllDiffer, AllUtf8, Extends}
use Rattle.ef_token.specs.declared.token.Token.{Token}
use Rattle.ef_token.specs.declared.token.ScannedForm.{ScannedForm}
use Rattle.ef_token.specs.declared.token.ScannedForm.TheVariants.{Tokens, Faulty as faulty_form}
use Rattle.ef_forms.specs.Tree.{ModuleTree}
use Rattle.ef_forms.specs.Built.{IsBuilt}
use Rattle.ef_profile.specs.Adds.{Adds}
use Rattle.ef_module.specs.Modules.{ReadsModule, ModuleFaults, IsModule}
use Rattle.ef_core.specs.Plain.{plain_module}
use Rattle.ef_core.specs.Readable.{IsReadable}
use Rattle.ef_lowmod.specs.Form.{HasLetForm, IsShallowFor}
use Rattle.ef_lowmod.specs.Outline.{Outline}
use Rattle.ef_meaning.specs.Runs.{KeepsMeaning}
use Rattle.ef_front.specs.declared.compiling.Lowered.{Lowered}
use Rattle.ef_front.specs.declared.compiling.Compiled.{Compiled}
use Rattle.ef_front.specs.declared.compiling.Compiled.TheVariants.{Module, Faulty}
use Rattle.ef_front.specs.LeftOut as l
use Rattle.ef_front.specs.Source.{module_faults}
use Rattle.ef_front.specs.Compiled.{IsWritable}

-- the fault of a faulty form, and the tokens of another
abbrev pub fault_of : ScannedForm → List Fault
fault_of (Tokens ts) = []
fault_of (faulty_form fault) = fault ∷ []

abbrev pub tokens_of : ScannedForm → List (List Token)
tokens_of (Tokens ts) = ts.items ∷ []
tokens_of (faulty_form fault) = []

-- the faults, sorted, and the lists of tokens of scanned forms
pub record AreTaken (scanned : List ScannedForm) (faults : List Fault) (forms : List (List Token)) : Type 0 where
  pub faulty : faults ≡ set_of (flat_map fault_of scanned)
  pub whole : forms ≡ flat_map tokens_of scanned

-- the list is one of a set
abbrev pub IsSet : List Fault → Type 0
IsSet faults = (before : List Fault) × (faults ≡ set_of before)

-- the forms that are kept, and the faults of the others, which are added
pub record AreSplit (names : Texts) (forms kept : List (List Token)) (old new : List Fault) : Type 0 where
  pub keeps : kept ≡ l.kept names forms
  pub others : Adds (l.left_out_faults names forms) old new

-- the Core module has the outline of the module, is in let form and shallow, can be written, is one that a text says, and
-- keeps the meaning of the module
pub record IsLoweredTo (names : Texts) (m : ModuleTree) (l : Lowered) : Type 0 where
  pub extends : Extends names l.names
  pub utf8 : AllUtf8 l.names
  pub differ : AllDiffer l.names
  pub outline : Outline l.names m (plain_module l.«module»)
  pub let_form : HasLetForm (plain_module l.«module»)
  pub shallow : IsShallowFor m (plain_module l.«module»)
  pub readable : IsReadable l.names (plain_module l.«module»)
  pub means : KeepsMeaning l.names m (plain_module l.«module»)
  pub writable : IsWritable l

-- the one fault of what is not built
abbrev pub IsNotBuilt : List Fault → Type 0
IsNotBuilt faults = faults ≡ not_built ∷ []

-- a module that is built, and its faults
pub record IsFaulty (names : Texts) (m : ModuleTree) (faults : List Fault) : Type 0 where
  pub built : IsBuilt names m
  pub are : faults ≡ set_of (module_faults names m)

abbrev pub IsCompiledModule : Texts → ModuleTree → Compiled → Type 0
IsCompiledModule names m (Module l) = IsFaulty names m [] × IsLoweredTo names m l
IsCompiledModule names m (Faulty faults) = (faults ≢ []) × (IsFaulty names m faults ⊎ ((IsBuilt names m → ⊥) × IsNotBuilt faults))

-- the faults of forms that are kept, where others were found before: with those that are found where the forms are read;
-- and else of the module that is read
pub data AreFaulty (names : Texts) (forms : List (List Token)) (found faults : List Fault) : Type 0 where
  reading : (own : List Fault) → ModuleFaults names forms own → Adds own found faults → AreFaulty names forms found faults
  unbuilt : (m : ModuleTree) → found ≡ [] → IsModule names m forms → (IsBuilt names m → ⊥) → IsNotBuilt faults → AreFaulty names forms found faults
  of_functions : (m : ModuleTree) → found ≡ [] → ReadsModule names m forms → IsFaulty names m faults → AreFaulty names forms found faults

abbrev pub IsCompiledForms : Texts → List (List Token) → List Fault → Compiled → Type 0
IsCompiledForms names forms found (Module l) =
    (found ≡ []) × (m : ModuleTree) × ReadsModule names m forms × IsFaulty names m [] × IsLoweredTo names m l
IsCompiledForms names forms found (Faulty faults) = (faults ≢ []) × AreFaulty names forms found faults
