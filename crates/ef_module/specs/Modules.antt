-- What is answered for the forms of a module: the faults of the forms, and those of their order and number.
use Rattle.std.specs.Prelude.{ℕ, ◌-◌, ◌≡◌, ◌≢◌, codes, nat_eq, Bool, true, false, not, ◌&&◌, ◌||◌, List, [], ◌∷◌, ◌++◌, Vec, cond, Option, Some, None}
use Rattle.std.specs.List.{list_any}
use Rattle.std.specs.declared.alloc.Global.{Global}
use Rattle.ef_base.specs.declared.fault.Fault.{Fault}
use Rattle.ef_base.specs.declared.fault.Place.{Place}
use Rattle.ef_base.specs.declared.name.Name.{Name}
use Rattle.ef_base.specs.Faults.{set_of}
use Rattle.ef_base.specs.FaultTable as table
use Rattle.ef_base.specs.NamedFaults.{plain, naming, no_module}
use Rattle.ef_base.specs.Texts.{Texts}
use Rattle.ef_token.specs.declared.token.Token.{Token}
use Rattle.ef_forms.specs.Tree.{FormTree, PlacedTree, ModuleTree, module_name, export, import, function}
use Rattle.ef_parse.specs.declared.spelled.FormKind.TheVariants as is
use Rattle.ef_parse.specs.declared.spelled.FormKind.{FormKind}
use Rattle.ef_parse.specs.Spelled.{start_of}
use Rattle.ef_module.specs.declared.forms.FormRefusal.{FormRefusal}
use Rattle.ef_module.specs.declared.forms.FormRefusal.TheVariants.{Faulty, NoMemory}
use Rattle.ef_profile.specs.Adds.{where_}
use Rattle.ef_module.specs.Forms.{FormFaults, ReadsForm}
use Rattle.ef_profile.specs.Kinds.{kind_of}

abbrev pub most_functions : ℕ
most_functions = 65536

abbrev pub lists : List (Vec Token Global) → List (List Token)
lists [] = []
lists (v ∷ vs) = v.items ∷ lists vs

-- each form is read, or has its faults
pub data ReadsForms (all : Texts) : List (List Token) → List PlacedTree → List Fault → Type 0 where
  no_forms : ReadsForms all [] [] []
  read : (ts : List Token) (tss : List (List Token)) (f : FormTree) (fs : List PlacedTree) (faults : List Fault)
      → ReadsForm all f ts → ReadsForms all tss fs faults → ReadsForms all (ts ∷ tss) (record { place = start_of ts; form = f } ∷ fs) faults
  faulty : (ts : List Token) (tss : List (List Token)) (fs : List PlacedTree) (own faults : List Fault)
      → FormFaults all ts own → ReadsForms all tss fs faults → ReadsForms all (ts ∷ tss) fs (own ++ faults)

-- ---- the module attribute

abbrev pub module_named : FormTree → Option Name
module_named (module_name n) = Some n
module_named _ = None

abbrev pub is_module : FormTree → Bool
is_module (module_name n) = true
is_module _ = false

abbrev pub is_module_kind : FormKind → Bool
is_module_kind is.Module = true
is_module_kind _ = false

abbrev pub begins_module : Texts → List Token → Bool
begins_module all ts = is_module_kind (kind_of all ts)

-- each module attribute behind the first one
abbrev pub second_form : Bool → PlacedTree → List Fault
second_form seen f = where_ (is_module f.form && seen) (plain f.place table.second_module)

abbrev pub seconds : Bool → List PlacedTree → List Fault
seconds seen [] = []
seconds seen (f ∷ fs) = second_form seen f ++ seconds (seen || is_module f.form) fs

abbrev pub has_module : List PlacedTree → Bool
has_module fs = list_any (λ (f : PlacedTree). is_module f.form) fs

-- the first form is another one
abbrev pub before_module : List PlacedTree → List Fault
before_module [] = []
before_module (f ∷ fs) = where_ (not (is_module f.form)) (plain f.place table.form_before_module)

-- there is none
abbrev pub no_module_faults : Bool → List Fault
no_module_faults has = where_ (not has) no_module

abbrev pub module_faults : List PlacedTree → List Fault
module_faults fs = cond (has_module fs) (before_module fs ++ seconds false fs) (no_module_faults false)

-- Where a form is faulty, nothing is said of module attributes but that there is none, not even a faulty one.
abbrev pub faulty_module_faults : Texts → List (List Token) → List Fault
faulty_module_faults all tss = no_module_faults (list_any (begins_module all) tss)

-- ---- exports and imports behind functions, and the number of functions

abbrev pub is_function : FormTree → Bool
is_function (function f) = true
is_function _ = false

abbrev pub late_word : FormTree → Option (List ℕ)
late_word (export rs) = Some (codes "export")
late_word (import m rs) = Some (codes "import")
late_word _ = None

abbrev pub late_fault : Place → Option (List ℕ) → List Fault
late_fault p (Some word) = naming p table.after_functions word ∷ []
late_fault p None = []

abbrev pub late_form : Bool → PlacedTree → List Fault
late_form seen f = cond seen (late_fault f.place (late_word f.form)) []

abbrev pub late_faults : Bool → List PlacedTree → List Fault
late_faults seen [] = []
late_faults seen (f ∷ fs) = late_form seen f ++ late_faults (seen || is_function f.form) fs

-- the first function past the limit
abbrev pub number_faults : ℕ → List PlacedTree → List Fault
number_faults left [] = []
number_faults left (f ∷ fs) = cond (is_function f.form && nat_eq left 0) (plain f.place table.too_many_functions ∷ []) (number_faults (cond (is_function f.form) (left - 1) left) fs)

-- what is said of module attributes, where the forms have these faults
abbrev pub attribute_faults : Texts → List (List Token) → List PlacedTree → List Fault → List Fault
attribute_faults all tss fs [] = module_faults fs
attribute_faults all tss fs (f ∷ faults) = faulty_module_faults all tss

abbrev pub order_faults : Texts → List (List Token) → List PlacedTree → List Fault → List Fault
order_faults all tss fs faults = attribute_faults all tss fs faults ++ (late_faults false fs ++ number_faults most_functions fs)

-- ---- modules

-- the name in the module attribute that stands first
abbrev pub first_name : List PlacedTree → Option Name
first_name [] = None
first_name (f ∷ fs) = module_named f.form

-- the forms are those of the module, without a fault
pub record ReadsModule (all : Texts) (m : ModuleTree) (forms : List (List Token)) : Type 0 where
  pub reads : ReadsForms all forms m.forms []
  pub ordered : order_faults all forms m.forms [] ≡ []
  pub named : first_name m.forms ≡ Some m.name

-- the faults of the forms, and those of their order and number
pub record ModuleFaults (all : Texts) (forms : List (List Token)) (faults : List Fault) : Type 0 where
  pub trees : List PlacedTree
  pub own : List Fault
  pub reads : ReadsForms all forms trees own
  pub are : faults ≡ own ++ order_faults all forms trees own

pub record IsModule (all : Texts) (m : ModuleTree) (forms : List (List Token)) : Type 0 where
  pub reads : ReadsModule all m forms
  pub alone : (other : ModuleTree) → ReadsModule all other forms → other ≡ m
  pub faultless : (faults : List Fault) → ModuleFaults all forms faults → faults ≡ []

pub record AreModuleFaults (all : Texts) (forms : List (List Token)) (faults : List Fault) : Type 0 where
  pub written : List Fault
  pub found : ModuleFaults all forms written
  pub sorted : faults ≡ set_of written
  pub some : faults ≢ []
  pub alone : (others : List Fault) → ModuleFaults all forms others → set_of others ≡ faults

abbrev pub IsModuleRefused : Texts → List (List Token) → FormRefusal → Type 0
IsModuleRefused all forms (Faulty faults) = AreModuleFaults all forms faults
IsModuleRefused all forms NoMemory = Unit {0}
