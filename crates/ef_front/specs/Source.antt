-- The modules, the faults and the texts of a source: relations over its bytes.
use Rattle.std.specs.Prelude.{ℕ, List, [], ◌∷◌, ◌++◌, ◌≡◌, ◌≢◌, ◌||◌, nat_lt}
use Rattle.std.specs.List.{flat_map}
use Rattle.ef_base.specs.declared.fault.Fault.{Fault}
use Rattle.ef_base.specs.declared.fault.Place.{Place}
use Rattle.ef_base.specs.Faults.{set_of}
use Rattle.ef_base.specs.FaultTable as table
use Rattle.ef_base.specs.NamedFaults as fault
use Rattle.ef_base.specs.Texts.{Texts, AllDiffer, AllUtf8, Extends}
use Rattle.ef_token.specs.declared.token.Token.{Token}
use Rattle.ef_scan.specs.Scan.{Form, tokens, faulty, Scans, ScansTo}
use Rattle.ef_forms.specs.Tree.{FunctionTree, FormTree, PlacedTree, ModuleTree, function}
use Rattle.ef_forms.specs.Built.{IsBuilt}
use Rattle.ef_forms.specs.Depth.{function_depth}
use Rattle.ef_forms.specs.Weight.{function_weight}
use Rattle.ef_forms.specs.Ways.{function_faults}
use Rattle.ef_module.specs.Modules.{ReadsModule, ModuleFaults}
use Rattle.ef_profile.specs.Adds.{where_}
use Rattle.ef_front.specs.LeftOut.{left_out_faults, kept}
use Rattle.ef_front.specs.Written.{IsWritten}

-- the faults of the faulty forms
abbrev pub faults_in : List Form → List Fault
faults_in [] = []
faults_in (tokens ts ∷ forms) = faults_in forms
faults_in (faulty fault ∷ forms) = fault ∷ faults_in forms

-- the tokens of the others
abbrev pub tokens_in : List Form → List (List Token)
tokens_in [] = []
tokens_in (tokens ts ∷ forms) = ts ∷ tokens_in forms
tokens_in (faulty fault ∷ forms) = tokens_in forms

-- What is found where the text is read: the faults of the forms that are not made of lexemes; those of the forms that are left
-- out, since what they need is not built yet; and the faults of the others, of their order and of their number.
pub record IsRead (all : Texts) (source : List ℕ) (found : List Fault) : Type 0 where
  pub differ : AllDiffer all
  pub forms : List Form
  pub scanned : Scans all 0 source forms
  pub own : List Fault
  pub others : ModuleFaults all (kept all (tokens_in forms)) own
  pub are : found ≡ faults_in forms ++ (left_out_faults all (tokens_in forms) ++ own)

-- the text is one of the module, whose names are those of the table, and which is read without a fault and built
pub record IsSource (all : Texts) (source : List ℕ) (m : ModuleTree) : Type 0 where
  pub differ : AllDiffer all
  pub forms : List (List Token)
  pub scanned : ScansTo all 0 source forms
  pub whole : left_out_faults all forms ≡ []
  pub reads : ReadsModule all m forms
  pub built : IsBuilt all m

-- the greatest depth and weight of a function
abbrev pub most_depth : ℕ
most_depth = 128

abbrev pub most_weight : ℕ
most_weight = 4194304

abbrev pub size_faults : Place → FunctionTree → List Fault
size_faults p f = where_ (nat_lt most_depth (function_depth f) || nat_lt most_weight (function_weight f)) (fault.plain p table.function_too_large)

-- the faults of a module: those of its functions
abbrev pub form_faults : Texts → PlacedTree → FormTree → List Fault
form_faults all p (function f) = function_faults all f ++ size_faults p.place f
form_faults all p _ = []

abbrev pub forms_faults : Texts → List PlacedTree → List Fault
forms_faults all fs = flat_map (λ (f : PlacedTree). form_faults all f f.form) fs

abbrev pub module_faults : Texts → ModuleTree → List Fault
module_faults all m = forms_faults all m.forms

-- the faults of a source, sorted
pub data HasFaults (source : List ℕ) (faults : List Fault) : Type 0 where
  -- those that are found where it is read, and no others
  of_reading : (all : Texts) (found : List Fault) → IsRead all source found → found ≢ [] → faults ≡ set_of found → HasFaults source faults
  -- where there are none: that the module is not built
  not_built : (all : Texts) → IsRead all source [] → ((names : Texts) (m : ModuleTree) → IsSource names source m → ⊥) → faults ≡ fault.not_built ∷ [] → HasFaults source faults
  -- or those of its functions
  of_module : (all : Texts) (m : ModuleTree) → IsSource all source m → faults ≡ set_of (module_faults all m) → HasFaults source faults

-- a text that may be written for a source; what the text adds to the names of the source stands in a later table, in which
-- no text stands twice
pub record IsTextFor (source text : List ℕ) : Type 0 where
  pub all : Texts
  pub module_tree : ModuleTree
  pub spelled : IsSource all source module_tree
  pub later : Texts
  pub extends : Extends all later
  pub differ : AllDiffer later
  pub utf8 : AllUtf8 later
  pub written : IsWritten later module_tree text
