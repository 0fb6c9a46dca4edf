-- From the forms of a source to what is made of it.
use Rattle.std.proofs.Common.{◌≡◌, ◌≢◌, ◌⊎◌, inl, inr, ℕ, List, [], ◌∷◌, ◌++◌, Bool, true, false, refl, sym, ap, ◌∙◌, subst, append-nil, append_assoc, Result, Ok, Err, IfOk}
use Rattle.std.specs.Prelude.{IsTrue, ◌↔◌}
use Rattle.ef_base.specs.declared.fault.Fault.{Fault}
use Rattle.ef_base.specs.Faults.{set_of}
use Rattle.ef_base.specs.NamedFaults as fault
use Rattle.ef_base.specs.Texts.{Texts, AllDiffer, Extends}
use Rattle.ef_base.specs.Laws.{extends_same}
use Rattle.ef_token.specs.declared.token.Token.{Token}
use Rattle.ef_token.specs.declared.token.ScannedForm.{ScannedForm}
use Rattle.ef_token.specs.TokenForm.{AllTokensOf, AreForms}
use Rattle.ef_scan.specs.Scan.{Form, Scans, ScansTo, IsScanned}
use Rattle.ef_forms.specs.Tree.{ModuleTree}
use Rattle.ef_forms.specs.Built.{Each, IsBuilt, functions_in}
use Rattle.ef_profile.specs.Adds.{Adds}
use Rattle.ef_module.specs.Modules.{ReadsModule, ModuleFaults, IsModule, AreModuleFaults}
use Rattle.ef_lowmod.specs.Function.{IsLight, IsNarrowFunction, IsWhole, HasNoFault}
use Rattle.ef_front.specs.declared.compiling.Compiled.{Compiled}
use Rattle.ef_front.specs.declared.compiling.Compiled.TheVariants.{Module, Faulty}
use Rattle.ef_front.specs.Source.{IsRead, IsSource, HasFaults, of_reading, not_built, of_module, faults_in, tokens_in, module_faults}
use Rattle.ef_front.specs.LeftOut.{kept, left_out_faults}
use Rattle.ef_front.specs.Compiled.{IsCompiledText}
use Rattle.ef_front.specs.Compiles.{AreTaken, AreSplit, AreFaulty, reading, unbuilt, of_functions, IsFaulty, IsCompiledModule, IsCompiledForms, IsSet}
use Rattle.ef_front.proofs.Added.{added}
use Rattle.ef_front.proofs.LeftOut.{kept_ends}
use Rattle.ef_front.proofs.Narrow.{forms_narrow}
use Rattle.ef_front.proofs.Nested.{printed, written}
use Rattle.ef_front.proofs.OneSource.{other_source}
use Rattle.ef_front.proofs.RenamedLeftOut.{all_kept, kept_of_table}
use Rattle.ef_front.proofs.Small.{all_small, each_of, none_first}
use Rattle.ef_front.proofs.Taken.{all_tokens, faults_taken, scan_ready, set_none, tokens_taken}
use Rattle.ef_front.proofs.Whole.{forms_whole}

-- ---- what a module has that is read

pub module_narrow : (all : Texts) (m : ModuleTree) (forms : List (List Token)) → ReadsModule all m forms → IsBuilt all m → Each IsNarrowFunction (functions_in m.forms)
module_narrow all m forms reads built = forms_narrow all _ forms m.forms [] reads.reads built.bodies

pub module_whole : (all : Texts) (m : ModuleTree) (forms : List (List Token)) → ReadsModule all m forms → Each IsWhole (functions_in m.forms)
module_whole all m forms reads = forms_whole all forms m.forms [] reads.reads

-- ---- no faults

none_found : (all : Texts) (m : ModuleTree) (faults : List Fault) → faults ≡ set_of (module_faults all m) → faults ≡ [] → module_faults all m ≡ []
none_found all m faults are none = set_none (module_faults all m) (sym are ∙ none)

pub no_faults : (all : Texts) (m : ModuleTree) (faults : List Fault) → faults ≡ set_of (module_faults all m) → faults ≡ [] → Each (HasNoFault all) (functions_in m.forms)
no_faults all m faults are none = each_of (functions_in m.forms) (all_small all m.forms (none_found all m faults are none)) (λ f small. small.no_fault)

pub no_weights : (all : Texts) (m : ModuleTree) (faults : List Fault) → faults ≡ set_of (module_faults all m) → faults ≡ [] → Each IsLight (functions_in m.forms)
no_weights all m faults are none = each_of (functions_in m.forms) (all_small all m.forms (none_found all m faults are none)) (λ f small. small.light)

pub none_differ : (names : Texts) → names ≡ [] → AllDiffer names
none_differ names none = subst AllDiffer (sym none) (λ i j text here there. cc)

some_set : (faults found : List Fault) → faults ≢ [] → faults ≡ set_of found → found ≢ []
some_set faults found some are none = some (are ∙ ap set_of none)

-- ---- what is made of the forms that are kept

pub module_compiled : (names : Texts) (m : ModuleTree) (forms : List (List Token)) (found : List Fault) (result : Compiled) → found ≡ [] → IsModule names m forms → IsCompiledModule names m result → IsCompiledForms names forms found result
module_compiled names m forms found (Module l) none is made = (none, m, is.reads, made.0, made.1)
module_compiled names m forms found (Faulty faults) none is made = (made.0, by_case made.1)
  where
    by_case : IsFaulty names m faults ⊎ ((IsBuilt names m → ⊥) × (faults ≡ fault.not_built ∷ [])) → AreFaulty names forms found faults
    by_case (inl here) = of_functions m none is.reads here
    by_case (inr left) = unbuilt m none is left.0 left.1

-- the module has no faults, but others were found before
pub before_compiled : (names : Texts) (m : ModuleTree) (forms : List (List Token)) (found : List Fault) → found ≢ [] → IsModule names m forms → IsCompiledForms names forms found (Faulty found)
before_compiled names m forms found some is =
    (some, reading [] (record { trees = m.forms; own = []; reads = is.reads.reads; are = sym is.reads.ordered }) (λ before are. are ∙ ap set_of (sym (append-nil before))))

pub faulty_compiled : (names : Texts) (forms : List (List Token)) (found new faults : List Fault) → IsSet found → AreModuleFaults names forms faults → Adds faults found new → IsCompiledForms names forms found (Faulty new)
faulty_compiled names forms found new faults set are sum =
    let some : new ≢ [] = λ none. are.some (none_first set.0 faults (set_none (set.0 ++ faults) (sym (sum set.0 set.1) ∙ none))).1 in
    (some, reading are.written are.found (λ before is. added before faults are.written new are.sorted (sum before is)))

-- ---- the whole

-- the forms of a text: those that are kept, and what is found before they are read
pub record IsParted (names : Texts) (source : List ℕ) (found : List Fault) (forms : List (List Token)) : Type 0 where
  pub all_forms : List Form
  pub scanned : Scans names 0 source all_forms
  pub keeps : forms ≡ kept names (tokens_in all_forms)
  pub finds : found ≡ set_of (faults_in all_forms ++ left_out_faults names (tokens_in all_forms))

pub parted : (names : Texts) (source : List ℕ) (scanned : List ScannedForm) (faults found : List Fault) (taken forms : List (List Token)) → IsScanned names 0 source scanned
    → AreTaken scanned faults taken → AreSplit names taken forms faults found → IsParted names source found forms
parted names source scanned faults found taken forms is one two =
    let all_of : taken ≡ tokens_in is.0 = one.whole ∙ tokens_taken scanned is.0 is.1 in
    record {
      all_forms = is.0;
      scanned = is.2;
      keeps = two.keeps ∙ ap (kept names) all_of;
      finds = two.others (faults_in is.0) (one.faulty ∙ ap set_of (faults_taken scanned is.0 is.1)) ∙ ap (λ l. set_of (faults_in is.0 ++ left_out_faults names l)) all_of;
    }

pub parted_ends : (names : Texts) (source : List ℕ) (found : List Fault) (forms : List (List Token)) → IsParted names source found forms → AreForms forms
parted_ends names source found forms is = subst AreForms (sym is.keeps) (kept_ends names (tokens_in is.all_forms) (scan_ready names 0 source is.all_forms is.scanned).0)

pub parted_named : (names : Texts) (source : List ℕ) (found : List Fault) (forms : List (List Token)) → IsParted names source found forms → AllTokensOf names forms
parted_named names source found forms is = subst (AllTokensOf names) (sym is.keeps) (kept_of_table names (tokens_in is.all_forms) (scan_ready names 0 source is.all_forms is.scanned).1)

-- where nothing was found before, all forms are of tokens and kept
record IsClear (names : Texts) (source : List ℕ) (all_forms : List Form) (forms : List (List Token)) : Type 0 where
  none_faulty : faults_in all_forms ≡ []
  none_out : left_out_faults names (tokens_in all_forms) ≡ []
  scans : ScansTo names 0 source (tokens_in all_forms)
  same : forms ≡ tokens_in all_forms

clear : (names : Texts) (source : List ℕ) (found : List Fault) (forms : List (List Token)) (is : IsParted names source found forms) → found ≡ [] → IsClear names source is.all_forms forms
clear names source found forms is none =
    let both = none_first (faults_in is.all_forms) (left_out_faults names (tokens_in is.all_forms)) (set_none _ (sym is.finds ∙ none)) in
    record {
      none_faulty = both.0;
      none_out = both.1;
      scans = subst (Scans names 0 source) (sym (all_tokens is.all_forms both.0)) is.scanned;
      same = is.keeps ∙ all_kept names (tokens_in is.all_forms) both.1;
    }

source_of : (names : Texts) (source : List ℕ) (m : ModuleTree) (all_forms : List Form) (forms : List (List Token)) → AllDiffer names → IsClear names source all_forms forms → ReadsModule names m forms → IsBuilt names m → IsSource names source m
source_of names source m all_forms forms differ is reads built = record {
  differ = differ;
  forms = tokens_in all_forms;
  scanned = is.scans;
  whole = is.none_out;
  reads = subst (ReadsModule names m) is.same reads;
  built = built;
}

read_of : (names : Texts) (source : List ℕ) (found own : List Fault) (forms : List (List Token)) → AllDiffer names → (is : IsParted names source found forms) → ModuleFaults names forms own
    → IsRead names source (faults_in is.all_forms ++ (left_out_faults names (tokens_in is.all_forms) ++ own))
read_of names source found own forms differ is are = record {
  differ = differ;
  forms = is.all_forms;
  scanned = is.scanned;
  own = own;
  others = subst (λ l. ModuleFaults names l own) is.keeps are;
  are = refl;
}

-- a module that is read has no faults of reading
no_own : (names : Texts) (m : ModuleTree) (forms : List (List Token)) → ReadsModule names m forms → ModuleFaults names forms []
no_own names m forms is = record { trees = m.forms; own = []; reads = is.reads; are = sym is.ordered }

faults_of : (names : Texts) (source : List ℕ) (found faults : List Fault) (forms : List (List Token)) → AllDiffer names → IsParted names source found forms → faults ≢ [] → AreFaulty names forms found faults → HasFaults source faults
faults_of names source found faults forms differ is some (reading own are sum) =
    let front = faults_in is.all_forms in
    let out = left_out_faults names (tokens_in is.all_forms) in
    let same : faults ≡ set_of (front ++ (out ++ own)) = sum (front ++ out) is.finds ∙ ap set_of (append_assoc front out own) in
    of_reading names (front ++ (out ++ own)) (read_of names source found own forms differ is are) (some_set faults (front ++ (out ++ own)) some same) same
faults_of names source found faults forms differ is some (unbuilt m none single never are) =
    let free = clear names source found forms is none in
    let nothing : faults_in is.all_forms ++ (left_out_faults names (tokens_in is.all_forms) ++ []) ≡ [] = ap (λ l. l ++ (left_out_faults names (tokens_in is.all_forms) ++ [])) free.none_faulty ∙ ap (λ l. l ++ []) free.none_out in
    not_built names (subst (IsRead names source) nothing (read_of names source found [] forms differ is (no_own names m forms single.reads)))
    (λ all n origin.
    let other = other_source names all source (tokens_in is.all_forms) n differ free.scans origin in
    let same : other.module_tree ≡ m = single.alone other.module_tree (subst (ReadsModule names other.module_tree) (sym free.same) other.reads) in
    never (subst (IsBuilt names) same other.is.built))
    are
faults_of names source found faults forms differ is some (of_functions m none reads are) =
    let free = clear names source found forms is none in
    of_module names m (source_of names source m is.all_forms forms differ free reads are.built) are.are

pub text_compiled : (names : Texts) (source : List ℕ) (found : List Fault) (forms : List (List Token)) (result : Compiled) → AllDiffer names → IsParted names source found forms → IsCompiledForms names forms found result
    → IsCompiledText source result
text_compiled names source found forms (Module l) differ is made =
    let free = clear names source found forms is made.0 in
    let origin = source_of names source made.1 is.all_forms forms differ free made.2 made.3.built in
    let none = set_none (module_faults names made.1) (sym made.3.are) in (
      of_module names made.1 origin made.3.are,
      record { all = names; module_tree = made.1; spelled = origin; later = l.names; extends = made.4.extends; differ = made.4.differ; utf8 = made.4.utf8; written = written names made.1 l none made.4 },
      printed names made.1 l none made.4,
      made.4.writable,
    )
text_compiled names source found forms (Faulty faults) differ is made = (faults_of names source found faults forms differ is made.0 made.1, made.0)

-- ---- what is not built, at one module

one_some : (faults : List Fault) (f : Fault) → faults ≡ f ∷ [] → faults ≢ []
one_some faults f is none = let bad : [] ≡ f ∷ [] = sym none ∙ is in cc

pub not_that : (names : Texts) (m : ModuleTree) (faults : List Fault) (b : Bool) → ((all : Texts) → Extends names all → IsTrue b ↔ IsBuilt all m) → b ≡ false → faults ≡ fault.not_built ∷ []
    → IsCompiledModule names m (Faulty faults)
not_that names m faults b tells is are =
    (one_some faults fault.not_built are, inr (λ built. let bad : false ≡ true = sym is ∙ (tells names (extends_same names)).1 built in cc, are))

pub if_ok : {T E : Type 0} (r : Result T E) (P Q : T → Type 0) → ((y : T) → P y → Q y) → IfOk r P → IfOk r Q
if_ok (Ok y) P Q f h = f y h
if_ok (Err e) P Q f h = h
