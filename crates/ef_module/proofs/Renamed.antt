-- Tokens under other names are read as the renamed forms and modules, or have the same faults.
use Rattle.std.proofs.Common.{◌≡◌, ℕ, ◌-◌, Bool, false, not, cond, nat_eq, List, [], ◌∷◌, ◌++◌, Some, refl, sym, ap, ap₂, ◌∙◌, subst, map, option_map}
use Rattle.std.specs.Prelude.{◌||◌, ◌&&◌}
use Rattle.std.specs.List.{list_any}
use Rattle.ef_base.specs.declared.fault.Fault.{Fault}
use Rattle.ef_base.specs.declared.name.Name.{Name}
use Rattle.ef_base.specs.FaultTable as table
use Rattle.ef_base.specs.NamedFaults.{plain, too_deep}
use Rattle.ef_base.specs.Texts.{Texts, AllDiffer, HasName}
use Rattle.ef_token.specs.declared.token.Token.{Token}
use Rattle.ef_token.specs.TokenForm.{TokensOf, AllTokensOf}
use Rattle.ef_forms.specs.OfTable.{FormOf, FormsOf, ModuleOf}
use Rattle.ef_forms.specs.Tree.{FormTree, PlacedTree, ModuleTree, module_name, export, import, record_of, attribute, dropped, export_all, function}
use Rattle.ef_forms.proofs.Renamed.{renamed_form, renamed_placed, renamed_module}
use Rattle.ef_parse.specs.Spelled.{start_of, SpellsForm, IsDeepForm, IsNoForm}
use Rattle.ef_parse.proofs.Renamed.{renamed_token, Renames, renaming, renaming_renames, AreRenamed, spells_form, deep_form, no_form}
use Rattle.ef_parse.proofs.Renamed as names
use Rattle.ef_module.specs.Forms.{FormFaults, of_tokens, is_not_spelled, is_too_deep, of_tree, ReadsForm}
use Rattle.ef_profile.specs.Kinds.{kind_of}
use Rattle.ef_module.specs.Modules.{ReadsForms, no_forms, read, faulty, module_named, is_module, is_module_kind, begins_module, seconds, has_module, before_module, no_module_faults, module_faults, is_function, late_word, late_fault, late_faults, number_faults, attribute_faults, order_faults, most_functions, first_name, ReadsModule, ModuleFaults}
use Rattle.ef_profile.specs.Unbuilt.{tree_faults}
use Rattle.ef_module.proofs.Later.{kept_of}
use Rattle.ef_module.proofs.RenamedFaults.{joined, start_stays, kind_stays, token_faults_stay, not_spelled_stays, tree_faults_stay, kept_stays}

-- ---- the order of forms

module _ (r : Name → Name) where
  module_stays : (f : FormTree) → is_module (renamed_form r f) ≡ is_module f
  module_stays (module_name n) = refl
  module_stays (export fs) = refl
  module_stays (import m fs) = refl
  module_stays (record_of d) = refl
  module_stays (attribute n e) = refl
  module_stays dropped = refl
  module_stays export_all = refl
  module_stays (function f) = refl

  function_stays : (f : FormTree) → is_function (renamed_form r f) ≡ is_function f
  function_stays (module_name n) = refl
  function_stays (export fs) = refl
  function_stays (import m fs) = refl
  function_stays (record_of d) = refl
  function_stays (attribute n e) = refl
  function_stays dropped = refl
  function_stays export_all = refl
  function_stays (function f) = refl

  word_stays : (f : FormTree) → late_word (renamed_form r f) ≡ late_word f
  word_stays (module_name n) = refl
  word_stays (export fs) = refl
  word_stays (import m fs) = refl
  word_stays (record_of d) = refl
  word_stays (attribute n e) = refl
  word_stays dropped = refl
  word_stays export_all = refl
  word_stays (function f) = refl

  named_stays : (f : FormTree) → module_named (renamed_form r f) ≡ option_map r (module_named f)
  named_stays (module_name n) = refl
  named_stays (export fs) = refl
  named_stays (import m fs) = refl
  named_stays (record_of d) = refl
  named_stays (attribute n e) = refl
  named_stays dropped = refl
  named_stays export_all = refl
  named_stays (function f) = refl

  has_module_stays : (fs : List PlacedTree) → has_module (map (renamed_placed r) fs) ≡ has_module fs
  has_module_stays [] = refl
  has_module_stays (f ∷ fs) = ap₂ (λ a b. a || b) (module_stays f.form) (has_module_stays fs)

  before_stays : (fs : List PlacedTree) → before_module (map (renamed_placed r) fs) ≡ before_module fs
  before_stays [] = refl
  before_stays (f ∷ fs) = ap (λ b. cond (not b) (plain f.place table.form_before_module ∷ []) []) (module_stays f.form)

  seconds_stay : (seen : Bool) (fs : List PlacedTree) → seconds seen (map (renamed_placed r) fs) ≡ seconds seen fs
  seconds_stay seen [] = refl
  seconds_stay seen (f ∷ fs) =
      joined (ap (λ b. cond (b && seen) (plain f.place table.second_module ∷ []) []) (module_stays f.form))
      (ap (λ b. seconds (seen || b) (map (renamed_placed r) fs)) (module_stays f.form) ∙ seconds_stay (seen || is_module f.form) fs)

  module_faults_stay : (fs : List PlacedTree) → module_faults (map (renamed_placed r) fs) ≡ module_faults fs
  module_faults_stay fs =
      ap₂ (λ b faults. cond b faults (no_module_faults false)) (has_module_stays fs) (joined (before_stays fs) (seconds_stay false fs))

  late_stays : (seen : Bool) (fs : List PlacedTree) → late_faults seen (map (renamed_placed r) fs) ≡ late_faults seen fs
  late_stays seen [] = refl
  late_stays seen (f ∷ fs) =
      joined (ap (λ w. cond seen (late_fault f.place w) []) (word_stays f.form))
      (ap (λ b. late_faults (seen || b) (map (renamed_placed r) fs)) (function_stays f.form) ∙ late_stays (seen || is_function f.form) fs)

  number_stays : (left : ℕ) (fs : List PlacedTree) → number_faults left (map (renamed_placed r) fs) ≡ number_faults left fs
  number_stays left [] = refl
  number_stays left (f ∷ fs) =
      ap (λ b. cond (b && nat_eq left 0) (plain f.place table.too_many_functions ∷ []) (number_faults (cond b (left - 1) left) (map (renamed_placed r) fs))) (function_stays f.form)
      ∙ ap (λ faults. cond (is_function f.form && nat_eq left 0) (plain f.place table.too_many_functions ∷ []) faults) (number_stays (cond (is_function f.form) (left - 1) left) fs)

  first_stays : (fs : List PlacedTree) → first_name (map (renamed_placed r) fs) ≡ option_map r (first_name fs)
  first_stays [] = refl
  first_stays (f ∷ fs) = named_stays f.form

module _ (new old : Texts) (r : Name → Name) (renames : Renames new old r) where
  -- ---- forms

  form_of : (ts : List Token) (f : FormTree) (heads : List Fault) → TokensOf new (map (renamed_token r) ts) → SpellsForm old (kind_of old ts) f heads ts → FormOf new (renamed_form r f)
  form_of ts f heads h s = names.form_of_table new (map (renamed_token r) ts) h (kind_of old ts) (renamed_form r f) heads (spells_form new old r renames ts h (kind_of old ts) f heads s)

  -- the renamed tokens spell the renamed form
  spells : (ts : List Token) (f : FormTree) (heads : List Fault) → TokensOf new (map (renamed_token r) ts) → SpellsForm old (kind_of old ts) f heads ts
      → SpellsForm new (kind_of new (map (renamed_token r) ts)) (renamed_form r f) heads (map (renamed_token r) ts)
  spells ts f heads h s =
      subst (λ k. SpellsForm new k (renamed_form r f) heads (map (renamed_token r) ts)) (sym (kind_stays new old r renames ts h))
      (spells_form new old r renames ts h (kind_of old ts) f heads s)

  deep : (ts : List Token) → TokensOf new (map (renamed_token r) ts) → IsDeepForm old (kind_of old ts) ts → IsDeepForm new (kind_of new (map (renamed_token r) ts)) (map (renamed_token r) ts)
  deep ts h d = subst (λ k. IsDeepForm new k (map (renamed_token r) ts)) (sym (kind_stays new old r renames ts h)) (deep_form new old r renames ts h (kind_of old ts) d)

  -- and no form where the others spell none
  none_spelled : (ts : List Token) → TokensOf new (map (renamed_token r) ts) → IsNoForm old (kind_of old ts) ts → IsNoForm new (kind_of new (map (renamed_token r) ts)) (map (renamed_token r) ts)
  none_spelled ts h n = subst (λ k. IsNoForm new k (map (renamed_token r) ts)) (sym (kind_stays new old r renames ts h)) (no_form new old r renames ts h (kind_of old ts) n)

  pub reads_form : (f : FormTree) (ts : List Token) → TokensOf new (map (renamed_token r) ts) → ReadsForm old f ts → ReadsForm new (renamed_form r f) (map (renamed_token r) ts)
  reads_form f ts h x =
      let of : FormOf new (renamed_form r x.written) = form_of ts x.written [] h x.spelled in
      record {
        written = renamed_form r x.written;
        tokens = token_faults_stay new old r renames ts h ∙ x.tokens;
        spelled = spells ts x.written [] h x.spelled;
        tree = ap (λ p. tree_faults new p (renamed_form r x.written)) (start_stays r ts) ∙ tree_faults_stay new old r renames (start_of ts) x.written of ∙ x.tree;
        is = ap (renamed_form r) x.is ∙ sym (kept_stays new old r renames x.written of);
      }

  pub form_faults : (ts : List Token) (faults : List Fault) → TokensOf new (map (renamed_token r) ts) → FormFaults old ts faults → FormFaults new (map (renamed_token r) ts) faults
  form_faults ts faults h (of_tokens some) =
      let same = token_faults_stay new old r renames ts h in
      subst (FormFaults new (map (renamed_token r) ts)) same (of_tokens (λ e. some (sym same ∙ e)))
  form_faults ts faults h (is_not_spelled none unmade) =
      subst (λ f. FormFaults new (map (renamed_token r) ts) (f ∷ [])) (not_spelled_stays new old r renames ts h)
      (is_not_spelled (token_faults_stay new old r renames ts h ∙ none) (none_spelled ts h unmade))
  form_faults ts faults h (is_too_deep none too) =
      subst (λ p. FormFaults new (map (renamed_token r) ts) (too_deep p ∷ [])) (start_stays r ts)
      (is_too_deep (token_faults_stay new old r renames ts h ∙ none) (deep ts h too))
  form_faults ts faults h (of_tree f heads none s some) =
      let same : heads ++ tree_faults new (start_of (map (renamed_token r) ts)) (renamed_form r f) ≡ heads ++ tree_faults old (start_of ts) f =
      ap (λ x. heads ++ x) (ap (λ p. tree_faults new p (renamed_form r f)) (start_stays r ts) ∙ tree_faults_stay new old r renames (start_of ts) f (form_of ts f heads h s)) in
      subst (FormFaults new (map (renamed_token r) ts)) same
      (of_tree (renamed_form r f) heads (token_faults_stay new old r renames ts h ∙ none) (spells ts f heads h s) (λ e. some (sym same ∙ e)))

  -- ---- modules

  pub reads_forms : (tss : List (List Token)) (fs : List PlacedTree) (faults : List Fault) → AllTokensOf new (map (map (renamed_token r)) tss) → ReadsForms old tss fs faults
      → ReadsForms new (map (map (renamed_token r)) tss) (map (renamed_placed r) fs) faults
  reads_forms tss fs faults h no_forms = no_forms
  reads_forms tss fs faults h (read ts us f gs found x rest) =
      subst (λ p. ReadsForms new (map (map (renamed_token r)) (ts ∷ us)) (record { place = p; form = renamed_form r f } ∷ map (renamed_placed r) gs) found) (start_stays r ts)
      (read (map (renamed_token r) ts) (map (map (renamed_token r)) us) (renamed_form r f) (map (renamed_placed r) gs) found (reads_form f ts h.0 x) (reads_forms us gs found h.1 rest))
  reads_forms tss fs faults h (faulty ts us gs own found x rest) =
      faulty (map (renamed_token r) ts) (map (map (renamed_token r)) us) (map (renamed_placed r) gs) own found (form_faults ts own h.0 x) (reads_forms us gs found h.1 rest)

  begins_stay : (tss : List (List Token)) → AllTokensOf new (map (map (renamed_token r)) tss) → list_any (begins_module new) (map (map (renamed_token r)) tss) ≡ list_any (begins_module old) tss
  begins_stay [] h = refl
  begins_stay (ts ∷ tss) h = ap₂ (λ a b. a || b) (ap is_module_kind (kind_stays new old r renames ts h.0)) (begins_stay tss h.1)

  attribute_faults_stay : (tss : List (List Token)) (fs : List PlacedTree) (faults : List Fault) → AllTokensOf new (map (map (renamed_token r)) tss)
      → attribute_faults new (map (map (renamed_token r)) tss) (map (renamed_placed r) fs) faults ≡ attribute_faults old tss fs faults
  attribute_faults_stay tss fs [] h = module_faults_stay r fs
  attribute_faults_stay tss fs (f ∷ faults) h = ap no_module_faults (begins_stay tss h)

  pub order_faults_stay : (tss : List (List Token)) (fs : List PlacedTree) (faults : List Fault) → AllTokensOf new (map (map (renamed_token r)) tss)
      → order_faults new (map (map (renamed_token r)) tss) (map (renamed_placed r) fs) faults ≡ order_faults old tss fs faults
  order_faults_stay tss fs faults h =
      joined (attribute_faults_stay tss fs faults h) (joined (late_stays r false fs) (number_stays r most_functions fs))

  pub reads_module : (m : ModuleTree) (forms : List (List Token)) → AllTokensOf new (map (map (renamed_token r)) forms) → ReadsModule old m forms
      → ReadsModule new (renamed_module r m) (map (map (renamed_token r)) forms)
  reads_module m forms h x = record {
    reads = reads_forms forms m.forms [] h x.reads;
    ordered = order_faults_stay forms m.forms [] h ∙ x.ordered;
    named = first_stays r m.forms ∙ ap (option_map r) x.named;
  }

  pub module_faults_renamed : (forms : List (List Token)) (faults : List Fault) → AllTokensOf new (map (map (renamed_token r)) forms) → ModuleFaults old forms faults
      → ModuleFaults new (map (map (renamed_token r)) forms) faults
  module_faults_renamed forms faults h x = record {
    trees = map (renamed_placed r) x.trees;
    own = x.own;
    reads = reads_forms forms x.trees x.own h x.reads;
    are = x.are ∙ ap (λ e. x.own ++ e) (sym (order_faults_stay forms x.trees x.own h));
  }

-- ---- a text under two tables

module _ (a b : Texts) (differ : AllDiffer b) (forms_a forms_b : List (List Token)) (alike : AreRenamed a b forms_a forms_b) where
  named : AllTokensOf a (map (map (renamed_token (renaming a b))) forms_b)
  named = subst (AllTokensOf a) (sym alike.renamed) alike.of_table

  pub other_module : (m : ModuleTree) → ReadsModule b m forms_b → ReadsModule a (renamed_module (renaming a b) m) forms_a
  other_module m x =
      subst (ReadsModule a (renamed_module (renaming a b) m)) alike.renamed (reads_module a b (renaming a b) (renaming_renames a b differ) m forms_b named x)

  pub other_faults : (faults : List Fault) → ModuleFaults b forms_b faults → ModuleFaults a forms_a faults
  other_faults faults x = subst (λ tss. ModuleFaults a tss faults) alike.renamed (module_faults_renamed a b (renaming a b) (renaming_renames a b differ) forms_b faults named x)

-- ---- what is read has no names but those of the table

module _ (all : Texts) where
  pub form_of_table : (f : FormTree) (ts : List Token) → TokensOf all ts → ReadsForm all f ts → FormOf all f
  form_of_table f ts h x = subst (FormOf all) (sym x.is) (kept_of all x.written (names.form_of_table all ts h (kind_of all ts) x.written [] x.spelled))

  pub forms_of_table : (tss : List (List Token)) (fs : List PlacedTree) (faults : List Fault) → AllTokensOf all tss → ReadsForms all tss fs faults → FormsOf all fs
  forms_of_table tss fs faults h no_forms = tt
  forms_of_table tss fs faults h (read ts us f gs found x rest) = (form_of_table f ts h.0 x, forms_of_table us gs found h.1 rest)
  forms_of_table tss fs faults h (faulty ts us gs own found x rest) = forms_of_table us gs found h.1 rest

  some_left : (m n : Name) → Some m ≡ Some n → m ≡ n
  some_left m n e = cc

  named_of : (f : FormTree) (n : Name) → FormOf all f → module_named f ≡ Some n → HasName all n
  named_of (module_name m) n h e = subst (HasName all) (some_left m n e) h
  named_of _ n h e = absurd (cc)

  first_of : (fs : List PlacedTree) (n : Name) → FormsOf all fs → first_name fs ≡ Some n → HasName all n
  first_of [] n h e = absurd (cc)
  first_of (f ∷ fs) n h e = named_of f.form n h.0 e

  pub module_of_table : (m : ModuleTree) (tss : List (List Token)) → AllTokensOf all tss → ReadsModule all m tss → ModuleOf all m
  module_of_table m tss h x =
      let of = forms_of_table tss m.forms [] h x.reads in
      (first_of m.forms m.name of x.named, of)
