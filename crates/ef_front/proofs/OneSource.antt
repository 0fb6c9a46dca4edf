-- A source has one list of faults, whatever table its names are of.
use Rattle.std.proofs.Common.{◌≡◌, ℕ, List, [], ◌∷◌, ◌++◌, refl, sym, ap, ap₂, ◌∙◌, subst, map}
use Rattle.ef_base.specs.declared.fault.Fault.{Fault}
use Rattle.ef_base.specs.declared.name.Name.{Name}
use Rattle.ef_base.specs.Faults.{set_of}
use Rattle.ef_base.specs.Texts.{Texts, AllDiffer}
use Rattle.ef_token.specs.declared.token.Token.{Token}
use Rattle.ef_token.specs.TokenForm.{AllTokensOf}
use Rattle.ef_token.proofs.OneScan.{AreAlike, two_scans}
use Rattle.ef_scan.specs.Scan.{Form, tokens, faulty, ScansTo}
use Rattle.ef_forms.specs.OfTable.{FormsOf}
use Rattle.ef_forms.specs.Tree.{ModuleTree}
use Rattle.ef_forms.proofs.Renamed.{renamed_placed, renamed_module}
use Rattle.ef_build.proofs.RenamedTokens.{renamed_token}
use Rattle.ef_rows.proofs.Renamed.{Renames}
use Rattle.ef_rows.proofs.TwoTables.{IsRenamed, AreRenamed, renaming, renaming_renames, tokens_alike, forms_alike}
use Rattle.ef_module.specs.Modules.{ReadsModule, ModuleFaults}
use Rattle.ef_module.proofs.OneReading.{one_module, one_module_faults, faultless_module, forms_of_table}
use Rattle.ef_module.proofs.Renamed.{other_module, other_faults}
use Rattle.ef_front.specs.LeftOut.{left_out_faults, kept}
use Rattle.ef_front.specs.Source.{IsRead, IsSource, HasFaults, of_reading, of_module, not_built, faults_in, tokens_in, module_faults}
use Rattle.ef_front.proofs.RenamedBuilt.{built_module}
use Rattle.ef_front.proofs.RenamedFaults.{faults_renamed}
use Rattle.ef_front.proofs.RenamedLeftOut.{kept_of_table, all_kept, kept_stays, left_out_faults_stay}

-- ---- the forms of a text under two tables

module _ (a b : Texts) where
  same_faulty : (fs gs : List Form) → AreAlike (IsRenamed a b) fs gs → faults_in fs ≡ faults_in gs
  same_faulty [] [] h = refl
  same_faulty [] (g ∷ gs) h = absurd h
  same_faulty (tokens ts ∷ fs) [] h = absurd h
  same_faulty (tokens ts ∷ fs) (tokens us ∷ gs) h = same_faulty fs gs h.1
  same_faulty (tokens ts ∷ fs) (faulty g ∷ gs) h = absurd h
  same_faulty (faulty f ∷ fs) [] h = absurd h
  same_faulty (faulty f ∷ fs) (tokens us ∷ gs) h = absurd h
  same_faulty (faulty f ∷ fs) (faulty g ∷ gs) h = ap₂ (λ x l. x ∷ l) h.0 (same_faulty fs gs h.1)

  same_tokens : (fs gs : List Form) → AreAlike (IsRenamed a b) fs gs → AreRenamed a b (tokens_in fs) (tokens_in gs)
  same_tokens [] [] h = record { renamed = refl; of_table = tt }
  same_tokens [] (g ∷ gs) h = absurd h
  same_tokens (tokens ts ∷ fs) [] h = absurd h
  same_tokens (tokens ts ∷ fs) (tokens us ∷ gs) h =
      let rest = same_tokens fs gs h.1 in
      record { renamed = ap₂ (λ x l. x ∷ l) (sym h.0.0) rest.renamed; of_table = (h.0.1, rest.of_table) }
  same_tokens (tokens ts ∷ fs) (faulty g ∷ gs) h = absurd h
  same_tokens (faulty f ∷ fs) [] h = absurd h
  same_tokens (faulty f ∷ fs) (tokens us ∷ gs) h = absurd h
  same_tokens (faulty f ∷ fs) (faulty g ∷ gs) h = same_tokens fs gs h.1

  module _ (differ : AllDiffer b) (forms_a forms_b : List (List Token)) (alike : AreRenamed a b forms_a forms_b) where
    named : AllTokensOf a (map (map (renamed_token (renaming a b))) forms_b)
    named = subst (AllTokensOf a) (sym alike.renamed) alike.of_table

    same_left_out : left_out_faults a forms_a ≡ left_out_faults b forms_b
    same_left_out = ap (left_out_faults a) (sym alike.renamed) ∙ left_out_faults_stay a b (renaming a b) (renaming_renames a b differ) forms_b named

    same_kept : AreRenamed a b (kept a forms_a) (kept b forms_b)
    same_kept = record {
      renamed = sym (kept_stays a b (renaming a b) (renaming_renames a b differ) forms_b named) ∙ ap (kept a) alike.renamed;
      of_table = kept_of_table a forms_a alike.of_table;
    }

    -- the faults of the forms that are kept
    same_others : (xs ys : List Fault) → ModuleFaults a (kept a forms_a) xs → ModuleFaults b (kept b forms_b) ys → xs ≡ ys
    same_others xs ys x y = one_module_faults a (kept a forms_a) xs ys x (other_faults a b differ (kept a forms_a) (kept b forms_b) same_kept ys y)

-- what is found where a text is read is one list
one_read : (a b : Texts) (source : List ℕ) (xs ys : List Fault) → IsRead a source xs → IsRead b source ys → xs ≡ ys
one_read a b source xs ys x y =
    let alike = two_scans a b 0 source (IsRenamed a b) x.forms y.forms (tokens_alike a b x.differ 0) x.scanned y.scanned in
    let same = same_tokens a b x.forms y.forms alike in
    let left_out = same_left_out a b y.differ (tokens_in x.forms) (tokens_in y.forms) same in
    let others = same_others a b y.differ (tokens_in x.forms) (tokens_in y.forms) same x.own y.own x.others y.others in
    x.are ∙ ap₂ (λ fs gs. fs ++ gs) (same_faulty a b x.forms y.forms alike) (ap₂ (λ fs gs. fs ++ gs) left_out others) ∙ sym y.are

-- ---- a source without faults of reading

none_faulty : (forms : List (List Token)) → faults_in (map tokens forms) ≡ []
none_faulty [] = refl
none_faulty (form ∷ forms) = none_faulty forms

all_tokens : (forms : List (List Token)) → tokens_in (map tokens forms) ≡ forms
all_tokens [] = refl
all_tokens (form ∷ forms) = ap (λ l. form ∷ l) (all_tokens forms)

pub read_source : (all : Texts) (source : List ℕ) (m : ModuleTree) → IsSource all source m → IsRead all source []
read_source all source m is =
    let forms = all_tokens is.forms in
    let whole = ap (kept all) forms ∙ all_kept all is.forms is.whole in
    record {
      differ = is.differ;
      forms = map tokens is.forms;
      scanned = is.scanned;
      own = [];
      others = subst (λ tss. ModuleFaults all tss []) (sym whole) (faultless_module all m is.forms is.reads);
      are = sym (ap₂ (λ fs gs. fs ++ (gs ++ [])) (none_faulty is.forms) (ap (left_out_faults all) forms ∙ is.whole));
    }

-- a module of the source under the other table, with the same faults
pub record OtherSource (a b : Texts) (source : List ℕ) (forms : List (List Token)) (m : ModuleTree) : Type 0 where
  pub module_tree : ModuleTree
  pub is : IsSource a source module_tree
  pub reads : ReadsModule a module_tree forms
  pub faults : module_faults a module_tree ≡ module_faults b m

pub other_source : (a b : Texts) (source : List ℕ) (forms : List (List Token)) (m : ModuleTree) → AllDiffer a → ScansTo a 0 source forms → IsSource b source m
    → OtherSource a b source forms m
other_source a b source forms m differ scanned is =
    let r : Name → Name = renaming a b in
    let renames : Renames a b r = renaming_renames a b is.differ in
    let alike = forms_alike a b differ 0 source forms is.forms scanned is.scanned in
    let reads = other_module a b is.differ forms is.forms alike m is.reads in
    let of : FormsOf a (map (renamed_placed r) m.forms) = forms_of_table a forms (map (renamed_placed r) m.forms) [] alike.of_table reads.reads in
    record {
      module_tree = renamed_module r m;
      is = record {
        differ = differ;
        forms = forms;
        scanned = scanned;
        whole = same_left_out a b is.differ forms is.forms alike ∙ is.whole;
        reads = reads;
        built = built_module a b r renames m of is.built;
      };
      reads = reads;
      faults = faults_renamed a b r renames m.forms of;
    }

pub same_faults : (a b : Texts) (source : List ℕ) (n m : ModuleTree) → IsSource a source n → IsSource b source m → module_faults a n ≡ module_faults b m
same_faults a b source n m one two =
    let other = other_source a b source one.forms m one.differ one.scanned two in
    ap (module_faults a) (one_module a n other.module_tree one.forms one.reads other.reads) ∙ other.faults

-- ---- the faults of a source are one list

pub one_faults : (source : List ℕ) (xs ys : List Fault) → HasFaults source xs → HasFaults source ys → xs ≡ ys
one_faults source xs ys (of_reading a found x some is) (of_reading b others y some' is') = is ∙ ap set_of (one_read a b source found others x y) ∙ sym is'
one_faults source xs ys (of_reading a found x some is) (not_built b y none is') = absurd (some (one_read a b source found [] x y))
one_faults source xs ys (of_reading a found x some is) (of_module b m t is') = absurd (some (one_read a b source found [] x (read_source b source m t)))
one_faults source xs ys (not_built a x none is) (of_reading b others y some is') = absurd (some (one_read b a source others [] y x))
one_faults source xs ys (not_built a x none is) (not_built b y none' is') = is ∙ sym is'
one_faults source xs ys (not_built a x none is) (of_module b m t is') = absurd (none b m t)
one_faults source xs ys (of_module a m s is) (of_reading b others y some is') = absurd (some (one_read b a source others [] y (read_source a source m s)))
one_faults source xs ys (of_module a m s is) (not_built b y none is') = absurd (none a m s)
one_faults source xs ys (of_module a m s is) (of_module b n t is') = is ∙ ap set_of (same_faults a b source m n s t) ∙ sym is'
