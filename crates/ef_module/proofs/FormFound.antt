-- What is found at each step to a form, under each later table of names.
use Rattle.std.proofs.Common.{◌≡◌, ◌≢◌, List, [], ◌∷◌, ◌++◌, refl, sym, ap, ◌∙◌, subst}
use Rattle.ef_base.specs.declared.fault.Fault.{Fault}
use Rattle.ef_base.specs.Faults.{set_of, insert_fault}
use Rattle.ef_base.specs.NamedFaults.{too_deep}
use Rattle.ef_base.specs.Texts.{Texts, Extends}
use Rattle.ef_token.specs.declared.token.Token.{Token}
use Rattle.ef_token.specs.TokenForm.{TokensOf}
use Rattle.ef_forms.specs.OfTable.{FormOf}
use Rattle.ef_forms.specs.Tree.{FormTree}
use Rattle.ef_parse.specs.declared.spelled.FormKind.{FormKind}
use Rattle.ef_parse.specs.Spelled as s
use Rattle.ef_parse.specs.Spelled.{start_of, SpellsForm, IsDeepForm, IsNoForm}
use Rattle.ef_profile.specs.Adds.{Adds}
use Rattle.ef_module.specs.Forms.{IsForm, AreFormFaults, kept}
use Rattle.ef_profile.specs.Kinds.{kind_of, not_spelled}
use Rattle.ef_module.specs.Refused.{token_faults}
use Rattle.ef_profile.specs.Unbuilt.{tree_faults}
use Rattle.ef_module.proofs.Answered.{tokens_faulty, no_form, deep_form, form_faulty, form_read}
use Rattle.ef_module.proofs.Later.{same_kind, same_token_faults, same_not_spelled, same_tree_faults, same_kept, kept_of}
use Rattle.ef_module.proofs.Sets.{none_written}

module _ (now all : Texts) (later : Extends now all) (ts : List Token) (named : TokensOf now ts) where
  pub at_tokens : (found : List Fault) → found ≡ set_of (token_faults now ts) → found ≢ [] → AreFormFaults all ts found
  at_tokens found is some = tokens_faulty all ts found (is ∙ ap set_of (sym (same_token_faults now all later ts named))) some

  module _ (none : token_faults now ts ≡ []) where
    later_none : token_faults all ts ≡ []
    later_none = same_token_faults now all later ts named ∙ none

    later_kind : (k : FormKind) → k ≡ kind_of now ts → k ≡ kind_of all ts
    later_kind k is = is ∙ sym (same_kind now all later ts named)

    pushed : (fault : Fault) (old new : List Fault) → old ≡ [] → new ≡ insert_fault fault old → new ≡ fault ∷ []
    pushed fault old new empty is = is ∙ ap (insert_fault fault) empty

    pub at_no_form : (k : FormKind) (fault : Fault) (old new : List Fault) → k ≡ kind_of now ts → IsNoForm all k ts
        → fault ≡ not_spelled now ts → old ≡ [] → new ≡ insert_fault fault old → AreFormFaults all ts new
    at_no_form k fault old new kind unspelled is empty push =
        no_form all ts later_none new
        (pushed fault old new empty push ∙ ap (λ f. f ∷ []) (is ∙ sym (same_not_spelled now all later ts named)))
        (subst (λ j. IsNoForm all j ts) (later_kind k kind) unspelled)

    pub at_deep_form : (k : FormKind) (fault : Fault) (old new : List Fault) → k ≡ kind_of now ts
        → IsDeepForm all k ts × ((g : FormTree) (heads : List Fault) → SpellsForm all k g heads ts → ⊥)
        → fault ≡ too_deep (start_of ts) → old ≡ [] → new ≡ insert_fault fault old → AreFormFaults all ts new
    at_deep_form k fault old new kind deep is empty push =
        let moved = subst (λ j. IsDeepForm all j ts × ((g : FormTree) (heads : List Fault) → SpellsForm all j g heads ts → ⊥)) (later_kind k kind) deep in
        deep_form all ts later_none new (pushed fault old new empty push ∙ ap (λ f. f ∷ []) is) moved.0 moved.1

    -- one form is spelled, and the faults of its heads and of its tree are added
    module _ (g : FormTree) (heads old mid new : List Fault) (one : s.IsForm all (kind_of now ts) g heads ts) (of_table : FormOf now g) (empty : old ≡ [])
        (first : Adds heads old mid) (second : Adds (tree_faults now (start_of ts) g) mid new) where
      moved : s.IsForm all (kind_of all ts) g heads ts
      moved = subst (λ j. s.IsForm all j g heads ts) (later_kind (kind_of now ts) refl) one

      found_is : new ≡ set_of (heads ++ tree_faults all (start_of ts) g)
      found_is = second heads (first [] empty) ∙ ap (λ l. set_of (heads ++ l)) (sym (same_tree_faults now all later (start_of ts) g of_table))

      pub at_faulty : new ≢ [] → AreFormFaults all ts new
      at_faulty some = form_faulty all ts later_none g heads moved new found_is some

      pub at_form : (h : FormTree) → new ≡ [] → FormOf all g → h ≡ kept now g → IsForm all h ts × FormOf all h
      at_form h faultless of_all is =
          let same : kept all g ≡ h = same_kept now all later g of_table ∙ sym is in (
            subst (λ k. IsForm all k ts) same (form_read all ts later_none g heads moved (none_written new _ found_is faultless)),
            subst (FormOf all) same (kept_of all g of_all),
          )
