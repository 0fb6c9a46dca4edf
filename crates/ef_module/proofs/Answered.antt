-- What is answered for a form, by what its tokens spell.
use Rattle.std.proofs.Common.{◌≡◌, ◌≢◌, List, [], ◌∷◌, ◌++◌, refl, sym, ap, ◌∙◌, subst, true, false}
use Rattle.ef_base.specs.declared.fault.Fault.{Fault}
use Rattle.ef_base.specs.Faults.{set_of}
use Rattle.ef_base.specs.NamedFaults.{too_deep}
use Rattle.ef_base.specs.Texts.{Texts}
use Rattle.ef_token.specs.declared.token.Token.{Token}
use Rattle.ef_forms.specs.Tree.{FormTree}
use Rattle.ef_parse.specs.Spelled as s
use Rattle.ef_parse.specs.Spelled.{start_of, SpellsForm, IsDeepForm, IsNoForm}
use Rattle.ef_module.specs.Forms.{FormFaults, IsForm, AreFormFaults, kept, of_tokens, is_not_spelled, is_too_deep, of_tree}
use Rattle.ef_profile.specs.Kinds.{kind_of, not_spelled}
use Rattle.ef_module.specs.Refused.{token_faults}
use Rattle.ef_profile.specs.Unbuilt.{tree_faults}
use Rattle.ef_module.proofs.Sets.{no_fault, first_none, second_none, some_written}

module _ (all : Texts) (ts : List Token) where
  -- ---- tokens with faults

  pub tokens_faulty : (found : List Fault) → found ≡ set_of (token_faults all ts) → found ≢ [] → AreFormFaults all ts found
  tokens_faulty found is some =
      let faulty : token_faults all ts ≢ [] = some_written found (token_faults all ts) is some in
      record {
        written = token_faults all ts;
        found = of_tokens faulty;
        sorted = is;
        some = some;
        alone = alone faulty;
        unread = λ f r. faulty r.tokens;
      }
    where
      alone : token_faults all ts ≢ [] → (others : List Fault) → FormFaults all ts others → set_of others ≡ found
      alone faulty others (of_tokens _) = sym is
      alone faulty others (is_not_spelled none unspelled) = absurd (faulty none)
      alone faulty others (is_too_deep none deep) = absurd (faulty none)
      alone faulty others (of_tree f heads none spells some) = absurd (faulty none)

  module _ (none : token_faults all ts ≡ []) where
    -- ---- no form, and one that is nested too deep

    pub no_form : (found : List Fault) → found ≡ not_spelled all ts ∷ [] → IsNoForm all (kind_of all ts) ts → AreFormFaults all ts found
    no_form found is unspelled = record {
      written = not_spelled all ts ∷ [];
      found = is_not_spelled none unspelled;
      sorted = is;
      some = λ e. no_fault (not_spelled all ts) [] (sym is ∙ e);
      alone = alone;
      unread = λ f r. unspelled r.written [] false r.spelled;
    }
      where
        alone : (others : List Fault) → FormFaults all ts others → set_of others ≡ found
        alone others (of_tokens some) = absurd (some none)
        alone others (is_not_spelled _ _) = sym is
        alone others (is_too_deep _ deep) = absurd (unspelled deep.0 deep.1 true deep.2)
        alone others (of_tree f heads _ spells _) = absurd (unspelled f heads false spells)

    pub deep_form : (found : List Fault) → found ≡ too_deep (start_of ts) ∷ [] → IsDeepForm all (kind_of all ts) ts
        → ((f : FormTree) (heads : List Fault) → SpellsForm all (kind_of all ts) f heads ts → ⊥) → AreFormFaults all ts found
    deep_form found is deep other = record {
      written = too_deep (start_of ts) ∷ [];
      found = is_too_deep none deep;
      sorted = is;
      some = λ e. no_fault (too_deep (start_of ts)) [] (sym is ∙ e);
      alone = alone;
      unread = λ f r. other r.written [] r.spelled;
    }
      where
        alone : (others : List Fault) → FormFaults all ts others → set_of others ≡ found
        alone others (of_tokens some) = absurd (some none)
        alone others (is_not_spelled _ unspelled) = absurd (unspelled deep.0 deep.1 true deep.2)
        alone others (is_too_deep _ _) = sym is
        alone others (of_tree f heads _ spells _) = absurd (other f heads spells)

    -- ---- one form

    module _ (f : FormTree) (heads : List Fault) (one : s.IsForm all (kind_of all ts) f heads ts) where
      pub form_faulty : (found : List Fault) → found ≡ set_of (heads ++ tree_faults all (start_of ts) f) → found ≢ [] → AreFormFaults all ts found
      form_faulty found is some =
          let faulty : heads ++ tree_faults all (start_of ts) f ≢ [] = some_written found (heads ++ tree_faults all (start_of ts) f) is some in
          record {
            written = heads ++ tree_faults all (start_of ts) f;
            found = of_tree f heads none one.spelled faulty;
            sorted = is;
            some = some;
            alone = alone;
            unread = λ g r.
                let same = one.alone r.written [] r.spelled in
                faulty (rw (sym same.0, sym same.1) r.tree);
          }
        where
          alone : (others : List Fault) → FormFaults all ts others → set_of others ≡ found
          alone others (of_tokens some) = absurd (some none)
          alone others (is_not_spelled _ unspelled) = absurd (unspelled f heads false one.spelled)
          alone others (is_too_deep _ deep) = absurd (one.shallow deep)
          alone others (of_tree g hs _ spells _) =
              let same = one.alone g hs spells in
              rw (same.0, same.1) (sym is)

      pub form_read : heads ++ tree_faults all (start_of ts) f ≡ [] → IsForm all (kept all f) ts
      form_read faultless = record {
        reads = record {
          written = f;
          tokens = none;
          spelled = subst (λ hs. SpellsForm all (kind_of all ts) f hs ts) (first_none heads _ faultless) one.spelled;
          tree = second_none heads _ faultless;
          is = refl;
        };
        alone = λ g r. r.is ∙ ap (kept all) (one.alone r.written [] r.spelled).0;
        faultless = no_faults;
      }
        where
          no_faults : (faults : List Fault) → FormFaults all ts faults → ⊥
          no_faults faults (of_tokens some) = some none
          no_faults faults (is_not_spelled _ unspelled) = unspelled f heads false one.spelled
          no_faults faults (is_too_deep _ deep) = one.shallow deep
          no_faults faults (of_tree g hs _ spells some) =
              let same = one.alone g hs spells in
              some (rw (same.0, same.1) faultless)
