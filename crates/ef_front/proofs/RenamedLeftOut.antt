-- Which forms are left out under other names of the same texts.
use Rattle.std.proofs.Common.{◌≡◌, Bool, true, false, cond, bytes_eq, List, [], ◌∷◌, refl, ap, ap₂, ◌∙◌, map}
use Rattle.std.specs.Prelude.{◌&&◌, ◌||◌}
use Rattle.std.specs.List.{list_any}
use Rattle.ef_base.specs.declared.fault.Fault.{Fault}
use Rattle.ef_base.specs.declared.fault.Place.{Place}
use Rattle.ef_base.specs.declared.name.Name.{Name}
use Rattle.ef_base.specs.FaultTable as table
use Rattle.ef_base.specs.NamedFaults.{plain}
use Rattle.ef_base.specs.Texts.{Texts}
use Rattle.ef_token.specs.declared.token.Token.{Token}
use Rattle.ef_token.specs.declared.token.TokenKind.{TokenKind}
use Rattle.ef_token.specs.declared.token.TokenKind.TheVariants as kind
use Rattle.ef_token.specs.TokenForm.{KindOf, TokensOf, AllTokensOf}
use Rattle.ef_build.proofs.RenamedTokens.{renamed_kind, renamed_token}
use Rattle.ef_rows.proofs.Renamed.{Renames}
use Rattle.ef_parse.specs.Spelled.{start_of}
use Rattle.ef_profile.specs.Kinds.{is_minus}
use Rattle.ef_module.proofs.RenamedFaults.{start_stays}
use Rattle.ef_front.specs.LeftOut.{directives, is_directive, begins_directive, is_question, is_left_out, kept, left_out_faults}

-- ---- of one table

both_of : (all : Texts) (ts : List Token) (tss : List (List Token)) (b : Bool) → TokensOf all ts → AllTokensOf all tss → AllTokensOf all (cond b tss (ts ∷ tss))
both_of all ts tss true h k = k
both_of all ts tss false h k = (h, k)

pub kept_of_table : (all : Texts) (tss : List (List Token)) → AllTokensOf all tss → AllTokensOf all (kept all tss)
kept_of_table all [] h = tt
kept_of_table all (ts ∷ tss) h = both_of all ts (kept all tss) (is_left_out all ts) h.0 (kept_of_table all tss h.1)

-- where none is left out, all are kept
pub all_kept : (all : Texts) (tss : List (List Token)) → left_out_faults all tss ≡ [] → kept all tss ≡ tss
all_kept all [] none = refl
all_kept all (ts ∷ tss) none = by_case (is_left_out all ts) (plain (start_of ts) table.not_built) (left_out_faults all tss) none (all_kept all tss)
  where
    by_case : (b : Bool) (f : Fault) (fs : List Fault) → cond b (f ∷ fs) fs ≡ [] → (fs ≡ [] → kept all tss ≡ tss) → cond b (kept all tss) (ts ∷ kept all tss) ≡ ts ∷ tss
    by_case true f fs none behind = absurd (cc)
    by_case false f fs none behind = ap (λ us. ts ∷ us) (behind none)

-- ---- under other names

module _ (r : Name → Name) where
  minus_stays : (k : TokenKind) → is_minus (renamed_kind r k) ≡ is_minus k
  minus_stays (kind.Atom n) = refl
  minus_stays (kind.Var n) = refl
  minus_stays k = refl

  question_stays : (k : TokenKind) → is_question (renamed_kind r k) ≡ is_question k
  question_stays (kind.Atom n) = refl
  question_stays (kind.Var n) = refl
  question_stays k = refl

  questions_stay : (ts : List Token) → list_any (λ (t : Token). is_question t.kind) (map (renamed_token r) ts) ≡ list_any (λ (t : Token). is_question t.kind) ts
  questions_stay [] = refl
  questions_stay (t ∷ ts) = ap₂ (λ p q. p || q) (question_stays t.kind) (questions_stay ts)

  kept_as : (b : Bool) (ts : List Token) (tss : List (List Token))
      → cond b (map (map (renamed_token r)) tss) (map (renamed_token r) ts ∷ map (map (renamed_token r)) tss) ≡ map (map (renamed_token r)) (cond b tss (ts ∷ tss))
  kept_as true ts tss = refl
  kept_as false ts tss = refl

module _ (new old : Texts) (r : Name → Name) (renames : Renames new old r) where
  directive_stays : (k : TokenKind) → KindOf new (renamed_kind r k) → is_directive new (renamed_kind r k) ≡ is_directive old k
  directive_stays (kind.Atom n) h = ap (λ t. list_any (λ d. bytes_eq t d) directives) (renames.keeps n h)
  directive_stays (kind.Var n) h = refl
  directive_stays (kind.Word w) h = refl
  directive_stays k h = refl

  begins_stays : (ts : List Token) → TokensOf new (map (renamed_token r) ts) → begins_directive new (map (renamed_token r) ts) ≡ begins_directive old ts
  begins_stays [] h = refl
  begins_stays (t ∷ []) h = refl
  begins_stays (t ∷ u ∷ ts) h = ap₂ (λ p q. p && q) (minus_stays r t.kind) (directive_stays u.kind h.1.0)

  left_out_stays : (ts : List Token) → TokensOf new (map (renamed_token r) ts) → is_left_out new (map (renamed_token r) ts) ≡ is_left_out old ts
  left_out_stays ts h = ap₂ (λ p q. p || q) (begins_stays ts h) (questions_stay r ts)

  pub kept_stays : (tss : List (List Token)) → AllTokensOf new (map (map (renamed_token r)) tss) → kept new (map (map (renamed_token r)) tss) ≡ map (map (renamed_token r)) (kept old tss)
  kept_stays [] h = refl
  kept_stays (ts ∷ tss) h =
      ap₂ (λ b us. cond b us (map (renamed_token r) ts ∷ us)) (left_out_stays ts h.0) (kept_stays tss h.1) ∙ kept_as r (is_left_out old ts) ts (kept old tss)

  pub left_out_faults_stay : (tss : List (List Token)) → AllTokensOf new (map (map (renamed_token r)) tss) → left_out_faults new (map (map (renamed_token r)) tss) ≡ left_out_faults old tss
  left_out_faults_stay [] h = refl
  left_out_faults_stay (ts ∷ tss) h =
      ap₂ (λ b fs. cond b (plain (start_of (map (renamed_token r) ts)) table.not_built ∷ fs) fs) (left_out_stays ts h.0) (left_out_faults_stay tss h.1)
      ∙ ap (λ (p : Place). cond (is_left_out old ts) (plain p table.not_built ∷ left_out_faults old tss) (left_out_faults old tss)) (start_stays r ts)
