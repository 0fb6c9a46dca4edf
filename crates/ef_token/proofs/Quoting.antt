-- A quoted text is read in one way: one character, illegal escape or closing quote after another.
use Rattle.std.proofs.Common.{ℕ, ◌≤◌, ◌≡◌, Bool, true, List, [], ◌∷◌, ◌++◌, length, arith, refl, sym, ap, ◌∙◌, append_assoc, length-append, inl, inr}
use Rattle.std.specs.Prelude.{◌⊎◌, ◌==◌, Option, Some, None}
use Rattle.std.proofs.lemmas.Bool.Decides.{nat_tests}
use Rattle.ef_base.specs.Escape.{Written, plainly, escaped}
use Rattle.ef_base.proofs.Escapes.{one_written, same_rest}
use Rattle.ef_token.specs.Letters.{is_quote}
use Rattle.ef_token.specs.Lexeme.{Quoted, closes, legal, illegal, IsIllegalEscape}

pub no_backslash : (quote : ℕ) → is_quote quote ≡ true → quote ≡ 92 → ⊥
no_backslash quote h e = absurd (grind (arith, nat_tests))

-- a character's text has a first character
pub written_begins : (special : ℕ → Bool) (c : ℕ) (front rest : List ℕ) → Written special c front rest → (d : ℕ) × (more : List ℕ) × (front ≡ d ∷ more)
written_begins special _ _ _ (plainly c rest other) = (c, [], refl)
written_begins special _ _ _ (escaped c text rest is) = (92, text, refl)

-- an illegal escape is no character
pub not_written : (special : ℕ → Bool) (c d : ℕ) (front rest text : List ℕ) → Written special c front rest → IsIllegalEscape (d ∷ text) → 92 ∷ d ∷ text ≡ front ++ rest → ⊥
not_written special _ d _ _ text (plainly c rest other) bad e = let same : 92 ≡ c = cc e in absurd (grind (arith, nat_tests))
not_written special _ d _ _ text (escaped c front rest is) bad e = bad.1 c front rest (cc e) is

-- a quote is no character of a text in such quotes
pub not_quote : (quote c : ℕ) (front rest text : List ℕ) → is_quote quote ≡ true → Written (λ d. d == quote) c front rest → quote ∷ text ≡ front ++ rest → ⊥
not_quote quote _ _ _ text q (plainly c rest other) e = let same : quote ≡ c = cc e in absurd (grind (arith, nat_tests))
not_quote quote _ _ _ text q (escaped c front rest is) e = no_backslash quote q (cc e)

pub record LegalNext (quote c : ℕ) (ds : List (Option ℕ)) (front next more rest : List ℕ) : Type 0 where
  pub es : List (Option ℕ)
  pub tail : List ℕ
  pub are : ds ≡ Some c ∷ es
  pub is : more ≡ front ++ tail
  pub left : next ≡ tail ++ rest
  pub quoted : Quoted quote es tail rest

pub legal_next : (quote c : ℕ) (ds : List (Option ℕ)) (front next more rest : List ℕ) → is_quote quote ≡ true → Written (λ d. d == quote) c front next → Quoted quote ds more rest
    → front ++ next ≡ more ++ rest → LegalNext quote c ds front next more rest
legal_next quote c _ front next _ _ q w (closes rest) e = absurd (not_quote quote c front next rest q w (sym e))
legal_next quote c _ front next _ _ q w (legal d es f text rest v k) e =
    let whole : front ++ next ≡ f ++ (text ++ rest) = e ∙ append_assoc f text rest in
    let same = one_written (λ d. d == quote) c d front f next (text ++ rest) w v whole in
    record {
      es = es;
      tail = text;
      are = ap (λ (z : ℕ). Some z ∷ es) (sym same.0);
      is = ap (λ t. t ++ text) (sym same.1);
      left = same_rest f next (text ++ rest) (ap (λ t. t ++ next) (sym same.1) ∙ whole);
      quoted = k;
    }
legal_next quote c _ front next _ _ q w (illegal d es text rest bad k) e = absurd (not_written (λ d. d == quote) c d front next (text ++ rest) w bad (sym e))

pub record IllegalNext (quote d : ℕ) (ds : List (Option ℕ)) (next more rest : List ℕ) : Type 0 where
  pub es : List (Option ℕ)
  pub tail : List ℕ
  pub are : ds ≡ None ∷ es
  pub is : more ≡ 92 ∷ d ∷ tail
  pub left : next ≡ tail ++ rest
  pub quoted : Quoted quote es tail rest

pub illegal_next : (quote d : ℕ) (ds : List (Option ℕ)) (next more rest : List ℕ) → is_quote quote ≡ true → IsIllegalEscape (d ∷ next) → Quoted quote ds more rest
    → 92 ∷ d ∷ next ≡ more ++ rest → IllegalNext quote d ds next more rest
illegal_next quote d _ next _ _ q bad (closes rest) e = absurd (no_backslash quote q (sym (cc e)))
illegal_next quote d _ next _ _ q bad (legal c es f text rest v k) e = absurd (not_written (λ d. d == quote) c d f (text ++ rest) next v bad (e ∙ append_assoc f text rest))
illegal_next quote d _ next _ _ q bad (illegal c es text rest other k) e = record {
  es = es;
  tail = text;
  are = refl;
  is = ap (λ (z : ℕ). 92 ∷ z ∷ text) (cc e);
  left = cc e;
  quoted = k;
}

pub closes_next : (quote : ℕ) (ds : List (Option ℕ)) (next more rest : List ℕ) → is_quote quote ≡ true → Quoted quote ds more rest → quote ∷ next ≡ more ++ rest → (ds ≡ []) × (more ≡ quote ∷ [])
closes_next quote _ next _ _ q (closes rest) e = (refl, refl)
closes_next quote _ next _ _ q (legal c es f text rest v k) e = absurd (not_quote quote c f (text ++ rest) next q v (e ∙ append_assoc f text rest))
closes_next quote _ next _ _ q (illegal c es text rest other k) e = absurd (no_backslash quote q (cc e))

-- a text in quotes has one end
pub one_quoted : (quote : ℕ) (cs ds : List (Option ℕ)) (a b r s : List ℕ) → is_quote quote ≡ true → Quoted quote cs a r → Quoted quote ds b s → a ++ r ≡ b ++ s → (cs ≡ ds) × (a ≡ b)
one_quoted quote _ ds _ b _ s q (closes rest) k e = let n = closes_next quote ds rest b s q k e in (sym n.0, sym n.1)
one_quoted quote _ ds _ b _ s q (legal c cs f text rest w h) k e =
    let n = legal_next quote c ds f (text ++ rest) b s q w k (sym (append_assoc f text rest) ∙ e) in
    let on = one_quoted quote cs n.es text n.tail rest s q h n.quoted n.left in
    (ap (λ t. Some c ∷ t) on.0 ∙ sym n.are, ap (λ t. f ++ t) on.1 ∙ sym n.is)
one_quoted quote _ ds _ b _ s q (illegal d cs text rest bad h) k e =
    let n = illegal_next quote d ds (text ++ rest) b s q bad k e in
    let on = one_quoted quote cs n.es text n.tail rest s q h n.quoted n.left in
    (ap (λ t. None ∷ t) on.0 ∙ sym n.are, ap (λ t. 92 ∷ d ∷ t) on.1 ∙ sym n.is)

quoted_some : (quote : ℕ) (cs : List (Option ℕ)) (text rest : List ℕ) → Quoted quote cs text rest → 1 ≤ length text
quoted_some quote _ _ _ (closes rest) = omega arith
quoted_some quote _ _ _ (legal c cs f text rest w h) =
    let b = written_begins (λ d. d == quote) c f (text ++ rest) w in
    omega (arith, ap length b.2, length-append f text)
quoted_some quote _ _ _ (illegal d cs text rest bad h) = omega arith

-- what is no closing quote alone has two characters
pub quoted_long : (quote : ℕ) (cs : List (Option ℕ)) (text rest : List ℕ) → Quoted quote cs text rest → (text ≡ quote ∷ []) ⊎ (2 ≤ length text)
quoted_long quote _ _ _ (closes rest) = inl refl
quoted_long quote _ _ _ (legal c cs f text rest w h) =
    let b = written_begins (λ d. d == quote) c f (text ++ rest) w in
    let k = quoted_some quote cs text rest h in
    inr (omega (arith, ap length b.2, length-append f text))
quoted_long quote _ _ _ (illegal d cs text rest bad h) = inr (omega arith)
