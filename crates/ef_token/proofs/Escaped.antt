-- A character behind `$` and texts in quotes are written as they are spelled.
use Rattle.std.specs.Prelude.{ℕ, ◌%◌, ◌<◌, ◌≤◌, ◌==◌, ◌||◌, ◌≡◌, ◌⊎◌, Bool, true, false, List, [], ◌∷◌, ◌++◌, length, map, flat_map, nat_lt, if◌then◌else◌, Option, Some, refl}
use Rattle.std.proofs.Common.{sym, subst, arith, inl, inr, append_assoc}
use Rattle.std.proofs.lemmas.Bool.Decides.{nat_tests}
use Rattle.std.proofs.Math.Utf8.{scalar, scalar_cases, low_scalar}
use Rattle.ef_base.specs.Characters.{Each}
use Rattle.ef_base.specs.Escape.{Escape, by_letter, by_octal, by_two, by_braces, by_control, by_question, itself, Written, plainly, escaped, named, is_octal, is_hex, digit_value, value_after, IsCharacter}
use Rattle.ef_token.specs.Letters.{is_quote}
use Rattle.ef_token.specs.Lexeme.{Quoted, closes, legal, illegal}
use Rattle.ef_token.specs.Spelling as s
use Rattle.ef_token.specs.Spelling.{hex_escape, escaped_alone}
use Rattle.ef_base.proofs.Classes.{each_append, each_behind, is_ascii}
use Rattle.ef_base.proofs.EscapedTexts.{hex_written, sign_written, escaped_written, escape_ascii, escaped_ascii}

pub scalar_character : (c : ℕ) → scalar c ≡ true → IsCharacter c
scalar_character c h = scalar_cases c h

pub character_scalar : (c : ℕ) → IsCharacter c → scalar c ≡ true
character_scalar c h = grind (arith, h)

-- ---- one character behind `$`

pub alone_written : (c : ℕ) (rest : List ℕ) → scalar c ≡ true → Written (λ d. false) c (escaped_alone c) rest
alone_written c rest h = go (c == 92) refl (nat_lt c 33 || nat_lt 126 c)
  where
    go : (a : Bool) → (c == 92) ≡ a → (b : Bool) → Written (λ d. false) c (if a then 92 ∷ 92 ∷ [] else (if b then hex_escape c else c ∷ [])) rest
    go true e b =
        let same : c ≡ 92 = grind (arith, nat_tests) in
        subst (λ d. Written (λ d. false) d (92 ∷ 92 ∷ []) rest) (sym same) (sign_written (λ d. false) 92 rest refl)
    go false e true = hex_written (λ d. false) c rest (scalar_character c h)
    go false e false = plainly c rest e

pub alone_ascii : (c : ℕ) → scalar c ≡ true → Each is_ascii (escaped_alone c)
alone_ascii c h = go (c == 92) (nat_lt c 33 || nat_lt 126 c) refl
  where
    go : (a b : Bool) → (nat_lt c 33 || nat_lt 126 c) ≡ b → Each is_ascii (if a then 92 ∷ 92 ∷ [] else (if b then hex_escape c else c ∷ []))
    go true b f = (refl, (refl, tt))
    go false true f = escape_ascii c (scalar_character c h)
    go false false f = (grind (arith, nat_tests), tt)

-- ---- texts in quotes

pub spelled_quoted : (quote : ℕ) (cs rest : List ℕ) → is_quote quote ≡ true → Each scalar cs → Quoted quote (map Some cs) (flat_map (s.escaped quote) cs ++ quote ∷ []) rest
spelled_quoted quote [] rest q h = closes rest
spelled_quoted quote (c ∷ cs) rest q h =
    subst (λ t. Quoted quote (Some c ∷ map Some cs) t rest) (sym (append_assoc (s.escaped quote c) (flat_map (s.escaped quote) cs) (quote ∷ [])))
    (
    legal c (map Some cs) (s.escaped quote c) (flat_map (s.escaped quote) cs ++ quote ∷ []) rest
    (escaped_written quote c ((flat_map (s.escaped quote) cs ++ quote ∷ []) ++ rest) q (scalar_character c h.0)) (spelled_quoted quote cs rest q h.1)
    )

pub quoted_ascii : (quote : ℕ) (cs : List ℕ) → is_quote quote ≡ true → Each scalar cs → Each is_ascii (flat_map (s.escaped quote) cs ++ quote ∷ [])
quoted_ascii quote [] q h = (grind (arith, nat_tests), tt)
quoted_ascii quote (c ∷ cs) q h =
    subst (Each is_ascii) (sym (append_assoc (s.escaped quote c) (flat_map (s.escaped quote) cs) (quote ∷ [])))
    (each_append is_ascii (s.escaped quote c) (flat_map (s.escaped quote) cs ++ quote ∷ []) (escaped_ascii quote c q (scalar_character c h.0)) (quoted_ascii quote cs q h.1))

-- ---- what is written in a text of characters is one

named_small : (letter c : ℕ) → named letter ≡ Some c → c < 128
named_small letter c h = grind (arith, nat_tests)

octal_value : (c : ℕ) → is_octal c ≡ true → digit_value c < 8
octal_value c h = grind (arith, nat_tests)

hex_value : (c : ℕ) → is_hex c ≡ true → digit_value c < 16
hex_value c h = grind (arith, nat_tests)

octal_below : (ds : List ℕ) → length ds ≤ 3 → Each is_octal ds → value_after 8 0 ds < 512
octal_below [] l h = omega arith
octal_below (a ∷ []) l h = omega (arith, octal_value a h.0)
octal_below (a ∷ b ∷ []) l h = omega (arith, octal_value a h.0, octal_value b h.1.0)
octal_below (a ∷ b ∷ c ∷ []) l h = omega (arith, octal_value a h.0, octal_value b h.1.0, octal_value c h.1.1.0)
octal_below (a ∷ b ∷ c ∷ d ∷ ds) l h = absurd (omega arith)

pub escape_scalar : (c : ℕ) (front rest : List ℕ) → Escape c front rest → Each scalar (front ++ rest) → scalar c ≡ true
escape_scalar _ _ _ (by_letter letter c rest e) h = low_scalar c (omega (arith, named_small letter c e))
escape_scalar _ _ _ (by_octal ds rest some each long) h = low_scalar (value_after 8 0 ds) (omega (arith, octal_below ds (three long) each))
  where
    three : {A : Type 0} → (length ds ≡ 3) ⊎ ((length ds < 3) × A) → length ds ≤ 3
    three (inl e) = omega arith
    three (inr e) = omega (arith, e.0)
escape_scalar _ _ _ (by_two a b rest each) h = low_scalar (value_after 16 0 (a ∷ b ∷ [])) (omega (arith, hex_value a each.0, hex_value b each.1.0))
escape_scalar _ _ _ (by_braces ds rest some each is) h = character_scalar (value_after 16 0 ds) is
escape_scalar _ _ _ (by_control c rest is) h = low_scalar (c % 32) (omega arith)
escape_scalar _ _ _ (by_question rest) h = refl
escape_scalar _ _ _ (itself c rest unnamed other) h = h.0

pub written_scalar : (special : ℕ → Bool) (c : ℕ) (front rest : List ℕ) → Written special c front rest → Each scalar (front ++ rest) → scalar c ≡ true
written_scalar special _ _ _ (plainly c rest other) h = h.0
written_scalar special _ _ _ (escaped c front rest is) h = escape_scalar c front rest is h.1

pub quoted_scalars : (quote : ℕ) (ds : List (Option ℕ)) (cs text rest : List ℕ) → Quoted quote ds text rest → ds ≡ map Some cs → Each scalar (text ++ rest) → Each scalar cs
quoted_scalars quote _ [] _ _ (closes rest) e h = tt
quoted_scalars quote _ (d ∷ cs) _ _ (closes rest) e h = cc e
quoted_scalars quote _ [] _ _ (legal c ds front text rest w k) e h = tt
quoted_scalars quote _ (d ∷ cs) _ _ (legal c ds front text rest w k) e h =
    let all : Each scalar (front ++ (text ++ rest)) = subst (Each scalar) (append_assoc front text rest) h in
    let same : c ≡ d = cc e in
    (subst (λ z. scalar z ≡ true) same (written_scalar (λ d. d == quote) c front (text ++ rest) w all), quoted_scalars quote ds cs text rest k (cc e) (each_behind scalar front (text ++ rest) all))
quoted_scalars quote _ [] _ _ (illegal c ds text rest bad k) e h = tt
quoted_scalars quote _ (d ∷ cs) _ _ (illegal c ds text rest bad k) e h = cc e
