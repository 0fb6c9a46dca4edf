-- Fronts of texts whose characters are all ASCII: their bytes are their characters.
use Rattle.std.proofs.Common.{ℕ, ◌+◌, ◌<◌, ◌≤◌, ◌≡◌, Bool, true, false, List, [], ◌∷◌, ◌++◌, length, take, drop, chars, get_or, zero, suc, arith, refl, subst, sym, ap, ◌∙◌}
use Rattle.std.specs.Prelude.{IsUtf8, ◌==◌, ◌||◌, nat_lt, not, encode_utf8, flat_map, if◌then◌else◌}
use Rattle.std.specs.Str.{IsAscii, IsCharBoundary}
use Rattle.std.proofs.lemmas.Bool.Decides.{nat_tests}
use Rattle.std.proofs.lemmas.List.{take-append-drop, take_more, length-take-le}
use Rattle.std.proofs.Math.Seq.{drop-cons}
use Rattle.std.proofs.lemmas.Str.{chars_past_char, IsUtf8-past_char, IsCharBoundary-at_seam, encode_ascii}
use Rattle.ef_base.specs.Characters.{Each, Stops}
use Rattle.ef_base.specs.Escaped.{escaped, hex_escape, is_plain}
use Rattle.ef_base.proofs.Classes.{each_append}

ascii_head : (c : ℕ) (bs : List ℕ) → c < 128 → c ∷ bs ≡ encode_utf8 c ++ bs
ascii_head c bs h = ap (λ t. t ++ bs) (sym (encode_ascii c h))

-- ---- characters of a class that has ASCII alone

module _ (p : ℕ → Bool) (small : (c : ℕ) → p c ≡ true → c < 128) where
  pub each_ascii : (front : List ℕ) → Each p front → IsAscii front
  each_ascii front h i = go front h i
    where
      go : (front : List ℕ) → Each p front → (i : ℕ) → get_or front i 0 < 128
      go [] h i = omega arith
      go (c ∷ cs) h zero = small c h.0
      go (c ∷ cs) h (suc i) = go cs h.1 i

  -- what is behind such a front is a text
  pub utf8_behind : (front rest : List ℕ) → Each p front → IsUtf8 (front ++ rest) → IsUtf8 rest
  utf8_behind [] rest h u = u
  utf8_behind (c ∷ front) rest h u =
      utf8_behind front rest h.1 (IsUtf8-past_char (c ∷ (front ++ rest)) (front ++ rest) c u (ascii_head c (front ++ rest) (small c h.0)))

  pub chars_behind : (front rest : List ℕ) → Each p front → IsUtf8 (front ++ rest) → chars (front ++ rest) ≡ front ++ chars rest
  chars_behind [] rest h u = refl
  chars_behind (c ∷ front) rest h u =
      let e = ascii_head c (front ++ rest) (small c h.0) in
      chars_past_char (c ∷ (front ++ rest)) (front ++ rest) c u e
      ∙ ap (λ t. c ∷ t) (chars_behind front rest h.1 (IsUtf8-past_char (c ∷ (front ++ rest)) (front ++ rest) c u e))

  -- a text may be cut behind such a front
  pub boundary : (text : List ℕ) (n : ℕ) → IsUtf8 text → n ≤ length text → Each p (take n text) → IsCharBoundary text n
  boundary text n u within h =
      let e : text ≡ take n text ++ drop n text = sym (take-append-drop n text) in
      subst (λ k. IsCharBoundary text k) (length-take-le n text within)
      (IsCharBoundary-at_seam text (take n text) (drop n text) e (utf8_behind (take n text) (drop n text) h (subst IsUtf8 e u)))

  pub chars_cut : (text : List ℕ) (n : ℕ) → IsUtf8 text → Each p (take n text) → chars text ≡ take n text ++ chars (drop n text)
  chars_cut text n u h =
      let e : text ≡ take n text ++ drop n text = sym (take-append-drop n text) in
      ap chars e ∙ chars_behind (take n text) (drop n text) h (subst IsUtf8 e u)

-- ---- characters that are written as they stand

pub plain_small : (quote c : ℕ) → is_plain quote c ≡ true → c < 128
plain_small quote c h = grind (arith, nat_tests)

plain_itself : (quote c : ℕ) → is_plain quote c ≡ true → escaped quote c ≡ c ∷ []
plain_itself quote c h = go (c == quote || c == 92) (nat_lt c 32 || nat_lt 126 c) h
  where
    go : (a b : Bool) → not (a || b) ≡ true → (if a then 92 ∷ c ∷ [] else (if b then hex_escape c else c ∷ [])) ≡ c ∷ []
    go true b h = cc h
    go false true h = cc h
    go false false h = refl

plain_front : (quote : ℕ) (front rest : List ℕ) → Each (is_plain quote) front → flat_map (escaped quote) (front ++ rest) ≡ front ++ flat_map (escaped quote) rest
plain_front quote [] rest h = refl
plain_front quote (c ∷ front) rest h =
    ap (λ t. t ++ flat_map (escaped quote) (front ++ rest)) (plain_itself quote c h.0) ∙ ap (λ t. c ∷ t) (plain_front quote front rest h.1)

pub cut_written : (quote : ℕ) (text : List ℕ) (n : ℕ) → IsUtf8 text → Each (is_plain quote) (take n text)
    → flat_map (escaped quote) (chars text) ≡ take n text ++ flat_map (escaped quote) (chars (drop n text))
cut_written quote text n u h =
    ap (flat_map (escaped quote)) (chars_cut (is_plain quote) (plain_small quote) text n u h) ∙ plain_front quote (take n text) (chars (drop n text)) h

-- ---- as many bytes as are of a class

pub stops_at : (p : ℕ → Bool) (bytes : List ℕ) (n : ℕ) → n < length bytes → p (get_or bytes n 0) ≡ false → Stops p (drop n bytes)
stops_at p bytes n l h = subst (Stops p) (sym (drop-cons bytes n 0 l)) h

pub each_take_more : (p : ℕ → Bool) (bytes : List ℕ) (n : ℕ) → n < length bytes → Each p (take n bytes) → p (get_or bytes n 0) ≡ true → Each p (take (n + 1) bytes)
each_take_more p bytes n l h k = subst (Each p) (sym (take_more bytes n 0 l)) (each_append p (take n bytes) (get_or bytes n 0 ∷ []) h (k, tt))
