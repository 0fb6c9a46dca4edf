-- The spelling of a lexeme, with a space and a full stop behind it, stands there as that lexeme.
use Rattle.std.specs.Prelude.{ℕ, ◌+◌, ◌/◌, ◌%◌, ◌^◌, ◌<◌, ◌≤◌, ◌≡◌, ◌≢◌, true, false, List, [], ◌∷◌, ◌++◌, length, flat_map, decimal, encode_utf8_all, refl}
use Rattle.std.specs.Char.{digit_value}
use Rattle.std.proofs.Common.{ap, ◌∙◌, sym, subst, arith, inl, inr, append_assoc, length-append}
use Rattle.std.proofs.lemmas.Bool.Decides.{nat_tests}
use Rattle.std.proofs.lemmas.Fmt.{decimal_by_steps_wide}
use Rattle.std.proofs.Math.Utf8.{scalar, low_scalar}
use Rattle.ef_base.specs.Characters.{Each, BeginsAndGoesOn}
use Rattle.ef_token.specs.declared.word.Sym.{Sym}
use Rattle.ef_token.specs.declared.word.Sym.TheVariants as symbols
use Rattle.ef_token.specs.Words.{word_text, sym_text}
use Rattle.ef_token.specs.Letters.{begins_variable, continues_name, is_printing}
use Rattle.ef_token.specs.Numerals.{Digits, last, is_digit_of, value_of}
use Rattle.ef_token.specs.Lexeme as x
use Rattle.ef_token.specs.Lexeme.{Lexeme, IsLexeme}
use Rattle.ef_token.specs.Spelling.{escaped, quoted, escaped_alone, IsBare, IsSpelling}
use Rattle.ef_token.proofs.Spellings.{word_facts, symbol_facts}
use Rattle.ef_token.proofs.Quoting.{not_quote}
use Rattle.ef_token.proofs.Numerals.{digits_more, value-append, value_digit}
use Rattle.ef_token.proofs.Lexemes as shape
use Rattle.ef_token.proofs.Lexemes.{shape_begins}
use Rattle.ef_token.proofs.Standing.{Stands, atom_continues, variable_continues, atom_stands, word_stands, variable_stands, quoted_stands, string_stands, character_stands, symbol_stands, short_atom}
use Rattle.ef_token.proofs.Integers.{HasFraction, decimal_stands, small_integer}
use Rattle.ef_base.proofs.Classes.{each_append, each_weaker, is_ascii}
use Rattle.ef_token.proofs.Plain.{encodes_ascii, ascii_scalar, plain_ascii}
use Rattle.ef_base.proofs.EscapedTexts.{escaped_written}
use Rattle.ef_token.proofs.Escaped.{scalar_character, alone_written, alone_ascii, spelled_quoted, quoted_ascii, quoted_scalars, written_scalar}

-- a space and a full stop
abbrev pub behind : List ℕ
behind = 32 ∷ 46 ∷ []

-- the bytes are those of characters which stand before a space and a full stop as the lexeme
pub record IsRead (l : Lexeme) (bytes : List ℕ) : Type 0 where
  pub cs : List ℕ
  pub are : bytes ≡ encode_utf8_all cs
  pub each : Each scalar cs
  pub stands : Stands l cs behind

ascii_read : (l : Lexeme) (cs : List ℕ) → Each is_ascii cs → Stands l cs behind → IsRead l cs
ascii_read l cs h stands = record { cs = cs; are = sym (encodes_ascii cs h); each = each_weaker is_ascii scalar cs ascii_scalar h; stands = stands }

-- ---- names

name_scalar : (c : ℕ) → continues_name c ≡ true → scalar c ≡ true
name_scalar c h = low_scalar c (grind (arith, nat_tests))

name_scalars : (cs : List ℕ) → Each continues_name cs → Each scalar cs
name_scalars cs h = each_weaker continues_name scalar cs name_scalar h

bare_read : (cs : List ℕ) → IsBare cs → length cs ≤ 255 → IsRead (x.atom cs) (encode_utf8_all cs)
bare_read cs h short =
    let each = atom_continues cs h.0 in
    record {
      cs = cs;
      are = refl;
      each = name_scalars cs each;
      stands = short_atom cs cs behind (atom_stands cs behind each refl (shape_begins (x.atom cs) cs behind 0 (shape.bare cs cs behind refl h.0 h.1)) h.1) short;
    }

variable_read : (cs : List ℕ) → BeginsAndGoesOn begins_variable continues_name cs → IsRead (x.variable cs) (encode_utf8_all cs)
variable_read cs h =
    let each = variable_continues cs h in
    record {
      cs = cs;
      are = refl;
      each = name_scalars cs each;
      stands = variable_stands cs behind each refl (shape_begins (x.variable cs) cs behind 1 (shape.capital cs cs behind refl h));
    }

-- ---- texts in quotes, and characters

quoted_read : (cs : List ℕ) → Each scalar cs → length cs ≤ 255 → IsRead (x.atom cs) (quoted 39 cs)
quoted_read cs h short =
    let inner = flat_map (escaped 39) cs ++ 39 ∷ [] in
    ascii_read (x.atom cs) (39 ∷ inner) (refl, quoted_ascii 39 cs refl h) (short_atom cs (39 ∷ inner) behind (quoted_stands cs inner behind (spelled_quoted 39 cs behind refl h)) short)

-- an empty string has no third quote behind it, and another no second
not_three : (cs more : List ℕ) → Each scalar cs → (flat_map (escaped 34) cs ++ 34 ∷ []) ++ behind ≡ 34 ∷ 34 ∷ more → ⊥
not_three [] more h e = absurd (omega (arith, second 32 34 (46 ∷ []) more e))
  where
    second : (a b : ℕ) (r s : List ℕ) → 34 ∷ a ∷ r ≡ 34 ∷ b ∷ s → a ≡ b
    second a b r s e = cc e
not_three (c ∷ cs) more h e =
    let rest = flat_map (escaped 34) cs ++ 34 ∷ behind in
    let whole : escaped 34 c ++ rest ≡ 34 ∷ 34 ∷ more =
    sym (append_assoc (escaped 34 c) (flat_map (escaped 34) cs) (34 ∷ behind)) ∙ sym (append_assoc (flat_map (escaped 34) (c ∷ cs)) (34 ∷ []) behind) ∙ e in
    not_quote 34 c (escaped 34 c) rest (34 ∷ more) refl (escaped_written 34 c rest refl (scalar_character c h.0)) (sym whole)

string_read : (cs : List ℕ) → Each scalar cs → IsRead (x.string cs) (quoted 34 cs)
string_read cs h =
    let inner = flat_map (escaped 34) cs ++ 34 ∷ [] in
    ascii_read (x.string cs) (34 ∷ inner) (refl, quoted_ascii 34 cs refl h) (string_stands cs inner behind (spelled_quoted 34 cs behind refl h) (λ more e. not_three cs more h e))

character_read : (c : ℕ) → scalar c ≡ true → IsRead (x.character c) (36 ∷ escaped_alone c)
character_read c h = ascii_read (x.character c) (36 ∷ escaped_alone c) (refl, alone_ascii c h) (character_stands c (escaped_alone c) behind (alone_written c behind h))

-- ---- integers

record SpellsDecimal (n : ℕ) (ds : List ℕ) : Type 0 where
  digits : Digits 10 ds
  value : value_of 10 ds ≡ n
  each : Each is_ascii ds

digit_is : (d : ℕ) → d < 10 → is_digit_of 10 (48 + d) ≡ true
digit_is d h = grind (arith, nat_tests)

digit_is_value : (d : ℕ) → d < 10 → digit_value (48 + d) ≡ d
digit_is_value d h = grind (arith, nat_tests)

digit_ascii : (d : ℕ) → d < 10 → is_ascii (48 + d) ≡ true
digit_ascii d h = grind (arith, nat_tests)

one_digit : (n : ℕ) → n < 10 → SpellsDecimal n ((48 + n) ∷ [])
one_digit n h = record {
  digits = last (48 + n) (digit_is n h);
  value = value_digit 10 0 (48 + n) (omega arith) (digit_is n h) ∙ omega (arith, digit_is_value n h);
  each = (digit_ascii n h, tt);
}

more_digits : (n : ℕ) (ds : List ℕ) → 10 ≤ n → SpellsDecimal (n / 10) ds → SpellsDecimal n (ds ++ (48 + n % 10) ∷ [])
more_digits n ds l h =
    let small : n % 10 < 10 = omega arith in
    record {
      digits = digits_more 10 ds (48 + n % 10) h.digits (digit_is (n % 10) small);
      value =
          value-append 10 0 ds ((48 + n % 10) ∷ []) ∙ value_digit 10 (value_of 10 ds) (48 + n % 10) (omega arith) (digit_is (n % 10) small)
          ∙ omega (arith, h.value, digit_is_value (n % 10) small);
      each = each_append is_ascii ds ((48 + n % 10) ∷ []) h.each (digit_ascii (n % 10) small, tt);
    }

decimal_spells : (n : ℕ) → n < 2 ^ 127 → SpellsDecimal n (decimal n)
decimal_spells n small = decimal_by_steps_wide SpellsDecimal one_digit more_digits n (omega arith)

other_head : (c : ℕ) (rest : List ℕ) → behind ≡ c ∷ rest → 32 ≡ c
other_head c rest e = cc e

integer_read : (n : ℕ) → n < 2 ^ 127 → IsRead (x.integer n) (decimal n)
integer_read n small =
    let h = decimal_spells n small in
    let stands = decimal_stands (decimal n) behind h.digits (refl, λ e. absurd (omega arith)) (λ more e. absurd (omega (arith, other_head 35 more e))) never in
    ascii_read (x.integer n) (decimal n) h.each (subst (λ m. Stands (x.integer m) (decimal n) behind) h.value (small_integer (value_of 10 (decimal n)) (decimal n) behind stands (omega (arith, h.value, small))))
  where
    never : HasFraction behind → ⊥
    never f = absurd (omega (arith, other_head 46 (f.0 ∷ f.1) f.2))

-- ---- symbols

-- no plain text goes on over a space
before_space : (a b rest after : List ℕ) → Each is_printing b → a ++ 32 ∷ rest ≡ b ++ after → length b ≤ length a
before_space a [] rest after h e = omega arith
before_space [] (c ∷ b) rest after h e = let same : 32 ≡ c = cc e in let yes : is_printing 32 ≡ true = subst (λ z. is_printing z ≡ true) (sym same) h.0 in cc yes
before_space (d ∷ a) (c ∷ b) rest after h e = omega (arith, before_space a b rest after h.1 (cc e))

-- and none over the end
pub before_end : (a b after : List ℕ) → a ++ [] ≡ b ++ after → length b ≤ length a
before_end a b after e = omega (arith, ap length e, length-append a [], length-append b after)

symbol_read : (s : Sym) → (s ≡ symbols.Period → ⊥) → IsRead (x.symbol s) (sym_text s)
symbol_read s never =
    ascii_read (x.symbol s) (sym_text s) (plain_ascii (sym_text s) (symbol_facts s).plain)
    (symbol_stands s behind (λ t after e. before_space (sym_text s) (sym_text t) (46 ∷ []) after (symbol_facts t).plain e) (λ e ends. never e))

-- ---- all kinds

-- a lexeme that some text has is read again; an atom has at most 255 characters, an integer lies below 2 ^ 127, and the
-- lexeme is no dot
pub record IsMeant (l : Lexeme) : Type 0 where
  pub short : (cs : List ℕ) → l ≡ x.atom cs → length cs ≤ 255
  pub small : (n : ℕ) → l ≡ x.integer n → n < 2 ^ 127
  pub no_period : l ≢ x.symbol symbols.Period
  pub no_stop : l ≢ x.full_stop

pub read : (l : Lexeme) (front rest bytes : List ℕ) → IsMeant l → IsLexeme l front rest → Each scalar (front ++ rest) → IsSpelling l bytes → IsRead l bytes
read (x.atom cs) front rest bytes m h each (inl k) = subst (IsRead (x.atom cs)) (sym k.1) (bare_read cs k.0 (m.short cs refl))
read (x.atom cs) front rest bytes m (inl h) each (inr k) = absurd (k.0 (h.1, h.2))
read (x.atom cs) front rest bytes m (inr h) each (inr k) =
    let all : Each scalar (39 ∷ (h.0 ++ rest)) = subst (λ t. Each scalar (t ++ rest)) h.1 each in
    subst (IsRead (x.atom cs)) (sym k.1) (quoted_read cs (quoted_scalars 39 _ cs h.0 rest h.2 refl all.1) (m.short cs refl))
read (x.variable cs) front rest bytes m h each k = subst (IsRead (x.variable cs)) (sym k) (variable_read cs h.1)
read (x.integer n) front rest bytes m h each k = subst (IsRead (x.integer n)) (sym k) (integer_read n (m.small n refl))
read (x.character c) front rest bytes m h each k =
    let all : Each scalar (36 ∷ (h.0 ++ rest)) = subst (λ t. Each scalar (t ++ rest)) h.1 each in
    subst (IsRead (x.character c)) (sym k) (character_read c (written_scalar (λ d. false) c h.0 rest h.2 all.1))
read (x.string cs) front rest bytes m h each k =
    let all : Each scalar (34 ∷ (h.0 ++ rest)) = subst (λ t. Each scalar (t ++ rest)) h.1 each in
    subst (IsRead (x.string cs)) (sym k) (string_read cs (quoted_scalars 34 _ cs h.0 rest h.2 refl all.1))
read (x.word w) front rest bytes m h each k =
    subst (IsRead (x.word w)) (sym k)
    (ascii_read (x.word w) (word_text w) (plain_ascii (word_text w) (word_facts w).plain) (word_stands (word_text w) behind (word_facts w).parts refl w refl))
read (x.symbol s) front rest bytes m h each k = subst (IsRead (x.symbol s)) (sym k) (symbol_read s (λ e. m.no_period (ap x.symbol e)))
read x.full_stop front rest bytes m h each k = absurd (m.no_stop refl)
