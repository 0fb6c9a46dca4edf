-- Printed text is ASCII, so its characters are its bytes.
use Rattle.std.specs.Prelude.{ℕ, zero, suc, pos, negsuc, ◌<◌, ◌^◌, ◌≡◌, nat_lt, Bool, true, false, List, [], ◌∷◌, ◌++◌, flat_map, chars, IsAscii, IsUtf8, decimal, if◌then◌else◌, refl}
use Rattle.std.proofs.Common.{sym, subst, arith, inl, inr}
use Rattle.std.proofs.lemmas.Bool.Decides.{nat_tests}
use Rattle.std.proofs.lemmas.Str.{IsUtf8-from_ascii, chars-IsAscii, scalars-chars}
use Rattle.std.proofs.Math.Utf8.{scalar, scalars}
use Rattle.ef_base.specs.Characters.{Each, BeginsAndGoesOn, is_lower, is_upper, is_digit, is_name_part}
use Rattle.ef_base.specs.Positions.{first_position}
use Rattle.ef_core.specs.declared.layout.Last.{Last}
use Rattle.ef_core.specs.declared.layout.Last.TheVariants.{Start, Newline, Opening, Callable, Other}
use Rattle.ef_base.specs.Escape.{IsCharacter}
use Rattle.ef_base.proofs.Classes.{each_append, each_weaker, is_ascii}
use Rattle.ef_base.proofs.EscapedTexts.{escaped_ascii}
use Rattle.ef_core.specs.Lexeme as x
use Rattle.ef_core.specs.Lexeme.{Lexeme, TheWord, Sym, Symbol, word_text, symbol_text, IsTextOf, CutsInto}
use Rattle.ef_core.specs.Pieces.{Piece, Break, Put, spelling, escaped, closes, opens_args, after, gap, lay, lexemes}
use Rattle.ef_core.proofs.Longest.{AreCharacters, Good}
use Rattle.ef_core.proofs.Numerals.{decimal_number}
use Rattle.ef_core.proofs.Printed.{AllGood, printed_cut}
use Rattle.ef_core.proofs.Spellings.{both_true, word_lower}

lower_ascii : (c : ℕ) → is_lower c ≡ true → is_ascii c ≡ true
lower_ascii c h = grind (arith, nat_tests)

upper_ascii : (c : ℕ) → is_upper c ≡ true → is_ascii c ≡ true
upper_ascii c h = grind (arith, nat_tests)

part_ascii : (c : ℕ) → is_name_part c ≡ true → is_ascii c ≡ true
part_ascii c h = grind (arith, nat_tests)

digit_ascii : (c : ℕ) → is_digit c ≡ true → is_ascii c ≡ true
digit_ascii c h = grind (arith, nat_tests)

symbol_ascii : (s : Symbol) → Each is_ascii (symbol_text s)
symbol_ascii x.Arrow = (refl, (refl, tt))
symbol_ascii x.DashBar = (refl, (refl, tt))
symbol_ascii x.BinBegin = (refl, (refl, tt))
symbol_ascii x.SegmentBegin = (refl, (refl, tt))
symbol_ascii x.BinEnd = (refl, (refl, tt))
symbol_ascii _ = (refl, tt)

decimal_ascii : (n : ℕ) → n < 10 ^ 64 → Each is_ascii (decimal n)
decimal_ascii n small = of (decimal n) (decimal_number n small).0
  where
    of : (ds : List ℕ) → BeginsAndGoesOn is_digit is_digit ds → Each is_ascii ds
    of [] h = tt
    of (d ∷ ds) h = (digit_ascii d h.0, each_weaker is_digit is_ascii ds digit_ascii h.1)

all_escaped_ascii : (cs : List ℕ) → AreCharacters cs → Each is_ascii (flat_map escaped cs)
all_escaped_ascii [] all = tt
all_escaped_ascii (c ∷ cs) all = each_append is_ascii (escaped c) (flat_map escaped cs) (escaped_ascii 39 c refl all.0) (all_escaped_ascii cs all.1)

spelling_ascii : (l : Lexeme) → Good l → Each is_ascii (spelling l)
spelling_ascii (TheWord w) g = each_weaker is_lower is_ascii (word_text w) lower_ascii (word_lower w)
spelling_ascii (x.Atom cs) g = (refl, each_append is_ascii (flat_map escaped cs) (39 ∷ []) (all_escaped_ascii cs g) (refl, tt))
spelling_ascii (x.Var []) g = absurd g
spelling_ascii (x.Var (c ∷ cs)) g = (upper_ascii c g.0, each_weaker is_name_part is_ascii cs part_ascii g.1)
spelling_ascii (x.Int (pos n)) g = decimal_ascii n (omega arith)
spelling_ascii (x.Int (negsuc n)) g = (refl, decimal_ascii (suc n) (omega arith))
spelling_ascii (x.Char c) g = absurd g
spelling_ascii (x.Str cs) g = absurd g
spelling_ascii (Sym s) g = symbol_ascii s

gap_ascii : (last : Last) (l : Lexeme) → Each is_ascii (gap last l)
gap_ascii Start l = tt
gap_ascii Newline l = (refl, tt)
gap_ascii Opening l = tt
gap_ascii Callable l = go (closes l) (opens_args l)
  where
    go : (a b : Bool) → Each is_ascii (if a then [] else (if b then [] else 32 ∷ []))
    go true b = tt
    go false true = tt
    go false false = (refl, tt)
gap_ascii Other l = go (closes l)
  where
    go : (a : Bool) → Each is_ascii (if a then [] else 32 ∷ [])
    go true = tt
    go false = (refl, tt)

lay_ascii : (last : Last) (ps : List Piece) → AllGood ps → Each is_ascii (lay last ps)
lay_ascii last [] all = tt
lay_ascii last (Break ∷ ps) all = lay_ascii Newline ps all
lay_ascii last (Put l ∷ ps) all =
    each_append is_ascii (gap last l ++ spelling l) (lay (after l) ps)
    (each_append is_ascii (gap last l) (spelling l) (gap_ascii last l) (spelling_ascii l all.0)) (lay_ascii (after l) ps all.1)

each_below : (cs : List ℕ) → Each is_ascii cs → IsAscii cs
each_below [] h i = omega arith
each_below (c ∷ cs) h zero = let first : is_ascii c ≡ true = h.0 in grind (arith, nat_tests)
each_below (c ∷ cs) h (suc i) = each_below cs h.1 i

pub printed_ascii : (last : Last) (ps : List Piece) → AllGood ps → IsAscii (lay last ps ++ 10 ∷ [])
printed_ascii last ps all = each_below (lay last ps ++ 10 ∷ []) (each_append is_ascii (lay last ps) (10 ∷ []) (lay_ascii last ps all) (refl, tt))

-- the printed text of pieces is cut into their lexemes
pub printed_text_cut : (ps : List Piece) → AllGood ps → IsTextOf (lexemes ps) (lay Start ps ++ 10 ∷ [])
printed_text_cut ps all =
    let ascii = printed_ascii Start ps all in
    let cut = printed_cut first_position Start ps all in
    record {
      utf8 = IsUtf8-from_ascii (lay Start ps ++ 10 ∷ []) ascii;
      placed = cut.0;
      are = cut.1;
      cut = subst (λ text. CutsInto text cut.0) (sym (chars-IsAscii (lay Start ps ++ 10 ∷ []) ascii)) cut.2;
    }

-- what the bytes of a text stand for are characters
pub utf8_characters : (bytes : List ℕ) → IsUtf8 bytes → AreCharacters (chars bytes)
utf8_characters bytes is = all (chars bytes) (scalars-chars bytes is)
  where
    one : (c : ℕ) (low : Bool) → nat_lt c 55296 ≡ low → scalar c ≡ true → IsCharacter c
    one c true e h = inl (grind (arith, nat_tests))
    one c false e h = inr (grind (arith, nat_tests), grind (arith, nat_tests))

    all : (cs : List ℕ) → scalars cs ≡ true → AreCharacters cs
    all [] h = tt
    all (c ∷ cs) h = let parts = both_true (scalar c) (scalars cs) h in (one c (nat_lt c 55296) refl parts.0, all cs parts.1)

-- a variable that is printed by its number
pub numbered_good : (n : ℕ) → n < 10 ^ 64 → Good (x.Var (95 ∷ decimal n))
numbered_good n small = (refl, parts (decimal n) (decimal_number n small).0)
  where
    digit_part : (c : ℕ) → is_digit c ≡ true → is_name_part c ≡ true
    digit_part c h = grind (arith, nat_tests)

    parts : (ds : List ℕ) → BeginsAndGoesOn is_digit is_digit ds → Each is_name_part ds
    parts [] h = tt
    parts (d ∷ ds) h = (digit_part d h.0, each_weaker is_digit is_name_part ds digit_part h.1)
