-- Where the scanner stands in a text, and what it has behind it.
use Rattle.std.specs.Prelude.{ℕ, ◌+◌, ◌^◌, ◌≤◌, ◌≡◌, ◌==◌, ◌||◌, ◌&&◌, Bool, not, List, ◌∷◌, ◌++◌, length, chars, IsUtf8, encode_utf8, encode_utf8_all}
use Rattle.ef_base.specs.Characters.{Each, Stops, is_within, is_white}
use Rattle.ef_base.specs.Positions.{Position, next_position, position_after}
use Rattle.ef_token.specs.Letters.{continues_name}
use Rattle.ef_token.specs.Parts.{stays_on_line}
use Rattle.ef_scan.specs.declared.class.Class.{Class}
use Rattle.ef_scan.specs.declared.class.Class.TheVariants as class
use Rattle.ef_scan.specs.declared.cursor.Cursor.{Cursor}

abbrev pub test_of : Class → ℕ → Bool
test_of class.White c = is_white c
test_of class.Name c = continues_name c
test_of class.Line c = stays_on_line c
test_of class.Space c = c == 32
test_of (class.Inside quote) c = not (c == quote || c == 92)

-- the characters of ASCII that end no line
abbrev pub is_plain : ℕ → Bool
is_plain c = is_within 0 9 c || is_within 11 127 c

-- a plain character of the class
abbrev pub is_plain_of : Class → ℕ → Bool
is_plain_of class c = is_plain c && test_of class c

abbrev pub position_of : Cursor → Position
position_of c = record { line = c.line; column = c.column }

-- what is left is a text, with room in lines and columns of 32 bits
pub record IsInText (c : Cursor) : Type 0 where
  pub utf8 : IsUtf8 c.rest.now
  pub lines : c.line + length c.rest.now ≤ 2 ^ 32
  pub columns : c.column + length c.rest.now ≤ 2 ^ 32

-- the second stands behind a character at which the first stands
pub record IsStep (first : Cursor) (c : ℕ) (second : Cursor) : Type 0 where
  pub chars_are : chars first.rest.now ≡ c ∷ chars second.rest.now
  pub bytes_are : first.rest.now ≡ encode_utf8 c ++ second.rest.now
  pub position : position_of second ≡ next_position (position_of first) c
  pub in_text : IsInText second

-- the second stands behind these characters, at which the first stands
pub record IsBehind (first second : Cursor) (front : List ℕ) : Type 0 where
  pub chars_are : chars first.rest.now ≡ front ++ chars second.rest.now
  pub bytes_are : first.rest.now ≡ encode_utf8_all front ++ second.rest.now
  pub position : position_of second ≡ position_after (position_of first) front
  pub in_text : IsInText second

-- the second stands behind so many characters of the class, and at none
pub record IsRun (p : ℕ → Bool) (first second : Cursor) (count : ℕ) : Type 0 where
  pub front : List ℕ
  pub behind : IsBehind first second front
  pub each : Each p front
  pub stops : Stops p (chars second.rest.now)
  pub counted : count ≡ length front
