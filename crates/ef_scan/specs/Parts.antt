-- The parts of a text as the scanner finds them.
use Rattle.std.specs.Prelude.{ℕ, ◌^◌, ◌<◌, ◌≡◌, List, length, chars, encode_utf8_all}
use Rattle.ef_base.specs.Cut.{Placed, Longest}
use Rattle.ef_base.specs.Positions.{Position}
use Rattle.ef_token.specs.Parts as x
use Rattle.ef_token.specs.Parts.{Spelled}
use Rattle.ef_scan.specs.declared.cursor.Cursor.{Cursor}
use Rattle.ef_scan.specs.declared.part.Part.{Part}
use Rattle.ef_scan.specs.declared.part.Part.TheVariants as part
use Rattle.ef_scan.specs.Cursors.{IsBehind}
use Rattle.ef_scan.specs.Verdicts.{Holds}

-- the part of the program is this part of a text
abbrev pub IsPart : Part → x.Part → Type 0
IsPart (part.Lexeme piece) (x.lexeme l) = Holds piece l
IsPart (part.Comment text) (x.comment cs) = text.now ≡ encode_utf8_all cs
IsPart (part.Fault code) (x.fault k) = code ≡ k
IsPart _ _ = ⊥

-- a comment has fewer than 2 ^ 32 bytes
abbrev pub IsShort : Part → Type 0
IsShort (part.Comment text) = length text.now < 2 ^ 32
IsShort _ = Unit {0}

abbrev pub placed : x.Part → Position → Placed x.Part
placed p at = record { lexeme = p; at = at }

-- the part stands at the first place, as its longest, up to the second
pub record IsPartAt (first : Cursor) (part : Part) (second : Cursor) : Type 0 where
  pub is_part : x.Part
  pub is : IsPart part is_part
  pub short : IsShort part
  pub front : List ℕ
  pub behind : IsBehind first second front
  pub spelled : Spelled is_part front (chars second.rest.now)
  pub longest : Longest Spelled front (chars second.rest.now)
