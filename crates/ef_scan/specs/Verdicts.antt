-- Lexemes and faults as the scanner finds them at a place.
use Rattle.std.specs.Prelude.{ℕ, ◌^◌, ◌<◌, ◌≤◌, ◌≡◌, ◌⊎◌, List, length, chars, encode_utf8_all}
use Rattle.ef_base.specs.Cut.{Longest}
use Rattle.ef_base.specs.FaultTable as table
use Rattle.ef_token.specs.Lexeme as x
use Rattle.ef_token.specs.Lexeme.{Lexeme, IsLexeme}
use Rattle.ef_token.specs.ScanFaults.{Fails, IsFault, IsFaultless}
use Rattle.ef_scan.specs.declared.cursor.Cursor.{Cursor}
use Rattle.ef_scan.specs.declared.verdict.Piece.{Piece}
use Rattle.ef_scan.specs.declared.verdict.Piece.TheVariants as piece
use Rattle.ef_scan.specs.declared.verdict.Verdict.{Verdict}
use Rattle.ef_scan.specs.declared.verdict.Verdict.TheVariants as verdict
use Rattle.ef_scan.specs.Cursors.{IsBehind}
use Rattle.ef_token.specs.Sorts.{BeginsAs}

-- the piece holds the lexeme
abbrev pub Holds : Piece → Lexeme → Type 0
Holds (piece.Atom name) (x.atom cs) = (name.now ≡ encode_utf8_all cs) × (length cs ≤ 255)
Holds (piece.Quoted found) (x.atom cs) = (found.items ≡ cs) × (length cs ≤ 255)
Holds (piece.Var name) (x.variable cs) = name.now ≡ encode_utf8_all cs
Holds (piece.Int v) (x.integer n) = (v ≡ n) × (n < 2 ^ 127)
Holds (piece.Char c) (x.character d) = c ≡ d
Holds (piece.Text text) (x.string cs) = text.now ≡ encode_utf8_all cs
Holds (piece.Str found) (x.string cs) = found.items ≡ cs
Holds (piece.Word w) (x.word v) = w ≡ v
Holds (piece.Sym s) (x.symbol t) = s ≡ t
Holds piece.Dot x.full_stop = Unit {0}
Holds _ _ = ⊥

-- the lexeme stands at the first place, as its longest, up to the second; no fault begins there
pub record IsLexemeAt (first : Cursor) (l : Lexeme) (second : Cursor) : Type 0 where
  pub front : List ℕ
  pub behind : IsBehind first second front
  pub lexeme : IsLexeme l front (chars second.rest.now)
  pub longest : Longest IsLexeme front (chars second.rest.now)
  pub faultless : IsFaultless (chars first.rest.now)

-- the same for an integer which may be too large
pub record IsIntegerAt (first : Cursor) (n : ℕ) (second : Cursor) : Type 0 where
  pub front : List ℕ
  pub behind : IsBehind first second front
  pub lexeme : IsLexeme (x.integer n) front (chars second.rest.now)
  pub longest : Longest IsLexeme front (chars second.rest.now)
  pub others : (code : ℕ) → Fails code (chars first.rest.now) → table.integer_too_large ≤ code

-- the same for an atom which may be too long, by the sort of its first character
pub record IsAtomAt (first : Cursor) (cs : List ℕ) (second : Cursor) : Type 0 where
  pub front : List ℕ
  pub behind : IsBehind first second front
  pub lexeme : IsLexeme (x.atom cs) front (chars second.rest.now)
  pub longest : Longest IsLexeme front (chars second.rest.now)
  pub sort : ℕ
  pub is_atom : (sort ≡ 0) ⊎ (sort ≡ 4)
  pub begins : BeginsAs sort (chars first.rest.now)
  pub others : (code : ℕ) → Fails code (chars first.rest.now) → table.atom_too_long ≤ code

abbrev pub IsVerdict : Cursor → Verdict → Type 0
IsVerdict first (verdict.Found piece second) = (l : Lexeme) × Holds piece l × IsLexemeAt first l second
IsVerdict first (verdict.Fault code) = IsFault code (chars first.rest.now)
