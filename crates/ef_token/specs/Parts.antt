-- How a text is cut into lexemes, comments and what is passed over behind faults, with white space between.
use Rattle.std.specs.Prelude.{ℕ, ◌≡◌, ◌==◌, Bool, true, if◌then◌else◌, false, List, [], ◌∷◌, ◌++◌}
use Rattle.ef_base.specs.Positions.{Position}
use Rattle.ef_base.specs.Cut.{Placed, Cuts}
use Rattle.ef_base.specs.Characters.{Each, Stops, is_white}
use Rattle.ef_token.specs.Lexeme.{Lexeme, IsLexeme}
use Rattle.ef_token.specs.ScanFaults.{IsFault, IsFaultless, Skips}

-- a comment by its characters behind `%`, a fault by its code
pub data Part : Type 0 where
  lexeme : Lexeme → Part
  comment : List ℕ → Part
  fault : ℕ → Part

-- white space
abbrev pub Gap : List ℕ → Type 0
Gap text = Each is_white text

abbrev pub stays_on_line : ℕ → Bool
stays_on_line c = if c == 10 then false else true

-- a comment ends with its line; behind a fault the form is passed over
abbrev pub Spelled : Part → List ℕ → List ℕ → Type 0
Spelled (lexeme l) text rest = IsLexeme l text rest × IsFaultless (text ++ rest)
Spelled (comment chars) text rest = (text ≡ 37 ∷ chars) × Each stays_on_line chars × Stops stays_on_line rest
Spelled (fault code) text rest = IsFault code (text ++ rest) × Skips text rest

-- the cut of a text, whose first character stands at the position
abbrev pub CutsInto : Position → List ℕ → List (Placed Part) → Type 0
CutsInto at text parts = Cuts Gap Spelled at text parts

abbrev pub with_lexeme : Part → Position → List (Placed Lexeme) → List (Placed Lexeme)
with_lexeme (lexeme l) at ls = (record { lexeme = l; at = at }) ∷ ls
with_lexeme (comment chars) at ls = ls
with_lexeme (fault code) at ls = ls

-- the lexemes among the parts
abbrev pub lexemes_of : List (Placed Part) → List (Placed Lexeme)
lexemes_of [] = []
lexemes_of (p ∷ ps) = with_lexeme p.lexeme p.at (lexemes_of ps)
