-- Characters of a text, and where each stands.
use Rattle.std.specs.Prelude.{ℕ, ◌+◌, ◌==◌, List, [], ◌∷◌, if◌then◌else◌}
use Rattle.ef_base.specs.declared.fault.Place.{Place}

-- a line and a column, each from 1; a column counts characters
pub record Position : Type 0 where
  pub line : ℕ
  pub column : ℕ

abbrev pub first_position : Position
first_position = record { line = 1; column = 1 }

-- behind a character: a newline ends its line
abbrev pub next_position : Position → ℕ → Position
next_position at c =
    if c == 10 then (record { line = at.line + 1; column = 1 }) else (record { line = at.line; column = at.column + 1 })

-- behind these characters
abbrev pub position_after : Position → List ℕ → Position
position_after at [] = at
position_after at (c ∷ cs) = position_after (next_position at c) cs

-- a position of a file
abbrev pub place_at : ℕ → Position → Place
place_at file at = record { file = file; line = at.line; column = at.column }
