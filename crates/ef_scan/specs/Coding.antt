-- Letters with their case, or without.
use Rattle.std.specs.Prelude.{ℕ, Bool, true, false}
use Rattle.std.specs.Char.{to_ascii_lowercase}

-- the character, or its small letter where any case will do
abbrev pub cased : Bool → ℕ → ℕ
cased true c = to_ascii_lowercase c
cased false c = c
