-- How a character is written in quotes: as it stands, behind `\`, or by its number.
use Rattle.std.specs.Prelude.{ℕ, Bool, false, List, [], ◌∷◌, ◌++◌, ◌==◌, ◌||◌, nat_lt, not, codes, if◌then◌else◌}
use Rattle.std.specs.Fmt.{digits}

-- `\x{H}`, in lower-case hexadecimal without leading zeros
abbrev pub hex_escape : ℕ → List ℕ
hex_escape c = codes "\\x{" ++ (digits 16 false c ++ codes "}")

-- a single quote for atoms, a double one for strings
abbrev pub is_quote : ℕ → Bool
is_quote c = c == 39 || c == 34

-- in quotes, `\` stands before the quote and before `\`
abbrev pub escaped : ℕ → ℕ → List ℕ
escaped quote c =
    if c == quote || c == 92 then 92 ∷ c ∷ []
    else (if nat_lt c 32 || nat_lt 126 c then hex_escape c else c ∷ [])

-- the characters that are written as they stand
abbrev pub is_plain : ℕ → ℕ → Bool
is_plain quote c = not ((c == quote || c == 92) || (nat_lt c 32 || nat_lt 126 c))
