-- What the first character of a text tells.
use Rattle.std.specs.Prelude.{ℕ, ◌≡◌, ◌==◌, List, [], ◌∷◌, if◌then◌else◌}
use Rattle.ef_base.specs.Characters.{is_digit}
use Rattle.ef_token.specs.Letters.{begins_atom, begins_variable, begins_gap}

-- 0 where a character begins an unquoted atom or a word, 1 a variable, 2 an integer, 4 a quoted atom, 5 a string,
-- 6 a character, 7 a gap or a comment, and else 3
abbrev pub sort : ℕ → ℕ
sort c =
    if begins_atom c then 0 else (if begins_variable c then 1 else (if is_digit c then 2 else (if c == 39 then 4 else (if c == 34 then 5 else (if c == 36 then 6 else (if begins_gap c then 7 else 3))))))

abbrev pub BeginsAs : ℕ → List ℕ → Type 0
BeginsAs n [] = ⊥
BeginsAs n (c ∷ cs) = sort c ≡ n
