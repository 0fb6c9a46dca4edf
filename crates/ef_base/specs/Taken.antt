-- What a text begins with, and lexemes that were taken off its front.
use Rattle.std.specs.Prelude.{ℕ, Bool, List, [], ◌∷◌, ◌++◌, ◌≡◌}
use Rattle.ef_base.specs.Positions.{Position, position_after}
use Rattle.ef_base.specs.Cut.{Placed, Longest}

-- the text has a first character, of which the test has this value
abbrev pub Begins : (ℕ → Bool) → Bool → List ℕ → Type 0
Begins test value [] = ⊥
Begins test value (c ∷ cs) = test c ≡ value

-- the text, which begins at the first position, is these lexemes with gaps between, a gap, and this rest at the second
abbrev pub Took : {L : Type 0} → (List ℕ → Type 0) → (L → List ℕ → List ℕ → Type 0) → Position → List ℕ → List (Placed L) → Position → List ℕ → Type 0
Took Gap Spelled at text [] there rest = (gap : List ℕ) × (text ≡ gap ++ rest) × Gap gap × (there ≡ position_after at gap)
Took Gap Spelled at text (l ∷ ls) there rest =
    (gap front more : List ℕ) × (text ≡ gap ++ (front ++ more)) × Gap gap × (l.at ≡ position_after at gap)
    × Spelled l.lexeme front more × Longest Spelled front more × Took Gap Spelled (position_after l.at front) more ls there rest
