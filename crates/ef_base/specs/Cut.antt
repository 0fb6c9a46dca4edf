-- How a text is cut into lexemes, over any lexemes and gaps: each is the longest at its place.
-- `Spelled l front rest` says that `front`, with `rest` behind it, spells `l`.
use Rattle.std.specs.Prelude.{ℕ, List, [], ◌∷◌, ◌++◌, ◌≡◌, ◌⊎◌}
use Rattle.ef_base.specs.Positions.{Position, position_after}

-- a lexeme, and where it begins
pub record Placed (L : Type 0) : Type 0 where
  pub lexeme : L
  pub at : Position

-- at the text's end the last comment needs no end of line
abbrev pub LastGap : (List ℕ → Type 0) → List ℕ → Type 0
LastGap Gap text = Gap text ⊎ Gap (text ++ 10 ∷ [])

-- no lexeme is this text and more of what follows
abbrev pub Longest : {L : Type 0} → (L → List ℕ → List ℕ → Type 0) → List ℕ → List ℕ → Type 0
Longest {L} Spelled front rest =
    (more after : List ℕ) (other : L) → rest ≡ more ++ after → Spelled other (front ++ more) after → more ≡ []

-- the text, which begins at this position, is these lexemes with gaps between
abbrev pub Cuts : {L : Type 0} → (List ℕ → Type 0) → (L → List ℕ → List ℕ → Type 0) → Position → List ℕ → List (Placed L) → Type 0
Cuts Gap Spelled at text [] = LastGap Gap text
Cuts Gap Spelled at text (l ∷ ls) =
    (gap front rest : List ℕ) × (text ≡ gap ++ (front ++ rest)) × Gap gap × (l.at ≡ position_after at gap)
    × Spelled l.lexeme front rest × Longest Spelled front rest × Cuts Gap Spelled (position_after l.at front) rest ls
