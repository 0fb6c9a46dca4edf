-- What the parser answers.
use Rattle.std.specs.Prelude.{◌≡◌, ℕ, suc, ◌≤◌, Bool, true, false, List, [], ◌∷◌, ◌++◌, length, take, drop}
use Rattle.ef_grammar.specs.Grammar.{Symbol, Rule, Grammar, Leads, Begins}
use Rattle.ef_grammar.specs.declared.machine.Outcome.{Outcome}
use Rattle.ef_grammar.specs.declared.machine.Outcome.TheVariants as outcome_is

abbrev pub is_empty : {X : Type 0} → List X → Bool
is_empty [] = true
is_empty (x ∷ xs) = false

module _ {T V R A : Type 0} (g : Grammar T V R A) where
  -- the rule spells all the tokens, and makes this value of that
  abbrev pub Spells : R → V → List T → V → Type 0
  Spells n v ts w = Leads g (Rule n ∷ []) v ts w

  -- The tokens `us` look like `rest` from behind these tokens: each of these has the same class before both, and so has what
  -- comes behind them, which is nothing in both or in neither.
  abbrev pub Same : List T → List T → List T → Type 0
  Same [] us rest = (is_empty us ≡ is_empty rest) × (g.look us ≡ g.look rest)
  Same (t ∷ before) us rest = (g.look (t ∷ before ++ us) ≡ g.look (t ∷ before ++ rest)) × Same before us rest

  -- `look` sees no more than the next token and `k` tokens behind it
  abbrev pub LooksPast : ℕ → Type 0
  LooksPast k = (us rest : List T) → take (suc k) us ≡ take (suc k) rest → g.look us ≡ g.look rest

  module _ (n : R) (v : V) (ts : List T) (at : ℕ) where
    -- the rule spells the tokens before `at`
    abbrev pub ComesTo : Type 0
    ComesTo = (β : List (Symbol R A)) × (w : V) × Begins g (drop at ts) (Rule n ∷ []) v (take at ts) β w

    -- and goes on with no token that looks like the one at `at`
    abbrev pub GoesOnWithNone : Type 0
    GoesOnWithNone = (t : T) (rest : List T) → Same (take at ts) (t ∷ rest) (drop at ts) → (β : List (Symbol R A)) (w : V) → Begins g rest (Rule n ∷ []) v (take at ts ++ t ∷ []) β w → ⊥

    -- nothing that looks the same is spelled
    abbrev pub Stops : Type 0
    Stops = (us : List T) → Same (take at ts) us (drop at ts) → (w : V) → Spells n v (take at ts ++ us) w → ⊥

    -- nor is what is the same as far as `look` sees
    abbrev pub StopsNear : Type 0
    StopsNear = (k : ℕ) → LooksPast k → (us : List T) → take (suc k) us ≡ take (suc k) (drop at ts) → (w : V) → Spells n v (take at ts ++ us) w → ⊥

    abbrev pub IsRefusedAt : Type 0
    IsRefusedAt = (at ≤ length ts) × ComesTo × GoesOnWithNone × Stops × StopsNear × ((w : V) → Spells n v ts w → ⊥)

  -- The value is the only one that the tokens make. Or they make none, from the token at `at` on.
  abbrev pub IsOutcome : {S : Type 0} → (S → V) → R → V → List T → Outcome S → Type 0
  IsOutcome value n v ts (outcome_is.Read s) = Spells n v ts (value s) × ((w : V) → Spells n v ts w → w ≡ value s)
  IsOutcome value n v ts (outcome_is.Refused at) = IsRefusedAt n v ts at
