-- What the parser keeps true of its stacks.
use Rattle.std.specs.Prelude.{◌≡◌, ℕ, ◌↔◌, List, [], ◌∷◌, ◌++◌, take, drop, true}
use Rattle.ef_grammar.specs.Grammar.{Symbol, Token, Rule, Act, Grammar, Begins, has, one}
use Rattle.ef_grammar.specs.Table.{Table, leading, nothing_at}
use Rattle.ef_grammar.specs.Answers.{Same}
use Rattle.ef_grammar.specs.declared.moves.Next.{Next}
use Rattle.ef_grammar.specs.declared.moves.Next.TheVariants as next_is

-- each class of the one is in the other
abbrev pub Within : ℕ → ℕ → Type 0
Within s t = (i : ℕ) → has s i ≡ true → has t i ≡ true

-- behind each rule stands what may stand there
abbrev pub Fits : {R A : Type 0} → Table R A → List (Symbol R A) → ℕ → Type 0
Fits t [] s = Unit {0}
Fits t (Token c ∷ α) s = Fits t α s
Fits t (Rule n ∷ α) s = Within (leading t α s) (t.behind n) × Fits t α s
Fits t (Act a ∷ α) s = Fits t α s

module _ {R A : Type 0} (t : Table R A) where
  -- before a token of this class they all come to nothing
  abbrev pub Gone : ℕ → List (Symbol R A) → Type 0
  Gone c [] = Unit {0}
  Gone c (Rule n ∷ α) = (has (nothing_at t (t.rows n)) c ≡ true) × Gone c α
  Gone c (x ∷ α) = ⊥

  -- the first of them are passed over, which come to nothing
  abbrev pub Over : ℕ → List (Symbol R A) → List (Symbol R A) → Type 0
  Over c α β = (δ : List (Symbol R A)) × Gone c δ × (α ≡ δ ++ β)

module _ {T V R A : Type 0} (g : Grammar T V R A) where
  -- a token is to come, or all is spelled and no token is left
  abbrev pub Ends : List T → List T → List (Symbol R A) → Type 0
  Ends [] rest δ = (δ ≡ []) × (rest ≡ [])
  Ends (t ∷ ts) rest δ = Unit {0}

  -- before tokens of this class, both stacks come to the same
  abbrev pub Alike : ℕ → List (Symbol R A) → V → List (Symbol R A) → V → Type 0
  Alike c α vs β us =
      (rest ts : List T) (δ : List (Symbol R A)) (ws : V) → g.look (ts ++ rest) ≡ c → Ends ts rest δ → Begins g rest α vs ts δ ws ↔ Begins g rest β us ts δ ws

  -- before tokens of this class, they come to nothing
  abbrev pub Fails : ℕ → List (Symbol R A) → V → Type 0
  Fails c α vs = (rest ts : List T) (δ : List (Symbol R A)) (ws : V) → g.look (ts ++ rest) ≡ c → Ends ts rest δ → Begins g rest α vs ts δ ws → ⊥

  -- what the stacks come to before a token of this class: they take it, come to nothing, or are done
  abbrev pub IsNext : Table R A → ℕ → List (Symbol R A) → V → Next → List (Symbol R A) → V → Type 0
  IsNext table c α v next_is.Take β w =
      ((t : T) (ts rest : List T) (δ : List (Symbol R A)) (u : V) → g.look (t ∷ ts ++ rest) ≡ c → Begins g rest α v (t ∷ ts) δ u ↔ Begins g rest β (g.push t w) ts δ u)
      × (g.look [] ≡ c → (u : V) → Begins g [] α v [] [] u → ⊥)
      × Fits table β (one (g.look []))
  IsNext table c α v next_is.Refuse β w = Fails c α v
  IsNext table c α v next_is.Finish β w = Alike c α v [] w

  module _ (α₀ : List (Symbol R A)) (vs₀ : V) (ts : List T) where
    -- From the start the tokens before `at` come to these stacks, whatever follows them that looks the same.
    abbrev pub Comes : ℕ → List (Symbol R A) → V → Type 0
    Comes at α vs =
        (rest us : List T) (δ : List (Symbol R A)) (ws : V) → Same g (take at ts) (us ++ rest) (drop at ts)
        → Begins g rest α₀ vs₀ (take at ts ++ us) δ ws ↔ Begins g rest α vs us δ ws

    -- nothing that looks the same goes on or ends there
    abbrev pub Stuck : ℕ → Type 0
    Stuck at =
        (rest us : List T) (δ : List (Symbol R A)) (ws : V) → Same g (take at ts) (us ++ rest) (drop at ts) → Ends us rest δ
        → Begins g rest α₀ vs₀ (take at ts ++ us) δ ws → ⊥
