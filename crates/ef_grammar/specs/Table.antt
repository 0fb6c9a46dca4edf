-- The choice of a rule's right side by the class of the next token, and when it loses nothing.
use Rattle.std.specs.Prelude.{◌≡◌, ℕ, zero, suc, ◌+◌, Bool, true, ◌&&◌, nat_eq, nat_lt, bit_and, bit_or, cond, List, [], ◌∷◌, ◌++◌, Option, Some, None}
use Rattle.ef_grammar.specs.Grammar.{Symbol, Token, Rule, Act, has}

abbrev pub within : ℕ → ℕ → Bool
within s t = nat_eq (bit_and s t) s

abbrev pub apart : ℕ → ℕ → Bool
apart s t = nat_eq (bit_and s t) 0

-- a right side, and the classes of the tokens at which it is chosen
pub record Row (R A : Type 0) : Type 0 where
  pub at : ℕ
  pub right : List (Symbol R A)

abbrev pub chosen : {R A : Type 0} → List (Row R A) → ℕ → Option (List (Symbol R A))
chosen [] i = None
chosen (r ∷ rs) i = cond (has r.at i) (Some r.right) (chosen rs i)

-- the classes at which one of them is chosen
abbrev pub at_any : {R A : Type 0} → List (Row R A) → ℕ
at_any [] = 0
at_any (r ∷ rs) = bit_or r.at (at_any rs)

abbrev pub rights : {R A : Type 0} → List (Row R A) → List (List (Symbol R A))
rights [] = []
rights (r ∷ rs) = r.right ∷ rights rs

-- each right side with its classes
abbrev pub rowed : {R A : Type 0} → List ℕ → List (List (Symbol R A)) → List (Row R A)
rowed (s ∷ ss) (α ∷ αs) = record { at = s; right = α } ∷ rowed ss αs
rowed _ _ = []

-- The rows of each rule, the classes of what may stand behind it, and a bound of the steps before its first token. `ahead` is
-- how many levels of rules are opened ahead of a run.
pub record Table (R A : Type 0) : Type 0 where
  pub rows : R → List (Row R A)
  pub behind : R → ℕ
  pub height : R → ℕ
  pub ahead : R → ℕ

module _ {R A : Type 0} (t : Table R A) where
  -- the classes of the token at which the symbols are begun, where these stand behind them
  abbrev pub leading : List (Symbol R A) → ℕ → ℕ
  leading [] s = s
  leading (Token c ∷ α) s = c
  leading (Rule n ∷ α) s = at_any (t.rows n)
  leading (Act a ∷ α) s = leading α s

  -- behind each rule stands what may stand there
  abbrev pub fits : List (Symbol R A) → ℕ → Bool
  fits [] s = true
  fits (Token c ∷ α) s = fits α s
  fits (Rule n ∷ α) s = within (leading α s) (t.behind n) && fits α s
  fits (Act a ∷ α) s = fits α s

  -- the steps before the first token
  abbrev pub weight : List (Symbol R A) → ℕ
  weight [] = 0
  weight (Token c ∷ α) = 0
  weight (Rule n ∷ α) = t.height n + weight α
  weight (Act a ∷ α) = suc (weight α)

  abbrev pub is_fit : R → Row R A → Bool
  is_fit n r = within (leading r.right (t.behind n)) r.at && fits r.right (t.behind n) && nat_lt (weight r.right) (t.height n)

  abbrev pub are_fit : R → List (Row R A) → Bool
  are_fit n [] = true
  are_fit n (r ∷ rs) = apart r.at (at_any rs) && is_fit n r && are_fit n rs

  -- The condition LL(1): no class chooses two rows of a rule, and each row is chosen at all that it may begin with.
  abbrev pub IsSound : Type 0
  IsSound = (n : R) → are_fit n (t.rows n) ≡ true

  -- ---- rows that are opened

  -- these rows before α, at some classes alone
  abbrev pub before : ℕ → List (Symbol R A) → List (Row R A) → List (Row R A)
  before s α [] = []
  before s α (r ∷ rs) = record { at = bit_and s r.at; right = r.right ++ α } ∷ before s α rs

  -- a right side that begins with a rule has that rule's rows in its place
  abbrev pub opened_row : ℕ → List (Symbol R A) → List (Row R A)
  opened_row s (Rule n ∷ α) = before s α (t.rows n)
  opened_row s α = record { at = s; right = α } ∷ []

  abbrev pub opened_once : List (Row R A) → List (Row R A)
  opened_once [] = []
  opened_once (r ∷ rs) = opened_row r.at r.right ++ opened_once rs

  abbrev pub opened : ℕ → List (Row R A) → List (Row R A)
  opened zero rs = rs
  opened (suc k) rs = opened k (opened_once rs)

  abbrev pub opened_rows : R → List (Row R A)
  opened_rows n = opened (t.ahead n) (t.rows n)

  -- ---- symbols that come to nothing

  -- the classes of a right side, if it is empty
  abbrev pub of_nothing : ℕ → List (Symbol R A) → ℕ
  of_nothing s [] = s
  of_nothing s (x ∷ α) = 0

  -- the classes at which an empty right side is chosen
  abbrev pub nothing_at : List (Row R A) → ℕ
  nothing_at [] = 0
  nothing_at (r ∷ rs) = bit_or (of_nothing r.at r.right) (nothing_at rs)

  -- at each of these classes they all come to nothing
  abbrev pub vanish : ℕ → List (Symbol R A) → Bool
  vanish s [] = true
  vanish s (Rule n ∷ α) = within s (nothing_at (t.rows n)) && vanish s α
  vanish s (x ∷ α) = nat_eq s 0 && vanish s α
