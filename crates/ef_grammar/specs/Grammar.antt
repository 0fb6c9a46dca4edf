-- What a grammar's rows say of tokens. A right side is a list of symbols: a token of one of some classes, a rule, or an
-- action, which builds from what has been read. What has been read is a value of any type, mostly a stack; a token may put
-- something there.
use Rattle.std.specs.Prelude.{◌≡◌, ℕ, ◌^◌, Bool, true, nat_eq, bit_or, List, [], ◌∷◌, ◌++◌, Option, Some}
use Rattle.std.specs.Int.{bit_at}

-- Classes of tokens are numbers. A set of classes is a number too, whose bits are numbered by the classes.
abbrev pub has : ℕ → ℕ → Bool
has s i = nat_eq (bit_at s i) 1

abbrev pub one : ℕ → ℕ
one i = 2 ^ i

-- the set of these classes
abbrev pub set_of : List ℕ → ℕ
set_of [] = 0
set_of (i ∷ is) = bit_or (one i) (set_of is)

pub data Symbol (R A : Type 0) : Type 0 where
  Token : ℕ → Symbol R A
  Rule : R → Symbol R A
  Act : A → Symbol R A

-- `look` is the class of what comes next, and may depend on the tokens behind the first; no tokens have a class too.
-- An action that gives nothing refuses what has been read.
pub record Grammar (T V R A : Type 0) : Type 0 where
  pub look : List T → ℕ
  pub push : T → V → V
  pub act : A → V → Option V
  pub rules : R → List (List (Symbol R A))

-- one of them
pub data Among {X : Type 0} (x : X) : List X → Type 0 where
  first : (xs : List X) → Among x (x ∷ xs)
  later : (y : X) (xs : List X) → Among x xs → Among x (y ∷ xs)

-- `Leads g α vs ts ws`: the symbols spell all the tokens, and make these values of those
pub data Leads {T V R A : Type 0} (g : Grammar T V R A) : List (Symbol R A) → V → List T → V → Type 0 where
  done : (vs : V) → Leads g [] vs [] vs
  token : (s : ℕ) (α : List (Symbol R A)) (vs : V) (t : T) (ts : List T) (ws : V)
      → has s (g.look (t ∷ ts)) ≡ true → Leads g α (g.push t vs) ts ws → Leads g (Token s ∷ α) vs (t ∷ ts) ws
  acted : (a : A) (α : List (Symbol R A)) (vs us : V) (ts : List T) (ws : V)
      → g.act a vs ≡ Some us → Leads g α us ts ws → Leads g (Act a ∷ α) vs ts ws
  ruled : (n : R) (β α : List (Symbol R A)) (vs : V) (ts : List T) (ws : V)
      → Among β (g.rules n) → Leads g (β ++ α) vs ts ws → Leads g (Rule n ∷ α) vs ts ws

-- `Begins g rest α vs ts β ws`: in front of `rest` the symbols spell the tokens so far, and leave these symbols and values
pub data Begins {T V R A : Type 0} (g : Grammar T V R A) (rest : List T) : List (Symbol R A) → V → List T → List (Symbol R A) → V → Type 0 where
  there : (α : List (Symbol R A)) (vs : V) → Begins g rest α vs [] α vs
  takes : (s : ℕ) (α β : List (Symbol R A)) (vs : V) (t : T) (ts : List T) (ws : V)
      → has s (g.look (t ∷ ts ++ rest)) ≡ true → Begins g rest α (g.push t vs) ts β ws → Begins g rest (Token s ∷ α) vs (t ∷ ts) β ws
  acts : (a : A) (α β : List (Symbol R A)) (vs us : V) (ts : List T) (ws : V)
      → g.act a vs ≡ Some us → Begins g rest α us ts β ws → Begins g rest (Act a ∷ α) vs ts β ws
  goes : (n : R) (γ α β : List (Symbol R A)) (vs : V) (ts : List T) (ws : V)
      → Among γ (g.rules n) → Begins g rest (γ ++ α) vs ts β ws → Begins g rest (Rule n ∷ α) vs ts β ws
