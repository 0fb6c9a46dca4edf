-- The lexemes of Erlang source and their spellings (Reference Manual, lexical rules), and the tokens that they are.
use Rattle.std.specs.Prelude.{ℕ, ◌^◌, ◌<◌, ◌≤◌, ◌≡◌, ◌≢◌, ◌==◌, ◌||◌, ◌⊎◌, true, false, List, [], ◌∷◌, ◌++◌, length, map, pos, encode_utf8_all, Option, Some, None}
use Rattle.ef_base.specs.Texts.{Texts, IsNameOf}
use Rattle.ef_base.specs.Positions.{place_at}
use Rattle.ef_base.specs.Cut.{Placed}
use Rattle.ef_base.specs.Escape.{Escape, Written}
pub use Rattle.ef_base.specs.Characters.{is_within, is_digit, is_white, Each, Stops, BeginsAndGoesOn}
pub use Rattle.ef_token.specs.Letters.{begins_atom, begins_variable, continues_name}
use Rattle.ef_token.specs.Numerals.{Digits, value_of, IsBase}
use Rattle.ef_token.specs.declared.token.TokenKind.{TokenKind}
use Rattle.ef_token.specs.declared.token.TokenKind.TheVariants as kind
use Rattle.ef_token.specs.declared.token.Token.{Token}
use Rattle.ef_token.specs.declared.word.Word.{Word}
use Rattle.ef_token.specs.declared.word.Sym.{Sym}
use Rattle.ef_token.specs.declared.word.Sym.TheVariants as sym
use Rattle.ef_token.specs.Words.{word_text, sym_text}

-- an atom, a variable and a string by their characters, an integer by its value
pub data Lexeme : Type 0 where
  atom : List ℕ → Lexeme
  variable : List ℕ → Lexeme
  integer : ℕ → Lexeme
  character : ℕ → Lexeme
  string : List ℕ → Lexeme
  word : Word → Lexeme
  symbol : Sym → Lexeme
  full_stop : Lexeme

-- what follows the dot of a full stop: white space, `%` or nothing
abbrev pub EndsForm : List ℕ → Type 0
EndsForm [] = Unit {0}
EndsForm (c ∷ cs) = (is_white c || c == 37) ≡ true

-- a text behind `\` that begins with `x` or `^`, and with no escape
abbrev pub IsIllegalEscape : List ℕ → Type 0
IsIllegalEscape [] = ⊥
IsIllegalEscape (c ∷ cs) = ((c == 120 || c == 94) ≡ true) × ((d : ℕ) (front rest : List ℕ) → c ∷ cs ≡ front ++ rest → Escape d front rest → ⊥)

-- what stands behind an opening quote, up to and with the first closing one: characters, each as it is written,
-- and illegal escapes, which are none
pub data Quoted (quote : ℕ) : List (Option ℕ) → List ℕ → List ℕ → Type 0 where
  closes : (rest : List ℕ) → Quoted quote [] (quote ∷ []) rest
  legal : (c : ℕ) (cs : List (Option ℕ)) (front text rest : List ℕ) → Written (λ d. d == quote) c front (text ++ rest) → Quoted quote cs text rest → Quoted quote (Some c ∷ cs) (front ++ text) rest
  illegal : (c : ℕ) (cs : List (Option ℕ)) (text rest : List ℕ) → IsIllegalEscape (c ∷ (text ++ rest)) → Quoted quote cs text rest → Quoted quote (None ∷ cs) (92 ∷ c ∷ text) rest

-- these characters in quotes
abbrev pub IsQuoted : ℕ → List ℕ → List ℕ → List ℕ → Type 0
IsQuoted quote chars text rest = (inner : List ℕ) × (text ≡ quote ∷ inner) × Quoted quote (map Some chars) inner rest

-- decimal digits, or a base in such digits, `#` and digits below the base
abbrev pub IsInteger : ℕ → List ℕ → Type 0
IsInteger n text =
    (Digits 10 text × (value_of 10 text ≡ n))
    ⊎ ((base digits : List ℕ) × (text ≡ base ++ 35 ∷ digits) × Digits 10 base × IsBase (value_of 10 base) × Digits (value_of 10 base) digits × (value_of (value_of 10 base) digits ≡ n))

-- the text, with this rest behind it, is the lexeme
abbrev pub IsLexeme : Lexeme → List ℕ → List ℕ → Type 0
IsLexeme (atom chars) text rest =
    ((text ≡ chars) × BeginsAndGoesOn begins_atom continues_name chars × ((w : Word) → chars ≢ word_text w)) ⊎ IsQuoted 39 chars text rest
IsLexeme (variable chars) text rest = (text ≡ chars) × BeginsAndGoesOn begins_variable continues_name chars
IsLexeme (integer n) text rest = IsInteger n text
IsLexeme (character c) text rest = (front : List ℕ) × (text ≡ 36 ∷ front) × Written (λ d. false) c front rest
IsLexeme (string chars) text rest = IsQuoted 34 chars text rest
IsLexeme (word w) text rest = text ≡ word_text w
IsLexeme (symbol s) text rest = (text ≡ sym_text s) × (s ≡ sym.Period → EndsForm rest → ⊥)
IsLexeme full_stop text rest = (text ≡ 46 ∷ []) × EndsForm rest

-- the kind of token that a lexeme is under a table of names: an atom has at most 255 characters, an integer lies below
-- 2 ^ 127
abbrev pub IsKind : Texts → Lexeme → TokenKind → Type 0
IsKind all (atom chars) (kind.Atom n) = IsNameOf all n (encode_utf8_all chars) × (length chars ≤ 255)
IsKind all (variable chars) (kind.Var n) = IsNameOf all n (encode_utf8_all chars)
IsKind all (integer n) (kind.Int i) = (i ≡ pos n) × (n < 2 ^ 127)
IsKind all (character c) (kind.Char d) = d ≡ c
IsKind all (string chars) (kind.Str ds) = ds ≡ chars
IsKind all (word w) (kind.Word v) = v ≡ w
IsKind all (symbol s) (kind.Sym t) = t ≡ s
IsKind all full_stop kind.Dot = Unit {0}
IsKind all _ _ = ⊥

-- the tokens of lexemes in a file of this number
abbrev pub AreTokens : Texts → ℕ → List (Placed Lexeme) → List Token → Type 0
AreTokens all file [] [] = Unit {0}
AreTokens all file (l ∷ ls) (t ∷ ts) = (t.place ≡ place_at file l.at) × IsKind all l.lexeme t.kind × AreTokens all file ls ts
AreTokens all file _ _ = ⊥
