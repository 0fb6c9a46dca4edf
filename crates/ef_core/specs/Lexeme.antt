-- The lexemes of Core text and their spellings (Core Erlang 1.0.3, lexical definitions).
use Rattle.std.specs.Prelude.{ℕ, ℤ, pos, neg_ℤ, ◌≡◌, ◌≢◌, ◌⊎◌, ◌==◌, true, false, List, [], ◌∷◌, ◌++◌, map, codes, IsUtf8, chars}
use Rattle.ef_base.specs.Characters.{BeginsAndGoesOn, is_digit, is_upper, is_name_part, is_white, number_after}
use Rattle.ef_base.specs.Cut.{Placed, Cuts}
use Rattle.ef_base.specs.Positions.{first_position}
use Rattle.ef_base.specs.Escape.{Written, WrittenAll}
pub use Rattle.ef_core.specs.declared.lexeme.Word.{Word}
pub use Rattle.ef_core.specs.declared.lexeme.Word.TheVariants.{After, Apply, Attributes, Call, Case, Catch, Do, End, Fun, In, Let, Letrec, Module, Of, Primop, Receive, Try, When}
pub use Rattle.ef_core.specs.declared.lexeme.Symbol.{Symbol}
pub use Rattle.ef_core.specs.declared.lexeme.Symbol.TheVariants.{LeftParen, RightParen, LeftBracket, RightBracket, LeftBrace, RightBrace, Less, Greater, Comma, Bar, Slash, Colon, Equals, Arrow, DashBar, BinBegin, SegmentBegin, BinEnd}

-- an atom, a variable and a string by their characters
pub data Lexeme : Type 0 where
  TheWord : Word → Lexeme
  Atom : List ℕ → Lexeme
  Var : List ℕ → Lexeme
  Int : ℤ → Lexeme
  Char : ℕ → Lexeme
  Str : List ℕ → Lexeme
  Sym : Symbol → Lexeme

abbrev pub word_text : Word → List ℕ
word_text After = codes "after"
word_text Apply = codes "apply"
word_text Attributes = codes "attributes"
word_text Call = codes "call"
word_text Case = codes "case"
word_text Catch = codes "catch"
word_text Do = codes "do"
word_text End = codes "end"
word_text Fun = codes "fun"
word_text In = codes "in"
word_text Let = codes "let"
word_text Letrec = codes "letrec"
word_text Module = codes "module"
word_text Of = codes "of"
word_text Primop = codes "primop"
word_text Receive = codes "receive"
word_text Try = codes "try"
word_text When = codes "when"

abbrev pub symbol_text : Symbol → List ℕ
symbol_text LeftParen = codes "("
symbol_text RightParen = codes ")"
symbol_text LeftBracket = codes "["
symbol_text RightBracket = codes "]"
symbol_text LeftBrace = codes "{"
symbol_text RightBrace = codes "}"
symbol_text Less = codes "<"
symbol_text Greater = codes ">"
symbol_text Comma = codes ","
symbol_text Bar = codes "|"
symbol_text Slash = codes "/"
symbol_text Colon = codes ":"
symbol_text Equals = codes "="
symbol_text Arrow = codes "->"
symbol_text DashBar = codes "-|"
symbol_text BinBegin = codes "#{"
symbol_text SegmentBegin = codes "#<"
symbol_text BinEnd = codes "}#"

-- ---- spellings

-- decimal digits
abbrev pub IsNumber : List ℕ → Type 0
IsNumber text = BeginsAndGoesOn is_digit is_digit text

-- text in quotes of this kind
abbrev pub IsQuoted : ℕ → List ℕ → List ℕ → Type 0
IsQuoted quote chars text = (inner : List ℕ) × (text ≡ quote ∷ (inner ++ quote ∷ [])) × WrittenAll (λ c. c == quote) chars inner (quote ∷ [])

-- the text spells the lexeme, with this rest behind it
abbrev pub Spelled : Lexeme → List ℕ → List ℕ → Type 0
Spelled (TheWord w) text rest = text ≡ word_text w
Spelled (Atom chars) text rest = IsQuoted 39 chars text
Spelled (Var name) text rest = (text ≡ name) × BeginsAndGoesOn is_upper is_name_part name
Spelled (Int n) text rest =
    (digits : List ℕ) × IsNumber digits
    × (((text ≡ digits) × (n ≡ pos (number_after 0 digits))) ⊎ ((text ≡ 45 ∷ digits) × (n ≡ neg_ℤ (pos (number_after 0 digits)))))
Spelled (Char c) text rest = (inner : List ℕ) × (text ≡ 36 ∷ inner) × Written (λ c. false) c inner rest
Spelled (Str chars) text rest = IsQuoted 34 chars text
Spelled (Sym s) text rest = text ≡ symbol_text s

-- white space, and comments that end with their line
mutual
  pub data Gap : List ℕ → Type 0 where
    none : Gap []
    white : (c : ℕ) (cs : List ℕ) → is_white c ≡ true → Gap cs → Gap (c ∷ cs)
    comment : (cs : List ℕ) → Comment cs → Gap (37 ∷ cs)

  pub data Comment : List ℕ → Type 0 where
    line_end : (cs : List ℕ) → Gap cs → Comment (10 ∷ cs)
    goes_on : (c : ℕ) (cs : List ℕ) → c ≢ 10 → Comment cs → Comment (c ∷ cs)

-- the text is these lexemes, each the longest at its place, with gaps between
abbrev pub CutsInto : List ℕ → List (Placed Lexeme) → Type 0
CutsInto text ls = Cuts Gap Spelled first_position text ls

-- all cuts of the text are one
abbrev pub HasOneCut : List ℕ → Type 0
HasOneCut text = (ls ms : List (Placed Lexeme)) → CutsInto text ls → CutsInto text ms → ls ≡ ms

-- the bytes are a text that is cut into these lexemes
pub record IsTextOf (lexemes : List Lexeme) (bytes : List ℕ) : Type 0 where
  pub utf8 : IsUtf8 bytes
  pub placed : List (Placed Lexeme)
  pub are : map (λ (l : Placed Lexeme). l.lexeme) placed ≡ lexemes
  pub cut : CutsInto (chars bytes) placed
