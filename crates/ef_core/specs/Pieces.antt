-- From lexemes and places where lines begin to characters.
use Rattle.std.specs.Prelude.{ℕ, Bool, true, false, List, [], ◌∷◌, ◌++◌, flat_map, if◌then◌else◌}
use Rattle.std.specs.Fmt.{signed_decimal}
use Rattle.ef_base.specs.Escaped as quotes
pub use Rattle.ef_base.specs.Escaped.{hex_escape}
use Rattle.ef_core.specs.declared.layout.Last.{Last}
use Rattle.ef_core.specs.declared.layout.Last.TheVariants.{Start, Newline, Opening, Callable, Other}
use Rattle.ef_core.specs.Lexeme as x
use Rattle.ef_core.specs.Lexeme.{Lexeme, TheWord, Sym, word_text, symbol_text}

-- a lexeme, or a place where a line begins
pub data Piece : Type 0 where
  Break : Piece
  Put : Lexeme → Piece

abbrev pub put_word : x.Word → List Piece
put_word w = Put (TheWord w) ∷ []

abbrev pub put_sym : x.Symbol → List Piece
put_sym s = Put (Sym s) ∷ []

-- ---- from pieces to characters

-- between the quotes of an atom
abbrev pub escaped : ℕ → List ℕ
escaped = quotes.escaped 39

abbrev pub spelling : Lexeme → List ℕ
spelling (TheWord w) = word_text w
spelling (x.Atom cs) = 39 ∷ [] ++ (flat_map escaped cs ++ 39 ∷ [])
spelling (x.Var cs) = cs
spelling (x.Int n) = signed_decimal n
spelling (x.Char c) = 36 ∷ [] ++ hex_escape c
spelling (x.Str cs) = 34 ∷ [] ++ (flat_map hex_escape cs ++ 34 ∷ [])
spelling (Sym s) = symbol_text s

-- what a lexeme leaves for the next gap
abbrev pub after : Lexeme → Last
after (TheWord w) = Other
after (x.Atom cs) = Callable
after (x.Var cs) = Callable
after (x.Int n) = Callable
after (x.Char c) = Callable
after (x.Str cs) = Callable
after (Sym x.LeftParen) = Opening
after (Sym x.LeftBracket) = Opening
after (Sym x.LeftBrace) = Opening
after (Sym x.Less) = Opening
after (Sym x.Slash) = Opening
after (Sym x.Colon) = Opening
after (Sym x.BinBegin) = Opening
after (Sym x.SegmentBegin) = Opening
after (Sym x.Greater) = Callable
after (Sym _) = Other

-- before these nothing stands
abbrev pub closes : Lexeme → Bool
closes (Sym x.RightParen) = true
closes (Sym x.RightBracket) = true
closes (Sym x.RightBrace) = true
closes (Sym x.Greater) = true
closes (Sym x.Comma) = true
closes (Sym x.Slash) = true
closes (Sym x.Colon) = true
closes (Sym x.BinEnd) = true
closes (Sym _) = false
closes (TheWord w) = false
closes (x.Atom cs) = false
closes (x.Var cs) = false
closes (x.Int n) = false
closes (x.Char c) = false
closes (x.Str cs) = false

abbrev pub opens_args : Lexeme → Bool
opens_args (Sym x.LeftParen) = true
opens_args (Sym _) = false
opens_args (TheWord w) = false
opens_args (x.Atom cs) = false
opens_args (x.Var cs) = false
opens_args (x.Int n) = false
opens_args (x.Char c) = false
opens_args (x.Str cs) = false

-- what stands between what was printed last and the next lexeme
abbrev pub gap : Last → Lexeme → List ℕ
gap Start l = []
gap Newline l = 10 ∷ []
gap Opening l = []
gap Callable l = if closes l then [] else (if opens_args l then [] else 32 ∷ [])
gap Other l = if closes l then [] else 32 ∷ []

abbrev pub after_piece : Last → Piece → Last
after_piece last Break = Newline
after_piece last (Put l) = after l

abbrev pub lay_piece : Last → Piece → List ℕ
lay_piece last Break = []
lay_piece last (Put l) = gap last l ++ spelling l

abbrev pub lay : Last → List Piece → List ℕ
lay last [] = []
lay last (p ∷ ps) = lay_piece last p ++ lay (after_piece last p) ps

abbrev pub ends : Last → List Piece → Last
ends last [] = last
ends last (p ∷ ps) = ends (after_piece last p) ps

-- the gap before what is no symbol
abbrev pub plain_gap : Last → List ℕ
plain_gap Start = []
plain_gap Newline = 10 ∷ []
plain_gap Opening = []
plain_gap Callable = 32 ∷ []
plain_gap Other = 32 ∷ []

-- the lexemes of pieces
abbrev pub lexemes : List Piece → List Lexeme
lexemes [] = []
lexemes (Break ∷ ps) = lexemes ps
lexemes (Put l ∷ ps) = l ∷ lexemes ps
