-- Symbols at the front of a text.
use Rattle.std.specs.Prelude.{ℕ, ◌≤◌, ◌≡◌, List, ◌++◌, length}
use Rattle.ef_token.specs.declared.word.Sym.{Sym}
use Rattle.ef_token.specs.Words.{sym_text}

-- the text begins with the symbol
abbrev pub Fits : Sym → List ℕ → Type 0
Fits s text = (rest : List ℕ) × (text ≡ sym_text s ++ rest)

-- the text begins with the symbol, of so many characters, and with no longer one
pub record IsLongestSymbol (text : List ℕ) (s : Sym) (width : ℕ) : Type 0 where
  pub fits : Fits s text
  pub long : width ≡ length (sym_text s)
  pub longest : (t : Sym) → Fits t text → length (sym_text t) ≤ width
