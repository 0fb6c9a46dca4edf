-- How the token of a lexeme is spelled: the bytes of its source text.
use Rattle.std.specs.Prelude.{ℕ, ◌≡◌, ◌≢◌, ◌⊎◌, ◌==◌, ◌||◌, nat_lt, List, [], ◌∷◌, ◌++◌, flat_map, decimal, encode_utf8_all, if◌then◌else◌}
use Rattle.ef_base.specs.Characters.{BeginsAndGoesOn}
pub use Rattle.ef_base.specs.Escaped.{hex_escape, escaped}
use Rattle.ef_base.specs.Texts.{Texts}
use Rattle.ef_token.specs.Letters.{begins_atom, continues_name}
use Rattle.ef_token.specs.Lexeme.{Lexeme, atom, variable, integer, character, string, word, symbol, full_stop, IsKind}
use Rattle.ef_token.specs.Words.{word_text, sym_text}
use Rattle.ef_token.specs.declared.word.Word.{Word}
use Rattle.ef_token.specs.declared.token.TokenKind.{TokenKind}

abbrev pub quoted : ℕ → List ℕ → List ℕ
quoted quote cs = quote ∷ (flat_map (escaped quote) cs ++ quote ∷ [])

-- behind `$`, before `\` alone, and a space is no plain character
abbrev pub escaped_alone : ℕ → List ℕ
escaped_alone c = if c == 92 then 92 ∷ 92 ∷ [] else (if nat_lt c 33 || nat_lt 126 c then hex_escape c else c ∷ [])

-- an atom that needs no quotes
abbrev pub IsBare : List ℕ → Type 0
IsBare cs = BeginsAndGoesOn begins_atom continues_name cs × ((w : Word) → cs ≢ word_text w)

abbrev pub IsSpelling : Lexeme → List ℕ → Type 0
IsSpelling (atom cs) bytes = (IsBare cs × (bytes ≡ encode_utf8_all cs)) ⊎ ((IsBare cs → ⊥) × (bytes ≡ quoted 39 cs))
IsSpelling (variable cs) bytes = bytes ≡ encode_utf8_all cs
IsSpelling (integer n) bytes = bytes ≡ decimal n
IsSpelling (character c) bytes = bytes ≡ 36 ∷ escaped_alone c
IsSpelling (string cs) bytes = bytes ≡ quoted 34 cs
IsSpelling (word w) bytes = bytes ≡ word_text w
IsSpelling (symbol s) bytes = bytes ≡ sym_text s
IsSpelling full_stop bytes = bytes ≡ 46 ∷ []

-- the old bytes stand in front of the new
pub record Keeps (old new : List ℕ) : Type 0 where
  pub more : List ℕ
  pub is : new ≡ old ++ more

-- behind the old bytes stands the spelling of each lexeme whose token is of this kind
abbrev pub Spells : Texts → TokenKind → List ℕ → List ℕ → Type 0
Spells all kind old new = (l : Lexeme) → IsKind all l kind → (bytes : List ℕ) × IsSpelling l bytes × (new ≡ old ++ bytes)
