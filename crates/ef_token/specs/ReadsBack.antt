-- What is spelled is scanned as the token that it was.
use Rattle.std.specs.Prelude.{ℕ, ◌≡◌, ◌⊎◌, List, [], ◌∷◌, ◌++◌, codes, chars}
use Rattle.ef_base.specs.Texts.{Texts, Extends}
use Rattle.ef_base.specs.Positions.{Position, first_position, position_after, place_at}
use Rattle.ef_token.specs.declared.word.Sym.TheVariants as sym
use Rattle.ef_token.specs.declared.token.TokenKind.{TokenKind}
use Rattle.ef_token.specs.declared.token.TokenKind.TheVariants as kind
use Rattle.ef_token.specs.declared.token.Token.{Token}
use Rattle.ef_token.specs.Scans.{Form, tokens, faulty, Scans, HasOneScan}

-- a token is of this kind
abbrev pub HasKind : TokenKind → List Token → Type 0
HasKind k [] = ⊥
HasKind k (t ∷ ts) = (t.kind ≡ k) ⊎ HasKind k ts

-- a token of a form is
abbrev pub AreWith : TokenKind → List Form → Type 0
AreWith k [] = ⊥
AreWith k (tokens ts ∷ forms) = HasKind k ts ⊎ AreWith k forms
AreWith k (faulty f ∷ forms) = AreWith k forms

-- some text is scanned to forms with a token of this kind
abbrev pub IsScannedKind : Texts → TokenKind → Type 0
IsScannedKind all k = (file : ℕ) × (text : List ℕ) × (forms : List Form) × Scans all file text forms × AreWith k forms

-- the full stop, and the dot that ends no form
abbrev pub IsDot : TokenKind → Type 0
IsDot k = (k ≡ kind.Dot) ⊎ (k ≡ kind.Sym sym.Period)

abbrev pub token_at : ℕ → Position → TokenKind → Token
token_at file at k = record { kind = k; place = place_at file at }

-- with a space and a full stop behind them, the bytes are scanned as a token of this kind, and as nothing else
abbrev pub ScansAs : Texts → TokenKind → List ℕ → Type 0
ScansAs all k bytes =
    ((file : ℕ) → Scans all file (bytes ++ codes " .") (tokens (token_at file first_position k ∷ token_at file (position_after first_position (chars (bytes ++ codes " "))) kind.Dot ∷ []) ∷ []))
    × HasOneScan (bytes ++ codes " .")

-- the bytes put behind the old ones are, under each later table under which some text has such a token, unless it is a dot
abbrev pub ReadsBack : Texts → TokenKind → List ℕ → List ℕ → Type 0
ReadsBack now k old new =
    (all : Texts) → Extends now all → IsScannedKind all k → (IsDot k → ⊥) → (bytes : List ℕ) × (new ≡ old ++ bytes) × ScansAs all k bytes
