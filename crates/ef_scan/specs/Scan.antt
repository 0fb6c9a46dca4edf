-- What a text is scanned to, and what holds of texts without faulty forms.
use Rattle.std.specs.Prelude.{ℕ, ◌≡◌, List, [], ◌∷◌, ◌++◌, map, chars, IsUtf8}
use Rattle.ef_base.specs.Texts.{Texts}
use Rattle.ef_base.specs.Positions.{first_position}
use Rattle.ef_base.specs.Cut.{Placed}
pub use Rattle.ef_token.specs.TokenForm.{IsForm, AreForms}
pub use Rattle.ef_token.specs.Scans.{IsOpen, AreComments, fault_at, Form, tokens, faulty, Forms, no_more, ended, broken, unended, IsCodingHere, HasCoding, IsCoding, NoCoding, FormsOf, latin, unicode, Scans, not_utf8, is_cut, AreOf, IsScanned, HasOneCut, HasOneScan}
use Rattle.ef_token.specs.Lexeme.{AreTokens}
use Rattle.ef_token.specs.Parts.{Part, CutsInto, lexemes_of}
use Rattle.ef_token.specs.declared.token.Token.{Token}
use Rattle.ef_token.specs.declared.token.ScannedForm.{ScannedForm}
use Rattle.ef_token.specs.declared.token.ScannedForm.TheVariants.{Tokens}

-- ---- texts without faulty forms

abbrev pub joined : List (List Token) → List Token
joined [] = []
joined (f ∷ fs) = f ++ joined fs

-- the bytes are scanned to these forms of tokens
abbrev pub ScansTo : Texts → ℕ → List ℕ → List (List Token) → Type 0
ScansTo all file text forms = Scans all file text (map tokens forms)

-- then they are a text of UTF-8 that is cut into lexemes of these tokens, and comments; each form ends with its only
-- full stop
pub record IsOfTokens (all : Texts) (file : ℕ) (text : List ℕ) (forms : List (List Token)) : Type 0 where
  pub utf8 : IsUtf8 text
  pub parts : List (Placed Part)
  pub cut : CutsInto first_position (chars text) parts
  pub tokens : AreTokens all file (lexemes_of parts) (joined forms)
  pub ends : AreForms forms

-- scanned forms without a faulty one
abbrev pub AreTokenForms : List ScannedForm → List (List Token) → Type 0
AreTokenForms [] [] = Unit {0}
AreTokenForms (Tokens ts ∷ scanned) (form ∷ forms) = (ts.items ≡ form) × AreTokenForms scanned forms
AreTokenForms _ _ = ⊥

-- what holds of each text without faulty forms
pub record TokenFormLaws (text : List ℕ) : Type 0 where
  pub of_tokens : (all : Texts) (file : ℕ) (forms : List (List Token)) → ScansTo all file text forms → IsOfTokens all file text forms
  pub scanned : (all : Texts) (file : ℕ) (scanned : List ScannedForm) (forms : List (List Token)) → IsScanned all file text scanned → AreTokenForms scanned forms → ScansTo all file text forms
