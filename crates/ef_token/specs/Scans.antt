-- The forms that a text is scanned to.
use Rattle.std.specs.Prelude.{ℕ, ◌≤◌, ◌≡◌, ◌≢◌, ◌==◌, ◌||◌, true, List, [], ◌∷◌, ◌++◌, map, take, codes, chars, IsUtf8}
use Rattle.std.specs.Str.{IsValidUpTo}
use Rattle.std.specs.Char.{to_ascii_lowercase}
use Rattle.ef_base.specs.declared.fault.Fault.{Fault}
use Rattle.ef_base.specs.Texts.{Texts, AllDiffer}
use Rattle.ef_base.specs.Characters.{Each}
use Rattle.ef_base.specs.Positions.{Position, first_position, position_after, place_at}
use Rattle.ef_base.specs.Cut.{Placed}
use Rattle.ef_base.specs.FaultTable as table
use Rattle.ef_base.specs.NamedFaults.{plain}
use Rattle.ef_token.specs.Lexeme.{Lexeme, AreTokens, full_stop}
use Rattle.ef_token.specs.Parts.{Part, lexeme, comment, fault, CutsInto, lexemes_of}
use Rattle.ef_token.specs.declared.token.Token.{Token}
use Rattle.ef_token.specs.declared.token.ScannedForm.{ScannedForm}
use Rattle.ef_token.specs.declared.token.ScannedForm.TheVariants.{Tokens, Faulty}

-- ---- forms

-- comments and lexemes that end no form
abbrev pub IsOpen : List (Placed Part) → Type 0
IsOpen [] = Unit {0}
IsOpen (p ∷ ps) = ((p.lexeme ≢ lexeme full_stop) × ((code : ℕ) → p.lexeme ≢ fault code)) × IsOpen ps

abbrev pub AreComments : List (Placed Part) → Type 0
AreComments [] = Unit {0}
AreComments (p ∷ ps) = ((cs : List ℕ) × (p.lexeme ≡ comment cs)) × AreComments ps

-- a scanning fault has no words
abbrev pub fault_at : ℕ → Position → ℕ → Fault
fault_at file at code = plain (place_at file at) code

-- a form of tokens, or the fault of a faulty form
pub data Form : Type 0 where
  tokens : List Token → Form
  faulty : Fault → Form

-- the forms that parts of a file are, under a table of names
pub data Forms (all : Texts) (file : ℕ) : List (Placed Part) → List Form → Type 0 where
  no_more : (ps : List (Placed Part)) → AreComments ps → Forms all file ps []
  -- a form ends with its full stop
  ended : (ps more : List (Placed Part)) (dot : Placed Part) (ts : List Token) (forms : List Form) → IsOpen ps → dot.lexeme ≡ lexeme full_stop
      → AreTokens all file (lexemes_of (ps ++ dot ∷ [])) ts → Forms all file more forms → Forms all file (ps ++ dot ∷ more) (tokens ts ∷ forms)
  -- or with its first fault
  broken : (ps more : List (Placed Part)) (p : Placed Part) (code : ℕ) (forms : List Form) → IsOpen ps → p.lexeme ≡ fault code
      → Forms all file more forms → Forms all file (ps ++ p ∷ more) (faulty (fault_at file p.at code) ∷ forms)
  -- or the file ends in it
  unended : (ps : List (Placed Part)) (first : Placed Lexeme) (ls : List (Placed Lexeme)) → IsOpen ps → lexemes_of ps ≡ first ∷ ls
      → Forms all file ps (faulty (fault_at file first.at table.no_full_stop) ∷ [])

-- ---- comments that name Latin-1

-- behind a comment's `%`, the text goes on with `coding`, `:` or `=`, and `latin-1` in any case of letters
pub record IsCodingHere (text : List ℕ) : Type 0 where
  pub before : List ℕ
  pub sign : ℕ
  pub behind : List ℕ
  pub name : List ℕ
  pub rest : List ℕ
  pub is : text ≡ codes "coding" ++ (before ++ sign ∷ (behind ++ (name ++ rest)))
  pub spaces : Each (λ c. c == 32) before × Each (λ c. c == 32) behind
  pub is_sign : (sign == 58 || sign == 61) ≡ true
  pub is_name : map to_ascii_lowercase name ≡ codes "latin-1"

abbrev pub HasCoding : List ℕ → Type 0
HasCoding text = (front rest : List ℕ) × (text ≡ front ++ rest) × IsCodingHere rest

-- a comment in the first two lines that names Latin-1
abbrev pub IsCoding : Placed Part → Type 0
IsCoding p = (p.at.line ≤ 2) × (cs : List ℕ) × (p.lexeme ≡ comment cs) × HasCoding cs

abbrev pub NoCoding : List (Placed Part) → Type 0
NoCoding [] = Unit {0}
NoCoding (p ∷ ps) = (IsCoding p → ⊥) × NoCoding ps

-- the forms that a whole text's parts are
pub data FormsOf (all : Texts) (file : ℕ) : List (Placed Part) → List Form → Type 0 where
  -- what names Latin-1 is one faulty form, at the first such comment
  latin : (ps more : List (Placed Part)) (p : Placed Part) → NoCoding ps → IsCoding p → FormsOf all file (ps ++ p ∷ more) (faulty (fault_at file p.at table.latin) ∷ [])
  unicode : (ps : List (Placed Part)) (forms : List Form) → NoCoding ps → Forms all file ps forms → FormsOf all file ps forms

-- ---- the whole

-- the bytes of a file are scanned to these forms, under a table of names
pub data Scans (all : Texts) (file : ℕ) (text : List ℕ) : List Form → Type 0 where
  -- what is not UTF-8 is one faulty form, at its first bad byte
  not_utf8 : (n : ℕ) → IsValidUpTo text n → Scans all file text (faulty (fault_at file (position_after first_position (chars (take n text))) table.not_utf8) ∷ [])
  is_cut : (ps : List (Placed Part)) (forms : List Form) → IsUtf8 text → CutsInto first_position (chars text) ps → FormsOf all file ps forms → Scans all file text forms

-- the scanned forms are these
abbrev pub AreOf : List ScannedForm → List Form → Type 0
AreOf [] [] = Unit {0}
AreOf (Tokens ts ∷ scanned) (tokens us ∷ forms) = (ts.items ≡ us) × AreOf scanned forms
AreOf (Faulty f ∷ scanned) (faulty g ∷ forms) = (f ≡ g) × AreOf scanned forms
AreOf _ _ = ⊥

abbrev pub IsScanned : Texts → ℕ → List ℕ → List ScannedForm → Type 0
IsScanned all file text scanned = (forms : List Form) × AreOf scanned forms × Scans all file text forms

-- the text is cut into parts in no second way
abbrev pub HasOneCut : List ℕ → Type 0
HasOneCut text = (ps qs : List (Placed Part)) → CutsInto first_position (chars text) ps → CutsInto first_position (chars text) qs → ps ≡ qs

-- and scanned to no other forms under a table whose texts differ
abbrev pub HasOneScan : List ℕ → Type 0
HasOneScan text = (all : Texts) (file : ℕ) (fs gs : List Form) → AllDiffer all → Scans all file text fs → Scans all file text gs → fs ≡ gs
