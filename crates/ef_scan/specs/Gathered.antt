-- What the scanner has gathered: whole and faulty forms, the tokens of one that is not ended, and where Latin-1 is named.
use Rattle.std.specs.Prelude.{ℕ, ◌≡◌, List, ◌∷◌, ◌++◌, chars, Option, Some, None}
use Rattle.ef_base.specs.declared.fault.Place.{Place}
use Rattle.ef_base.specs.Texts.{Texts, AllDiffer, Extends}
use Rattle.ef_base.specs.Characters.{Stops, is_white}
use Rattle.ef_base.specs.Positions.{first_position, place_at}
use Rattle.ef_base.specs.Cut.{Placed}
use Rattle.ef_base.specs.Taken.{Took}
use Rattle.ef_token.specs.Lexeme.{AreTokens}
use Rattle.ef_token.specs.Parts.{Part, Gap, Spelled, lexemes_of}
use Rattle.ef_token.specs.declared.token.ScannedForm.{ScannedForm}
use Rattle.ef_scan.specs.declared.cursor.Cursor.{Cursor}
use Rattle.ef_scan.specs.declared.gathered.Gathered.{Gathered}
use Rattle.ef_scan.specs.Cursors.{IsInText, position_of}
use Rattle.ef_scan.specs.Scan.{Form, Forms, FormsOf, IsOpen, IsCoding, NoCoding, AreOf}

-- the place of the first comment that names Latin-1
abbrev pub IsLatin : ℕ → Option Place → List (Placed Part) → Type 0
IsLatin file None parts = NoCoding parts
IsLatin file (Some place) parts =
    (ps more : List (Placed Part)) × (p : Placed Part) × (parts ≡ ps ++ p ∷ more) × NoCoding ps × IsCoding p × (place ≡ place_at file p.at)

-- what is gathered is of these parts
pub record Gathers (all : Texts) (file : ℕ) (gathered : Gathered) (parts : List (Placed Part)) : Type 0 where
  pub before : List (Placed Part)
  pub unended : List (Placed Part)
  pub forms : List Form
  pub is : before ++ unended ≡ parts
  pub are : AreOf gathered.done.items forms
  -- the forms of what follows come behind those that are whole
  pub on : (more : List (Placed Part)) (later : List Form) → Forms all file more later → Forms all file (before ++ more) (forms ++ later)
  pub is_open : IsOpen unended
  pub tokens : AreTokens all file (lexemes_of unended) gathered.open_form.items
  pub latin : IsLatin file gathered.latin parts

-- the scanned forms are those of the parts
abbrev pub AreFormsOf : Texts → ℕ → List (Placed Part) → List ScannedForm → Type 0
AreFormsOf all file parts scanned = (forms : List Form) × AreOf scanned forms × FormsOf all file parts forms

-- the text's parts before the cursor are gathered, under the table and later ones; the table extends the one before
pub record IsGathered (before now : Texts) (file : ℕ) (text : List ℕ) (cursor : Cursor) (gathered : Gathered) : Type 0 where
  pub parts : List (Placed Part)
  pub took : Took Gap Spelled first_position (chars text) parts (position_of cursor) (chars cursor.rest.now)
  pub gathers : (all : Texts) → Extends now all → Gathers all file gathered parts
  pub kept : Extends before now
  pub differ : AllDiffer before → AllDiffer now
  pub in_text : IsInText cursor
  pub stops : Stops is_white (chars cursor.rest.now)
