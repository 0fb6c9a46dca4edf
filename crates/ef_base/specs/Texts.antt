-- Tables of texts, and what holds of a name in every later table.
use Rattle.std.specs.Prelude.{ℕ, ◌<◌, List, [], ◌∷◌, ◌++◌, ◌≡◌, ◌≢◌, ◌⊎◌, slice_get, get_or, length, Some, IsUtf8}
use Rattle.ef_base.specs.declared.name.Name.{Name}

-- the texts of a table, each at the number of its name
abbrev pub Texts : Type 0
Texts = List (List ℕ)

-- no text stands twice
abbrev pub AllDiffer : Texts → Type 0
AllDiffer texts =
    (i j : ℕ) (text : List ℕ) → slice_get texts i ≡ Some text → slice_get texts j ≡ Some text → i ≡ j

-- the text stands nowhere
abbrev pub IsAbsent : List ℕ → Texts → Type 0
IsAbsent text texts = (k : ℕ) → slice_get texts k ≢ Some text

-- the text is put behind where it stood nowhere, and else nothing changes
abbrev pub Gains : List ℕ → Texts → Texts → Type 0
Gains text old new = (new ≡ old) ⊎ ((new ≡ old ++ text ∷ []) × IsAbsent text old)

-- a table, and the same or a later one
pub record Extends (now all : Texts) : Type 0 where
  pub more : Texts
  pub is : now ++ more ≡ all

-- the name is one of the table
abbrev pub HasName : Texts → Name → Type 0
HasName texts name = name.index < length texts

-- the text of a name of the table
abbrev pub text : Texts → Name → List ℕ
text texts name = get_or texts name.index []

-- every name has a text of UTF-8
abbrev pub AllUtf8 : Texts → Type 0
AllUtf8 texts = (name : Name) → HasName texts name → IsUtf8 (text texts name)

-- the name is one of the table, and has this text
pub record IsNameOf (texts : Texts) (name : Name) (bytes : List ℕ) : Type 0 where
  pub within : HasName texts name
  pub is : text texts name ≡ bytes

-- the table has the text
abbrev pub HasText : Texts → List ℕ → Type 0
HasText texts bytes = (name : Name) × IsNameOf texts name bytes

-- the name is one of the new table, and the old one did not have its text
pub record IsFresh (old new : Texts) (name : Name) : Type 0 where
  pub within : HasName new name
  pub absent : IsAbsent (text new name) old
