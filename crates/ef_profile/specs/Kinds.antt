-- The kind of a form, which its first two tokens tell.
use Rattle.std.specs.Prelude.{ℕ, bytes_eq, codes, Bool, true, false, List, [], ◌∷◌, Option, Some, None, cond, if◌then◌else◌}
use Rattle.std.specs.List.{list_any}
use Rattle.ef_base.specs.declared.fault.Fault.{Fault}
use Rattle.ef_base.specs.declared.name.Name.{Name}
use Rattle.ef_base.specs.FaultTable as table
use Rattle.ef_base.specs.NamedFaults.{naming, syntax_error}
use Rattle.ef_base.specs.Texts.{Texts, text}
use Rattle.ef_token.specs.declared.token.Token.{Token}
use Rattle.ef_token.specs.declared.token.TokenKind.{TokenKind}
use Rattle.ef_token.specs.declared.token.TokenKind.TheVariants as kind
use Rattle.ef_token.specs.declared.word.Sym.TheVariants as sym
use Rattle.ef_parse.specs.declared.spelled.FormKind.{FormKind}
use Rattle.ef_parse.specs.declared.spelled.FormKind.TheVariants as is
use Rattle.ef_parse.specs.Spelled.{start_of}

abbrev pub is_minus : TokenKind → Bool
is_minus (kind.Sym sym.Minus) = true
is_minus _ = false

abbrev pub atom_in : TokenKind → Option Name
atom_in (kind.Atom n) = Some n
atom_in _ = None

-- what begins as an attribute
abbrev pub is_attribute : List Token → Bool
is_attribute [] = false
is_attribute (t ∷ ts) = is_minus t.kind

-- the name of an attribute
abbrev pub attribute_name : List Token → Option Name
attribute_name (t ∷ u ∷ ts) = cond (is_minus t.kind) (atom_in u.kind) None
attribute_name _ = None

-- attributes that are read and have no meaning
abbrev pub dropped_words : List (List ℕ)
dropped_words =
    codes "spec" ∷ codes "type" ∷ codes "opaque" ∷ codes "nominal" ∷ codes "callback" ∷ codes "export_type" ∷ codes "feature"
    ∷ codes "doc" ∷ codes "moduledoc" ∷ []

abbrev pub word_kind : List ℕ → FormKind
word_kind w =
    if bytes_eq w (codes "module") then is.Module
    else if bytes_eq w (codes "export") then is.Export
    else if bytes_eq w (codes "import") then is.Import
    else if bytes_eq w (codes "record") then is.Record
    else if list_any (λ d. bytes_eq w d) dropped_words then is.Dropped
    else is.Other

abbrev pub named_kind : Texts → Option Name → FormKind
named_kind all (Some n) = word_kind (text all n)
named_kind all None = is.Other

abbrev pub kind_of : Texts → List Token → FormKind
kind_of all ts = cond (is_attribute ts) (named_kind all (attribute_name ts)) is.Function

-- ---- the fault of a form that is not spelled

abbrev pub malformed : FormKind → ℕ
malformed is.Module = table.malformed_module
malformed is.Export = table.malformed_export
malformed is.Import = table.malformed_import
malformed is.Record = table.malformed_record
malformed _ = table.malformed_attribute

abbrev pub named_fault : Texts → List Token → Option Name → Fault
named_fault all ts (Some n) = naming (start_of ts) (malformed (kind_of all ts)) (text all n)
named_fault all ts None = syntax_error (start_of ts)

abbrev pub not_spelled : Texts → List Token → Fault
not_spelled all ts = named_fault all ts (attribute_name ts)
