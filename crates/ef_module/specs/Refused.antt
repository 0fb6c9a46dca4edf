-- Tokens that are refused before a form is read: maps, zip generators and strict generators. Attributes without a meaning may
-- have them, and types of fields of records.
use Rattle.std.specs.Prelude.{ℕ, suc, ◌-◌, Bool, true, false, ◌&&◌, ◌||◌, nat_eq, List, [], ◌∷◌, ◌++◌, Option, Some, None, cond}
use Rattle.ef_base.specs.declared.fault.Fault.{Fault}
use Rattle.ef_base.specs.declared.fault.Place.{Place}
use Rattle.ef_base.specs.FaultTable as table
use Rattle.ef_base.specs.NamedFaults.{plain}
use Rattle.ef_base.specs.Texts.{Texts}
use Rattle.ef_token.specs.declared.token.Token.{Token}
use Rattle.ef_token.specs.declared.token.TokenKind.{TokenKind}
use Rattle.ef_token.specs.declared.token.TokenKind.TheVariants as kind
use Rattle.ef_token.specs.declared.word.Sym.TheVariants as sym
use Rattle.ef_parse.specs.declared.spelled.FormKind.{FormKind}
use Rattle.ef_parse.specs.declared.spelled.FormKind.TheVariants as is
use Rattle.ef_profile.specs.Kinds.{kind_of}

abbrev pub opens : TokenKind → Bool
opens (kind.Sym sym.LeftParen) = true
opens (kind.Sym sym.LeftBracket) = true
opens (kind.Sym sym.LeftBrace) = true
opens (kind.Sym sym.LeftBits) = true
opens _ = false

abbrev pub closes : TokenKind → Bool
closes (kind.Sym sym.RightParen) = true
closes (kind.Sym sym.RightBracket) = true
closes (kind.Sym sym.RightBrace) = true
closes (kind.Sym sym.RightBits) = true
closes _ = false

abbrev pub is_comma : TokenKind → Bool
is_comma (kind.Sym sym.Comma) = true
is_comma _ = false

abbrev pub begins_type : TokenKind → Bool
begins_type (kind.Sym sym.DoubleColon) = true
begins_type _ = false

abbrev pub is_brace : TokenKind → Bool
is_brace (kind.Sym sym.LeftBrace) = true
is_brace _ = false

abbrev pub opens_map : List Token → Bool
opens_map [] = false
opens_map (t ∷ ts) = is_brace t.kind

-- the code of the fault of a token before these
abbrev pub refused_code : TokenKind → List Token → Option ℕ
refused_code (kind.Sym sym.Hash) ts = cond (opens_map ts) (Some table.map) None
refused_code (kind.Sym sym.DoubleAnd) ts = Some table.zip_generator
refused_code (kind.Sym sym.StrictLeftArrow) ts = Some table.strict_generator
refused_code (kind.Sym sym.StrictDoubleLeftArrow) ts = Some table.strict_generator
refused_code _ ts = None

abbrev pub refusal : Place → Option ℕ → List Fault
refusal p (Some code) = plain p code ∷ []
refusal p None = []

abbrev pub refused : TokenKind → Place → List Token → List Fault
refused k p ts = refusal p (refused_code k ts)

-- In the type of a field the number of brackets that are open in it. It ends before a comma or a closing bracket that is not
-- inside of these.
abbrev pub in_type : ℕ → TokenKind → Option ℕ
in_type depth k = cond (nat_eq depth 0 && (is_comma k || closes k)) None (Some (cond (opens k) (suc depth) (cond (closes k) (depth - 1) depth)))

abbrev pub depth_of : Option ℕ → ℕ
depth_of (Some depth) = depth
depth_of None = 0

-- behind a token; types begin in records alone
abbrev pub behind : Bool → Option ℕ → TokenKind → Option ℕ
behind typed (Some depth) k = in_type depth k
behind typed None k = cond (typed && begins_type k) (Some 0) None

abbrev pub outside : Option ℕ → List Fault → List Fault
outside (Some depth) faults = []
outside None faults = faults

abbrev pub refused_from : Bool → Option ℕ → List Token → List Fault
refused_from typed type_ [] = []
refused_from typed type_ (t ∷ ts) = outside type_ (refused t.kind t.place ts) ++ refused_from typed (behind typed type_ t.kind) ts

abbrev pub kind_faults : FormKind → List Token → List Fault
kind_faults is.Dropped ts = []
kind_faults is.Record ts = refused_from true None ts
kind_faults _ ts = refused_from false None ts

abbrev pub token_faults : Texts → List Token → List Fault
token_faults all ts = kind_faults (kind_of all ts) ts
