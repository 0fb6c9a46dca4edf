-- Forms that are left out, since what they need is not built yet: macros and directives.
use Rattle.std.specs.Prelude.{bytes_eq, codes, Bool, true, false, ◌&&◌, ◌||◌, cond, ℕ, List, [], ◌∷◌}
use Rattle.std.specs.List.{list_any}
use Rattle.ef_base.specs.declared.fault.Fault.{Fault}
use Rattle.ef_base.specs.FaultTable as table
use Rattle.ef_base.specs.NamedFaults.{plain}
use Rattle.ef_base.specs.Texts.{Texts, text}
use Rattle.ef_token.specs.declared.token.Token.{Token}
use Rattle.ef_token.specs.declared.token.TokenKind.{TokenKind}
use Rattle.ef_token.specs.declared.token.TokenKind.TheVariants as kind
use Rattle.ef_token.specs.declared.word.Sym.TheVariants as sym
use Rattle.ef_token.specs.declared.word.Word.TheVariants as word
use Rattle.ef_profile.specs.Kinds.{is_minus}
use Rattle.ef_parse.specs.Spelled.{start_of}

abbrev pub directives : List (List ℕ)
directives =
    codes "define" ∷ codes "undef" ∷ codes "ifdef" ∷ codes "ifndef" ∷ codes "elif" ∷ codes "endif" ∷ codes "include" ∷ codes "include_lib"
    ∷ codes "error" ∷ codes "warning" ∷ codes "file" ∷ []

-- `if` and `else` are reserved words, and the others atoms
abbrev pub is_directive : Texts → TokenKind → Bool
is_directive all (kind.Atom n) = list_any (λ d. bytes_eq (text all n) d) directives
is_directive all (kind.Word word.If) = true
is_directive all (kind.Word word.Else) = true
is_directive all _ = false

abbrev pub begins_directive : Texts → List Token → Bool
begins_directive all (t ∷ u ∷ ts) = is_minus t.kind && is_directive all u.kind
begins_directive all _ = false

abbrev pub is_question : TokenKind → Bool
is_question (kind.Sym sym.Question) = true
is_question _ = false

abbrev pub is_left_out : Texts → List Token → Bool
is_left_out all ts = begins_directive all ts || list_any (λ (t : Token). is_question t.kind) ts

abbrev pub kept : Texts → List (List Token) → List (List Token)
kept all [] = []
kept all (ts ∷ tss) = cond (is_left_out all ts) (kept all tss) (ts ∷ kept all tss)

-- each at its first token
abbrev pub left_out_faults : Texts → List (List Token) → List Fault
left_out_faults all [] = []
left_out_faults all (ts ∷ tss) = cond (is_left_out all ts) (plain (start_of ts) table.not_built ∷ left_out_faults all tss) (left_out_faults all tss)
