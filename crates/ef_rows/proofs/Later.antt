-- A later table of names reads tokens in the same way.
use Rattle.std.proofs.Common.{◌≡◌, Bool, List, [], ◌∷◌, ◌++◌, refl, sym, ap, ◌∙◌, subst, true, get_or, bytes_eq, codes, cond, Some}
use Rattle.std.proofs.lemmas.List.{get_or_append_left}
use Rattle.ef_base.specs.Texts.{Texts, Extends, HasName, text}
use Rattle.ef_base.specs.declared.fault.Fault.{Fault}
use Rattle.ef_base.specs.declared.fault.Place.{Place}
use Rattle.ef_base.specs.declared.name.Name.{Name}
use Rattle.ef_token.specs.declared.token.Token.{Token}
use Rattle.ef_token.specs.declared.token.TokenKind.{TokenKind}
use Rattle.ef_token.specs.declared.token.TokenKind.TheVariants as kind
use Rattle.ef_token.specs.TokenForm.{KindOf, TokensOf}
use Rattle.ef_grammar.specs.Grammar.{Symbol, Leads, done, token, acted, ruled, has}
use Rattle.ef_build.specs.Tokens.{is_wildcard, token_value, added, push}
use Rattle.ef_build.specs.Values.{Value, Read, leaf, any, var}
use Rattle.ef_rows.specs.Classes as class
use Rattle.ef_rows.specs.declared.rows.RuleName.{RuleName}
use Rattle.ef_rows.specs.declared.rows.Action.{Action}
use Rattle.ef_rows.specs.Erlang.{grammar, look, own_class, class_before}
use Rattle.ef_rows.specs.declared.single.Start.{Start}
use Rattle.ef_rows.specs.Makes.{Makes}

-- both tables tell the token in the same way
pub record SameToken (a b : Texts) (t : Token) : Type 0 where
  pub class : own_class a t.kind ≡ own_class b t.kind
  pub puts : token_value a t.kind t.place ≡ token_value b t.kind t.place

abbrev pub SameTokens : Texts → Texts → List Token → Type 0
SameTokens a b [] = Unit {0}
SameTokens a b (t ∷ ts) = SameToken a b t × SameTokens a b ts

leads : (a b : Texts) (α : List (Symbol RuleName Action)) (v : Read) (ts : List Token) (w : Read) → SameTokens a b ts → Leads (grammar a) α v ts w → Leads (grammar b) α v ts w
leads a b α v ts w h (done vs) = done vs
leads a b α v ts w h (token s β vs t us ws is l) =
    let class : look a (t ∷ us) ≡ look b (t ∷ us) = ap (λ c. class_before t.kind us c) h.0.class in
    let puts : push a t vs ≡ push b t vs = ap (λ v. added v vs) h.0.puts in
    token s β vs t us ws (subst (λ c. has s c ≡ true) class is) (subst (λ v. Leads (grammar b) β v us ws) puts (leads a b β (push a t vs) us ws h.1 l))
leads a b α v ts w h (acted x β vs us xs ws is l) = acted x β vs us xs ws is (leads a b β us xs ws h l)
leads a b α v ts w h (ruled n γ β vs xs ws is l) = ruled n γ β vs xs ws is (leads a b (γ ++ β) vs xs ws h l)

pub makes : (a b : Texts) (n : Start) (ts : List Token) (v : Value) (faults : List Fault) (deep : Bool) → SameTokens a b ts → Makes a n ts v faults deep → Makes b n ts v faults deep
makes a b n ts v faults deep h m = (m.0, leads a b _ _ ts _ h m.1)

-- ---- a table and a later one

text_later : (now all : Texts) (n : Name) → HasName now n → Extends now all → text now n ≡ text all n
text_later now all n has e = sym (get_or_append_left now e.more [] n.index has) ∙ ap (λ t. get_or t n.index []) e.is

same_kind : (now all : Texts) (k : TokenKind) (p : Place) → KindOf now k → Extends now all → (own_class now k ≡ own_class all k) × (token_value now k p ≡ token_value all k p)
same_kind now all (kind.Atom n) p h e = (refl, refl)
same_kind now all (kind.Var n) p h e =
    let same : is_wildcard now n ≡ is_wildcard all n = ap (λ t. bytes_eq t (codes "_")) (text_later now all n h e) in
    (ap (λ b. cond b class.Any class.Var) same, ap (λ b. Some (leaf (cond b (any n) (var n)) p)) same)
same_kind now all (kind.Int i) p h e = (refl, refl)
same_kind now all (kind.Char c) p h e = (refl, refl)
same_kind now all (kind.Str cs) p h e = (refl, refl)
same_kind now all (kind.Word w) p h e = (refl, refl)
same_kind now all (kind.Sym s) p h e = (refl, refl)
same_kind now all kind.Dot p h e = (refl, refl)

pub later : (now all : Texts) (ts : List Token) → TokensOf now ts → Extends now all → SameTokens now all ts
later now all [] h e = tt
later now all (t ∷ ts) h e =
    let same = same_kind now all t.kind t.place h.0 e in
    (record { class = same.0; puts = same.1 }, later now all ts h.1 e)

pub backwards : (a b : Texts) (ts : List Token) → SameTokens a b ts → SameTokens b a ts
backwards a b [] h = tt
backwards a b (t ∷ ts) h = (record { class = sym h.0.class; puts = sym h.0.puts }, backwards a b ts h.1)
