-- Tokens under two tables that put the same on the stack make the same, whichever names stand for the texts of atoms.
use Rattle.std.proofs.Common.{◌≡◌, List, [], ◌∷◌, ◌++◌, Bool, true, refl, sym, ap, ◌∙◌, subst, get_or}
use Rattle.std.proofs.lemmas.List.{get_or_append_left}
use Rattle.ef_base.specs.Texts.{Texts, Extends, HasName, text}
use Rattle.ef_base.specs.declared.name.Name.{Name}
use Rattle.ef_token.specs.declared.token.Token.{Token}
use Rattle.ef_token.specs.declared.token.TokenKind.{TokenKind}
use Rattle.ef_token.specs.declared.token.TokenKind.TheVariants as kind
use Rattle.ef_token.specs.TokenForm.{KindOf, TokensOf}
use Rattle.ef_grammar.specs.Grammar.{Symbol, Leads, done, token, acted, ruled, has}
use Rattle.ef_cond.specs.declared.rows.RuleName.{RuleName}
use Rattle.ef_cond.specs.declared.rows.Action.{Action}
use Rattle.ef_cond.specs.Condition.{grammar, kind_class, token_item, atom_value, single, added, push}
use Rattle.ef_cond.specs.Values.{Value, Read}
use Rattle.ef_cond.specs.Verdict.{Makes}

-- the tokens are of one class, and put the same on the stack
pub record SameToken (a b : Texts) (x y : TokenKind) : Type 0 where
  pub class : kind_class x ≡ kind_class y
  pub puts : token_item a x ≡ token_item b y

abbrev pub SameTokens : Texts → Texts → List Token → List Token → Type 0
SameTokens a b [] [] = Unit {0}
SameTokens a b (t ∷ ts) (u ∷ us) = SameToken a b t.kind u.kind × SameTokens a b ts us
SameTokens a b _ _ = ⊥

leads : (a b : Texts) (α : List (Symbol RuleName Action)) (v : Read) (ts : List Token) (w : Read) → Leads (grammar a) α v ts w
    → (us : List Token) → SameTokens a b ts us → Leads (grammar b) α v us w
leads a b α v ts w (done vs) [] h = done vs
leads a b α v ts w (done vs) (y ∷ ys) h = absurd h
leads a b α v ts w (token s β vs t us ws is l) [] h = absurd h
leads a b α v ts w (token s β vs t us ws is l) (y ∷ ys) h =
    let puts : push a t vs ≡ push b y vs = ap (λ i. added i vs) h.0.puts in
    token s β vs y ys ws (subst (λ c. has s c ≡ true) h.0.class is) (subst (λ r. Leads (grammar b) β r ys ws) puts (leads a b β (push a t vs) us ws l ys h.1))
leads a b α v ts w (acted x β vs us xs ws is l) ys h = acted x β vs us ys ws is (leads a b β us xs ws l ys h)
leads a b α v ts w (ruled n γ β vs xs ws is l) ys h = ruled n γ β vs ys ws is (leads a b (γ ++ β) vs xs ws l ys h)

pub makes : (a b : Texts) (ts us : List Token) (v : Value) (deep : Bool) → SameTokens a b ts us → Makes a ts v deep → Makes b us v deep
makes a b ts us v deep h m = (m.0, leads a b _ _ ts _ m.1 us h)

pub backwards : (a b : Texts) (ts us : List Token) → SameTokens a b ts us → SameTokens b a us ts
backwards a b [] [] h = tt
backwards a b [] (u ∷ us) h = absurd h
backwards a b (t ∷ ts) [] h = absurd h
backwards a b (t ∷ ts) (u ∷ us) h = (record { class = sym h.0.class; puts = sym h.0.puts }, backwards a b ts us h.1)

-- ---- a table and a later one

text_later : (now all : Texts) (n : Name) → HasName now n → Extends now all → text now n ≡ text all n
text_later now all n has e = sym (get_or_append_left now e.more [] n.index has) ∙ ap (λ t. get_or t n.index []) e.is

item_later : (now all : Texts) (k : TokenKind) → KindOf now k → Extends now all → token_item now k ≡ token_item all k
item_later now all (kind.Atom n) h e = ap (λ t. single (atom_value t)) (text_later now all n h e)
item_later now all (kind.Var n) h e = refl
item_later now all (kind.Int i) h e = refl
item_later now all (kind.Char c) h e = refl
item_later now all (kind.Str cs) h e = refl
item_later now all (kind.Word w) h e = refl
item_later now all (kind.Sym s) h e = refl
item_later now all kind.Dot h e = refl

pub later : (now all : Texts) (ts : List Token) → TokensOf now ts → Extends now all → SameTokens now all ts ts
later now all [] h e = tt
later now all (t ∷ ts) h e = (record { class = refl; puts = item_later now all t.kind h.0 e }, later now all ts h.1 e)
