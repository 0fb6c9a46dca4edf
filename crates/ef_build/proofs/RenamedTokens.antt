-- What a token puts on the stack under other names.
use Rattle.std.proofs.Common.{◌≡◌, Bool, true, false, cond, Option, Some, None, refl, ap, ◌∙◌}
use Rattle.std.specs.Option.{option_map}
use Rattle.std.specs.Prelude.{codes, bytes_eq}
use Rattle.ef_base.specs.Texts.{Texts, text}
use Rattle.ef_base.specs.declared.fault.Place.{Place}
use Rattle.ef_base.specs.declared.name.Name.{Name}
use Rattle.ef_token.specs.declared.token.Token.{Token}
use Rattle.ef_token.specs.declared.token.TokenKind.{TokenKind}
use Rattle.ef_token.specs.declared.token.TokenKind.TheVariants as kind
use Rattle.ef_token.specs.declared.word.Sym.{Sym}
use Rattle.ef_token.specs.declared.word.Sym.TheVariants as sym
use Rattle.ef_token.specs.declared.word.Word.{Word}
use Rattle.ef_token.specs.declared.word.Word.TheVariants as word
use Rattle.ef_build.specs.declared.value.Operator.{Operator}
use Rattle.ef_build.specs.Values.{Value, Read, leaf, var, any}
use Rattle.ef_build.specs.Tokens.{symbol_operator, word_operator, operated, symbol_value, word_value, is_wildcard, token_value, added, push}
use Rattle.ef_build.proofs.Renamed.{renamed_leaf, renamed_value, renamed_read}

module _ (r : Name → Name) where
  abbrev pub renamed_kind : TokenKind → TokenKind
  renamed_kind (kind.Atom n) = kind.Atom (r n)
  renamed_kind (kind.Var n) = kind.Var (r n)
  renamed_kind k = k

  abbrev pub renamed_token : Token → Token
  renamed_token t = record { kind = renamed_kind t.kind; place = t.place }

  operated_stays : (o : Option Operator) (p : Place) → operated o p ≡ option_map (renamed_value r) (operated o p)
  operated_stays None p = refl
  operated_stays (Some o) p = refl

  symbol_stays : (s : Sym) (p : Place) → symbol_value s p ≡ option_map (renamed_value r) (symbol_value s p)
  symbol_stays sym.LeftParen p = refl
  symbol_stays sym.LeftBracket p = refl
  symbol_stays sym.LeftBrace p = refl
  symbol_stays sym.LeftBits p = refl
  symbol_stays sym.Hash p = refl
  symbol_stays s p = operated_stays (symbol_operator s) p

  word_stays : (w : Word) (p : Place) → word_value w p ≡ option_map (renamed_value r) (word_value w p)
  word_stays word.Begin p = refl
  word_stays word.Case p = refl
  word_stays word.Fun p = refl
  word_stays word.If p = refl
  word_stays word.Maybe p = refl
  word_stays word.Receive p = refl
  word_stays word.Try p = refl
  word_stays w p = operated_stays (word_operator w) p

  added_stays : (v : Option Value) (s : Read) → added (option_map (renamed_value r) v) (renamed_read r s) ≡ renamed_read r (added v s)
  added_stays None s = refl
  added_stays (Some v) s = refl

  -- the new names are read in the one table, the old ones in the other
  module _ (a b : Texts) where
    -- the name of a variable is `_` in both or in neither
    abbrev pub KeepsWildcard : TokenKind → Type 0
    KeepsWildcard (kind.Var n) = is_wildcard a (r n) ≡ is_wildcard b n
    KeepsWildcard _ = Unit {0}

    variable_stays : (w : Bool) (n : Name) → cond w (any (r n)) (var (r n)) ≡ renamed_leaf r (cond w (any n) (var n))
    variable_stays true n = refl
    variable_stays false n = refl

    value_stays : (k : TokenKind) (p : Place) → KeepsWildcard k → token_value a (renamed_kind k) p ≡ option_map (renamed_value r) (token_value b k p)
    value_stays (kind.Atom n) p h = refl
    value_stays (kind.Var n) p h = ap (λ l. Some (leaf l p)) (ap (λ w. cond w (any (r n)) (var (r n))) h ∙ variable_stays (is_wildcard b n) n)
    value_stays (kind.Int i) p h = refl
    value_stays (kind.Char c) p h = refl
    value_stays (kind.Str cs) p h = refl
    value_stays (kind.Word w) p h = word_stays w p
    value_stays (kind.Sym s) p h = symbol_stays s p
    value_stays kind.Dot p h = refl

    pub push_stays : (t : Token) (s : Read) → KeepsWildcard t.kind → push a (renamed_token t) (renamed_read r s) ≡ renamed_read r (push b t s)
    push_stays t s h = ap (λ v. added v (renamed_read r s)) (value_stays t.kind t.place h) ∙ added_stays (token_value b t.kind t.place) s

    pub wildcard_stays : (n : Name) → text a (r n) ≡ text b n → is_wildcard a (r n) ≡ is_wildcard b n
    wildcard_stays n e = ap (λ bytes. bytes_eq bytes (codes "_")) e
