-- Forms of tokens, and tokens whose names are all of one table.
use Rattle.std.specs.Prelude.{List, [], ◌∷◌, ◌≡◌}
use Rattle.ef_base.specs.Texts.{Texts, HasName}
use Rattle.ef_token.specs.declared.token.TokenKind.{TokenKind}
use Rattle.ef_token.specs.declared.token.TokenKind.TheVariants as kind
use Rattle.ef_token.specs.declared.token.Token.{Token}

-- a form ends with a full stop, and has no other
abbrev pub IsForm : List Token → Type 0
IsForm [] = ⊥
IsForm (t ∷ []) = t.kind ≡ kind.Dot
IsForm (t ∷ u ∷ ts) = (t.kind ≡ kind.Dot → ⊥) × IsForm (u ∷ ts)

abbrev pub AreForms : List (List Token) → Type 0
AreForms [] = Unit {0}
AreForms (f ∷ fs) = IsForm f × AreForms fs

module _ (texts : Texts) where
  abbrev pub KindOf : TokenKind → Type 0
  KindOf (kind.Atom n) = HasName texts n
  KindOf (kind.Var n) = HasName texts n
  KindOf _ = Unit {0}

  abbrev pub TokensOf : List Token → Type 0
  TokensOf [] = Unit {0}
  TokensOf (t ∷ ts) = KindOf t.kind × TokensOf ts

  abbrev pub AllTokensOf : List (List Token) → Type 0
  AllTokensOf [] = Unit {0}
  AllTokensOf (f ∷ fs) = TokensOf f × AllTokensOf fs
