-- What a token that is taken puts on the stack.
use Rattle.std.specs.Prelude.{codes, bytes_eq, Bool, Option, Some, None, cond}
use Rattle.ef_base.specs.Texts.{Texts, text}
use Rattle.ef_base.specs.declared.fault.Place.{Place}
use Rattle.ef_base.specs.declared.name.Name.{Name}
use Rattle.ef_forms.specs.declared.expr.UnaryOp.TheVariants as unary_is
use Rattle.ef_forms.specs.declared.expr.BinaryOp.TheVariants as binary_is
use Rattle.ef_token.specs.declared.token.Token.{Token}
use Rattle.ef_token.specs.declared.token.TokenKind.{TokenKind}
use Rattle.ef_token.specs.declared.token.TokenKind.TheVariants as kind
use Rattle.ef_token.specs.declared.word.Sym.{Sym}
use Rattle.ef_token.specs.declared.word.Sym.TheVariants as sym
use Rattle.ef_token.specs.declared.word.Word.{Word}
use Rattle.ef_token.specs.declared.word.Word.TheVariants as word
use Rattle.ef_build.specs.declared.value.Operator.{Operator}
use Rattle.ef_build.specs.declared.value.Operator.TheVariants as op
use Rattle.ef_build.specs.Values.{Leaf, Value, Read, at, operator, leaf, atom, var, any, int, character, string}
use Rattle.ef_build.specs.Stack.{with}

-- the operator that a symbol or a word is
abbrev pub symbol_operator : Sym → Option Operator
symbol_operator sym.Plus = Some op.Plus
symbol_operator sym.Minus = Some op.Minus
symbol_operator sym.Star = Some (op.Between binary_is.Mul)
symbol_operator sym.Slash = Some (op.Between binary_is.Slash)
symbol_operator sym.Equal = Some (op.Between binary_is.Equal)
symbol_operator sym.NotEqual = Some (op.Between binary_is.NotEqual)
symbol_operator sym.Less = Some (op.Between binary_is.Less)
symbol_operator sym.AtMost = Some (op.Between binary_is.AtMost)
symbol_operator sym.Greater = Some (op.Between binary_is.Greater)
symbol_operator sym.AtLeast = Some (op.Between binary_is.AtLeast)
symbol_operator sym.Same = Some (op.Between binary_is.Same)
symbol_operator sym.NotSame = Some (op.Between binary_is.NotSame)
symbol_operator sym.Append = Some (op.Between binary_is.Append)
symbol_operator sym.Subtract = Some (op.Between binary_is.Subtract)
symbol_operator sym.Send = Some (op.Between binary_is.Send)
symbol_operator sym.LeftArrow = Some op.ListArrow
symbol_operator sym.StrictLeftArrow = Some op.StrictListArrow
symbol_operator sym.DoubleLeftArrow = Some op.BitsArrow
symbol_operator sym.StrictDoubleLeftArrow = Some op.StrictBitsArrow
symbol_operator _ = None

abbrev pub word_operator : Word → Option Operator
word_operator word.Div = Some (op.Between binary_is.Div)
word_operator word.Rem = Some (op.Between binary_is.Rem)
word_operator word.Band = Some (op.Between binary_is.Band)
word_operator word.Bor = Some (op.Between binary_is.Bor)
word_operator word.Bxor = Some (op.Between binary_is.Bxor)
word_operator word.Bsl = Some (op.Between binary_is.Bsl)
word_operator word.Bsr = Some (op.Between binary_is.Bsr)
word_operator word.And = Some (op.Between binary_is.And)
word_operator word.Or = Some (op.Between binary_is.Or)
word_operator word.Xor = Some (op.Between binary_is.Xor)
word_operator word.Bnot = Some (op.Before unary_is.Bnot)
word_operator word.Not = Some (op.Before unary_is.Not)
word_operator word.Catch = Some op.Catch
word_operator _ = None

-- brackets and words that open a construct, of which the place is kept, and operators
abbrev pub operated : Option Operator → Place → Option Value
operated (Some o) p = Some (operator o p)
operated None p = None

abbrev pub symbol_value : Sym → Place → Option Value
symbol_value sym.LeftParen p = Some (at p)
symbol_value sym.LeftBracket p = Some (at p)
symbol_value sym.LeftBrace p = Some (at p)
symbol_value sym.LeftBits p = Some (at p)
symbol_value sym.Hash p = Some (at p)
symbol_value s p = operated (symbol_operator s) p

abbrev pub word_value : Word → Place → Option Value
word_value word.Begin p = Some (at p)
word_value word.Case p = Some (at p)
word_value word.Fun p = Some (at p)
word_value word.If p = Some (at p)
word_value word.Maybe p = Some (at p)
word_value word.Receive p = Some (at p)
word_value word.Try p = Some (at p)
word_value w p = operated (word_operator w) p

-- the variable of this name is `_`
abbrev pub is_wildcard : Texts → Name → Bool
is_wildcard all n = bytes_eq (text all n) (codes "_")

-- the value of a token, where it has one
abbrev pub token_value : Texts → TokenKind → Place → Option Value
token_value all (kind.Atom n) p = Some (leaf (atom n) p)
token_value all (kind.Var n) p = Some (leaf (cond (is_wildcard all n) (any n) (var n)) p)
token_value all (kind.Int i) p = Some (leaf (int i) p)
token_value all (kind.Char c) p = Some (leaf (character c) p)
token_value all (kind.Str cs) p = Some (leaf (string cs) p)
token_value all (kind.Word w) p = word_value w p
token_value all (kind.Sym s) p = symbol_value s p
token_value all kind.Dot p = None

abbrev pub added : Option Value → Read → Read
added (Some v) s = with v s
added None s = s

abbrev pub push : Texts → Token → Read → Read
push all t s = added (token_value all t.kind t.place) s
