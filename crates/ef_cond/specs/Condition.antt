-- The grammar of conditions: classes of tokens, what a token puts on the stack, actions and rows.
use Rattle.std.specs.Prelude.{ℕ, codes, bytes_eq, true, false, cond, List, [], ◌∷◌, Option, Some, None}
use Rattle.ef_base.specs.Texts.{Texts, text}
use Rattle.ef_token.specs.declared.token.Token.{Token}
use Rattle.ef_token.specs.declared.token.TokenKind.{TokenKind}
use Rattle.ef_token.specs.declared.token.TokenKind.TheVariants as kind
use Rattle.ef_token.specs.declared.word.Sym.{Sym}
use Rattle.ef_token.specs.declared.word.Sym.TheVariants as sym
use Rattle.ef_token.specs.declared.word.Word.{Word}
use Rattle.ef_token.specs.declared.word.Word.TheVariants as word
use Rattle.ef_grammar.specs.Grammar.{Grammar}
use Rattle.ef_cond.specs.declared.value.Operator.{Operator}
use Rattle.ef_cond.specs.declared.value.Operator.TheVariants as op
use Rattle.ef_cond.specs.declared.rows.RuleName.{RuleName}
use Rattle.ef_cond.specs.declared.rows.Action.{Action}
use Rattle.ef_cond.specs.declared.rows.Action.TheVariants as a
use Rattle.ef_cond.specs.Classes as class
use Rattle.ef_cond.specs.Rules.{rules}
use Rattle.ef_cond.specs.Values.{Value, Item, Read, number, truth, atom, operand, operator}
use Rattle.ef_cond.specs.Actions as s

-- ---- classes

abbrev pub symbol_class : Sym → ℕ
symbol_class sym.LeftParen = class.LeftParen
symbol_class sym.RightParen = class.RightParen
symbol_class sym.Plus = class.Plus
symbol_class sym.Minus = class.Minus
symbol_class sym.Star = class.MulOp
symbol_class sym.Equal = class.CmpOp
symbol_class sym.NotEqual = class.CmpOp
symbol_class sym.Same = class.CmpOp
symbol_class sym.NotSame = class.CmpOp
symbol_class sym.Less = class.CmpOp
symbol_class sym.AtMost = class.CmpOp
symbol_class sym.Greater = class.CmpOp
symbol_class sym.AtLeast = class.CmpOp
symbol_class _ = class.Other

abbrev pub word_class : Word → ℕ
word_class word.Bnot = class.Not
word_class word.Not = class.Not
word_class word.Div = class.MulOp
word_class word.Rem = class.MulOp
word_class word.Band = class.MulOp
word_class word.And = class.MulOp
word_class word.Bor = class.AddWord
word_class word.Bxor = class.AddWord
word_class word.Bsl = class.AddWord
word_class word.Bsr = class.AddWord
word_class word.Or = class.AddWord
word_class word.Xor = class.AddWord
word_class word.AndAlso = class.Andalso
word_class word.OrElse = class.Orelse
word_class _ = class.Other

abbrev pub kind_class : TokenKind → ℕ
kind_class (kind.Int i) = class.Int
kind_class (kind.Atom n) = class.Atom
kind_class (kind.Sym s) = symbol_class s
kind_class (kind.Word w) = word_class w
kind_class _ = class.Other

abbrev pub look : List Token → ℕ
look [] = class.Nothing
look (t ∷ ts) = kind_class t.kind

-- ---- tokens on the stack

abbrev pub symbol_operator : Sym → Option Operator
symbol_operator sym.Plus = Some op.Plus
symbol_operator sym.Minus = Some op.Minus
symbol_operator sym.Star = Some op.Times
symbol_operator sym.Equal = Some op.Equal
symbol_operator sym.Same = Some op.Equal
symbol_operator sym.NotEqual = Some op.NotEqual
symbol_operator sym.NotSame = Some op.NotEqual
symbol_operator sym.Less = Some op.Less
symbol_operator sym.AtMost = Some op.AtMost
symbol_operator sym.Greater = Some op.Greater
symbol_operator sym.AtLeast = Some op.AtLeast
symbol_operator _ = None

abbrev pub word_operator : Word → Option Operator
word_operator word.Div = Some op.Div
word_operator word.Rem = Some op.Rem
word_operator word.Band = Some op.Band
word_operator word.Bor = Some op.Bor
word_operator word.Bxor = Some op.Bxor
word_operator word.Bnot = Some op.Bnot
word_operator word.Bsl = Some op.Bsl
word_operator word.Bsr = Some op.Bsr
word_operator word.And = Some op.And
word_operator word.Or = Some op.Or
word_operator word.Xor = Some op.Xor
word_operator word.Not = Some op.Not
word_operator _ = None

abbrev pub operated : Option Operator → Option Item
operated (Some o) = Some (operator o)
operated None = None

-- the value of an atom of this text
abbrev pub atom_value : List ℕ → Value
atom_value t = cond (bytes_eq t (codes "true")) (truth true) (cond (bytes_eq t (codes "false")) (truth false) (atom t))

-- a token that is an operand of its own is nested once
abbrev pub single : Value → Option Item
single v = Some (operand (record { value = v; nest = 1 }))

-- what a token puts on the stack, if anything
abbrev pub token_item : Texts → TokenKind → Option Item
token_item all (kind.Int i) = single (number i)
token_item all (kind.Atom n) = single (atom_value (text all n))
token_item all (kind.Sym s) = operated (symbol_operator s)
token_item all (kind.Word w) = operated (word_operator w)
token_item all _ = None

abbrev pub added : Option Item → Read → Read
added (Some i) r = s.with i r
added None r = r

abbrev pub push : Texts → Token → Read → Read
push all t r = added (token_item all t.kind) r

-- ---- the grammar

abbrev pub act : Action → Read → Option Read
act a.Parens = s.parens
act a.Unary = s.unary
act a.Binary = s.binary
act a.AndAlso = s.and_also
act a.OrElse = s.or_else

abbrev pub grammar : Texts → Grammar Token Read RuleName Action
grammar all = record { look = look; push = push all; act = act; rules = rules }
