-- The grammar of Erlang: classes of tokens, what a token puts on the stack, actions and rows.
use Rattle.std.specs.Prelude.{ℕ, Bool, true, false, ◌&&◌, List, [], ◌∷◌, Option, cond}
use Rattle.ef_base.specs.Texts.{Texts}
use Rattle.ef_token.specs.declared.token.Token.{Token}
use Rattle.ef_token.specs.declared.token.TokenKind.{TokenKind}
use Rattle.ef_token.specs.declared.token.TokenKind.TheVariants as kind
use Rattle.ef_token.specs.declared.word.Sym.{Sym}
use Rattle.ef_token.specs.declared.word.Sym.TheVariants as sym
use Rattle.ef_token.specs.declared.word.Word.{Word}
use Rattle.ef_token.specs.declared.word.Word.TheVariants as word
use Rattle.ef_grammar.specs.Grammar.{Grammar}
use Rattle.ef_build.specs.Constructs as c
use Rattle.ef_build.specs.Expressions as e
use Rattle.ef_build.specs.Forms as f
use Rattle.ef_build.specs.Stack as s
use Rattle.ef_build.specs.Tokens.{is_wildcard, push}
use Rattle.ef_build.specs.Values.{Read}
use Rattle.ef_rows.specs.declared.rows.RuleName.{RuleName}
use Rattle.ef_rows.specs.declared.rows.Action.{Action}
use Rattle.ef_rows.specs.declared.rows.Action.TheVariants as a
use Rattle.ef_rows.specs.Classes as class
use Rattle.ef_rows.specs.Rules.{rules}

abbrev pub symbol_class : Sym → ℕ
symbol_class sym.LeftParen = class.LeftParen
symbol_class sym.RightParen = class.RightParen
symbol_class sym.LeftBracket = class.LeftBracket
symbol_class sym.RightBracket = class.RightBracket
symbol_class sym.LeftBrace = class.LeftBrace
symbol_class sym.RightBrace = class.RightBrace
symbol_class sym.LeftBits = class.LeftBits
symbol_class sym.RightBits = class.RightBits
symbol_class sym.Comma = class.Comma
symbol_class sym.Semicolon = class.Semi
symbol_class sym.Period = class.Point
symbol_class sym.Colon = class.Colon
symbol_class sym.DoubleColon = class.DoubleColon
symbol_class sym.Arrow = class.Arrow
symbol_class sym.LeftArrow = class.ListArrow
symbol_class sym.StrictLeftArrow = class.ListArrow
symbol_class sym.DoubleLeftArrow = class.BitsArrow
symbol_class sym.StrictDoubleLeftArrow = class.BitsArrow
symbol_class sym.DoubleBar = class.DoubleBar
symbol_class sym.Bar = class.Bar
symbol_class sym.Match = class.Equals
symbol_class sym.MaybeMatch = class.MaybeMatch
symbol_class sym.Equal = class.CmpOp
symbol_class sym.NotEqual = class.CmpOp
symbol_class sym.Same = class.CmpOp
symbol_class sym.NotSame = class.CmpOp
symbol_class sym.Less = class.CmpOp
symbol_class sym.Greater = class.CmpOp
symbol_class sym.AtMost = class.CmpOp
symbol_class sym.AtLeast = class.CmpOp
symbol_class sym.Plus = class.Plus
symbol_class sym.Minus = class.Minus
symbol_class sym.Star = class.MulWord
symbol_class sym.Slash = class.Slash
symbol_class sym.Append = class.ListOp
symbol_class sym.Subtract = class.ListOp
symbol_class sym.Send = class.Bang
symbol_class sym.Hash = class.Hash
symbol_class _ = class.Other

abbrev pub word_class : Word → ℕ
word_class word.After = class.After
word_class word.And = class.MulWord
word_class word.AndAlso = class.Andalso
word_class word.Band = class.MulWord
word_class word.Begin = class.Begin
word_class word.Bnot = class.Not
word_class word.Bor = class.AddWord
word_class word.Bsl = class.AddWord
word_class word.Bsr = class.AddWord
word_class word.Bxor = class.AddWord
word_class word.Case = class.Case
word_class word.Catch = class.Catch
word_class word.Div = class.MulWord
word_class word.Else = class.Else
word_class word.End = class.End
word_class word.Fun = class.Fun
word_class word.If = class.If
word_class word.Maybe = class.Maybe
word_class word.Not = class.Not
word_class word.Of = class.Of
word_class word.Or = class.AddWord
word_class word.OrElse = class.Orelse
word_class word.Receive = class.Receive
word_class word.Rem = class.MulWord
word_class word.Try = class.Try
word_class word.When = class.When
word_class word.Xor = class.AddWord
word_class _ = class.Other

-- the class of a token by itself
abbrev pub own_class : Texts → TokenKind → ℕ
own_class all (kind.Atom n) = class.Atom
own_class all (kind.Var n) = cond (is_wildcard all n) class.Any class.Var
own_class all (kind.Int i) = class.Int
own_class all (kind.Char c) = class.Char
own_class all (kind.Str cs) = class.Str
own_class all (kind.Word w) = word_class w
own_class all (kind.Sym s) = symbol_class s
own_class all kind.Dot = class.Dot

abbrev pub is_variable : TokenKind → Bool
is_variable (kind.Var n) = true
is_variable _ = false

abbrev pub is_name : TokenKind → Bool
is_name (kind.Atom n) = true
is_name (kind.Var n) = true
is_name _ = false

abbrev pub is_colon : TokenKind → Bool
is_colon (kind.Sym sym.Colon) = true
is_colon _ = false

abbrev pub ends_pattern : TokenKind → Bool
ends_pattern (kind.Sym sym.Arrow) = true
ends_pattern (kind.Word word.When) = true
ends_pattern _ = false

-- a stack trace and the end of its pattern come next
abbrev pub is_trace : List Token → Bool
is_trace (t ∷ u ∷ ts) = is_variable t.kind && ends_pattern u.kind
is_trace _ = false

-- the class of a clause that catches comes next
abbrev pub is_class : List Token → Bool
is_class (t ∷ u ∷ ts) = is_name t.kind && is_colon u.kind
is_class _ = false

-- three kinds of token have a class of their own before some of the tokens that follow
abbrev pub class_before : TokenKind → List Token → ℕ → ℕ
class_before (kind.Sym sym.Colon) ts own = cond (is_trace ts) class.ColonEnd own
class_before (kind.Sym sym.Semicolon) ts own = cond (is_class ts) class.SemiNamed own
class_before (kind.Word word.Catch) ts own = cond (is_class ts) class.CatchNamed own
class_before _ ts own = own

abbrev pub look : Texts → List Token → ℕ
look all [] = class.Nothing
look all (t ∷ ts) = class_before t.kind ts (own_class all t.kind)

abbrev pub act : Action → Read → Option Read
act a.Catching = e.catching
act a.Matching = e.matching
act a.Binary = e.binary
act a.OrElse = e.or_else
act a.AndAlso = e.and_also
act a.Unary = e.unary
act a.None = e.none
act a.Call = e.call
act a.Remote = e.remote
act a.Trace = e.trace
act a.RecordNew = e.record_new
act a.RecordIndex = e.record_index
act a.RecordUpdate = e.record_update
act a.RecordField = e.record_field
act a.NoFields = e.no_fields
act a.Field = e.field
act a.MayTrace = e.may_trace
act a.Refuse = s.refuse
act a.Leaf = e.on_leaf
act a.Parens = e.parens
act a.NoSegments = c.no_segments
act a.Block = e.block
act a.IfOf = c.if_of
act a.CaseOf = c.case_of
act a.NoSteps = c.no_steps
act a.NoClauses = c.no_clauses
act a.Join = e.join
act a.List = e.list
act a.ListComp = c.list_comp
act a.Add = e.add
act a.ListTo = e.list_to
act a.Tuple = e.tuple
act a.Bin = c.bin
act a.BinComp = c.bin_comp
act a.Segment = c.segment
act a.AddSegment = c.add_segment
act a.Size = c.size
act a.WordNumber = c.word_number
act a.Word = c.word
act a.NoQualifiers = c.no_qualifiers
act a.From = c.from
act a.Filter = c.filter
act a.NoGuard = c.no_guard
act a.AddGuard = c.add_guard
act a.IfClause = c.if_clause
act a.Clause = c.clause
act a.ReceiveAfter = c.receive_after
act a.ReceiveOf = c.receive_of
act a.NoCatches = c.no_catches
act a.Forget = e.drop
act a.Unclassed = c.unclassed
act a.TryOf = c.try_of
act a.Class = c.class
act a.CaughtPattern = c.caught_pattern
act a.CatchClause = c.catch_clause
act a.Step = c.step
act a.StepMatch = c.step_match
act a.MaybeOf = c.maybe_of
act a.FunClause = c.fun_clause
act a.FunOf = c.fun_of
act a.FunLocal = c.fun_local
act a.NamedClause = c.named_clause
act a.FunRemote = c.fun_remote
act a.FunctionClause = c.function_clause
act a.Function = f.function
act a.ModuleName = f.module_name
act a.Export = f.export
act a.Import = f.import
act a.RecordOf = f.record_of
act a.Dropped = f.dropped
act a.Attribute = f.attribute
act a.NoReferences = f.no_references
act a.Reference = f.reference
act a.NoDefinitions = f.no_definitions
act a.DefinitionWith = f.definition_with
act a.Definition = f.definition
act a.NameArity = e.name_arity

abbrev pub grammar : Texts → Grammar Token Read RuleName Action
grammar all = record { look = look all; push = push all; act = act; rules = rules }
