-- The rows of the grammar: a line an alternative.
use Rattle.std.specs.Prelude.{ℕ, List, [], ◌∷◌}
use Rattle.ef_grammar.specs.Grammar.{Symbol, Token, Rule, Act, one}
use Rattle.ef_rows.specs.Classes as c
use Rattle.ef_rows.specs.declared.rows.RuleName.{RuleName}
use Rattle.ef_rows.specs.declared.rows.RuleName.TheVariants as r
use Rattle.ef_rows.specs.declared.rows.Action.{Action}
use Rattle.ef_rows.specs.declared.rows.Action.TheVariants as a

-- the token of this class
abbrev pub t : ℕ → Symbol RuleName Action
t i = Token (one i)

abbrev pub rules : RuleName → List (List (Symbol RuleName Action))
-- ---- expressions
rules r.Expression =
    (Token c.AnyCatch ∷ Rule r.Expression ∷ Act a.Catching ∷ [])
    ∷ (Rule r.Match ∷ [])
    ∷ []
rules r.Match =
    (Rule r.Orelse ∷ Rule r.MatchTail ∷ [])
    ∷ []
rules r.MatchTail =
    (t c.Equals ∷ Rule r.Expression ∷ Act a.Matching ∷ [])
    ∷ (t c.Bang ∷ Rule r.Expression ∷ Act a.Binary ∷ [])
    ∷ []
    ∷ []
rules r.Orelse =
    (Rule r.Andalso ∷ Rule r.OrelseTail ∷ [])
    ∷ []
rules r.OrelseTail =
    (t c.Orelse ∷ Rule r.Orelse ∷ Act a.OrElse ∷ [])
    ∷ []
    ∷ []
rules r.Andalso =
    (Rule r.Cmp ∷ Rule r.AndalsoTail ∷ [])
    ∷ []
rules r.AndalsoTail =
    (t c.Andalso ∷ Rule r.Andalso ∷ Act a.AndAlso ∷ [])
    ∷ []
    ∷ []
rules r.Cmp =
    (Rule r.List ∷ Rule r.CmpTail ∷ [])
    ∷ []
rules r.CmpTail =
    (t c.CmpOp ∷ Rule r.List ∷ Act a.Binary ∷ [])
    ∷ []
    ∷ []
rules r.List =
    (Rule r.Add ∷ Rule r.ListTail ∷ [])
    ∷ []
rules r.ListTail =
    (t c.ListOp ∷ Rule r.List ∷ Act a.Binary ∷ [])
    ∷ []
    ∷ []
rules r.Add =
    (Rule r.Mul ∷ Rule r.AddTail ∷ [])
    ∷ []
rules r.AddTail =
    (Token c.AddOp ∷ Rule r.Mul ∷ Act a.Binary ∷ Rule r.AddTail ∷ [])
    ∷ []
    ∷ []
rules r.Mul =
    (Rule r.Unary ∷ Rule r.MulTail ∷ [])
    ∷ []
rules r.MulTail =
    (Token c.MulOp ∷ Rule r.Unary ∷ Act a.Binary ∷ Rule r.MulTail ∷ [])
    ∷ []
    ∷ []
rules r.Unary =
    (Token c.UnaryOp ∷ Rule r.Unary ∷ Act a.Unary ∷ [])
    ∷ (t c.Hash ∷ t c.Atom ∷ Rule r.RecordNew ∷ Rule r.RecordMore ∷ [])
    ∷ (Rule r.Max ∷ Rule r.MaxTail ∷ [])
    ∷ []
rules r.MaxTail =
    (t c.LeftParen ∷ Act a.None ∷ Rule r.Args ∷ Act a.Call ∷ Rule r.TraceTail ∷ [])
    ∷ (t c.Colon ∷ Rule r.Max ∷ t c.LeftParen ∷ Act a.None ∷ Rule r.Args ∷ Act a.Remote ∷ Rule r.TraceTail ∷ [])
    ∷ (t c.ColonEnd ∷ Token c.Variable ∷ Act a.Trace ∷ [])
    ∷ (t c.Hash ∷ t c.Atom ∷ Rule r.RecordUse ∷ Rule r.RecordMore ∷ [])
    ∷ []
    ∷ []
rules r.RecordMore =
    (t c.Hash ∷ t c.Atom ∷ Rule r.RecordUse ∷ Rule r.RecordMore ∷ [])
    ∷ (Rule r.TraceTail ∷ [])
    ∷ []
rules r.RecordNew =
    (t c.LeftBrace ∷ Rule r.Fields ∷ Act a.RecordNew ∷ [])
    ∷ (t c.Point ∷ t c.Atom ∷ Act a.RecordIndex ∷ [])
    ∷ []
rules r.RecordUse =
    (t c.LeftBrace ∷ Rule r.Fields ∷ Act a.RecordUpdate ∷ [])
    ∷ (t c.Point ∷ t c.Atom ∷ Act a.RecordField ∷ [])
    ∷ []
rules r.Fields =
    (Act a.NoFields ∷ Rule r.FieldsRest ∷ [])
    ∷ []
rules r.FieldsRest =
    (t c.RightBrace ∷ [])
    ∷ (Rule r.Field ∷ Rule r.FieldsMore ∷ [])
    ∷ []
rules r.FieldsMore =
    (t c.Comma ∷ Rule r.Field ∷ Rule r.FieldsMore ∷ [])
    ∷ (t c.RightBrace ∷ [])
    ∷ []
rules r.Field =
    (t c.Atom ∷ t c.Equals ∷ Rule r.Expression ∷ Act a.Field ∷ [])
    ∷ (t c.Any ∷ t c.Equals ∷ Rule r.Expression ∷ Act a.Field ∷ [])
    ∷ []
rules r.TraceTail =
    (Act a.MayTrace ∷ t c.ColonEnd ∷ Token c.Variable ∷ Act a.Trace ∷ [])
    ∷ (Act a.MayTrace ∷ t c.Colon ∷ Token c.Variable ∷ Act a.Refuse ∷ [])
    ∷ []
    ∷ []
-- ---- max
rules r.Max =
    (Token c.Single ∷ Act a.Leaf ∷ [])
    ∷ (t c.Str ∷ Act a.Leaf ∷ Rule r.Strings ∷ [])
    ∷ (t c.LeftParen ∷ Rule r.Expression ∷ t c.RightParen ∷ Act a.Parens ∷ [])
    ∷ (t c.LeftBracket ∷ Act a.None ∷ Rule r.ListRest ∷ [])
    ∷ (t c.LeftBrace ∷ Act a.None ∷ Rule r.TupleRest ∷ [])
    ∷ (t c.LeftBits ∷ Act a.NoSegments ∷ Rule r.BinRest ∷ [])
    ∷ (t c.Begin ∷ Rule r.Body ∷ t c.End ∷ Act a.Block ∷ [])
    ∷ (t c.If ∷ Rule r.IfClauses ∷ t c.End ∷ Act a.IfOf ∷ [])
    ∷ (t c.Case ∷ Rule r.Expression ∷ t c.Of ∷ Rule r.Clauses ∷ t c.End ∷ Act a.CaseOf ∷ [])
    ∷ (t c.Receive ∷ Rule r.ReceiveRest ∷ [])
    ∷ (t c.Try ∷ Rule r.Body ∷ Rule r.TryOf ∷ [])
    ∷ (t c.Maybe ∷ Act a.NoSteps ∷ Rule r.Step ∷ Rule r.StepsMore ∷ Rule r.MaybeElse ∷ [])
    ∷ (t c.Fun ∷ Act a.NoClauses ∷ Rule r.FunRest ∷ [])
    ∷ []
rules r.Strings =
    (t c.Str ∷ Act a.Join ∷ Rule r.Strings ∷ [])
    ∷ []
    ∷ []
rules r.ListRest =
    (t c.RightBracket ∷ Act a.List ∷ [])
    ∷ (Rule r.Expression ∷ Rule r.ListFirst ∷ [])
    ∷ []
rules r.ListFirst =
    (t c.DoubleBar ∷ Rule r.Qualifiers ∷ t c.RightBracket ∷ Act a.ListComp ∷ [])
    ∷ (Act a.Add ∷ Rule r.ListMore ∷ [])
    ∷ []
rules r.ListMore =
    (t c.Comma ∷ Rule r.Expression ∷ Act a.Add ∷ Rule r.ListMore ∷ [])
    ∷ (t c.Bar ∷ Rule r.Expression ∷ t c.RightBracket ∷ Act a.ListTo ∷ [])
    ∷ (t c.RightBracket ∷ Act a.List ∷ [])
    ∷ []
rules r.TupleRest =
    (t c.RightBrace ∷ Act a.Tuple ∷ [])
    ∷ (Rule r.Expression ∷ Act a.Add ∷ Rule r.TupleMore ∷ [])
    ∷ []
rules r.TupleMore =
    (t c.Comma ∷ Rule r.Expression ∷ Act a.Add ∷ Rule r.TupleMore ∷ [])
    ∷ (t c.RightBrace ∷ Act a.Tuple ∷ [])
    ∷ []
rules r.Args =
    (t c.RightParen ∷ [])
    ∷ (Rule r.Expression ∷ Act a.Add ∷ Rule r.ArgsMore ∷ [])
    ∷ []
rules r.ArgsMore =
    (t c.Comma ∷ Rule r.Expression ∷ Act a.Add ∷ Rule r.ArgsMore ∷ [])
    ∷ (t c.RightParen ∷ [])
    ∷ []
rules r.Body =
    (Act a.None ∷ Rule r.Expression ∷ Act a.Add ∷ Rule r.BodyMore ∷ [])
    ∷ []
rules r.BodyMore =
    (t c.Comma ∷ Rule r.Expression ∷ Act a.Add ∷ Rule r.BodyMore ∷ [])
    ∷ []
    ∷ []
-- ---- binaries
rules r.BinRest =
    (t c.RightBits ∷ Act a.Bin ∷ [])
    ∷ (Token c.UnaryOp ∷ Rule r.Max ∷ Act a.Unary ∷ Rule r.SegmentRest ∷ Rule r.SegmentsMore ∷ [])
    ∷ (Rule r.Max ∷ Rule r.BinFirst ∷ [])
    ∷ []
rules r.BinFirst =
    (t c.DoubleBar ∷ Rule r.Qualifiers ∷ t c.RightBits ∷ Act a.BinComp ∷ [])
    ∷ (Rule r.SegmentRest ∷ Rule r.SegmentsMore ∷ [])
    ∷ []
rules r.SegmentsMore =
    (t c.Comma ∷ Rule r.Segment ∷ Rule r.SegmentsMore ∷ [])
    ∷ (t c.RightBits ∷ Act a.Bin ∷ [])
    ∷ []
rules r.Segment =
    (Token c.UnaryOp ∷ Rule r.Max ∷ Act a.Unary ∷ Rule r.SegmentRest ∷ [])
    ∷ (Rule r.Max ∷ Rule r.SegmentRest ∷ [])
    ∷ []
rules r.SegmentRest =
    (Act a.Segment ∷ Rule r.SegmentSize ∷ Rule r.SegmentTypes ∷ Act a.AddSegment ∷ [])
    ∷ []
rules r.SegmentSize =
    (Token c.AnyColon ∷ Rule r.Max ∷ Act a.Size ∷ [])
    ∷ []
    ∷ []
rules r.SegmentTypes =
    (t c.Slash ∷ Rule r.Word ∷ Rule r.WordsMore ∷ [])
    ∷ []
    ∷ []
rules r.WordsMore =
    (t c.Minus ∷ Rule r.Word ∷ Rule r.WordsMore ∷ [])
    ∷ []
    ∷ []
rules r.Word =
    (t c.Atom ∷ Rule r.WordNumber ∷ [])
    ∷ []
rules r.WordNumber =
    (Token c.AnyColon ∷ t c.Int ∷ Act a.WordNumber ∷ [])
    ∷ (Act a.Word ∷ [])
    ∷ []
-- ---- comprehensions: qual is expr, with its first steps unfolded up to max
rules r.Qualifiers =
    (Act a.NoQualifiers ∷ Rule r.Qualifier ∷ Rule r.QualifiersMore ∷ [])
    ∷ []
rules r.QualifiersMore =
    (t c.Comma ∷ Rule r.Qualifier ∷ Rule r.QualifiersMore ∷ [])
    ∷ []
    ∷ []
rules r.Qualifier =
    (Token c.AnyCatch ∷ Rule r.Expression ∷ Act a.Catching ∷ Rule r.QualifierTail ∷ [])
    ∷ (Token c.UnaryOp ∷ Rule r.Unary ∷ Act a.Unary ∷ Rule r.UnaryMore ∷ Rule r.QualifierTail ∷ [])
    ∷ (t c.Hash ∷ t c.Atom ∷ Rule r.RecordNew ∷ Rule r.RecordMore ∷ Rule r.UnaryMore ∷ Rule r.QualifierTail ∷ [])
    ∷ (Rule r.Max ∷ Rule r.QualifierMax ∷ [])
    ∷ []
rules r.QualifierMax =
    (t c.BitsArrow ∷ Rule r.Expression ∷ Act a.From ∷ [])
    ∷ (Rule r.MaxTail ∷ Rule r.UnaryMore ∷ Rule r.QualifierTail ∷ [])
    ∷ []
rules r.QualifierTail =
    (t c.ListArrow ∷ Rule r.Expression ∷ Act a.From ∷ [])
    ∷ (Act a.Filter ∷ [])
    ∷ []
rules r.UnaryMore =
    (Rule r.MulTail ∷ Rule r.AddTail ∷ Rule r.ListTail ∷ Rule r.CmpTail ∷ Rule r.AndalsoTail ∷ Rule r.OrelseTail ∷ Rule r.MatchTail ∷ [])
    ∷ []
-- ---- clauses
rules r.GuardOpt =
    (t c.When ∷ Rule r.Guard ∷ [])
    ∷ (Act a.NoGuard ∷ [])
    ∷ []
rules r.Guard =
    (Act a.NoGuard ∷ Rule r.Body ∷ Act a.AddGuard ∷ Rule r.GuardMore ∷ [])
    ∷ []
rules r.GuardMore =
    (Token c.AnySemi ∷ Rule r.Body ∷ Act a.AddGuard ∷ Rule r.GuardMore ∷ [])
    ∷ []
    ∷ []
rules r.IfClauses =
    (Act a.NoClauses ∷ Rule r.IfClause ∷ Rule r.IfMore ∷ [])
    ∷ []
rules r.IfMore =
    (Token c.AnySemi ∷ Rule r.IfClause ∷ Rule r.IfMore ∷ [])
    ∷ []
    ∷ []
rules r.IfClause =
    (Rule r.Guard ∷ t c.Arrow ∷ Rule r.Body ∷ Act a.IfClause ∷ [])
    ∷ []
rules r.Clauses =
    (Act a.NoClauses ∷ Rule r.Clause ∷ Rule r.ClausesMore ∷ [])
    ∷ []
rules r.ClausesMore =
    (Token c.AnySemi ∷ Rule r.Clause ∷ Rule r.ClausesMore ∷ [])
    ∷ []
    ∷ []
rules r.Clause =
    (Rule r.Expression ∷ Rule r.GuardOpt ∷ t c.Arrow ∷ Rule r.Body ∷ Act a.Clause ∷ [])
    ∷ []
rules r.ReceiveRest =
    (Rule r.Clauses ∷ Rule r.ReceiveAfter ∷ [])
    ∷ (Act a.NoClauses ∷ t c.After ∷ Rule r.Expression ∷ t c.Arrow ∷ Rule r.Body ∷ t c.End ∷ Act a.ReceiveAfter ∷ [])
    ∷ []
rules r.ReceiveAfter =
    (t c.After ∷ Rule r.Expression ∷ t c.Arrow ∷ Rule r.Body ∷ t c.End ∷ Act a.ReceiveAfter ∷ [])
    ∷ (t c.End ∷ Act a.ReceiveOf ∷ [])
    ∷ []
-- ---- try
rules r.TryOf =
    (t c.Of ∷ Rule r.Clauses ∷ Act a.NoCatches ∷ Rule r.TryRest ∷ [])
    ∷ (Act a.NoClauses ∷ Act a.NoCatches ∷ Rule r.TryRest ∷ [])
    ∷ []
rules r.TryRest =
    (t c.Catch ∷ Act a.Forget ∷ Act a.Unclassed ∷ Rule r.CatchClause ∷ Rule r.CatchesMore ∷ Rule r.TryAfter ∷ [])
    ∷ (t c.CatchNamed ∷ Act a.Forget ∷ Rule r.Class ∷ Rule r.CatchClause ∷ Rule r.CatchesMore ∷ Rule r.TryAfter ∷ [])
    ∷ (t c.After ∷ Rule r.Body ∷ t c.End ∷ Act a.TryOf ∷ [])
    ∷ []
rules r.TryAfter =
    (t c.After ∷ Rule r.Body ∷ t c.End ∷ Act a.TryOf ∷ [])
    ∷ (Act a.None ∷ t c.End ∷ Act a.TryOf ∷ [])
    ∷ []
rules r.CatchesMore =
    (t c.Semi ∷ Act a.Unclassed ∷ Rule r.CatchClause ∷ Rule r.CatchesMore ∷ [])
    ∷ (t c.SemiNamed ∷ Rule r.Class ∷ Rule r.CatchClause ∷ Rule r.CatchesMore ∷ [])
    ∷ []
    ∷ []
rules r.Class =
    (Token c.Name ∷ Token c.AnyColon ∷ Act a.Class ∷ [])
    ∷ []
rules r.CatchClause =
    (Rule r.Expression ∷ Act a.CaughtPattern ∷ Rule r.GuardOpt ∷ t c.Arrow ∷ Rule r.Body ∷ Act a.CatchClause ∷ [])
    ∷ []
-- ---- maybe
rules r.StepsMore =
    (t c.Comma ∷ Rule r.Step ∷ Rule r.StepsMore ∷ [])
    ∷ []
    ∷ []
rules r.Step =
    (Token c.AnyCatch ∷ Rule r.Expression ∷ Act a.Catching ∷ Act a.Step ∷ [])
    ∷ (Rule r.Orelse ∷ Rule r.StepTail ∷ [])
    ∷ []
rules r.StepTail =
    (t c.MaybeMatch ∷ Rule r.Expression ∷ Act a.StepMatch ∷ [])
    ∷ (Rule r.MatchTail ∷ Act a.Step ∷ [])
    ∷ []
rules r.MaybeElse =
    (t c.Else ∷ Rule r.Clauses ∷ t c.End ∷ Act a.MaybeOf ∷ [])
    ∷ (Act a.NoClauses ∷ t c.End ∷ Act a.MaybeOf ∷ [])
    ∷ []
-- ---- funs
rules r.FunRest =
    (t c.Atom ∷ Rule r.FunAtom ∷ [])
    ∷ (Token c.Variable ∷ Rule r.FunVar ∷ [])
    ∷ (Rule r.FunClause ∷ Act a.FunClause ∷ Rule r.FunClausesMore ∷ t c.End ∷ Act a.FunOf ∷ [])
    ∷ []
rules r.FunAtom =
    (t c.Slash ∷ t c.Int ∷ Act a.FunLocal ∷ [])
    ∷ (Rule r.FunRemote ∷ [])
    ∷ []
rules r.FunVar =
    (Rule r.FunClause ∷ Act a.NamedClause ∷ Rule r.NamedClausesMore ∷ t c.End ∷ Act a.FunOf ∷ [])
    ∷ (Rule r.FunRemote ∷ [])
    ∷ []
rules r.FunRemote =
    (Token c.AnyColon ∷ Rule r.Name ∷ t c.Slash ∷ Rule r.Arity ∷ Act a.FunRemote ∷ [])
    ∷ []
rules r.Name =
    (Token c.Name ∷ Act a.Leaf ∷ [])
    ∷ []
rules r.Arity =
    (t c.Int ∷ Act a.Leaf ∷ [])
    ∷ (Token c.Variable ∷ Act a.Leaf ∷ [])
    ∷ []
rules r.FunClause =
    (t c.LeftParen ∷ Act a.None ∷ Rule r.Args ∷ Rule r.GuardOpt ∷ t c.Arrow ∷ Rule r.Body ∷ [])
    ∷ []
rules r.FunClausesMore =
    (Token c.AnySemi ∷ Rule r.FunClause ∷ Act a.FunClause ∷ Rule r.FunClausesMore ∷ [])
    ∷ []
    ∷ []
rules r.NamedClausesMore =
    (Token c.AnySemi ∷ Token c.Variable ∷ Rule r.FunClause ∷ Act a.NamedClause ∷ Rule r.NamedClausesMore ∷ [])
    ∷ []
    ∷ []
-- ---- forms: one start a kind of form; the kind is read from the first two tokens
rules r.Function =
    (Act a.NoClauses ∷ t c.Atom ∷ Rule r.FunClause ∷ Act a.FunctionClause ∷ Rule r.FunctionMore ∷ [])
    ∷ []
rules r.FunctionMore =
    (Token c.AnySemi ∷ t c.Atom ∷ Rule r.FunClause ∷ Act a.FunctionClause ∷ Rule r.FunctionMore ∷ [])
    ∷ []
    ∷ []
rules r.FormFunction =
    (Rule r.Function ∷ t c.Dot ∷ Act a.Function ∷ [])
    ∷ []
rules r.FormModule =
    (t c.Minus ∷ t c.Atom ∷ t c.LeftParen ∷ t c.Atom ∷ t c.RightParen ∷ t c.Dot ∷ Act a.ModuleName ∷ [])
    ∷ []
rules r.FormExport =
    (t c.Minus ∷ t c.Atom ∷ t c.LeftParen ∷ t c.LeftBracket ∷ Rule r.References ∷ t c.RightParen ∷ t c.Dot ∷ Act a.Export ∷ [])
    ∷ []
rules r.FormImport =
    (t c.Minus ∷ t c.Atom ∷ t c.LeftParen ∷ t c.Atom ∷ t c.Comma ∷ t c.LeftBracket ∷ Rule r.References ∷ t c.RightParen ∷ t c.Dot ∷ Act a.Import ∷ [])
    ∷ []
rules r.FormRecord =
    (t c.Minus ∷ t c.Atom ∷ t c.LeftParen ∷ t c.Atom ∷ t c.Comma ∷ t c.LeftBrace ∷ Rule r.Definitions ∷ t c.RightParen ∷ t c.Dot ∷ Act a.RecordOf ∷ [])
    ∷ []
rules r.FormDropped =
    (t c.Minus ∷ t c.Atom ∷ Rule r.Balanced ∷ t c.Dot ∷ Act a.Dropped ∷ [])
    ∷ []
rules r.FormOther =
    (t c.Minus ∷ t c.Atom ∷ t c.LeftParen ∷ Rule r.Constant ∷ t c.RightParen ∷ t c.Dot ∷ Act a.Attribute ∷ [])
    ∷ []
rules r.References =
    (Act a.NoReferences ∷ Rule r.ReferencesRest ∷ [])
    ∷ []
rules r.ReferencesRest =
    (t c.RightBracket ∷ [])
    ∷ (Rule r.Reference ∷ Rule r.ReferencesMore ∷ [])
    ∷ []
rules r.ReferencesMore =
    (t c.Comma ∷ Rule r.Reference ∷ Rule r.ReferencesMore ∷ [])
    ∷ (t c.RightBracket ∷ [])
    ∷ []
rules r.Reference =
    (t c.Atom ∷ t c.Slash ∷ t c.Int ∷ Act a.Reference ∷ [])
    ∷ []
rules r.Definitions =
    (Act a.NoDefinitions ∷ Rule r.DefinitionsRest ∷ [])
    ∷ []
rules r.DefinitionsRest =
    (t c.RightBrace ∷ [])
    ∷ (Rule r.Definition ∷ Rule r.DefinitionsMore ∷ [])
    ∷ []
rules r.DefinitionsMore =
    (t c.Comma ∷ Rule r.Definition ∷ Rule r.DefinitionsMore ∷ [])
    ∷ (t c.RightBrace ∷ [])
    ∷ []
rules r.Definition =
    (t c.Atom ∷ Rule r.DefinitionRest ∷ [])
    ∷ []
rules r.DefinitionRest =
    (t c.Equals ∷ Rule r.Expression ∷ Act a.DefinitionWith ∷ Rule r.DefinitionType ∷ [])
    ∷ (Act a.Definition ∷ Rule r.DefinitionType ∷ [])
    ∷ []
rules r.DefinitionType =
    (t c.DoubleColon ∷ Rule r.Types ∷ [])
    ∷ []
    ∷ []
rules r.Types =
    (Token c.LooseBare ∷ Rule r.Types ∷ [])
    ∷ (Token c.LooseKept ∷ Act a.Forget ∷ Rule r.Types ∷ [])
    ∷ (t c.LeftParen ∷ Act a.Forget ∷ Rule r.Balanced ∷ t c.RightParen ∷ Rule r.Types ∷ [])
    ∷ (t c.LeftBracket ∷ Act a.Forget ∷ Rule r.Balanced ∷ t c.RightBracket ∷ Rule r.Types ∷ [])
    ∷ (t c.LeftBrace ∷ Act a.Forget ∷ Rule r.Balanced ∷ t c.RightBrace ∷ Rule r.Types ∷ [])
    ∷ (t c.LeftBits ∷ Act a.Forget ∷ Rule r.Balanced ∷ t c.RightBits ∷ Rule r.Types ∷ [])
    ∷ []
    ∷ []
rules r.Balanced =
    (Token c.LooseBare ∷ Rule r.Balanced ∷ [])
    ∷ (t c.Comma ∷ Rule r.Balanced ∷ [])
    ∷ (Token c.LooseKept ∷ Act a.Forget ∷ Rule r.Balanced ∷ [])
    ∷ (t c.LeftParen ∷ Act a.Forget ∷ Rule r.Balanced ∷ t c.RightParen ∷ Rule r.Balanced ∷ [])
    ∷ (t c.LeftBracket ∷ Act a.Forget ∷ Rule r.Balanced ∷ t c.RightBracket ∷ Rule r.Balanced ∷ [])
    ∷ (t c.LeftBrace ∷ Act a.Forget ∷ Rule r.Balanced ∷ t c.RightBrace ∷ Rule r.Balanced ∷ [])
    ∷ (t c.LeftBits ∷ Act a.Forget ∷ Rule r.Balanced ∷ t c.RightBits ∷ Rule r.Balanced ∷ [])
    ∷ []
    ∷ []
-- ---- constants of attributes
rules r.Constant =
    (Token c.Sign ∷ t c.Int ∷ Act a.Leaf ∷ Act a.Unary ∷ [])
    ∷ (t c.Int ∷ Act a.Leaf ∷ [])
    ∷ (t c.Char ∷ Act a.Leaf ∷ [])
    ∷ (t c.Str ∷ Act a.Leaf ∷ Rule r.Strings ∷ [])
    ∷ (t c.Atom ∷ Rule r.ConstantAtom ∷ [])
    ∷ (t c.LeftBracket ∷ Act a.None ∷ Rule r.ConstantList ∷ [])
    ∷ (t c.LeftBrace ∷ Act a.None ∷ Rule r.ConstantTuple ∷ [])
    ∷ (t c.LeftBits ∷ Act a.NoSegments ∷ Rule r.ConstantBin ∷ [])
    ∷ []
rules r.ConstantAtom =
    (t c.Slash ∷ t c.Int ∷ Act a.NameArity ∷ [])
    ∷ (Act a.Leaf ∷ [])
    ∷ []
rules r.ConstantList =
    (t c.RightBracket ∷ Act a.List ∷ [])
    ∷ (Rule r.Constant ∷ Act a.Add ∷ Rule r.ConstantListMore ∷ [])
    ∷ []
rules r.ConstantListMore =
    (t c.Comma ∷ Rule r.Constant ∷ Act a.Add ∷ Rule r.ConstantListMore ∷ [])
    ∷ (t c.Bar ∷ Rule r.Constant ∷ t c.RightBracket ∷ Act a.ListTo ∷ [])
    ∷ (t c.RightBracket ∷ Act a.List ∷ [])
    ∷ []
rules r.ConstantTuple =
    (t c.RightBrace ∷ Act a.Tuple ∷ [])
    ∷ (Rule r.Constant ∷ Act a.Add ∷ Rule r.ConstantTupleMore ∷ [])
    ∷ []
rules r.ConstantTupleMore =
    (t c.Comma ∷ Rule r.Constant ∷ Act a.Add ∷ Rule r.ConstantTupleMore ∷ [])
    ∷ (t c.RightBrace ∷ Act a.Tuple ∷ [])
    ∷ []
rules r.ConstantBin =
    (t c.RightBits ∷ Act a.Bin ∷ [])
    ∷ (Rule r.ConstantSegment ∷ Rule r.ConstantBinMore ∷ [])
    ∷ []
rules r.ConstantBinMore =
    (t c.Comma ∷ Rule r.ConstantSegment ∷ Rule r.ConstantBinMore ∷ [])
    ∷ (t c.RightBits ∷ Act a.Bin ∷ [])
    ∷ []
rules r.ConstantSegment =
    (t c.Int ∷ Act a.Leaf ∷ Act a.Segment ∷ Act a.AddSegment ∷ [])
    ∷ (t c.Str ∷ Act a.Leaf ∷ Rule r.Strings ∷ Act a.Segment ∷ Act a.AddSegment ∷ [])
    ∷ []
