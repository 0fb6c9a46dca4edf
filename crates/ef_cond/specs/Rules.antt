-- The rows of the grammar: a line an alternative.
use Rattle.std.specs.Prelude.{ℕ, List, [], ◌∷◌}
use Rattle.ef_grammar.specs.Grammar.{Symbol, Token, Rule, Act, one}
use Rattle.ef_cond.specs.Classes as c
use Rattle.ef_cond.specs.declared.rows.RuleName.{RuleName}
use Rattle.ef_cond.specs.declared.rows.RuleName.TheVariants as r
use Rattle.ef_cond.specs.declared.rows.Action.{Action}
use Rattle.ef_cond.specs.declared.rows.Action.TheVariants as a

-- the token of this class
abbrev pub t : ℕ → Symbol RuleName Action
t i = Token (one i)

abbrev pub rules : RuleName → List (List (Symbol RuleName Action))
-- ---- conditions, from the loosest level on
rules r.Orelse =
    (Rule r.Andalso ∷ Rule r.OrelseTail ∷ [])
    ∷ []
rules r.OrelseTail =
    (t c.Orelse ∷ Rule r.Orelse ∷ Act a.OrElse ∷ [])
    ∷ []
    ∷ []
rules r.Andalso =
    (Rule r.Comparison ∷ Rule r.AndalsoTail ∷ [])
    ∷ []
rules r.AndalsoTail =
    (t c.Andalso ∷ Rule r.Andalso ∷ Act a.AndAlso ∷ [])
    ∷ []
    ∷ []
rules r.Comparison =
    (Rule r.Add ∷ Rule r.ComparisonTail ∷ [])
    ∷ []
rules r.ComparisonTail =
    (t c.CmpOp ∷ Rule r.Add ∷ Act a.Binary ∷ [])
    ∷ []
    ∷ []
rules r.Add =
    (Rule r.Mul ∷ Rule r.AddTail ∷ [])
    ∷ []
rules r.AddTail =
    (Token c.AddOp ∷ Rule r.Mul ∷ Act a.Binary ∷ Rule r.AddTail ∷ [])
    ∷ []
    ∷ []
rules r.Mul =
    (Rule r.Unary ∷ Rule r.MulTail ∷ [])
    ∷ []
rules r.MulTail =
    (t c.MulOp ∷ Rule r.Unary ∷ Act a.Binary ∷ Rule r.MulTail ∷ [])
    ∷ []
    ∷ []
rules r.Unary =
    (Token c.UnaryOp ∷ Rule r.Unary ∷ Act a.Unary ∷ [])
    ∷ (Rule r.Max ∷ [])
    ∷ []
rules r.Max =
    (t c.Int ∷ [])
    ∷ (t c.Atom ∷ [])
    ∷ (t c.LeftParen ∷ Rule r.Orelse ∷ t c.RightParen ∷ Act a.Parens ∷ [])
    ∷ []
