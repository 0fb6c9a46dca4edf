-- At which classes each right side is chosen, what may stand behind each rule, a bound of the steps before its first
-- token, and how many levels are opened ahead. These numbers are checked, and tell a reader nothing of the language.
use Rattle.std.specs.Prelude.{ℕ, List, [], ◌∷◌}
use Rattle.ef_grammar.specs.Table.{Row, Table, rowed}
use Rattle.ef_cond.specs.declared.rows.RuleName.{RuleName}
use Rattle.ef_cond.specs.declared.rows.RuleName.TheVariants as r
use Rattle.ef_cond.specs.declared.rows.Action.{Action}
use Rattle.ef_cond.specs.Rules.{rules}

abbrev pub at : RuleName → List ℕ
at r.Orelse = 0x7d ∷ []
at r.OrelseTail = 0x800 ∷ 0x2002 ∷ []
at r.Andalso = 0x7d ∷ []
at r.AndalsoTail = 0x400 ∷ 0x2802 ∷ []
at r.Comparison = 0x7d ∷ []
at r.ComparisonTail = 0x200 ∷ 0x2c02 ∷ []
at r.Add = 0x7d ∷ []
at r.AddTail = 0x130 ∷ 0x2e02 ∷ []
at r.Mul = 0x7d ∷ []
at r.MulTail = 0x80 ∷ 0x2f32 ∷ []
at r.Unary = 0x70 ∷ 0xd ∷ []
at r.Max = 0x4 ∷ 0x8 ∷ 0x1 ∷ []

abbrev pub behind : RuleName → ℕ
behind r.Orelse = 0x2002
behind r.OrelseTail = 0x2002
behind r.Andalso = 0x2802
behind r.AndalsoTail = 0x2802
behind r.Comparison = 0x2c02
behind r.ComparisonTail = 0x2c02
behind r.Add = 0x2e02
behind r.AddTail = 0x2e02
behind r.Mul = 0x2f32
behind r.MulTail = 0x2f32
behind r.Unary = 0x2fb2
behind r.Max = 0x2fb2

abbrev pub height : RuleName → ℕ
height r.Orelse = 12
height r.OrelseTail = 1
height r.Andalso = 10
height r.AndalsoTail = 1
height r.Comparison = 8
height r.ComparisonTail = 1
height r.Add = 6
height r.AddTail = 1
height r.Mul = 4
height r.MulTail = 1
height r.Unary = 2
height r.Max = 1

abbrev pub ahead : RuleName → ℕ
ahead r.Orelse = 6
ahead r.Andalso = 5
ahead r.Comparison = 4
ahead r.Add = 3
ahead r.Mul = 2
ahead r.Unary = 1
ahead n = 0

abbrev pub rows : RuleName → List (Row RuleName Action)
rows n = rowed (at n) (rules n)

abbrev pub table : Table RuleName Action
table = record { rows = rows; behind = behind; height = height; ahead = ahead }
