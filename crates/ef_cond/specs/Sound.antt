-- The table is sound, and has the rows of the grammar.
use Rattle.std.proofs.Common.{◌≡◌, refl}
use Rattle.ef_grammar.specs.Table.{rights, IsSound}
use Rattle.ef_cond.specs.declared.rows.RuleName.{RuleName}
use Rattle.ef_cond.specs.declared.rows.RuleName.TheVariants as r
use Rattle.ef_cond.specs.Rules.{rules}
use Rattle.ef_cond.specs.Tables.{rows, table}

pub sound : IsSound table
sound r.Orelse = refl
sound r.OrelseTail = refl
sound r.Andalso = refl
sound r.AndalsoTail = refl
sound r.Comparison = refl
sound r.ComparisonTail = refl
sound r.Add = refl
sound r.AddTail = refl
sound r.Mul = refl
sound r.MulTail = refl
sound r.Unary = refl
sound r.Max = refl

pub rows_are : (n : RuleName) → rights (rows n) ≡ rules n
rows_are r.Orelse = refl
rows_are r.OrelseTail = refl
rows_are r.Andalso = refl
rows_are r.AndalsoTail = refl
rows_are r.Comparison = refl
rows_are r.ComparisonTail = refl
rows_are r.Add = refl
rows_are r.AddTail = refl
rows_are r.Mul = refl
rows_are r.MulTail = refl
rows_are r.Unary = refl
rows_are r.Max = refl
