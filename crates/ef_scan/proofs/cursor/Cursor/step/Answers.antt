use Rattle.std.proofs.Common.{arith, rules, ◌+◌}
use Rattle.ef_scan.proofs.Cursors.{a_step}
use Rattle.ef_scan.proofs.cursor.Cursor.step.Goals as goal

pub returns-then-first-eq10-clause-some : goal.returns-then-first-eq10-clause-some
returns-then-first-eq10-clause-some c =
    a_step c.args.self.now (record { rest = c.as_str-rest.result; line = c.args.self.now.line + 1; column = 1 }) c.in_ok-first.first (search rules) c.requires (search rules) (omega arith) (omega arith)

pub returns-clause-some : goal.returns-clause-some
returns-clause-some c =
    a_step c.args.self.now (record { rest = c.as_str-rest.result; line = c.args.self.now.line; column = c.args.self.now.column + 1 }) c.in_ok-first.first (search rules) c.requires (search rules) (omega arith) (omega arith)
