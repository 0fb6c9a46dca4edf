use Rattle.std.proofs.Common.{rules, ◌∙◌}
use Rattle.ef_scan.proofs.Cursors.{between, cut_between}
use Rattle.ef_scan.proofs.cursor.Cursor.text_to.Goals as goal

pub range-requires-clause-end_boundary : goal.range-requires-clause-end_boundary
range-requires-clause-end_boundary c = cut_between c.args.self.now c.args.there c.requires.0 c.requires.1

pub returns : goal.returns
returns c = λ front h. (search rules) ∙ between c.args.self.now c.args.there front h
