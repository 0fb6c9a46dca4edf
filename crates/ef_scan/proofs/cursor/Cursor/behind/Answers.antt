use Rattle.std.proofs.Common.{rules, refl}
use Rattle.ef_base.proofs.Fronts.{boundary}
use Rattle.ef_scan.specs.Cursors.{is_plain}
use Rattle.ef_scan.proofs.Cursors.{behind_width, plain_small}
use Rattle.ef_scan.proofs.cursor.Cursor.behind.Goals as goal

pub range_from-requires : goal.range_from-requires
range_from-requires c = λ some. boundary is_plain plain_small c.args.self.now.rest.now c.args.width c.requires.in_text.utf8 c.requires.within c.requires.plain

pub returns : goal.returns
returns c = behind_width c.args.self.now _ c.args.width c.requires.in_text c.requires.within c.requires.plain (search rules) refl refl
