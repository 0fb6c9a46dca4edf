use Rattle.std.proofs.Common.{subst}
use Rattle.ef_scan.specs.Verdicts.{IsVerdict}
use Rattle.ef_scan.proofs.Parts.{comment_at, lexeme_at, fault_at}
use Rattle.ef_scan.proofs.part.next_part.Goals as goal

pub returns-then-first-eq37 : goal.returns-then-first-eq37
returns-then-first-eq37 c =
    let run = c.run-run.ensures in
    comment_at c.args.at c.args.behind c.run-run.result.behind c.args.first c.run-run.result.count c.text_to.result c.requires.in_text c.requires.step c.if-first-eq37.true run (c.text_to.ensures run.front run.behind)

pub returns-in-Found : goal.returns-in-Found
returns-in-Found c = lexeme_at c.args.at c.in-Found.behind c.in-Found.piece (subst (IsVerdict c.args.at) c.in-Found.is c.in_ok-piece.ensures)

pub returns-in-Fault : goal.returns-in-Fault
returns-in-Fault c = fault_at c.args.at c.skip.result c.in-Fault.code (subst (IsVerdict c.args.at) c.in-Fault.is c.in_ok-piece.ensures) c.skip.ensures
