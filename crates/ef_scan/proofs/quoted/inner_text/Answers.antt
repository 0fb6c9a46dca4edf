use Rattle.ef_scan.proofs.Quoting.{inside}
use Rattle.ef_scan.proofs.quoted.inner_text.Goals as goal

pub returns-in-Some : goal.returns-in-Some
returns-in-Some c =
    let run = c.run-run.ensures in
    let is = inside c.args.quote c.args.at c.run-run.result.behind c.in-Some.close c.run-run.result.count run c.in-Some.ensures.some in
    (run.front, c.text_to.ensures run.front run.behind, run.counted, is.0, is.1, is.2)
