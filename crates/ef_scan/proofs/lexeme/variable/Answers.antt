use Rattle.ef_token.specs.Lexeme as x
use Rattle.ef_scan.proofs.Verdicts.{variable_at}
use Rattle.ef_scan.proofs.lexeme.variable.Goals as goal

pub returns : goal.returns
returns c =
    let run = c.requires.run in
    (x.variable run.front, c.text_to-name.ensures run.front run.behind, variable_at c.args.at c.args.run.behind c.args.run.count run c.requires.begins)
