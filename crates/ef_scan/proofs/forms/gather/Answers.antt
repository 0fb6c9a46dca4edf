use Rattle.ef_scan.proofs.Scanning.{push_lexeme}
use Rattle.ef_scan.proofs.forms.gather.Goals as goal

pub returns-in_ok-kind-in-Lexeme-clause-gathers : goal.returns-in_ok-kind-in-Lexeme-clause-gathers
returns-in_ok-kind-in-Lexeme-clause-gathers c =
    push_lexeme c.kind_of.new.names c.args.gathered.now c.push.new.self c.args.part c.in-Lexeme.piece c.in_ok-kind-in-Lexeme.kind c.args.place c.push.result c.in-Lexeme.is
    c.in_ok-kind-in-Lexeme.ensures.kind c.push.ensures
