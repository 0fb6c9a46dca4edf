use Rattle.std.proofs.Common.{rules, subst}
use Rattle.ef_scan.specs.Verdicts.{Holds}
use Rattle.ef_scan.proofs.Holding.{text_string}
use Rattle.ef_scan.proofs.kind.kind_of.Goals as goal

pub returns-in_ok-codes_in-in-Text-clause-kind : goal.returns-in_ok-codes_in-in-Text-clause-kind
returns-in_ok-codes_in-in-Text-clause-kind c = λ l h all later.
    text_string all c.in-Text.text c.from_vec.result l (search rules) (search rules) (subst (λ p. Holds p l) c.in-Text.is h)
