use Rattle.std.proofs.Common.{◌≡◌, drop}
use Rattle.std.specs.List.{list_any}
use Rattle.ef_token.specs.declared.token.Token.{Token}
use Rattle.ef_front.specs.LeftOut.{is_question}
use Rattle.ef_front.proofs.left_out.has_question.Given as goal

abbrev pub invariant-loop-token : goal.invariant-loop-token
invariant-loop-token l = list_any (λ (t : Token). is_question t.kind) (drop l.token-index l.tokens) ≡ list_any (λ (t : Token). is_question t.kind) l.tokens
