use Rattle.ef_front.proofs.Taken.{one_whole, one_faulty}
use Rattle.ef_front.proofs.source.Taken.add.Goals as goal

pub returns-in_ok-push-in-Tokens : goal.returns-in_ok-push-in-Tokens
returns-in_ok-push-in-Tokens c = λ before taken. one_whole before _ _ _ _ _ c.in-Tokens.is c.in_ok-push-in-Tokens.ensures.items taken

pub returns-in_ok-push-in-Faulty : goal.returns-in_ok-push-in-Faulty
returns-in_ok-push-in-Faulty c = λ before taken. one_faulty before _ _ _ _ _ c.in-Faulty.is c.in_ok-push-in-Faulty.ensures.ok taken
