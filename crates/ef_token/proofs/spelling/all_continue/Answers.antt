use Rattle.std.proofs.Common.{chars}
use Rattle.ef_token.proofs.Names.{goes_none}
use Rattle.ef_token.proofs.spelling.all_continue.Goals as goal

pub loop-step-init : goal.loop-step-init
loop-step-init c = (c.utf8.text, goes_none (chars c.args.text.now))
