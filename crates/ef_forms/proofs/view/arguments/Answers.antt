use Rattle.std.proofs.Common.{arith}
use Rattle.ef_forms.proofs.Views.{call_arguments, remote_arguments}
use Rattle.ef_forms.proofs.view.arguments.Goals as goal

pub returns-in-Call : goal.returns-in-Call
returns-in-Call c = call_arguments c.args.expr.now c.in-Call.target c.in-Call.args c.len.result c.in-Call.is (omega arith)

pub returns-in-Remote : goal.returns-in-Remote
returns-in-Remote c = remote_arguments c.args.expr.now c.in-Remote.module c.in-Remote.function c.in-Remote.args c.len-in-Remote.result c.in-Remote.is (omega arith)
