use Rattle.std.proofs.Common.{◌≡◌, length, vec_len, arith, ◌∙◌}
use Rattle.std.proofs.lemmas.Iterator.Adapters.{YieldsList-from_vec}
use Rattle.std.proofs.lemmas.Iterator.Consumers.{YieldsList-turn}
use Rattle.ef_lower.proofs.Literals.{literal_at, said_push}
use Rattle.ef_lower.proofs.nodes.literals.Goals as goal

pub literal_of-requires : goal.literal_of-requires
literal_of-requires c =
    let given = c.into_iter-expr-iterator.ensures.into_iter_gives in
    let counted : vec_len c.args.exprs ≡ length c.args.exprs.items = omega (arith, c.args.exprs.ok.0) in
    let turn = YieldsList-turn (YieldsList-from_vec c.args.exprs.items given.0 (given.1 ∙ counted)) c.loop-expr.yielded c.loop-expr.expr-iterator c.loop-expr.yielded_by c.next.result c.next.new.self c.in-Some.expr c.in-Some.is c.next.ensures.steps in
    literal_at c.args.exprs.items _ c.in-Some.expr turn.0 turn.1 c.requires

pub loop-expr-preserved : goal.loop-expr-preserved
loop-expr-preserved c = (tt, tt, said_push c.loop-expr.yielded c.loop-expr.literals.items c.push.new.self.items c.in-Some.expr c.literal_of.result c.in_ok-push.ensures.items c.loop-expr.invariant.2 c.literal_of.ensures)
