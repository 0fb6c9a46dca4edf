use Rattle.std.proofs.Common.{◌≡◌, length, vec_len, arith, ◌∙◌}
use Rattle.std.proofs.lemmas.Iterator.Adapters.{YieldsList-from_vec}
use Rattle.std.proofs.lemmas.Iterator.Consumers.{YieldsList-turn}
use Rattle.ef_lowpat.proofs.Literals.{literal_at, said_push}
use Rattle.ef_lowpat.proofs.nodes.literals.Goals as goal

pub literal_of-requires : goal.literal_of-requires
literal_of-requires c =
    let given = c.into_iter-pat-iterator.ensures.into_iter_gives in
    let counted : vec_len c.args.pats ≡ length c.args.pats.items = omega (arith, c.args.pats.ok.0) in
    let turn = YieldsList-turn (YieldsList-from_vec c.args.pats.items given.0 (given.1 ∙ counted)) c.loop-pat.yielded c.loop-pat.pat-iterator c.loop-pat.yielded_by c.next.result c.next.new.self c.in-Some.pat c.in-Some.is c.next.ensures.steps in
    literal_at c.args.pats.items _ c.in-Some.pat turn.0 turn.1 c.requires

pub loop-pat-preserved : goal.loop-pat-preserved
loop-pat-preserved c = (tt, tt, said_push c.loop-pat.yielded c.loop-pat.literals.items c.push.new.self.items c.in-Some.pat c.literal_of.result c.in_ok-push.ensures.items c.loop-pat.invariant.2 c.literal_of.ensures)
