use Rattle.std.proofs.Common.{sym, subst}
use Rattle.ef_forms.specs.declared.walk.Seen.{Seen}
use Rattle.ef_forms.specs.Shown.{show}
use Rattle.ef_profile.specs.Adds.{Adds}
use Rattle.ef_profile.specs.Unbuilt.{node_faults}
use Rattle.ef_profile.proofs.Adding.{adds_all, adds_more, flat_map-map}
use Rattle.ef_profile.proofs.unbuilt.add_nodes.Goals as goal

pub loop-seen-preserved : goal.loop-seen-preserved
loop-seen-preserved c =
    adds_more (λ (s : Seen). node_faults c.args.names.now (show s)) c.args.nodes.now c.loop-seen.seen-index c.seen-item.result
    c.args.found.now c.loop-seen.found c.add_node.new.found c.loop-seen-test.true c.seen-item.is c.loop-seen.invariant c.in_ok-add_node.ensures

pub returns : goal.returns
returns c =
    let rule = node_faults c.args.names.now in
    subst (λ l. Adds l c.args.found.now c.loop-seen.found) (sym (flat_map-map rule show c.args.nodes.now))
    (adds_all (λ (s : Seen). rule (show s)) c.args.nodes.now c.loop-seen.seen-index c.args.found.now c.loop-seen.found c.loop-seen-test.false c.loop-seen.invariant)
