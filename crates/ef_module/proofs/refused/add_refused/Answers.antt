use Rattle.std.proofs.Common.{ap, subst, length, slice_range}
use Rattle.ef_profile.specs.Adds.{Adds}
use Rattle.ef_module.specs.Refused.{refused_from}
use Rattle.ef_module.proofs.Depths.{fits_next}
use Rattle.ef_module.proofs.Rests.{front_range, refused_step, refused_end}
use Rattle.ef_module.proofs.refused.add_refused.Goals as goal

pub loop-rest-preserved : goal.loop-rest-preserved
loop-rest-preserved c =
    let rest = c.loop-rest.rest.now in
    let t = c.token-item.result in
    let after = slice_range rest 1 (length rest) in
    let front = front_range rest t c.in-len1-up.len_at_least c.token-item.is in
    record {
      fits = fits_next c.args.typed c.loop-rest.depth c.behind-depth.result t.kind (length rest) (length after) (length c.args.tokens.now) c.behind-depth.ensures (ap length front) c.loop-rest.invariant.fits;
      adds = λ new two. c.loop-rest.invariant.adds new
          (refused_step c.args.typed c.loop-rest.depth rest t after c.loop-rest.found c.add_outside.new.found new front c.in_ok-add_outside.ensures
          (subst (λ o. Adds (refused_from c.args.typed o after) c.add_outside.new.found new) c.behind-depth.ensures two));
    }

pub returns : goal.returns
returns c = c.loop-rest.invariant.adds c.loop-rest.found (refused_end c.args.typed c.loop-rest.depth c.loop-rest.rest.now c.loop-rest.found c.in_default.len_below)
