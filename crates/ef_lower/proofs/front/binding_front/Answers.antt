use Rattle.std.proofs.Common.{subst}
use Rattle.ef_core.specs.Plain.{plain}
use Rattle.ef_lower.specs.Matches.{IsGuardOf}
use Rattle.ef_lower.proofs.front.binding_front.Goals as goal

pub returns : goal.returns
returns c =
    let p = c.in_ok-lowered.ensures in
    let found = c.in_ok-lowered.lowered in
    let guard = c.in_ok-guard.ensures in
    record {
      tests = found.tests.items;
      matched = c.pattern.new.fresh;
      is_pattern = record {
        matched = p.matched;
        distinct = p.distinct;
        binds_in_pattern = p.binds_in_pattern;
        lefts_in_pattern = p.lefts_in_pattern;
        rights_known = p.rights_known;
        names_differ = p.names_differ;
        names_new = p.names_new;
        names_all = p.names_all;
        lowered = p.lowered;
        readable_binds = p.readable_binds;
        sizes = p.sizes;
        shallow = p.shallow;
        drawn = p.drawn;
      };
      is_guard = subst (λ ts. IsGuardOf c.args.names.now ts (plain c.in_ok-guard.guard)) c.deref.ensures.value
          (record { gives = guard.gives; lowered = guard.lowered; in_scope = guard.in_scope; shallow = guard.shallow });
      guard_drawn = guard.drawn;
    }
