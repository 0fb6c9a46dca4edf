use Rattle.std.proofs.Common.{arith}
use Rattle.ef_core.specs.Plain.{pats, plain}
use Rattle.ef_lower.proofs.last.last_clause.Goals as goal

pub returns-in-Ok : goal.returns-in-Ok
returns-in-Ok x =
    let guard = x.in_ok-guard.ensures in
    let behind = guard.drawn in
    let next = x.in-Ok.ensures.drawn in
    record {
      always = plain x.in_ok-guard.guard;
      fails = plain x.in-Ok.body;
      z = x.guard.new.fresh;
      drawn = behind.0;
      enough = omega arith;
      next = next;
      is_guard = record { gives = guard.gives; lowered = guard.lowered; in_scope = guard.in_scope; shallow = guard.shallow };
      is_error = x.in-Ok.ensures.fails;
      is = λ i. record { pats = pats (x.in-Ok.ensures.pats i); guard = plain x.in_ok-guard.guard; body = plain x.in-Ok.body };
    }
