use Rattle.std.proofs.Common.{ap, map, rules}
use Rattle.ef_core.specs.Plain as core
use Rattle.ef_lower.proofs.Bodies.{body_alone, body_drawn}
use Rattle.ef_lower.proofs.LastCalls.{alone_stays}
use Rattle.ef_lower.proofs.lower.closed_body.Goals as goal

pub returns : goal.returns
returns c =
    let none = ap (map core.plain_step) c.new-steps.ensures.items in
    let body = body_alone _ _ none c.in_ok-value.ensures c.in_ok-finish.ensures in
    record {
      kept = search rules;
      differ = search rules;
      utf8 = search rules;
      lowered = body.lowered;
      in_scope = body.in_scope;
      shallow = body.shallow;
      drawn = body_drawn _ _ none c.in_ok-value.ensures;
      last_calls = alone_stays _ _ c.in_ok-value.ensures c.in_ok-finish.ensures;
      means = body.means;
    }
