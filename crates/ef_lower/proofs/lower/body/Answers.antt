use Rattle.std.proofs.Common.{ap, map, arith, rules}
use Rattle.ef_core.specs.Plain as core
use Rattle.ef_lower.proofs.Bodies.{body_enough, body_from, named_body, named_drawn, named_exported}
use Rattle.ef_lower.proofs.LastCalls.{named_stays}
use Rattle.ef_lower.proofs.lower.body.Goals as goal

pub with_names-requires : goal.with_names-requires
with_names-requires c =
    let drawn = body_enough _ _ (ap (map core.plain_step) c.new-steps.ensures.items) c.in_ok-value.ensures in let all = c.requires.enough in omega arith

pub returns : goal.returns
returns c =
    let none = ap (map core.plain_step) c.new-steps.ensures.items in
    let lowers = body_from _ _ c.in_ok-own.ensures c.in_ok-value.ensures in
    let gives = c.in_ok-with_names.ensures in
    let body = named_body _ _ none lowers _ c.len.ensures gives.differ gives.named gives.gives in
    record {
      kept = search rules;
      differ = search rules;
      utf8 = search rules;
      lowered = body.lowered;
      in_scope = body.in_scope;
      shallow = body.shallow;
      exports = named_exported _ _ none lowers _ c.len.ensures gives.differ gives.named gives.gives;
      drawn = named_drawn _ _ none lowers _ c.len.ensures gives.differ gives.named gives.gives;
      last_calls = named_stays _ _ _ lowers gives.named gives.gives;
      means = body.means;
    }
