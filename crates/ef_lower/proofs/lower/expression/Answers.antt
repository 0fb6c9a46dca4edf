use Rattle.std.proofs.Common.{ap, map, arith, rules}
use Rattle.ef_core.specs.Plain as core
use Rattle.ef_forms.specs.Plain.{plain}
use Rattle.ef_lower.proofs.Bodies.{exported_one, named_body, named_drawn, named_exported, one_body}
use Rattle.ef_lower.proofs.LastCalls.{named_stays}
use Rattle.ef_lower.proofs.lower.expression.Goals as goal

pub returns : goal.returns
returns c =
    let none = ap (map core.plain_step) c.new-steps.ensures.items in
    let lowers = one_body _ _ c.in_ok-own.ensures c.requires.below c.requires.readable c.in_ok-value.ensures in
    let gives = c.in_ok-with_names.ensures in
    let body = named_body _ _ none lowers _ c.len.ensures gives.differ gives.named gives.gives in
    let drawn = named_drawn _ _ none lowers _ c.len.ensures gives.differ gives.named gives.gives in
    let most = drawn.1 in
    let deep = body.shallow in
    record {
      kept = search rules;
      differ = search rules;
      utf8 = search rules;
      lowered = body.lowered;
      in_scope = body.in_scope;
      shallow = omega arith;
      exports = exported_one (plain c.args.expr.now) (named_exported _ _ none lowers _ c.len.ensures gives.differ gives.named gives.gives);
      drawn = (drawn.0, omega arith);
      last_calls = named_stays _ _ _ lowers gives.named gives.gives;
      means = body.means;
    }
