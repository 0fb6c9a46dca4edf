use Rattle.std.proofs.Common.{ap, ◌∙◌, inl, inr, map, refl}
use Rattle.std.proofs.lemmas.List.{map-append}
use Rattle.ef_core.specs.Laws.{plain_var}
use Rattle.ef_core.specs.Plain.{plain_step}
use Rattle.ef_meaning.proofs.Variables.{are_below_more}
use Rattle.ef_lower.proofs.Behind.{stands_next}
use Rattle.ef_lower.proofs.matches.match_value.Goals as goal

pub returns-then-is_any : goal.returns-then-is_any
returns-then-is_any c = inl (record { place = c.args.pat.now.place; is = c.is_any.ensures c.if-is_any.true; drawn = refl; bound = refl; steps = refl; same = refl })

pub match_step-requires-clause-below : goal.match_step-requires-clause-below
match_step-requires-clause-below c = are_below_more _ _ _ (stands_next c.in_ok-var.ensures).0 c.requires.below

pub returns-in_ok-push-in-None : goal.returns-in_ok-push-in-None
returns-in_ok-push-in-None c = inr (inr (record {
  x = c.in_ok-var.var;
  mid = c.in_variable.new.fresh;
  before = map plain_step c.in_variable.new.steps.items;
  step = plain_step c.in_ok-step-in-None.step;
  stands = c.in_ok-var.ensures;
  is_match = c.in_ok-step-in-None.ensures;
  steps = ap (map plain_step) c.in_ok-push-in-None.ensures.items ∙ map-append plain_step c.in_variable.new.steps.items _;
  same = plain_var c.in_ok-var.var;
}))
