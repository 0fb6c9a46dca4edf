use Rattle.std.proofs.Common.{ap, ◌∙◌}
use Rattle.std.specs.Option.{unwrap_or}
use Rattle.ef_scope.specs.declared.marks.Mark.TheVariants.{Unbound}
use Rattle.ef_scope.specs.Marks.{mark_of}
use Rattle.ef_scope.proofs.marks.Marks.get.Goals as goal

pub returns : goal.returns
unfolding mark_of
returns c = c.unwrap_or.ensures ∙ ap (λ o. unwrap_or o Unbound) (c.copied.ensures ∙ c.get.ensures.value) ∙ ap (λ es. mark_of es c.args.name) c.self.view_is
