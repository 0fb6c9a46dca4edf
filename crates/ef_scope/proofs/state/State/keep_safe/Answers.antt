use Rattle.std.proofs.Common.{ap, ◌∙◌, rules}
use Rattle.std.proofs.lemmas.Fn.{filter_same}
use Rattle.ef_scope.specs.declared.marks.Mark.TheVariants.{Safe}
use Rattle.ef_scope.specs.Marks.{is_at_least, mark_of}
use Rattle.ef_scope.specs.Trail.{has}
use Rattle.ef_scope.proofs.TrailLaws.{has_kept}
use Rattle.ef_scope.proofs.state.State.keep_safe.Goals as goal

pub returns : goal.returns
returns c = λ m.
    ap (λ l. has l m) (filter_same _ (λ n. is_at_least (mark_of c.args.self.now.marks n) Safe) _ (λ x b f' k. search rules) _ _ c.retain.ensures.filtered) ∙ has_kept (λ n. is_at_least (mark_of c.args.self.now.marks n) Safe) c.args.names.now.items m
