use Rattle.std.proofs.Common.{ap, ◌∙◌}
use Rattle.std.specs.Prelude.{◌==◌, if◌then◌else◌}
use Rattle.ef_scope.specs.Marks.{mark_of}
use Rattle.ef_scope.proofs.MarkLaws.{mark_set}
use Rattle.ef_scope.proofs.marks.Marks.set.Goals as goal

pub returns : goal.returns
returns c = λ m.
    mark_set c.self.inside.marks.entries c.insert.new.self.entries c.args.name c.args.mark m (c.in_ok-insert.ensures.updates.0 m)
    ∙ ap (λ es. if c.args.name == m then c.args.mark else mark_of es m) c.self.view_is
