use Rattle.std.proofs.Common.{ap, ◌∙◌}
use Rattle.ef_scope.specs.Marks.{mark_of}
use Rattle.ef_scope.proofs.MarkLaws.{mark_in_none}
use Rattle.ef_scope.proofs.marks.Marks.new.Goals as goal

pub returns : goal.returns
returns c = λ m. ap (λ es. mark_of es m) c.new.ensures.empty ∙ mark_in_none m
