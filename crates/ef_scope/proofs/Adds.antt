-- Faults that are added to a set.
use Rattle.std.proofs.Common.{◌≡◌, List, [], ◌∷◌, ◌++◌, sym, ap, ◌∙◌, append_assoc, append-nil}
use Rattle.ef_base.specs.declared.fault.Fault.{Fault}
use Rattle.ef_base.specs.Faults.{set_of, insert_fault}
use Rattle.ef_base.proofs.FaultLaws.{set_of-push}
use Rattle.ef_scope.specs.Walks.{Adds}

pub adds_none : (l : List Fault) → Adds [] l l
adds_none l before is = is ∙ ap set_of (sym (append-nil before))

pub adds_then : (old mid new a b : List Fault) → Adds a old mid → Adds b mid new → Adds (a ++ b) old new
adds_then old mid new a b one two before is = two (before ++ a) (one before is) ∙ ap set_of (append_assoc before a b)

pub adds_one : (old new : List Fault) (f : Fault) → new ≡ insert_fault f old → Adds (f ∷ []) old new
adds_one old new f pushed before is = pushed ∙ ap (insert_fault f) is ∙ set_of-push before f
