use Rattle.std.proofs.Common.{take}
use Rattle.std.specs.List.{flat_map}
use Rattle.ef_forms.specs.declared.expr.Clause.{Clause}
use Rattle.ef_forms.specs.Shown.{show_head}
use Rattle.ef_profile.specs.Adds.{Adds}
use Rattle.ef_profile.specs.Unbuilt.{head_faults}
use Rattle.ef_profile.proofs.unbuilt.add_heads.Given as goal

abbrev pub invariant-loop-clause : goal.invariant-loop-clause
invariant-loop-clause l = Adds (flat_map (λ (c : Clause). head_faults (show_head c)) (take l.clause-index l.clauses)) l.initial.found l.found
