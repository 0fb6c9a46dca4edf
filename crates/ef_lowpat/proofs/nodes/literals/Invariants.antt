use Rattle.std.proofs.Common.{◌≡◌}
use Rattle.ef_core.specs.Plain.{plain_lits, plain_pats}
use Rattle.ef_lowpat.specs.Nodes.{lit_pats}
use Rattle.ef_lowpat.proofs.nodes.literals.Given as goal

abbrev pub invariant-loop-pat : goal.invariant-loop-pat
invariant-loop-pat l =
    (goal.iterator-loop-pat).can_next l.pat-iterator ×
    (goal.iterator-loop-pat).is_finite l.pat-iterator ×
    (plain_pats l.yielded ≡ lit_pats (plain_lits l.literals.items))
