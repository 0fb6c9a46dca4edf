use Rattle.std.proofs.Common.{◌≡◌, take}
use Rattle.ef_meaning.specs.Cases.{AreHeld, names_of}
use Rattle.ef_lower.proofs.arms.own_variables.Given as goal

abbrev pub invariant-loop-bind : goal.invariant-loop-bind
invariant-loop-bind l = record {
  named : names_of l.own.items ≡ names_of (take l.bind-index l.binds);
  held : AreHeld l.env l.own.items;
}
