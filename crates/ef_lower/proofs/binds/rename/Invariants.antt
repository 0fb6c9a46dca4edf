use Rattle.std.proofs.Common.{◌≡◌, ◌+◌, ◌++◌, take}
use Rattle.ef_meaning.specs.Cases.{names_of}
use Rattle.ef_meaning.specs.Lowers.{env_from, params_from}
use Rattle.ef_lower.proofs.binds.rename.Given as goal

abbrev pub invariant-loop-bind : goal.invariant-loop-bind
invariant-loop-bind l = record {
  drawn : l.fresh ≡ l.fn.fresh + l.bind-index;
  vars : l.vars.items ≡ l.fn.vars.items ++ params_from l.fn.fresh (names_of (take l.bind-index l.binds));
  bound : l.env ≡ l.fn.env ++ env_from l.fn.fresh (names_of (take l.bind-index l.binds));
}
