use Rattle.std.proofs.Common.{◌≡◌, ◌++◌, drop, map}
use Rattle.ef_core.specs.Env.{bind_of}
use Rattle.ef_core.proofs.env.Env.binds_from.Given as goal

abbrev pub invariant-loop-place : goal.invariant-loop-place
invariant-loop-place l = l.binds.items ++ drop l.place (map bind_of l.self-inside.vars.entries) ≡ drop l.start (map bind_of l.self-inside.vars.entries)
