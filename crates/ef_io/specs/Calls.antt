-- The calls of an object in memory, some of which are to fail.
use Rattle.std.specs.Prelude.{Bool, ◌==◌}
use Rattle.std.specs.List.{list_any}
use Rattle.ef_io.specs.declared.calls.Calls.{Calls}
use Rattle.ef_io.specs.Count.{one_more}

-- one more call is made
abbrev pub counted : Calls → Calls
counted calls = record { failing = calls.failing; made = one_more calls.made }

-- the last call is one that is to fail
abbrev pub is_failing : Calls → Bool
is_failing calls = list_any (λ n. n == calls.made) calls.failing.items
