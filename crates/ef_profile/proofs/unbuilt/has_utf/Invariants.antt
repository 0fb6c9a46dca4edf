use Rattle.std.proofs.Common.{◌≡◌, drop}
use Rattle.std.specs.List.{list_any}
use Rattle.ef_profile.specs.Unbuilt.{is_utf}
use Rattle.ef_profile.proofs.unbuilt.has_utf.Given as goal

abbrev pub invariant-loop-word : goal.invariant-loop-word
invariant-loop-word l = list_any (is_utf l.names) (drop l.word-index l.types) ≡ list_any (is_utf l.names) l.types
