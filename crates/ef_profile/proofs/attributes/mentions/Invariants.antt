use Rattle.std.proofs.Common.{◌≡◌, drop}
use Rattle.ef_forms.specs.Shown.{shown}
use Rattle.ef_profile.specs.Unbuilt.{mentions}
use Rattle.ef_profile.proofs.attributes.mentions.Given as goal

abbrev pub invariant-loop-seen : goal.invariant-loop-seen
invariant-loop-seen l = mentions l.names l.word (shown (drop l.seen-index l.nodes)) ≡ mentions l.names l.word (shown l.nodes)
