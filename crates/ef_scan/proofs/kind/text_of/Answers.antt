use Rattle.std.proofs.Common.{arith}
use Rattle.std.specs.Prelude.{string_bytes}
use Rattle.std.proofs.lemmas.List.{get_or_read}
use Rattle.ef_scan.proofs.Holding.{text_more}
use Rattle.ef_scan.proofs.kind.text_of.Goals as goal

pub loop-c-preserved : goal.loop-c-preserved
loop-c-preserved c =
    text_more (string_bytes c.loop-c.text) (string_bytes c.push.new.self) c.args.found.now c.loop-c.c-index c.c-item.result (omega arith)
    (get_or_read c.args.found.now _ _ (omega arith) c.c-item.is 0) c.loop-c.invariant c.in_ok-push.ensures.bytes
