use Rattle.std.proofs.Common.{arith, rules, ◌≡◌, ◌<◌, true, get_or, length, sym, subst, ◌∙◌}
use Rattle.ef_scan.specs.Cursors.{is_plain_of}
use Rattle.ef_base.proofs.Fronts.{each_take_more}
use Rattle.ef_scan.proofs.class.Class.plain_width.Goals as goal

pub loop-byte-preserved : goal.loop-byte-preserved
loop-byte-preserved c =
    let within : c.loop-byte.width < length c.args.bytes.now = search rules in
    let same : c.in-Some.byte.now ≡ get_or c.args.bytes.now c.loop-byte.width 0 = search rules in
    let yes : c.has_plain.result ≡ true = search rules in (
      omega arith,
      each_take_more (is_plain_of c.args.self) c.args.bytes.now c.loop-byte.width within c.loop-byte.invariant.1
          (subst (λ b. is_plain_of c.args.self b ≡ true) same (sym c.has_plain.ensures ∙ yes)),
    )
