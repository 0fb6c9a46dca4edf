use Rattle.std.proofs.Common.{◌≡◌, ◌≤◌, ℕ, List, length, string_bytes, sym, ◌∙◌, subst, arith}
use Rattle.std.specs.Str.{IsAscii}
use Rattle.std.proofs.lemmas.Grind.{common_steps}
use Rattle.ef_base.specs.Laws.{extends_same}
use Rattle.ef_base.proofs.Unused.{numbered, numbered_short, numbered_ascii, not_all_held, held_more}
use Rattle.ef_base.proofs.names.unused_text.Goals as goal

pub returns-in_default-clause-short : goal.returns-in_default-clause-short
returns-in_default-clause-short c =
    let is : string_bytes c.in_ok-text.text ≡ numbered c.loop-number.number-counter = c.in_ok-text.ensures.ok in
    subst (λ (t : List ℕ). length t ≤ 40) (sym is) (numbered_short c.loop-number.number-counter (omega arith))

pub returns-in_default-clause-ascii : goal.returns-in_default-clause-ascii
returns-in_default-clause-ascii c =
    let is : string_bytes c.in_ok-text.text ≡ numbered c.loop-number.number-counter = c.in_ok-text.ensures.ok in
    subst IsAscii (sym is) (numbered_ascii c.loop-number.number-counter (omega arith))

pub loop-number-preserved : goal.loop-number-preserved
loop-number-preserved c =
    let is : c.deref.result.now ≡ numbered c.loop-number.number-counter = c.deref.ensures ∙ c.in_ok-text.ensures.ok in
    held_more c.args.names.now c.len-count.result c.loop-number.number-counter c.in-Some.field-0 c.deref.result.now is
    (c.in-Some.ensures.found c.args.names.now (extends_same c.args.names.now)) c.loop-number.invariant

pub unreachable-requires : goal.unreachable-requires
unreachable-requires c =
    not_all_held c.args.names.now c.len-count.result (grind (arith, common_steps)) c.len-count.ensures.small (λ k low high. c.loop-number.invariant k low (omega arith))
