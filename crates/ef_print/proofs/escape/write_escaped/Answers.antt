use Rattle.std.proofs.Common.{◌≡◌, ◌∙◌, ◌++◌, ap, append-nil, sym}
use Rattle.std.specs.Prelude.{flat_map}
use Rattle.std.specs.Str.{chars}
use Rattle.ef_core.specs.Pieces.{escaped}
use Rattle.ef_print.proofs.Written.{appends_as, appends_then}
use Rattle.ef_print.proofs.escape.write_escaped.Goals as goal

pub loop-step-preserved : goal.loop-step-preserved
loop-step-preserved g c =
    let held = c.loop-step.invariant in
    let some = c.in-Some.ensures.some in
    let whole : flat_map escaped (chars c.loop-step.rest.now) ≡ c.as_bytes.result.now ++ (escaped c.in-Some.step.0 ++ flat_map escaped (chars c.in-Some.step.1.now)) =
    c.split_plain-parts.ensures.written ∙ ap (λ cs. c.split_plain-parts.result.0.now ++ flat_map escaped cs) some.0
    ∙ ap (λ t. t ++ (escaped c.in-Some.step.0 ++ flat_map escaped (chars c.in-Some.step.1.now))) (sym c.as_bytes.ensures.value) in (
      some.2,
      c.write_char-so_far.ensures.is_open,
      λ new now rest. held.2 new now (appends_as _ _ _ _ _ _ (sym whole)
          (appends_then _ _ _ _ _ _ _ _ c.write-so_far.ensures.appends (appends_then _ _ _ _ _ _ _ _ c.write_char-so_far.ensures.appends rest))),
    )

pub returns-in_default-clause-appends : goal.returns-in_default-clause-appends
returns-in_default-clause-appends g c =
    let none = c.in_default.ensures.none in
    let whole : flat_map escaped (chars c.loop-step.rest.now) ≡ c.as_bytes.result.now =
    c.split_plain-parts.ensures.written ∙ ap (λ cs. c.split_plain-parts.result.0.now ++ flat_map escaped cs) none ∙ append-nil c.split_plain-parts.result.0.now
    ∙ sym c.as_bytes.ensures.value in
    c.loop-step.invariant.2 _ _ (appends_as _ _ _ _ _ _ (sym whole) c.write-so_far.ensures.appends)
