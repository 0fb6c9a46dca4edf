use Rattle.std.proofs.Common.{arith}
use Rattle.ef_base.specs.Laws.{extends_later, extends_same}
use Rattle.ef_base.proofs.Tables.{texts_more, texts_of}
use Rattle.ef_base.proofs.names.Names.intern_all.Goals as goal

pub loop-text-preserved : goal.loop-text-preserved
loop-text-preserved c =
    let now = c.loop-text.self in
    let all = c.intern.new.self in
    record {
      held = texts_more now all c.args.texts.now c.loop-text.text-index c.in_ok-intern.field-0 _ c.loop-text-test.true c.in_ok-intern.ensures.kept (c.in_ok-intern.ensures.named all (extends_same all)) c.loop-text.invariant.held;
      kept = extends_later c.loop-text.invariant.kept c.in_ok-intern.ensures.kept;
      differ = c.in_ok-intern.ensures.differ;
      utf8 = c.in_ok-intern.ensures.utf8;
    }

pub returns-clause-held : goal.returns-clause-held
returns-clause-held c = texts_of c.loop-text.self c.args.texts.now (λ k d within. c.loop-text.invariant.held k d (omega arith))
