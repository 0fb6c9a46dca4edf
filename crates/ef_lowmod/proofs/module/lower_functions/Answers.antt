use Rattle.ef_base.specs.Laws.{extends_later}
use Rattle.ef_lowmod.specs.Function.{IsReadyFunction, function_words}
use Rattle.ef_lowmod.proofs.Lowered.{has_earlier}
use Rattle.ef_lowmod.proofs.Modules.{form_at, form_lowered}
use Rattle.ef_lowmod.proofs.Means.{form_keeps}
use Rattle.ef_lowmod.proofs.Ready.{words_later}
use Rattle.ef_lowmod.proofs.module.lower_functions.Goals as goal

pub lower_form-requires : goal.lower_form-requires
lower_form-requires c = record {
  words = words_later _ _ function_words c.loop-placed.invariant.kept c.requires.words;
  ready = λ all later. form_at (IsReadyFunction all c.args.tables.now.functions.items) c.args.forms.now _ _ (c.requires.ready all (extends_later c.loop-placed.invariant.kept later)) c.loop-placed-test.true c.placed-item.is;
}

pub returns-in_err-lower_form-clause-kept : goal.returns-in_err-lower_form-clause-kept
returns-in_err-lower_form-clause-kept c = extends_later c.loop-placed.invariant.kept c.in_err-lower_form.ensures.kept

pub returns-in_err-lower_form-clause-differ : goal.returns-in_err-lower_form-clause-differ
returns-in_err-lower_form-clause-differ c = λ given. c.in_err-lower_form.ensures.differ (c.loop-placed.invariant.differ given)

pub returns-in_err-lower_form-clause-utf8 : goal.returns-in_err-lower_form-clause-utf8
returns-in_err-lower_form-clause-utf8 c = λ given. c.in_err-lower_form.ensures.utf8 (c.loop-placed.invariant.utf8 given)

pub loop-placed-preserved : goal.loop-placed-preserved
loop-placed-preserved c =
    let before = c.loop-placed.invariant in
    let one = c.in_ok-lower_form.ensures in
    record {
      kept = extends_later before.kept one.kept;
      differ = λ given. one.differ (before.differ given);
      utf8 = λ given. one.utf8 (before.utf8 given);
      lowered = λ fs functions.
          let had = has_earlier _ _ one.kept _ fs functions in
          form_lowered _ _ fs c.args.forms.now _ _ _ _ one.kept (before.lowered fs had) c.loop-placed-test.true c.placed-item.is (one.lowered fs functions);
      means = form_keeps _ _ c.args.forms.now _ _ _ _ one.kept before.means c.loop-placed-test.true c.placed-item.is one.means;
    }
