use Rattle.std.proofs.Common.{[], ◌∷◌, map, sym, ap, ◌∙◌, subst, arith}
use Rattle.std.proofs.lemmas.List.{map-append}
use Rattle.ef_base.specs.Laws.{extends_later}
use Rattle.ef_core.specs.Plain.{plain_clause}
use Rattle.ef_core.proofs.Lists.{drop_at}
use Rattle.ef_forms.specs.Plain.{plain_clauses}
use Rattle.ef_forms.specs.Weight.{clauses_weight}
use Rattle.ef_lowmod.specs.Clauses.{AreLoweredClauses, IsReadyClause}
use Rattle.ef_lowmod.specs.Function.{function_words}
use Rattle.ef_lowmod.proofs.Cases.{clauses_more}
use Rattle.ef_lowmod.proofs.Ready.{each_at, words_later}
use Rattle.ef_lowmod.proofs.clauses.lower_clauses.Goals as goal

pub lower_clause-requires-clause-words : goal.lower_clause-requires-clause-words
lower_clause-requires-clause-words c = words_later _ _ function_words c.loop-clause.invariant.kept c.requires.words

pub lower_clause-requires-clause-ready : goal.lower_clause-requires-clause-ready
lower_clause-requires-clause-ready c =
    each_at (IsReadyClause c.loop-clause.names c.args.tables.now.functions.items) c.args.clauses.now _ _ (c.requires.ready c.loop-clause.names c.loop-clause.invariant.kept) c.loop-clause-test.true c.clause-item.is

pub returns-in_err-lower_clause-clause-differ : goal.returns-in_err-lower_clause-clause-differ
returns-in_err-lower_clause-clause-differ c = λ given. c.lower_clause.ensures.differ (c.loop-clause.invariant.differ given)

pub returns-in_err-push-clause-differ : goal.returns-in_err-push-clause-differ
returns-in_err-push-clause-differ c = λ given. c.in_ok-lower_clause.ensures.differ (c.loop-clause.invariant.differ given)

pub loop-clause-preserved : goal.loop-clause-preserved
loop-clause-preserved c =
    let before = c.loop-clause.invariant in
    let one = c.in_ok-lower_clause.ensures in
    let clause = c.clause-item.result in
    let i = c.loop-clause.clause-index in
    let more = clauses_more _ c.lower_clause.new.names c.args.tables.now.functions.items c.args.clauses.now i clause _ _ one.kept before.lowered c.loop-clause-test.true c.clause-item.is one.lowered in
    record {
      kept = extends_later before.kept one.kept;
      differ = λ given. one.differ (before.differ given);
      utf8 = λ given. one.utf8 (before.utf8 given);
      lowered = subst (AreLoweredClauses c.lower_clause.new.names c.args.tables.now.functions.items _) (sym (ap (map plain_clause) c.in_ok-push.ensures.items ∙ map-append plain_clause c.loop-clause.made.items (c.in_ok-lower_clause.field-0 ∷ []))) more;
      drawn = let here = one.drawn.0 in let so_far = before.drawn in omega arith;
      left =
          let next = ap (λ cs. clauses_weight (plain_clauses cs)) (drop_at c.args.clauses.now i clause c.loop-clause-test.true c.clause-item.is) in
          let here = one.drawn.1 in
          let so_far = before.left in
          omega arith;
    }
