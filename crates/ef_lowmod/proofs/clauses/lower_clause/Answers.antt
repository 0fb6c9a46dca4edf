use Rattle.std.proofs.Common.{◌≡◌, [], ◌∷◌, refl, sym, ap, ◌∙◌, subst, arith}
use Rattle.ef_core.specs.Env.{NamesDiffer}
use Rattle.ef_core.specs.Everywhere.{Each}
use Rattle.ef_core.specs.Lowered.{IsReadableBind}
use Rattle.ef_forms.specs.declared.expr.Clause.{out-Clause}
use Rattle.ef_forms.specs.Plain.{plain_all}
use Rattle.ef_forms.specs.Ways.{all_names, body_faults}
use Rattle.ef_forms.specs.Weight.{all_weight}
use Rattle.ef_meaning.specs.Named.{bound_names}
use Rattle.ef_lowmod.proofs.OneClause.{below_alone, clause_lowered, names_alone}
use Rattle.ef_lowmod.proofs.Ready.{some_weights}
use Rattle.ef_lowmod.proofs.clauses.lower_clause.Goals as goal

pub head-requires-clause-enough : goal.head-requires-clause-enough
head-requires-clause-enough c =
    let bodies = some_weights (out-Clause c.args.clause.now).body.items c.requires.ready.some in
    let enough = c.requires.enough in
    omega arith

pub env_of-requires : goal.env_of-requires
env_of-requires c = subst NamesDiffer (sym c.deref.ensures.value) c.in_ok-made.ensures.is_pattern.names_differ

pub closed_body-requires-clause-readable : goal.closed_body-requires-clause-readable
closed_body-requires-clause-readable c = subst (Each (IsReadableBind c.args.names.now)) (sym (c.in_ok-env.ensures ∙ c.deref.ensures.value)) c.in_ok-made.ensures.is_pattern.readable_binds

pub closed_body-requires-clause-no_faults : goal.closed_body-requires-clause-no_faults
closed_body-requires-clause-no_faults c =
    let names = names_alone [] c.in_ok-made.made.binds.items c.in_ok-env.env (all_names (plain_all (out-Clause c.args.clause.now).patterns.items)) refl (c.in_ok-env.ensures ∙ c.deref.ensures.value) c.in_ok-made.ensures.is_pattern.names_all in
    subst (λ l. body_faults c.args.names.now (plain_all l) (bound_names c.in_ok-env.env ∷ []) ≡ []) (sym c.deref-2.ensures.value)
    (subst (λ s. body_faults c.args.names.now (plain_all (out-Clause c.args.clause.now).body.items) (s ∷ []) ≡ []) (sym names) c.requires.ready.no_fault)

pub closed_body-requires-clause-below : goal.closed_body-requires-clause-below
closed_body-requires-clause-below c =
    let front = c.in_ok-made.ensures in
    below_alone [] c.in_ok-made.made.binds.items c.in_ok-env.env _ _ refl (c.in_ok-env.ensures ∙ c.deref.ensures.value) front.guard_drawn.0 front.is_pattern.matched.below

pub closed_body-requires-clause-enough : goal.closed_body-requires-clause-enough
closed_body-requires-clause-enough c =
    let same = ap (λ l. all_weight (plain_all l)) c.deref-2.ensures.value in
    let bodies = some_weights (out-Clause c.args.clause.now).body.items c.requires.ready.some in
    let first = c.in_ok-made.ensures.is_pattern.drawn in
    let second = c.in_ok-made.ensures.guard_drawn in
    let enough = c.requires.enough in
    omega arith

pub returns-clause-lowered : goal.returns-clause-lowered
returns-clause-lowered c =
    let front = c.in_ok-made.ensures in
    let pattern = front.is_pattern in
    let guard = front.is_guard in
    let body = c.in_ok-body.ensures in
    clause_lowered c.args.names.now c.closed_body.new.names c.args.tables.now.functions.items c.args.clause.now (out-Clause c.args.clause.now).patterns.items c.deref-2.result.now [] c.in_ok-made.made.binds.items c.in_ok-env.env _ _ _ _ body.kept
    refl c.deref-2.ensures.value refl (c.in_ok-env.ensures ∙ c.deref.ensures.value) c.requires.ready.unguarded c.requires.ready.some
    (record {
      matched = pattern.matched;
      distinct = pattern.distinct;
      binds_in = pattern.binds_in_pattern;
      lefts = pattern.lefts_in_pattern;
      rights = pattern.rights_known;
      lowered = pattern.lowered;
      sizes = pattern.sizes;
      shallow = pattern.shallow;
    })
    (record { gives = guard.gives; lowered = guard.lowered; in_scope = guard.in_scope; shallow = guard.shallow })
    (record { means = body.means; lowered = body.lowered; in_scope = body.in_scope; shallow = body.shallow })

pub returns-clause-drawn : goal.returns-clause-drawn
returns-clause-drawn c =
    let same = ap (λ l. all_weight (plain_all l)) c.deref-2.ensures.value in
    let bodies = some_weights (out-Clause c.args.clause.now).body.items c.requires.ready.some in
    let first = c.in_ok-made.ensures.is_pattern.drawn in
    let second = c.in_ok-made.ensures.guard_drawn in
    let third = c.in_ok-body.ensures.drawn in
    (omega arith, omega arith)
