use Rattle.std.proofs.Common.{◌≡◌, [], ◌∷◌, length, sym, ap, ◌∙◌, subst, arith}
use Rattle.ef_base.specs.Laws.{extends_same}
use Rattle.ef_core.specs.Everywhere.{Each}
use Rattle.ef_forms.specs.declared.expr.Clause.{Clause, out-Clause}
use Rattle.ef_forms.specs.Built.{AreBuilt, AreNarrow}
use Rattle.ef_forms.specs.OfTable.{TreesOf}
use Rattle.ef_forms.specs.Plain.{plain_all}
use Rattle.ef_forms.specs.Ways.{body_faults}
use Rattle.ef_lower.proofs.Numbered.{numbered_count}
use Rattle.ef_lowmod.proofs.OneClause.{found_clause}
use Rattle.ef_lowmod.proofs.OwnNames.{own_below, own_body, own_faults, own_readable, own_ready}
use Rattle.ef_lowmod.proofs.Ready.{each_number}
use Rattle.ef_meaning.specs.Named.{bound_names}
use Rattle.ef_lowmod.proofs.function.body.Goals as goal

pub own_names-requires : goal.own_names-requires
own_names-requires c =
    subst (λ k. Each (λ (x : Clause). length (out-Clause x).patterns.items ≡ k) c.args.clauses.now) (sym (ap length c.requires.params ∙ numbered_count 0 c.args.fresh.now))
    (each_number c.args.names.now c.args.tables.now.functions.items c.args.fresh.now c.args.clauses.now (c.requires.ready c.args.names.now (extends_same c.args.names.now)))

pub closed_body-requires-clause-some : goal.closed_body-requires-clause-some
closed_body-requires-clause-some c =
    let one = found_clause c.args.clauses.now c.args.params.now c.in_ok-env.field-0 c.in-Some.env c.index-clauses-0.result c.in_ok-env.ensures c.in-Some.is c.index-clauses-0.is in
    let ready = own_ready _ _ _ _ _ _ _ (c.requires.ready c.args.names.now (extends_same c.args.names.now)) c.requires.params one in
    let some = ready.some in let same = ap length (c.deref.ensures.value ∙ ap (λ (x : Clause). (out-Clause x).body.items) (sym c.index-clauses-0.is)) in omega arith

pub closed_body-requires-clause-built : goal.closed_body-requires-clause-built
closed_body-requires-clause-built c =
    let one = found_clause c.args.clauses.now c.args.params.now c.in_ok-env.field-0 c.in-Some.env c.index-clauses-0.result c.in_ok-env.ensures c.in-Some.is c.index-clauses-0.is in
    let ready = own_ready _ _ _ _ _ _ _ (c.requires.ready c.args.names.now (extends_same c.args.names.now)) c.requires.params one in
    subst (λ l. AreBuilt c.args.names.now c.args.tables.now.functions.items (plain_all l)) (sym (c.deref.ensures.value ∙ ap (λ (x : Clause). (out-Clause x).body.items) (sym c.index-clauses-0.is))) ready.built

pub closed_body-requires-clause-narrow : goal.closed_body-requires-clause-narrow
closed_body-requires-clause-narrow c =
    let one = found_clause c.args.clauses.now c.args.params.now c.in_ok-env.field-0 c.in-Some.env c.index-clauses-0.result c.in_ok-env.ensures c.in-Some.is c.index-clauses-0.is in
    let ready = own_ready _ _ _ _ _ _ _ (c.requires.ready c.args.names.now (extends_same c.args.names.now)) c.requires.params one in
    subst (λ l. AreNarrow (plain_all l)) (sym (c.deref.ensures.value ∙ ap (λ (x : Clause). (out-Clause x).body.items) (sym c.index-clauses-0.is))) ready.narrow

pub closed_body-requires-clause-of_table : goal.closed_body-requires-clause-of_table
closed_body-requires-clause-of_table c =
    let one = found_clause c.args.clauses.now c.args.params.now c.in_ok-env.field-0 c.in-Some.env c.index-clauses-0.result c.in_ok-env.ensures c.in-Some.is c.index-clauses-0.is in
    let ready = own_ready _ _ _ _ _ _ _ (c.requires.ready c.args.names.now (extends_same c.args.names.now)) c.requires.params one in
    subst (λ l. TreesOf c.args.names.now (plain_all l)) (sym (c.deref.ensures.value ∙ ap (λ (x : Clause). (out-Clause x).body.items) (sym c.index-clauses-0.is))) ready.of_table

pub closed_body-requires-clause-readable : goal.closed_body-requires-clause-readable
closed_body-requires-clause-readable c =
    let one = found_clause c.args.clauses.now c.args.params.now c.in_ok-env.field-0 c.in-Some.env c.index-clauses-0.result c.in_ok-env.ensures c.in-Some.is c.index-clauses-0.is in
    let enough = c.requires.enough in
    own_readable _ _ _ _ _ _ _ (c.requires.ready c.args.names.now (extends_same c.args.names.now)) c.requires.params one (omega arith)

pub closed_body-requires-clause-no_faults : goal.closed_body-requires-clause-no_faults
closed_body-requires-clause-no_faults c =
    let one = found_clause c.args.clauses.now c.args.params.now c.in_ok-env.field-0 c.in-Some.env c.index-clauses-0.result c.in_ok-env.ensures c.in-Some.is c.index-clauses-0.is in
    subst (λ l. body_faults c.args.names.now (plain_all l) (bound_names c.in-Some.env ∷ []) ≡ []) (sym (c.deref.ensures.value ∙ ap (λ (x : Clause). (out-Clause x).body.items) (sym c.index-clauses-0.is)))
    (own_faults _ _ _ _ _ _ _ (c.requires.ready c.args.names.now (extends_same c.args.names.now)) c.requires.params one)

pub closed_body-requires-clause-below : goal.closed_body-requires-clause-below
closed_body-requires-clause-below c =
    let one = found_clause c.args.clauses.now c.args.params.now c.in_ok-env.field-0 c.in-Some.env c.index-clauses-0.result c.in_ok-env.ensures c.in-Some.is c.index-clauses-0.is in
    own_below _ _ _ _ _ _ _ (c.requires.ready c.args.names.now (extends_same c.args.names.now)) c.requires.params one

pub returns-in-Some-clause-lowered : goal.returns-in-Some-clause-lowered
returns-in-Some-clause-lowered c =
    let one = found_clause c.args.clauses.now c.args.params.now c.in_ok-env.field-0 c.in-Some.env c.index-clauses-0.result c.in_ok-env.ensures c.in-Some.is c.index-clauses-0.is in
    let body = c.in_ok-closed_body.ensures in
    own_body _ _ _ _ _ _ _ (c.requires.ready c.args.names.now (extends_same c.args.names.now)) c.requires.params one _ c.deref.result.now _ body.kept (c.deref.ensures.value ∙ ap (λ (x : Clause). (out-Clause x).body.items) (sym c.index-clauses-0.is)) body.means body.lowered body.in_scope body.shallow
