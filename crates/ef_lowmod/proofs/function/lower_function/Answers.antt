use Rattle.std.proofs.Common.{◌≡◌, ◌+◌, length, refl, sym, ap, ◌∙◌, subst, arith}
use Rattle.ef_base.specs.Laws.{extends_same, has_later}
use Rattle.ef_core.proofs.HoldsLaws.{each_same}
use Rattle.ef_core.specs.Everywhere.{Each}
use Rattle.ef_core.specs.Fresh.{variables_from}
use Rattle.ef_core.specs.OfTable.{VarOf}
use Rattle.ef_core.specs.Plain.{plain}
use Rattle.ef_core.specs.Readable.{readable}
use Rattle.ef_forms.specs.Plain.{plain_clauses}
use Rattle.ef_lower.proofs.Numbered.{numbered_count, numbered_readable}
use Rattle.ef_lowmod.specs.Clauses.{AreReadyClauses, IsLoweredBody}
use Rattle.ef_lowmod.proofs.Lowered.{lowered_of_table}
use Rattle.ef_lowmod.proofs.Ready.{sizes}
use Rattle.ef_lowmod.proofs.function.lower_function.Goals as goal

pub body-requires-clause-ready : goal.body-requires-clause-ready
body-requires-clause-ready c = λ all later.
    let drawn = c.in_ok-params.ensures.drawn ∙ ap (λ n. n + c.args.function.now.arity) c.new-fresh.ensures in
    let number : c.args.function.now.arity ≡ c.draw_variables.new.fresh = omega arith in
    subst (λ n. AreReadyClauses all c.args.tables.now.functions.items n (plain_clauses c.deref.result.now)) number
    (subst (λ cs. AreReadyClauses all c.args.tables.now.functions.items c.args.function.now.arity (plain_clauses cs)) (sym c.deref.ensures.value) (c.requires.ready all later).clauses)

pub returns-clause-lowered : goal.returns-clause-lowered
returns-clause-lowered c = λ fs has.
    let now = c.body.new.names in
    let defined = c.args.tables.now.functions.items in
    let function = c.args.function.now in
    let ready = c.requires.ready c.args.names.now (extends_same c.args.names.now) in
    let few = (sizes c.args.names.now defined function.arity (plain_clauses function.clauses.items) ready.some ready.clauses).few in
    let params = c.in_ok-params.ensures.variables ∙ ap (λ n. variables_from n function.arity) c.new-fresh.ensures in
    let whole = subst (λ ps. IsLoweredBody now defined (plain_clauses function.clauses.items) ps (plain c.in_ok-body.body)) c.deref-2.ensures.value
    (subst (λ cs. IsLoweredBody now defined (plain_clauses cs) c.deref-2.result.now (plain c.in_ok-body.body)) c.deref.ensures.value c.in_ok-body.ensures.lowered) in
    record {
      name = refl;
      parameters = params;
      matches = (ap length params ∙ numbered_count 0 function.arity, omega arith);
      body = whole.lowered;
      in_scope = whole.in_scope fs has;
      shallow = whole.shallow;
      of_table = (
        has_later _ _ _ ready.name c.in_ok-body.ensures.kept,
        (each_same (readable now).variable (VarOf now) (λ v here. here.1.1) _ (subst (Each (readable now).variable) (sym params) (numbered_readable now 0 function.arity (omega arith))), lowered_of_table now _ whole.lowered),
      );
    }

pub returns-clause-means : goal.returns-clause-means
returns-clause-means c =
    let now = c.body.new.names in
    let defined = c.args.tables.now.functions.items in
    let function = c.args.function.now in
    let whole = subst (λ ps. IsLoweredBody now defined (plain_clauses function.clauses.items) ps (plain c.in_ok-body.body)) c.deref-2.ensures.value
    (subst (λ cs. IsLoweredBody now defined (plain_clauses cs) c.deref-2.result.now (plain c.in_ok-body.body)) c.deref.ensures.value c.in_ok-body.ensures.lowered) in
    record {
      name = refl;
      arity = refl;
      parameters = ap length c.in_ok-params.ensures.variables ∙ numbered_count c.new-fresh.result function.arity;
      keeps = whole.keeps;
    }
