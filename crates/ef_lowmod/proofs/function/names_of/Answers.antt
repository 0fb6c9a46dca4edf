use Rattle.std.proofs.Common.{sym, ap, ◌∙◌, subst, arith}
use Rattle.ef_core.specs.Env.{NamesDiffer}
use Rattle.ef_forms.specs.Plain.{plain_node}
use Rattle.ef_forms.specs.Tree.{tree}
use Rattle.ef_forms.proofs.Plain.{plain_expr}
use Rattle.ef_forms.proofs.Shapes.{plain_any, plain_var}
use Rattle.ef_lowmod.specs.Parameters.{IsParameter}
use Rattle.ef_lowmod.proofs.Parameters.{name_pushed, none_pushed, parameters_more}
use Rattle.ef_lowmod.proofs.function.names_of.Goals as goal
use Rattle.ef_lowmod.proofs.function.names_of.Goals.{in-Var+in-None+in_ok-push-in-Var, in-Any}

pub loop-place-preserved : goal.loop-place-preserved
loop-place-preserved c =
    let e = c.index-patterns-place.result in
    let small = c.loop-place-test.true in
    let before = c.loop-place.invariant in
    elim c.match-pattern.branch [
      | in-Var+in-None+in_ok-push-in-Var w ↦
          let is = plain_expr e ∙ ap (tree e.place) (ap plain_node w.in-Var.is ∙ plain_var w.in-Var.name) in
          let pushed = w.in_ok-push-in-Var.ensures in (
            parameters_more c.args.patterns.now _ e small c.index-patterns-place.is before.0 (subst IsParameter (sym is) tt),
            w.env-is ∙ name_pushed c.args.patterns.now c.args.params.now _ e e.place w.in-Var.name _ _ _ small c.index-patterns-place.is (omega arith) is before.1 pushed.ok,
            subst NamesDiffer (sym w.env-is) pushed.differ,
          )
      | in-Any w ↦
          let is = plain_expr e ∙ ap (tree e.place) (ap plain_node w.in-Any.is ∙ plain_any) in (
            parameters_more c.args.patterns.now _ e small c.index-patterns-place.is before.0 (subst IsParameter (sym is) tt),
            w.env-is ∙ none_pushed c.args.patterns.now c.args.params.now _ e e.place _ small c.index-patterns-place.is (omega arith) is before.1,
            subst NamesDiffer (sym w.env-is) before.2,
          )
    ]
