use Rattle.std.proofs.Common.{◌≡◌, List, take, map}
use Rattle.ef_core.specs.Plain as core
use Rattle.ef_core.specs.Tree.{CoreTree}
use Rattle.ef_forms.specs.Plain.{plain, plain_clause}
use Rattle.ef_lower.specs.Arms.{AreArms, plain_arm}
use Rattle.ef_lower.specs.Lowers.{Adds, LowersAll}
use Rattle.ef_lower.specs.Ready.{bound_names}
use Rattle.ef_lower.proofs.Source.{IsLeft}
use Rattle.ef_lower.proofs.append.+append.Given as goal

abbrev pub invariant-append_all-loop-expr : goal.invariant-append_all-loop-expr
invariant-append_all-loop-expr l =
    Adds (map core.plain_step l.fn.steps.items) (map core.plain_step l.steps.items) (λ added.
    LowersAll l.names l.tables.functions.items (map plain (take l.expr-index l.exprs)) l.fn.fresh l.fn.env added l.fresh l.env (map core.plain l.values.items))

abbrev pub invariant-append_body-loop-expr : goal.invariant-append_body-loop-expr
invariant-append_body-loop-expr l = record {
  left : IsLeft l.names l.tables.functions.items l.exprs l.expr-index (bound_names l.env);
  lowered : (values : List CoreTree) × Adds (map core.plain_step l.fn.steps.items) (map core.plain_step l.steps.items) (λ added.
      LowersAll l.names l.tables.functions.items (map plain (take l.expr-index l.exprs)) l.fn.fresh l.fn.env added l.fresh l.env values);
}

abbrev pub invariant-arms-loop-clause : goal.invariant-arms-loop-clause
invariant-arms-loop-clause l = record {
  same : l.env ≡ l.fn.env;
  lowered : AreArms l.names l.tables.functions.items l.fresh l.fn.env (map plain_clause (take l.clause-index l.clauses)) (map plain_arm l.arms.items);
}
