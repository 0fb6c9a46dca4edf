use Rattle.std.proofs.Common.{◌∙◌, ◌++◌, ◌∷◌, [], map, sym, ap, subst}
use Rattle.ef_core.specs.Env.{NamesDiffer, bind, bind_of, held}
use Rattle.ef_core.proofs.Held.{differ_more, held_pushed}
use Rattle.ef_core.proofs.env.Env.push.Goals as goal

pub invariant_of-self-2 : goal.invariant_of-self-2
invariant_of-self-2 c =
    let new = ap (λ bs. held bs c.args.name) c.self.view_is ∙ c.requires in
    let pushed = ap (map bind_of) c.in_ok-insert.ensures.entries ∙ held_pushed c.self.inside.vars c.args.name c.args.var new in
    subst NamesDiffer (sym pushed) (differ_more _ (bind c.args.name c.args.var) c.self.invariant new)

pub returns-clause-ok : goal.returns-clause-ok
returns-clause-ok c =
    let new = ap (λ bs. held bs c.args.name) c.self.view_is ∙ c.requires in
    ap (map bind_of) c.in_ok-insert.ensures.entries ∙ held_pushed c.self.inside.vars c.args.name c.args.var new ∙ ap (λ bs. bs ++ bind c.args.name c.args.var ∷ []) c.self.view_is

pub returns-clause-differ : goal.returns-clause-differ
returns-clause-differ c =
    let new = ap (λ bs. held bs c.args.name) c.self.view_is ∙ c.requires in
    let pushed = ap (map bind_of) c.in_ok-insert.ensures.entries ∙ held_pushed c.self.inside.vars c.args.name c.args.var new in
    subst NamesDiffer (sym pushed) (differ_more _ (bind c.args.name c.args.var) c.self.invariant new)
