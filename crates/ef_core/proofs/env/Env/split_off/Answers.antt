use Rattle.std.proofs.Common.{◌≡◌, drop, map, sym, ap, ◌∙◌, subst, take}
use Rattle.std.proofs.lemmas.List.{drop-map, take-map}
use Rattle.ef_core.specs.Env.{NamesDiffer, bind_of}
use Rattle.ef_core.proofs.Held.{differ_dropped, differ_taken}
use Rattle.ef_core.proofs.env.Env.split_off.Goals as goal

pub invariant_of-result : goal.invariant_of-result
invariant_of-result c =
    let is = ap (map bind_of) c.in_ok-vars.ensures.tail ∙ sym (drop-map bind_of c.args.start c.self.inside.vars.entries) in
    subst NamesDiffer (sym is) (differ_dropped c.args.start _ c.self.invariant)

pub invariant_of-self-2 : goal.invariant_of-self-2
invariant_of-self-2 c =
    let is = ap (map bind_of) c.in_ok-vars.ensures.kept ∙ sym (take-map bind_of c.args.start c.self.inside.vars.entries) in
    subst NamesDiffer (sym is) (differ_taken c.args.start _ c.self.invariant)

pub returns-clause-kept : goal.returns-clause-kept
returns-clause-kept c = ap (map bind_of) c.in_ok-vars.ensures.kept ∙ sym (take-map bind_of c.args.start c.self.inside.vars.entries) ∙ ap (take c.args.start) c.self.view_is

pub returns-clause-tail : goal.returns-clause-tail
returns-clause-tail c = ap (map bind_of) c.in_ok-vars.ensures.tail ∙ sym (drop-map bind_of c.args.start c.self.inside.vars.entries) ∙ ap (drop c.args.start) c.self.view_is

pub returns-clause-differ : goal.returns-clause-differ
returns-clause-differ c =
    let is = ap (map bind_of) c.in_ok-vars.ensures.kept ∙ sym (take-map bind_of c.args.start c.self.inside.vars.entries) in
    subst NamesDiffer (sym is) (differ_taken c.args.start _ c.self.invariant)

pub returns-clause-tail_differs : goal.returns-clause-tail_differs
returns-clause-tail_differs c =
    let is = ap (map bind_of) c.in_ok-vars.ensures.tail ∙ sym (drop-map bind_of c.args.start c.self.inside.vars.entries) in
    subst NamesDiffer (sym is) (differ_dropped c.args.start _ c.self.invariant)
