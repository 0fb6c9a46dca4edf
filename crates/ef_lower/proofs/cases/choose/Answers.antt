use Rattle.std.proofs.Common.{◌≡◌, ◌<◌, None, ap, ◌∙◌, sym, subst, length, map, arith}
use Rattle.ef_core.specs.Env.{NamesDiffer, held}
use Rattle.ef_core.specs.Everywhere.{Each}
use Rattle.ef_core.specs.Fresh.{most_variables}
use Rattle.ef_lower.specs.Arms.{plain_arm, shared}
use Rattle.ef_lower.proofs.Chosen.{makes_case}
use Rattle.ef_lower.proofs.LoweredArms.{each_map}
use Rattle.ef_lower.proofs.Shared.{shared_differ, shared_new}
use Rattle.ef_lower.proofs.cases.choose.Goals as goal

pub choice_of-requires-clause-shared : goal.choice_of-requires-clause-shared
choice_of-requires-clause-shared c = c.deref-2.ensures.value ∙ c.in_ok-shared.ensures ∙ ap (λ l. shared (map plain_arm l)) c.deref.ensures.value

pub choice_of-requires-clause-room : goal.choice_of-requires-clause-room
choice_of-requires-clause-room c = each_map plain_arm (λ a. a.drawn < most_variables) c.args.arms.items c.requires.arms.room

pub leave_names-requires-clause-differ : goal.leave_names-requires-clause-differ
leave_names-requires-clause-differ c =
    let same = c.deref-3.ensures.value ∙ c.in_ok-shared.ensures ∙ ap (λ l. shared (map plain_arm l)) c.deref.ensures.value in
    subst NamesDiffer (sym same) (shared_differ _ c.requires.arms.differ)

pub leave_names-requires-clause-new : goal.leave_names-requires-clause-new
leave_names-requires-clause-new c =
    let same = c.deref-3.ensures.value ∙ c.in_ok-shared.ensures ∙ ap (λ l. shared (map plain_arm l)) c.deref.ensures.value in
    subst (Each (λ b. held c.args.env.now b.name ≡ None)) (sym same) (shared_new c.args.env.now _ c.requires.arms.new)

pub leave_names-requires-clause-enough : goal.leave_names-requires-clause-enough
leave_names-requires-clause-enough c =
    let same = ap length (c.deref-3.ensures.value ∙ c.in_ok-shared.ensures ∙ ap (λ l. shared (map plain_arm l)) c.deref.ensures.value) in
    let lasts = c.in_ok-choice.ensures.is_last.enough in
    let room = c.requires.arms.enough in
    omega arith

pub returns : goal.returns
returns c =
    let same = c.deref-3.ensures.value ∙ c.in_ok-shared.ensures ∙ ap (λ l. shared (map plain_arm l)) c.deref.ensures.value in
    makes_case c.deref-3.result.now same c.in_ok-choice.ensures c.in_ok-leave_names.ensures
