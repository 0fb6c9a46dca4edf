use Rattle.std.proofs.Common.{refl, sym, subst, map, arith}
use Rattle.ef_core.specs.Everywhere.{Each}
use Rattle.ef_core.specs.Plain as core
use Rattle.ef_lower.specs.Arms.{BindsAll, FinishesAll, plain_arm, shared}
use Rattle.ef_lower.proofs.Chosen.{chosen}
use Rattle.ef_lower.proofs.LoweredArms.{each_map}
use Rattle.ef_lower.proofs.Shared.{shared_bound}
use Rattle.ef_lower.proofs.cases.clauses_of.Goals as goal

pub finish_arms-requires-clause-bound : goal.finish_arms-requires-clause-bound
finish_arms-requires-clause-bound c =
    subst (λ l. Each (λ a. BindsAll (plain_arm a).binds l) c.args.arms.items) (sym c.requires.shared)
    (each_map plain_arm (λ a. BindsAll a.binds (shared (map plain_arm c.args.arms.items))) c.args.arms.items (shared_bound (map plain_arm c.args.arms.items)))

pub returns : goal.returns
returns c =
    let arms = map plain_arm c.args.arms.items in
    let made = map core.plain_clause c.in_ok-clauses.clauses.items in
    let lasts = c.in_ok-last.ensures.enough in
    let room = c.requires.enough in
    λ x. chosen c.in_ok-last.last c.in_ok-clauses.clauses.items c.push.new.self.items c.in_ok-last.ensures (omega arith)
    (subst (λ l. FinishesAll l arms made) c.requires.shared c.in_ok-clauses.ensures) c.in_ok-push.ensures.items refl
