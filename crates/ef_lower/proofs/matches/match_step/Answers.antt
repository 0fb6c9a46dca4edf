use Rattle.std.proofs.Common.{◌≡◌, ◌+◌, ◌++◌, None, ap, ◌∙◌, sym, subst, length, arith}
use Rattle.ef_core.specs.Env.{NamesDiffer, held}
use Rattle.ef_core.specs.Everywhere.{Each}
use Rattle.ef_core.specs.Fresh.{most_variables}
use Rattle.ef_core.specs.Plain as core
use Rattle.ef_forms.specs.Plain.{plain, plain_all}
use Rattle.ef_meaning.specs.Cases.{names_of}
use Rattle.ef_meaning.specs.Lowers.{env_from, params_from}
use Rattle.ef_lower.specs.Matches.{IsFrontOf}
use Rattle.ef_lower.proofs.Stepped.{step_enough}
use Rattle.ef_lower.proofs.matches.match_step.Goals as goal

pub rename-requires-clause-differ : goal.rename-requires-clause-differ
rename-requires-clause-differ c = subst NamesDiffer (sym c.deref.ensures.value) c.in_ok-made.ensures.is_pattern.names_differ

pub rename-requires-clause-new : goal.rename-requires-clause-new
rename-requires-clause-new c = subst (Each (λ b. held c.args.env.now b.name ≡ None)) (sym c.deref.ensures.value) c.in_ok-made.ensures.is_pattern.names_new

pub rename-requires-clause-enough : goal.rename-requires-clause-enough
rename-requires-clause-enough c =
    let made = c.in_ok-made.made in
    let front = subst (λ l. IsFrontOf c.args.names.now (plain_all l) c.args.fresh.now c.args.env.now c.binding_front.new.fresh (core.plain_pats made.front.pats.items) (core.plain made.front.guard) made.binds.items) c.from_ref.ensures.value c.in_ok-made.ensures in
    let binds = ap length c.deref.ensures.value in
    let enough = step_enough c.args.names.now (plain c.args.pat.now) _ _ _ _ _ _ front.is_pattern _ _ most_variables _ c.requires.enough front.guard_drawn c.in-Ok.ensures in
    omega arith

pub returns-in_ok-value-in-Ok-rename : goal.returns-in_ok-value-in-Ok-rename
returns-in_ok-value-in-Ok-rename c =
    let made = c.in_ok-made.made in
    let front = subst (λ l. IsFrontOf c.args.names.now (plain_all l) c.args.fresh.now c.args.env.now c.binding_front.new.fresh (core.plain_pats made.front.pats.items) (core.plain made.front.guard) made.binds.items) c.from_ref.ensures.value c.in_ok-made.ensures in
    let first = c.last_clause.new.fresh in
    let renamed = c.deref.ensures.value in
    let enough = step_enough c.args.names.now (plain c.args.pat.now) _ _ _ _ _ _ front.is_pattern _ _ most_variables _ c.requires.enough front.guard_drawn c.in-Ok.ensures in
    let drawn : c.rename.new.fresh ≡ first + length made.binds.items = c.in-Ok-rename.ensures.drawn ∙ ap (λ l. first + length l) renamed in
    record {
      made = core.plain_pats made.front.pats.items;
      tests = front.tests;
      binds = made.binds.items;
      guard = core.plain made.front.guard;
      last = core.plain_clause c.in-Ok.last;
      matched = front.matched;
      guarded = c.binding_front.new.fresh;
      first = first;
      is_pattern = front.is_pattern;
      is_guard = front.is_guard;
      guard_drawn = front.guard_drawn;
      is_last = c.in-Ok.ensures;
      drawn = drawn;
      in_range = omega arith;
      bound = c.in-Ok-rename.ensures.bound ∙ ap (λ l. c.args.env.now ++ env_from first (names_of l)) renamed;
      is =
          let vars = c.in-Ok-rename.ensures.vars ∙ ap (λ l. l ++ params_from first (names_of c.deref.result.now)) c.new-vars.ensures.items ∙ ap (λ l. params_from first (names_of l)) renamed in
          let value = c.in_ok-value-in-Ok-rename.ensures in
          λ i. record { vars = vars i; value = value i };
    }
