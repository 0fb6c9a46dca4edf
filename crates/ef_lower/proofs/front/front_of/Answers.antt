use Rattle.std.proofs.Common.{◌≡◌, ◌++◌, None, ap, ◌∙◌, sym, subst}
use Rattle.ef_core.specs.Env.{NamesDiffer, held}
use Rattle.ef_core.specs.Everywhere.{Each}
use Rattle.ef_core.specs.Plain.{plain, plain_pats}
use Rattle.ef_forms.specs.Plain as source
use Rattle.ef_lower.specs.Matches.{IsFrontOf}
use Rattle.ef_lower.proofs.front.front_of.Goals as goal

pub bind_all-requires-clause-differ : goal.bind_all-requires-clause-differ
bind_all-requires-clause-differ c = subst NamesDiffer (sym c.deref-2.ensures.value) c.in_ok-made.ensures.is_pattern.names_differ

pub bind_all-requires-clause-new : goal.bind_all-requires-clause-new
bind_all-requires-clause-new c = subst (Each (λ b. held c.args.env.now b.name ≡ None)) (sym c.deref-2.ensures.value) c.in_ok-made.ensures.is_pattern.names_new

pub returns : goal.returns
returns c =
    let made = c.in_ok-made.made in
    record {
      binds = made.binds.items;
      bound = c.in_ok-bind_all.ensures ∙ ap (λ l. c.args.env.now ++ l) c.deref-2.ensures.value;
      parts = subst (λ l. IsFrontOf c.args.names.now (source.plain_all l) c.args.fresh.now c.args.env.now c.binding_front.new.fresh (plain_pats made.front.pats.items) (plain made.front.guard) made.binds.items) c.deref.ensures.value c.in_ok-made.ensures;
    }
