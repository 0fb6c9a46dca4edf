use Rattle.std.proofs.Common.{◌∙◌, sym, ap}
use Rattle.ef_core.specs.Env.{held}
use Rattle.ef_core.proofs.Held.{held_looked_up}
use Rattle.ef_core.proofs.env.Env.var_of.Goals as goal

pub returns : goal.returns
returns c = c.copied.ensures ∙ c.get.ensures.value ∙ sym (held_looked_up c.self.inside.vars.entries c.args.name) ∙ ap (λ bs. held bs c.args.name) c.self.view_is
