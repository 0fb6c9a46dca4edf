use Rattle.std.proofs.Common.{sym, ◌∙◌}
use Rattle.ef_lower.proofs.Names.{is_held}
use Rattle.ef_lower.proofs.nodes.variable.Goals as goal

pub unreachable-requires : goal.unreachable-requires
unreachable-requires c = is_held c.args.env.now c.args.name c.requires (sym c.var_of.ensures ∙ c.in_default.is)
