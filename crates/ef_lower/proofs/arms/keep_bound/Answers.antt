use Rattle.std.proofs.Common.{rules}
use Rattle.std.specs.Prelude.{is_some}
use Rattle.std.proofs.lemmas.Fn.{filter_same}
use Rattle.ef_core.specs.Env.{held}
use Rattle.ef_lower.proofs.arms.keep_bound.Goals as goal

pub returns : goal.returns
returns c = filter_same _ (λ b. is_some (held c.args.env.now b.name)) _ (λ x b f' k. search rules) _ _ c.retain.ensures.filtered
