use Rattle.std.proofs.Common.{rules, subst, take, sym, ◌∙◌, ◌++◌}
use Rattle.std.specs.Prelude.{chars, flat_map}
use Rattle.ef_base.specs.Characters.{Each}
use Rattle.ef_base.specs.Escaped.{escaped, is_plain}
use Rattle.ef_base.proofs.Fronts.{boundary, plain_small, cut_written}
use Rattle.ef_base.proofs.front.split_plain.Goals as goal

pub split_at-requires : goal.split_at-requires
split_at-requires c =
    boundary (is_plain c.args.quote) (plain_small c.args.quote) c.args.text.now c.plain_width-width.result c.utf8.text (search rules)
    (subst (λ t. Each (is_plain c.args.quote) (take c.plain_width-width.result t)) c.as_bytes.ensures.value c.plain_width-width.ensures.each)

pub returns-clause-written : goal.returns-clause-written
returns-clause-written c =
    cut_written c.args.quote c.args.text.now c.plain_width-width.result c.utf8.text
    (subst (λ t. Each (is_plain c.args.quote) (take c.plain_width-width.result t)) c.as_bytes.ensures.value c.plain_width-width.ensures.each)
    ∙ (λ i. sym c.split_at.ensures.front i ++ flat_map (escaped c.args.quote) (chars (sym c.split_at.ensures.back i)))
