use Rattle.std.proofs.Common.{ap, map}
use Rattle.ef_core.specs.Layout.{attribute_list}
use Rattle.ef_core.specs.Plain.{plain_attribute}
use Rattle.ef_print.proofs.Lists.{goes_more, goes_end, from_first, named_behind}
use Rattle.ef_print.proofs.Parts.{more_attributes}
use Rattle.ef_print.proofs.Written.{◌▸◌, prints_as}
use Rattle.ef_print.proofs.module.print_attribute_list.Goals as goal

pub print_attribute-so_far-requires-in-loop-attribute-clause-named : goal.print_attribute-so_far-requires-in-loop-attribute-clause-named
print_attribute-so_far-requires-in-loop-attribute-clause-named g c =
    named_behind (more_attributes c.args.names.now) c.args.attributes.now _ _ c.requires.named c.loop-attribute-test.true c.attribute-item.is

pub loop-attribute-preserved : goal.loop-attribute-preserved
loop-attribute-preserved g c =
    goes_more c.loop-attribute.invariant _ c.loop-attribute-test.true c.attribute-item.is
    (c.print_symbol-so_far.ensures.prints ▸ c.print_attribute-so_far-in-loop-attribute.ensures.prints) c.print_attribute-so_far-in-loop-attribute.ensures.is_open

pub returns-after-loop-attribute-clause-prints : goal.returns-after-loop-attribute-clause-prints
returns-after-loop-attribute-clause-prints g c =
    prints_as (ap (λ l. attribute_list c.args.names.now (map plain_attribute l)) (from_first _ _ c.in-len1-up.len_at_least c.first-item.is))
    (c.print_attribute-so_far.ensures.prints ▸ goes_end c.loop-attribute.invariant c.loop-attribute-test.false)
