use Rattle.std.proofs.Common.{◌++◌}
use Rattle.ef_base.specs.Laws.{extends_same}
use Rattle.ef_module.specs.Modules.{lists}
use Rattle.ef_front.specs.LeftOut.{left_out_faults}
use Rattle.ef_front.specs.Source.{faults_in, tokens_in}
use Rattle.ef_front.proofs.Chain.{if_ok, none_differ, parted, parted_ends, parted_named, text_compiled}
use Rattle.ef_front.proofs.source.compile_text.Goals as goal

pub compile_forms-requires-clause-ends : goal.compile_forms-requires-clause-ends
compile_forms-requires-clause-ends c =
    let names = c.scan.new.names in
    parted_ends names c.args.source.now c.split.new.found (lists c.in_ok-kept.kept.items)
    (parted names c.args.source.now c.in_ok-scanned.scanned.items c.in_ok-taken.taken.faults c.split.new.found (lists c.in_ok-taken.taken.forms.items) (lists c.in_ok-kept.kept.items)
    (c.in_ok-scanned.ensures.forms names (extends_same names)) c.in_ok-taken.ensures c.in_ok-kept.ensures)

pub compile_forms-requires-clause-named : goal.compile_forms-requires-clause-named
compile_forms-requires-clause-named c =
    let names = c.scan.new.names in
    parted_named names c.args.source.now c.split.new.found (lists c.in_ok-kept.kept.items)
    (parted names c.args.source.now c.in_ok-scanned.scanned.items c.in_ok-taken.taken.faults c.split.new.found (lists c.in_ok-taken.taken.forms.items) (lists c.in_ok-kept.kept.items)
    (c.in_ok-scanned.ensures.forms names (extends_same names)) c.in_ok-taken.ensures c.in_ok-kept.ensures)

pub compile_forms-requires-clause-set : goal.compile_forms-requires-clause-set
compile_forms-requires-clause-set c =
    let names = c.scan.new.names in
    let is = parted names c.args.source.now c.in_ok-scanned.scanned.items c.in_ok-taken.taken.faults c.split.new.found (lists c.in_ok-taken.taken.forms.items) (lists c.in_ok-kept.kept.items)
    (c.in_ok-scanned.ensures.forms names (extends_same names)) c.in_ok-taken.ensures c.in_ok-kept.ensures in
    (faults_in is.all_forms ++ left_out_faults names (tokens_in is.all_forms), is.finds)

pub returns : goal.returns
returns c =
    let names = c.scan.new.names in
    let is = parted names c.args.source.now c.in_ok-scanned.scanned.items c.in_ok-taken.taken.faults c.split.new.found (lists c.in_ok-taken.taken.forms.items) (lists c.in_ok-kept.kept.items)
    (c.in_ok-scanned.ensures.forms names (extends_same names)) c.in_ok-taken.ensures c.in_ok-kept.ensures in
    let differ = c.in_ok-scanned.ensures.differ (none_differ c.new-names.result c.new-names.ensures) in
    if_ok c.compile_forms.result _ _ (λ r made. text_compiled names c.args.source.now c.split.new.found (lists c.in_ok-kept.kept.items) r differ is made) c.compile_forms.ensures
