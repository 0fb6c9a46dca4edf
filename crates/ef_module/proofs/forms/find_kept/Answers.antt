use Rattle.ef_base.specs.Laws.{extends_same}
use Rattle.ef_forms.specs.Plain.{plain_form}
use Rattle.ef_profile.specs.Adds.{Adds}
use Rattle.ef_profile.specs.Unbuilt.{tree_faults}
use Rattle.ef_module.proofs.FormFound.{at_faulty, at_form}
use Rattle.ef_module.proofs.Sets.{is_none, is_some}
use Rattle.ef_module.proofs.forms.find_kept.Goals as goal

pub returns-then-not-is_empty : goal.returns-then-not-is_empty
returns-then-not-is_empty c = λ all e.
    let now = c.args.names.now in
    let g = plain_form c.args.form in
    let second : Adds (tree_faults now c.start_of-place.result g) c.add_heads.new.found c.add_tree_faults.new.found = c.in_ok-add_tree_faults.ensures in
    at_faulty now all e c.args.tokens.now c.requires.named c.requires.faultless g c.args.heads.items c.args.found.now c.add_heads.new.found c.add_tree_faults.new.found
    (c.requires.spelled all e) (c.requires.of_table now (extends_same now)) c.requires.none c.in_ok-add_heads.ensures (rw c.start_of-place.ensures at second)
    (is_some c.add_tree_faults.new.found c.is_empty.result c.is_empty.ensures c.if-not-is_empty.true)

pub returns : goal.returns
returns c = λ all e.
    let now = c.args.names.now in
    let g = plain_form c.args.form in
    let second : Adds (tree_faults now c.start_of-place.result g) c.add_heads.new.found c.add_tree_faults.new.found = c.in_ok-add_tree_faults.ensures in
    at_form now all e c.args.tokens.now c.requires.named c.requires.faultless g c.args.heads.items c.args.found.now c.add_heads.new.found c.add_tree_faults.new.found
    (c.requires.spelled all e) (c.requires.of_table now (extends_same now)) c.requires.none c.in_ok-add_heads.ensures (rw c.start_of-place.ensures at second)
    (plain_form c.in_ok-kept.field-0) (is_none c.add_tree_faults.new.found c.is_empty.result c.is_empty.ensures c.if-not-is_empty.false) (c.requires.of_table all e) c.in_ok-kept.ensures
