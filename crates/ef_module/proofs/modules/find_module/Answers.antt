use Rattle.std.proofs.Common.{◌∙◌, sym, ap, map}
use Rattle.ef_base.specs.Laws.{extends_same}
use Rattle.ef_forms.specs.Plain.{plain_placed}
use Rattle.ef_module.specs.Modules.{first_name, lists}
use Rattle.ef_module.proofs.ModuleFound.{ordered, module_faulty, module_read, module_named_first}
use Rattle.ef_module.proofs.Sets.{is_none, is_some}
use Rattle.ef_module.proofs.modules.find_module.Goals as goal

pub returns-then-not-is_empty : goal.returns-then-not-is_empty
returns-then-not-is_empty c = λ all e.
    let tss = lists c.args.forms.now in
    let fs = map plain_placed c.in_ok-placed.placed.items in
    let new = c.add_order_faults.new.found in
    let h = c.in_ok-placed.ensures all e in
    module_faulty all tss fs c.find_forms.new.found new h
    (ordered all c.args.names.now tss fs c.find_forms.new.found new e c.requires.named h (rw c.deref.ensures.value at c.in_ok-add_order_faults.ensures))
    (is_some new c.is_empty.result c.is_empty.ensures c.if-not-is_empty.true)

pub unreachable-requires : goal.unreachable-requires
unreachable-requires c =
    let now = c.args.names.now in
    let tss = lists c.args.forms.now in
    let fs = map plain_placed c.in_ok-placed.placed.items in
    let new = c.add_order_faults.new.found in
    let h = c.in_ok-placed.ensures now (extends_same now) in
    module_named_first now tss fs c.find_forms.new.found new h
    (ordered now now tss fs c.find_forms.new.found new (extends_same now) c.requires.named h (rw c.deref.ensures.value at c.in_ok-add_order_faults.ensures))
    (is_none new c.is_empty.result c.is_empty.ensures c.if-not-is_empty.false)
    (sym (c.in_default.ensures ∙ ap (λ l. first_name (map plain_placed l)) c.deref-2.ensures.value))

pub returns : goal.returns
returns c = λ all e.
    let tss = lists c.args.forms.now in
    let fs = map plain_placed c.in_ok-placed.placed.items in
    let new = c.add_order_faults.new.found in
    let h = c.in_ok-placed.ensures all e in
    module_read all tss fs c.find_forms.new.found new c.in-Some.name h
    (ordered all c.args.names.now tss fs c.find_forms.new.found new e c.requires.named h (rw c.deref.ensures.value at c.in_ok-add_order_faults.ensures))
    (is_none new c.is_empty.result c.is_empty.ensures c.if-not-is_empty.false)
    (sym (c.in-Some.ensures ∙ ap (λ l. first_name (map plain_placed l)) c.deref-2.ensures.value))
