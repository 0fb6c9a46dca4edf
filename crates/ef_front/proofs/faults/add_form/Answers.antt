use Rattle.std.proofs.Common.{◌∙◌, ◌++◌, ap, append_assoc, sym}
use Rattle.ef_base.specs.Faults.{set_of}
use Rattle.ef_forms.specs.Plain.{plain_form, plain_function, plain_placed}
use Rattle.ef_forms.specs.Ways.{function_faults}
use Rattle.ef_front.specs.Source.{form_faults, size_faults}
use Rattle.ef_front.proofs.Added.{added}
use Rattle.ef_front.proofs.faults.add_form.Goals as goal

pub returns : goal.returns
returns c = λ all later before is.
    let placed = plain_placed c.args.placed.now in
    let f = plain_function c.in-FunctionOf.function in
    let own = function_faults all f in
    let one = added before c.in_ok-faults.faults own c.append.new.self (c.in_ok-faults.ensures all later) (c.in_ok-append.ensures before is) in
    c.in_ok-add_size_fault.ensures (before ++ own) one ∙ ap set_of (append_assoc before own (size_faults placed.place f))
    ∙ ap (λ g. set_of (before ++ form_faults all placed (plain_form g))) (sym c.in-FunctionOf.is)
