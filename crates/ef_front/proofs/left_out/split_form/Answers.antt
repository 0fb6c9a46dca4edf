use Rattle.std.proofs.Common.{sym, ap, ◌∙◌}
use Rattle.ef_base.specs.FaultTable as table
use Rattle.ef_base.specs.Faults.{insert_fault}
use Rattle.ef_base.specs.NamedFaults.{plain}
use Rattle.ef_parse.specs.Spelled.{start_of}
use Rattle.ef_front.specs.LeftOut.{is_left_out}
use Rattle.ef_front.proofs.LeftOut.{split_kept, split_out}
use Rattle.ef_front.proofs.left_out.split_form.Goals as goal

pub returns-in_ok-push : goal.returns-in_ok-push
returns-in_ok-push c = λ before old h.
    let names = c.args.names.now in
    split_out names before c.args.kept.now.items c.args.tokens old c.args.found.now c.push.new.self
    (sym (c.is_left_out.ensures ∙ ap (is_left_out names) c.deref.ensures.value) ∙ c.if-is_left_out.true)
    (c.in_ok-push.ensures.ok ∙ ap (λ f. insert_fault f c.args.found.now) (c.plain.ensures ∙ ap (λ p. plain p table.not_built) (c.start_of.ensures ∙ ap start_of c.deref-then-is_left_out.ensures.value)))
    h

pub returns-in_ok-push-2 : goal.returns-in_ok-push-2
returns-in_ok-push-2 c = λ before old h.
    let names = c.args.names.now in
    split_kept names before c.args.kept.now.items c.push-else-is_left_out.new.self.items c.args.tokens old c.args.found.now
    (sym (c.is_left_out.ensures ∙ ap (is_left_out names) c.deref.ensures.value) ∙ c.if-is_left_out.false)
    c.in_ok-push-2.ensures.items
    h
