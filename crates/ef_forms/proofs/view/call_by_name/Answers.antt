use Rattle.std.proofs.Common.{ap, sym, ◌∙◌, arith}
use Rattle.ef_forms.specs.Plain.{plain}
use Rattle.ef_forms.specs.Views.{atom_of}
use Rattle.ef_forms.proofs.Views.{call_named, remote_named}
use Rattle.ef_forms.proofs.view.call_by_name.Goals as goal

pub returns-in_ok-name-in-Call : goal.returns-in_ok-name-in-Call
returns-in_ok-name-in-Call c =
    call_named c.args.expr.now c.in-Call.target c.in-Call.args c.in_ok-name-in-Call.name c.len.result c.in-Call.is
    (sym c.in_ok-name-in-Call.was ∙ c.atom.ensures ∙ ap (λ e. atom_of (plain e)) c.deref.ensures)
    (omega arith)

pub returns-in_ok-name-in-Remote : goal.returns-in_ok-name-in-Remote
returns-in_ok-name-in-Remote c =
    remote_named c.args.expr.now c.in-Remote.module c.in-Remote.function c.in-Remote.args c.in_ok-home-in-Remote.home c.in_ok-name-in-Remote.name c.len-in-Remote.result c.in-Remote.is
    (sym c.in_ok-home-in-Remote.was ∙ c.atom-in-Remote.ensures ∙ ap (λ e. atom_of (plain e)) c.deref-in-Remote.ensures)
    (sym c.in_ok-name-in-Remote.was ∙ c.atom-in-Remote-2.ensures ∙ ap (λ e. atom_of (plain e)) c.deref-in-Remote-2.ensures)
    (omega arith)
