use Rattle.std.proofs.Common.{◌∙◌, ap, sym, subst, Some, None}
use Rattle.std.specs.Option.{option_map}
use Rattle.ef_forms.specs.Plain.{plain_form}
use Rattle.ef_rows.specs.Makes.{IsSingle}
use Rattle.ef_parse.proofs.Answers as answer
use Rattle.ef_parse.proofs.spelled.spelled_form.Goals as goal

pub returns-in_default : goal.returns-in_default
returns-in_default c = λ all later.
    answer.no_form_at_all all c.args.kind c.args.tokens.now (subst (λ n. IsSingle all n c.args.tokens.now None) c.start_for.ensures (rw c.in_default.is at (c.in_ok-single.ensures all later)))

pub returns-in_default-as_form : goal.returns-in_default-as_form
returns-in_default-as_form c = λ all later.
    answer.no_form all c.args.kind c.args.tokens.now c.in-Some.single (subst (λ n. IsSingle all n c.args.tokens.now (Some c.in-Some.single)) c.start_for.ensures (rw c.in-Some.is at (c.in_ok-single.ensures all later)))
    (sym c.as_form.ensures ∙ ap (option_map plain_form) c.in_default-as_form.is)

pub returns-then-deep : goal.returns-then-deep
returns-then-deep c = λ all later.
    answer.deep_form all c.args.kind c.args.tokens.now c.in-Some.single (subst (λ n. IsSingle all n c.args.tokens.now (Some c.in-Some.single)) c.start_for.ensures (rw c.in-Some.is at (c.in_ok-single.ensures all later)))
    c.in-Some-as_form.form (sym c.as_form.ensures ∙ ap (option_map plain_form) c.in-Some-as_form.is) c.if-deep.true

pub returns : goal.returns
returns c = λ all later.
    let form = answer.spelled_form all c.args.kind c.args.tokens.now c.in-Some.single (subst (λ n. IsSingle all n c.args.tokens.now (Some c.in-Some.single)) c.start_for.ensures (rw c.in-Some.is at (c.in_ok-single.ensures all later)))
    c.in-Some-as_form.form (sym c.as_form.ensures ∙ ap (option_map plain_form) c.in-Some-as_form.is) c.if-deep.false in
    (form, answer.form_of_table c.args.names.now all c.args.kind c.args.tokens.now (plain_form c.in-Some-as_form.form) c.in-Some.single.faults.items c.requires later form)
