use Rattle.std.proofs.Common.{subst, sym}
use Rattle.std.specs.Prelude.{IfOk}
use Rattle.std.specs.Str.{IsValidUpTo}
use Rattle.ef_base.specs.Texts.{Texts, Extends}
use Rattle.ef_scan.specs.Scan.{IsScanned}
use Rattle.ef_token.proofs.OneScan.{one_scan, one_way}
use Rattle.ef_scan.proofs.Scanning.{all_bad}
use Rattle.ef_scan.proofs.TokenForms.{token_forms}
use Rattle.ef_scan.proofs.forms.scan.Goals as goal

pub returns-in-Ok-clause-one_cut : goal.returns-in-Ok-clause-one_cut
returns-in-Ok-clause-one_cut c = one_way c.args.text.now

pub returns-in-Ok-clause-one_scan : goal.returns-in-Ok-clause-one_scan
returns-in-Ok-clause-one_scan c = one_scan c.args.text.now

pub returns-in-Err-clause-one_cut : goal.returns-in-Err-clause-one_cut
returns-in-Err-clause-one_cut c = one_way c.args.text.now

pub returns-in-Err-clause-one_scan : goal.returns-in-Err-clause-one_scan
returns-in-Err-clause-one_scan c = one_scan c.args.text.now

pub returns-in-Ok-clause-forms : goal.returns-in-Ok-clause-forms
returns-in-Ok-clause-forms c =
    subst (λ t. IfOk c.forms_of.result (λ forms. (all : Texts) → Extends c.forms_of.new.names all → IsScanned all c.args.file t forms.items)) c.in-Ok.ensures.cases.0 c.forms_of.ensures.forms

pub returns-in-Err-clause-forms : goal.returns-in-Err-clause-forms
returns-in-Err-clause-forms c =
    all_bad c.args.names.now c.args.file c.args.text.now c.valid_up_to.result c.bad_place-place.result c.alone.result (subst (IsValidUpTo c.args.text.now) (sym c.valid_up_to.ensures) c.in-Err.ensures.cases.1) c.bad_place-place.ensures c.alone.ensures

pub returns-in-Ok-clause-token_forms : goal.returns-in-Ok-clause-token_forms
returns-in-Ok-clause-token_forms c = token_forms c.args.text.now

pub returns-in-Err-clause-token_forms : goal.returns-in-Err-clause-token_forms
returns-in-Err-clause-token_forms c = token_forms c.args.text.now
