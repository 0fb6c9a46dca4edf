use Rattle.std.proofs.Common.{sym, ◌∙◌}
use Rattle.ef_scan.proofs.Codings.{no_word_here, no_sign_here, no_name_here, coding_here, is_there}
use Rattle.ef_scan.proofs.coding.is_coding_here.Goals as goal

pub returns-in_default : goal.returns-in_default
returns-in_default c = (λ e. cc e, λ h. absurd (no_word_here c.args.at c.in_default.ensures.none h))

pub returns-in_default-after_sign : goal.returns-in_default-after_sign
returns-in_default-after_sign c =
    (λ e. cc e, λ h. absurd (no_sign_here c.args.at c.in-Some.behind c.run-before.result.behind c.run-before.result.count c.in-Some.ensures.some c.run-before.ensures c.in_default-after_sign.ensures.none h))

pub returns : goal.returns
returns c =
    let first = c.args.at in
    let read = c.in-Some.ensures.some in
    let run = c.run-before.ensures in
    let sign = c.in-Some-after_sign.ensures.some in
    let spaces = c.run-name.ensures in
    let there =
    is_there c.after_word-2.result _ _ c.after_word-2.ensures.some c.after_word-2.ensures.none
    (λ fifth name. coding_here first c.in-Some.behind c.run-before.result.behind c.run-before.result.count read run c.in-Some-after_sign.sign c.run-name.result.behind c.run-name.result.count sign spaces fifth name)
    (λ none h. no_name_here first c.in-Some.behind c.run-before.result.behind c.run-before.result.count read run c.in-Some-after_sign.sign c.run-name.result.behind c.run-name.result.count sign spaces none h) in
    (λ e. there.0 (sym c.is_some.ensures ∙ e), λ h. c.is_some.ensures ∙ there.1 h)
