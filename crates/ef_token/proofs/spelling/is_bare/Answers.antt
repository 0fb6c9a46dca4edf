use Rattle.std.proofs.Common.{sym, ◌∙◌}
use Rattle.ef_token.proofs.Names.{bare_word, bare_name}
use Rattle.ef_token.proofs.spelling.is_bare.Goals as goal

pub returns-then-is_some : goal.returns-then-is_some
returns-then-is_some c = (λ e. cc e, λ h. absurd (bare_word c.args.text.now c.word_of.result c.utf8.text c.word_of.ensures.some (sym c.is_some.ensures ∙ c.if-is_some.true) h))

pub returns : goal.returns
returns c =
    let bare = bare_name c.args.text.now c.word_of.result c.utf8.text c.word_of.ensures.none (sym c.is_some.ensures ∙ c.if-is_some.false) in
    (λ e. bare (c.is_name.ensures.0 e), λ h. c.is_name.ensures.1 h.0)
