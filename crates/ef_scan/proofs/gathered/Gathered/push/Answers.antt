use Rattle.std.proofs.Common.{rules, refl}
use Rattle.ef_token.specs.declared.token.ScannedForm.TheVariants.{Tokens}
use Rattle.ef_scan.proofs.Gathering.{gathers_lexeme, gathers_form}
use Rattle.ef_scan.proofs.gathered.Gathered.push.Goals as goal

pub returns-then-not-ends : goal.returns-then-not-ends
returns-then-not-ends c = λ all file parts p l e place is h.
    gathers_lexeme all file c.args.self.now _ parts p h l c.args.token e place is (λ d. let yes = c.is_dot-ends.ensures.1 d in let never = c.if-not-ends.true in cc (yes, never)) refl (search rules) refl

pub returns : goal.returns
returns c = λ all file parts p l e place is h.
    gathers_form all file c.args.self.now _ parts p h l c.args.token (Tokens c.in_ok-form.form) e place is (c.is_dot-ends.ensures.0 c.if-not-ends.false) ((search rules), tt) (search rules) (search rules) refl
