use Rattle.std.proofs.Common.{ℕ, List, sym, subst, ◌∙◌}
use Rattle.ef_base.specs.declared.fault.Fault.{Fault}
use Rattle.ef_base.specs.Laws.{extends_same}
use Rattle.ef_base.specs.Texts.{Texts}
use Rattle.ef_token.specs.declared.token.Token.{Token}
use Rattle.ef_token.specs.declared.token.ScannedForm.{ScannedForm}
use Rattle.ef_token.specs.TokenForm.{AllTokensOf, AreForms}
use Rattle.ef_scan.specs.Scan.{IsScanned}
use Rattle.ef_module.specs.Modules.{lists}
use Rattle.ef_front.specs.Compiles.{AreTaken}
use Rattle.ef_front.proofs.Taken.{scan_ready, tokens_taken}
use Rattle.cases.proofs.bounds.read.Goals as goal

-- the tokens of the forms end with their only full stops, and their names are of the table
ready : (all : Texts) (source : List ℕ) (scanned : List ScannedForm) (faults : List Fault) (forms : List (List Token)) → IsScanned all 0 source scanned → AreTaken scanned faults forms
    → AreForms forms × AllTokensOf all forms
ready all source scanned faults forms one two =
    subst (λ (l : List (List Token)). AreForms l × AllTokensOf all l) (sym (two.whole ∙ tokens_taken scanned one.0 one.1)) (scan_ready all 0 source one.0 one.2)

pub module-requires-clause-ends : goal.module-requires-clause-ends
module-requires-clause-ends c =
    subst (λ l. AreForms (lists l)) (sym c.deref.ensures.value)
    (ready c.scan.new.names c.args.source.now c.in_ok-scanned.scanned.items c.in_ok-taken.taken.faults (lists c.in_ok-taken.taken.forms.items)
    (c.in_ok-scanned.ensures.forms c.scan.new.names (extends_same c.scan.new.names)) c.in_ok-taken.ensures).0

pub module-requires-clause-named : goal.module-requires-clause-named
module-requires-clause-named c =
    subst (λ l. AllTokensOf c.scan.new.names (lists l)) (sym c.deref.ensures.value)
    (ready c.scan.new.names c.args.source.now c.in_ok-scanned.scanned.items c.in_ok-taken.taken.faults (lists c.in_ok-taken.taken.forms.items)
    (c.in_ok-scanned.ensures.forms c.scan.new.names (extends_same c.scan.new.names)) c.in_ok-taken.ensures).1
