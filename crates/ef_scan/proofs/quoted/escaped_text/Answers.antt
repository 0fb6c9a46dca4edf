use Rattle.std.proofs.Common.{rules}
use Rattle.std.specs.Prelude.{◌==◌}
use Rattle.ef_scan.proofs.Quoting.{reads_legal, reads_illegal, reads_all, reads_bad, reads_open, legal_shorter, illegal_shorter}
use Rattle.ef_scan.proofs.quoted.escaped_text.Goals as goal

pub loop-close-smaller-in-Legal : goal.loop-close-smaller-in-Legal
loop-close-smaller-in-Legal c = legal_shorter c.args.quote c.loop-close.behind c.in-Legal.next c.in-Legal.c (c.in-Legal.ensures (λ d. d == c.args.quote) c.in_default.ensures.none)

pub loop-close-preserved-in-Legal : goal.loop-close-preserved-in-Legal
loop-close-preserved-in-Legal c =
    reads_legal c.args.quote c.args.at c.loop-close.behind c.in-Legal.next c.loop-close.found.items c.push.new.self.items c.loop-close.legal c.in-Legal.c c.requires.is_quote c.loop-close.invariant
    (c.in-Legal.ensures (λ d. d == c.args.quote) c.in_default.ensures.none) (search rules)

pub loop-close-smaller : goal.loop-close-smaller
loop-close-smaller c = illegal_shorter c.loop-close.behind c.in-Illegal.next (c.in-Illegal.ensures (λ d. d == c.args.quote) c.in_default.ensures.none)

pub loop-close-preserved : goal.loop-close-preserved
loop-close-preserved c =
    reads_illegal c.args.quote c.args.at c.loop-close.behind c.in-Illegal.next c.loop-close.found.items c.loop-close.legal c.requires.is_quote c.loop-close.invariant
    (c.in-Illegal.ensures (λ d. d == c.args.quote) c.in_default.ensures.none)

pub returns-in-Ends : goal.returns-in-Ends
returns-in-Ends c =
    reads_open c.args.quote c.args.at c.loop-close.behind c.loop-close.found.items c.loop-close.legal c.requires.is_quote c.loop-close.invariant
    (c.in-Ends.ensures (λ d. d == c.args.quote) c.in_default.ensures.none)

pub returns-then-not-legal : goal.returns-then-not-legal
returns-then-not-legal c =
    reads_bad c.args.quote c.args.at c.loop-close.behind c.in-Some.close c.loop-close.found.items c.loop-close.legal c.loop-close.invariant c.in-Some.ensures.some c.if-not-legal.true

pub returns-in-Some : goal.returns-in-Some
returns-in-Some c =
    reads_all c.args.quote c.args.at c.loop-close.behind c.in-Some.close c.loop-close.found.items c.loop-close.legal c.loop-close.invariant c.in-Some.ensures.some c.if-not-legal.false
