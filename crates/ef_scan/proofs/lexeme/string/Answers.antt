use Rattle.std.proofs.Common.{refl, inr, subst}
use Rattle.ef_token.specs.Lexeme as x
use Rattle.ef_scan.specs.Quotes.{IsInner}
use Rattle.ef_scan.proofs.Verdicts.{closed, string_at, open_fault, ill_fault, triple_fault, not_three}
use Rattle.ef_scan.proofs.lexeme.string.Goals as goal

pub returns-then-begins_two_quotes : goal.returns-then-begins_two_quotes
returns-then-begins_two_quotes c = triple_fault c.args.at c.args.behind c.requires (c.begins_two_quotes.ensures.0 c.if-begins_two_quotes.true)

pub returns-in-Plain : goal.returns-in-Plain
returns-in-Plain c =
    let inner = subst (IsInner 34 c.args.behind) c.in-Plain.is c.in_ok-text.ensures in (
      x.string inner.0,
      inner.1,
      string_at c.args.at c.in-Plain.end inner.0 (closed 34 c.args.at c.args.behind c.in-Plain.end inner.0 c.requires (inner.3, inner.4, inner.5))
          (not_three c.args.at c.args.behind c.requires (λ f. let yes = c.begins_two_quotes.ensures.1 f in let never = c.if-begins_two_quotes.false in cc (yes, never))),
    )

pub returns-in-Legal : goal.returns-in-Legal
returns-in-Legal c = (
  x.string c.in-Legal.found.items,
  refl,
  string_at c.args.at c.in-Legal.end c.in-Legal.found.items
      (closed 34 c.args.at c.args.behind c.in-Legal.end c.in-Legal.found.items c.requires (subst (IsInner 34 c.args.behind) c.in-Legal.is c.in_ok-text.ensures))
      (not_three c.args.at c.args.behind c.requires (λ f. let yes = c.begins_two_quotes.ensures.1 f in let never = c.if-begins_two_quotes.false in cc (yes, never))),
)

pub returns-in-Illegal : goal.returns-in-Illegal
returns-in-Illegal c = ill_fault 34 5 c.args.at c.args.behind refl refl (inr refl) c.requires (subst (IsInner 34 c.args.behind) c.in-Illegal.is c.in_ok-text.ensures)

pub returns-in-Open : goal.returns-in-Open
returns-in-Open c = open_fault 34 5 c.args.at c.args.behind refl refl (inr refl) c.requires (subst (IsInner 34 c.args.behind) c.in-Open.is c.in_ok-text.ensures)
