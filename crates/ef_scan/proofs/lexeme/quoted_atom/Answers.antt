use Rattle.std.proofs.Common.{refl, inl, subst}
use Rattle.ef_scan.specs.Quotes.{IsInner}
use Rattle.ef_scan.proofs.Verdicts.{closed, quoted_at, open_fault, ill_fault}
use Rattle.ef_scan.proofs.lexeme.quoted_atom.Goals as goal

pub returns-in-Plain : goal.returns-in-Plain
returns-in-Plain c =
    let inner = subst (IsInner 39 c.args.behind) c.in-Plain.is c.in_ok-text.ensures in
    c.plain_atom.ensures c.args.at inner.0 inner.1 inner.2
    (quoted_at c.args.at c.in-Plain.end inner.0 (closed 39 c.args.at c.args.behind c.in-Plain.end inner.0 c.requires (inner.3, inner.4, inner.5)))

pub returns-in-Legal : goal.returns-in-Legal
returns-in-Legal c =
    c.atom_of.ensures c.args.at
    (quoted_at c.args.at c.in-Legal.end c.in-Legal.found.items
    (closed 39 c.args.at c.args.behind c.in-Legal.end c.in-Legal.found.items c.requires (subst (IsInner 39 c.args.behind) c.in-Legal.is c.in_ok-text.ensures)))

pub returns-in-Illegal : goal.returns-in-Illegal
returns-in-Illegal c = ill_fault 39 4 c.args.at c.args.behind refl refl (inl refl) c.requires (subst (IsInner 39 c.args.behind) c.in-Illegal.is c.in_ok-text.ensures)

pub returns-in-Open : goal.returns-in-Open
returns-in-Open c = open_fault 39 4 c.args.at c.args.behind refl refl (inl refl) c.requires (subst (IsInner 39 c.args.behind) c.in-Open.is c.in_ok-text.ensures)
