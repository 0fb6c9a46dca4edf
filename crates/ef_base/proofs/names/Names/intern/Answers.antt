use Rattle.std.proofs.Common.{sym, subst, map, string_bytes}
use Rattle.ef_base.specs.Laws.{named}
use Rattle.ef_base.specs.Texts.{IsAbsent, AllDiffer, AllUtf8}
use Rattle.ef_base.proofs.Tables.{differ_with, utf8_with}
use Rattle.ef_base.proofs.Searches.{grown, stored_text}
use Rattle.ef_base.proofs.names.Names.intern.Goals as goal

pub invariant_of-self-2 : goal.invariant_of-self-2
invariant_of-self-2 c =
    let absent : IsAbsent c.args.text.now (map string_bytes c.self.inside.texts.keys) = rw c.self.view_is c.in_default.ensures.none in
    let more = grown c.self.inside.texts.keys c.insert_full.new.self.keys c.in_ok-kept.kept c.args.text.now c.in_ok-kept.ensures.ok absent c.in_ok-index.ensures.keys in
    (subst AllDiffer (sym more) (differ_with _ _ c.self.invariant.0 absent), subst AllUtf8 (sym more) (utf8_with _ _ c.self.invariant.1 c.utf8.text))

pub returns-clause-named : goal.returns-clause-named
returns-clause-named c =
    let stored = c.in_ok-index.ensures.stored in
    λ all later. named _ all _ _ (stored_text c.insert_full.new.self.keys c.in_ok-index.index c.in_ok-kept.kept stored.0 c.args.text.now c.in_ok-kept.ensures.ok stored.1 stored.2) later

pub returns-clause-differ : goal.returns-clause-differ
returns-clause-differ c =
    let absent : IsAbsent c.args.text.now (map string_bytes c.self.inside.texts.keys) = rw c.self.view_is c.in_default.ensures.none in
    let more = grown c.self.inside.texts.keys c.insert_full.new.self.keys c.in_ok-kept.kept c.args.text.now c.in_ok-kept.ensures.ok absent c.in_ok-index.ensures.keys in
    subst AllDiffer (sym more) (differ_with _ _ c.self.invariant.0 absent)

pub returns-clause-utf8 : goal.returns-clause-utf8
returns-clause-utf8 c =
    let absent : IsAbsent c.args.text.now (map string_bytes c.self.inside.texts.keys) = rw c.self.view_is c.in_default.ensures.none in
    let more = grown c.self.inside.texts.keys c.insert_full.new.self.keys c.in_ok-kept.kept c.args.text.now c.in_ok-kept.ensures.ok absent c.in_ok-index.ensures.keys in
    subst AllUtf8 (sym more) (utf8_with _ _ c.self.invariant.1 c.utf8.text)

pub returns-in-Some-clause-utf8 : goal.returns-in-Some-clause-utf8
returns-in-Some-clause-utf8 c = subst AllUtf8 c.self.view_is c.self.invariant.1
