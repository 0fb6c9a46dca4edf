use Rattle.std.proofs.Common.{◌≤◌, [], ◌∷◌, length, map, sym, ap, ◌∙◌, subst, arith}
use Rattle.std.proofs.lemmas.List.{map-append}
use Rattle.ef_base.specs.Laws.{extends_same}
use Rattle.ef_core.specs.Conditions.{NoneTwice}
use Rattle.ef_core.specs.Everywhere.{Each}
use Rattle.ef_core.specs.Fresh.{most_variables}
use Rattle.ef_core.specs.Plain.{clauses, plain, plain_clause}
use Rattle.ef_core.specs.Readable.{readable}
use Rattle.ef_core.specs.Tree.{case_of}
use Rattle.ef_forms.specs.Plain.{plain_clauses}
use Rattle.ef_lower.proofs.Numbered.{numbered_count, numbered_differ, numbered_readable}
use Rattle.ef_lowmod.specs.Function.{function_words}
use Rattle.ef_lowmod.proofs.Cases.{case_lowered}
use Rattle.ef_lowmod.proofs.Ready.{each_ready, sizes, words_later}
use Rattle.ef_meaning.specs.Cases.{together, variables}
use Rattle.ef_lowmod.proofs.clauses.case.Goals as goal

pub lower_clauses-requires-clause-ready : goal.lower_clauses-requires-clause-ready
lower_clauses-requires-clause-ready c = λ all later. each_ready all c.args.tables.now.functions.items c.args.fresh.now c.args.clauses.now (c.requires.ready all later)

pub last_clause-requires-clause-words : goal.last_clause-requires-clause-words
last_clause-requires-clause-words c = (words_later _ _ function_words c.in_ok-made.ensures.kept c.requires.words).1

pub last_clause-requires-clause-why : goal.last_clause-requires-clause-why
last_clause-requires-clause-why c = (words_later _ _ function_words c.in_ok-made.ensures.kept c.requires.words).0

pub last_clause-requires-clause-enough : goal.last_clause-requires-clause-enough
last_clause-requires-clause-enough c =
    let size = sizes c.args.names.now c.args.tables.now.functions.items c.args.fresh.now (plain_clauses c.args.clauses.now) c.requires.some (c.requires.ready c.args.names.now (extends_same c.args.names.now)) in
    let heavy = size.heavy in
    let number = ap length c.requires.params ∙ numbered_count 0 c.args.fresh.now in
    let drawn = c.in_ok-made.ensures.drawn in
    let enough = c.requires.enough in
    omega arith

pub returns-clause-lowered : goal.returns-clause-lowered
returns-clause-lowered c =
    let now = c.lower_clauses.new.names in
    let size = sizes c.args.names.now c.args.tables.now.functions.items c.args.fresh.now (plain_clauses c.args.clauses.now) c.requires.some (c.requires.ready c.args.names.now (extends_same c.args.names.now)) in
    let few = size.few in
    let made = map plain_clause c.in_ok-made.made.items in
    let together_of = together (variables c.args.params.now) in
    let pushed = ap (map plain_clause) c.in_ok-push.ensures.items ∙ map-append plain_clause c.in_ok-made.made.items (c.in_ok-last.last ∷ []) in
    let last = c.in_ok-last.ensures in
    let fits : c.last_clause.new.fresh ≤ most_variables =
    let heavy = size.heavy in
    let number = ap length c.requires.params ∙ numbered_count 0 c.args.fresh.now in
    let drawn = c.in_ok-made.ensures.drawn in
    let enough = c.requires.enough in
    let behind = last.enough in
    omega arith in
    case_lowered now c.args.tables.now.functions.items c.args.clauses.now made c.args.params.now _ _ (plain_clause c.in_ok-last.last) (plain c.in_ok-case_of.field-0) size.deep
    (subst NoneTwice (sym c.requires.params) (numbered_differ 0 c.args.fresh.now))
    (subst (Each (readable now).variable) (sym c.requires.params) (numbered_readable now 0 c.args.fresh.now (omega arith)))
    c.in_ok-made.ensures.lowered last fits
    (c.in_ok-case_of.ensures ∙ ap (λ cs. case_of together_of (clauses cs)) pushed)

pub returns-clause-drawn : goal.returns-clause-drawn
returns-clause-drawn c =
    let size = sizes c.args.names.now c.args.tables.now.functions.items c.args.fresh.now (plain_clauses c.args.clauses.now) c.requires.some (c.requires.ready c.args.names.now (extends_same c.args.names.now)) in
    let heavy = size.heavy in
    let number = ap length c.requires.params ∙ numbered_count 0 c.args.fresh.now in
    let first = c.in_ok-made.ensures.drawn in
    let last = c.in_ok-last.ensures in
    let second = last.drawn in let third = last.enough in let next = last.next in
    (omega arith, omega arith)
