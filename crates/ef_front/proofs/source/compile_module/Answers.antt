use Rattle.std.proofs.Common.{sym, ◌∙◌}
use Rattle.ef_base.specs.Laws.{extends_same}
use Rattle.ef_forms.specs.Plain.{plain_module}
use Rattle.ef_front.proofs.Chain.{no_faults, no_weights, not_that}
use Rattle.ef_front.proofs.Taken.{empty_list}
use Rattle.ef_front.proofs.source.compile_module.Goals as goal

pub returns-then-not-branch : goal.returns-then-not-branch
returns-then-not-branch c =
    not_that c.args.names (plain_module c.args.«module».now) c.in_ok-not_built.field-0 c.in_ok-is_built.field-0 c.in_ok-is_built.ensures c.if-not-branch.true c.in_ok-not_built.ensures

pub lower-requires-clause-built : goal.lower-requires-clause-built
lower-requires-clause-built c = λ all later. (c.in_ok-is_built.ensures all later).0 c.if-not-branch.false

pub lower-requires-clause-narrow : goal.lower-requires-clause-narrow
lower-requires-clause-narrow c = c.requires.narrow ((c.in_ok-is_built.ensures c.args.names (extends_same c.args.names)).0 c.if-not-branch.false)

pub lower-requires-clause-light : goal.lower-requires-clause-light
lower-requires-clause-light c =
    let none = empty_list c.in_ok-faults.faults c.is_empty.result c.is_empty.ensures c.if-not-is_empty.false in
    no_weights c.args.names (plain_module c.args.«module».now) c.in_ok-faults.faults (c.in_ok-faults.ensures c.args.names (extends_same c.args.names)) none

pub lower-requires-clause-no_fault : goal.lower-requires-clause-no_fault
lower-requires-clause-no_fault c =
    let none = empty_list c.in_ok-faults.faults c.is_empty.result c.is_empty.ensures c.if-not-is_empty.false in
    λ all later. no_faults all (plain_module c.args.«module».now) c.in_ok-faults.faults (c.in_ok-faults.ensures all later) none

pub returns : goal.returns
returns c =
    let none = empty_list c.in_ok-faults.faults c.is_empty.result c.is_empty.ensures c.if-not-is_empty.false in
    let here = extends_same c.args.names in
    let later = extends_same c.lower.new.names in (
      record {
        built = (c.in_ok-is_built.ensures c.args.names here).0 c.if-not-branch.false;
        are = sym none ∙ c.in_ok-faults.ensures c.args.names here;
      },
      record {
        extends = c.in_ok-module.ensures.kept;
        utf8 = c.in_ok-module.ensures.utf8;
        differ = c.in_ok-module.ensures.differ;
        outline = c.in_ok-module.ensures.outlined c.lower.new.names later;
        let_form = c.in_ok-module.ensures.let_form;
        shallow = c.in_ok-module.ensures.shallow;
        readable = c.in_ok-module.ensures.readable c.lower.new.names later;
        means = c.in_ok-module.ensures.means c.lower.new.names later;
        writable = (c.in_ok-module.ensures.of_table c.lower.new.names later, c.in_ok-buffer.ensures.items);
      },
    )
