use Rattle.std.proofs.Common.{◌≡◌, ◌∙◌, sym, subst, map}
use Rattle.std.specs.Prelude.{IsTrue, ◌↔◌}
use Rattle.ef_forms.specs.Built.{AreBuiltForms, Each, IsBuiltFunction, IsDistinct, export_count_in, functions_in}
use Rattle.ef_forms.specs.Plain.{plain_module, plain_placed}
use Rattle.ef_tables.proofs.Calls.{exported_names, says, says_no, found_set, undefined}
use Rattle.ef_tables.proofs.built.is_built.Goals as goal

pub are_defined-requires : goal.are_defined-requires
are_defined-requires c = exported_names c.args.names.now (plain_module c.args.«module».now) c.deref-3.result.now c.requires.names (c.deref-3.ensures.value ∙ c.requires.exports)

pub returns-then-not-are_defined : goal.returns-then-not-are_defined
returns-then-not-are_defined c =
    let m = plain_module c.args.«module».now in
    let set = found_set c.deref.result.now c.in_ok-defined.field-0 c.in-Some.defined c.in-Some.is c.in_ok-defined.ensures in
    let functions = set.1 ∙ c.deref.ensures.value ∙ c.requires.functions in
    let exports = c.deref-3.ensures.value ∙ c.requires.exports in
    says_no c.args.names.now m c.requires.names (undefined c.args.names.now m c.in-Some.defined c.deref-3.result.now c.are_defined.result functions exports c.are_defined.ensures c.if-not-are_defined.true)

pub returns : goal.returns
returns c =
    let m = plain_module c.args.«module».now in
    let set = found_set c.deref.result.now c.in_ok-defined.field-0 c.in-Some.defined c.in-Some.is c.in_ok-defined.ensures in
    let others = found_set c.deref-2.result.now c.in_ok-_exported.field-0 c.in-Some-2._exported c.in-Some-2.is c.in_ok-_exported.ensures in
    let functions = set.1 ∙ c.deref.ensures.value ∙ c.requires.functions in
    let exports = c.deref-3.ensures.value ∙ c.requires.exports in
    says c.args.names.now m c.are_built_forms.result c.in-Some.defined c.deref-3.result.now c.requires.names functions exports
    (subst IsDistinct (sym set.1) set.0)
    (subst IsDistinct (c.deref-2.ensures.value ∙ sym c.deref-3.ensures.value) others.0)
    (c.are_defined.ensures.0 c.if-not-are_defined.false)
    (subst (λ l. export_count_in (map plain_placed l) ≡ 1) c.deref-4.ensures.value (sym c.count_exports.ensures ∙ c.if-count_exports-ne1.false))
    (subst (λ l. IsTrue c.are_built_forms.result ↔ (AreBuiltForms (map plain_placed l) × Each (IsBuiltFunction c.args.names.now c.in-Some.defined) (functions_in (map plain_placed l)))) c.deref-5.ensures.value c.are_built_forms.ensures)
