use Rattle.std.proofs.Common.{List, ◌∷◌, [], ◌++◌, map, refl, sym, subst, ap, ◌∙◌}
use Rattle.std.specs.Prelude.{filter}
use Rattle.ef_base.specs.Laws.{extends_later, extends_same, has_later}
use Rattle.ef_core.specs.declared.literal.FName.{FName}
use Rattle.ef_core.specs.Plain.{plain_attribute, plain_def}
use Rattle.ef_forms.specs.Built.{Each, IsBuiltFunction, exports_in, functions_in}
use Rattle.ef_forms.specs.Plain.{plain_module, plain_placed}
use Rattle.ef_lower.specs.Scope.{HasFunctions}
use Rattle.ef_lowmod.specs.Exports.{is_other_by}
use Rattle.ef_lowmod.specs.Function.{AreLowered, IsReadyFunction, function_words}
use Rattle.ef_lowmod.specs.Info.{fname}
use Rattle.ef_lowmod.proofs.Conditions.{lowered_in_order, lowered_together, module_readable}
use Rattle.ef_lowmod.proofs.Later.{functions_later}
use Rattle.ef_lowmod.proofs.Modules.{exports_named, names_later, others_same, module_named, ready_functions, two_more}
use Rattle.ef_lowmod.proofs.Means.{lowered_keeps}
use Rattle.ef_lowmod.proofs.Ready.{words_later}
use Rattle.ef_meaning.specs.Lowers.{KeepDefinitions}
use Rattle.ef_meaning.proofs.Kept.{definitions_later}
use Rattle.ef_lowmod.proofs.module.lower_whole.Goals as goal

pub lower_functions-requires : goal.lower_functions-requires
lower_functions-requires c = record {
  words = words_later _ _ function_words c.in_ok-fixed.ensures.kept c.in_ok-keep_words.ensures.words;
  ready = λ all later.
      let forms = (plain_module c.args.module.now).forms in
      let whole = extends_later c.in_ok-keep_words.ensures.kept (extends_later c.in_ok-fixed.ensures.kept later) in
      subst (λ l. Each (IsReadyFunction all c.args.tables.now.functions.items) (functions_in (map plain_placed l))) (sym c.deref-2.ensures.value)
      (ready_functions c.args.names.now all c.args.tables.now.functions.items forms whole c.requires.of_table.1
      (subst (λ d. Each (IsBuiltFunction all d) (functions_in forms)) (sym c.requires.functions) (c.requires.built all whole).bodies)
      c.requires.narrow c.requires.whole c.requires.light (c.requires.no_fault all whole));
}

pub returns-clause-whole : goal.returns-clause-whole
returns-clause-whole c = λ all later.
    let forms = (plain_module c.args.module.now).forms in
    let fixed = c.in_ok-fixed.fixed in
    let from_fixed = extends_later c.in_ok-defs.ensures.kept later in
    let named = exports_named c.args.names.now forms c.requires.of_table.1 in
    let same = others_same _ _ all fixed (exports_in forms) (extends_later c.in_ok-keep_words.ensures.kept c.in_ok-fixed.ensures.kept) c.in_ok-fixed.ensures.differ from_fixed (c.in_ok-fixed.ensures.fixed _ (extends_same _)).module_info named in
    let now = c.lower_functions.new.names in
    let functions = map plain_def c.in_ok-defs.defs.items in
    let defs = two_more _ _ _ _ _ _ _ c.in_ok-push.ensures.items c.in_ok-push-2.ensures.items c.in_ok-info.ensures c.in_ok-item.ensures in
    let lowered = λ (fs : List FName) (has : HasFunctions now c.args.tables.now.functions.items fs).
    subst (λ l. AreLowered now fs (functions_in (map plain_placed l)) functions) c.deref-2.ensures.value (c.in_ok-defs.ensures.lowered fs has) in
    let together = lowered_together now fixed c.args.module.now.name _ (functions_in forms) functions _
    (c.in_ok-fixed.ensures.fixed now c.in_ok-defs.ensures.kept) (c.in_ok-defs.ensures.differ c.in_ok-fixed.ensures.differ) c.requires.functions defs lowered in
    record {
      outline = record {
        fixed = fixed;
        are_fixed = c.in_ok-fixed.ensures.fixed all from_fixed;
        name = refl;
        exports = c.in_ok-exports.ensures
            ∙ ap (λ fs. map (λ f. fname f.name f.arity) fs ++ (fname fixed.module_info 0 ∷ fname fixed.module_info 1 ∷ []))
            (ap (filter (is_other_by fixed)) (c.deref.ensures.value ∙ c.requires.exports) ∙ same);
        attributes = ap (map plain_attribute) c.new.ensures.items;
        functions = functions;
        defs = defs;
        in_order = lowered_in_order _ _ (functions_in forms) functions together;
      };
      functions = functions_later _ all later _ (functions_in forms) _ together;
    }

pub returns-clause-of_table : goal.returns-clause-of_table
returns-clause-of_table c = λ all later.
    let whole = extends_later c.in_ok-keep_words.ensures.kept (extends_later c.in_ok-fixed.ensures.kept (extends_later c.in_ok-defs.ensures.kept later)) in
    module_named all (plain_module c.args.module.now) _ (returns-clause-whole c all later) (has_later _ all _ c.requires.of_table.0 whole)
    (names_later _ all _ whole (exports_named c.args.names.now _ c.requires.of_table.1))

pub returns-clause-readable : goal.returns-clause-readable
returns-clause-readable c = λ all later.
    let whole = extends_later c.in_ok-keep_words.ensures.kept (extends_later c.in_ok-fixed.ensures.kept (extends_later c.in_ok-defs.ensures.kept later)) in
    module_readable all (plain_module c.args.module.now) _ (returns-clause-whole c all later) (c.requires.built all whole)
    (has_later _ all _ c.requires.of_table.0 whole) (returns-clause-of_table c all later)

pub returns-clause-means : goal.returns-clause-means
returns-clause-means c = λ all later.
    let fixed = c.in_ok-fixed.fixed in
    let from_fixed = extends_later c.in_ok-defs.ensures.kept later in
    let whole = extends_later c.in_ok-keep_words.ensures.kept (extends_later c.in_ok-fixed.ensures.kept from_fixed) in
    let functions = map plain_def c.in_ok-defs.defs.items in
    let defs = two_more _ _ _ _ _ _ _ c.in_ok-push.ensures.items c.in_ok-push-2.ensures.items c.in_ok-info.ensures c.in_ok-item.ensures in
    let keep = subst (λ l. KeepDefinitions c.lower_functions.new.names (functions_in (map plain_placed l)) functions) c.deref-2.ensures.value c.in_ok-defs.ensures.means in
    lowered_keeps all (plain_module c.args.module.now) fixed (c.in_ok-fixed.ensures.fixed all from_fixed) _ functions defs
    (definitions_later _ all _ functions later keep) (c.requires.built all whole) (c.requires.no_fault all whole)

pub returns-clause-differ : goal.returns-clause-differ
returns-clause-differ c = c.in_ok-defs.ensures.differ c.in_ok-fixed.ensures.differ
