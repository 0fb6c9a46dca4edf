use Rattle.std.proofs.Common.{[], ◌∷◌, ◌++◌, map, sym, ap, ◌∙◌, subst}
use Rattle.std.proofs.lemmas.List.{map-append}
use Rattle.ef_core.specs.Plain.{plain_def}
use Rattle.ef_forms.specs.Built.{Each, functions_of}
use Rattle.ef_forms.specs.Plain.{plain_form}
use Rattle.ef_lowmod.specs.Function.{AreLowered, IsReadyFunction}
use Rattle.ef_lowmod.proofs.module.lower_form.Goals as goal

pub lower_function-requires-clause-ready : goal.lower_function-requires-clause-ready
lower_function-requires-clause-ready c = λ all later.
    (subst (λ form. Each (IsReadyFunction all c.args.tables.now.functions.items) (functions_of (plain_form form) ++ [])) c.in-FunctionOf.is (c.requires.ready all later)).0

pub returns-in_ok-push-clause-lowered : goal.returns-in_ok-push-clause-lowered
returns-in_ok-push-clause-lowered c = λ fs has.
    let def = c.in_ok-lower_function.field-0 in
    record {
      added = plain_def def ∷ [];
      is = ap (map plain_def) c.in_ok-push.ensures.items ∙ map-append plain_def c.args.defs.now.items (def ∷ []);
      lowered = subst (λ form. AreLowered c.lower_function.new.names fs (functions_of (plain_form form) ++ []) (plain_def def ∷ [])) (sym c.in-FunctionOf.is) (c.in_ok-lower_function.ensures.lowered fs has, tt);
    }
