-- The Core of the examples keeps the meaning of their source: by the lemmas of the lowering.
use Rattle.std.proofs.Common.{◌≡◌, ◌≢◌, ◌≤◌, codes, ℕ, ◌==◌, true, List, [], ◌∷◌, ⊎_elim, inl, inr, refl, sym, ap, arith}
use Rattle.std.proofs.lemmas.Bool.Decides.{nat_tests}
use Rattle.ef_base.specs.declared.name.Name.{Name}
use Rattle.ef_base.specs.Texts.{text}
use Rattle.ef_core.specs.declared.env.Bind.{Bind}
use Rattle.ef_core.specs.declared.literal.CoreVar.TheVariants.{Numbered}
use Rattle.ef_core.specs.Tree.{CoreTree, DefTree, lets}
use Rattle.ef_forms.specs.declared.tables.FunctionName.{FunctionName}
use Rattle.ef_core.specs.Plain.{steps}
use Rattle.ef_forms.specs.Tree.{Tree, ModuleTree, end, count}
use Rattle.ef_forms.specs.Plain.{trees}
use Rattle.ef_forms.specs.Built.{AreBuilt, IsAmong, IsBuilt, IsBuiltFunction, IsModuleInfo, functions_in}
use Rattle.ef_meaning.specs.Bound.{IsBoundModule}
use Rattle.ef_meaning.specs.Lowers.{KeepsBody, KeepsFunctions, KeepsDefinition, KeepDefinitions, AppendsAll, env_from}
use Rattle.ef_meaning.specs.Rows.{CoreKeeps}
use Rattle.ef_meaning.specs.Examples as e
use Rattle.ef_meaning.specs.Examples.{table, two_calls, two_calls_defs, core_two_calls, dropped_value, dropped_value_defs, core_dropped_value, ordered, ordered_defs, core_ordered}
use Rattle.ef_meaning.specs.Matching.{named_value, named_value_defs, core_named_value}
use Rattle.ef_meaning.specs.Branching.{tagged_value, tagged_value_defs, core_tagged_value}
use Rattle.ef_meaning.proofs.Appends.{atom_appends, var_appends, nil_appends, call_appends, remote_appends, argument_appends, put_appends, both_append, last_appends, expression_appends, finish_keeps}
use Rattle.ef_meaning.proofs.Bodies.{function_keeps}
use Rattle.ef_meaning.proofs.Kept.{module_keeps}
use Rattle.ef_meaning.proofs.NamedValue.{named_definition}
use Rattle.ef_meaning.proofs.TaggedValue.{tagged_definition}

alone : {A : Type 0} (x : A) → IsAmong x [] → ⊥
alone x h = h

abbrev one : Name → List Bind
one x = env_from 0 (x ∷ [])

same_number : (n : ℕ) → (n == n) ≡ true
same_number n = grind (arith, nat_tests)

-- the parameter, as an argument
parameter : (x : Name) → AppendsAll table (e.var x ∷ []) 1 (one x) [] 1 (one x) [] (e.core_var 0 ∷ [])
parameter x = argument_appends tt (var_appends e.here x (Numbered 0) (omega arith, tt) (rw (same_number x.index) refl))

-- ---- bodies

-- k(g:h(X))
nested : KeepsBody table (e.call e.k_name (e.remote e.g_name e.h_name (e.var e.x_name ∷ []) ∷ []) ∷ []) (one e.x_name) [] (lets (steps (e.step 1 (e.core_call e.g_name e.h_name (e.core_var 0 ∷ [])) ∷ [])) (e.core_apply e.k_name 1 (e.core_var 1 ∷ [])))
nested = finish_keeps (expression_appends (omega arith, tt) (call_appends e.here e.here e.k_name (put_appends (remote_appends e.here e.here e.here e.g_name e.h_name (parameter e.x_name)))))

-- g:i(Y, a)
with_atom : KeepsBody table (e.remote e.g_name e.i_name (e.var e.y_name ∷ e.atom e.a_name ∷ []) ∷ []) (one e.y_name) [] (e.core_call e.g_name e.i_name (e.core_var 0 ∷ e.core_atom e.a_name ∷ []))
with_atom = finish_keeps (expression_appends (omega arith, tt) (remote_appends e.here e.here e.here e.g_name e.i_name
    (both_append (parameter e.y_name) (argument_appends tt (atom_appends e.here e.a_name (omega arith, tt))))))

-- g:h(X), X
dropping : KeepsBody table (e.remote e.g_name e.h_name (e.var e.x_name ∷ []) ∷ e.var e.x_name ∷ []) (one e.x_name) [] (lets (steps (e.step 1 (e.core_call e.g_name e.h_name (e.core_var 0 ∷ [])) ∷ [])) (e.core_var 0))
dropping = finish_keeps (last_appends (put_appends (remote_appends e.here e.here e.here e.g_name e.h_name (parameter e.x_name))) (var_appends e.here e.x_name (Numbered 0) (omega arith, tt) refl))

-- l:m()
no_argument : KeepsBody table (e.remote e.l_name e.m_name [] ∷ []) [] [] (e.core_call e.l_name e.m_name [])
no_argument = finish_keeps {n0 = 0} (expression_appends tt (remote_appends e.here e.here e.here e.l_name e.m_name (nil_appends tt)))

-- g:h(X, i:j(), k())
in_order : KeepsBody table (e.remote e.g_name e.h_name (e.var e.x_name ∷ e.remote e.i_name e.j_name [] ∷ e.call e.k_name [] ∷ []) ∷ []) (one e.x_name) []
    (lets (steps (e.step 1 (e.core_call e.i_name e.j_name []) ∷ e.step 2 (e.core_apply e.k_name 0 []) ∷ [])) (e.core_call e.g_name e.h_name (e.core_var 0 ∷ e.core_var 1 ∷ e.core_var 2 ∷ [])))
in_order = finish_keeps (expression_appends (omega arith, tt) (remote_appends e.here e.here e.here e.g_name e.h_name
    (both_append (both_append (parameter e.x_name) (put_appends (remote_appends e.here e.here e.here e.i_name e.j_name (nil_appends (omega arith, tt)))))
    (put_appends (call_appends e.here e.here e.k_name (nil_appends (omega arith, tt)))))))

-- ---- functions and modules

of_one : (x : Name) (es : List Tree) (body : CoreTree) (n : Name) → KeepsBody table es (one x) [] body → KeepsDefinition table (e.function n 1 (x ∷ []) es) (e.core_function n 1 (Numbered 0 ∷ []) body)
of_one x es body n k = record { name = refl; arity = refl; parameters = refl; keeps = function_keeps table e.here (trees (e.var x ∷ [])) (x ∷ []) es body (refl, tt) (alone x, tt) k }

of_none : (es : List Tree) (body : CoreTree) (n : Name) → KeepsBody table es [] [] body → KeepsDefinition table (e.function n 0 [] es) (e.core_function n 0 [] body)
of_none es body n k = record { name = refl; arity = refl; parameters = refl; keeps = function_keeps table e.here end [] es body tt tt k }

whole : (m : ModuleTree) (ds : List DefTree) → m.name ≡ e.m_name → KeepDefinitions table (functions_in m.forms) ds → KeepsFunctions table m (e.core_with ds)
whole m ds same k = record {
  functions = ds;
  information = e.core_function e.module_info_name 0 [] (e.core_call e.erlang_name e.get_module_info_name (e.core_atom e.m_name ∷ []));
  item = e.core_function e.module_info_name 1 (Numbered 0 ∷ []) (e.core_call e.erlang_name e.get_module_info_name (e.core_atom e.m_name ∷ e.core_var 0 ∷ []));
  definitions = refl;
  keep = k;
  is_information = record { erlang = e.erlang_name; get_module_info = e.get_module_info_name; erlang_text = refl; get_module_info_text = refl; name_text = refl; arity = refl; parameters = refl; body = ap (λ n. e.core_call e.erlang_name e.get_module_info_name (e.core_atom n ∷ [])) (sym same) };
  is_item = record { erlang = e.erlang_name; get_module_info = e.get_module_info_name; erlang_text = refl; get_module_info_text = refl; name_text = refl; arity = refl; parameters = refl; body = ap (λ n. e.core_call e.erlang_name e.get_module_info_name (e.core_atom n ∷ e.core_var 0 ∷ [])) (sym same) };
}

-- ---- what is built

-- another name than `module_info`
no_info : (k : FunctionName) → text table k.name ≢ codes "module_info" → IsModuleInfo table k → ⊥
no_info k apart h = apart h.0

apart : (k l : FunctionName) → k.name.index ≢ l.name.index → IsAmong k (l ∷ []) → ⊥
apart k l differ h = ⊎_elim (λ p. differ (sym (ap (λ (z : FunctionName). z.name.index) p))) (λ q. q) h

abbrev f_key : FunctionName
f_key = record { name = e.f_name; arity = 1 }

abbrev k_key : ℕ → FunctionName
k_key n = record { name = e.k_name; arity = n }

-- functions of one parameter, and of none
one_built : (defs : List FunctionName) (n x : Name) (es : List Tree) → text table n ≢ codes "module_info" → 1 ≤ count (trees es) → AreBuilt table defs (trees es) → IsBuiltFunction table defs (e.function n 1 (x ∷ []) es)
one_built defs n x es differ full built = (no_info (record { name = n; arity = 1 }) differ, (refl, (tt, tt), full, built, tt))

none_built : (defs : List FunctionName) (n : Name) (es : List Tree) → text table n ≢ codes "module_info" → 1 ≤ count (trees es) → AreBuilt table defs (trees es) → IsBuiltFunction table defs (e.function n 0 [] es)
none_built defs n es differ full built = (no_info (record { name = n; arity = 0 }) differ, (refl, tt, full, built, tt))

two_built : IsBuilt table two_calls
two_built = record {
  forms = (tt, (tt, (tt, tt)));
  one_export = refl;
  functions = (apart f_key (k_key 1) (λ p. absurd (omega arith)), (alone (k_key 1), tt));
  exports = (alone f_key, tt);
  exported = (inl (inl refl), tt);
  bodies = (
    one_built (f_key ∷ k_key 1 ∷ []) e.f_name e.x_name (e.call e.k_name (e.remote e.g_name e.h_name (e.var e.x_name ∷ []) ∷ []) ∷ []) (λ p. absurd cc) (omega arith) ((inl (inr (inl refl)), (((λ p. absurd cc), tt, (tt, tt)), tt)), tt),
    (one_built (f_key ∷ k_key 1 ∷ []) e.k_name e.y_name (e.remote e.g_name e.i_name (e.var e.y_name ∷ e.atom e.a_name ∷ []) ∷ []) (λ p. absurd cc) (omega arith) (((λ p. absurd cc), tt, (tt, (tt, tt))), tt), tt),
  );
}

two_bound : IsBoundModule table two_calls
two_bound = (refl, (refl, tt))

dropped_built : IsBuilt table dropped_value
dropped_built = record {
  forms = (tt, (tt, tt));
  one_export = refl;
  functions = (alone f_key, tt);
  exports = (alone f_key, tt);
  exported = (inl (inl refl), tt);
  bodies = (one_built (f_key ∷ []) e.f_name e.x_name (e.remote e.g_name e.h_name (e.var e.x_name ∷ []) ∷ e.var e.x_name ∷ []) (λ p. absurd cc) (omega arith) (((λ p. absurd cc), tt, (tt, tt)), (tt, tt)), tt);
}

dropped_bound : IsBoundModule table dropped_value
dropped_bound = (refl, tt)

ordered_built : IsBuilt table ordered
ordered_built = record {
  forms = (tt, (tt, (tt, tt)));
  one_export = refl;
  functions = (apart f_key (k_key 0) (λ p. absurd (omega arith)), (alone (k_key 0), tt));
  exports = (alone f_key, tt);
  exported = (inl (inl refl), tt);
  bodies = (
    one_built (f_key ∷ k_key 0 ∷ []) e.f_name e.x_name (e.remote e.g_name e.h_name (e.var e.x_name ∷ e.remote e.i_name e.j_name [] ∷ e.call e.k_name [] ∷ []) ∷ []) (λ p. absurd cc) (omega arith)
        (((λ p. absurd cc), tt, (tt, (((λ p. absurd cc), tt, tt), ((inl (inr (inl refl)), tt), tt)))), tt),
    (none_built (f_key ∷ k_key 0 ∷ []) e.k_name (e.remote e.l_name e.m_name [] ∷ []) (λ p. absurd cc) (omega arith) (((λ p. absurd cc), tt, tt), tt), tt),
  );
}

ordered_bound : IsBoundModule table ordered
ordered_bound = (refl, (refl, tt))

named_built : IsBuilt table named_value
named_built = record {
  forms = (tt, (tt, tt));
  one_export = refl;
  functions = (alone f_key, tt);
  exports = (alone f_key, tt);
  exported = (inl (inl refl), tt);
  bodies = ((no_info f_key (λ p. absurd cc), (refl, (tt, tt), omega arith, ((tt, ((λ p. absurd cc), tt, (tt, tt))), ((tt, (tt, tt)), tt)), tt)), tt);
}

named_bound : IsBoundModule table named_value
named_bound = (refl, tt)

tagged_built : IsBuilt table tagged_value
tagged_built = record {
  forms = (tt, (tt, tt));
  one_export = refl;
  functions = (alone f_key, tt);
  exports = (alone f_key, tt);
  exported = (inl (inl refl), tt);
  bodies = (
    (
      no_info f_key (λ p. absurd cc),
      (
        refl,
        (tt, tt),
        omega arith,
        ((tt, tt, (refl, ((tt, (tt, tt)), tt), omega arith, (tt, tt), (refl, ((tt, (tt, tt)), tt), omega arith, (tt, tt), tt))), (tt, tt)),
        tt,
      ),
    ),
    tt,
  );
}

tagged_bound : IsBoundModule table tagged_value
tagged_bound = (refl, tt)

pub core_keeps : CoreKeeps
core_keeps =
    let two : KeepDefinitions table (functions_in two_calls.forms) two_calls_defs = (of_one e.x_name _ _ e.f_name nested, (of_one e.y_name _ _ e.k_name with_atom, tt)) in
    let drop : KeepDefinitions table (functions_in dropped_value.forms) dropped_value_defs = (of_one e.x_name _ _ e.f_name dropping, tt) in
    let order : KeepDefinitions table (functions_in ordered.forms) ordered_defs = (of_one e.x_name _ _ e.f_name in_order, (of_none _ _ e.k_name no_argument, tt)) in
    record {
      answered = module_keeps table two_calls core_two_calls (whole two_calls two_calls_defs refl two) two_built two_bound;
      dropped = module_keeps table dropped_value core_dropped_value (whole dropped_value dropped_value_defs refl drop) dropped_built dropped_bound;
      named = module_keeps table named_value core_named_value (whole named_value named_value_defs refl (named_definition, tt)) named_built named_bound;
      tagged = module_keeps table tagged_value core_tagged_value (whole tagged_value tagged_value_defs refl (tagged_definition, tt)) tagged_built tagged_bound;
      left_to_right = module_keeps table ordered core_ordered (whole ordered ordered_defs refl order) ordered_built ordered_bound;
    }
