-- What leaves and nodes of arguments are lowered to.
use Rattle.std.proofs.Common.{◌≡◌, ◌≤◌, ℕ, ℤ, inl, inr, true, length, List, [], ◌∷◌, Some, refl, sym, ◌∙◌, subst, arith, eqb-true}
use Rattle.ef_base.specs.declared.name.Name.{Name}
use Rattle.ef_base.specs.declared.fault.Place.{Place}
use Rattle.ef_base.specs.Texts.{Texts, HasName}
use Rattle.ef_core.specs.declared.env.Bind.{Bind}
use Rattle.ef_core.specs.declared.literal.CoreVar.{CoreVar}
use Rattle.ef_core.specs.Depth.{lits_depth}
use Rattle.ef_core.specs.Env.{held}
use Rattle.ef_core.specs.Everywhere.{Each, LitsHold}
use Rattle.ef_core.specs.Plain as core
use Rattle.ef_core.specs.Plain.{StepTree, lits}
use Rattle.ef_core.specs.Readable.{readable}
use Rattle.ef_core.specs.Scope.{IsAmong}
use Rattle.ef_core.specs.Tree as c
use Rattle.ef_core.specs.Tree.{CoreTree, LitTree}
use Rattle.ef_core.specs.WellFormed.{IsInRange}
use Rattle.ef_forms.specs.Built.{IsDefined}
use Rattle.ef_forms.specs.declared.tables.FunctionName.{FunctionName}
use Rattle.ef_forms.specs.Depth.{all_depth}
use Rattle.ef_forms.specs.Plain.{trees}
use Rattle.ef_forms.specs.Tree as t
use Rattle.ef_forms.specs.Tree.{Tree, Shape, tree, count}
use Rattle.ef_meaning.specs.Lowers.{AreBelow, KeepsExpr}
use Rattle.ef_meaning.proofs.Calls.{call_keeps, remote_call_keeps}
use Rattle.ef_meaning.proofs.Parts.{atom_keeps, int_keeps, var_keeps}
use Rattle.ef_meaning.proofs.Terms.{list_keeps, list_literal_keeps, tuple_keeps, tuple_literal_keeps}
use Rattle.ef_lower.specs.Lowers.{IsArgument, Lowers, LowersAll, lowered}
use Rattle.ef_lower.specs.Nodes.{Joins, literal_values}
use Rattle.ef_lower.specs.Ready.{IsReadableBind, bound_names}
use Rattle.ef_lower.proofs.Forms.{arguments_depth, arguments_lowered, atom_lowered, fun_name_lowered, int_lowered, leaf_form, made_form, simple, single, variable_lowered}
use Rattle.ef_lower.proofs.Names.{held_has}
use Rattle.ef_lower.proofs.Sizes.{counted}

-- ---- literals

module _ (texts : Texts) (levels : ℕ) where
  pub lits_hold : (ls : List LitTree) → Each (IsArgument texts levels) (literal_values ls) → LitsHold (lowered texts) (lits ls)
  lits_hold [] all = tt
  lits_hold (l ∷ ls) all = (all.0.lowered.1, lits_hold ls all.1)

  pub lits_deep : (ls : List LitTree) → Each (IsArgument texts levels) (literal_values ls) → lits_depth (lits ls) ≤ levels
  lits_deep [] all = omega arith
  lits_deep (l ∷ ls) all = let one = all.0.shallow in let rest = lits_deep ls all.1 in omega arith

module _ (texts : Texts) (defined : List FunctionName) where
  pub lowers_as : {d e : Tree} {n m : ℕ} {env0 env1 : List Bind} {a : List StepTree} {v : CoreTree} → d ≡ e → Lowers texts defined e n env0 a m env1 v → Lowers texts defined d n env0 a m env1 v
  lowers_as {d} {e} {n} {m} {env0} {env1} {a} {v} is one = subst (λ z. Lowers texts defined z n env0 a m env1 v) (sym is) one

  pub value_as : {e : Tree} {n m : ℕ} {env0 env1 : List Bind} {a : List StepTree} {v u : CoreTree} → v ≡ u → Lowers texts defined e n env0 a m env1 u → Lowers texts defined e n env0 a m env1 v
  value_as {e} {n} {m} {env0} {env1} {a} {v} {u} is one = subst (Lowers texts defined e n env0 a m env1) (sym is) one

  -- ---- leaves

  module _ (p : Place) {n : ℕ} {env : List Bind} (below : AreBelow n env) (readable_env : Each (IsReadableBind texts) env) where
    pub int_lowers : (i : ℤ) → IsInRange i → Lowers texts defined (tree p (t.int i)) n env [] n env (c.lit (c.int i))
    int_lowers i in_range = record {
      form = leaf_form texts defined (tree p (t.int i)) (c.lit (c.int i)) readable_env (λ y here. absurd (cc)) (int_lowered texts i in_range) tt (omega arith) (λ vs fs variables functions. tt);
      stays = tt;
      keeps = int_keeps texts p i n env below;
    }

    pub atom_lowers : (x : Name) → HasName texts x → Lowers texts defined (tree p (t.atom x)) n env [] n env (c.lit (c.atom x))
    atom_lowers x named = record {
      form = leaf_form texts defined (tree p (t.atom x)) (c.lit (c.atom x)) readable_env (λ y here. absurd (cc)) (atom_lowered texts x named) tt (omega arith) (λ vs fs variables functions. tt);
      stays = tt;
      keeps = atom_keeps texts p x n env below;
    }

    pub var_lowers : (x : Name) (v : CoreVar) → bound_names env x.index ≡ true → held env x ≡ Some v → Lowers texts defined (tree p (t.var x)) n env [] n env (c.var v)
    var_lowers x v bound is = record {
      form = leaf_form texts defined (tree p (t.var x)) (c.var v) readable_env (λ y here. subst (λ z. bound_names env z ≡ true) (eqb-true x.index y here) bound)
          (variable_lowered texts v (held_has (readable texts).variable env x v readable_env is)) tt (omega arith) (λ vs fs variables functions. held_has (IsAmong vs) env x v variables is);
      stays = tt;
      keeps = var_keeps texts p x v n env below is;
    }

  -- ---- calls

  module _ (p q : Place) (x : Name) {es : List Tree} {n m : ℕ} {env0 env1 : List Bind} {a : List StepTree} {vs : List CoreTree} (all : LowersAll texts defined es n env0 a m env1 vs) where
    pub apply_lowers : (arity : ℕ) → arity ≡ length vs → arity ≤ 255 → HasName texts x → IsDefined texts defined (record { name = x; arity = arity }) →
        Lowers texts defined (tree p (t.call (tree q (t.atom x)) (trees es))) n env0 a m env1 (c.apply (c.fun_name (record { name = x; arity = arity })) (core.trees vs))
    apply_lowers arity number few named known =
        let is : arity ≡ count (trees es) = number ∙ all.forms.number ∙ sym (counted es) in
        let e = tree p (t.call (tree q (t.atom x)) (trees es)) in
        let levels = all_depth (trees es) in
        record {
          form = made_form texts defined e (c.apply (c.fun_name (record { name = x; arity = arity })) (core.trees vs)) all.forms (omega arith) (omega arith) (λ y. refl) (
            (simple texts levels vs all.forms.arguments, ((tt, ((tt, single texts levels vs all.forms.arguments), tt)), (tt, tt, tt))),
            fun_name_lowered texts (record { name = x; arity = arity }) named (omega arith),
            arguments_lowered texts levels vs all.forms.arguments,
          )
              tt (let deep = arguments_depth texts levels vs all.forms.arguments in omega arith)
              (λ xs fs functions is. (functions (record { name = x; arity = arity }) known, is));
          stays = tt;
          keeps = subst (λ k. KeepsExpr texts e n env0 a m env1 (c.apply (c.fun_name (record { name = x; arity = k })) (core.trees vs))) (sym is) (call_keeps texts p q x es n env0 a m env1 vs all.keeps);
        }

    pub remote_lowers : (r : Place) (y : Name) → HasName texts x → HasName texts y →
        Lowers texts defined (tree p (t.remote (tree q (t.atom x)) (tree r (t.atom y)) (trees es))) n env0 a m env1 (c.call (c.lit (c.atom x)) (c.lit (c.atom y)) (core.trees vs))
    remote_lowers r y named_x named_y =
        let e = tree p (t.remote (tree q (t.atom x)) (tree r (t.atom y)) (trees es)) in
        let levels = all_depth (trees es) in
        record {
          form = made_form texts defined e (c.call (c.lit (c.atom x)) (c.lit (c.atom y)) (core.trees vs)) all.forms (omega arith) (omega arith) (λ y. refl) (
            (simple texts levels vs all.forms.arguments, ((tt, ((tt, tt, single texts levels vs all.forms.arguments), tt)), (tt, tt, tt))),
            atom_lowered texts x named_x,
            atom_lowered texts y named_y,
            arguments_lowered texts levels vs all.forms.arguments,
          )
              tt (let deep = arguments_depth texts levels vs all.forms.arguments in omega arith)
              (λ xs fs functions is. (tt, tt, is));
          stays = tt;
          keeps = remote_call_keeps texts p q r x y es n env0 a m env1 vs all.keeps;
        }

  -- ---- tuples and lists

  module _ (p : Place) {es : List Tree} {n m : ℕ} {env0 env1 : List Bind} {a : List StepTree} where
    literal_lowered : (vs : List CoreTree) (ls : List LitTree) → vs ≡ literal_values ls → LowersAll texts defined es n env0 a m env1 vs → LowersAll texts defined es n env0 a m env1 (literal_values ls)
    literal_lowered vs ls is all = subst (LowersAll texts defined es n env0 a m env1) is all

    module _ {vs : List CoreTree} {v : CoreTree} where
      pub tuple_lowers : LowersAll texts defined es n env0 a m env1 vs → Joins vs (λ ls. c.lit_tuple (lits ls)) (c.tuple (core.trees vs)) v → Lowers texts defined (tree p (t.tuple (trees es))) n env0 a m env1 v
      tuple_lowers all (inl made) =
          let here = literal_lowered vs made.0 made.1 all in
          let levels = all_depth (trees es) in
          value_as made.2 (record {
            form = made_form texts defined (tree p (t.tuple (trees es))) (c.lit (c.lit_tuple (lits made.0))) here.forms (omega arith) (omega arith) (λ y. refl)
                (((tt, ((tt, (tt, tt)), (tt, tt, tt))), ((tt, ((tt, (tt, tt)), tt)), lits_hold texts levels made.0 here.forms.arguments))) tt
                (let deep = lits_deep texts levels made.0 here.forms.arguments in omega arith) (λ xs fs functions is. tt);
            stays = tt;
            keeps = tuple_literal_keeps texts p es n env0 a m env1 made.0 here.keeps;
          })
      tuple_lowers all (inr made) =
          let levels = all_depth (trees es) in
          value_as made.1 (record {
            form = made_form texts defined (tree p (t.tuple (trees es))) (c.tuple (core.trees vs)) all.forms (omega arith) (omega arith) (λ y. refl)
                ((simple texts levels vs all.forms.arguments, ((made.0, (single texts levels vs all.forms.arguments, tt)), (tt, tt, tt))), arguments_lowered texts levels vs all.forms.arguments) tt
                (let deep = arguments_depth texts levels vs all.forms.arguments in omega arith) (λ xs fs functions is. is);
            stays = tt;
            keeps = tuple_keeps texts p es n env0 a m env1 vs all.keeps;
          })

      pub list_lowers : LowersAll texts defined es n env0 a m env1 vs → Joins vs (λ ls. c.lit_list (lits ls)) (c.list (core.trees vs)) v → Lowers texts defined (tree p (t.list (trees es))) n env0 a m env1 v
      list_lowers all (inl made) =
          let here = literal_lowered vs made.0 made.1 all in
          let levels = all_depth (trees es) in
          value_as made.2 (record {
            form = made_form texts defined (tree p (t.list (trees es))) (c.lit (c.lit_list (lits made.0))) here.forms (omega arith) (omega arith) (λ y. refl)
                (((tt, ((tt, (tt, tt)), (tt, tt, tt))), ((tt, ((tt, (tt, tt)), tt)), lits_hold texts levels made.0 here.forms.arguments))) tt
                (let deep = lits_deep texts levels made.0 here.forms.arguments in omega arith) (λ xs fs functions is. tt);
            stays = tt;
            keeps = list_literal_keeps texts p es n env0 a m env1 made.0 here.keeps;
          })
      list_lowers all (inr made) =
          let levels = all_depth (trees es) in
          value_as made.1 (record {
            form = made_form texts defined (tree p (t.list (trees es))) (c.list (core.trees vs)) all.forms (omega arith) (omega arith) (λ y. refl)
                ((simple texts levels vs all.forms.arguments, ((made.0, (single texts levels vs all.forms.arguments, tt)), (tt, tt, tt))), arguments_lowered texts levels vs all.forms.arguments) tt
                (let deep = arguments_depth texts levels vs all.forms.arguments in omega arith) (λ xs fs functions is. is);
            stays = tt;
            keeps = list_keeps texts p es n env0 a m env1 vs all.keeps;
          })
