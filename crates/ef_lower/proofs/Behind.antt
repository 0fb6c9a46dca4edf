-- What trees are lowered to, one behind another.
use Rattle.std.proofs.Common.{◌≡◌, ◌≤◌, ◌+◌, ◌||◌, ◌==◌, ℕ, inl, inr, false, List, [], ◌∷◌, ◌++◌, None, sym, ap, ◌∙◌, subst, arith, append_assoc, append-nil}
use Rattle.ef_base.specs.declared.name.Name.{Name}
use Rattle.ef_base.specs.declared.fault.Place.{Place}
use Rattle.ef_base.specs.Texts.{Texts}
use Rattle.ef_core.specs.declared.env.Bind.{Bind}
use Rattle.ef_core.specs.declared.literal.CoreVar.{CoreVar}
use Rattle.ef_core.specs.declared.literal.CoreVar.TheVariants.{Numbered}
use Rattle.ef_core.specs.declared.literal.FName.{FName}
use Rattle.ef_core.specs.Depth.{depth}
use Rattle.ef_core.specs.Env.{bind, held}
use Rattle.ef_core.specs.Everywhere.{Each}
use Rattle.ef_core.specs.Plain as core
use Rattle.ef_core.specs.Plain.{StepTree, lits}
use Rattle.ef_core.specs.Scope.{AllInScope}
use Rattle.ef_core.specs.Tree as c
use Rattle.ef_core.specs.Tree.{CoreTree, LitTree}
use Rattle.ef_core.specs.WellFormed.{AreSomeLits}
use Rattle.ef_forms.specs.declared.tables.FunctionName.{FunctionName}
use Rattle.ef_forms.specs.Depth.{all_depth}
use Rattle.ef_forms.specs.Plain.{trees}
use Rattle.ef_forms.specs.Sure.{all_sure, sure}
use Rattle.ef_forms.specs.Tree as t
use Rattle.ef_forms.specs.Tree.{Tree, tree}
use Rattle.ef_lowpat.proofs.Depths.{some_depth}
use Rattle.ef_meaning.specs.Lowers.{AreBelow}
use Rattle.ef_meaning.proofs.Matches.{held_keeps}
use Rattle.ef_meaning.proofs.Parts.{both_keep, nil_keeps, one_step, put_keeps}
use Rattle.ef_meaning.proofs.Terms.{list_to_keeps, list_to_literal_keeps}
use Rattle.ef_lower.specs.Lowers.{Adds, Lowers, LowersAll, StandsFor}
use Rattle.ef_lower.specs.Nodes.{JoinsTo, literal_values}
use Rattle.ef_lower.specs.Ready.{IsReadableBind, bound_names}
use Rattle.ef_lower.proofs.Forms.{argument_form, arguments_both, arguments_depth, arguments_lowered, each_both, form_as, made_form, nothing_form, one_single, put_form, simple, single, steps_wider}
use Rattle.ef_lower.proofs.Kept.{any_keeps, bound_keeps, tail_keeps}
use Rattle.ef_lower.proofs.Made.{lits_deep, lits_hold, value_as}
use Rattle.ef_lower.proofs.Scopes.{has_both}
use Rattle.ef_lower.proofs.Several.{simple_no_run}
use Rattle.ef_lower.proofs.Sizes.{bound_both, depth_both, or_assoc, or_false, sure_both, weight_both}

-- ---- steps behind steps

pub adds_as : {old new : List StepTree} {P Q : List StepTree → Type 0} → ((a : List StepTree) → P a → Q a) → Adds old new P → Adds old new Q
adds_as up one = record { added = one.added; steps = one.steps; is = up one.added one.is }

pub adds_both : {old mid new : List StepTree} {P Q R : List StepTree → Type 0} → ((a b : List StepTree) → P a → Q b → R (a ++ b)) → Adds old mid P → Adds mid new Q → Adds old new R
adds_both {old} up one two = record {
  added = one.added ++ two.added;
  steps = two.steps ∙ ap (λ s. s ++ two.added) one.steps ∙ append_assoc old one.added two.added;
  is = up one.added two.added one.is two.is;
}

pub adds_none : (old : List StepTree) {P : List StepTree → Type 0} → P [] → Adds old old P
adds_none old is = record { added = []; steps = sym (append-nil old); is = is }

-- all steps are those that were added, where there were none before
pub adds_all : {old new : List StepTree} {P : List StepTree → Type 0} → old ≡ [] → Adds old new P → P new
adds_all {old} {new} {P} none one = subst P (sym (one.steps ∙ ap (λ s. s ++ one.added) none)) one.is

-- ---- arguments

-- at most one variable is drawn
pub stands_next : {value : CoreTree} {n m : ℕ} {old new : List StepTree} {v : CoreTree} → StandsFor value n old m new v → (n ≤ m) × (m ≤ n + 1)
stands_next {value} {n} {m} {old} {new} {v} (inl same) = let is = same.2 in (omega arith, omega arith)
stands_next {value} {n} {m} {old} {new} {v} (inr put) = let is = put.1.drawn in (omega arith, omega arith)

pub values_split : (xs : List CoreVar) (fs : List FName) (us vs : List CoreTree) → AllInScope xs fs (core.trees (us ++ vs)) → AllInScope xs fs (core.trees us) × AllInScope xs fs (core.trees vs)
values_split xs fs [] vs is = (tt, is)
values_split xs fs (u ∷ us) vs is = let rest = values_split xs fs us vs is.1 in ((is.0, rest.0), rest.1)

some_literals : (v : CoreTree) (vs : List CoreTree) (ls : List LitTree) → v ∷ vs ≡ literal_values ls → AreSomeLits (lits ls)
some_literals v vs [] is = absurd (cc)
some_literals v vs (l ∷ ls) is = tt

module _ (texts : Texts) (defined : List FunctionName) where
  pub nothing_lowers : {n : ℕ} {env : List Bind} → AreBelow n env → Each (IsReadableBind texts) env → LowersAll texts defined [] n env [] n env []
  nothing_lowers {n} {env} below readable = record { forms = nothing_form texts defined readable; keeps = nil_keeps texts n env below }

  pub values_as : {es : List Tree} {n m : ℕ} {env0 env1 : List Bind} {a : List StepTree} {vs us : List CoreTree} → us ≡ vs → LowersAll texts defined es n env0 a m env1 vs → LowersAll texts defined es n env0 a m env1 us
  values_as {es} {n} {m} {env0} {env1} {a} {vs} {us} same all = subst (LowersAll texts defined es n env0 a m env1) (sym same) all

  pub both_lowers : {es ds : List Tree} {n m k : ℕ} {env0 env1 env2 : List Bind} {a b : List StepTree} {vs us : List CoreTree} → LowersAll texts defined es n env0 a m env1 vs → LowersAll texts defined ds m env1 b k env2 us → LowersAll texts defined (es ++ ds) n env0 (a ++ b) k env2 (vs ++ us)
  both_lowers {es} {ds} {n} {m} {k} {env0} {env1} {env2} {a} {b} {vs} {us} one two = record {
    forms = arguments_both texts defined one.forms two.forms;
    keeps = both_keep texts es ds n env0 a m env1 vs b k env2 us one.keeps two.keeps;
  }

  -- a value that needs no step
  pub leaf_adds : {e : Tree} {n : ℕ} {env : List Bind} {v : CoreTree} (old : List StepTree) → Lowers texts defined e n env [] n env v → Adds old old (λ a. Lowers texts defined e n env a n env v)
  leaf_adds {e} {n} {env} {v} old is = record { added = []; steps = sym (append-nil old); is = is }

  -- a value as an argument
  pub held_lowers : {e : Tree} {n m k : ℕ} {env0 env1 : List Bind} {old mid new : List StepTree} {v x : CoreTree} → Adds old mid (λ a. Lowers texts defined e n env0 a m env1 v) → StandsFor v m mid k new x → Adds old new (λ a. LowersAll texts defined (e ∷ []) n env0 a k env1 (x ∷ []))
  held_lowers {e} {n} {m} {k} {env0} {env1} {old} {mid} {new} {v} {x} one (inl same) = record {
    added = one.added;
    steps = same.3 ∙ one.steps;
    is = subst (λ l. LowersAll texts defined (e ∷ []) n env0 one.added l env1 (x ∷ [])) (sym same.2)
        (subst (λ u. LowersAll texts defined (e ∷ []) n env0 one.added m env1 (u ∷ [])) (sym same.0)
        (record { forms = argument_form texts defined e one.is.form same.1; keeps = one.is.keeps.argument same.1 }));
  }
  held_lowers {e} {n} {m} {k} {env0} {env1} {old} {mid} {new} {v} {x} one (inr put) = record {
    added = one.added ++ one_step (Numbered m) v;
    steps = put.1.steps ∙ ap (λ s. s ++ one_step (Numbered m) v) one.steps ∙ append_assoc old one.added (one_step (Numbered m) v);
    is = subst (λ l. LowersAll texts defined (e ∷ []) n env0 (one.added ++ one_step (Numbered m) v) l env1 (x ∷ [])) (sym put.1.drawn)
        (subst (λ u. LowersAll texts defined (e ∷ []) n env0 (one.added ++ one_step (Numbered m) v) (m + 1) env1 (u ∷ [])) (sym put.0)
        (record { forms = put_form texts defined e one.is.form put.1.in_range; keeps = put_keeps texts e n env0 one.added m env1 v one.is.keeps }));
  }

  -- one more argument
  pub more_lowers : {es all : List Tree} {e : Tree} {n m k l : ℕ} {env0 env1 env2 : List Bind} {old mid next new : List StepTree} {vs us : List CoreTree} {v x : CoreTree} →
      Adds old mid (λ a. LowersAll texts defined es n env0 a m env1 vs) → Adds mid next (λ a. Lowers texts defined e m env1 a k env2 v) → StandsFor v k next l new x → all ≡ es ++ e ∷ [] → us ≡ vs ++ x ∷ [] → Adds old new (λ a. LowersAll texts defined all n env0 a l env2 us)
  more_lowers {es} {all} {e} {n} {m} {k} {l} {env0} {env1} {env2} {old} {mid} {next} {new} {vs} {us} {v} {x} before one stands is same =
      subst (λ z. Adds old new (λ a. LowersAll texts defined z n env0 a l env2 us)) (sym is)
      (subst (λ z. Adds old new (λ a. LowersAll texts defined (es ++ e ∷ []) n env0 a l env2 z)) (sym same)
      (adds_both (λ a b p q. both_lowers p q) before (held_lowers one stands)))

  -- ---- lists with a tail

  module _ (p : Place) (e : Tree) {n m k : ℕ} {env0 env1 env2 : List Bind} {a b : List StepTree} {x v : CoreTree} where
    pub list_to_lowers : (es : List Tree) (vs : List CoreTree) → LowersAll texts defined es n env0 a m env1 vs → LowersAll texts defined (e ∷ []) m env1 b k env2 (x ∷ []) → JoinsTo vs x v → Lowers texts defined (tree p (t.list_to (trees es) e)) n env0 (a ++ b) k env2 v
    list_to_lowers [] [] one two same =
        let both = both_lowers one two in
        let argument = both.forms.arguments.0 in
        value_as texts defined same (record {
          form = made_form texts defined (tree p (t.list_to (trees []) e)) x both.forms (omega arith) (omega arith) (λ y. sym (or_false (sure e y)))
              argument.lowered (simple_no_run x argument.simple) (let deep : depth x ≤ all_depth (trees (e ∷ [])) = argument.shallow in omega arith) (λ xs fs functions is. is.0);
          stays = tt;
          keeps = tail_keeps texts p e (held_keeps texts e n env0 (a ++ b) k env2 x both.keeps);
        })
    list_to_lowers (d ∷ es) [] one two same = absurd (let none = one.forms.number in omega arith)
    list_to_lowers es (w ∷ ws) one two (inl made) =
        let first : LowersAll texts defined es n env0 a m env1 (literal_values made.0) = subst (LowersAll texts defined es n env0 a m env1) made.2 one in
        let last : LowersAll texts defined (e ∷ []) m env1 b k env2 (c.lit made.1 ∷ []) = subst (λ u. LowersAll texts defined (e ∷ []) m env1 b k env2 (u ∷ [])) made.3 two in
        let both = both_lowers first last in
        let weighs = weight_both es (e ∷ []) in
        let deeps = depth_both es (e ∷ []) in
        value_as texts defined made.4 (record {
          form = made_form texts defined (tree p (t.list_to (trees es) e)) (c.lit (c.lit_list_to (lits made.0) made.1)) both.forms (omega arith) (omega arith)
              (λ y. ap (λ z. all_sure (trees es) y || z) (sym (or_false (sure e y))) ∙ sym (sure_both es (e ∷ []) y))
              ((tt, ((tt, (tt, tt)), (tt, tt, tt))), ((tt, ((tt, (some_literals w ws made.0 made.2, tt)), tt)), lits_hold texts (all_depth (trees es)) made.0 first.forms.arguments, last.forms.arguments.0.lowered.1)) tt
              (let front = lits_deep texts (all_depth (trees es)) made.0 first.forms.arguments in let back = last.forms.arguments.0.shallow in omega arith) (λ xs fs functions is. tt);
          stays = tt;
          keeps = list_to_literal_keeps texts p es e n env0 a m env1 b k env2 made.0 made.1 first.keeps last.keeps;
        })
    list_to_lowers es (w ∷ ws) one two (inr made) =
        let both = both_lowers one two in
        let weighs = weight_both es (e ∷ []) in
        let deeps = depth_both es (e ∷ []) in
        let levels = all_depth (trees es) in
        let argument = two.forms.arguments.0 in
        value_as texts defined made.1 (record {
          form = made_form texts defined (tree p (t.list_to (trees es) e)) (c.list_to (core.trees (w ∷ ws)) x) both.forms (omega arith) (omega arith)
              (λ y. ap (λ z. all_sure (trees es) y || z) (sym (or_false (sure e y))) ∙ sym (sure_both es (e ∷ []) y)) (
                ((simple texts levels (w ∷ ws) one.forms.arguments, argument.simple), ((made.0, ((tt, single texts levels (w ∷ ws) one.forms.arguments, one_single texts levels x argument.simple), tt)), (tt, tt, tt))),
                arguments_lowered texts levels (w ∷ ws) one.forms.arguments,
                argument.lowered,
              )
              tt
              (let front = arguments_depth texts levels (w ∷ ws) one.forms.arguments in let back : depth x ≤ all_depth (trees (e ∷ [])) = argument.shallow in omega arith)
              (λ xs fs functions is. let parts = values_split xs fs (w ∷ ws) (x ∷ []) is in (parts.0, parts.1.0));
          stays = tt;
          keeps = list_to_keeps texts p es e n env0 a m env1 b k env2 (w ∷ ws) x one.keeps two.keeps;
        })

  -- ---- matches that need no step

  pub any_lowers : (q r : Place) {e : Tree} {n m : ℕ} {env0 env1 : List Bind} {a : List StepTree} {v : CoreTree} → Lowers texts defined e n env0 a m env1 v → Lowers texts defined (tree q (t.matching (tree r t.any) e)) n env0 a m env1 v
  any_lowers q r {e} one = record {
    form = form_as texts defined e (tree q (t.matching (tree r t.any) e)) one.form (omega arith) (omega arith) (λ y. or_false (sure e y));
    stays = tt;
    keeps = any_keeps texts q r e one.keeps;
  }

  pub new_lowers : (q r : Place) (x : Name) {e : Tree} {n m : ℕ} {env0 env1 : List Bind} {a : List StepTree} {y : CoreVar} → held env1 x ≡ None → LowersAll texts defined (e ∷ []) n env0 a m env1 (c.var y ∷ []) →
      Lowers texts defined (tree q (t.matching (tree r (t.var x)) e)) n env0 a m (env1 ++ bind x y ∷ []) (c.var y)
  new_lowers q r x {e} {n} {m} {env0} {env1} {a} {y} free one =
      let d = tree q (t.matching (tree r (t.var x)) e) in
      let argument = one.forms.arguments.0 in
      record {
        form = record {
          names = record {
            more = one.forms.names.more ++ bind x y ∷ [];
            grown = ap (λ l. l ++ bind x y ∷ []) one.forms.names.grown ∙ append_assoc env0 one.forms.names.more (bind x y ∷ []);
            named = λ z.
                bound_both env1 (bind x y ∷ []) z
                ∙ ap (λ b. b || (x.index == z || false)) (one.forms.names.named z)
                ∙ ap (λ b. bound_names env0 z || b || (x.index == z || false)) (or_false (sure e z))
                ∙ ap (λ b. bound_names env0 z || sure e z || b) (or_false (x.index == z))
                ∙ or_assoc (bound_names env0 z) (sure e z) (x.index == z)
                ∙ ap (λ b. bound_names env0 z || b) (sym (or_false (sure e z || x.index == z)));
            readable = each_both (IsReadableBind texts) env1 (bind x y ∷ []) one.forms.names.readable (argument.lowered.1.1.0, tt);
          };
          drawn = one.forms.drawn;
          enough = let p = one.forms.enough in omega arith;
          steps = steps_wider texts (all_depth (trees (e ∷ []))) (all_depth (trees (d ∷ []))) a (omega arith) one.forms.steps;
          lowered = argument.lowered;
          no_run = tt;
          shallow = let some = some_depth e in omega arith;
          argument = λ simple. omega arith;
          in_scope = λ xs fs variables functions. let all = one.forms.in_scope xs fs variables functions in (all.0, has_both env1 (bind x y ∷ []) _ all.1 (all.2.0, tt), all.2);
        };
        stays = tt;
        keeps = bound_keeps texts q r x e n env0 a m env1 y free one.keeps;
      }
