-- What is put behind steps that are there: one lemma for each part of the lowering.
use Rattle.std.proofs.Common.{◌≡◌, ℕ, ℤ, ◌+◌, ◌≤◌, ◌||◌, List, [], ◌∷◌, ◌++◌, length, map, Some, sym, ap, ◌∙◌, subst, append_assoc, append-nil}
use Rattle.ef_base.specs.declared.name.Name.{Name}
use Rattle.ef_base.specs.declared.fault.Place.{Place}
use Rattle.ef_base.specs.Texts.{Texts}
use Rattle.ef_core.specs.declared.env.Bind.{Bind}
use Rattle.ef_core.specs.declared.literal.CoreVar.{CoreVar}
use Rattle.ef_core.specs.declared.literal.CoreVar.TheVariants.{Numbered}
use Rattle.ef_core.specs.Env.{held}
use Rattle.ef_core.specs.declared.lowered.Test.{Test}
use Rattle.ef_core.specs.LetForm.{IsSimple}
use Rattle.ef_core.specs.Plain as plain
use Rattle.ef_core.specs.Plain.{StepTree, ClauseTree, lits}
use Rattle.ef_core.specs.Tree as c
use Rattle.ef_core.specs.Tree.{CoreTree, LitTree, PatTrees}
use Rattle.ef_forms.specs.Tree as t
use Rattle.ef_forms.specs.Tree.{Tree, Clauses, tree, count}
use Rattle.ef_forms.specs.Plain.{trees}
use Rattle.ef_forms.specs.Sure.{clauses_sure}
use Rattle.ef_meaning.specs.Exception.{badmatch, case_clause}
use Rattle.ef_meaning.specs.Lowers.{AreBelow, KeepsBody, Appends, AppendsAll, AppendsLast, params_from, env_from, finished}
use Rattle.ef_meaning.specs.Named.{bound_names, name_set}
use Rattle.ef_meaning.specs.Patterns.{IsGuard, KeepsPatterns, KeepsPicks}
use Rattle.ef_meaning.specs.Cases.{AreHeld, FailsValue, HoldsNames, case_step, match_case, names_of, together, variables}
use Rattle.ef_meaning.proofs.Parts.{int_keeps, atom_keeps, var_keeps, nil_keeps, both_keep, put_keeps, drawn_keeps, one_step}
use Rattle.ef_meaning.proofs.Calls.{call_keeps, remote_call_keeps}
use Rattle.ef_meaning.proofs.Bodies.{last_keeps, finished_keeps, body_exports}
use Rattle.ef_meaning.proofs.Terms.{tuple_keeps, list_keeps, tuple_literal_keeps, list_literal_keeps, list_to_keeps, list_to_literal_keeps}
use Rattle.ef_meaning.proofs.Matches.{held_keeps, match_keeps}
use Rattle.ef_meaning.proofs.CaseKeeps.{case_keeps}

module _ {now : Texts} {env : List Bind} {n : ℕ} {old : List StepTree} where
  -- what needs no step
  pub int_appends : (p : Place) (i : ℤ) → AreBelow n env → Appends now (tree p (t.int i)) n env old n env old (c.lit (c.int i))
  int_appends p i below = record { added = []; steps = sym (append-nil old); keeps = int_keeps now p i n env below }

  pub atom_appends : (p : Place) (x : Name) → AreBelow n env → Appends now (tree p (t.atom x)) n env old n env old (c.lit (c.atom x))
  atom_appends p x below = record { added = []; steps = sym (append-nil old); keeps = atom_keeps now p x n env below }

  pub var_appends : (p : Place) (x : Name) (y : CoreVar) → AreBelow n env → held env x ≡ Some y → Appends now (tree p (t.var x)) n env old n env old (c.var y)
  var_appends p x y below is = record { added = []; steps = sym (append-nil old); keeps = var_keeps now p x y n env below is }

  pub nil_appends : AreBelow n env → AppendsAll now [] n env old n env old []
  nil_appends below = record { added = []; steps = sym (append-nil old); keeps = nil_keeps now n env below }

module _ {now : Texts} {n0 : ℕ} {env0 : List Bind} {old : List StepTree} {n1 : ℕ} {env1 : List Bind} {mid : List StepTree} where
  -- a call of a function of the module
  pub call_appends : {es : List Tree} {xs : List CoreTree} (p q : Place) (x : Name) → AppendsAll now es n0 env0 old n1 env1 mid xs →
      Appends now (tree p (t.call (tree q (t.atom x)) (trees es))) n0 env0 old n1 env1 mid (c.apply (c.fun_name (record { name = x; arity = count (trees es) })) (plain.trees xs))
  call_appends {es} {xs} p q x k = record { added = k.added; steps = k.steps; keeps = call_keeps now p q x es n0 env0 k.added n1 env1 xs k.keeps }

  -- a remote call of two atoms
  pub remote_appends : {es : List Tree} {xs : List CoreTree} (p q r : Place) (m f : Name) → AppendsAll now es n0 env0 old n1 env1 mid xs →
      Appends now (tree p (t.remote (tree q (t.atom m)) (tree r (t.atom f)) (trees es))) n0 env0 old n1 env1 mid (c.call (c.lit (c.atom m)) (c.lit (c.atom f)) (plain.trees xs))
  remote_appends {es} {xs} p q r m f k = record { added = k.added; steps = k.steps; keeps = remote_call_keeps now p q r m f es n0 env0 k.added n1 env1 xs k.keeps }

  -- a value that is an argument
  pub argument_appends : {e : Tree} {value : CoreTree} → IsSimple value → Appends now e n0 env0 old n1 env1 mid value → AppendsAll now (e ∷ []) n0 env0 old n1 env1 mid (value ∷ [])
  argument_appends simple k = record { added = k.added; steps = k.steps; keeps = k.keeps.argument simple }

  -- a value that one more step puts into the next variable
  pub put_appends : {e : Tree} {value : CoreTree} → Appends now e n0 env0 old n1 env1 mid value → AppendsAll now (e ∷ []) n0 env0 old (n1 + 1) env1 (mid ++ one_step (Numbered n1) value) (c.var (Numbered n1) ∷ [])
  put_appends {e} {value} k = record {
    added = k.added ++ one_step (Numbered n1) value;
    steps = ap (λ l. l ++ one_step (Numbered n1) value) k.steps ∙ append_assoc old k.added (one_step (Numbered n1) value);
    keeps = put_keeps now e n0 env0 k.added n1 env1 value k.keeps;
  }

  -- an argument is a value
  pub held_appends : {e : Tree} {x : CoreTree} → AppendsAll now (e ∷ []) n0 env0 old n1 env1 mid (x ∷ []) → Appends now e n0 env0 old n1 env1 mid x
  held_appends {e} {x} k = record { added = k.added; steps = k.steps; keeps = held_keeps now e n0 env0 k.added n1 env1 x k.keeps }

  -- ---- lists and tuples

  pub tuple_appends : {es : List Tree} {xs : List CoreTree} (p : Place) → AppendsAll now es n0 env0 old n1 env1 mid xs → Appends now (tree p (t.tuple (trees es))) n0 env0 old n1 env1 mid (c.tuple (plain.trees xs))
  tuple_appends {es} {xs} p k = record { added = k.added; steps = k.steps; keeps = tuple_keeps now p es n0 env0 k.added n1 env1 xs k.keeps }

  pub list_appends : {es : List Tree} {xs : List CoreTree} (p : Place) → AppendsAll now es n0 env0 old n1 env1 mid xs → Appends now (tree p (t.list (trees es))) n0 env0 old n1 env1 mid (c.list (plain.trees xs))
  list_appends {es} {xs} p k = record { added = k.added; steps = k.steps; keeps = list_keeps now p es n0 env0 k.added n1 env1 xs k.keeps }

  -- of literals alone
  pub tuple_literal_appends : {es : List Tree} (p : Place) (ls : List LitTree) → AppendsAll now es n0 env0 old n1 env1 mid (map (λ l. c.lit l) ls) → Appends now (tree p (t.tuple (trees es))) n0 env0 old n1 env1 mid (c.lit (c.lit_tuple (lits ls)))
  tuple_literal_appends {es} p ls k = record { added = k.added; steps = k.steps; keeps = tuple_literal_keeps now p es n0 env0 k.added n1 env1 ls k.keeps }

  pub list_literal_appends : {es : List Tree} (p : Place) (ls : List LitTree) → AppendsAll now es n0 env0 old n1 env1 mid (map (λ l. c.lit l) ls) → Appends now (tree p (t.list (trees es))) n0 env0 old n1 env1 mid (c.lit (c.lit_list (lits ls)))
  list_literal_appends {es} p ls k = record { added = k.added; steps = k.steps; keeps = list_literal_keeps now p es n0 env0 k.added n1 env1 ls k.keeps }

  -- items, and then the tail
  pub list_to_appends : {es : List Tree} {e : Tree} {xs : List CoreTree} {y : CoreTree} {n2 : ℕ} {env2 : List Bind} {new : List StepTree} (p : Place) → AppendsAll now es n0 env0 old n1 env1 mid xs → AppendsAll now (e ∷ []) n1 env1 mid n2 env2 new (y ∷ []) →
      Appends now (tree p (t.list_to (trees es) e)) n0 env0 old n2 env2 new (c.list_to (plain.trees xs) y)
  list_to_appends {es} {e} {xs} {y} {n2} {env2} {new} p k l = record {
    added = k.added ++ l.added;
    steps = l.steps ∙ ap (λ z. z ++ l.added) k.steps ∙ append_assoc old k.added l.added;
    keeps = list_to_keeps now p es e n0 env0 k.added n1 env1 l.added n2 env2 xs y k.keeps l.keeps;
  }

  pub list_to_literal_appends : {es : List Tree} {e : Tree} {n2 : ℕ} {env2 : List Bind} {new : List StepTree} (p : Place) (ls : List LitTree) (l : LitTree) → AppendsAll now es n0 env0 old n1 env1 mid (map (λ m. c.lit m) ls) → AppendsAll now (e ∷ []) n1 env1 mid n2 env2 new (c.lit l ∷ []) →
      Appends now (tree p (t.list_to (trees es) e)) n0 env0 old n2 env2 new (c.lit (c.lit_list_to (lits ls) l))
  list_to_literal_appends {es} {e} {n2} {env2} {new} p ls l k m = record {
    added = k.added ++ m.added;
    steps = m.steps ∙ ap (λ z. z ++ m.added) k.steps ∙ append_assoc old k.added m.added;
    keeps = list_to_literal_keeps now p es e n0 env0 k.added n1 env1 m.added n2 env2 ls l k.keeps m.keeps;
  }

  -- ---- matches

  -- a value that is held, and a step with the names that the pattern binds
  pub match_appends : {p e : Tree} {x : CoreTree} {pats : PatTrees} {tests : List Test} {n2 : ℕ} {binds : List Bind} (q : Place) (guard always : CoreTree) (z : CoreVar) (fails : CoreTree) (n3 n4 : ℕ) → AppendsAll now (e ∷ []) n0 env0 old n1 env1 mid (x ∷ []) →
      KeepsPatterns now (t.more p t.end) n1 env1 pats tests n2 binds → AreHeld (env1 ++ binds) binds → IsGuard now tests guard → IsGuard now [] always → FailsValue now z badmatch fails → n2 ≤ n3 → n3 + length (names_of binds) ≤ n4 →
      Appends now (tree q (t.matching p e)) n0 env0 old n4 (env1 ++ env_from n3 (names_of binds)) (mid ++ record { vars = params_from n3 (names_of binds); value = match_case x pats guard binds always z fails } ∷ []) x
  match_appends {p} {e} {x} {pats} {tests} {n2} {binds} q guard always z fails n3 n4 k patterns held is none failing later enough =
      let step : StepTree = record { vars = params_from n3 (names_of binds); value = match_case x pats guard binds always z fails } in
      record {
        added = k.added ++ step ∷ [];
        steps = ap (λ l. l ++ step ∷ []) k.steps ∙ append_assoc old k.added (step ∷ []);
        keeps = held_keeps now (tree q (t.matching p e)) n0 env0 (k.added ++ step ∷ []) n4 (env1 ++ env_from n3 (names_of binds)) x
            (match_keeps now q p e n0 env0 k.added n1 env1 x pats tests n2 binds guard always z fails n3 n4 k.keeps patterns held is none failing later enough);
      }

  -- ---- `case`

  -- a value that is held, and a step with the value of the case and the names that every clause binds
  pub case_appends : {e : Tree} {x : CoreTree} {cs : Clauses} {made : List ClauseTree} (q : Place) (sure : List Name) (always : CoreTree) (z : CoreVar) (fails : CoreTree) (n3 n4 : ℕ) → AppendsAll now (e ∷ []) n0 env0 old n1 env1 mid (x ∷ []) →
      KeepsPicks now cs env1 sure made → IsGuard now [] always → FailsValue now z case_clause fails → ((y : ℕ) → (bound_names env1 y || name_set sure y) ≡ (bound_names env1 y || clauses_sure cs y)) → n1 ≤ n3 → n3 + 1 + length sure ≤ n4 →
      AppendsAll now (tree q (t.case_of e cs) ∷ []) n0 env0 old n4 (env1 ++ env_from (n3 + 1) sure) (mid ++ case_step n3 sure x made always z fails ∷ []) (c.var (Numbered n3) ∷ [])
  case_appends {e} {x} {cs} {made} q sure always z fails n3 n4 k picks none failing names later enough =
      let step : StepTree = case_step n3 sure x made always z fails in
      record {
        added = k.added ++ step ∷ [];
        steps = ap (λ l. l ++ step ∷ []) k.steps ∙ append_assoc old k.added (step ∷ []);
        keeps = case_keeps now q e cs n0 env0 k.added n1 env1 x sure made always z fails n3 n4 k.keeps picks none failing names later enough;
      }

  -- variables that are drawn and not used
  pub more_drawn : {es : List Tree} {xs : List CoreTree} (m : ℕ) → n1 ≤ m → AppendsAll now es n0 env0 old n1 env1 mid xs → AppendsAll now es n0 env0 old m env1 mid xs
  more_drawn {es} {xs} m le k = record { added = k.added; steps = k.steps; keeps = drawn_keeps now es n0 env0 k.added n1 env1 xs m le k.keeps }

  -- ---- one after another

  pub both_append : {es fs : List Tree} {xs ys : List CoreTree} {n2 : ℕ} {env2 : List Bind} {new : List StepTree} → AppendsAll now es n0 env0 old n1 env1 mid xs → AppendsAll now fs n1 env1 mid n2 env2 new ys → AppendsAll now (es ++ fs) n0 env0 old n2 env2 new (xs ++ ys)
  both_append {es} {fs} {xs} {ys} {n2} {env2} {new} k l = record {
    added = k.added ++ l.added;
    steps = l.steps ∙ ap (λ z. z ++ l.added) k.steps ∙ append_assoc old k.added l.added;
    keeps = both_keep now es fs n0 env0 k.added n1 env1 xs l.added n2 env2 ys k.keeps l.keeps;
  }

  -- what goes before, and the last expression of a body
  pub last_appends : {es : List Tree} {e : Tree} {xs : List CoreTree} {value : CoreTree} {n2 : ℕ} {env2 : List Bind} {new : List StepTree} → AppendsAll now es n0 env0 old n1 env1 mid xs → Appends now e n1 env1 mid n2 env2 new value → AppendsLast now (es ++ e ∷ []) n0 env0 old n2 env2 new value
  last_appends {es} {e} {xs} {value} {n2} {env2} {new} k l = record {
    added = k.added ++ l.added;
    steps = l.steps ∙ ap (λ z. z ++ l.added) k.steps ∙ append_assoc old k.added l.added;
    keeps = last_keeps now es e n0 env0 k.added n1 env1 xs l.added n2 env2 value k.keeps l.keeps;
  }

  -- ---- at what is equal

  pub appends_as : {e f : Tree} {value made : CoreTree} → f ≡ e → made ≡ value → Appends now e n0 env0 old n1 env1 mid value → Appends now f n0 env0 old n1 env1 mid made
  appends_as {e} {f} {value} {made} p q k = subst (λ z. Appends now z n0 env0 old n1 env1 mid made) (sym p) (subst (λ v. Appends now e n0 env0 old n1 env1 mid v) (sym q) k)

-- a lone expression is a body
pub expression_appends : {now : Texts} {e : Tree} {n0 : ℕ} {env0 : List Bind} {old : List StepTree} {n1 : ℕ} {env1 : List Bind} {new : List StepTree} {value : CoreTree} → AreBelow n0 env0 → Appends now e n0 env0 old n1 env1 new value → AppendsLast now (e ∷ []) n0 env0 old n1 env1 new value
expression_appends below k = last_appends (nil_appends below) k

-- the steps and the value, as one expression
pub finish_keeps : {now : Texts} {es : List Tree} {n0 : ℕ} {env0 : List Bind} {n1 : ℕ} {env1 : List Bind} {new : List StepTree} {value : CoreTree} → AppendsLast now es n0 env0 [] n1 env1 new value → KeepsBody now es env0 [] (finished new value)
finish_keeps {now} {es} {n0} {env0} {n1} {env1} {new} {value} k = subst (λ ss. KeepsBody now es env0 [] (finished ss value)) (sym k.steps) (finished_keeps now es n0 env0 k.added n1 env1 value k.keeps)

-- the same, with the values of names
pub export_keeps : {now : Texts} {es : List Tree} {n0 : ℕ} {env0 : List Bind} {n1 : ℕ} {env1 : List Bind} {new : List StepTree} {value : CoreTree} (sure : List Name) (ys : List CoreVar) → HoldsNames env1 sure ys → AppendsLast now es n0 env0 [] n1 env1 new value →
    KeepsBody now es env0 sure (finished new (together (value ∷ variables ys)))
export_keeps {now} {es} {n0} {env0} {n1} {env1} {new} {value} sure ys are k =
    subst (λ ss. KeepsBody now es env0 sure (finished ss (together (value ∷ variables ys)))) (sym k.steps) (body_exports now es n0 env0 k.added n1 env1 value k.keeps sure ys are)
