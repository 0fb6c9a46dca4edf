-- What bodies are lowered to.
use Rattle.std.proofs.Common.{◌≡◌, ◌≤◌, ◌+◌, ◌*◌, ◌||◌, ℕ, List, [], ◌∷◌, ◌++◌, drop, length, refl, sym, ap, ◌∙◌, subst, arith}
use Rattle.ef_base.specs.declared.name.Name.{Name}
use Rattle.ef_base.specs.Texts.{Texts}
use Rattle.ef_core.specs.declared.env.Bind.{Bind}
use Rattle.ef_core.specs.Depth.{depth}
use Rattle.ef_core.specs.Env.{NamesDiffer}
use Rattle.ef_core.specs.Everywhere.{Each}
use Rattle.ef_core.specs.Fresh.{DrawsAtMost}
use Rattle.ef_core.specs.Plain as core
use Rattle.ef_core.specs.Plain.{StepTree}
use Rattle.ef_core.specs.Readable.{readable}
use Rattle.ef_core.specs.Scope.{IsAmong, steps_vars}
use Rattle.ef_core.specs.Tree.{CoreTree}
use Rattle.ef_forms.specs.declared.tables.FunctionName.{FunctionName}
use Rattle.ef_forms.specs.Depth.{all_depth}
use Rattle.ef_forms.specs.Plain.{trees}
use Rattle.ef_forms.specs.Sure.{all_sure, sure}
use Rattle.ef_forms.specs.Tree.{Tree}
use Rattle.ef_forms.specs.Ways.{NameSet}
use Rattle.ef_forms.specs.Weight.{all_weight}
use Rattle.ef_lowpat.specs.Budgets.{depth_per_level, variables_per_unit}
use Rattle.ef_meaning.specs.Cases.{AreHeld, names_of, together}
use Rattle.ef_meaning.specs.Lowers.{AreBelow, KeepsBody, KeepsLast, finished}
use Rattle.ef_meaning.proofs.Bodies.{finished_keeps, last_keeps}
use Rattle.ef_meaning.proofs.Matches.{held_keeps}
use Rattle.ef_meaning.proofs.Renamed.{new_held}
use Rattle.ef_lower.specs.Exports.{GivesNames, IsExported, held_variables}
use Rattle.ef_lower.specs.Lowers.{Adds, ArgumentForms, Binds, Finishes, IsArgument, IsLowered, LowersBody, Lowers, StandsFor, ValueForm}
use Rattle.ef_lower.specs.Ready.{IsReadableBind, bound_names}
use Rattle.ef_lower.specs.Scope.{AreInScope, IsInScope}
use Rattle.ef_lower.proofs.Behind.{adds_all, adds_both, adds_none, both_lowers, held_lowers, nothing_lowers, stands_next, values_split}
use Rattle.ef_lower.proofs.Exported.{named_keeps}
use Rattle.ef_lower.proofs.Forms.{run_lowered, run_shallow, value_behind}
use Rattle.ef_lower.proofs.Names.{differ_back, drop_front, each_new, held_each, named_set, names_twice, new_behind}
use Rattle.ef_lower.proofs.Scopes.{run_in_scope}
use Rattle.ef_lower.proofs.Several.{together_depth, together_in_scope, together_lowered, together_no_run, variables_arguments, variables_in_scope}
use Rattle.ef_lower.proofs.Sizes.{bound_both, or_false}

-- ---- the names that are exported

exported : {texts : Texts} (env0 env1 : List Bind) (set : NameSet) (b : Binds texts env0 set env1) → NamesDiffer env1 → IsExported env0 set (names_of b.more)
exported env0 env1 set b differ =
    let all : NamesDiffer (env0 ++ b.more) = subst NamesDiffer b.grown differ in
    record {
      differ = names_twice b.more (differ_back env0 b.more all);
      new = each_new env0 (names_of b.more) (λ n is. new_behind env0 b.more n all is);
      all = λ y. ap (λ z. bound_names env0 y || z) (named_set b.more y) ∙ sym (bound_both env0 b.more y) ∙ sym (ap (λ l. bound_names l y) b.grown) ∙ b.named y;
    }

-- ---- a body by its parts

-- what a body is lowered to, as one expression
pub record IsLoweredBody (texts : Texts) (defined : List FunctionName) (es : List Tree) (env : List Bind) (names : List Name) (e : CoreTree) : Type 0 where
  pub lowered : IsLowered texts e
  pub in_scope : IsInScope texts defined env e
  pub shallow : depth e + 1 ≤ depth_per_level * all_depth (trees es)
  pub means : KeepsBody texts es env names e

pub finishes : (ss : List StepTree) (v e : CoreTree) → Finishes ss v e → e ≡ finished ss v
finishes [] v e is = is
finishes (s ∷ ss) v e is = is

each_back : {A : Type 0} (P : A → Type 0) (xs ys : List A) → Each P (xs ++ ys) → Each P ys
each_back P [] ys all = all
each_back P (x ∷ xs) ys all = each_back P xs ys all.1

-- the last of several arguments
last_argument : {A : Type 0} (P : A → Type 0) (xs : List A) (x : A) → Each P (xs ++ x ∷ []) → P x
last_argument P xs x all = (each_back P xs (x ∷ []) all).0

module _ (texts : Texts) (defined : List FunctionName) where
  -- an expression is a body
  pub one_body : {e : Tree} {n0 n1 : ℕ} {own env0 env1 : List Bind} {old new : List StepTree} {v : CoreTree} → own ≡ env0 → AreBelow n0 env0 → Each (IsReadableBind texts) env0 → Adds old new (λ a. Lowers texts defined e n0 own a n1 env1 v) → LowersBody texts defined (e ∷ []) n0 env0 old new n1 env1 v
  one_body {e} {n0} {n1} {own} {env0} {env1} {old} {new} {v} same below readable one = record {
    front = [];
    last = e;
    whole = refl;
    n1 = n0;
    env1 = env0;
    between = old;
    values = [];
    first_lowered = adds_none old (nothing_lowers texts defined below readable);
    last_lowered = subst (λ l. Adds old new (λ a. Lowers texts defined e n0 l a n1 env1 v)) same one;
  }

  -- the same names from the start
  pub body_from : {es : List Tree} {n0 n1 : ℕ} {own env0 env1 : List Bind} {old new : List StepTree} {v : CoreTree} → own ≡ env0 → LowersBody texts defined es n0 own old new n1 env1 v → LowersBody texts defined es n0 env0 old new n1 env1 v
  body_from {es} {n0} {n1} {own} {env0} {env1} {old} {new} {v} same b = subst (λ l. LowersBody texts defined es n0 l old new n1 env1 v) same b

-- the names of one expression
pub exported_one : {env : List Bind} (e : Tree) {names : List Name} → IsExported env (all_sure (trees (e ∷ []))) names → IsExported env (sure e) names
exported_one {env} e {names} x = record { differ = x.differ; new = x.new; all = λ y. x.all y ∙ ap (λ b. bound_names env y || b) (or_false (sure e y)) }

module _ (texts : Texts) (defined : List FunctionName) {es : List Tree} {n0 n1 : ℕ} {env0 env1 : List Bind} {old ss : List StepTree} {v : CoreTree} (none : old ≡ []) (b : LowersBody texts defined es n0 env0 old ss n1 env1 v) where
  abbrev Parts : List Tree → List StepTree → Type 0
  Parts ds added = ValueForm texts defined ds n0 env0 added n1 env1 v × KeepsLast texts ds n0 env0 added n1 env1 v

  body_parts : Parts es ss
  body_parts =
      let whole : Adds old ss (Parts (b.front ++ b.last ∷ [])) =
      adds_both (λ s r p q. (value_behind texts defined p.forms q.form, last_keeps texts b.front b.last n0 env0 s b.n1 b.env1 b.values r n1 env1 v p.keeps q.keeps)) b.first_lowered b.last_lowered in
      subst (λ z. Parts z ss) b.whole (adds_all none whole)

  pub body_drawn : DrawsAtMost (variables_per_unit * all_weight (trees es)) n0 n1
  body_drawn = let enough = body_parts.0.enough in (body_parts.0.drawn, omega arith)

  pub body_enough : n1 + 1 ≤ n0 + variables_per_unit * all_weight (trees es)
  body_enough = body_parts.0.enough

  -- its value alone
  pub body_alone : {e : CoreTree} → Finishes ss v e → IsLoweredBody texts defined es env0 [] e
  body_alone {e} is =
      let form = body_parts.0 in
      record {
        lowered = run_lowered texts (all_depth (trees es)) ss v e form.steps form.lowered form.no_run is;
        in_scope = run_in_scope texts defined env0 env1 ss v e form.in_scope is;
        shallow = run_shallow texts (all_depth (trees es)) ss v e form.steps form.shallow is;
        means = subst (KeepsBody texts es env0 []) (sym (finishes ss v e is)) (finished_keeps texts es n0 env0 ss n1 env1 v body_parts.1);
      }

  -- with its last value held
  abbrev HeldParts : ℕ → CoreTree → List Tree → List StepTree → Type 0
  HeldParts k x ds added = ArgumentForms texts defined ds n0 env0 added k env1 (b.values ++ x ∷ []) × KeepsLast texts ds n0 env0 added k env1 x

  held_parts : {k : ℕ} {new : List StepTree} {x : CoreTree} → StandsFor v n1 ss k new x → HeldParts k x es new
  held_parts {k} {new} {x} stands =
      let whole : Adds old new (HeldParts k x (b.front ++ b.last ∷ [])) =
      adds_both (λ s r p q. ((both_lowers texts defined p q).forms, last_keeps texts b.front b.last n0 env0 s b.n1 b.env1 b.values r k env1 x p.keeps (held_keeps texts b.last b.n1 b.env1 r k env1 x q.keeps))) b.first_lowered (held_lowers texts defined b.last_lowered stands) in
      subst (λ z. HeldParts k x z new) b.whole (adds_all none whole)

  -- with the values of names that are bound behind it
  named_lowered : (binds : List Bind) → AreHeld env1 binds → (k : ℕ) (new : List StepTree) (x e : CoreTree) → HeldParts k x es new → Finishes new (together (x ∷ held_variables binds)) e → IsLoweredBody texts defined es env0 (names_of binds) e
  named_lowered binds are k new x e parts is =
      let forms = parts.0 in
      let levels = all_depth (trees es) in
      let first = last_argument (IsArgument texts levels) b.values x forms.arguments in
      let some : 1 ≤ levels = let shallow : depth v + 2 ≤ depth_per_level * levels = body_parts.0.shallow in omega arith in
      let values : Each (IsArgument texts levels) (x ∷ held_variables binds) = (first, variables_arguments texts levels binds some (held_each (readable texts).variable env1 binds forms.names.readable are)) in
      let scope : AreInScope texts defined env0 new env1 (together (x ∷ held_variables binds) ∷ []) = λ xs fs variables functions.
      let all = forms.in_scope xs fs variables functions in
      let mine = values_split (steps_vars (core.steps new) ++ xs) fs b.values (x ∷ []) all.2 in
      let behind = held_each (IsAmong (steps_vars (core.steps new) ++ xs)) env1 binds all.1 are in
      (all.0, all.1, (together_in_scope (steps_vars (core.steps new) ++ xs) fs (x ∷ held_variables binds) (mine.1.0, variables_in_scope (steps_vars (core.steps new) ++ xs) fs binds behind), tt)) in
      record {
        lowered = run_lowered texts levels new (together (x ∷ held_variables binds)) e forms.steps (together_lowered texts levels (x ∷ held_variables binds) values) (together_no_run texts levels (x ∷ held_variables binds) values) is;
        in_scope = run_in_scope texts defined env0 env1 new (together (x ∷ held_variables binds)) e scope is;
        shallow = run_shallow texts levels new (together (x ∷ held_variables binds)) e forms.steps (let deep = together_depth texts levels (x ∷ held_variables binds) values in omega arith) is;
        means = subst (KeepsBody texts es env0 (names_of binds)) (sym (finishes new (together (x ∷ held_variables binds)) e is)) (named_keeps texts es n0 env0 new k env1 x parts.1 binds are);
      }

  pub named_either : (binds : List Bind) → AreHeld env1 binds → {k : ℕ} {e : CoreTree} → GivesNames v n1 ss binds k e → IsLoweredBody texts defined es env0 (names_of binds) e
  named_either [] are {k} {e} g =
      body_alone (subst (λ l. Finishes l v e) g.stands.2 (subst (λ u. Finishes g.steps u e) g.stands.0 g.is))
  named_either (d ∷ ds) are {k} {e} g = named_lowered (d ∷ ds) are k g.steps g.first e (held_parts g.stands) g.is

  next_number : (binds : List Bind) {k : ℕ} {e : CoreTree} → GivesNames v n1 ss binds k e → (n1 ≤ k) × (k ≤ n1 + 1)
  next_number [] {k} {e} g = let same = g.stands.1 in (omega arith, omega arith)
  next_number (d ∷ ds) {k} {e} g = stands_next g.stands

  pub body_names : Binds texts env0 (all_sure (trees es)) env1
  body_names = body_parts.0.names

  module _ (start : ℕ) (place : start ≡ length env0) (differ : NamesDiffer env1) {k : ℕ} {names : List Name} {e : CoreTree} (named : names ≡ names_of (drop start env1)) (g : GivesNames v n1 ss (drop start env1) k e) where
    their_names : drop start env1 ≡ body_names.more
    their_names = ap (λ i. drop i env1) place ∙ ap (drop (length env0)) body_names.grown ∙ drop_front env0 body_names.more

    they_are : AreHeld env1 (drop start env1)
    they_are =
        let grown : env1 ≡ env0 ++ drop start env1 = body_names.grown ∙ ap (λ l. env0 ++ l) (sym their_names) in
        subst (λ l. AreHeld l (drop start env1)) (sym grown) (new_held env0 (drop start env1) (subst NamesDiffer grown differ))

    pub named_body : IsLoweredBody texts defined es env0 names e
    named_body = subst (λ l. IsLoweredBody texts defined es env0 l e) (sym named) (named_either (drop start env1) they_are g)

    pub named_exported : IsExported env0 (all_sure (trees es)) names
    named_exported = subst (IsExported env0 (all_sure (trees es))) (sym (named ∙ ap names_of their_names)) (exported env0 env1 (all_sure (trees es)) body_names differ)

    pub named_drawn : DrawsAtMost (variables_per_unit * all_weight (trees es)) n0 k
    named_drawn = let next = next_number (drop start env1) g in let least = next.0 in let most = next.1 in let enough = body_enough in let drawn = body_parts.0.drawn in (omega arith, omega arith)
