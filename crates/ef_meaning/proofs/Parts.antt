-- Parts of the lowering that keep the meaning.
use Rattle.std.proofs.Common.{◌≡◌, ℕ, ℤ, ◌+◌, ◌≤◌, List, [], ◌∷◌, ◌++◌, Option, Some, None, refl, sym, ap, ◌∙◌, subst, arith}
use Rattle.ef_base.specs.declared.name.Name.{Name}
use Rattle.ef_base.specs.declared.fault.Place.{Place}
use Rattle.ef_base.specs.Texts.{Texts, text}
use Rattle.ef_core.specs.declared.env.Bind.{Bind}
use Rattle.ef_core.specs.declared.literal.CoreVar.{CoreVar}
use Rattle.ef_core.specs.declared.literal.CoreVar.TheVariants.{Numbered}
use Rattle.ef_core.specs.Env.{held}
use Rattle.ef_core.specs.Plain.{StepTree, steps}
use Rattle.ef_core.specs.Tree as c
use Rattle.ef_core.specs.Tree.{CoreTree}
use Rattle.ef_forms.specs.Tree as t
use Rattle.ef_forms.specs.Tree.{Tree, Trees, tree}
use Rattle.ef_forms.specs.Plain.{trees}
use Rattle.ef_meaning.specs.Value.{Value, Integer, Atom}
use Rattle.ef_meaning.specs.End.{End, Gives, and_then}
use Rattle.ef_meaning.specs.Keeps.{Ahead, Keeps}
use Rattle.ef_meaning.specs.Match.{Bindings, value_of}
use Rattle.ef_meaning.specs.Source as source
use Rattle.ef_meaning.specs.Source.{Module, Source, beside}
use Rattle.ef_meaning.specs.Core as core
use Rattle.ef_meaning.specs.Core.{CoreModule, Vars, Funs, Code, Target, value_at, entry_of}
use Rattle.ef_meaning.specs.Lowers.{SameAt, Describes, AreBelow, Entry, Includes, Bodies, EntriesKept, HidesNone, Related, SameValue, CallsKept, Worlds, After, IsValue, AreValues, IsDrawn, AfterAll, KeepsAll, KeepsExpr, valued}
use Rattle.ef_meaning.proofs.Ends.{begins_refl, then_ahead, then_same, then_then, then_gives}
use Rattle.ef_meaning.proofs.SourceLaws as laws
use Rattle.ef_meaning.proofs.CoreLaws as core_laws
use Rattle.ef_meaning.proofs.Simulate.{keeps_same, gives_keeps, then_keeps, map_keeps}
use Rattle.ef_meaning.proofs.Variables.{here, held_below, are_below_more, drawn_more, drawn_append, describes_more, agree_refl, agree_more, agree_trans, values_append, value_eval}
use Rattle.ef_meaning.proofs.Steps.{run_append, steps_steady, eval_steady, const_steady, pair_steady, valued_steady, all_append}

-- ---- entries

pub includes_left : (xs ys all : List Entry) → Includes (xs ++ ys) all → Includes xs all
includes_left [] ys all p = tt
includes_left (x ∷ xs) ys all p = (p.0, includes_left xs ys all p.1)

pub includes_right : (xs ys all : List Entry) → Includes (xs ++ ys) all → Includes ys all
includes_right [] ys all p = p
includes_right (x ∷ xs) ys all p = includes_right xs ys all p.1

entries_append : (w : Module) (cw : CoreModule) (all : List Entry) (n : ℕ) (xs ys : List Entry) → EntriesKept w cw all n xs → EntriesKept w cw all n ys → EntriesKept w cw all n (xs ++ ys)
entries_append w cw all n [] ys p q = q
entries_append w cw all n (x ∷ xs) ys p q = (p.0, entries_append w cw all n xs ys p.1 q)

pub bodies_both : (now : Texts) (xs ys : List Entry) → Bodies now xs → Bodies now ys → Bodies now (xs ++ ys)
bodies_both now xs ys p q w cw world all inc n calls = entries_append w cw all n xs ys (p w cw world all (includes_left xs ys all inc) n calls) (q w cw world all (includes_right xs ys all inc) n calls)

-- ---- what needs no evaluation

-- wherever the environment describes the bindings, the expression and the argument have one value
abbrev HasValue : Texts → Tree → List Bind → CoreTree → Type 0
HasValue now e env value = (w : Module) (cw : CoreModule) → Worlds now w cw → (b : Bindings) (c : Vars) → Describes env b c →
    (v : Value) × ((ls : source.Levels) (s : Source) → source.eval w e ls b s ≡ Gives (v, b) s) × IsValue w.texts value v c

leaf_keeps : (now : Texts) (e : Tree) (value : CoreTree) (n : ℕ) (env : List Bind) → AreBelow n env → IsDrawn n value → HasValue now e env value → KeepsExpr now e n env [] n env value
leaf_keeps now e value n env below drawn has = record {
  drawn = omega arith;
  below = below;
  made = [];
  bodies = λ w cw world all inc m calls. tt;
  keeps = λ b c desc w cw world all inc m calls en fs s t hides same.
      let i = has w cw world b c desc in
      let is : IsValue cw.texts value i.0 c = subst (λ x. IsValue x value i.0 c) (sym world.texts) i.2 in
      keeps_same (After n c env) (Related cw all en) m _ (Gives (i.0, b) s) _ (λ k. Gives (i.0 ∷ [], c) t) (i.1 (source.levels w m) s)
      (λ j k. and_then (value_eval cw value i.0 (core.levels cw k) c fs t is j) (λ vs x. Gives (vs, c) x))
      (gives_keeps (After n c env) (Related cw all en) m (i.0, b) (i.0 ∷ [], c) s t (record { value = refl; names = desc; agree = agree_refl n c }) same);
  argument = λ simple. record {
    drawn = omega arith;
    below = below;
    arguments_drawn = (drawn, tt);
    made = [];
    bodies = λ w cw world all inc m calls. tt;
    keeps = λ b c desc w cw world all inc m calls en fs s t hides same.
        let i = has w cw world b c desc in
        keeps_same (AfterAll w.texts n c env (value ∷ [])) (Related cw all en) m _ (Gives (i.0 ∷ [], b) s) _ (λ k. Gives c t)
        (ap (λ o. and_then o (λ a u. Gives (a.0 ∷ [], a.1) u)) (i.1 (source.levels w m) s)) refl
        (gives_keeps (AfterAll w.texts n c env (value ∷ [])) (Related cw all en) m (i.0 ∷ [], b) c s t (record { values = (i.2, tt); names = desc; agree = agree_refl n c }) same);
  };
}

pub int_keeps : (now : Texts) (p : Place) (i : ℤ) (n : ℕ) (env : List Bind) → AreBelow n env → KeepsExpr now (tree p (t.int i)) n env [] n env (c.lit (c.int i))
int_keeps now p i n env below = leaf_keeps now (tree p (t.int i)) (c.lit (c.int i)) n env below tt (λ w cw world b d desc. (Integer i, (λ ls s. refl), refl))

pub atom_keeps : (now : Texts) (p : Place) (a : Name) (n : ℕ) (env : List Bind) → AreBelow n env → KeepsExpr now (tree p (t.atom a)) n env [] n env (c.lit (c.atom a))
atom_keeps now p a n env below = leaf_keeps now (tree p (t.atom a)) (c.lit (c.atom a)) n env below tt (λ w cw world b d desc. (Atom (text w.texts a), (λ ls s. refl), refl))

pub var_keeps : (now : Texts) (p : Place) (x : Name) (y : CoreVar) (n : ℕ) (env : List Bind) → AreBelow n env → held env x ≡ Some y → KeepsExpr now (tree p (t.var x)) n env [] n env (c.var y)
var_keeps now p x y n env below is = leaf_keeps now (tree p (t.var x)) (c.var y) n env below (held_below n env x y below is)
    (λ w cw world b d desc. by w b d (value_of x b) refl (subst (λ o. SameAt o (value_of x b) d) is (desc.each x)))
  where
    by : (w : Module) (b : Bindings) (d : Vars) (o : Option Value) → value_of x b ≡ o → SameAt (Some y) o d →
        (v : Value) × ((ls : source.Levels) (s : Source) → source.eval w (tree p (t.var x)) ls b s ≡ Gives (v, b) s) × (value_at y d ≡ Some v)
    by w b d None e q = absurd q
    by w b d (Some v) e q = (v, (λ ls s. ap (λ o. source.named o b s) e), q)

-- ---- arguments, one after another

pub nil_keeps : (now : Texts) (n : ℕ) (env : List Bind) → AreBelow n env → KeepsAll now [] n env [] n env []
nil_keeps now n env below = record {
  drawn = omega arith;
  below = below;
  arguments_drawn = tt;
  made = [];
  bodies = λ w cw world all inc m calls. tt;
  keeps = λ b c desc w cw world all inc m calls en fs s t hides same. gives_keeps (AfterAll w.texts n c env []) (Related cw all en) m ([], b) c s t (record { values = tt; names = desc; agree = agree_refl n c }) same;
}

pub both_keep : (now : Texts) (es fs : List Tree) (n0 : ℕ) (env0 : List Bind) (added : List StepTree) (n1 : ℕ) (env1 : List Bind) (xs : List CoreTree) (more : List StepTree) (n2 : ℕ) (env2 : List Bind) (ys : List CoreTree) →
    KeepsAll now es n0 env0 added n1 env1 xs → KeepsAll now fs n1 env1 more n2 env2 ys → KeepsAll now (es ++ fs) n0 env0 (added ++ more) n2 env2 (xs ++ ys)
both_keep now es rest n0 env0 added n1 env1 xs more n2 env2 ys one two = record {
  drawn = let p = one.drawn in let q = two.drawn in omega arith;
  below = two.below;
  arguments_drawn = drawn_append n2 xs ys (drawn_more n1 n2 xs two.drawn one.arguments_drawn) two.arguments_drawn;
  made = one.made ++ two.made;
  bodies = bodies_both now one.made two.made one.bodies two.bodies;
  keeps = λ b c desc w cw world all inc n calls en fs s t hides same.
      keeps_same (AfterAll w.texts n0 c env2 (xs ++ ys)) (Related cw all en) n _ _ _ (λ m. and_then (core.eval_steps cw (steps added) (core.levels cw m) c fs t) (λ d u. core.eval_steps cw (steps more) (core.levels cw m) d fs u))
      (all_append w es rest (source.levels w n) b s)
      (λ i m. run_append cw added more (core.levels cw m) c fs t i)
      (then_keeps (AfterAll w.texts n0 c env1 xs) (AfterAll w.texts n0 c env2 (xs ++ ys)) (Related cw all en) n (source.eval_all w (trees es) (source.levels w n) b s) (λ m. core.eval_steps cw (steps added) (core.levels cw m) c fs t) _ (λ m d u. core.eval_steps cw (steps more) (core.levels cw m) d fs u)
      (steps_steady cw (steps added) c fs t).extends
      (λ d u. steps_steady cw (steps more) d fs u)
      (λ a u. then_ahead _ (source.eval_all w (trees rest) (source.levels w n) a.1 u) _ (laws.all_ahead w (trees rest) (source.levels w n) a.1 u (laws.levels_grow w n)) (λ v z. begins_refl z.outside.events))
      (one.keeps b c desc w cw world all (includes_left one.made two.made all inc) n calls en fs s t hides same)
      (λ a d u z held q.
      map_keeps (AfterAll w.texts n1 d env2 ys) (AfterAll w.texts n0 c env2 (xs ++ ys)) (Related cw all en) n (source.eval_all w (trees rest) (source.levels w n) a.1 u) (λ m. core.eval_steps cw (steps more) (core.levels cw m) d fs z) (λ r. (a.0 ++ r.0, r.1))
      (steps_steady cw (steps more) d fs z).extends
      (λ r d1 after. record { values = values_append w.texts n1 xs ys a.0 r.0 d d1 one.arguments_drawn after.agree held.values after.values; names = after.names; agree = agree_trans n0 n1 c d d1 one.drawn held.agree after.agree })
      (two.keeps a.1 d held.names w cw world all (includes_right one.made two.made all inc) n calls en fs u z hides q)));
}

-- one step, that sets a variable
abbrev pub one_step : CoreVar → CoreTree → List StepTree
one_step x e = record { vars = x ∷ []; value = e } ∷ []

put_run : (w : CoreModule) (xs : List StepTree) (y : CoreVar) (e : CoreTree) (ls : core.Levels) (c : Vars) (fs : Funs) (t : Target) →
    core.eval_steps w (steps (xs ++ one_step y e)) ls c fs t ≡ and_then (valued w xs e ls c fs t) (λ r x. core.given (core.bind (y ∷ []) r.0 r.1) x)
put_run w xs y e ls c fs t =
    run_append w xs (one_step y e) ls c fs t
    ∙ then_same (core.eval_steps w (steps xs) ls c fs t) _ _ (λ d u. then_gives (and_then (core.eval w e ls d fs u) (λ vs x. core.given (core.bind (y ∷ []) vs d) x)) ∙ sym (then_then (core.eval w e ls d fs u) _ _))
    ∙ sym (then_then (core.eval_steps w (steps xs) ls c fs t) _ _)

-- a value that one more step puts into the next variable
pub put_keeps : (now : Texts) (e : Tree) (n0 : ℕ) (env0 : List Bind) (added : List StepTree) (n1 : ℕ) (env1 : List Bind) (value : CoreTree) → KeepsExpr now e n0 env0 added n1 env1 value →
    KeepsAll now (e ∷ []) n0 env0 (added ++ one_step (Numbered n1) value) (n1 + 1) env1 (c.var (Numbered n1) ∷ [])
put_keeps now e n0 env0 added n1 env1 value k = record {
  drawn = let p = k.drawn in omega arith;
  below = are_below_more n1 (n1 + 1) env1 (omega arith) k.below;
  arguments_drawn = (omega arith, tt);
  made = k.made;
  bodies = k.bodies;
  keeps = λ b d desc w cw world all inc n calls en fs s t hides same.
      let R = AfterAll w.texts n0 d env1 (c.var (Numbered n1) ∷ []) in
      keeps_same R (Related cw all en) n _ _ _ (λ m. and_then (valued cw added value (core.levels cw m) d fs t) (λ r x. core.given (core.bind (Numbered n1 ∷ []) r.0 r.1) x)) refl
      (λ i m. put_run cw added (Numbered n1) value (core.levels cw m) d fs t i)
      (then_keeps (After n0 d env1) R (Related cw all en) n (source.eval w e (source.levels w n) b s) (λ m. valued cw added value (core.levels cw m) d fs t) (λ a u. Gives (a.0 ∷ [], a.1) u) (λ m r x. core.given (core.bind (Numbered n1 ∷ []) r.0 r.1) x)
      (valued_steady cw added value d fs t).extends
      (λ r u. const_steady u (core.given (core.bind (Numbered n1 ∷ []) r.0 r.1) u) (core_laws.given_ahead (core.bind (Numbered n1 ∷ []) r.0 r.1) u))
      (λ a u. begins_refl u.outside.events)
      (k.keeps b d desc w cw world all inc n calls en fs s t hides same)
      (λ a r u z after q.
      subst (λ vs. Keeps R (Related cw all en) n (Gives (a.0 ∷ [], a.1) u) (λ m. core.given (core.bind (Numbered n1 ∷ []) vs r.1) z)) (sym after.value)
      (gives_keeps R (Related cw all en) n (a.0 ∷ [], a.1) ((Numbered n1, a.0) ∷ r.1) u z
      (record { values = (here n1 a.0 r.1, tt); names = describes_more n1 env1 a.1 r.1 a.0 k.below after.names; agree = agree_more n0 n1 d r.1 a.0 k.drawn after.agree }) q)));
}

-- variables that are drawn and not used
pub drawn_keeps : (now : Texts) (es : List Tree) (n0 : ℕ) (env0 : List Bind) (added : List StepTree) (n1 : ℕ) (env1 : List Bind) (xs : List CoreTree) (m : ℕ) → n1 ≤ m → KeepsAll now es n0 env0 added n1 env1 xs → KeepsAll now es n0 env0 added m env1 xs
drawn_keeps now es n0 env0 added n1 env1 xs m le k = record {
  drawn = let first = k.drawn in omega arith;
  below = are_below_more n1 m env1 le k.below;
  arguments_drawn = drawn_more n1 m xs le k.arguments_drawn;
  made = k.made;
  bodies = k.bodies;
  keeps = k.keeps;
}

-- ---- what is made of arguments

module _ (now : Texts) (es : List Tree) (n0 : ℕ) (env0 : List Bind) (added : List StepTree) (n1 : ℕ) (env1 : List Bind) (xs : List CoreTree) (k : KeepsAll now es n0 env0 added n1 env1 xs) where
  pub args_keep : (value : CoreTree) (b : Bindings) (c : Vars) → Describes env0 b c → (w : Module) (cw : CoreModule) → Worlds now w cw → (all : List Entry) → Includes k.made all → (n : ℕ) → ((i : ℕ) → i ≤ n → CallsKept w cw all i) →
      (en : List Code) (fs : Funs) (s : Source) (t : Target) → HidesNone cw fs → Related cw all en s t → (go : List Value → Source → End Value Source) → ((vs : List Value) (u : Source) → Ahead u.outside.events (go vs u)) →
      ((vs : List Value) (d : Vars) (u : Source) (z : Target) → AreValues cw.texts xs vs d → Related cw all en u z → Keeps SameValue (Related cw all en) n (go vs u) (λ m. core.eval cw value (core.levels cw m) d fs z)) →
      Keeps (After n0 c env1) (Related cw all en) n (and_then (source.eval_all w (trees es) (source.levels w n) b s) (λ a u. beside a.1 (go a.0 u))) (λ m. valued cw added value (core.levels cw m) c fs t)
  args_keep value b c desc w cw world all inc n calls en fs s t hides same go grow part =
      then_keeps (AfterAll w.texts n0 c env1 xs) (After n0 c env1) (Related cw all en) n (source.eval_all w (trees es) (source.levels w n) b s) (λ m. core.eval_steps cw (steps added) (core.levels cw m) c fs t) (λ a u. beside a.1 (go a.0 u)) (λ m d u. and_then (core.eval cw value (core.levels cw m) d fs u) (λ vs x. Gives (vs, d) x))
      (steps_steady cw (steps added) c fs t).extends
      (λ d u. pair_steady (λ vs. (vs, d)) u (λ m. core.eval cw value (core.levels cw m) d fs u) (eval_steady cw value d fs u))
      (λ a u. then_ahead _ (go a.0 u) _ (grow a.0 u) (λ v z. begins_refl z.outside.events))
      (k.keeps b c desc w cw world all inc n calls en fs s t hides same)
      (λ a d u z held q.
      then_keeps SameValue (After n0 c env1) (Related cw all en) n (go a.0 u) (λ m. core.eval cw value (core.levels cw m) d fs z) (λ v x. Gives (v, a.1) x) (λ m vs x. Gives (vs, d) x)
      (eval_steady cw value d fs z).extends
      (λ vs x. const_steady x (Gives (vs, d) x) (begins_refl x.outside.events))
      (λ v x. begins_refl x.outside.events)
      (part a.0 d u z (subst (λ ts. AreValues ts xs a.0 d) (sym world.texts) held.values) q)
      (λ v vs x y is r. gives_keeps (After n0 c env1) (Related cw all en) n (v, a.1) (vs, d) x y (record { value = is; names = held.names; agree = held.agree }) r))
