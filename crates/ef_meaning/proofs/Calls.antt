-- Calls, and remote calls, are kept.
use Rattle.std.proofs.Common.{◌≡◌, ℕ, ◌≤◌, ◌&&◌, ◌==◌, Bool, true, false, if◌then◌else◌, bytes_eq, List, [], ◌∷◌, Option, Some, None, refl, sym, ap, ◌∙◌, subst, arith}
use Rattle.ef_base.specs.declared.name.Name.{Name}
use Rattle.ef_base.specs.declared.fault.Place.{Place}
use Rattle.ef_base.specs.Texts.{Texts, text}
use Rattle.ef_core.specs.declared.env.Bind.{Bind}
use Rattle.ef_core.specs.declared.literal.FName.{FName}
use Rattle.ef_core.specs.Plain as plain
use Rattle.ef_core.specs.Plain.{StepTree}
use Rattle.ef_core.specs.Tree as c
use Rattle.ef_core.specs.Tree.{CoreTree}
use Rattle.ef_forms.specs.Tree as t
use Rattle.ef_forms.specs.Tree.{Tree, tree, count}
use Rattle.ef_forms.specs.Plain.{trees}
use Rattle.ef_meaning.specs.Value.{Value, Atom, Local}
use Rattle.ef_meaning.specs.Lookup.{FunctionKey, find, keys}
use Rattle.ef_meaning.specs.End.{End, Gives, and_then}
use Rattle.ef_meaning.specs.Called.{apply, remote}
use Rattle.ef_meaning.specs.Keeps.{Extends, Keeps}
use Rattle.ef_meaning.specs.Match.{Bindings}
use Rattle.ef_meaning.specs.Source as source
use Rattle.ef_meaning.specs.Source.{Module, Source, beside}
use Rattle.ef_meaning.specs.Core as core
use Rattle.ef_meaning.specs.Core.{CoreModule, Vars, Funs, Code, Target, single, one_value}
use Rattle.ef_meaning.specs.Lowers.{Describes, Entry, Includes, HidesNone, Related, SameValue, Alike, CallsKept, Worlds, After, KeepsAll, KeepsExpr, valued}
use Rattle.ef_meaning.proofs.Ends.{begins_refl, then_gives}
use Rattle.ef_meaning.proofs.CalledLaws.{remote_ahead}
use Rattle.ef_meaning.proofs.SourceLaws as source_laws
use Rattle.ef_meaning.proofs.Simulate.{keeps_same, gives_keeps, wrong_keeps, then_keeps}
use Rattle.ef_meaning.proofs.Variables.{values_eval}
use Rattle.ef_meaning.proofs.Steps.{const_steady}
use Rattle.ef_meaning.proofs.Parts.{args_keep}
use Rattle.ef_meaning.proofs.Remote.{apply_steady, remote_steady, source_grows, remote_keeps}

-- one value for one
pub one_keeps : (cw : CoreModule) (all : List Entry) (en : List Code) (n : ℕ) (e : End Value Source) (C : ℕ → End Value Target) → ((m i : ℕ) → m ≤ i → Extends (C m) (C i)) → Keeps Alike (Related cw all en) n e C → Keeps SameValue (Related cw all en) n e (λ m. one_value (C m))
one_keeps cw all en n e C up k =
    keeps_same SameValue (Related cw all en) n _ (and_then e (λ a u. Gives a u)) _ (λ m. one_value (C m)) (sym (then_gives e)) refl
    (then_keeps Alike SameValue (Related cw all en) n e C (λ a u. Gives a u) (λ m v u. Gives (v ∷ []) u) up
    (λ v u. const_steady u (Gives (v ∷ []) u) (begins_refl u.outside.events)) (λ a u. begins_refl u.outside.events) k
    (λ a b u z is q. gives_keeps SameValue (Related cw all en) n a (b ∷ []) u z (ap (λ i. i ∷ []) (sym is)) q))

-- where the two modules have functions of the same names and arities, the one has each that the other has
pub keys_find : (f : List ℕ) (a : ℕ) (gs : List (FunctionKey × source.Function)) (cs : List (FunctionKey × Code)) (g : source.Function) → keys cs ≡ keys gs → find f a gs ≡ Some g → (c : Code) × (find f a cs ≡ Some c)
keys_find f a [] [] g p q = absurd cc
keys_find f a [] (c ∷ cs) g p q = absurd cc
keys_find f a (h ∷ gs) [] g p q = absurd cc
keys_find f a (h ∷ gs) (c ∷ cs) g p q =
    let first : c.0 ≡ h.0 = cc in
    let rest : keys cs ≡ keys gs = cc in
    by (bytes_eq h.0.name f && h.0.arity == a) (ap (λ (k : FunctionKey). bytes_eq k.name f && k.arity == a) first) (λ e. keys_find f a gs cs g rest e) q
  where
    by : (t : Bool) → (bytes_eq c.0.name f && c.0.arity == a) ≡ t → (find f a gs ≡ Some g → (d : Code) × (find f a cs ≡ Some d)) → (if t then Some h.1 else find f a gs) ≡ Some g → (d : Code) × ((if bytes_eq c.0.name f && c.0.arity == a then Some c.1 else find f a cs) ≡ Some d)
    by true e k r = (c.1, ap (λ o. if o then Some c.1 else find f a cs) e)
    by false e k r = let d = k r in (d.0, ap (λ o. if o then Some c.1 else find f a cs) e ∙ d.1)

-- the name of a function that the source has
name_eval : (now : Texts) (f : FName) (w : Module) (cw : CoreModule) → Worlds now w cw → (fs : Funs) → HidesNone cw fs → (g : source.Function) → find (text w.texts f.name) f.arity w.functions ≡ Some g → (ls : core.Levels) (d : Vars) (z : Target) →
    core.eval cw (c.fun_name f) ls d fs z ≡ Gives (Local (text w.texts f.name) f.arity ∷ []) z
name_eval now f w cw world fs hides g found ls d z =
    let here : find (text cw.texts f.name) f.arity w.functions ≡ Some g = subst (λ ts. find (text ts f.name) f.arity w.functions ≡ Some g) (sym world.texts) found in
    let i = keys_find (text cw.texts f.name) f.arity w.functions cw.functions g world.functions here in
    ap (λ o. core.function_value cw.texts f o (find (text cw.texts f.name) f.arity cw.functions) z) (hides.each f i.0 i.1)
    ∙ ap (λ o. core.function_value cw.texts f None o z) i.1
    ∙ ap (λ ts. Gives (Local (text ts f.name) f.arity ∷ []) z) world.texts

-- ---- a call of a function of the module

module _ (now : Texts) (p q : Place) (x : Name) (es : List Tree) (n0 : ℕ) (env0 : List Bind) (added : List StepTree) (n1 : ℕ) (env1 : List Bind) (xs : List CoreTree) (k : KeepsAll now es n0 env0 added n1 env1 xs) where
  abbrev name : FName
  name = record { name = x; arity = count (trees es) }

  abbrev call_tree : Tree
  call_tree = tree p (t.call (tree q (t.atom x)) (trees es))

  abbrev apply_tree : CoreTree
  apply_tree = c.apply (c.fun_name name) (plain.trees xs)

  -- the call, once its function was looked for
  abbrev looked : Module → source.Levels → Option source.Function → Bindings → Source → source.Answer
  looked w ls o b s = and_then (source.target o (text w.texts x) (count (trees es)) b s) (λ g u. and_then (source.eval_all w (trees es) ls g.1 u) (λ a y. beside a.1 (apply (source.side w) ls g.0 a.0 y)))

  abbrev CallKept : Type 0
  CallKept = (b : Bindings) (d : Vars) → Describes env0 b d → (w : Module) (cw : CoreModule) → Worlds now w cw → (all : List Entry) → Includes k.made all → (n : ℕ) → ((i : ℕ) → i ≤ n → CallsKept w cw all i) →
      (en : List Code) (fs : Funs) (s : Source) (z : Target) → HidesNone cw fs → Related cw all en s z → (o : Option source.Function) → find (text w.texts x) (count (trees es)) w.functions ≡ o →
      Keeps (After n0 d env1) (Related cw all en) n (looked w (source.levels w n) o b s) (λ m. valued cw added apply_tree (core.levels cw m) d fs z)

  call_kept : CallKept
  call_kept b d desc w cw world all inc n calls en fs s z hides same None found = wrong_keeps (After n0 d env1) (Related cw all en) n _
  call_kept b d desc w cw world all inc n calls en fs s z hides same (Some g) found =
      let f : Value = Local (text w.texts x) (count (trees es)) in
      args_keep now es n0 env0 added n1 env1 xs k apply_tree b d desc w cw world all inc n calls en fs s z hides same (λ vs u. apply (source.side w) (source.levels w n) f vs u)
      (λ vs u. source_grows w n f vs u)
      (λ vs e u y held r.
      keeps_same SameValue (Related cw all en) n _ (apply (source.side w) (source.levels w n) f vs u) _ (λ m. one_value (apply (core.side cw) (core.levels cw m) f vs y)) refl
      (λ i m. (ap (λ o. and_then (and_then o single) (λ h a. and_then (core.eval_all cw (plain.trees xs) (core.levels cw m) e fs a) (λ us v. one_value (apply (core.side cw) (core.levels cw m) h us v)))) (name_eval now name w cw world fs hides g found (core.levels cw m) e y)
      ∙ ap (λ o. and_then o (λ us v. one_value (apply (core.side cw) (core.levels cw m) f us v))) (values_eval cw xs vs (core.levels cw m) e fs y held)) i)
      (one_keeps cw all en n (apply (source.side w) (source.levels w n) f vs u) (λ m. apply (core.side cw) (core.levels cw m) f vs y) (apply_steady cw f vs y).extends ((calls n (omega arith)).each en f vs u y r)))

  pub call_keeps : KeepsExpr now call_tree n0 env0 added n1 env1 apply_tree
  call_keeps = record {
    drawn = k.drawn;
    below = k.below;
    made = k.made;
    bodies = k.bodies;
    keeps = λ b d desc w cw world all inc n calls en fs s z hides same. call_kept b d desc w cw world all inc n calls en fs s z hides same (find (text w.texts x) (count (trees es)) w.functions) refl;
    argument = λ simple. absurd simple;
  }

-- ---- a remote call of two atoms

pub remote_call_keeps : (now : Texts) (p q r : Place) (m f : Name) (es : List Tree) (n0 : ℕ) (env0 : List Bind) (added : List StepTree) (n1 : ℕ) (env1 : List Bind) (xs : List CoreTree) → KeepsAll now es n0 env0 added n1 env1 xs →
    KeepsExpr now (tree p (t.remote (tree q (t.atom m)) (tree r (t.atom f)) (trees es))) n0 env0 added n1 env1 (c.call (c.lit (c.atom m)) (c.lit (c.atom f)) (plain.trees xs))
remote_call_keeps now p q r m f es n0 env0 added n1 env1 xs k = record {
  drawn = k.drawn;
  below = k.below;
  made = k.made;
  bodies = k.bodies;
  keeps = λ b d desc w cw world all inc n calls en fs s z hides same.
      let M = Atom (text w.texts m) in
      let F = Atom (text w.texts f) in
      let grow = source_laws.side_grows w (source.levels w n) (source_laws.levels_grow w n) in
      args_keep now es n0 env0 added n1 env1 xs k (c.call (c.lit (c.atom m)) (c.lit (c.atom f)) (plain.trees xs)) b d desc w cw world all inc n calls en fs s z hides same (λ vs u. remote (source.side w) (source.levels w n) M F vs u)
      (λ vs u. remote_ahead (source.side w) (source.levels w n) M F vs u grow)
      (λ vs e u y held q.
      keeps_same SameValue (Related cw all en) n _ (remote (source.side w) (source.levels w n) M F vs u) _ (λ i. one_value (remote (core.side cw) (core.levels cw i) M F vs y)) refl
      (λ i j. (ap (λ o. and_then o (λ us v. one_value (remote (core.side cw) (core.levels cw j) (Atom (text cw.texts m)) (Atom (text cw.texts f)) us v))) (values_eval cw xs vs (core.levels cw j) e fs y held)
      ∙ ap (λ ts. one_value (remote (core.side cw) (core.levels cw j) (Atom (text ts m)) (Atom (text ts f)) vs y)) world.texts) i)
      (one_keeps cw all en n (remote (source.side w) (source.levels w n) M F vs u) (λ i. remote (core.side cw) (core.levels cw i) M F vs y) (remote_steady cw M F vs y).extends
      (remote_keeps w cw world.functions all en n (λ i lt. calls i (omega arith)) (text w.texts m) (text w.texts f) vs u y q)));
  argument = λ simple. absurd simple;
}
