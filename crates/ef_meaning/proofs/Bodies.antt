-- Bodies, and functions of one clause whose parameters are variables, are kept.
use Rattle.std.proofs.Common.{◌≡◌, ℕ, ◌+◌, inl, inr, ◌==◌, Bool, true, false, if◌then◌else◌, List, [], ◌∷◌, ◌++◌, length, Option, Some, None, refl, sym, ap, ◌∙◌, subst, append_assoc, append-nil, arith}
use Rattle.std.proofs.lemmas.Bool.Decides.{nat_tests}
use Rattle.ef_base.specs.declared.name.Name.{Name}
use Rattle.ef_base.specs.declared.fault.Place.{Place}
use Rattle.ef_base.specs.Texts.{Texts}
use Rattle.ef_core.specs.declared.env.Bind.{Bind}
use Rattle.ef_core.specs.declared.literal.CoreVar.{CoreVar}
use Rattle.ef_core.specs.declared.literal.CoreVar.TheVariants.{Numbered}
use Rattle.ef_core.specs.Env.{bind, held}
use Rattle.ef_core.specs.Plain as plain
use Rattle.ef_core.specs.Plain.{StepTree, steps}
use Rattle.ef_core.specs.Tree.{CoreTree}
use Rattle.ef_forms.specs.Tree.{Tree, Trees, tree, var, end, more, clause, no_clauses, no_guard}
use Rattle.ef_forms.specs.Plain.{trees}
use Rattle.ef_forms.specs.Built.{IsAmong, IsDistinct}
use Rattle.ef_meaning.specs.Value.{Value, values_of, with_some}
use Rattle.ef_meaning.specs.Exception.{Error, function_clause}
use Rattle.ef_meaning.specs.Outside.{State}
use Rattle.ef_meaning.specs.End.{End, Gives, Raises, Wrong, and_then}
use Rattle.ef_meaning.specs.Keeps.{Ahead, Keeps}
use Rattle.ef_meaning.specs.Match.{Bindings, value_of, match_name, match_values, match_all}
use Rattle.ef_meaning.specs.Source as source
use Rattle.ef_meaning.specs.Source.{Module, Source, by_clauses}
use Rattle.ef_meaning.specs.Core as core
use Rattle.ef_meaning.specs.Core.{CoreModule, Vars, Funs, Target, entry_of, value_at}
use Rattle.ef_meaning.specs.Cases.{HoldsNames, together, variables}
use Rattle.ef_meaning.specs.Lowers.{SameAt, Describes, AreBelow, Related, SameValue, After, KeepsAll, KeepsExpr, KeepsLast, KeepsBody, KeepsFunction, Exports, AllBound, valued, params_from, env_from, finished}
use Rattle.ef_meaning.proofs.Ends.{begins_refl, then_same, then_then, then_gives}
use Rattle.ef_meaning.proofs.SourceLaws as source_laws
use Rattle.ef_meaning.proofs.Simulate.{keeps_same, gives_keeps, then_keeps, map_keeps, weaker, wrong_keeps}
use Rattle.ef_meaning.proofs.Variables.{here, are_below_more, describes_more, agree_trans}
use Rattle.ef_meaning.proofs.Steps.{steps_steady, eval_steady, valued_steady, valued_append, body_append, const_steady}
use Rattle.ef_meaning.proofs.Parts.{includes_left, includes_right, bodies_both}

-- what goes before, and the last expression
pub last_keeps : (now : Texts) (es : List Tree) (e : Tree) (n0 : ℕ) (env0 : List Bind) (added : List StepTree) (n1 : ℕ) (env1 : List Bind) (xs : List CoreTree) (rest : List StepTree) (n2 : ℕ) (env2 : List Bind) (value : CoreTree) →
    KeepsAll now es n0 env0 added n1 env1 xs → KeepsExpr now e n1 env1 rest n2 env2 value → KeepsLast now (es ++ e ∷ []) n0 env0 (added ++ rest) n2 env2 value
last_keeps now es e n0 env0 added n1 env1 xs rest n2 env2 value one two = record {
  drawn = let p = one.drawn in let q = two.drawn in omega arith;
  below = two.below;
  made = one.made ++ two.made;
  bodies = bodies_both now one.made two.made one.bodies two.bodies;
  keeps = λ b c desc w cw world all inc n calls en fs s t hides same.
      keeps_same (After n0 c env2) (Related cw all en) n _ _ _ (λ m. and_then (core.eval_steps cw (steps added) (core.levels cw m) c fs t) (λ d u. valued cw rest value (core.levels cw m) d fs u))
      (body_append w es e (source.levels w n) b s)
      (λ i m. valued_append cw added rest value (core.levels cw m) c fs t i)
      (then_keeps _ (After n0 c env2) (Related cw all en) n (source.eval_all w (trees es) (source.levels w n) b s) (λ m. core.eval_steps cw (steps added) (core.levels cw m) c fs t) _ (λ m d u. valued cw rest value (core.levels cw m) d fs u)
      (steps_steady cw (steps added) c fs t).extends
      (λ d u. valued_steady cw rest value d fs u)
      (λ a u. source_laws.source_ahead w n e a.1 u)
      (one.keeps b c desc w cw world all (includes_left one.made two.made all inc) n calls en fs s t hides same)
      (λ a d u z held q. weaker (After n1 d env2) (After n0 c env2) (Related cw all en) n _ (λ m. valued cw rest value (core.levels cw m) d fs z)
      (λ v r after. record { value = after.value; names = after.names; agree = agree_trans n0 n1 c d r.1 one.drawn held.agree after.agree })
      (two.keeps a.1 d held.names w cw world all (includes_right one.made two.made all inc) n calls en fs u z hides q)));
}

finished_eval : (cw : CoreModule) (ss : List StepTree) (value : CoreTree) (ls : core.Levels) (c : Vars) (fs : Funs) (t : Target) → core.eval cw (finished ss value) ls c fs t ≡ and_then (valued cw ss value ls c fs t) (λ r u. Gives r.0 u)
finished_eval cw [] value ls c fs t = sym (then_then (core.eval cw value ls c fs t) _ _ ∙ then_gives (core.eval cw value ls c fs t))
finished_eval cw (s ∷ ss) value ls c fs t =
    sym (then_then (core.eval_steps cw (steps (s ∷ ss)) ls c fs t) _ _
    ∙ then_same (core.eval_steps cw (steps (s ∷ ss)) ls c fs t) _ _ (λ d u. then_then (core.eval cw value ls d fs u) _ _ ∙ then_gives (core.eval cw value ls d fs u)))

-- steps and a value, as one expression
pub finished_keeps : (now : Texts) (es : List Tree) (n0 : ℕ) (env0 : List Bind) (added : List StepTree) (n1 : ℕ) (env1 : List Bind) (value : CoreTree) → KeepsLast now es n0 env0 added n1 env1 value → KeepsBody now es env0 [] (finished added value)
finished_keeps now es n0 env0 added n1 env1 value k = record {
  made = k.made;
  bodies = k.bodies;
  keeps = λ b c desc w cw world all inc n calls en fs s t hides same.
      keeps_same (Exports []) (Related cw all en) n _ (and_then (source.eval_body w (trees es) (source.levels w n) b s) (λ a u. Gives a u)) _ (λ m. and_then (valued cw added value (core.levels cw m) c fs t) (λ r u. Gives r.0 u))
      (sym (then_gives (source.eval_body w (trees es) (source.levels w n) b s)))
      (λ i m. finished_eval cw added value (core.levels cw m) c fs t i)
      (then_keeps (After n0 c env1) (Exports []) (Related cw all en) n (source.eval_body w (trees es) (source.levels w n) b s) (λ m. valued cw added value (core.levels cw m) c fs t) (λ a u. Gives a u) (λ m r u. Gives r.0 u)
      (valued_steady cw added value c fs t).extends
      (λ r u. const_steady u (Gives r.0 u) (begins_refl u.outside.events))
      (λ a u. begins_refl u.outside.events)
      (k.keeps b c desc w cw world all inc n calls en fs s t hides same)
      (λ a r u z after q. gives_keeps (Exports []) (Related cw all en) n a r.0 u z (record { names = []; is = after.value; bound = tt }) q));
}

-- ---- a value, and those of names

-- what the variables hold, where each is set
abbrev values_at : List CoreVar → Vars → Option (List Value)
values_at [] d = Some []
values_at (y ∷ ys) d = with_some (value_at y d) (λ v. with_some (values_at ys d) (λ vs. Some (v ∷ vs)))

abbrev given_all : Option (List Value) → Target → core.Answer
given_all None s = Wrong
given_all (Some vs) s = Gives vs s

-- one value, and then these
abbrev given_beside : List Value → Option (List Value) → Target → core.Answer
given_beside (u ∷ []) None s = Wrong
given_beside (u ∷ []) (Some vs) s = Gives (u ∷ vs) s
given_beside [] o s = Wrong
given_beside (u ∷ v ∷ us) o s = Wrong

beside_ahead : (us : List Value) (o : Option (List Value)) (s : Target) → Ahead s.outside.events (given_beside us o s)
beside_ahead (u ∷ []) None s = tt
beside_ahead (u ∷ []) (Some vs) s = begins_refl s.outside.events
beside_ahead [] o s = tt
beside_ahead (u ∷ v ∷ us) o s = tt

module _ (w : CoreModule) (ls : core.Levels) (d : Vars) (fs : Funs) where
  variables_eval : (ys : List CoreVar) (s : Target) → core.eval_all w (plain.trees (variables ys)) ls d fs s ≡ given_all (values_at ys d) s
  variables_eval [] s = refl
  variables_eval (y ∷ ys) s = by (value_at y d) (values_at ys d) (λ t. variables_eval ys t)
    where
      by : (o : Option Value) (p : Option (List Value)) → ((t : Target) → core.eval_all w (plain.trees (variables ys)) ls d fs t ≡ given_all p t) →
          and_then (and_then (core.held_value o s) core.single) (λ v t. and_then (core.eval_all w (plain.trees (variables ys)) ls d fs t) (λ vs u. Gives (v ∷ vs) u)) ≡ given_all (with_some o (λ v. with_some p (λ vs. Some (v ∷ vs)))) s
      by None p rest = refl
      by (Some v) None rest = ap (λ z. and_then z (λ vs u. Gives (v ∷ vs) u)) (rest s)
      by (Some v) (Some vs) rest = ap (λ z. and_then z (λ vs u. Gives (v ∷ vs) u)) (rest s)

  beside_eval : (ys : List CoreVar) (us : List Value) (s : Target) → and_then (core.single us s) (λ v t. and_then (core.eval_all w (plain.trees (variables ys)) ls d fs t) (λ vs u. Gives (v ∷ vs) u)) ≡ given_beside us (values_at ys d) s
  beside_eval ys [] s = refl
  beside_eval ys (u ∷ []) s = ap (λ z. and_then z (λ vs t. Gives (u ∷ vs) t)) (variables_eval ys s) ∙ by (values_at ys d)
    where
      by : (p : Option (List Value)) → and_then (given_all p s) (λ vs t. Gives (u ∷ vs) t) ≡ given_beside (u ∷ []) p s
      by None = refl
      by (Some vs) = refl
  beside_eval ys (u ∷ v ∷ us) s = refl

-- steps and then an expression
steps_eval : (w : CoreModule) (ss : List StepTree) (e : CoreTree) (ls : core.Levels) (c : Vars) (fs : Funs) (t : Target) → core.eval w (finished ss e) ls c fs t ≡ and_then (core.eval_steps w (steps ss) ls c fs t) (λ d u. core.eval w e ls d fs u)
steps_eval w [] e ls c fs t = refl
steps_eval w (s ∷ ss) e ls c fs t = refl

-- steps, then a value and those of variables
exported_eval : (w : CoreModule) (ss : List StepTree) (value : CoreTree) (y : CoreVar) (ys : List CoreVar) (ls : core.Levels) (c : Vars) (fs : Funs) (t : Target) →
    core.eval w (finished ss (together (value ∷ variables (y ∷ ys)))) ls c fs t ≡ and_then (valued w ss value ls c fs t) (λ r u. given_beside r.0 (values_at (y ∷ ys) r.1) u)
exported_eval w ss value y ys ls c fs t =
    steps_eval w ss (together (value ∷ variables (y ∷ ys))) ls c fs t
    ∙ then_same (core.eval_steps w (steps ss) ls c fs t) _ _ (λ d u.
    then_then (core.eval w value ls d fs u) _ _
    ∙ then_same (core.eval w value ls d fs u) _ _ (λ us x. beside_eval w ls d fs (y ∷ ys) us x)
    ∙ sym (then_then (core.eval w value ls d fs u) _ _))
    ∙ sym (then_then (core.eval_steps w (steps ss) ls c fs t) _ _)

-- the variables of names have their values
named_values : (env : List Bind) (b : Bindings) (d : Vars) → Describes env b d → (xs : List Name) (ys : List CoreVar) → HoldsNames env xs ys → (vs : List Value) × (values_at ys d ≡ Some vs) × AllBound xs b vs
named_values env b d desc [] [] are = ([], refl, tt)
named_values env b d desc [] (y ∷ ys) are = absurd are
named_values env b d desc (x ∷ xs) [] are = absurd are
named_values env b d desc (x ∷ xs) (y ∷ ys) are =
    let rest = named_values env b d desc xs ys are.1 in
    let first = by (value_of x b) refl (subst (λ o. SameAt o (value_of x b) d) are.0 (desc.each x)) in
    (first.0 ∷ rest.0, ap (λ o. with_some o (λ v. with_some (values_at ys d) (λ vs. Some (v ∷ vs)))) first.2 ∙ ap (λ o. with_some o (λ vs. Some (first.0 ∷ vs))) rest.1, (first.1, rest.2))
  where
    by : (o : Option Value) → value_of x b ≡ o → SameAt (Some y) o d → (v : Value) × (value_of x b ≡ Some v) × (value_at y d ≡ Some v)
    by None is p = absurd p
    by (Some v) is p = (v, is, p)

-- a body gives the values of any names that are held behind it, in their order
pub body_exports : (now : Texts) (es : List Tree) (n0 : ℕ) (env0 : List Bind) (added : List StepTree) (n1 : ℕ) (env1 : List Bind) (value : CoreTree) → KeepsLast now es n0 env0 added n1 env1 value →
    (sure : List Name) (ys : List CoreVar) → HoldsNames env1 sure ys → KeepsBody now es env0 sure (finished added (together (value ∷ variables ys)))
body_exports now es n0 env0 added n1 env1 value k [] [] are = finished_keeps now es n0 env0 added n1 env1 value k
body_exports now es n0 env0 added n1 env1 value k [] (y ∷ ys) are = absurd are
body_exports now es n0 env0 added n1 env1 value k (x ∷ xs) [] are = absurd are
body_exports now es n0 env0 added n1 env1 value k (x ∷ xs) (y ∷ ys) are = record {
  made = k.made;
  bodies = k.bodies;
  keeps = λ b c desc w cw world all inc n calls en fs s t hides same.
      let R = Exports (x ∷ xs) in
      keeps_same R (Related cw all en) n _ (and_then (source.eval_body w (trees es) (source.levels w n) b s) (λ a u. Gives a u)) _ (λ m. and_then (valued cw added value (core.levels cw m) c fs t) (λ r u. given_beside r.0 (values_at (y ∷ ys) r.1) u))
      (sym (then_gives (source.eval_body w (trees es) (source.levels w n) b s)))
      (λ i m. exported_eval cw added value y ys (core.levels cw m) c fs t i)
      (then_keeps (After n0 c env1) R (Related cw all en) n (source.eval_body w (trees es) (source.levels w n) b s) (λ m. valued cw added value (core.levels cw m) c fs t) (λ a u. Gives a u) (λ m r u. given_beside r.0 (values_at (y ∷ ys) r.1) u)
      (valued_steady cw added value c fs t).extends
      (λ r u. const_steady u (given_beside r.0 (values_at (y ∷ ys) r.1) u) (beside_ahead r.0 (values_at (y ∷ ys) r.1) u))
      (λ a u. begins_refl u.outside.events)
      (k.keeps b c desc w cw world all inc n calls en fs s t hides same)
      (λ a r u z after q.
      let values = named_values env1 a.1 r.1 after.names (x ∷ xs) (y ∷ ys) are in
      keeps_same R (Related cw all en) n _ (Gives a u) _ (λ m. Gives (a.0 ∷ values.0) z) refl
      (λ i m. (ap (λ us. given_beside us (values_at (y ∷ ys) r.1) z) after.value ∙ ap (λ o. given_beside (a.0 ∷ []) o z) values.1) i)
      (gives_keeps R (Related cw all en) n a (a.0 ∷ values.0) u z (record { names = values.0; is = refl; bound = values.2 }) q)));
}

-- ---- parameters

-- none of these names is held
abbrev NoneHeld : List Bind → List Name → Type 0
NoneHeld env [] = Unit {0}
NoneHeld env (x ∷ xs) = (held env x ≡ None) × NoneHeld env xs

held_last : (env : List Bind) (x z : Name) (y : CoreVar) → held env z ≡ None → held (env ++ bind x y ∷ []) z ≡ (if x.index == z.index then Some y else None)
held_last [] x z y p = refl
held_last (b ∷ bs) x z y p = by (b.name.index == z.index) p (λ e. held_last bs x z y e)
  where
    by : (t : Bool) → (if t then Some b.var else held bs z) ≡ None → (held bs z ≡ None → held (bs ++ bind x y ∷ []) z ≡ (if x.index == z.index then Some y else None)) → (if t then Some b.var else held (bs ++ bind x y ∷ []) z) ≡ (if x.index == z.index then Some y else None)
    by true e k = absurd cc
    by false e k = k e

held_stays : (env : List Bind) (x z : Name) (y u : CoreVar) → held env z ≡ Some u → held (env ++ bind x y ∷ []) z ≡ Some u
held_stays [] x z y u p = absurd cc
held_stays (b ∷ bs) x z y u p = by (b.name.index == z.index) p (λ e. held_stays bs x z y u e)
  where
    by : (t : Bool) → (if t then Some b.var else held bs z) ≡ Some u → (held bs z ≡ Some u → held (bs ++ bind x y ∷ []) z ≡ Some u) → (if t then Some b.var else held (bs ++ bind x y ∷ []) z) ≡ Some u
    by true e k = e
    by false e k = k e

pub same_name : (x z : Name) → (x.index == z.index) ≡ true → x ≡ z
same_name x z p = let i : x.index ≡ z.index = grind (arith, nat_tests) in ap (λ (n : ℕ). let name : Name = record { index = n } in name) i

-- one more name
pub describes_push : (n : ℕ) (env : List Bind) (b : Bindings) (d : Vars) (x : Name) (v : Value) → AreBelow n env → held env x ≡ None → Describes env b d → Describes (env ++ bind x (Numbered n) ∷ []) ((x, v) ∷ b) ((Numbered n, v) ∷ d)
describes_push n env b d x v below free q = record { each = λ z. by z (held env z) refl }
  where
    more : Describes env b ((Numbered n, v) ∷ d)
    more = describes_more n env b d v below q

    fresh : (z : Name) → held env z ≡ None → (t : Bool) → SameAt (if t then Some (Numbered n) else None) (if t then Some v else value_of z b) ((Numbered n, v) ∷ d)
    fresh z e true = here n v d
    fresh z e false = subst (λ o. SameAt o (value_of z b) ((Numbered n, v) ∷ d)) e (more.each z)

    old : (z : Name) (u : CoreVar) → held env z ≡ Some u → (t : Bool) → (x.index == z.index) ≡ t → SameAt (Some u) (if t then Some v else value_of z b) ((Numbered n, v) ∷ d)
    old z u e true same = let there : held env x ≡ Some u = ap (held env) (same_name x z same) ∙ e in absurd cc
    old z u e false same = subst (λ o. SameAt o (value_of z b) ((Numbered n, v) ∷ d)) e (more.each z)

    by : (z : Name) (o : Option CoreVar) → held env z ≡ o → SameAt (held (env ++ bind x (Numbered n) ∷ []) z) (value_of z ((x, v) ∷ b)) ((Numbered n, v) ∷ d)
    by z None e = subst (λ o. SameAt o (value_of z ((x, v) ∷ b)) ((Numbered n, v) ∷ d)) (sym (held_last env x z (Numbered n) e)) (fresh z e (x.index == z.index))
    by z (Some u) e = subst (λ o. SameAt o (value_of z ((x, v) ∷ b)) ((Numbered n, v) ∷ d)) (sym (held_stays env x z (Numbered n) u e)) (old z u e (x.index == z.index) refl)

none_held_more : (env : List Bind) (x : Name) (y : CoreVar) (xs : List Name) → (IsAmong x xs → ⊥) → NoneHeld env xs → NoneHeld (env ++ bind x y ∷ []) xs
none_held_more env x y [] apart p = tt
none_held_more env x y (z ∷ xs) apart p = (held_last env x z y p.0 ∙ by (x.index == z.index) refl, none_held_more env x y xs (λ h. apart (inr h)) p.1)
  where
    by : (t : Bool) → (x.index == z.index) ≡ t → (if t then Some y else None) ≡ None
    by true e = absurd (apart (inl (sym (same_name x z e))))
    by false e = refl

pub below_push : (n : ℕ) (env : List Bind) (x : Name) → AreBelow n env → AreBelow (n + 1) (env ++ bind x (Numbered n) ∷ [])
below_push n [] x p = (omega arith, tt)
below_push n (b ∷ bs) x p = (let q = are_below_more n (n + 1) (b ∷ []) (omega arith) (p.0, tt) in q.0, below_push n bs x p.1)

pub not_bound : (env : List Bind) (b : Bindings) (d : Vars) (x : Name) → Describes env b d → held env x ≡ None → value_of x b ≡ None
not_bound env b d x q e = by (value_of x b) (subst (λ o. SameAt o (value_of x b) d) e (q.each x))
  where
    by : (o : Option Value) → SameAt None o d → o ≡ None
    by None p = refl
    by (Some v) p = absurd p

-- these are variables of these names
abbrev pub AreVariables : Trees → List Name → Type 0
AreVariables end [] = Unit {0}
AreVariables (more (tree p (var n)) ps) (x ∷ xs) = (x ≡ n) × AreVariables ps xs
AreVariables _ _ = ⊥

too_many : (p : Tree) (ps : Trees) → AreVariables (more p ps) [] → ⊥
too_many (tree p (var n)) ps are = are
too_many (tree p _) ps are = are

-- the parameters match any values of their number, and Core's variables take them
parameters : (all : Texts) (n : ℕ) (env : List Bind) (xs : List Name) (ps : Trees) (vs : List Value) (b : Bindings) (d : Vars) → AreVariables ps xs → IsDistinct xs → NoneHeld env xs → AreBelow n env → Describes env b d → length vs ≡ length (params_from n xs) →
    (b1 : Bindings) × (d1 : Vars) × (match_all all ps vs b ≡ Some b1) × (core.bind (params_from n xs) vs d ≡ Some d1) × Describes (env ++ env_from n xs) b1 d1
parameters all n env [] end [] b d are distinct free below q len = (b, d, refl, refl, subst (λ e. Describes e b d) (sym (append-nil env)) q)
parameters all n env [] end (v ∷ vs) b d are distinct free below q len = absurd cc
parameters all n env [] (more p ps) vs b d are distinct free below q len = absurd (too_many p ps are)
parameters all n env (x ∷ xs) end vs b d are distinct free below q len = absurd are
parameters all n env (x ∷ xs) (more (tree p (var y)) ps) [] b d are distinct free below q len = absurd cc
parameters all n env (x ∷ xs) (more (tree p (var y)) ps) (v ∷ vs) b d are distinct free below q len =
    let rest = parameters all (n + 1) (env ++ bind x (Numbered n) ∷ []) xs ps vs ((x, v) ∷ b) ((Numbered n, v) ∷ d) are.1 distinct.1
    (none_held_more env x (Numbered n) xs distinct.0 free.1) (below_push n env x below) (describes_push n env b d x v below free.0 q) (omega arith) in (
      rest.0,
      rest.1,
      ap (λ z. with_some (match_name z (value_of z b) v b) (λ c. match_values all ps (values_of vs) c)) (sym are.0) ∙ ap (λ o. with_some (match_name x o v b) (λ c. match_values all ps (values_of vs) c)) (not_bound env b d x q free.0) ∙ rest.2,
      rest.3,
      subst (λ e. Describes e rest.0 rest.1) (append_assoc env (bind x (Numbered n) ∷ []) (env_from (n + 1) xs)) rest.4,
    )
parameters all n env (x ∷ xs) (more (tree p _) ps) vs b d are distinct free below q len = absurd are

none_free : (xs : List Name) → NoneHeld [] xs
none_free [] = tt
none_free (x ∷ xs) = (refl, none_free xs)

pub one_export : (a : Value × Bindings) (vs : List Value) → Exports [] a vs → SameValue a.0 vs
one_export a vs ex = by ex.names ex.is ex.bound
  where
    by : (names : List Value) → vs ≡ a.0 ∷ names → AllBound [] a.1 names → vs ≡ a.0 ∷ []
    by [] e h = e
    by (o ∷ os) e h = absurd h

-- clauses with another number of patterns have no meaning
pub clause_keeps : {B F G : Type 0} (R : Value → B → Type 0) (Q : State F → State G → Type 0) (n : ℕ) (t : Bool) (e : End (Value × Bindings) (State F)) (C : ℕ → End B (State G)) →
    (t ≡ true → Keeps R Q n (and_then e (λ a u. Gives a.0 u)) C) → Keeps R Q n (and_then (if t then e else Wrong) (λ a u. Gives a.0 u)) C
clause_keeps R Q n true e C k = k refl
clause_keeps R Q n false e C k = wrong_keeps R Q n C

-- a function of one clause, whose parameters are distinct variables
pub function_keeps : (now : Texts) (p : Place) (ps : Trees) (xs : List Name) (es : List Tree) (body : CoreTree) → AreVariables ps xs → IsDistinct xs → KeepsBody now es (env_from 0 xs) [] body →
    KeepsFunction now (by_clauses (clause p ps no_guard (trees es) no_clauses) []) (params_from 0 xs) body
function_keeps now p ps xs es body are distinct k = record {
  made = k.made;
  bodies = k.bodies;
  keeps = λ w cw world all inc n calls en vs s t same len.
      let i = parameters w.texts 0 [] xs ps vs [] [] are distinct (none_free xs) tt (record { each = λ x. tt }) len in
      clause_keeps SameValue (Related cw all en) n _ _ _ (λ wide. keeps_same SameValue (Related cw all en) n _ (and_then (source.eval_body w (trees es) (source.levels w n) i.0 s) (λ a u. Gives a.0 u)) _ (λ m. core.core cw m body i.1 [] t)
      (ap (λ o. source.value_only (source.chosen o (λ c. source.eval_body w (trees es) (source.levels w n) c s) (Raises Error function_clause s))) i.2)
      (λ j m. core.run_body cw (core.levels cw m) body [] (i.3 j) t)
      (map_keeps (Exports []) SameValue (Related cw all en) n (source.eval_body w (trees es) (source.levels w n) i.0 s) (λ m. core.core cw m body i.1 [] t) (λ a. a.0)
      (eval_steady cw body i.1 [] t).extends
      (λ a us ex. one_export a us ex)
      (k.keeps i.0 i.1 i.4 w cw world all inc n calls en [] s t (record { each = λ f g found. refl }) same)));
}
