-- Lists and tuples are kept.
use Rattle.std.proofs.Common.{◌≡◌, ℕ, List, [], ◌∷◌, ◌++◌, map, refl, sym, ap, ◌∙◌}
use Rattle.ef_base.specs.declared.fault.Place.{Place}
use Rattle.ef_base.specs.Texts.{Texts}
use Rattle.ef_core.specs.declared.env.Bind.{Bind}
use Rattle.ef_core.specs.LetForm.{IsSimple}
use Rattle.ef_core.specs.Plain as plain
use Rattle.ef_core.specs.Plain.{StepTree, lits, steps}
use Rattle.ef_core.specs.Tree as to
use Rattle.ef_core.specs.Tree.{CoreTree, LitTree}
use Rattle.ef_forms.specs.Tree as t
use Rattle.ef_forms.specs.Tree.{Tree, Shape, tree}
use Rattle.ef_forms.specs.Plain.{trees}
use Rattle.ef_meaning.specs.Value.{Value, Tuple, Nil, Cons, values_of, some, list_onto, list_value}
use Rattle.ef_meaning.specs.End.{Gives, and_then}
use Rattle.ef_meaning.specs.Match.{Bindings}
use Rattle.ef_meaning.specs.Source as source
use Rattle.ef_meaning.specs.Source.{Module, Source}
use Rattle.ef_meaning.specs.Core as core
use Rattle.ef_meaning.specs.Core.{CoreModule, Vars, Funs, Target, literal, literals, literals_onto}
use Rattle.ef_meaning.specs.Lowers.{Related, SameValue, IsValue, AreValues, AfterAll, KeepsAll, KeepsExpr}
use Rattle.ef_meaning.proofs.Ends.{begins_refl, then_same, then_then}
use Rattle.ef_meaning.proofs.Simulate.{keeps_same, gives_keeps, map_keeps}
use Rattle.ef_meaning.proofs.Variables.{value_eval, values_eval}
use Rattle.ef_meaning.proofs.Steps.{all_append, steps_steady}
use Rattle.ef_meaning.proofs.Parts.{args_keep, both_keep}
use Rattle.ef_meaning.proofs.Fails.{tuple_eval}
use Rattle.ef_meaning.proofs.Matches.{held_keeps}

-- ---- what is made of values

-- the value of an expression is made of those of its parts
abbrev IsMadeOf : Shape → List Tree → (List Value → Value) → Type 0
IsMadeOf e es f = (w : Module) (ls : source.Levels) (b : Bindings) (s : Source) → source.eval_shape w e ls b s ≡ and_then (source.eval_all w (trees es) ls b s) (λ a u. Gives (f a.0, a.1) u)

module _ (now : Texts) (p : Place) (e : Shape) (es : List Tree) (f : List Value → Value) (made_of : IsMadeOf e es f) (n0 : ℕ) (env0 : List Bind) (added : List StepTree) (n1 : ℕ) (env1 : List Bind) (xs : List CoreTree)
    (k : KeepsAll now es n0 env0 added n1 env1 xs) where
  -- by an expression of Core that makes the same of the arguments
  made_keeps : (value : CoreTree) → (IsSimple value → ⊥) → ((cw : CoreModule) (vs : List Value) (ls : core.Levels) (d : Vars) (fs : Funs) (z : Target) → AreValues cw.texts xs vs d → core.eval cw value ls d fs z ≡ Gives (f vs ∷ []) z) →
      KeepsExpr now (tree p e) n0 env0 added n1 env1 value
  made_keeps value complex gives = record {
    drawn = k.drawn;
    below = k.below;
    made = k.made;
    bodies = k.bodies;
    keeps = λ b c desc w cw world all inc n calls en fs s z hides same.
        keeps_same _ (Related cw all en) n _ (and_then (source.eval_all w (trees es) (source.levels w n) b s) (λ a u. source.beside a.1 (Gives (f a.0) u))) _ _ (made_of w (source.levels w n) b s) refl
        (args_keep now es n0 env0 added n1 env1 xs k value b c desc w cw world all inc n calls en fs s z hides same (λ vs u. Gives (f vs) u) (λ vs u. begins_refl u.outside.events)
        (λ vs d u y held q. keeps_same SameValue (Related cw all en) n _ (Gives (f vs) u) _ (λ m. Gives (f vs ∷ []) y) refl (λ i m. gives cw vs (core.levels cw m) d fs y held i)
        (gives_keeps SameValue (Related cw all en) n (f vs) (f vs ∷ []) u y refl q)));
    argument = λ simple. absurd (complex simple);
  }

  -- by a literal
  literal_keeps : (l : LitTree) → ((all : Texts) (vs : List Value) (d : Vars) → AreValues all xs vs d → literal all l ≡ f vs) → KeepsAll now (tree p e ∷ []) n0 env0 added n1 env1 (to.lit l ∷ [])
  literal_keeps l is = record {
    drawn = k.drawn;
    below = k.below;
    arguments_drawn = (tt, tt);
    made = k.made;
    bodies = k.bodies;
    keeps = λ b c desc w cw world all inc n calls en fs s z hides same.
        let R = AfterAll w.texts n0 c env1 (to.lit l ∷ []) in
        keeps_same R (Related cw all en) n _ (and_then (source.eval_all w (trees es) (source.levels w n) b s) (λ a u. Gives (f a.0 ∷ [], a.1) u)) _ (λ m. core.eval_steps cw (steps added) (core.levels cw m) c fs z)
        (ap (λ o. and_then o (λ a u. Gives (a.0 ∷ [], a.1) u)) (made_of w (source.levels w n) b s) ∙ then_then (source.eval_all w (trees es) (source.levels w n) b s) _ _) refl
        (map_keeps (AfterAll w.texts n0 c env1 xs) R (Related cw all en) n (source.eval_all w (trees es) (source.levels w n) b s) (λ m. core.eval_steps cw (steps added) (core.levels cw m) c fs z) (λ a. (f a.0 ∷ [], a.1))
        (steps_steady cw (steps added) c fs z).extends
        (λ a d after. record { values = (is w.texts a.0 d after.values, tt); names = after.names; agree = after.agree })
        (k.keeps b c desc w cw world all inc n calls en fs s z hides same));
  }

-- ---- literals

values_of_literals : (all : Texts) (ls : List LitTree) (vs : List Value) (d : Vars) → AreValues all (map (λ l. to.lit l) ls) vs d → literals all (lits ls) ≡ values_of vs
values_of_literals all [] [] d p = refl
values_of_literals all [] (v ∷ vs) d p = absurd p
values_of_literals all (l ∷ ls) [] d p = absurd p
values_of_literals all (l ∷ ls) (v ∷ vs) d p = λ i. some (p.0 i) (values_of_literals all ls vs d p.1 i)

list_of_literals : (all : Texts) (ls : List LitTree) (vs : List Value) (tail : Value) (d : Vars) → AreValues all (map (λ l. to.lit l) ls) vs d → literals_onto all (lits ls) tail ≡ list_onto vs tail
list_of_literals all [] [] tail d p = refl
list_of_literals all [] (v ∷ vs) tail d p = absurd p
list_of_literals all (l ∷ ls) [] tail d p = absurd p
list_of_literals all (l ∷ ls) (v ∷ vs) tail d p = λ i. Cons (p.0 i) (list_of_literals all ls vs tail d p.1 i)

-- ---- tuples and lists

module _ (now : Texts) (p : Place) (es : List Tree) (n0 : ℕ) (env0 : List Bind) (added : List StepTree) (n1 : ℕ) (env1 : List Bind) where
  pub tuple_keeps : (xs : List CoreTree) → KeepsAll now es n0 env0 added n1 env1 xs → KeepsExpr now (tree p (t.tuple (trees es))) n0 env0 added n1 env1 (to.tuple (plain.trees xs))
  tuple_keeps xs k = made_keeps now p (t.tuple (trees es)) es (λ vs. Tuple (values_of vs)) (λ w ls b s. refl) n0 env0 added n1 env1 xs k (to.tuple (plain.trees xs)) (λ simple. simple)
      (λ cw vs ls d fs z held. tuple_eval cw ls d fs z xs vs held)

  pub list_keeps : (xs : List CoreTree) → KeepsAll now es n0 env0 added n1 env1 xs → KeepsExpr now (tree p (t.list (trees es))) n0 env0 added n1 env1 (to.list (plain.trees xs))
  list_keeps xs k = made_keeps now p (t.list (trees es)) es list_value (λ w ls b s. refl) n0 env0 added n1 env1 xs k (to.list (plain.trees xs)) (λ simple. simple)
      (λ cw vs ls d fs z held. ap (λ o. and_then o (λ us u. Gives (list_value us ∷ []) u)) (values_eval cw xs vs ls d fs z held))

  module _ (ls : List LitTree) (k : KeepsAll now es n0 env0 added n1 env1 (map (λ l. to.lit l) ls)) where
    pub tuple_literal_keeps : KeepsExpr now (tree p (t.tuple (trees es))) n0 env0 added n1 env1 (to.lit (to.lit_tuple (lits ls)))
    tuple_literal_keeps = held_keeps now (tree p (t.tuple (trees es))) n0 env0 added n1 env1 (to.lit (to.lit_tuple (lits ls)))
        (literal_keeps now p (t.tuple (trees es)) es (λ vs. Tuple (values_of vs)) (λ w ls b s. refl) n0 env0 added n1 env1 (map (λ l. to.lit l) ls) k (to.lit_tuple (lits ls))
        (λ all vs d held. ap Tuple (values_of_literals all ls vs d held)))

    pub list_literal_keeps : KeepsExpr now (tree p (t.list (trees es))) n0 env0 added n1 env1 (to.lit (to.lit_list (lits ls)))
    list_literal_keeps = held_keeps now (tree p (t.list (trees es))) n0 env0 added n1 env1 (to.lit (to.lit_list (lits ls)))
        (literal_keeps now p (t.list (trees es)) es list_value (λ w ls b s. refl) n0 env0 added n1 env1 (map (λ l. to.lit l) ls) k (to.lit_list (lits ls))
        (λ all vs d held. list_of_literals all ls vs Nil d held))

-- ---- lists before a tail

-- all but the last, before the last
abbrev joined : List Value → Value
joined [] = Nil
joined (v ∷ []) = v
joined (v ∷ u ∷ us) = Cons v (joined (u ∷ us))

joined_is : (vs : List Value) (v : Value) → joined (vs ++ v ∷ []) ≡ list_onto vs v
joined_is [] v = refl
joined_is (u ∷ []) v = refl
joined_is (u ∷ o ∷ vs) v = ap (Cons u) (joined_is (o ∷ vs) v)

values_split : (all : Texts) (xs : List CoreTree) (y : CoreTree) (vs : List Value) (d : Vars) → AreValues all (xs ++ y ∷ []) vs d → (us : List Value) × (v : Value) × (vs ≡ us ++ v ∷ []) × AreValues all xs us d × IsValue all y v d
values_split all [] y [] d p = absurd p
values_split all [] y (v ∷ []) d p = ([], v, refl, tt, p.0)
values_split all [] y (v ∷ u ∷ vs) d p = absurd p.1
values_split all (x ∷ xs) y [] d p = absurd p
values_split all (x ∷ xs) y (v ∷ vs) d p = let rest = values_split all xs y vs d p.1 in (v ∷ rest.0, rest.1, ap (λ l. v ∷ l) rest.2, (p.0, rest.3), rest.4)

list_to_made : (es : List Tree) (e : Tree) → IsMadeOf (t.list_to (trees es) e) (es ++ e ∷ []) joined
list_to_made es e w ls b s =
    then_same (source.eval_all w (trees es) ls b s) _ _ (λ a u.
    then_same (source.eval w e ls a.1 u) _ _ (λ d x. ap (λ v. Gives (v, d.1) x) (sym (joined_is a.0 d.0)))
    ∙ sym (then_then (source.eval w e ls a.1 u) _ _)
    ∙ ap (λ o. and_then o (λ c x. Gives (joined c.0, c.1) x)) (sym (then_then (source.eval w e ls a.1 u) _ _)))
    ∙ sym (then_then (source.eval_all w (trees es) ls b s) _ _)
    ∙ ap (λ o. and_then o (λ c x. Gives (joined c.0, c.1) x)) (sym (all_append w es (e ∷ []) ls b s))

module _ (now : Texts) (p : Place) (es : List Tree) (e : Tree) (n0 : ℕ) (env0 : List Bind) (added : List StepTree) (n1 : ℕ) (env1 : List Bind) (more : List StepTree) (n2 : ℕ) (env2 : List Bind) where
  pub list_to_keeps : (xs : List CoreTree) (y : CoreTree) → KeepsAll now es n0 env0 added n1 env1 xs → KeepsAll now (e ∷ []) n1 env1 more n2 env2 (y ∷ []) →
      KeepsExpr now (tree p (t.list_to (trees es) e)) n0 env0 (added ++ more) n2 env2 (to.list_to (plain.trees xs) y)
  list_to_keeps xs y k l =
      made_keeps now p (t.list_to (trees es) e) (es ++ e ∷ []) joined (list_to_made es e) n0 env0 (added ++ more) n2 env2 (xs ++ y ∷ [])
      (both_keep now es (e ∷ []) n0 env0 added n1 env1 xs more n2 env2 (y ∷ []) k l) (to.list_to (plain.trees xs) y) (λ simple. simple)
      (λ cw vs ls d fs z held.
      let parts = values_split cw.texts xs y vs d held in
      ap (λ o. and_then o (λ us u. and_then (and_then (core.eval cw y ls d fs u) core.single) (λ v x. Gives (list_onto us v ∷ []) x))) (values_eval cw xs parts.0 ls d fs z parts.3)
      ∙ ap (λ o. and_then (and_then o core.single) (λ v x. Gives (list_onto parts.0 v ∷ []) x)) (value_eval cw y parts.1 ls d fs z parts.4)
      ∙ ap (λ v. Gives (v ∷ []) z) (sym (joined_is parts.0 parts.1) ∙ ap joined (sym parts.2)))

  pub list_to_literal_keeps : (ls : List LitTree) (l : LitTree) → KeepsAll now es n0 env0 added n1 env1 (map (λ m. to.lit m) ls) → KeepsAll now (e ∷ []) n1 env1 more n2 env2 (to.lit l ∷ []) →
      KeepsExpr now (tree p (t.list_to (trees es) e)) n0 env0 (added ++ more) n2 env2 (to.lit (to.lit_list_to (lits ls) l))
  list_to_literal_keeps ls l k m = held_keeps now (tree p (t.list_to (trees es) e)) n0 env0 (added ++ more) n2 env2 (to.lit (to.lit_list_to (lits ls) l))
      (literal_keeps now p (t.list_to (trees es) e) (es ++ e ∷ []) joined (list_to_made es e) n0 env0 (added ++ more) n2 env2 (map (λ m. to.lit m) ls ++ to.lit l ∷ [])
      (both_keep now es (e ∷ []) n0 env0 added n1 env1 (map (λ m. to.lit m) ls) more n2 env2 (to.lit l ∷ []) k m) (to.lit_list_to (lits ls) l)
      (λ all vs d held.
      let parts = values_split all (map (λ m. to.lit m) ls) (to.lit l) vs d held in
      list_of_literals all ls parts.0 (literal all l) d parts.3 ∙ ap (list_onto parts.0) parts.4 ∙ sym (joined_is parts.0 parts.1) ∙ ap joined (sym parts.2)))
