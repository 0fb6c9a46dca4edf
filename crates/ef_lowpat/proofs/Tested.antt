-- Guards that are made of tests give what the tests say.
use Rattle.std.proofs.Common.{◌≡◌, ℕ, ◌+◌, ◌<◌, ◌≤◌, Bool, true, false, codes, List, [], ◌∷◌, length, get_or, map, Option, Some, None, refl, sym, ap, ◌∙◌, subst, arith}
use Rattle.std.specs.Prelude.{◌&&◌}
use Rattle.ef_base.specs.Texts.{Texts, Extends, text}
use Rattle.ef_base.specs.Laws.{named_later}
use Rattle.ef_core.specs.declared.literal.CoreVar.{CoreVar}
use Rattle.ef_core.specs.declared.literal.CoreVar.TheVariants.{Numbered}
use Rattle.ef_core.specs.declared.lowered.Test.{Test}
use Rattle.ef_core.specs.Plain.{trees}
use Rattle.ef_core.specs.Tree.{CoreSteps, CoreTree, done, step, tuple, var}
use Rattle.ef_meaning.specs.Value.{Value, Atom, Tuple, truth, values_of}
use Rattle.ef_meaning.specs.Same.{same_value, same_values}
use Rattle.ef_meaning.specs.End.{Gives, and_then}
use Rattle.ef_meaning.specs.Called.{remote}
use Rattle.ef_meaning.specs.Core.{CoreModule, Funs, Levels, Target, Vars, eval, one_value, side, value_at}
use Rattle.ef_meaning.specs.Core as core
use Rattle.ef_meaning.specs.Lowers.{AreValues}
use Rattle.ef_meaning.specs.Patterns.{IsGuard, TestsBelow, are_same, both_hold, verdict}
use Rattle.ef_meaning.proofs.Variables.{here, there, values_eval}
use Rattle.ef_lowpat.specs.Guards.{IsComparison, behind_sides, rights}

-- ---- a comparison

comparison_eval : (now : Texts) (x y : CoreVar) (e : CoreTree) → IsComparison now x y e → (w : CoreModule) → Extends now w.texts → (ls : Levels) (c : Vars) (fs : Funs) (t : Target) (u v : Value) → value_at x c ≡ Some u → value_at y c ≡ Some v
    → eval w e ls c fs t ≡ Gives (truth (same_value u v) ∷ []) t
comparison_eval now x y e is w later ls c fs t u v p q =
    let m = (named_later now w.texts is.erlang (codes "erlang") is.erlang_named later).is in
    let f = (named_later now w.texts is.same (codes "=:=") is.same_named later).is in
    ap (λ z. eval w z ls c fs t) is.is
    ∙ ap (λ o. and_then o (λ vs s. one_value (remote (side w) ls (Atom (text w.texts is.erlang)) (Atom (text w.texts is.same)) vs s))) (values_eval w (var x ∷ var y ∷ []) (u ∷ v ∷ []) ls c fs t (p, (q, tt)))
    ∙ (λ i. one_value (remote (side w) ls (Atom (m i)) (Atom (f i)) (u ∷ v ∷ []) t))

-- what has a verdict has values
are_valued : (o p : Option Value) (r : Option Bool) (b : Bool) → both_hold (are_same o p) r ≡ Some b → (u : Value) × (v : Value) × (a : Bool) × (o ≡ Some u) × (p ≡ Some v) × (r ≡ Some a) × ((same_value u v && a) ≡ b)
are_valued None p r b e = absurd (by p e)
  where
    by : (p : Option Value) → both_hold (are_same None p) r ≡ Some b → ⊥
    by None h = cc
    by (Some v) h = cc
are_valued (Some u) None r b e = absurd cc
are_valued (Some u) (Some v) None b e = absurd cc
are_valued (Some u) (Some v) (Some a) b e = (u, v, a, refl, refl, refl, (let same : (same_value u v && a) ≡ b = cc in same))

and_true : (b : Bool) → (b && true) ≡ b
and_true true = refl
and_true false = refl

comparison_gives : (now : Texts) (test : Test) (e : CoreTree) → IsComparison now test.left test.right e → IsGuard now (test ∷ []) e
comparison_gives now test e is = record {
  gives = λ w later ls c fs t b p.
      let h = are_valued (value_at test.left c) (value_at test.right c) (Some true) b p in
      let held : true ≡ h.2 = some_same true h.2 h.5 in
      comparison_eval now test.left test.right e is w later ls c fs t h.0 h.1 h.3 h.4
      ∙ ap (λ z. Gives (truth z ∷ []) t) (sym (and_true (same_value h.0 h.1)) ∙ ap (λ a. same_value h.0 h.1 && a) held ∙ h.6);
}
  where
    some_same : (a b : Bool) → Some a ≡ Some b → a ≡ b
    some_same a b e = cc

pub one_gives : (now : Texts) (tests : List Test) (d x : Test) (e : CoreTree) → 1 ≤ length tests → length tests < 2 → IsComparison now (get_or tests 0 d).left (get_or tests 0 x).right e → IsGuard now tests e
one_gives now [] d x e least few is = absurd (omega arith)
one_gives now (t ∷ []) d x e least few is = comparison_gives now t e is
one_gives now (t ∷ u ∷ ts) d x e least few is = absurd (omega arith)

-- ---- several tests

-- the values of both sides
record HaveSides (tests : List Test) (c : Vars) (b : Bool) : Type 0 where
  pub us : List Value
  pub vs : List Value
  pub left : (all : Texts) → AreValues all (map (λ t. var t.left) tests) us c
  pub right : (all : Texts) → AreValues all (map (λ t. var t.right) tests) vs c
  pub same : same_values (values_of us) (values_of vs) ≡ b

sides : (tests : List Test) (c : Vars) (b : Bool) → verdict tests c ≡ Some b → HaveSides tests c b
sides [] c b e = record { us = []; vs = []; left = λ all. tt; right = λ all. tt; same = let same : true ≡ b = cc in same }
sides (t ∷ ts) c b e =
    let h = are_valued (value_at t.left c) (value_at t.right c) (verdict ts c) b e in
    let rest = sides ts c h.2 h.5 in record {
      us = h.0 ∷ rest.us;
      vs = h.1 ∷ rest.vs;
      left = λ all. (h.3, rest.left all);
      right = λ all. (h.4, rest.right all);
      same = ap (λ a. same_value h.0 h.1 && a) rest.same ∙ h.6;
    }

-- the right sides have the same values behind one more variable
rights_behind : (all : Texts) (n : ℕ) (x : Value) (tests : List Test) (vs : List Value) (c : Vars) → TestsBelow n tests → AreValues all (map (λ t. var t.right) tests) vs c → AreValues all (map (λ t. var t.right) tests) vs ((Numbered n, x) ∷ c)
rights_behind all n x [] [] c below h = tt
rights_behind all n x [] (v ∷ vs) c below h = absurd h
rights_behind all n x (t ∷ ts) [] c below h = absurd h
rights_behind all n x (t ∷ ts) (v ∷ vs) c below h = (there n t.right x c below.1 ∙ h.0, rights_behind all n x ts vs c below.2 h.1)

tuple_eval : (w : CoreModule) (es : List CoreTree) (vs : List Value) (ls : Levels) (c : Vars) (fs : Funs) (t : Target) → AreValues w.texts es vs c → eval w (tuple (trees es)) ls c fs t ≡ Gives (Tuple (values_of vs) ∷ []) t
tuple_eval w es vs ls c fs t h = ap (λ o. and_then o (λ us s. Gives (Tuple (values_of us) ∷ []) s)) (values_eval w es vs ls c fs t h)

pub sides_give : (now : Texts) (n : ℕ) (tests : List Test) (body e : CoreTree) → TestsBelow n tests → IsComparison now (Numbered n) (Numbered (n + 1)) body → e ≡ behind_sides tests (Numbered n) (Numbered (n + 1)) body → IsGuard now tests e
sides_give now n tests body e below is made = subst (IsGuard now tests) (sym made) (record {
  gives = λ w later ls c fs t b p.
      let h = sides tests c b p in
      let x = Tuple (values_of h.us) in
      let y = Tuple (values_of h.vs) in
      let d : Vars = (Numbered n, x) ∷ c in
      ap (λ o. and_then (and_then (and_then o (λ vs s. core.given (core.bind (Numbered n ∷ []) vs c) s)) (λ g s. core.eval_steps w (second) ls g fs s)) (λ g s. eval w body ls g fs s)) (tuple_eval w (map (λ r. var r.left) tests) h.us ls c fs t (h.left w.texts))
      ∙ ap (λ o. and_then (and_then (and_then o (λ vs s. core.given (core.bind (Numbered (n + 1) ∷ []) vs d) s)) (λ g s. core.eval_steps w done ls g fs s)) (λ g s. eval w body ls g fs s)) (tuple_eval w (map (λ r. var r.right) tests) h.vs ls d fs t (rights_behind w.texts n x tests h.vs c below (h.right w.texts)))
      ∙ comparison_eval now (Numbered n) (Numbered (n + 1)) body is w later ls ((Numbered (n + 1), y) ∷ d) fs t x y (there (n + 1) (Numbered n) y d (omega arith) ∙ here n x c) (here (n + 1) y d)
      ∙ ap (λ z. Gives (truth z ∷ []) t) h.same;
})
  where
    second : CoreSteps
    second = step (Numbered (n + 1) ∷ []) (tuple (rights tests)) done
