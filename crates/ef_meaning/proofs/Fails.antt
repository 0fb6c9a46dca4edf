-- What raises an error where no clause is chosen.
use Rattle.std.proofs.Common.{◌≡◌, ℕ, codes, bytes_eq, true, false, if◌then◌else◌, List, [], ◌∷◌, Some, refl, ap, ◌∙◌, arith}
use Rattle.std.proofs.lemmas.Bool.Decides.{nat_tests}
use Rattle.ef_base.specs.declared.name.Name.{Name}
use Rattle.ef_base.specs.Texts.{Texts, Extends, IsNameOf, text}
use Rattle.ef_base.specs.Laws.{named_later}
use Rattle.ef_core.specs.declared.literal.CoreVar.{CoreVar}
use Rattle.ef_core.specs.declared.literal.CoreVar.TheVariants.{Numbered, Named}
use Rattle.ef_core.specs.Plain.{lits, steps, trees}
use Rattle.ef_core.specs.Tree as to
use Rattle.ef_core.specs.Tree.{CoreTree}
use Rattle.ef_meaning.specs.Value.{Value, Values, Atom, Tuple, some, none, values_of, pair_value}
use Rattle.ef_meaning.specs.Exception.{Error, function_clause, badmatch, case_clause}
use Rattle.ef_meaning.specs.End.{Gives, Raises, and_then}
use Rattle.ef_meaning.specs.Core as core
use Rattle.ef_meaning.specs.Core.{CoreModule, Vars, Funs, Target, same_var, value_at}
use Rattle.ef_meaning.specs.Lowers.{AreValues}
use Rattle.ef_meaning.specs.Cases.{AreSet, FailsFunction, FailsValue, variables}
use Rattle.ef_meaning.proofs.Variables.{values_eval}
use Rattle.ef_meaning.proofs.Parts.{one_step}

same_itself : (z : CoreVar) → same_var z z ≡ true
same_itself (Numbered i) = grind (arith, nat_tests)
same_itself (Named m) = grind (arith, nat_tests)

-- the variable that was set last
pub value_here : (z : CoreVar) (v : Value) (c : Vars) → value_at z ((z, v) ∷ c) ≡ Some v
value_here z v c = ap (λ b. if b then Some v else value_at z c) (same_itself z)

pub set_values : (all : Texts) (ys : List CoreVar) (c : Vars) → AreSet ys c → (vs : List Value) × AreValues all (variables ys) vs c
set_values all [] c p = ([], tt)
set_values all (y ∷ ys) c p = let rest = set_values all ys c p.1 in (p.0.0 ∷ rest.0, (p.0.1, rest.1))

module _ (w : CoreModule) (ls : core.Levels) (c : Vars) (fs : Funs) (t : Target) where
  pub tuple_eval : (es : List CoreTree) (vs : List Value) → AreValues w.texts es vs c → core.eval w (to.tuple (trees es)) ls c fs t ≡ Gives (Tuple (values_of vs) ∷ []) t
  tuple_eval es vs p = ap (λ o. and_then o (λ us u. Gives (Tuple (values_of us) ∷ []) u)) (values_eval w es vs ls c fs t p)

  -- an error, whose reason is given
  raise_eval : (f : Name) (e : CoreTree) (v : Value) → text w.texts f ≡ codes "match_fail" → core.eval w e ls c fs t ≡ Gives (v ∷ []) t →
      core.eval w (to.primop f (trees (e ∷ []))) ls c fs t ≡ Raises Error (if core.is_function_clause v then function_clause else v) t
  raise_eval f e v is p =
      ap (λ o. and_then (and_then (and_then o core.single) (λ y u. Gives (y ∷ []) u)) (λ vs u. core.primitive (text w.texts f) vs u)) p
      ∙ ap (λ b. core.primitive b (v ∷ []) t) is

  -- one variable more, and then the rest
  step_eval : (z : CoreVar) (e body : CoreTree) (v : Value) → core.eval w e ls c fs t ≡ Gives (v ∷ []) t → core.eval w (to.lets (steps (one_step z e)) body) ls c fs t ≡ core.eval w body ls ((z, v) ∷ c) fs t
  step_eval z e body v p =
      ap (λ o. and_then (and_then (and_then o (λ vs u. core.given (core.bind (z ∷ []) vs c) u)) (λ d u. Gives d u)) (λ d u. core.eval w body ls d fs u)) p

-- the variable of a step holds the reason
raise_step : (w : CoreModule) (ls : core.Levels) (c : Vars) (fs : Funs) (t : Target) (f : Name) (z : CoreVar) (e : CoreTree) (v : Value) → text w.texts f ≡ codes "match_fail" → core.eval w e ls c fs t ≡ Gives (v ∷ []) t →
    core.eval w (to.lets (steps (one_step z e)) (to.primop f (trees (to.var z ∷ [])))) ls c fs t ≡ Raises Error (if core.is_function_clause v then function_clause else v) t
raise_step w ls c fs t f z e v is p =
    step_eval w ls c fs t z e (to.primop f (trees (to.var z ∷ []))) v p
    ∙ raise_eval w ls ((z, v) ∷ c) fs t f (to.var z) v is (ap (λ o. core.held_value o t) (value_here z v c))

-- ---- function_clause

abbrev pub function_reason : Name → List CoreVar → CoreTree
function_reason why ys = to.tuple (trees (to.lit (to.atom why) ∷ variables ys))

module _ (now : Texts) (f why : Name) (ys : List CoreVar) (is_fail : IsNameOf now f (codes "match_fail")) (is_why : IsNameOf now why (codes "function_clause")) where
  abbrev failed : CoreModule → Target → Values → core.Answer
  failed w t vs = Raises Error (if core.is_function_clause (Tuple (some (Atom (text w.texts why)) vs)) then function_clause else Tuple (some (Atom (text w.texts why)) vs)) t

  is_failed : (w : CoreModule) → Extends now w.texts → (t : Target) (vs : Values) → failed w t vs ≡ Raises Error function_clause t
  is_failed w later t vs = ap (λ b. Raises Error (if core.is_function_clause (Tuple (some (Atom b) vs)) then function_clause else Tuple (some (Atom b) vs)) t) (named_later now w.texts why (codes "function_clause") is_why later).is

  pub function_fails : FailsFunction now ys (to.primop f (trees (function_reason why ys ∷ [])))
  function_fails = record {
    raises = λ w later ls c fs t set.
        let vs = set_values w.texts ys c set in
        raise_eval w ls c fs t f (function_reason why ys) _ (named_later now w.texts f (codes "match_fail") is_fail later).is (tuple_eval w ls c fs t (to.lit (to.atom why) ∷ variables ys) (Atom (text w.texts why) ∷ vs.0) (refl, vs.1))
        ∙ is_failed w later t (values_of vs.0);
  }

  -- with a step for the reason
  pub function_step_fails : (z : CoreVar) → FailsFunction now ys (to.lets (steps (one_step z (function_reason why ys))) (to.primop f (trees (to.var z ∷ []))))
  function_step_fails z = record {
    raises = λ w later ls c fs t set.
        let vs = set_values w.texts ys c set in
        raise_step w ls c fs t f z (function_reason why ys) _ (named_later now w.texts f (codes "match_fail") is_fail later).is (tuple_eval w ls c fs t (to.lit (to.atom why) ∷ variables ys) (Atom (text w.texts why) ∷ vs.0) (refl, vs.1))
        ∙ is_failed w later t (values_of vs.0);
  }

-- without variables the reason is a literal
pub function_literal_fails : (now : Texts) (f why : Name) → IsNameOf now f (codes "match_fail") → IsNameOf now why (codes "function_clause") → FailsFunction now [] (to.primop f (trees (to.lit (to.lit_tuple (lits (to.atom why ∷ []))) ∷ [])))
function_literal_fails now f why is_fail is_why = record {
  raises = λ w later ls c fs t set.
      raise_eval w ls c fs t f (to.lit (to.lit_tuple (lits (to.atom why ∷ [])))) _ (named_later now w.texts f (codes "match_fail") is_fail later).is refl
      ∙ is_failed now f why [] is_fail is_why w later t none;
}

-- ---- a word and the value

abbrev pub value_reason : Name → CoreVar → CoreTree
value_reason why z = to.tuple (trees (to.lit (to.atom why) ∷ to.var z ∷ []))

module _ (now : Texts) (f why : Name) (z : CoreVar) (word : List ℕ) (is_fail : IsNameOf now f (codes "match_fail")) (is_why : IsNameOf now why word) (other : bytes_eq word (codes "function_clause") ≡ false) where
  abbrev reason : Value → Value
  reason v = pair_value (Atom word) v

  abbrev told : CoreModule → Target → Value → core.Answer
  told w t v = Raises Error (if core.is_function_clause (pair_value (Atom (text w.texts why)) v) then function_clause else pair_value (Atom (text w.texts why)) v) t

  is_reason : (w : CoreModule) → Extends now w.texts → (t : Target) (v : Value) → told w t v ≡ Raises Error (reason v) t
  is_reason w later t v =
      ap (λ b. Raises Error (if core.is_function_clause (pair_value (Atom b) v) then function_clause else pair_value (Atom b) v) t) (named_later now w.texts why word is_why later).is
      ∙ ap (λ b. Raises Error (if b then function_clause else reason v) t) other

  pub value_fails : FailsValue now z reason (to.primop f (trees (value_reason why z ∷ [])))
  value_fails = record {
    raises = λ w later ls c fs t v held.
        raise_eval w ls c fs t f (value_reason why z) _ (named_later now w.texts f (codes "match_fail") is_fail later).is (tuple_eval w ls c fs t (to.lit (to.atom why) ∷ to.var z ∷ []) (Atom (text w.texts why) ∷ v ∷ []) (refl, (held, tt)))
        ∙ is_reason w later t v;
  }

  -- with a step for the reason
  pub value_step_fails : (y : CoreVar) → FailsValue now z reason (to.lets (steps (one_step y (value_reason why z))) (to.primop f (trees (to.var y ∷ []))))
  value_step_fails y = record {
    raises = λ w later ls c fs t v held.
        raise_step w ls c fs t f y (value_reason why z) _ (named_later now w.texts f (codes "match_fail") is_fail later).is (tuple_eval w ls c fs t (to.lit (to.atom why) ∷ to.var z ∷ []) (Atom (text w.texts why) ∷ v ∷ []) (refl, (held, tt)))
        ∙ is_reason w later t v;
  }

module _ (now : Texts) (f why : Name) (z : CoreVar) (is_fail : IsNameOf now f (codes "match_fail")) (is_why : IsNameOf now why (codes "badmatch")) where
  pub badmatch_fails : FailsValue now z badmatch (to.primop f (trees (value_reason why z ∷ [])))
  badmatch_fails = value_fails now f why z (codes "badmatch") is_fail is_why refl

  pub badmatch_step_fails : (y : CoreVar) → FailsValue now z badmatch (to.lets (steps (one_step y (value_reason why z))) (to.primop f (trees (to.var y ∷ []))))
  badmatch_step_fails y = value_step_fails now f why z (codes "badmatch") is_fail is_why refl y

module _ (now : Texts) (f why : Name) (z : CoreVar) (is_fail : IsNameOf now f (codes "match_fail")) (is_why : IsNameOf now why (codes "case_clause")) where
  pub case_clause_fails : FailsValue now z case_clause (to.primop f (trees (value_reason why z ∷ [])))
  case_clause_fails = value_fails now f why z (codes "case_clause") is_fail is_why refl

  pub case_clause_step_fails : (y : CoreVar) → FailsValue now z case_clause (to.lets (steps (one_step y (value_reason why z))) (to.primop f (trees (to.var y ∷ []))))
  case_clause_step_fails y = value_step_fails now f why z (codes "case_clause") is_fail is_why refl y
