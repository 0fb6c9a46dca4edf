-- Patterns of the front of a list, one more at the end; lists and tuples of them.
use Rattle.std.proofs.Common.{◌≡◌, ℕ, Bool, true, false, if◌then◌else◌, List, [], ◌∷◌, ◌++◌, Option, Some, None, refl, sym, ap, ◌∙◌, subst, arith, append-nil}
use Rattle.std.specs.Prelude.{◌&&◌}
use Rattle.ef_base.specs.declared.fault.Place.{Place}
use Rattle.ef_base.specs.Texts.{Texts}
use Rattle.ef_core.specs.declared.env.Bind.{Bind}
use Rattle.ef_core.specs.declared.lowered.Test.{Test}
use Rattle.ef_core.specs.Plain.{pats}
use Rattle.ef_core.specs.Tree as to
use Rattle.ef_core.specs.Tree.{LitTree, LitTrees, PatTree, PatTrees, no_lits, more_lits, no_pats, more_pats}
use Rattle.ef_forms.specs.Plain.{trees}
use Rattle.ef_forms.specs.Tree as from
use Rattle.ef_forms.specs.Tree.{Tree, Trees, end, more}
use Rattle.ef_meaning.specs.Value.{Value, Values, Integer, Atom, Tuple, Nil, Cons, BitString, Pid, Port, Reference, Local, External, Made, none, some, elements, head_and_tail, with_some}
use Rattle.ef_meaning.specs.Same.{same_value, same_values}
use Rattle.ef_meaning.specs.Match.{Bindings}
use Rattle.ef_meaning.specs.Match as source
use Rattle.ef_meaning.specs.Core.{Vars}
use Rattle.ef_meaning.specs.Core as core
use Rattle.ef_meaning.specs.Lowers.{Agree, AreBelow}
use Rattle.ef_meaning.proofs.Variables.{agree_refl}
use Rattle.ef_lowpat.specs.Matching.{HaveHeld, KeepsItems, KeepsMatch, KeepsPattern, Kind, SameBy, front, whole}
use Rattle.ef_lowpat.specs.Nodes.{Says, lit_pats}
use Rattle.ef_lowpat.proofs.Leaves.{literal_keeps}
use Rattle.ef_lowpat.proofs.Matching.{part_keeps, same_keeps, then_keeps}

with_some_along : {A B C : Type 0} (o : Option A) (f : A → Option B) (g : B → Option C) → with_some (with_some o f) g ≡ with_some o (λ a. with_some (f a) g)
with_some_along None f g = refl
with_some_along (Some a) f g = refl

-- ---- one more at the end

module _ (all : Texts) where
  pub more_of_source : (es : List Tree) (e : Tree) (v : Value) (b : Bindings)
      → source.match_items all (trees (es ++ e ∷ [])) v b ≡ with_some (source.match_items all (trees es) v b) (λ r. source.match_items all (more e end) r.0 r.1)
  more_of_source [] e v b = refl
  more_of_source (x ∷ es) e v b =
      (λ i. with_some (head_and_tail v) (λ h. with_some (source.matches all x h.0 b) (λ d. more_of_source es e h.1 d i)))
      ∙ (λ i. with_some (head_and_tail v) (λ h. sym (with_some_along (source.matches all x h.0 b) (λ d. source.match_items all (trees es) h.1 d) (λ r. source.match_items all (more e end) r.0 r.1)) i))
      ∙ sym (with_some_along (head_and_tail v) _ _)

  pub more_of_core : (ps : List PatTree) (p : PatTree) (v : Value) (c : Vars)
      → core.match_items all (pats (ps ++ p ∷ [])) v c ≡ with_some (core.match_items all (pats ps) v c) (λ r. core.match_items all (more_pats p no_pats) r.0 r.1)
  more_of_core [] p v c = refl
  more_of_core (x ∷ ps) p v c =
      (λ i. with_some (head_and_tail v) (λ h. with_some (core.matches all x h.0 c) (λ d. more_of_core ps p h.1 d i)))
      ∙ (λ i. with_some (head_and_tail v) (λ h. sym (with_some_along (core.matches all x h.0 c) (λ d. core.match_items all (pats ps) h.1 d) (λ r. core.match_items all (more_pats p no_pats) r.0 r.1)) i))
      ∙ sym (with_some_along (head_and_tail v) _ _)

left_as : {A B : Type 0} (q r : A × B) → Some q ≡ Some r → q.1 ≡ r.1
left_as q r e = let same : q ≡ r = cc in ap (λ x. x.1) same

pub no_items_keep : (n0 : ℕ) (env : List Bind) → AreBelow n0 env → KeepsItems [] n0 env [] [] n0 []
no_items_keep n0 env below = record {
  drawn = omega arith;
  below = subst (AreBelow n0) (sym (append-nil env)) below;
  tests_below = tt;
  agree = λ all v c q e. let same : c ≡ q.1 = left_as (v, c) q e in subst (λ d. Agree n0 c d) same (agree_refl n0 c);
  decided = λ all v c q h e. let same : c ≡ q.1 = left_as (v, c) q e in record { held = subst (λ x. HaveHeld x q.1) (sym (append-nil env)) (subst (HaveHeld env) same h); values = tt; verdict = (true, refl) };
  keeps = λ all v b c desc. subst (λ x. SameBy front x [] (Some (v, b)) (Some (v, c))) (sym (append-nil env)) (refl, desc, refl);
}

-- where nothing was added behind
nothing_more : (k : Kind) (A : Type 0) (n0 : ℕ) (env : List Bind) (tests : List Test) (n1 : ℕ) (binds : List Bind) (from : Texts → A → Bindings → Option k.of_source) (to : Texts → A → Vars → Option k.of_core)
    → KeepsMatch k A n0 env (tests ++ []) n1 (binds ++ []) from to → KeepsMatch k A n0 env tests n1 binds from to
nothing_more k A n0 env tests n1 binds from to one =
    subst (λ ts. KeepsMatch k A n0 env ts n1 binds from to) (append-nil tests) (subst (λ bs. KeepsMatch k A n0 env (tests ++ []) n1 bs from to) (append-nil binds) one)

-- an element that matches a pattern, and the tail that is left
one_keeps : (e : Tree) (n0 : ℕ) (env : List Bind) (p : PatTree) (tests : List Test) (n1 : ℕ) (binds : List Bind) → KeepsPattern e n0 env p tests n1 binds → KeepsItems (e ∷ []) n0 env (p ∷ []) tests n1 binds
one_keeps e n0 env p tests n1 binds one =
    part_keeps front (Value × Value) Value n0 env tests n1 binds
    (λ all h b. with_some (source.matches all e h.0 b) (λ d. Some (h.1, d))) (λ all h c. with_some (core.matches all p h.0 c) (λ d. Some (h.1, d))) head_and_tail
    (nothing_more front (Value × Value) n0 env tests n1 binds _ _
    (then_keeps whole front Value Value (Value × Value) n0 env tests n1 binds [] n1 []
    (λ all v b. source.matches all e v b) (λ all v c. core.matches all p v c) (λ all v b. Some (v, b)) (λ all v c. Some (v, c))
    (λ h. h.0) (λ h a. h.1) (λ h q. h.1) (λ h a q alike. refl) one (no_items_keep n1 (env ++ binds) one.below)))

pub items_more : (es : List Tree) (e : Tree) (n0 : ℕ) (env : List Bind) (ps : List PatTree) (p : PatTree) (tests : List Test) (n1 : ℕ) (binds : List Bind) (others : List Test) (n2 : ℕ) (others_binds : List Bind)
    → KeepsItems es n0 env ps tests n1 binds → KeepsPattern e n1 (env ++ binds) p others n2 others_binds → KeepsItems (es ++ e ∷ []) n0 env (ps ++ p ∷ []) (tests ++ others) n2 (binds ++ others_binds)
items_more es e n0 env ps p tests n1 binds others n2 others_binds all_kept one =
    same_keeps front Value n0 env (tests ++ others) n2 (binds ++ others_binds) _ _ _ _ (λ all v b. more_of_source all es e v b) (λ all v c. more_of_core all ps p v c)
    (then_keeps front front Value Value Value n0 env tests n1 binds others n2 others_binds
    (λ all v b. source.match_items all (trees es) v b) (λ all v c. core.match_items all (pats ps) v c)
    (λ all v b. source.match_items all (more e end) v b) (λ all v c. core.match_items all (more_pats p no_pats) v c)
    (λ v. v) (λ v a. a.0) (λ v q. q.0) (λ v a q alike. alike) all_kept (one_keeps e n1 (env ++ binds) p others n2 others_binds one))

-- ---- lists

-- the whole list: what is left is `[]`
whole_list_keeps : (es : List Tree) (n0 : ℕ) (env : List Bind) (ps : List PatTree) (tests : List Test) (n1 : ℕ) (binds : List Bind) → KeepsItems es n0 env ps tests n1 binds
    → KeepsMatch whole Value n0 env tests n1 binds (λ all v b. source.matches_shape all (from.list (trees es)) v b) (λ all v c. core.matches all (to.pat_list (pats ps)) v c)
whole_list_keeps es n0 env ps tests n1 binds one =
    nothing_more whole Value n0 env tests n1 binds _ _
    (then_keeps front whole Value Value Value n0 env tests n1 binds [] n1 []
    (λ all v b. source.match_items all (trees es) v b) (λ all v c. core.match_items all (pats ps) v c)
    (λ all v b. source.compared Nil v b) (λ all v c. core.compared Nil v c)
    (λ v. v) (λ v a. a.0) (λ v q. q.0) (λ v a q alike. alike) one (literal_keeps n1 (env ++ binds) (λ all. Nil) one.below))

pub list_keeps : (p : Place) (es : List Tree) (n0 : ℕ) (env : List Bind) (ps : List PatTree) (tests : List Test) (n1 : ℕ) (binds : List Bind) → KeepsItems es n0 env ps tests n1 binds
    → KeepsPattern (from.tree p (from.list (trees es))) n0 env (to.pat_list (pats ps)) tests n1 binds
list_keeps p es n0 env ps tests n1 binds one = whole_list_keeps es n0 env ps tests n1 binds one

pub list_to_keeps : (p : Place) (es : List Tree) (e : Tree) (n0 : ℕ) (env : List Bind) (ps : List PatTree) (q : PatTree) (tests : List Test) (n1 : ℕ) (binds : List Bind) (others : List Test) (n2 : ℕ) (others_binds : List Bind)
    → KeepsItems es n0 env ps tests n1 binds → KeepsPattern e n1 (env ++ binds) q others n2 others_binds
    → KeepsPattern (from.tree p (from.list_to (trees es) e)) n0 env (to.pat_list_to (pats ps) q) (tests ++ others) n2 (binds ++ others_binds)
list_to_keeps p es e n0 env ps q tests n1 binds others n2 others_binds one two =
    then_keeps front whole Value Value Value n0 env tests n1 binds others n2 others_binds
    (λ all v b. source.match_items all (trees es) v b) (λ all v c. core.match_items all (pats ps) v c)
    (λ all v b. source.matches all e v b) (λ all v c. core.matches all q v c)
    (λ v. v) (λ v a. a.0) (λ v q. q.0) (λ v a q alike. alike) one two

-- ---- several values: those of the list of them

abbrev listed : Values → Value
listed none = Nil
listed (some v vs) = Cons v (listed vs)

module _ (all : Texts) where
  values_of_source : (es : List Tree) (vs : Values) (b : Bindings) → source.match_values all (trees es) vs b ≡ source.matches_shape all (from.list (trees es)) (listed vs) b
  values_of_source [] none b = refl
  values_of_source [] (some v vs) b = refl
  values_of_source (e ∷ es) none b = refl
  values_of_source (e ∷ es) (some v vs) b =
      (λ i. with_some (source.matches all e v b) (λ d. values_of_source es vs d i)) ∙ sym (with_some_along (source.matches all e v b) _ _)

  values_of_core : (ps : List PatTree) (vs : Values) (c : Vars) → core.match_values all (pats ps) vs c ≡ core.matches all (to.pat_list (pats ps)) (listed vs) c
  values_of_core [] none c = refl
  values_of_core [] (some v vs) c = refl
  values_of_core (p ∷ ps) none c = refl
  values_of_core (p ∷ ps) (some v vs) c =
      (λ i. with_some (core.matches all p v c) (λ d. values_of_core ps vs d i)) ∙ sym (with_some_along (core.matches all p v c) _ _)

pub values_keep : (es : List Tree) (n0 : ℕ) (env : List Bind) (ps : List PatTree) (tests : List Test) (n1 : ℕ) (binds : List Bind) → KeepsItems es n0 env ps tests n1 binds
    → KeepsMatch whole Values n0 env tests n1 binds (λ all vs b. source.match_values all (trees es) vs b) (λ all vs c. core.match_values all (pats ps) vs c)
values_keep es n0 env ps tests n1 binds one =
    same_keeps whole Values n0 env tests n1 binds _ _ _ _ (λ all vs b. values_of_source all es vs b) (λ all vs c. values_of_core all ps vs c)
    (part_keeps whole Value Values n0 env tests n1 binds (λ all v b. source.matches_shape all (from.list (trees es)) v b) (λ all v c. core.matches all (to.pat_list (pats ps)) v c)
    (λ vs. Some (listed vs)) (whole_list_keeps es n0 env ps tests n1 binds one))

pub tuple_keeps : (p : Place) (es : List Tree) (n0 : ℕ) (env : List Bind) (ps : List PatTree) (tests : List Test) (n1 : ℕ) (binds : List Bind) → KeepsItems es n0 env ps tests n1 binds
    → KeepsPattern (from.tree p (from.tuple (trees es))) n0 env (to.pat_tuple (pats ps)) tests n1 binds
tuple_keeps p es n0 env ps tests n1 binds one =
    part_keeps whole Values Value n0 env tests n1 binds (λ all vs b. source.match_values all (trees es) vs b) (λ all vs c. core.match_values all (pats ps) vs c) elements (values_keep es n0 env ps tests n1 binds one)

-- ---- nodes of literals

module _ (all : Texts) where
  -- a test of two parts, the second of which is made where the first holds
  both_tests : (s t : Bool) (c : Vars) → with_some (if s then Some c else None) (λ d. if t then Some d else None) ≡ (if s && t then Some c else None)
  both_tests true t c = refl
  both_tests false t c = refl

  literal_items : (ls : LitTrees) (tail : Value) (v : Value) (c : Vars) → with_some (core.match_items all (lit_pats ls) v c) (λ r. core.compared tail r.0 r.1) ≡ core.compared (core.literals_onto all ls tail) v c
  literal_items no_lits tail v c = refl
  literal_items (more_lits l ls) tail (Cons u us) c =
      with_some_along (core.compared (core.literal all l) u c) _ _
      ∙ (λ i. with_some (core.compared (core.literal all l) u c) (λ d. literal_items ls tail us d i))
      ∙ both_tests (same_value (core.literal all l) u) (same_value (core.literals_onto all ls tail) us) c
  literal_items (more_lits l ls) tail (Integer i) c = refl
  literal_items (more_lits l ls) tail (Atom a) c = refl
  literal_items (more_lits l ls) tail (Tuple vs) c = refl
  literal_items (more_lits l ls) tail Nil c = refl
  literal_items (more_lits l ls) tail (BitString bs) c = refl
  literal_items (more_lits l ls) tail (Pid i) c = refl
  literal_items (more_lits l ls) tail (Port i) c = refl
  literal_items (more_lits l ls) tail (Reference i) c = refl
  literal_items (more_lits l ls) tail (Local f a) c = refl
  literal_items (more_lits l ls) tail (External m f a) c = refl
  literal_items (more_lits l ls) tail (Made k a) c = refl

  literal_values : (ls : LitTrees) (vs : Values) (c : Vars) → core.match_values all (lit_pats ls) vs c ≡ (if same_values (core.literals all ls) vs then Some c else None)
  literal_values no_lits none c = refl
  literal_values no_lits (some v vs) c = refl
  literal_values (more_lits l ls) none c = refl
  literal_values (more_lits l ls) (some v vs) c =
      (λ i. with_some (core.compared (core.literal all l) v c) (λ d. literal_values ls vs d i)) ∙ both_tests (same_value (core.literal all l) v) (same_values (core.literals all ls) vs) c

  literal_tuple : (ls : LitTrees) (v : Value) (c : Vars) → core.matches all (to.pat_tuple (lit_pats ls)) v c ≡ core.compared (Tuple (core.literals all ls)) v c
  literal_tuple ls (Tuple vs) c = literal_values ls vs c
  literal_tuple ls (Integer i) c = refl
  literal_tuple ls (Atom a) c = refl
  literal_tuple ls Nil c = refl
  literal_tuple ls (Cons u v) c = refl
  literal_tuple ls (BitString bs) c = refl
  literal_tuple ls (Pid i) c = refl
  literal_tuple ls (Port i) c = refl
  literal_tuple ls (Reference i) c = refl
  literal_tuple ls (Local f a) c = refl
  literal_tuple ls (External m f a) c = refl
  literal_tuple ls (Made k a) c = refl

  -- what a node says matches as the node
  said_matches : (p : PatTree) (l : LitTree) → Says p l → (v : Value) (c : Vars) → core.matches all (to.pat_lit l) v c ≡ core.matches all p v c
  said_matches (to.pat_tuple ps) (to.lit_tuple ls) is v c = sym (ap (λ q. core.matches all (to.pat_tuple q) v c) is ∙ literal_tuple ls v c)
  said_matches (to.pat_list ps) (to.lit_list ls) is v c = sym (ap (λ q. core.matches all (to.pat_list q) v c) is ∙ literal_items ls Nil v c)
  said_matches (to.pat_list_to ps p) (to.lit_list_to ls l) is v c = sym ((λ i. core.matches all (to.pat_list_to (is.0 i) (is.1 i)) v c) ∙ literal_items ls (core.literal all l) v c)
  said_matches (to.pat_var x) l is v c = absurd is
  said_matches (to.pat_lit k) l is v c = absurd is
  said_matches (to.alias x p) l is v c = absurd is
  said_matches (to.pat_bin ss) l is v c = absurd is
  said_matches (to.pat_tuple ps) _ is v c = absurd is
  said_matches (to.pat_list ps) _ is v c = absurd is
  said_matches (to.pat_list_to ps p) _ is v c = absurd is

pub said_keeps : (e : Tree) (n0 : ℕ) (env : List Bind) (p : PatTree) (l : LitTree) (tests : List Test) (n1 : ℕ) (binds : List Bind) → Says p l → KeepsPattern e n0 env p tests n1 binds → KeepsPattern e n0 env (to.pat_lit l) tests n1 binds
said_keeps e n0 env p l tests n1 binds is one =
    same_keeps whole Value n0 env tests n1 binds _ _ _ _ (λ all v b. refl) (λ all v c. said_matches all p l is v c) one
