-- The functions of a module keep the meaning at every bound.
use Rattle.std.proofs.Common.{◌≡◌, ℕ, zero, suc, ◌<◌, ◌≤◌, ⊎_elim, ◌==◌, Bool, true, false, if◌then◌else◌, List, [], ◌∷◌, length, Option, Some, None, refl, sym, ap, ◌∙◌, subst, arith}
use Rattle.std.specs.Prelude.{slice_get}
use Rattle.std.proofs.lemmas.Bool.Decides.{nat_tests}
use Rattle.ef_base.specs.Texts.{Texts}
use Rattle.ef_meaning.specs.Value.{Value, Integer, Atom, Tuple, Nil, Cons, BitString, Pid, Port, Reference, Local, External, Made}
use Rattle.ef_meaning.specs.Exception.{Error, badfun, badarity}
use Rattle.ef_meaning.specs.Lookup.{find, nth}
use Rattle.ef_meaning.specs.End.{End, Gives, Raises, More, and_then}
use Rattle.ef_meaning.specs.Called.{outside_call, answered, apply}
use Rattle.ef_meaning.specs.Keeps.{Begins, Ahead, Equals, Keeps}
use Rattle.ef_meaning.specs.Source as source
use Rattle.ef_meaning.specs.Source.{Module, Source, Function, by_clauses}
use Rattle.ef_meaning.specs.Core as core
use Rattle.ef_meaning.specs.Core.{CoreModule, Code, Target, single}
use Rattle.ef_meaning.specs.Lowers.{Entry, In, SameFun, SameFuns, Related, Alike, SameValue, CallsKept, BodyKept, EntryKept, EntriesKept, Worlds}
use Rattle.ef_meaning.proofs.Ends.{begins_refl, then_gives}
use Rattle.ef_meaning.proofs.CoreLaws as core_laws
use Rattle.ef_meaning.proofs.Simulate.{keeps_same, const_keeps, gives_keeps, wrong_keeps, one_more, then_keeps}
use Rattle.ef_meaning.proofs.Steps.{const_steady}
use Rattle.ef_meaning.proofs.Remote.{outside_keeps}

-- two functions that are kept wherever calls are, of this number of parameters
pub record FunctionsKept (w : Module) (cw : CoreModule) (all : List Entry) (a : ℕ) (f : Function) (g : Code) : Type 0 where
  pub parameters : length g.params ≡ a
  pub kept : (n : ℕ) → ((k : ℕ) → k ≤ n → CallsKept w cw all k) → BodyKept w cw all n f.body g.params g.body g.vars g.funs

abbrev pub BothKept : Module → CoreModule → List Entry → ℕ → Option Function → Option Code → Type 0
BothKept w cw all a None o = Unit {0}
BothKept w cw all a (Some f) (Some g) = FunctionsKept w cw all a f g
BothKept w cw all a (Some f) None = ⊥

module _ (now : Texts) (w : Module) (cw : CoreModule) (world : Worlds now w cw) (all : List Entry) where
  module _ (pairs : (f : List ℕ) (a : ℕ) → BothKept w cw all a (find f a w.functions) (find f a cw.functions)) (entries : (n : ℕ) → ((k : ℕ) → k ≤ n → CallsKept w cw all k) → EntriesKept w cw all n all) where
    -- ---- made funs

    entry_in : (n : ℕ) (e : Entry) (xs : List Entry) → EntriesKept w cw all n xs → In e xs → EntryKept w cw all n e
    entry_in n e [] k h = absurd h
    entry_in n e (x ∷ xs) k h = ⊎_elim (λ q. subst (λ z. EntryKept w cw all n z) (sym q) k.0) (λ q. entry_in n e xs k.1 q) h

    made_kept : (g : Function) (c : Code) → SameFun cw all g c → FunctionsKept w cw all g.arity g c
    made_kept g c p = record {
      parameters = ap (λ (x : Code). length x.params) p.core ∙ sym (ap (λ (x : Function). x.arity) p.source);
      kept = λ n calls.
          subst (λ x. BodyKept w cw all n x.body c.params c.body c.vars c.funs) (sym p.source)
          (subst (λ (x : Code). BodyKept w cw all n (by_clauses p.entry.clauses p.saved) x.params x.body c.vars c.funs) (sym p.core)
          (entry_in n p.entry all (entries n calls) p.known p.saved c.vars c.funs p.holds p.hides));
    }

    slices : (a : ℕ) (gs : List Function) (cs : List Code) (k : ℕ) → SameFuns cw all gs cs → BothKept w cw all a (source.of_arity a (slice_get gs k)) (slice_get cs k)
    slices a [] [] k h = tt
    slices a [] (c ∷ cs) k h = absurd h
    slices a (g ∷ gs) [] k h = absurd h
    slices a (g ∷ gs) (c ∷ cs) zero h = by (g.arity == a) refl
      where
        by : (t : Bool) → (g.arity == a) ≡ t → BothKept w cw all a (if t then Some g else None) (Some c)
        by true e = let same : g.arity ≡ a = grind (arith, nat_tests) in subst (λ x. FunctionsKept w cw all x g c) same (made_kept g c h.0)
        by false e = tt
    slices a (g ∷ gs) (c ∷ cs) (suc k) h = slices a gs cs k h.1

    made_at : (a : ℕ) (gs : List Function) (cs : List Code) (k : ℕ) → SameFuns cw all gs cs → BothKept w cw all a (source.of_arity a (nth gs k)) (nth cs k)
    made_at a gs cs zero h = tt
    made_at a gs cs (suc k) h = slices a gs cs k h

    -- ---- an application of a function

    module _ (en : List Code) where
      abbrev Q : Source → Target → Type 0
      Q = Related cw all en

      not_begun : (s : Source) (t : Target) (C : ℕ → End Value Target) → C 0 ≡ More t → Q s t → Keeps Alike Q 0 (More s) C
      not_begun s t C first same = record {
        reached = (0, subst (λ f. Ahead s.outside.events f) (sym first) (subst (λ o. Begins s.outside.events o.events) same.outside (begins_refl s.outside.events)));
        equal = subst (λ f. Equals Alike Q (More s) f) (sym first) (subst (λ o. Begins o.events s.outside.events) same.outside (begins_refl s.outside.events));
      }

      own_zero : (a : ℕ) (o : Option Function) (p : Option Code) → BothKept w cw all a o p → (vs : List Value) (s : Source) (t : Target) → Q s t → Keeps Alike Q 0 (source.applied o [] vs s) (λ m. and_then (core.applied p (core.levels cw m) vs t) single)
      own_zero a None p k vs s t same = wrong_keeps Alike Q 0 _
      own_zero a (Some f) None k vs s t same = absurd k
      own_zero a (Some f) (Some g) k vs s t same = not_begun s t (λ m. and_then (core.applied (Some g) (core.levels cw m) vs t) single) refl same

      own_more : (n : ℕ) → ((k : ℕ) → k ≤ n → CallsKept w cw all k) → (a : ℕ) (o : Option Function) (p : Option Code) → BothKept w cw all a o p → (vs : List Value) (s : Source) (t : Target) → length vs ≡ a → Q s t →
          Keeps Alike Q (suc n) (source.applied o (source.levels w (suc n)) vs s) (λ m. and_then (core.applied p (core.levels cw m) vs t) single)
      own_more n calls a None p k vs s t len same = wrong_keeps Alike Q (suc n) _
      own_more n calls a (Some f) None k vs s t len same = absurd k
      own_more n calls a (Some f) (Some g) k vs s t len same =
          let C = λ (m : ℕ). core.run_body cw (core.levels cw m) g.body g.funs (core.bind g.params vs g.vars) t in
          one_more Alike Q n (source.run_body w (source.levels w n) f.body vs s) (λ m. and_then (C m) single) (λ m. and_then (core.applied (Some g) (core.levels cw m) vs t) single) (λ m. refl)
          (keeps_same Alike Q n _ (and_then (source.run_body w (source.levels w n) f.body vs s) (λ v u. Gives v u)) _ (λ m. and_then (C m) single) (sym (then_gives (source.run_body w (source.levels w n) f.body vs s))) refl
          (then_keeps SameValue Alike Q n (source.run_body w (source.levels w n) f.body vs s) C (λ v u. Gives v u) (λ m us u. single us u)
          (λ i j le. core_laws.run_extends cw (core.levels cw i) (core.levels cw j) g.body g.funs (core.bind g.params vs g.vars) t (core_laws.levels_below cw i j le) (core_laws.levels_grow cw j))
          (λ us u. const_steady u (single us u) (core_laws.single_ahead us u))
          (λ v u. begins_refl u.outside.events)
          (k.kept n calls en vs s t same (len ∙ sym k.parameters))
          (λ v us u z is q. subst (λ l. Keeps Alike Q n (Gives v u) (λ m. single l z)) (sym is) (gives_keeps Alike Q n v v u z refl q))))

      -- the number of arguments is tested alike
      tested_keeps : (n a : ℕ) (f : Value) (vs : List Value) (s : Source) (t : Target) → Q s t → (e : End Value Source) (C : ℕ → End Value Target) → (length vs ≡ a → Keeps Alike Q n e C) →
          Keeps Alike Q n (if length vs == a then e else Raises Error (badarity f vs) s) (λ m. if length vs == a then C m else Raises Error (badarity f vs) t)
      tested_keeps n a f vs s t same e C k = by (length vs == a) refl
        where
          by : (b : Bool) → (length vs == a) ≡ b → Keeps Alike Q n (if b then e else Raises Error (badarity f vs) s) (λ m. if b then C m else Raises Error (badarity f vs) t)
          by true is = k (grind (arith, nat_tests))
          by false is = const_keeps Alike Q n (Raises Error (badarity f vs) s) (Raises Error (badarity f vs) t) (refl, refl, same)

      bad_keeps : (n : ℕ) (f : Value) (s : Source) (t : Target) → Q s t → Keeps Alike Q n (Raises Error (badfun f) s) (λ m. Raises Error (badfun f) t)
      bad_keeps n f s t same = const_keeps Alike Q n (Raises Error (badfun f) s) (Raises Error (badfun f) t) (refl, refl, same)

      -- what remains is how a function of the module, or a made fun, is applied
      applied_keeps : (n : ℕ) → ((k : ℕ) → k < n → CallsKept w cw all k) →
          ((a : ℕ) (o : Option Function) (p : Option Code) → BothKept w cw all a o p → (vs : List Value) (s : Source) (t : Target) → length vs ≡ a → Q s t →
          Keeps Alike Q n (source.applied o (source.levels w n) vs s) (λ m. and_then (core.applied p (core.levels cw m) vs t) single)) →
          (f : Value) (vs : List Value) (s : Source) (t : Target) → Q s t → Keeps Alike Q n (apply (source.side w) (source.levels w n) f vs s) (λ m. apply (core.side cw) (core.levels cw m) f vs t)
      applied_keeps n calls own (Local f a) vs s t same = tested_keeps n a (Local f a) vs s t same _ (λ m. and_then (core.applied (find f a cw.functions) (core.levels cw m) vs t) single) (λ len. own a (find f a w.functions) (find f a cw.functions) (pairs f a) vs s t len same)
      applied_keeps n calls own (Made k a) vs s t same = tested_keeps n a (Made k a) vs s t same _ (λ m. and_then (core.applied (nth t.store.made k) (core.levels cw m) vs t) single) (λ len. own a (source.of_arity a (nth s.store k)) (nth t.store.made k) (made_at a s.store t.store.made k same.funs) vs s t len same)
      applied_keeps n calls own (External m f a) vs s t same = tested_keeps n a (External m f a) vs s t same _ (λ i. outside_call (answered (core.side cw) (core.levels cw i)) m f vs t) (λ len. outside_keeps w cw world.functions all en n calls m f vs s t same)
      applied_keeps n calls own (Integer i) vs s t same = bad_keeps n (Integer i) s t same
      applied_keeps n calls own (Atom x) vs s t same = bad_keeps n (Atom x) s t same
      applied_keeps n calls own (Tuple us) vs s t same = bad_keeps n (Tuple us) s t same
      applied_keeps n calls own Nil vs s t same = bad_keeps n Nil s t same
      applied_keeps n calls own (Cons u us) vs s t same = bad_keeps n (Cons u us) s t same
      applied_keeps n calls own (BitString bs) vs s t same = bad_keeps n (BitString bs) s t same
      applied_keeps n calls own (Pid k) vs s t same = bad_keeps n (Pid k) s t same
      applied_keeps n calls own (Port k) vs s t same = bad_keeps n (Port k) s t same
      applied_keeps n calls own (Reference k) vs s t same = bad_keeps n (Reference k) s t same

    -- ---- every bound

    up_to : (n k : ℕ) → k ≤ n → CallsKept w cw all k
    up_to n zero le = record { each = λ en f vs s t same. applied_keeps en 0 (λ j lt. absurd (omega arith)) (λ a o p k us x y len q. own_zero en a o p k us x y q) f vs s t same }
    up_to zero (suc k) le = absurd (omega arith)
    up_to (suc n) (suc k) le = record { each = λ en f vs s t same. applied_keeps en (suc k) (λ j lt. up_to n j (omega arith)) (own_more en k (λ j lj. up_to n j (omega arith))) f vs s t same }

    pub all_kept : (n : ℕ) → CallsKept w cw all n
    all_kept n = up_to n n (omega arith)
