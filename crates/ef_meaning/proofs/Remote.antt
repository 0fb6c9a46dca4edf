-- Calls of what is outside, which may apply funs, are kept.
use Rattle.std.proofs.Common.{◌≡◌, ℕ, zero, suc, ◌<◌, Bool, true, false, if◌then◌else◌, List, [], ◌∷◌, ◌++◌, length, Option, Some, None, refl, sym, ap, ◌∙◌, subst, arith}
use Rattle.ef_meaning.specs.Value.{Value, Atom}
use Rattle.ef_meaning.specs.Proper.{Known}
use Rattle.ef_meaning.specs.Lookup.{keys}
use Rattle.ef_meaning.specs.Outside.{Event, Item, Answer, Raise, Arrive, TimeUp, CallBack, Returned, Excepted, Called, GaveBack, State, with_items, arrived, shows}
use Rattle.ef_meaning.specs.End.{End, Gives, Raises, Waits, More}
use Rattle.ef_meaning.specs.Called.{Apply, fits, takes, taken, called, outside_call, answered, apply, remote}
use Rattle.ef_meaning.specs.Pure.{pure}
use Rattle.ef_meaning.specs.Keeps.{Begins, Ahead, Keeps}
use Rattle.ef_meaning.specs.Source as source
use Rattle.ef_meaning.specs.Source.{Module, Source}
use Rattle.ef_meaning.specs.Core as core
use Rattle.ef_meaning.specs.Core.{CoreModule, Code, Target}
use Rattle.ef_meaning.specs.Lowers.{Entry, SameFuns, Related, Alike, CallsKept}
use Rattle.ef_meaning.proofs.Ends.{begins_refl}
use Rattle.ef_meaning.proofs.CalledLaws.{back, apply_ahead, apply_extends, remote_ahead, remote_extends, answered_extends, shown_answered}
use Rattle.ef_meaning.proofs.SourceLaws as source_laws
use Rattle.ef_meaning.proofs.CoreLaws as core_laws
use Rattle.ef_meaning.proofs.Simulate.{Steady, keeps_same, const_keeps, one_more, from_zero, either_keeps}

-- Core's applications and calls, as the bound grows
pub apply_steady : (cw : CoreModule) (f : Value) (vs : List Value) (t : Target) → Steady t.outside.events (λ m. apply (core.side cw) (core.levels cw m) f vs t)
apply_steady cw f vs t = record {
  ahead = λ m. apply_ahead (core.side cw) (core.levels cw m) (core_laws.side_grows cw (core.levels cw m) (core_laws.levels_grow cw m)) f vs t;
  extends = λ m k le. apply_extends (core.side cw) (core.levels cw m) (core.levels cw k) (core_laws.side_below cw (core.levels cw m) (core.levels cw k) (core_laws.levels_below cw m k le) (core_laws.levels_grow cw k)) (core_laws.side_grows cw (core.levels cw k) (core_laws.levels_grow cw k)) f vs t;
}

pub shown_steady : (cw : CoreModule) (e : Event) (t : Target) → Steady t.outside.events (λ m. answered (core.side cw) (core.levels cw m) (shows e t))
shown_steady cw e t = record {
  ahead = λ m. shown_answered (core.side cw) (core.levels cw m) e t (core_laws.side_grows cw (core.levels cw m) (core_laws.levels_grow cw m));
  extends = λ m k le. answered_extends (core.side cw) (core.levels cw m) (core.levels cw k) (core_laws.side_below cw (core.levels cw m) (core.levels cw k) (core_laws.levels_below cw m k le) (core_laws.levels_grow cw k)) (core_laws.side_grows cw (core.levels cw k) (core_laws.levels_grow cw k)) (shows e t);
}

pub remote_steady : (cw : CoreModule) (g h : Value) (vs : List Value) (t : Target) → Steady t.outside.events (λ m. remote (core.side cw) (core.levels cw m) g h vs t)
remote_steady cw g h vs t = record {
  ahead = λ m. remote_ahead (core.side cw) (core.levels cw m) g h vs t (core_laws.side_grows cw (core.levels cw m) (core_laws.levels_grow cw m));
  extends = λ m k le. remote_extends (core.side cw) (core.levels cw m) (core.levels cw k) g h vs t (core_laws.side_below cw (core.levels cw m) (core.levels cw k) (core_laws.levels_below cw m k le) (core_laws.levels_grow cw k)) (core_laws.side_grows cw (core.levels cw k) (core_laws.levels_grow cw k));
}

pub source_grows : (w : Module) (n : ℕ) (f : Value) (vs : List Value) (s : Source) → Ahead s.outside.events (apply (source.side w) (source.levels w n) f vs s)
source_grows w n f vs s = apply_ahead (source.side w) (source.levels w n) (source_laws.side_grows w (source.levels w n) (source_laws.levels_grow w n)) f vs s

pub shown_grows : (w : Module) (n : ℕ) (e : Event) (s : Source) → Ahead s.outside.events (answered (source.side w) (source.levels w n) (shows e s))
shown_grows w n e s = shown_answered (source.side w) (source.levels w n) e s (source_laws.side_grows w (source.levels w n) (source_laws.levels_grow w n))

pub keeps_if : {A B F G : Type 0} (R : A → B → Type 0) (Q : State F → State G → Type 0) (n : ℕ) (t : Bool) (e f : End A (State F)) (C D : ℕ → End B (State G)) → Keeps R Q n e C → Keeps R Q n f D → Keeps R Q n (if t then e else f) (λ m. if t then C m else D m)
keeps_if R Q n true e f C D p q = p
keeps_if R Q n false e f C D p q = q

arities_same : (cw : CoreModule) (all : List Entry) (gs : List source.Function) (cs : List Code) → SameFuns cw all gs cs → core.arities cs ≡ source.arities gs
arities_same cw all [] [] p = refl
arities_same cw all [] (c ∷ cs) p = absurd p
arities_same cw all (g ∷ gs) [] p = absurd p
arities_same cw all (g ∷ gs) (c ∷ cs) p =
    let same : length c.params ≡ g.arity = ap (λ (x : Code). length x.params) p.0.core ∙ sym (ap (λ (x : source.Function). x.arity) p.0.source) in
    (λ i. same i ∷ arities_same cw all gs cs p.1 i)

module _ (w : Module) (cw : CoreModule) (functions : keys cw.functions ≡ keys w.functions) (all : List Entry) (en : List Code) where
  abbrev Q : Source → Target → Type 0
  Q = Related cw all en

  pub known_same : (s : Source) (t : Target) → Q s t → (core.side cw).known t.store ≡ (source.side w).known s.store
  known_same s t q = λ i. record { functions = functions i; made = arities_same cw all s.store t.store.made q.funs i }

  items_related : (is : List Item) (s : Source) (t : Target) → Q s t → Q (with_items is s) (with_items is t)
  items_related is s t q = record { outside = ap (λ o. record { own = o.own; mailbox = o.mailbox; items = is; events = o.events }) q.outside; entered = q.entered; funs = q.funs }

  arrived_related : (v : Value) (s : Source) (t : Target) → Q s t → Q (arrived v s) (arrived v t)
  arrived_related v s t q = record { outside = ap (λ o. record { own = o.own; mailbox = o.mailbox ++ v ∷ []; items = o.items; events = o.events }) q.outside; entered = q.entered; funs = q.funs }

  pub shows_related : (e : Event) (s : Source) (t : Target) → Q s t → Q (shows e s) (shows e t)
  shows_related e s t q = record { outside = ap (λ o. record { own = o.own; mailbox = o.mailbox; items = o.items; events = o.events ++ e ∷ [] }) q.outside; entered = q.entered; funs = q.funs }

  -- neither goes on at this bound
  pub both_more : {A B : Type 0} (R : A → B → Type 0) (n : ℕ) (s : Source) (t : Target) → Q s t → Keeps R Q n (More s) (λ m. More t)
  both_more R n s t q = record {
    reached = (0, subst (λ o. Begins s.outside.events o.events) q.outside (begins_refl s.outside.events));
    equal = subst (λ o. Begins o.events s.outside.events) q.outside (begins_refl s.outside.events);
  }

  takes_keeps : (n : ℕ) (go : Apply (List source.Function)) (ho : ℕ → Apply core.Store) (next : Source → End Value Source) (after : ℕ → Target → End Value Target) (i : Item) (s : Source) (t : Target) → Q s t →
      ((f : Value) (vs : List Value) (x : Source) (y : Target) → Q x y → Keeps Alike Q n (go f vs x) (λ m. ho m f vs y)) → ((x : Source) (y : Target) → Q x y → Keeps Alike Q n (next x) (λ m. after m y)) →
      Keeps Alike Q n (takes go next i s) (λ m. takes (ho m) (after m) i t)
  takes_keeps n go ho next after (Answer v) s t q k l = const_keeps Alike Q n (Gives v s) (Gives v t) (refl, q)
  takes_keeps n go ho next after (Raise c v) s t q k l = const_keeps Alike Q n (Raises c v s) (Raises c v t) (refl, refl, q)
  takes_keeps n go ho next after (Arrive v) s t q k l = l (arrived v s) (arrived v t) (arrived_related v s t q)
  takes_keeps n go ho next after TimeUp s t q k l = l s t q
  takes_keeps n go ho next after (CallBack f vs) s t q k l = k f vs s t q

  taken_keeps : (n : ℕ) (o : Known) (go : Apply (List source.Function)) (ho : ℕ → Apply core.Store) (is : List Item) (s : Source) (t : Target) → Q s t →
      ((f : Value) (vs : List Value) (x : Source) (y : Target) → Q x y → Keeps Alike Q n (go f vs x) (λ m. ho m f vs y)) → Keeps Alike Q n (taken o go is s) (λ m. taken o (ho m) is t)
  taken_keeps n o go ho [] s t q k = const_keeps Alike Q n (Waits (with_items [] s)) (Waits (with_items [] t)) (items_related [] s t q)
  taken_keeps n o go ho (i ∷ is) s t q k =
      keeps_if Alike Q n (fits o i) _ (taken o go is s) _ (λ m. taken o (ho m) is t)
      (takes_keeps n go ho _ (λ m y. taken o (ho m) is y) i (with_items is s) (with_items is t) (items_related is s t q) k (λ x y r. taken_keeps n o go ho is x y r k))
      (taken_keeps n o go ho is s t q k)

  -- with what the source knows, and its items
  same_taken : (ho : Apply core.Store) (s : Source) (t : Target) → Q s t → taken ((core.side cw).known t.store) ho t.outside.items t ≡ taken ((source.side w).known s.store) ho s.outside.items t
  same_taken ho s t q = ap (λ o. taken o ho t.outside.items t) (known_same s t q) ∙ ap (λ o. taken ((source.side w).known s.store) ho o.items t) (sym q.outside)

  pub answered_keeps : (n : ℕ) → ((k : ℕ) → k < n → CallsKept w cw all k) → (s : Source) (t : Target) → Q s t → Keeps Alike Q n (answered (source.side w) (source.levels w n) s) (λ m. answered (core.side cw) (core.levels cw m) t)
  answered_keeps zero calls s t q =
      from_zero Alike Q (answered (source.side w) [] s) (λ m. answered (core.side cw) (core.levels cw m) t)
      (keeps_same Alike Q 0 _ (answered (source.side w) [] s) _ (λ m. taken ((source.side w).known s.store) (λ f vs y. More y) s.outside.items t) refl (λ i m. same_taken (λ f vs y. More y) s t q i)
      (taken_keeps 0 ((source.side w).known s.store) (λ f vs x. More x) (λ m f vs y. More y) s.outside.items s t q (λ f vs x y r. both_more Alike 0 x y r)))
  answered_keeps (suc n) calls s t q =
      one_more Alike Q n (answered (source.side w) (source.levels w (suc n)) s) (λ m. taken ((core.side cw).known t.store) (back (core.side cw) (core.levels cw m)) t.outside.items t) (λ m. answered (core.side cw) (core.levels cw m) t) (λ m. refl)
      (keeps_same Alike Q n _ (answered (source.side w) (source.levels w (suc n)) s) _ (λ m. taken ((source.side w).known s.store) (back (core.side cw) (core.levels cw m)) s.outside.items t) refl (λ i m. same_taken (back (core.side cw) (core.levels cw m)) s t q i)
      (taken_keeps n ((source.side w).known s.store) (back (source.side w) (source.levels w n)) (λ m. back (core.side cw) (core.levels cw m)) s.outside.items s t q
      (λ f vs x y r. either_keeps Alike Alike Q n (apply (source.side w) (source.levels w n) f vs x) (λ m. apply (core.side cw) (core.levels cw m) f vs y)
      (λ v u. answered (source.side w) (source.levels w n) (shows (GaveBack (Returned v)) u)) (λ c v u. answered (source.side w) (source.levels w n) (shows (GaveBack (Excepted c v)) u))
      (λ m v u. answered (core.side cw) (core.levels cw m) (shows (GaveBack (Returned v)) u)) (λ m c v u. answered (core.side cw) (core.levels cw m) (shows (GaveBack (Excepted c v)) u))
      (apply_steady cw f vs y).extends (λ v u. shown_steady cw (GaveBack (Returned v)) u) (λ c v u. shown_steady cw (GaveBack (Excepted c v)) u)
      (λ v u. shown_grows w n (GaveBack (Returned v)) u) (λ c v u. shown_grows w n (GaveBack (Excepted c v)) u)
      ((calls n (omega arith)).each en f vs x y r)
      (λ u v a b is p. subst (λ z. Keeps Alike Q n (answered (source.side w) (source.levels w n) (shows (GaveBack (Returned u)) a)) (λ m. answered (core.side cw) (core.levels cw m) (shows (GaveBack (Returned z)) b))) is
      (answered_keeps n (λ j lt. calls j (omega arith)) (shows (GaveBack (Returned u)) a) (shows (GaveBack (Returned u)) b) (shows_related (GaveBack (Returned u)) a b p)))
      (λ c v a b p. answered_keeps n (λ j lt. calls j (omega arith)) (shows (GaveBack (Excepted c v)) a) (shows (GaveBack (Excepted c v)) b) (shows_related (GaveBack (Excepted c v)) a b p)))))

  pub outside_keeps : (n : ℕ) → ((k : ℕ) → k < n → CallsKept w cw all k) → (m f : List ℕ) (vs : List Value) (s : Source) (t : Target) → Q s t →
      Keeps Alike Q n (outside_call (answered (source.side w) (source.levels w n)) m f vs s) (λ k. outside_call (answered (core.side cw) (core.levels cw k)) m f vs t)
  outside_keeps n calls m f vs s t q = by (pure m f vs)
    where
      by : (o : Option Value) → Keeps Alike Q n (called o (λ x. answered (source.side w) (source.levels w n) (shows (Called m f vs) x)) s) (λ k. called o (λ y. answered (core.side cw) (core.levels cw k) (shows (Called m f vs) y)) t)
      by None = answered_keeps n calls (shows (Called m f vs) s) (shows (Called m f vs) t) (shows_related (Called m f vs) s t q)
      by (Some v) = const_keeps Alike Q n (Gives v s) (Gives v t) (refl, q)

  pub remote_keeps : (n : ℕ) → ((k : ℕ) → k < n → CallsKept w cw all k) → (m f : List ℕ) (vs : List Value) (s : Source) (t : Target) → Q s t → Keeps Alike Q n (remote (source.side w) (source.levels w n) (Atom m) (Atom f) vs s) (λ k. remote (core.side cw) (core.levels cw k) (Atom m) (Atom f) vs t)
  remote_keeps n calls m f vs s t q = outside_keeps n calls m f vs s t q
