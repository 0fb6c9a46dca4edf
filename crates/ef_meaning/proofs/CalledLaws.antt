-- Calls of what is outside: events only grow, and a larger bound extends them.
use Rattle.std.proofs.Common.{ℕ, ◌==◌, List, [], ◌∷◌, length, Option, Some, None, refl}
use Rattle.ef_meaning.specs.Value.{Value, Atom, External}
use Rattle.ef_meaning.specs.Proper.{Known}
use Rattle.ef_meaning.specs.Outside.{Event, Item, Answer, Raise, Arrive, TimeUp, CallBack, Returned, Excepted, Called, GaveBack, State, with_items, arrived, shows}
use Rattle.ef_meaning.specs.End.{End, More, and_either}
use Rattle.ef_meaning.specs.Pure.{pure}
use Rattle.ef_meaning.specs.Called.{Apply, Side, fits, takes, taken, arity_of, tested, called, outside_call, by_kind, fun_applied, answered, apply, remote}
use Rattle.ef_meaning.specs.Keeps.{Ahead, Extends}
use Rattle.ef_meaning.proofs.Ends.{begins_refl, if_ahead, if_extends, shown_ahead, extends_refl, either_ahead, either_extends}

-- applications that only add events
abbrev pub ApplyGrows : {F : Type 0} → Apply F → Type 0
ApplyGrows {F = F} go = (f : Value) (vs : List Value) (s : State F) → Ahead s.outside.events (go f vs s)

abbrev pub CallGrows : {F : Type 0} → (State F → End Value (State F)) → Type 0
CallGrows {F = F} go = (s : State F) → Ahead s.outside.events (go s)

abbrev pub ApplyExtends : {F : Type 0} → Apply F → Apply F → Type 0
ApplyExtends {F = F} go ho = (f : Value) (vs : List Value) (s : State F) → Extends (go f vs s) (ho f vs s)

abbrev pub CallExtends : {F : Type 0} → (State F → End Value (State F)) → (State F → End Value (State F)) → Type 0
CallExtends {F = F} go ho = (s : State F) → Extends (go s) (ho s)

-- ---- items

takes_ahead : {F : Type 0} (back : Apply F) (go : State F → End Value (State F)) (i : Item) (s : State F) → ApplyGrows back → CallGrows go → Ahead s.outside.events (takes back go i s)
takes_ahead back go (Answer v) s p q = begins_refl s.outside.events
takes_ahead back go (Raise c v) s p q = begins_refl s.outside.events
takes_ahead back go (Arrive v) s p q = q (arrived v s)
takes_ahead back go TimeUp s p q = q s
takes_ahead back go (CallBack f vs) s p q = p f vs s

taken_ahead : {F : Type 0} (k : Known) (back : Apply F) (is : List Item) (s : State F) → ApplyGrows back → Ahead s.outside.events (taken k back is s)
taken_ahead k back [] s p = begins_refl s.outside.events
taken_ahead k back (i ∷ is) s p = if_ahead s.outside.events (fits k i) _ _ (takes_ahead back _ i (with_items is s) p (λ t. taken_ahead k back is t p)) (taken_ahead k back is s p)

takes_extends : {F : Type 0} (back more : Apply F) (go ho : State F → End Value (State F)) (i : Item) (s : State F) → ApplyExtends back more → CallExtends go ho → Extends (takes back go i s) (takes more ho i s)
takes_extends back more go ho (Answer v) s p q = refl
takes_extends back more go ho (Raise c v) s p q = refl
takes_extends back more go ho (Arrive v) s p q = q (arrived v s)
takes_extends back more go ho TimeUp s p q = q s
takes_extends back more go ho (CallBack f vs) s p q = p f vs s

taken_extends : {F : Type 0} (k : Known) (back more : Apply F) (is : List Item) (s : State F) → ApplyExtends back more → Extends (taken k back is s) (taken k more is s)
taken_extends k back more [] s p = refl
taken_extends k back more (i ∷ is) s p = if_extends (fits k i) _ _ _ _ (takes_extends back more _ _ i (with_items is s) p (λ t. taken_extends k back more is t p)) (taken_extends k back more is s p)

-- ---- calls of functions of other modules

called_ahead : {F : Type 0} (o : Option Value) (calls : State F → End Value (State F)) → CallGrows calls → CallGrows (called o calls)
called_ahead None calls p s = p s
called_ahead (Some v) calls p s = begins_refl s.outside.events

called_extends : {F : Type 0} (o : Option Value) (calls more : State F → End Value (State F)) → CallExtends calls more → CallExtends (called o calls) (called o more)
called_extends None calls more p s = p s
called_extends (Some v) calls more p s = refl

pub outside_ahead : {F : Type 0} (calls : State F → End Value (State F)) → CallGrows calls → (m f : List ℕ) (vs : List Value) (s : State F) → Ahead s.outside.events (outside_call calls m f vs s)
outside_ahead calls p m f vs s = called_ahead (pure m f vs) _ (λ t. shown_ahead (Called m f vs) t (calls (shows (Called m f vs) t)) (p (shows (Called m f vs) t))) s

pub outside_extends : {F : Type 0} (calls more : State F → End Value (State F)) → CallExtends calls more → (m f : List ℕ) (vs : List Value) (s : State F) → Extends (outside_call calls m f vs s) (outside_call more m f vs s)
outside_extends calls more p m f vs s = called_extends (pure m f vs) _ _ (λ t. p (shows (Called m f vs) t)) s

-- ---- applications

kind_ahead : {F : Type 0} (calls : State F → End Value (State F)) (own : Apply F) → CallGrows calls → ApplyGrows own → ApplyGrows (by_kind calls own)
kind_ahead calls own p q (External m f a) vs s = outside_ahead calls p m f vs s
kind_ahead calls own p q f vs s = q f vs s

kind_extends : {F : Type 0} (calls more : State F → End Value (State F)) (own others : Apply F) → CallExtends calls more → ApplyExtends own others → ApplyExtends (by_kind calls own) (by_kind more others)
kind_extends calls more own others p q (External m f a) vs s = outside_extends calls more p m f vs s
kind_extends calls more own others p q f vs s = q f vs s

tested_ahead : {F : Type 0} (o : Option ℕ) (go : Apply F) → ApplyGrows go → ApplyGrows (tested o go)
tested_ahead None go p f vs s = begins_refl s.outside.events
tested_ahead (Some a) go p f vs s = if_ahead s.outside.events (length vs == a) _ _ (p f vs s) (begins_refl s.outside.events)

tested_extends : {F : Type 0} (o : Option ℕ) (go ho : Apply F) → ApplyExtends go ho → ApplyExtends (tested o go) (tested o ho)
tested_extends None go ho p f vs s = refl
tested_extends (Some a) go ho p f vs s = if_extends (length vs == a) _ _ _ _ (p f vs s) refl

pub fun_ahead : {F : Type 0} (calls : State F → End Value (State F)) (own : Apply F) → CallGrows calls → ApplyGrows own → ApplyGrows (fun_applied calls own)
fun_ahead calls own p q f vs s = tested_ahead (arity_of f) (by_kind calls own) (kind_ahead calls own p q) f vs s

pub fun_extends : {F : Type 0} (calls more : State F → End Value (State F)) (own others : Apply F) → CallExtends calls more → ApplyExtends own others → ApplyExtends (fun_applied calls own) (fun_applied more others)
fun_extends calls more own others p q f vs s = tested_extends (arity_of f) (by_kind calls own) (by_kind more others) (kind_extends calls more own others p q) f vs s

-- ---- calls

-- at each bound, a side's own applications only add events
abbrev pub SideGrows : {F L : Type 0} → Side F L → List L → Type 0
SideGrows by [] = ApplyGrows (by.applies [])
SideGrows by (l ∷ ls) = ApplyGrows (by.applies (l ∷ ls)) × SideGrows by ls

abbrev pub SideBelow : {F L : Type 0} → Side F L → List L → List L → Type 0
SideBelow by [] ks = ApplyExtends (by.applies []) (by.applies ks)
SideBelow by (l ∷ ls) [] = ⊥
SideBelow by (l ∷ ls) (k ∷ ks) = ApplyExtends (by.applies (l ∷ ls)) (by.applies (k ∷ ks)) × SideBelow by ls ks

pub own_grows : {F L : Type 0} (by : Side F L) (ls : List L) → SideGrows by ls → ApplyGrows (by.applies ls)
own_grows by [] g = g
own_grows by (l ∷ ls) g = g.0

pub own_below : {F L : Type 0} (by : Side F L) (ls ks : List L) → SideBelow by ls ks → ApplyExtends (by.applies ls) (by.applies ks)
own_below by [] ks p = p
own_below by (l ∷ ls) [] p = absurd p
own_below by (l ∷ ls) (k ∷ ks) p = p.0

-- what a fun that the outside applies does at the levels that are left
abbrev pub back : {F L : Type 0} → Side F L → List L → Apply F
back by ls f vs t = and_either (fun_applied (answered by ls) (by.applies ls) f vs t) (λ v u. answered by ls (shows (GaveBack (Returned v)) u)) (λ c v u. answered by ls (shows (GaveBack (Excepted c v)) u))

pub answered_ahead : {F L : Type 0} (by : Side F L) (ls : List L) → SideGrows by ls → CallGrows (answered by ls)
answered_ahead by [] g s = taken_ahead (by.known s.store) _ s.outside.items s (λ f vs t. begins_refl t.outside.events)
answered_ahead by (l ∷ ls) g s = taken_ahead (by.known s.store) (back by ls) s.outside.items s
    (λ f vs t. either_ahead t.outside.events (fun_applied (answered by ls) (by.applies ls) f vs t) _ _
    (fun_ahead (answered by ls) (by.applies ls) (answered_ahead by ls g.1) (own_grows by ls g.1) f vs t)
    (λ v u. shown_ahead (GaveBack (Returned v)) u (answered by ls (shows (GaveBack (Returned v)) u)) (answered_ahead by ls g.1 (shows (GaveBack (Returned v)) u)))
    (λ c v u. shown_ahead (GaveBack (Excepted c v)) u (answered by ls (shows (GaveBack (Excepted c v)) u)) (answered_ahead by ls g.1 (shows (GaveBack (Excepted c v)) u))))

pub shown_answered : {F L : Type 0} (by : Side F L) (ls : List L) (e : Event) (s : State F) → SideGrows by ls → Ahead s.outside.events (answered by ls (shows e s))
shown_answered by ls e s g = shown_ahead e s (answered by ls (shows e s)) (answered_ahead by ls g (shows e s))

back_ahead : {F L : Type 0} (by : Side F L) (ls : List L) → SideGrows by ls → ApplyGrows (back by ls)
back_ahead by ls g f vs t = either_ahead t.outside.events (fun_applied (answered by ls) (by.applies ls) f vs t) _ _
    (fun_ahead (answered by ls) (by.applies ls) (answered_ahead by ls g) (own_grows by ls g) f vs t)
    (λ v u. shown_answered by ls (GaveBack (Returned v)) u g)
    (λ c v u. shown_answered by ls (GaveBack (Excepted c v)) u g)

pub answered_extends : {F L : Type 0} (by : Side F L) (ls ks : List L) → SideBelow by ls ks → SideGrows by ks → CallExtends (answered by ls) (answered by ks)
answered_extends by [] [] p g s = extends_refl (answered by [] s)
answered_extends by [] (k ∷ ks) p g s = taken_extends (by.known s.store) (λ f vs t. More t) (back by ks) s.outside.items s (back_ahead by ks g.1)
answered_extends by (l ∷ ls) [] p g s = absurd p
answered_extends by (l ∷ ls) (k ∷ ks) p g s = taken_extends (by.known s.store) (back by ls) (back by ks) s.outside.items s
    (λ f vs t. either_extends (fun_applied (answered by ls) (by.applies ls) f vs t) (fun_applied (answered by ks) (by.applies ks) f vs t) _ _ _ _
    (fun_extends (answered by ls) (answered by ks) (by.applies ls) (by.applies ks) (answered_extends by ls ks p.1 g.1) (own_below by ls ks p.1) f vs t)
    (λ v u. answered_extends by ls ks p.1 g.1 (shows (GaveBack (Returned v)) u))
    (λ c v u. answered_extends by ls ks p.1 g.1 (shows (GaveBack (Excepted c v)) u))
    (λ v u. shown_answered by ks (GaveBack (Returned v)) u g.1)
    (λ c v u. shown_answered by ks (GaveBack (Excepted c v)) u g.1))

pub apply_ahead : {F L : Type 0} (by : Side F L) (ls : List L) → SideGrows by ls → ApplyGrows (apply by ls)
apply_ahead by ls g f vs s = fun_ahead (answered by ls) (by.applies ls) (answered_ahead by ls g) (own_grows by ls g) f vs s

pub apply_extends : {F L : Type 0} (by : Side F L) (ls ks : List L) → SideBelow by ls ks → SideGrows by ks → ApplyExtends (apply by ls) (apply by ks)
apply_extends by ls ks p g f vs s = fun_extends (answered by ls) (answered by ks) (by.applies ls) (by.applies ks) (answered_extends by ls ks p g) (own_below by ls ks p) f vs s

pub remote_ahead : {F L : Type 0} (by : Side F L) (ls : List L) (m f : Value) (vs : List Value) (s : State F) → SideGrows by ls → Ahead s.outside.events (remote by ls m f vs s)
remote_ahead by ls (Atom m) (Atom f) vs s g = outside_ahead (answered by ls) (answered_ahead by ls g) m f vs s
remote_ahead by ls _ _ vs s g = begins_refl s.outside.events

pub remote_extends : {F L : Type 0} (by : Side F L) (ls ks : List L) (m f : Value) (vs : List Value) (s : State F) → SideBelow by ls ks → SideGrows by ks → Extends (remote by ls m f vs s) (remote by ks m f vs s)
remote_extends by ls ks (Atom m) (Atom f) vs s p g = outside_extends (answered by ls) (answered by ks) (answered_extends by ls ks p g) m f vs s
remote_extends by ls ks _ _ vs s p g = refl
