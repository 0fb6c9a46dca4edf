-- Calls of what is outside, and applications of funs.
use Rattle.std.specs.Prelude.{ℕ, Bool, true, false, not, ◌&&◌, ◌==◌, codes, bytes_eq, if◌then◌else◌, List, [], ◌∷◌, length, Option, Some, None}
use Rattle.ef_meaning.specs.Value.{Value, Atom, Local, External, Made, some, values_of}
use Rattle.ef_meaning.specs.Exception.{Error, badarg, badfun, badarity}
use Rattle.ef_meaning.specs.Proper.{Known, is_proper, are_proper}
use Rattle.ef_meaning.specs.Outside.{Item, Answer, Raise, Arrive, TimeUp, CallBack, Returned, Excepted, Called, GaveBack, State, with_items, arrived, shows}
use Rattle.ef_meaning.specs.End.{End, Gives, Raises, Waits, More, and_either}
use Rattle.ef_meaning.specs.Pure.{pure}

-- how a fun value is applied
abbrev pub Apply : Type 0 → Type 0
Apply F = Value → List Value → State F → End Value (State F)

-- what a meaning hands to its outside: what is known beside a store, and how a fun of its own, local or made, is applied
-- at some levels
pub record Side (F L : Type 0) : Type 0 where
  pub known : F → Known
  pub applies : List L → Apply F

-- ---- items

-- funs that the outside may apply; none of `erlang`, not all of whose pure functions are built yet
abbrev pub is_applicable : Value → Bool
is_applicable (Local f a) = true
is_applicable (External m f a) = not (bytes_eq m (codes "erlang"))
is_applicable (Made k a) = true
is_applicable _ = false

-- an item fits nowhere unless its values are proper
abbrev pub fits : Known → Item → Bool
fits k (Answer v) = is_proper k v
fits k (Raise c v) = is_proper k v
fits k (Arrive v) = is_proper k v
fits k TimeUp = true
fits k (CallBack f vs) = is_applicable f && are_proper k (some f (values_of vs))

-- what an item does to a call: it ends it, or is put aside, or a fun is applied
abbrev pub takes : {F : Type 0} → Apply F → (State F → End Value (State F)) → Item → State F → End Value (State F)
takes back go (Answer v) s = Gives v s
takes back go (Raise c v) s = Raises c v s
takes back go (Arrive v) s = go (arrived v s)
takes back go TimeUp s = go s
takes back go (CallBack f vs) s = back f vs s

-- a call takes items until one ends it, and passes over those that don't fit; where they run out, it waits
abbrev pub taken : {F : Type 0} → Known → Apply F → List Item → State F → End Value (State F)
taken k back [] s = Waits (with_items [] s)
taken k back (i ∷ is) s = if fits k i then takes back (λ t. taken k back is t) i (with_items is s) else taken k back is s

-- ---- applications

-- the number of parameters of a fun
abbrev pub arity_of : Value → Option ℕ
arity_of (Local f a) = Some a
arity_of (External m f a) = Some a
arity_of (Made k a) = Some a
arity_of _ = None

-- what is applied has to be a fun, and of so many parameters
abbrev pub tested : {F : Type 0} → Option ℕ → Apply F → Apply F
tested None go f vs s = Raises Error (badfun f) s
tested (Some a) go f vs s = if length vs == a then go f vs s else Raises Error (badarity f vs) s

-- a pure function gives its value; another one of another module is called, by what a call does
abbrev pub called : {F : Type 0} → Option Value → (State F → End Value (State F)) → State F → End Value (State F)
called (Some v) calls s = Gives v s
called None calls s = calls s

abbrev pub outside_call : {F : Type 0} → (State F → End Value (State F)) → List ℕ → List ℕ → List Value → State F → End Value (State F)
outside_call calls m f vs s = called (pure m f vs) (λ t. calls (shows (Called m f vs) t)) s

-- an external fun is one of another module; the others are a meaning's own
abbrev pub by_kind : {F : Type 0} → (State F → End Value (State F)) → Apply F → Apply F
by_kind calls own (External m f a) vs s = outside_call calls m f vs s
by_kind calls own f vs s = own f vs s

abbrev pub fun_applied : {F : Type 0} → (State F → End Value (State F)) → Apply F → Apply F
fun_applied calls own f vs s = tested (arity_of f) (by_kind calls own) f vs s

-- what a call does behind its event; the bound falls by one for each fun that the outside applies
abbrev pub answered : {F L : Type 0} → Side F L → List L → State F → End Value (State F)
answered by [] s = taken (by.known s.store) (λ f vs t. More t) s.outside.items s
answered by (l ∷ ls) s = taken (by.known s.store) (λ f vs t.
    and_either (fun_applied (answered by ls) (by.applies ls) f vs t)
    (λ v u. answered by ls (shows (GaveBack (Returned v)) u))
    (λ c v u. answered by ls (shows (GaveBack (Excepted c v)) u))) s.outside.items s

-- an application of a fun value at some levels
abbrev pub apply : {F L : Type 0} → Side F L → List L → Apply F
apply by ls f vs s = fun_applied (answered by ls) (by.applies ls) f vs s

-- a remote call, of two atoms
abbrev pub remote : {F L : Type 0} → Side F L → List L → Value → Value → List Value → State F → End Value (State F)
remote by ls (Atom m) (Atom f) vs s = outside_call (answered by ls) m f vs s
remote by ls _ _ vs s = Raises Error badarg s
