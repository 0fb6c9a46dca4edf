-- What a way adds does not depend on where it starts.
use Rattle.std.proofs.Common.{◌≡◌, refl, sym, ap, ◌∙◌}
use Rattle.std.specs.Prelude.{List, [], ◌∷◌, ◌++◌, Bool, true, false, ◌||◌, ◌&&◌, map}
use Rattle.std.specs.List.{flat_map, list_any}
use Rattle.std.proofs.lemmas.List.Folds.{list_any-append}
use Rattle.ef_base.specs.declared.name.Name.{Name}
use Rattle.ef_forms.specs.Ways.{NameSet, no_names, union, common, Way, stay, bind, before, or_else, pairs, beside, on_some, on_all}
use Rattle.ef_forms.proofs.Bools.{or_false, or_true, or_assoc, and_assoc, and_true, or_meet, or_join, some_step, all_step, pair_step, map_step}

-- there is a set
abbrev pub given : List NameSet → Bool
given sets = list_any (λ (s : NameSet). true) sets

-- some way adds the names m, and every way the names M
pub record Grows (f : Way) (m M : NameSet) : Type 0 where
  pub here : (s : NameSet) → given (f s) ≡ true
  pub some : (x : Name) (s : NameSet) → on_some x (f s) ≡ (s x.index || m x.index)
  pub all : (x : Name) (s : NameSet) → on_all x (f s) ≡ (s x.index || M x.index)

pub given_append : (a b : List NameSet) → given (a ++ b) ≡ (given a || given b)
given_append a b = list_any-append (λ (s : NameSet). true) a b

pub some_append : (x : Name) (a b : List NameSet) → on_some x (a ++ b) ≡ (on_some x a || on_some x b)
some_append x a b = list_any-append (λ (s : NameSet). s x.index) a b

pub all_append : (x : Name) (a b : List NameSet) → on_all x (a ++ b) ≡ (on_all x a && on_all x b)
all_append x [] b = refl
all_append x (s ∷ a) b = ap (λ z. s x.index && z) (all_append x a b) ∙ sym (and_assoc (s x.index) (on_all x a) (on_all x b))

-- ---- the same from a list of sets

pub given_flat : (f : Way) → ((s : NameSet) → given (f s) ≡ true) → (sets : List NameSet) → given (flat_map f sets) ≡ given sets
given_flat f h [] = refl
given_flat f h (s ∷ sets) = given_append (f s) (flat_map f sets) ∙ ap (λ z. z || given (flat_map f sets)) (h s)

pub some_flat : (f : Way) (m : NameSet) (x : Name) → ((s : NameSet) → on_some x (f s) ≡ (s x.index || m x.index)) → (sets : List NameSet)
    → on_some x (flat_map f sets) ≡ (on_some x sets || (given sets && m x.index))
some_flat f m x h [] = refl
some_flat f m x h (s ∷ sets) =
    some_append x (f s) (flat_map f sets) ∙ ap (λ z. z || on_some x (flat_map f sets)) (h s) ∙ ap (λ z. (s x.index || m x.index) || z) (some_flat f m x h sets)
    ∙ some_step (s x.index) (m x.index) (on_some x sets) (given sets)

pub all_flat : (f : Way) (m : NameSet) (x : Name) → ((s : NameSet) → on_all x (f s) ≡ (s x.index || m x.index)) → (sets : List NameSet)
    → on_all x (flat_map f sets) ≡ (on_all x sets || m x.index)
all_flat f m x h [] = refl
all_flat f m x h (s ∷ sets) =
    all_append x (f s) (flat_map f sets) ∙ ap (λ z. z && on_all x (flat_map f sets)) (h s) ∙ ap (λ z. (s x.index || m x.index) && z) (all_flat f m x h sets)
    ∙ all_step (s x.index) (m x.index) (on_all x sets)

module _ (f : Way) (m M : NameSet) (grows : Grows f m M) (sets : List NameSet) (start : given sets ≡ true) where
  pub after_given : given (flat_map f sets) ≡ true
  after_given = given_flat f grows.here sets ∙ start

  pub after_some : (x : Name) → on_some x (flat_map f sets) ≡ (on_some x sets || m x.index)
  after_some x = some_flat f m x (grows.some x) sets ∙ ap (λ z. on_some x sets || (z && m x.index)) start

  pub after_all : (x : Name) → on_all x (flat_map f sets) ≡ (on_all x sets || M x.index)
  after_all x = all_flat f M x (grows.all x) sets

-- ---- unions of one result of each

map_given : (s : NameSet) (b : List NameSet) → given (map (union s) b) ≡ given b
map_given s [] = refl
map_given s (t ∷ b) = refl

map_some : (x : Name) (s : NameSet) (b : List NameSet) → on_some x (map (union s) b) ≡ ((given b && s x.index) || on_some x b)
map_some x s [] = refl
map_some x s (t ∷ b) = ap (λ z. (s x.index || t x.index) || z) (map_some x s b) ∙ map_step (s x.index) (t x.index) (given b) (on_some x b)

map_all : (x : Name) (s : NameSet) (b : List NameSet) → on_all x (map (union s) b) ≡ (s x.index || on_all x b)
map_all x s [] = sym (or_true (s x.index))
map_all x s (t ∷ b) = ap (λ z. (s x.index || t x.index) && z) (map_all x s b) ∙ or_meet (s x.index) (t x.index) (on_all x b)

pub pairs_given : (a b : List NameSet) → given b ≡ true → given (pairs a b) ≡ given a
pairs_given a b h = given_flat (λ s. map (union s) b) (λ s. map_given s b ∙ h) a

nothing_meets : (g : Bool) → false ≡ ((g && false) || false)
nothing_meets true = refl
nothing_meets false = refl

pub pairs_some : (x : Name) (a b : List NameSet) → on_some x (pairs a b) ≡ ((given b && on_some x a) || (given a && on_some x b))
pairs_some x [] b = nothing_meets (given b)
pairs_some x (s ∷ a) b =
    some_append x (map (union s) b) (pairs a b) ∙ ap (λ z. z || on_some x (pairs a b)) (map_some x s b)
    ∙ ap (λ z. ((given b && s x.index) || on_some x b) || z) (pairs_some x a b)
    ∙ pair_step (given b) (s x.index) (on_some x b) (on_some x a) (given a)

pub pairs_all : (x : Name) (a b : List NameSet) → on_all x (pairs a b) ≡ (on_all x a || on_all x b)
pairs_all x [] b = refl
pairs_all x (s ∷ a) b =
    all_append x (map (union s) b) (pairs a b) ∙ ap (λ z. z && on_all x (pairs a b)) (map_all x s b)
    ∙ ap (λ z. (s x.index || on_all x b) && z) (pairs_all x a b) ∙ all_step (s x.index) (on_all x b) (on_all x a)

-- ---- what each form of way adds

and_or : (a : Bool) → (a && true) ≡ (a || false)
and_or true = refl
and_or false = refl

pub grows_stay : Grows stay no_names no_names
grows_stay = record {
  here = λ s. refl;
  some = λ x s. refl;
  all = λ x s. and_or (s x.index);
}

pub grows_bind : (t : NameSet) → Grows (bind t) t t
grows_bind t = record {
  here = λ s. refl;
  some = λ x s. or_false (s x.index || t x.index);
  all = λ x s. and_true (s x.index || t x.index);
}

module _ (f g : Way) (mf Mf mg Mg : NameSet) (p : Grows f mf Mf) (q : Grows g mg Mg) where
  pub grows_before : Grows (before f g) (union mf mg) (union Mf Mg)
  grows_before = record {
    here = λ s. given_flat g q.here (f s) ∙ p.here s;
    some = λ x s. some_flat g mg x (q.some x) (f s) ∙ ap (λ z. on_some x (f s) || (z && mg x.index)) (p.here s) ∙ ap (λ z. z || mg x.index) (p.some x s) ∙ or_assoc (s x.index) (mf x.index) (mg x.index);
    all = λ x s. all_flat g Mg x (q.all x) (f s) ∙ ap (λ z. z || Mg x.index) (p.all x s) ∙ or_assoc (s x.index) (Mf x.index) (Mg x.index);
  }

  pub grows_or_else : Grows (or_else f g) (union mf mg) (common Mf Mg)
  grows_or_else = record {
    here = λ s. given_append (f s) (g s) ∙ ap (λ z. z || given (g s)) (p.here s);
    some = λ x s. some_append x (f s) (g s) ∙ ap (λ z. z || on_some x (g s)) (p.some x s) ∙ ap (λ z. (s x.index || mf x.index) || z) (q.some x s) ∙ or_join (s x.index) (mf x.index) (mg x.index);
    all = λ x s. all_append x (f s) (g s) ∙ ap (λ z. z && on_all x (g s)) (p.all x s) ∙ ap (λ z. (s x.index || Mf x.index) && z) (q.all x s) ∙ or_meet (s x.index) (Mf x.index) (Mg x.index);
  }

  pub grows_beside : Grows (beside f g) (union mf mg) (union Mf Mg)
  grows_beside = record {
    here = λ s. pairs_given (f s) (g s) (q.here s) ∙ p.here s;
    some = λ x s. pairs_some x (f s) (g s) ∙ ap (λ z. (z && on_some x (f s)) || (given (f s) && on_some x (g s))) (q.here s) ∙ ap (λ z. on_some x (f s) || (z && on_some x (g s))) (p.here s)
        ∙ ap (λ z. z || on_some x (g s)) (p.some x s) ∙ ap (λ z. (s x.index || mf x.index) || z) (q.some x s) ∙ or_join (s x.index) (mf x.index) (mg x.index);
    all = λ x s. pairs_all x (f s) (g s) ∙ ap (λ z. z || on_all x (g s)) (p.all x s) ∙ ap (λ z. (s x.index || Mf x.index) || z) (q.all x s) ∙ or_join (s x.index) (Mf x.index) (Mg x.index);
  }

pub grows_same : (f : Way) (m M m' : NameSet) → Grows f m M → ((x : Name) → m x.index ≡ m' x.index) → Grows f m' M
grows_same f m M m' p h = record {
  here = p.here;
  some = λ x s. p.some x s ∙ ap (λ z. s x.index || z) (h x);
  all = p.all;
}
