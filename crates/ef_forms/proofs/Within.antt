-- Names that are bound for sure stand for a list of ways: where the ways have no fault, the names have none.
use Rattle.std.proofs.Common.{◌≡◌, refl, sym, ap, ◌∙◌}
use Rattle.std.specs.Prelude.{List, [], ◌∷◌, Bool, true, false, ◌||◌, ◌&&◌}
use Rattle.std.specs.List.{flat_map}
use Rattle.ef_base.specs.declared.name.Name.{Name}
use Rattle.ef_forms.specs.Tree.{Tree, Trees, Clauses}
use Rattle.ef_forms.specs.Ways.{NameSet, union, Way, bind, ways, side_by_side, body_ways, clauses_ways, on_some, on_all}
use Rattle.ef_forms.specs.Sure.{sure, all_sure, clauses_sure}
use Rattle.ef_forms.proofs.Bools.{or_false, and_true, or_more}
use Rattle.ef_forms.proofs.Growth.{given, Grows, grows_bind, after_given, after_some, after_all}
use Rattle.ef_forms.proofs.Grows.{grows_ways, grows_side, grows_body, grows_clauses}

-- what is bound on every way of b is so on every way of a, and what is bound on some way of a is so on some way of b
pub record Within (a b : List NameSet) : Type 0 where
  pub here : given a ≡ true
  pub there : given b ≡ true
  pub all : (x : Name) → on_all x b ≡ true → on_all x a ≡ true
  pub some : (x : Name) → on_some x a ≡ true → on_some x b ≡ true

pub within_same : (a : List NameSet) → given a ≡ true → Within a a
within_same a h = record { here = h; there = h; all = λ x k. k; some = λ x k. k }

pub within_trans : (a b c : List NameSet) → Within a b → Within b c → Within a c
within_trans a b c p q = record { here = p.here; there = q.there; all = λ x k. p.all x (q.all x k); some = λ x k. q.some x (p.some x k) }

-- ---- what follows stays within

pub within_after : (f : Way) (m M : NameSet) → Grows f m M → (a b : List NameSet) → Within a b → Within (flat_map f a) (flat_map f b)
within_after f m M grows a b w = record {
  here = after_given f m M grows a w.here;
  there = after_given f m M grows b w.there;
  all = λ x k. after_all f m M grows a w.here x ∙ or_more (on_all x a) (on_all x b) (M x.index) (w.all x) (sym (after_all f m M grows b w.there x) ∙ k);
  some = λ x k. after_some f m M grows b w.there x ∙ or_more (on_some x b) (on_some x a) (m x.index) (w.some x) (sym (after_some f m M grows a w.here x) ∙ k);
}

module _ (a b : List NameSet) (w : Within a b) where
  pub within_ways : (e : Tree) → Within (flat_map (ways e) a) (flat_map (ways e) b)
  within_ways e = within_after _ _ _ (grows_ways e) a b w

  pub within_side : (es : Trees) → Within (flat_map (side_by_side es) a) (flat_map (side_by_side es) b)
  within_side es = within_after _ _ _ (grows_side es) a b w

  pub within_body : (es : Trees) → Within (flat_map (body_ways es) a) (flat_map (body_ways es) b)
  within_body es = within_after _ _ _ (grows_body es) a b w

  pub within_clauses : (cs : Clauses) → Within (flat_map (clauses_ways cs) a) (flat_map (clauses_ways cs) b)
  within_clauses cs = within_after _ _ _ (grows_clauses cs) a b w

  pub within_bind : (t : NameSet) → Within (flat_map (bind t) a) (flat_map (bind t) b)
  within_bind t = within_after _ _ _ (grows_bind t) a b w

-- ---- what is bound for sure

-- of some sets, what all have one has
pub all_is_some : (x : Name) (sets : List NameSet) → given sets ≡ true → on_all x sets ≡ true → on_some x sets ≡ true
all_is_some x [] h k = cc
all_is_some x (s ∷ sets) h k = first (s x.index) (on_all x sets) (on_some x sets) k
  where
    first : (t u v : Bool) → (t && u) ≡ true → (t || v) ≡ true
    first true u v h = refl
    first false u v h = cc

pub sure_after : (f : Way) (m M : NameSet) → Grows f m M → (s : NameSet) → Within (union s M ∷ []) (f s)
sure_after f m M grows s = record {
  here = refl;
  there = grows.here s;
  all = λ x k. and_true (s x.index || M x.index) ∙ sym (grows.all x s) ∙ k;
  some = λ x k. all_is_some x (f s) (grows.here s) (grows.all x s ∙ sym (or_false (s x.index || M x.index)) ∙ k);
}

pub sure_way : (e : Tree) (s : NameSet) → Within (union s (sure e) ∷ []) (ways e s)
sure_way e s = sure_after _ _ _ (grows_ways e) s

pub sure_side : (es : Trees) (s : NameSet) → Within (union s (all_sure es) ∷ []) (side_by_side es s)
sure_side es s = sure_after _ _ _ (grows_side es) s

pub sure_body : (es : Trees) (s : NameSet) → Within (union s (all_sure es) ∷ []) (body_ways es s)
sure_body es s = sure_after _ _ _ (grows_body es) s

pub sure_clauses : (cs : Clauses) (s : NameSet) → Within (union s (clauses_sure cs) ∷ []) (clauses_ways cs s)
sure_clauses cs s = sure_after _ _ _ (grows_clauses cs) s

-- the same from names that stand for a list of ways
pub sure_follows : (f : Way) (m M : NameSet) → Grows f m M → (s : NameSet) (sets : List NameSet) → Within (s ∷ []) sets → Within (union s M ∷ []) (flat_map f sets)
sure_follows f m M grows s sets w = within_trans _ _ _ (record {
  here = refl;
  there = after_given f m M grows (s ∷ []) refl;
  all = λ x k. and_true (s x.index || M x.index) ∙ ap (λ z. z || M x.index) (sym (and_true (s x.index))) ∙ sym (after_all f m M grows (s ∷ []) refl x) ∙ k;
  some = λ x k. all_is_some x (flat_map f (s ∷ [])) (after_given f m M grows (s ∷ []) refl) (after_all f m M grows (s ∷ []) refl x ∙ ap (λ z. z || M x.index) (and_true (s x.index)) ∙ sym (or_false (s x.index || M x.index)) ∙ k);
}) (within_after f m M grows (s ∷ []) sets w)

module _ (s : NameSet) (sets : List NameSet) (w : Within (s ∷ []) sets) where
  pub sure_ways_follow : (e : Tree) → Within (union s (sure e) ∷ []) (flat_map (ways e) sets)
  sure_ways_follow e = sure_follows _ _ _ (grows_ways e) s sets w

  pub sure_side_follows : (es : Trees) → Within (union s (all_sure es) ∷ []) (flat_map (side_by_side es) sets)
  sure_side_follows es = sure_follows _ _ _ (grows_side es) s sets w

  pub sure_body_follows : (es : Trees) → Within (union s (all_sure es) ∷ []) (flat_map (body_ways es) sets)
  sure_body_follows es = sure_follows _ _ _ (grows_body es) s sets w

  pub sure_clauses_follow : (cs : Clauses) → Within (union s (clauses_sure cs) ∷ []) (flat_map (clauses_ways cs) sets)
  sure_clauses_follow cs = sure_follows _ _ _ (grows_clauses cs) s sets w

  pub sure_bind_follows : (t : NameSet) → Within (union s t ∷ []) (flat_map (bind t) sets)
  sure_bind_follows t = sure_follows _ _ _ (grows_bind t) s sets w
