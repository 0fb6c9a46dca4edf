-- Names that are bound: what a match binds, and what stays bound.
use Rattle.std.proofs.Common.{◌≡◌, ℕ, ◌||◌, ◌&&◌, ◌==◌, Bool, true, false, if◌then◌else◌, [], ◌∷◌, ◌++◌, Option, Some, None, refl, sym, ap, ◌∙◌, subst, cond, arith}
use Rattle.std.specs.Prelude.{filter}
use Rattle.std.proofs.lemmas.Bool.Decides.{nat_tests}
use Rattle.ef_base.specs.declared.name.Name.{Name}
use Rattle.ef_base.specs.Texts.{Texts, text}
use Rattle.ef_forms.specs.Tree.{Tree, Shape, Trees, tree, int, atom, var, any, list, list_to, tuple, end, more}
use Rattle.ef_forms.specs.Ways.{NameSet, no_names, one_name, union, common, names, shape_names, all_names}
use Rattle.ef_meaning.specs.Value.{Value, Values, Integer, Atom, Nil, none, some, head_and_tail, elements, with_some}
use Rattle.ef_meaning.specs.Same.{same_value}
use Rattle.ef_meaning.specs.Match.{Bindings, value_of, compared, match_name, matches, matches_shape, match_items, match_values}
use Rattle.ef_meaning.specs.Source.{kept}

abbrev pub IsBoundTo : Name → Bindings → Type 0
IsBoundTo n b = (v : Value) × (value_of n b ≡ Some v)

-- each of these names is bound
abbrev pub Covers : NameSet → Bindings → Type 0
Covers s b = (n : Name) → s n.index ≡ true → IsBoundTo n b

-- what was bound stays so, and these names are bound too
pub record Follows (b : Bindings) (t : NameSet) (c : Bindings) : Type 0 where
  pub stays : (n : Name) → IsBoundTo n b → IsBoundTo n c
  pub covers : Covers t c

or_elim : {C : Type 0} (a b : Bool) → (a || b) ≡ true → (a ≡ true → C) → (b ≡ true → C) → C
or_elim true b p f g = f refl
or_elim false b p f g = g p

pub nothing : (b : Bindings) → Follows b no_names b
nothing b = record { stays = λ n p. p; covers = λ n p. absurd cc }

same_name : (x z : Name) → (x.index == z.index) ≡ true → x ≡ z
same_name x z p = let i : x.index ≡ z.index = grind (arith, nat_tests) in ap (λ (n : ℕ). let name : Name = record { index = n } in name) i

pub follows_refl : (b : Bindings) (n : Name) → IsBoundTo n b → Follows b (one_name n) b
follows_refl b n p = record { stays = λ m q. q; covers = λ m e. subst (λ z. IsBoundTo z b) (same_name n m e) p }

pub follows_trans : {b c d : Bindings} {s t : NameSet} → Follows b s c → Follows c t d → Follows b (union s t) d
follows_trans {b} {c} {d} {s} {t} p q = record {
  stays = λ n h. q.stays n (p.stays n h);
  covers = λ n h. or_elim (s n.index) (t n.index) h (λ e. q.stays n (p.covers n e)) (λ e. q.covers n e);
}

pub swap : (b c : Bindings) (s t : NameSet) → Follows b (union s t) c → Follows b (union t s) c
swap b c s t p = record { stays = p.stays; covers = λ n h. p.covers n (by (s n.index) (t n.index) h) }
  where
    by : (x y : Bool) → (y || x) ≡ true → (x || y) ≡ true
    by true y h = refl
    by false true h = refl
    by false false h = h

pub still : (s : NameSet) (b : Bindings) (t : NameSet) (c : Bindings) → Covers s b → Follows b t c → Covers s c
still s b t c p q n e = q.stays n (p n e)

pub covers_union : (s t : NameSet) (b c : Bindings) → Covers s b → Follows b t c → Covers (union s t) c
covers_union s t b c p q n e = or_elim (s n.index) (t n.index) e (λ h. q.stays n (p n h)) (λ h. q.covers n h)

-- fewer names
pub common_left : (b c : Bindings) (s t : NameSet) → Follows b s c → Follows b (common s t) c
common_left b c s t p = record { stays = p.stays; covers = λ n h. p.covers n (by (s n.index) (t n.index) h) }
  where
    by : (x y : Bool) → (x && y) ≡ true → x ≡ true
    by true y h = refl
    by false y h = absurd cc

pub common_right : (b c : Bindings) (s t : NameSet) → Follows b t c → Follows b (common s t) c
common_right b c s t p = record { stays = p.stays; covers = λ n h. p.covers n (by (s n.index) (t n.index) h) }
  where
    by : (x y : Bool) → (x && y) ≡ true → y ≡ true
    by true y h = h
    by false y h = absurd cc

-- ---- bindings that are kept

pub value_front : (b c : Bindings) (x : Name) (v : Value) → value_of x b ≡ Some v → value_of x (b ++ c) ≡ Some v
value_front [] c x v e = absurd cc
value_front (p ∷ b) c x v e = by (p.0.index == x.index) (λ h. value_front b c x v h) e
  where
    by : (t : Bool) → (value_of x b ≡ Some v → value_of x (b ++ c) ≡ Some v) → (if t then Some p.1 else value_of x b) ≡ Some v → (if t then Some p.1 else value_of x (b ++ c)) ≡ Some v
    by true k h = h
    by false k h = k h

pub value_behind : (b c : Bindings) (x : Name) → value_of x b ≡ None → value_of x (b ++ c) ≡ value_of x c
value_behind [] c x e = refl
value_behind (p ∷ b) c x e = by (p.0.index == x.index) (λ h. value_behind b c x h) e
  where
    by : (t : Bool) → (value_of x b ≡ None → value_of x (b ++ c) ≡ value_of x c) → (if t then Some p.1 else value_of x b) ≡ None → (if t then Some p.1 else value_of x (b ++ c)) ≡ value_of x c
    by true k h = absurd cc
    by false k h = k h

-- of a set
pub value_filter : (set : NameSet) (b : Bindings) (x : Name) → value_of x (filter (λ p. set p.0.index) b) ≡ (if set x.index then value_of x b else None)
value_filter set [] x = by (set x.index)
  where
    by : (t : Bool) → ◌≡◌ {A = Option Value} None (if t then None else None)
    by true = refl
    by false = refl
value_filter set (p ∷ b) x = by (p.0.index == x.index) refl (set p.0.index) refl (value_filter set b x)
  where
    by : (t : Bool) → (p.0.index == x.index) ≡ t → (u : Bool) → set p.0.index ≡ u → value_of x (filter (λ q. set q.0.index) b) ≡ (if set x.index then value_of x b else None) →
        value_of x (cond u (p ∷ filter (λ q. set q.0.index) b) (filter (λ q. set q.0.index) b)) ≡ (if set x.index then (if t then Some p.1 else value_of x b) else None)
    by true e true is rest = ap (λ t. if t then Some p.1 else value_of x (filter (λ q. set q.0.index) b)) e ∙ sym (ap (λ t. if t then Some p.1 else None) (ap (λ (n : Name). set n.index) (sym (same_name p.0 x e)) ∙ is))
    by true e false is rest =
        let out : set x.index ≡ false = ap (λ (n : Name). set n.index) (sym (same_name p.0 x e)) ∙ is in
        rest ∙ ap (λ t. if t then value_of x b else None) out ∙ sym (ap (λ t. if t then Some p.1 else None) out)
    by false e true is rest = ap (λ t. if t then Some p.1 else value_of x (filter (λ q. set q.0.index) b)) e ∙ rest
    by false e false is rest = rest

-- names of a set that are bound inside are bound where they are kept
pub kept_follows : (set : NameSet) (b c : Bindings) → Follows b set c → Follows b set (kept set c b)
kept_follows set b c p = record { stays = λ n q. (q.0, value_front b (filter (λ x. set x.0.index) c) n q.0 q.1); covers = λ n is. by n is (p.covers n is) (value_of n b) refl }
  where
    by : (n : Name) → set n.index ≡ true → IsBoundTo n c → (o : Option Value) → value_of n b ≡ o → IsBoundTo n (kept set c b)
    by n is q (Some v) e = (v, value_front b (filter (λ x. set x.0.index) c) n v e)
    by n is q None e = (q.0, value_behind b (filter (λ x. set x.0.index) c) n e ∙ value_filter set c n ∙ ap (λ t. if t then value_of n c else None) is ∙ q.1)

-- ---- what a match binds

-- a part that is there, and what is done with it
some_parts : {A B : Type 0} (o : Option A) (go : A → Option B) (d : B) → with_some o go ≡ Some d → (a : A) × (o ≡ Some a) × (go a ≡ Some d)
some_parts None go d p = absurd cc
some_parts (Some a) go d p = (a, refl, p)

compared_same : (u v : Value) (b c : Bindings) → compared u v b ≡ Some c → b ≡ c
compared_same u v b c p = by (same_value u v) p
  where
    by : (t : Bool) → (if t then Some b else None) ≡ Some c → b ≡ c
    by true e = cc
    by false e = absurd cc

compared_follows : (u v : Value) (b c : Bindings) → compared u v b ≡ Some c → Follows b no_names c
compared_follows u v b c p = subst (λ z. Follows b no_names z) (compared_same u v b c p) (nothing b)

bound_follows : (n : Name) (v : Value) (b : Bindings) → Follows b (one_name n) ((n, v) ∷ b)
bound_follows n v b = record { stays = λ m p. by (n.index == m.index) m p; covers = λ m e. (v, ap (λ t. if t then Some v else value_of m b) e) }
  where
    by : (t : Bool) (m : Name) → IsBoundTo m b → (u : Value) × ((if t then Some v else value_of m b) ≡ Some u)
    by true m p = (v, refl)
    by false m p = p

name_follows : (n : Name) (o : Option Value) (v : Value) (b c : Bindings) → value_of n b ≡ o → match_name n o v b ≡ Some c → Follows b (one_name n) c
name_follows n None v b c is p = subst (λ z. Follows b (one_name n) z) (let same : (n, v) ∷ b ≡ c = cc in same) (bound_follows n v b)
name_follows n (Some u) v b c is p = subst (λ z. Follows b (one_name n) z) (compared_same u v b c p) (follows_refl b n (u, is))

-- the end of a list binds nothing
closed : {b c : Bindings} {s : NameSet} → Follows b (union s no_names) c → Follows b s c
closed {b} {c} {s} p = record { stays = p.stays; covers = λ n e. p.covers n (ap (λ x. x || false) e) }

module _ (all : Texts) where
  mutual
    pub tree_follows : (p : Tree) (v : Value) (b c : Bindings) → matches all p v b ≡ Some c → Follows b (names p) c
    tree_follows (tree p e) v b c is = shape_follows e v b c is

    shape_follows : (e : Shape) (v : Value) (b c : Bindings) → matches_shape all e v b ≡ Some c → Follows b (shape_names e) c
    shape_follows (int i) v b c is = compared_follows (Integer i) v b c is
    shape_follows (atom n) v b c is = compared_follows (Atom (text all n)) v b c is
    shape_follows (var n) v b c is = name_follows n (value_of n b) v b c refl is
    shape_follows any v b c is = subst (λ z. Follows b no_names z) (let same : b ≡ c = cc in same) (nothing b)
    shape_follows (list es) v b c is =
        let i = some_parts (match_items all es v b) (λ r. compared Nil r.0 r.1) c is in
        closed (follows_trans (items_follow es v b i.0 i.1) (compared_follows Nil i.0.0 i.0.1 c i.2))
    shape_follows (list_to es e) v b c is =
        let i = some_parts (match_items all es v b) (λ r. matches all e r.0 r.1) c is in
        follows_trans (items_follow es v b i.0 i.1) (tree_follows e i.0.0 i.0.1 c i.2)
    shape_follows (tuple es) v b c is =
        let i = some_parts (elements v) (λ vs. match_values all es vs b) c is in
        all_follows es i.0 b c i.2
    shape_follows _ v b c is = absurd cc

    items_follow : (ps : Trees) (v : Value) (b : Bindings) (r : Value × Bindings) → match_items all ps v b ≡ Some r → Follows b (all_names ps) r.1
    items_follow end v b r is = subst (λ (z : Value × Bindings). Follows b no_names z.1) (let same : (v, b) ≡ r = cc in same) (nothing b)
    items_follow (more p ps) v b r is =
        let i = some_parts (head_and_tail v) (λ c. with_some (matches all p c.0 b) (λ d. match_items all ps c.1 d)) r is in
        let j = some_parts (matches all p i.0.0 b) (λ d. match_items all ps i.0.1 d) r i.2 in
        follows_trans (tree_follows p i.0.0 b j.0 j.1) (items_follow ps i.0.1 j.0 r j.2)

    pub all_follows : (ps : Trees) (vs : Values) (b c : Bindings) → match_values all ps vs b ≡ Some c → Follows b (all_names ps) c
    all_follows end none b c is = subst (λ z. Follows b no_names z) (let same : b ≡ c = cc in same) (nothing b)
    all_follows end (some v vs) b c is = absurd cc
    all_follows (more p ps) none b c is = absurd cc
    all_follows (more p ps) (some v vs) b c is =
        let i = some_parts (matches all p v b) (λ d. match_values all ps vs d) c is in
        follows_trans (tree_follows p v b i.0 i.1) (all_follows ps vs i.0 c i.2)
