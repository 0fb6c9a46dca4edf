-- A run of the parser over the tokens.
use Rattle.std.proofs.Common.{◌≡◌, ℕ, zero, suc, ◌+◌, ◌<◌, ◌≤◌, Bool, true, false, List, [], ◌∷◌, ◌++◌, take, drop, length, get_or, refl, sym, ap, ◌∙◌, arith, subst}
use Rattle.std.proofs.lemmas.List.{append_assoc, append-nil, take-append-drop, take_more, drop_more}
use Rattle.ef_grammar.specs.Grammar.{Symbol, Rule, Grammar, Leads, done, token, acted, ruled, Begins, there, takes, acts, goes, has, one}
use Rattle.ef_grammar.specs.Table.{Table}
use Rattle.ef_grammar.specs.Answers.{is_empty, Spells, Same, LooksPast, Stops, IsRefusedAt}
use Rattle.ef_grammar.specs.Reads.{Fits, Ends, Alike, Fails, IsNext, Comes, Stuck}
use Rattle.ef_grammar.specs.declared.moves.Next.{Next}
use Rattle.ef_grammar.specs.declared.moves.Next.TheVariants as next_is
use Rattle.ef_grammar.proofs.Sets.{one_within}
use Rattle.ef_grammar.proofs.Steps.{done_is}

drop_past : {X : Type 0} (xs : List X) (i : ℕ) → length xs ≤ i → drop i xs ≡ []
drop_past [] zero h = refl
drop_past [] (suc i) h = refl
drop_past (x ∷ xs) zero h = absurd (omega (arith, h))
drop_past (x ∷ xs) (suc i) h = drop_past xs i (omega (arith, h))

drop_left : {X : Type 0} (xs : List X) (i : ℕ) → i < length xs → is_empty (drop i xs) ≡ false
drop_left [] i h = absurd (omega (arith, h))
drop_left (x ∷ xs) zero h = refl
drop_left (x ∷ xs) (suc i) h = drop_left xs i (omega (arith, h))

is_nothing : {X : Type 0} (xs : List X) → is_empty xs ≡ true → xs ≡ []
is_nothing [] e = refl
is_nothing (x ∷ xs) e = absurd (cc)

take_less : {X : Type 0} (k : ℕ) (xs ys : List X) → take (suc k) xs ≡ take (suc k) ys → take k xs ≡ take k ys
take_less zero xs ys e = refl
take_less (suc k) [] [] e = refl
take_less (suc k) [] (y ∷ ys) e = absurd (cc)
take_less (suc k) (x ∷ xs) [] e = absurd (cc)
take_less (suc k) (x ∷ xs) (y ∷ ys) e = rw (heads e, take_less k xs ys (tails e)) refl
  where
    heads : x ∷ take (suc k) xs ≡ y ∷ take (suc k) ys → x ≡ y
    heads p = cc

    tails : x ∷ take (suc k) xs ≡ y ∷ take (suc k) ys → take (suc k) xs ≡ take (suc k) ys
    tails p = cc

take_behind : {X : Type 0} (k : ℕ) (before us rest : List X) → take k us ≡ take k rest → take k (before ++ us) ≡ take k (before ++ rest)
take_behind k [] us rest e = e
take_behind zero (x ∷ before) us rest e = refl
take_behind (suc k) (x ∷ before) us rest e = ap (λ z. x ∷ z) (take_behind k before us rest (take_less k us rest e))

module _ {T V R A : Type 0} (g : Grammar T V R A) where
  same_all : (before rest : List T) → Same g before rest rest
  same_all [] rest = (refl, refl)
  same_all (t ∷ before) rest = (refl, same_all before rest)

  same_next : (before us rest : List T) → Same g before us rest → (is_empty us ≡ is_empty rest) × (g.look us ≡ g.look rest)
  same_next [] us rest s = s
  same_next (t ∷ before) us rest s = same_next before us rest s.1

  same_one : (before us rest : List T) (t : T) → Same g (before ++ t ∷ []) us rest → Same g before (t ∷ us) (t ∷ rest)
  same_one [] us rest t s = (refl, s.0)
  same_one (x ∷ before) us rest t s = (
    ap (λ z. g.look (x ∷ z)) (sym (append_assoc before (t ∷ []) us)) ∙ s.0 ∙ ap (λ z. g.look (x ∷ z)) (append_assoc before (t ∷ []) rest),
    same_one before us rest t s.1,
  )

  near_empty : (k : ℕ) (us rest : List T) → take (suc k) us ≡ take (suc k) rest → is_empty us ≡ is_empty rest
  near_empty k [] [] e = refl
  near_empty k [] (y ∷ rest) e = absurd (cc)
  near_empty k (x ∷ us) [] e = absurd (cc)
  near_empty k (x ∷ us) (y ∷ rest) e = refl

  near_same : (k : ℕ) → LooksPast g k → (before us rest : List T) → take (suc k) us ≡ take (suc k) rest → Same g before us rest
  near_same k h [] us rest e = (near_empty k us rest e, h us rest e)
  near_same k h (t ∷ before) us rest e = (h (t ∷ before ++ us) (t ∷ before ++ rest) (take_behind (suc k) (t ∷ before) us rest e), near_same k h before us rest e)

  -- ---- all the tokens

  pub to_begins : (α : List (Symbol R A)) (vs : V) (ts : List T) (ws : V) → Leads g α vs ts ws → Begins g [] α vs ts [] ws
  to_begins α vs ts ws (done us) = there [] us
  to_begins α vs ts ws (token s β us t xs zs e h) = takes s β [] us t xs zs (ap (λ z. has s (g.look (t ∷ z))) (append-nil xs) ∙ e) (to_begins β (g.push t us) xs zs h)
  to_begins α vs ts ws (acted a β us us' xs zs e h) = acts a β [] us us' xs zs e (to_begins β us' xs zs h)
  to_begins α vs ts ws (ruled n γ β us xs zs m h) = goes n γ β [] us xs zs m (to_begins (γ ++ β) us xs zs h)

  to_leads : (α : List (Symbol R A)) (vs : V) (ts : List T) (δ : List (Symbol R A)) (ws : V) → Begins g [] α vs ts δ ws → δ ≡ [] → Leads g α vs ts ws
  to_leads α vs ts δ ws (there β us) e = subst (λ z. Leads g z us [] us) (sym e) (done us)
  to_leads α vs ts δ ws (takes s β η us t xs zs h k) e = token s β us t xs zs (ap (λ z. has s (g.look (t ∷ z))) (sym (append-nil xs)) ∙ h) (to_leads β (g.push t us) xs η zs k e)
  to_leads α vs ts δ ws (acts a β η us us' xs zs h k) e = acted a β us us' xs zs h (to_leads β us' xs η zs k e)
  to_leads α vs ts δ ws (goes n γ β η us xs zs m k) e = ruled n γ β us xs zs m (to_leads (γ ++ β) us xs η zs k e)

  pub ends_all : (us : List T) → Ends g us [] []
  ends_all [] = (refl, refl)
  ends_all (x ∷ us) = tt

  module _ (table : Table R A) (n₀ : R) (v₀ : V) (ts : List T) where
    -- where the run stands
    abbrev pub At : ℕ → List (Symbol R A) → V → Type 0
    At at α v = (at ≤ length ts) × Fits table α (one (g.look [])) × Comes g (Rule n₀ ∷ []) v₀ ts at α v

    pub begins : has (table.behind n₀) (g.look []) ≡ true → At 0 (Rule n₀ ∷ []) v₀
    begins e = (omega arith, ((λ i h. one_within (g.look []) i (table.behind n₀) e h), tt), λ rest us δ w s. (λ h. h, λ h. h))

    pub taken : (at : ℕ) (α β : List (Symbol R A)) (v w : V) (t : T) → At at α v → IsNext g table (g.look (drop at ts)) α v next_is.Take β w → at < length ts → t ≡ get_or ts at t
        → At (at + 1) β (g.push t w)
    taken at α β v w t h n within is = (omega (arith, within), n.2, comes)
      where
        before : take (at + 1) ts ≡ take at ts ++ t ∷ []
        before = take_more ts at t within ∙ ap (λ z. take at ts ++ z ∷ []) (sym is)

        here : drop at ts ≡ t ∷ drop (at + 1) ts
        here = drop_more ts at t within ∙ ap (λ z. z ∷ drop (at + 1) ts) (sym is)

        comes : Comes g (Rule n₀ ∷ []) v₀ ts (at + 1) β (g.push t w)
        comes rest us δ u same =
            let wide : Same g (take at ts) (t ∷ us ++ rest) (drop at ts) =
            subst (λ z. Same g (take at ts) (t ∷ us ++ rest) z) (sym here)
            (same_one (take at ts) (us ++ rest) (drop (at + 1) ts) t (subst (λ z. Same g z (us ++ rest) (drop (at + 1) ts)) before same)) in
            let whole : take (at + 1) ts ++ us ≡ take at ts ++ t ∷ us = ap (λ z. z ++ us) before ∙ append_assoc (take at ts) (t ∷ []) us in
            let old = h.2 rest (t ∷ us) δ u wide in
            let step = n.0 t us rest δ u (same_next (take at ts) (t ∷ us ++ rest) (drop at ts) wide).1 in (
              λ x. step.0 (old.0 (subst (λ z. Begins g rest (Rule n₀ ∷ []) v₀ z δ u) whole x)),
              λ x. subst (λ z. Begins g rest (Rule n₀ ∷ []) v₀ z δ u) (sym whole) (old.1 (step.1 x)),
            )

    stopped : (at : ℕ) (α : List (Symbol R A)) (v : V) → At at α v → Stuck g (Rule n₀ ∷ []) v₀ ts at → IsRefusedAt g n₀ v₀ ts at
    stopped at α v h stuck = (h.0, (α, v, comes_to), λ t rest same β w x. stuck rest (t ∷ []) β w same tt x, stops, near, all)
      where
        comes_to : Begins g (drop at ts) (Rule n₀ ∷ []) v₀ (take at ts) α v
        comes_to =
            subst (λ z. Begins g (drop at ts) (Rule n₀ ∷ []) v₀ z α v) (append-nil (take at ts))
            ((h.2 (drop at ts) [] α v (same_all (take at ts) (drop at ts))).1 (there α v))

        stops : Stops g n₀ v₀ ts at
        stops us same w x =
            stuck [] us [] w (subst (λ z. Same g (take at ts) z (drop at ts)) (sym (append-nil us)) same) (ends_all us) (to_begins (Rule n₀ ∷ []) v₀ (take at ts ++ us) w x)

        near : (k : ℕ) → LooksPast g k → (us : List T) → take (suc k) us ≡ take (suc k) (drop at ts) → (w : V) → Spells g n₀ v₀ (take at ts ++ us) w → ⊥
        near k sees us e w x = stops us (near_same k sees (take at ts) us (drop at ts) e) w x

        all : (w : V) → Spells g n₀ v₀ ts w → ⊥
        all w x = stops (drop at ts) (same_all (take at ts) (drop at ts)) w (subst (λ z. Leads g (Rule n₀ ∷ []) v₀ z w) (sym (take-append-drop at ts)) x)

    pub refuses : (at : ℕ) (α : List (Symbol R A)) (v : V) → At at α v → Fails g (g.look (drop at ts)) α v → IsRefusedAt g n₀ v₀ ts at
    refuses at α v h n = stopped at α v h (λ rest us δ w same fin x. n rest us δ w (same_next (take at ts) (us ++ rest) (drop at ts) same).1 fin ((h.2 rest us δ w same).0 x))

    -- a token is wanted, and none is left
    pub wants : (at : ℕ) (α β : List (Symbol R A)) (v w : V) → At at α v → IsNext g table (g.look (drop at ts)) α v next_is.Take β w → length ts ≤ at → IsRefusedAt g n₀ v₀ ts at
    wants at α β v w h n past = stopped at α v h stuck
      where
        here : drop at ts ≡ []
        here = drop_past ts at past

        late : (rest us : List T) (δ : List (Symbol R A)) (u : V) → us ++ rest ≡ [] → Ends g us rest δ → Begins g rest α v us δ u → ⊥
        late [] [] δ u e fin x = n.1 (sym (ap g.look here)) u (subst (λ z. Begins g [] α v [] z u) fin.0 x)
        late (y ∷ rest) [] δ u e fin x = cc
        late rest (y ∷ us) δ u e fin x = cc

        stuck : Stuck g (Rule n₀ ∷ []) v₀ ts at
        stuck rest us δ u same fin x =
            let next = same_next (take at ts) (us ++ rest) (drop at ts) same in
            late rest us δ u (is_nothing (us ++ rest) (next.0 ∙ ap is_empty here)) fin ((h.2 rest us δ u same).0 x)

    -- tokens are left
    pub early : (at : ℕ) (α : List (Symbol R A)) (v w : V) → At at α v → Alike g (g.look (drop at ts)) α v [] w → at < length ts → IsRefusedAt g n₀ v₀ ts at
    early at α v w h n left = stopped at α v h stuck
      where
        unlike : (b : Bool) → b ≡ true → b ≡ false → ⊥
        unlike b p q = cc

        none : (rest us : List T) (δ : List (Symbol R A)) → us ≡ [] → Ends g us rest δ → us ++ rest ≡ []
        none rest [] δ e fin = fin.1
        none rest (y ∷ us) δ e fin = absurd (cc)

        stuck : Stuck g (Rule n₀ ∷ []) v₀ ts at
        stuck rest us δ u same fin x =
            let next = same_next (take at ts) (us ++ rest) (drop at ts) same in
            let done = (done_is g rest w us δ u ((n rest us δ u next.1 fin).0 ((h.2 rest us δ u same).0 x))).0 in
            unlike (is_empty (us ++ rest)) (ap is_empty (none rest us δ done fin)) (next.0 ∙ drop_left ts at left)

    pub finishes : (at : ℕ) (α : List (Symbol R A)) (v w : V) → At at α v → Alike g (g.look (drop at ts)) α v [] w → length ts ≤ at
        → Spells g n₀ v₀ ts w × ((u : V) → Spells g n₀ v₀ ts u → u ≡ w)
    finishes at α v w h n past =
        let here : drop at ts ≡ [] = drop_past ts at past in
        let whole : take at ts ++ [] ≡ ts = ap (λ z. take at ts ++ z) (sym here) ∙ take-append-drop at ts in
        let same : Same g (take at ts) [] (drop at ts) = subst (λ z. Same g (take at ts) z (drop at ts)) here (same_all (take at ts) (drop at ts)) in
        let like : g.look [] ≡ g.look (drop at ts) = sym (ap g.look here) in (
          to_leads (Rule n₀ ∷ []) v₀ ts [] w
              (subst (λ z. Begins g [] (Rule n₀ ∷ []) v₀ z [] w) whole ((h.2 [] [] [] w same).1 ((n [] [] [] w like (refl, refl)).1 (there [] w)))) refl,
          λ u x. (done_is g [] w [] [] u ((n [] [] [] u like (refl, refl)).0
              ((h.2 [] [] [] u same).0 (subst (λ z. Begins g [] (Rule n₀ ∷ []) v₀ z [] u) (sym whole) (to_begins (Rule n₀ ∷ []) v₀ ts u x))))).1,
        )

    pub next_as : (c k : ℕ) (α β : List (Symbol R A)) (v w : V) (n m : Next) → k ≡ c → n ≡ m → IsNext g table k α v n β w → IsNext g table c α v m β w
    next_as c k α β v w n m e f h = subst (λ z. IsNext g table z α v m β w) e (subst (λ z. IsNext g table k α v z β w) f h)

    pub at_as : (at : ℕ) (α β : List (Symbol R A)) (v w : V) → α ≡ β → v ≡ w → At at α v → At at β w
    at_as at α β v w e f h = subst (λ z. At at β z) f (subst (λ z. At at z v) e h)
