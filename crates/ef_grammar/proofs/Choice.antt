-- A sound table chooses the one right side that can come to something.
use Rattle.std.proofs.Common.{◌≡◌, ℕ, ◌+◌, ◌<◌, ◌≤◌, Bool, true, false, ◌&&◌, cond, List, [], ◌∷◌, ◌++◌, Option, Some, refl, sym, ap, ◌∙◌, arith, subst}
use Rattle.std.proofs.lemmas.Bool.{ltb-true}
use Rattle.ef_grammar.specs.Grammar.{Symbol, Token, Rule, Act, Grammar, Among, first, later, Begins, there, takes, acts, goes, has, one}
use Rattle.ef_grammar.specs.Table.{Row, Table, chosen, at_any, rights, leading, fits, weight, is_fit, are_fit, IsSound}
use Rattle.ef_grammar.specs.Reads.{Within, Fits, Ends}
use Rattle.ef_grammar.proofs.Sets.{within_is, apart_is, one_side, other_side, own_is}

pub and_left : (a b : Bool) → (a && b) ≡ true → a ≡ true
and_left true b e = refl
and_left false b e = e

pub and_right : (a b : Bool) → (a && b) ≡ true → b ≡ true
and_right true b e = e
and_right false b e = absurd (cc)

module _ {R A : Type 0} (t : Table R A) where
  leading_more : (β α : List (Symbol R A)) (s : ℕ) → leading t (β ++ α) s ≡ leading t β (leading t α s)
  leading_more [] α s = refl
  leading_more (Token c ∷ β) α s = refl
  leading_more (Rule n ∷ β) α s = refl
  leading_more (Act a ∷ β) α s = leading_more β α s

  leading_within : (β : List (Symbol R A)) (r s : ℕ) → Within r s → Within (leading t β r) (leading t β s)
  leading_within [] r s h = h
  leading_within (Token c ∷ β) r s h = λ i e. e
  leading_within (Rule n ∷ β) r s h = λ i e. e
  leading_within (Act a ∷ β) r s h = leading_within β r s h

  fits_is : (β : List (Symbol R A)) (s : ℕ) → fits t β s ≡ true → Fits t β s
  fits_is [] s e = tt
  fits_is (Token c ∷ β) s e = fits_is β s e
  fits_is (Rule n ∷ β) s e = (λ i. within_is (leading t β s) (t.behind n) i (and_left _ _ e), fits_is β s (and_right _ _ e))
  fits_is (Act a ∷ β) s e = fits_is β s e

  fits_more : (β α : List (Symbol R A)) (r s : ℕ) → Fits t β r → Within (leading t α s) r → Fits t α s → Fits t (β ++ α) s
  fits_more [] α r s f h g = g
  fits_more (Token c ∷ β) α r s f h g = fits_more β α r s f h g
  fits_more (Rule n ∷ β) α r s f h g =
      (λ i e. f.0 i (leading_within β (leading t α s) r h i (subst (λ z. has z i ≡ true) (leading_more β α s) e)), fits_more β α r s f.1 h g)
  fits_more (Act a ∷ β) α r s f h g = fits_more β α r s f h g

  weight_more : (β α : List (Symbol R A)) → weight t (β ++ α) ≤ weight t β + weight t α
  weight_more [] α = omega arith
  weight_more (Token c ∷ β) α = omega arith
  weight_more (Rule n ∷ β) α = omega (arith, weight_more β α)
  weight_more (Act a ∷ β) α = omega (arith, weight_more β α)

  -- ---- the rows

  row_of : (rs : List (Row R A)) (β : List (Symbol R A)) → Among β (rights rs) → (r : Row R A) × Among r rs × (r.right ≡ β)
  row_of [] β h = elim h [ ]
  row_of (r ∷ rs) β (first xs) = (r, first rs, refl)
  row_of (r ∷ rs) β (later y xs h) = let s = row_of rs β h in (s.0, later r rs s.1, s.2)

  right_of : (r : Row R A) (rs : List (Row R A)) → Among r rs → Among r.right (rights rs)
  right_of r rs (first xs) = first (rights xs)
  right_of r rs (later y xs h) = later y.right (rights xs) (right_of r xs h)

  fit_of : (n : R) (r : Row R A) (rs : List (Row R A)) → are_fit t n rs ≡ true → Among r rs → is_fit t n r ≡ true
  fit_of n r rs e (first xs) = and_right _ _ (and_left _ _ e)
  fit_of n r rs e (later y xs h) = fit_of n r xs (and_right _ _ e) h

  at_of : (r : Row R A) (i : ℕ) (rs : List (Row R A)) → Among r rs → has r.at i ≡ true → has (at_any rs) i ≡ true
  at_of r i rs (first xs) h = one_side r.at (at_any xs) i h
  at_of r i rs (later y xs m) h = other_side y.at (at_any xs) i (at_of r i xs m h)

  -- the first at which the class is had
  skips : (b : Bool) (β : List (Symbol R A)) (o : Option (List (Symbol R A))) → (b ≡ true → ⊥) → cond b (Some β) o ≡ o
  skips true β o h = absurd (h refl)
  skips false β o h = refl

  pub chosen_is : (n : R) (r : Row R A) (i : ℕ) (rs : List (Row R A)) → are_fit t n rs ≡ true → Among r rs → has r.at i ≡ true → chosen rs i ≡ Some r.right
  chosen_is n r i rs e (first xs) h = ap (λ z. cond z (Some r.right) (chosen xs i)) h
  chosen_is n r i rs e (later y xs m) h =
      skips (has y.at i) y.right (chosen xs i) (λ k. apart_is y.at (at_any xs) i (and_left _ _ (and_left _ _ e)) k (at_of r i xs m h))
      ∙ chosen_is n r i xs (and_right _ _ e) m h

  pub chosen_of : (rs : List (Row R A)) (i : ℕ) (β : List (Symbol R A)) → chosen rs i ≡ Some β → (r : Row R A) × Among r rs × (r.right ≡ β) × (has r.at i ≡ true)
  chosen_of [] i β e = absurd (cc)
  chosen_of (r ∷ rs) i β e = taken (has r.at i) refl (chosen_of rs i β) e
    where
      taken : (b : Bool) → has r.at i ≡ b → (chosen rs i ≡ Some β → (q : Row R A) × Among q rs × (q.right ≡ β) × (has q.at i ≡ true)) → cond b (Some r.right) (chosen rs i) ≡ Some β
          → (q : Row R A) × Among q (r ∷ rs) × (q.right ≡ β) × (has q.at i ≡ true)
      taken true h k p = (r, first rs, cc, h)
      taken false h k p = let q = k p in (q.0, later r rs q.1, q.2, q.3)

  module _ (sound : IsSound t) where
    row_within : (n : R) (r : Row R A) → Among r (t.rows n) → Within (leading t r.right (t.behind n)) r.at
    row_within n r m = λ i. within_is _ _ i (and_left _ _ (and_left _ _ (fit_of n r (t.rows n) (sound n) m)))

    row_fits : (n : R) (r : Row R A) → Among r (t.rows n) → Fits t r.right (t.behind n)
    row_fits n r m = fits_is r.right (t.behind n) (and_right _ _ (and_left _ _ (fit_of n r (t.rows n) (sound n) m)))

    row_weight : (n : R) (r : Row R A) → Among r (t.rows n) → weight t r.right < t.height n
    row_weight n r m = ltb-true _ _ (and_right _ _ (fit_of n r (t.rows n) (sound n) m))

    pub chosen_fits : (n : R) (β α : List (Symbol R A)) (s : ℕ) (i : ℕ) → chosen (t.rows n) i ≡ Some β → Fits t (Rule n ∷ α) s → Fits t (β ++ α) s
    chosen_fits n β α s i e f =
        let r = chosen_of (t.rows n) i β e in
        fits_more β α (t.behind n) s (subst (λ z. Fits t z (t.behind n)) r.2 (row_fits n r.0 r.1)) f.0 f.1

    pub chosen_lighter : (n : R) (β α : List (Symbol R A)) (i : ℕ) → chosen (t.rows n) i ≡ Some β → weight t (β ++ α) < weight t (Rule n ∷ α)
    chosen_lighter n β α i e =
        let r = chosen_of (t.rows n) i β e in
        let w : weight t β < t.height n = subst (λ z. weight t z < t.height n) r.2 (row_weight n r.0 r.1) in
        omega (arith, w, weight_more β α)

    pub chosen_among : (n : R) (β : List (Symbol R A)) (i : ℕ) → chosen (t.rows n) i ≡ Some β → Among β (rights (t.rows n))
    chosen_among n β i e =
        let r = chosen_of (t.rows n) i β e in
        subst (λ z. Among z (rights (t.rows n))) r.2 (right_of r.0 (t.rows n) r.1)

    module _ {T V : Type 0} (g : Grammar T V R A) (rows_are : (n : R) → rights (t.rows n) ≡ g.rules n) where
      -- the class at the end
      abbrev pub ends : ℕ
      ends = one (g.look [])

      row_among : (n : R) (β : List (Symbol R A)) → Among β (g.rules n) → (r : Row R A) × Among r (t.rows n) × (r.right ≡ β)
      row_among n β h = row_of (t.rows n) β (subst (Among β) (sym (rows_are n)) h)

      row_begins : (n : R) (r : Row R A) (α : List (Symbol R A)) (i : ℕ) → Among r (t.rows n) → Within (leading t α ends) (t.behind n)
          → has (leading t (r.right ++ α) ends) i ≡ true → has r.at i ≡ true
      row_begins n r α i m f e =
          row_within n r m i (leading_within r.right (leading t α ends) (t.behind n) f i (subst (λ z. has z i ≡ true) (leading_more r.right α ends) e))

      -- what they spell begins with a token that may begin it
      pub begins : (rest : List T) (α : List (Symbol R A)) (vs : V) (ts : List T) (δ : List (Symbol R A)) (ws : V) → Begins g rest α vs ts δ ws → Ends g ts rest δ → Fits t α ends
          → has (leading t α ends) (g.look (ts ++ rest)) ≡ true
      begins rest α vs ts δ ws (there β us) fin f =
          subst (λ z. has (leading t z ends) (g.look rest) ≡ true) (sym fin.0) (subst (λ z. has ends (g.look z) ≡ true) (sym fin.1) (own_is (g.look [])))
      begins rest α vs ts δ ws (takes s β η us x xs zs e h) fin f = e
      begins rest α vs ts δ ws (acts a β η us us' xs zs e h) fin f = begins rest β us' xs η zs h fin f
      begins rest α vs ts δ ws (goes n γ β η us xs zs m h) fin f =
          let r = row_among n γ m in
          let fit : Fits t (γ ++ β) ends = fits_more γ β (t.behind n) ends (subst (λ z. Fits t z (t.behind n)) r.2 (row_fits n r.0 r.1)) f.0 f.1 in
          at_of r.0 _ (t.rows n) r.1
          (row_begins n r.0 β _ r.1 f.0 (subst (λ z. has (leading t (z ++ β) ends) (g.look (xs ++ rest)) ≡ true) (sym r.2) (begins rest (γ ++ β) us xs η zs h fin fit)))

      -- the right side that comes to something is the one that is chosen
      pub choice_is : (rest : List T) (n : R) (γ β : List (Symbol R A)) (vs : V) (ts : List T) (δ : List (Symbol R A)) (ws : V) → Among γ (g.rules n) → Fits t (Rule n ∷ β) ends → Ends g ts rest δ
          → Begins g rest (γ ++ β) vs ts δ ws → chosen (t.rows n) (g.look (ts ++ rest)) ≡ Some γ
      choice_is rest n γ β vs ts δ ws m f fin h =
          let r = row_among n γ m in
          let fit : Fits t (γ ++ β) ends = fits_more γ β (t.behind n) ends (subst (λ z. Fits t z (t.behind n)) r.2 (row_fits n r.0 r.1)) f.0 f.1 in
          chosen_is n r.0 _ (t.rows n) (sound n) r.1
          (row_begins n r.0 β _ r.1 f.0 (subst (λ z. has (leading t (z ++ β) ends) (g.look (ts ++ rest)) ≡ true) (sym r.2) (begins rest (γ ++ β) vs ts δ ws h fin fit)))
          ∙ ap Some r.2
