-- The rows that are opened ahead: to choose one of them is to make several moves at once.
use Rattle.std.proofs.Common.{◌≡◌, ℕ, zero, suc, ◌<◌, Bool, true, false, cond, List, [], ◌∷◌, ◌++◌, Option, Some, None, refl, sym, ap, ◌∙◌, arith, subst}
use Rattle.std.specs.Prelude.{bit_and}
use Rattle.std.proofs.lemmas.List.{append_assoc}
use Rattle.ef_grammar.specs.Grammar.{Symbol, Token, Rule, Act, Grammar, Among, first, later, has}
use Rattle.ef_grammar.specs.Table.{Row, Table, chosen, rights, weight, before, opened_row, opened_once, opened, opened_rows, IsSound}
use Rattle.ef_grammar.specs.Reads.{Fits, Alike, Fails}
use Rattle.ef_grammar.proofs.Choice.{ends, chosen_is, chosen_of, chosen_fits, chosen_lighter}
use Rattle.ef_grammar.proofs.Sets.{both_have, one_has, other_has}
use Rattle.ef_grammar.proofs.Steps.{alike_then, alike_fails, alike_rule, fails_rule, Keeps}

in_first : {X : Type 0} (x : X) (xs ys : List X) → Among x xs → Among x (xs ++ ys)
in_first x xs ys (first zs) = first (zs ++ ys)
in_first x xs ys (later y zs m) = later y (zs ++ ys) (in_first x zs ys m)

in_second : {X : Type 0} (x : X) (xs ys : List X) → Among x ys → Among x (xs ++ ys)
in_second x [] ys m = m
in_second x (z ∷ xs) ys m = later z (xs ++ ys) (in_second x xs ys m)

in_either : {X : Type 0} (P : Type 0) (x : X) (xs ys : List X) → (Among x xs → P) → (Among x ys → P) → Among x (xs ++ ys) → P
in_either P x [] ys h k m = k m
in_either P x (z ∷ xs) ys h k (first zs) = h (first xs)
in_either P x (z ∷ xs) ys h k (later y zs m) = in_either P x xs ys (λ n. h (later z xs n)) k m

module _ {R A : Type 0} (t : Table R A) where
  before_of : (s : ℕ) (α : List (Symbol R A)) (rs : List (Row R A)) (r : Row R A) → Among r (before t s α rs)
      → (q : Row R A) × Among q rs × (r.at ≡ bit_and s q.at) × (r.right ≡ q.right ++ α)
  before_of s α [] r m = elim m [ ]
  before_of s α (q ∷ rs) r (first zs) = (q, first rs, refl, refl)
  before_of s α (q ∷ rs) r (later y zs m) = let o = before_of s α rs r m in (o.0, later q rs o.1, o.2, o.3)

  before_in : (s : ℕ) (α : List (Symbol R A)) (q : Row R A) (rs : List (Row R A)) → Among q rs → Among (record { at = bit_and s q.at; right = q.right ++ α }) (before t s α rs)
  before_in s α q rs (first zs) = first (before t s α zs)
  before_in s α q rs (later y zs m) = later _ (before t s α zs) (before_in s α q zs m)

  none_chosen : (c : ℕ) (rs : List (Row R A)) → ((r : Row R A) → Among r rs → has r.at c ≡ true → ⊥) → chosen rs c ≡ None
  none_chosen c [] h = refl
  none_chosen c (r ∷ rs) h = skipped (has r.at c) refl (none_chosen c rs (λ q m. h q (later r rs m)))
    where
      skipped : (b : Bool) → has r.at c ≡ b → chosen rs c ≡ None → chosen (r ∷ rs) c ≡ None
      skipped true e n = absurd (h r (first rs) e)
      skipped false e n = ap (λ b. cond b (Some r.right) (chosen rs c)) e ∙ n

  some_none : (β : List (Symbol R A)) → Some β ≡ None → ⊥
  some_none β p = cc

  rest_none : (b : Bool) (β : List (Symbol R A)) (o : Option (List (Symbol R A))) → cond b (Some β) o ≡ None → o ≡ None
  rest_none true β o p = absurd (some_none β p)
  rest_none false β o p = p

  chosen_none : (c : ℕ) (r : Row R A) (rs : List (Row R A)) → chosen rs c ≡ None → Among r rs → has r.at c ≡ true → ⊥
  chosen_none c r rs e (first zs) h = some_none r.right (sym (ap (λ b. cond b (Some r.right) (chosen zs c)) h) ∙ e)
  chosen_none c r rs e (later y zs m) h = chosen_none c r zs (rest_none (has y.at c) y.right (chosen zs c) e) m h

module _ {T V R A : Type 0} (g : Grammar T V R A) (t : Table R A) (sound : IsSound t) (rows_are : (n : R) → rights (t.rows n) ≡ g.rules n) (c : ℕ) where
  -- before a token of this class the right side stands for the rule
  abbrev pub Goes : R → List (Symbol R A) → Type 0
  Goes n β =
      ((α : List (Symbol R A)) (s : ℕ) → Fits t (Rule n ∷ α) s → Fits t (β ++ α) s)
      × ((α : List (Symbol R A)) → weight t (β ++ α) < weight t (Rule n ∷ α))
      × ((α : List (Symbol R A)) (vs : V) → Fits t (Rule n ∷ α) (ends t sound g rows_are) → Alike g c (Rule n ∷ α) vs (β ++ α) vs)

  -- the rule comes to nothing
  abbrev pub Halts : R → Type 0
  Halts n = (α : List (Symbol R A)) (vs : V) → Fits t (Rule n ∷ α) (ends t sound g rows_are) → Fails g c (Rule n ∷ α) vs

  abbrev pub None_has : List (Row R A) → Type 0
  None_has rs = (r : Row R A) → Among r rs → has r.at c ≡ true → ⊥

  -- these rows serve for the rule
  abbrev pub Serve : R → List (Row R A) → Type 0
  Serve n rs = ((r : Row R A) → Among r rs → has r.at c ≡ true → Goes n r.right) × (None_has rs → Halts n)

  own_rows : (n : R) → Serve n (t.rows n)
  own_rows n = (goes_on, λ h α vs f. fails_rule g t sound rows_are c n α vs (none_chosen t c (t.rows n) h) f)
    where
      goes_on : (r : Row R A) → Among r (t.rows n) → has r.at c ≡ true → Goes n r.right
      goes_on r m h =
          let e : chosen (t.rows n) c ≡ Some r.right = chosen_is t n r c (t.rows n) (sound n) m h in (
            λ α s f. chosen_fits t sound n r.right α s c e f,
            λ α. chosen_lighter t sound n r.right α c e,
            λ α vs f. alike_rule g t sound rows_are c n r.right α vs e f,
          )

  goes_then : (n m : R) (β γ : List (Symbol R A)) → Goes n (Rule m ∷ γ) → Goes m β → Goes n (β ++ γ)
  goes_then n m β γ h k = (
    λ α s f. subst (λ z. Fits t z s) (sym (append_assoc β γ α)) (k.0 (γ ++ α) s (h.0 α s f)),
    λ α. subst (λ z. weight t z < weight t (Rule n ∷ α)) (sym (append_assoc β γ α)) (lighter α (k.1 (γ ++ α)) (h.1 α)),
    λ α vs f.
        subst (λ z. Alike g c (Rule n ∷ α) vs z vs) (sym (append_assoc β γ α))
        (alike_then g c (Rule n ∷ α) (Rule m ∷ (γ ++ α)) (β ++ (γ ++ α)) vs vs vs (h.2 α vs f) (k.2 (γ ++ α) vs (h.0 α (ends t sound g rows_are) f))),
  )
    where
      lighter : (α : List (Symbol R A)) → weight t (β ++ (γ ++ α)) < weight t (Rule m ∷ (γ ++ α)) → weight t (Rule m ∷ (γ ++ α)) < weight t (Rule n ∷ α)
          → weight t (β ++ (γ ++ α)) < weight t (Rule n ∷ α)
      lighter α p q = omega (arith, p, q)

  row_goes : (n : R) (s : ℕ) (α : List (Symbol R A)) → (has s c ≡ true → Goes n α) → (r : Row R A) → Among r (opened_row t s α) → has r.at c ≡ true → Goes n r.right
  row_goes n s [] h r (first zs) e = h e
  row_goes n s [] h r (later y zs m) e = elim m [ ]
  row_goes n s (Token k ∷ α) h r (first zs) e = h e
  row_goes n s (Token k ∷ α) h r (later y zs m) e = elim m [ ]
  row_goes n s (Act a ∷ α) h r (first zs) e = h e
  row_goes n s (Act a ∷ α) h r (later y zs m) e = elim m [ ]
  row_goes n s (Rule m ∷ α) h r among e =
      let o = before_of t s α (t.rows m) r among in
      let both : has (bit_and s o.0.at) c ≡ true = subst (λ z. has z c ≡ true) o.2 e in
      subst (Goes n) (sym o.3) (goes_then n m o.0.right α (h (one_has s o.0.at c both)) ((own_rows m).0 o.0 o.1 (other_has s o.0.at c both)))

  row_halts : (n : R) (s : ℕ) (α : List (Symbol R A)) → has s c ≡ true → Goes n α → None_has (opened_row t s α) → Halts n
  row_halts n s [] e h none = absurd (none (record { at = s; right = [] }) (first []) e)
  row_halts n s (Token k ∷ α) e h none = absurd (none (record { at = s; right = Token k ∷ α }) (first []) e)
  row_halts n s (Act a ∷ α) e h none = absurd (none (record { at = s; right = Act a ∷ α }) (first []) e)
  row_halts n s (Rule m ∷ α) e h none = λ β vs f.
      let stuck : Halts m = (own_rows m).1 (λ q among k. none _ (before_in t s α q (t.rows m) among) (both_have s q.at c e k)) in
      alike_fails g c (Rule n ∷ β) (Rule m ∷ (α ++ β)) vs vs (h.2 β vs f) (stuck (α ++ β) vs (h.0 β (ends t sound g rows_are) f))

  once_goes : (n : R) (rs : List (Row R A)) → ((r : Row R A) → Among r rs → has r.at c ≡ true → Goes n r.right) → (r : Row R A) → Among r (opened_once t rs) → has r.at c ≡ true → Goes n r.right
  once_goes n [] h r m e = elim m [ ]
  once_goes n (q ∷ rs) h r m e =
      in_either (Goes n r.right) r (opened_row t q.at q.right) (opened_once t rs) (λ x. row_goes n q.at q.right (h q (first rs)) r x e)
      (λ x. once_goes n rs (λ p y. h p (later q rs y)) r x e) m

  once_halts : (n : R) (rs : List (Row R A)) → ((r : Row R A) → Among r rs → has r.at c ≡ true → Goes n r.right) → (None_has rs → Halts n) → None_has (opened_once t rs) → Halts n
  once_halts n [] h k none = k (λ r m. elim m [ ])
  once_halts n (q ∷ rs) h k none =
      by (has q.at c) refl (λ e. once_halts n rs (λ r m. h r (later q rs m)) (λ lack. k (others e lack)) (λ r m. none r (in_second r (opened_row t q.at q.right) (opened_once t rs) m)))
    where
      unlike : (b : Bool) → b ≡ true → b ≡ false → ⊥
      unlike b x y = cc

      others : has q.at c ≡ false → None_has rs → None_has (q ∷ rs)
      others e lack r (first zs) p = unlike (has q.at c) p e
      others e lack r (later y zs m) p = lack r m p

      by : (b : Bool) → has q.at c ≡ b → (has q.at c ≡ false → Halts n) → Halts n
      by true e rest = row_halts n q.at q.right e (h q (first rs) e) (λ r m. none r (in_first r (opened_row t q.at q.right) (opened_once t rs) m))
      by false e rest = rest e

  opened_serve : (n : R) (k : ℕ) (rs : List (Row R A)) → Serve n rs → Serve n (opened t k rs)
  opened_serve n zero rs h = h
  opened_serve n (suc k) rs h = opened_serve n k (opened_once t rs) (once_goes n rs h.0, once_halts n rs h.0 h.1)

  goes_chosen : (n : R) (β : List (Symbol R A)) → chosen (opened_rows t n) c ≡ Some β → Goes n β
  goes_chosen n β e =
      let r = chosen_of t (opened_rows t n) c β e in
      subst (Goes n) r.2 ((opened_serve n (t.ahead n) (t.rows n) (own_rows n)).0 r.0 r.1 r.3)

  halts_chosen : (n : R) → chosen (opened_rows t n) c ≡ None → Halts n
  halts_chosen n e = (opened_serve n (t.ahead n) (t.rows n) (own_rows n)).1 (λ r m. chosen_none t c r (opened_rows t n) e m)

  pub opened_lighter : (n : R) (β α : List (Symbol R A)) → chosen (opened_rows t n) c ≡ Some β → weight t (β ++ α) < weight t (Rule n ∷ α)
  opened_lighter n β α e = (goes_chosen n β e).1 α

  module _ (α₀ : List (Symbol R A)) (vs₀ : V) where
    pub keeps_rule : (n : R) (γ α β : List (Symbol R A)) (vs : V) → Keeps g t sound rows_are c α₀ vs₀ β vs → β ≡ Rule n ∷ α → chosen (opened_rows t n) c ≡ Some γ
        → Keeps g t sound rows_are c α₀ vs₀ (γ ++ α) vs
    keeps_rule n γ α β vs kept top e =
        let k : Keeps g t sound rows_are c α₀ vs₀ (Rule n ∷ α) vs = subst (λ z. Keeps g t sound rows_are c α₀ vs₀ z vs) top kept in
        let to = goes_chosen n γ e in (
          to.0 α (ends t sound g rows_are) k.0,
          alike_then g c α₀ (Rule n ∷ α) (γ ++ α) vs₀ vs vs k.1 (to.2 α vs k.0),
        )

    pub stops_rule : (n : R) (α β : List (Symbol R A)) (vs : V) → Keeps g t sound rows_are c α₀ vs₀ β vs → β ≡ Rule n ∷ α → chosen (opened_rows t n) c ≡ None → Fails g c α₀ vs₀
    stops_rule n α β vs kept top e =
        let k : Keeps g t sound rows_are c α₀ vs₀ (Rule n ∷ α) vs = subst (λ z. Keeps g t sound rows_are c α₀ vs₀ z vs) top kept in
        alike_fails g c α₀ (Rule n ∷ α) vs₀ vs k.1 (halts_chosen n e α vs k.0)
