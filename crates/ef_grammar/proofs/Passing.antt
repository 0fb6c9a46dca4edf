-- Symbols that come to nothing, and are passed over.
use Rattle.std.proofs.Common.{◌≡◌, ℕ, zero, suc, ◌<◌, ◌≤◌, length, slice_index_or, Bool, true, false, ◌&&◌, List, [], ◌∷◌, ◌++◌, Option, Some, None, map, refl, sym, ap, ◌∙◌, subst, arith}
use Rattle.std.specs.Prelude.{nat_eq}
use Rattle.std.specs.Int.Bits.{and_zero_l}
use Rattle.std.proofs.lemmas.Bool.{eqb-true}
use Rattle.std.proofs.lemmas.List.{append_assoc}
use Rattle.std.proofs.lemmas.Nat.Bits.{bit_at-zero}
use Rattle.ef_grammar.specs.Grammar.{Symbol, Token, Rule, Act, Grammar, Among, first, later, has}
use Rattle.ef_grammar.specs.Table.{Row, Table, chosen, rights, weight, vanish, nothing_at, of_nothing, IsSound}
use Rattle.ef_grammar.specs.Reads.{Gone, Over}
use Rattle.ef_grammar.specs.Shown.{AllPass, pass_all, symbol, with_next}
use Rattle.ef_grammar.specs.declared.row.Row.{Row as TheRow}
use Rattle.ef_grammar.specs.declared.row.Piece.{Piece}
use Rattle.ef_grammar.proofs.Choice.{and_left, and_right, ends, chosen_is, chosen_fits}
use Rattle.ef_grammar.proofs.Sets.{within_is, either_has}
use Rattle.ef_grammar.proofs.Steps.{alike_then, alike_rule, Keeps}

-- no class is in none
none_in : (s c : ℕ) → nat_eq s 0 ≡ true → has s c ≡ true → ⊥
none_in s c e h = unlike (subst (λ z. nat_eq z 1 ≡ true) (bit_at-zero c) (subst (λ z. has z c ≡ true) (eqb-true s 0 e) h))
  where
    unlike : nat_eq 0 1 ≡ true → ⊥
    unlike p = cc

unlike : (b : Bool) → b ≡ true → b ≡ false → ⊥
unlike b x y = cc

module _ {R A : Type 0} (t : Table R A) where
  pub vanish_tail : (s : ℕ) (x : Symbol R A) (α : List (Symbol R A)) → vanish t s (x ∷ α) ≡ true → vanish t s α ≡ true
  vanish_tail s (Token k) α e = and_right _ _ e
  vanish_tail s (Rule n) α e = and_right _ _ e
  vanish_tail s (Act a) α e = and_right _ _ e

  pub vanish_none : (α : List (Symbol R A)) → vanish t 0 α ≡ true
  vanish_none [] = refl
  vanish_none (Token k ∷ α) = vanish_none α
  vanish_none (Rule n ∷ α) = ap (λ z. nat_eq z 0 && vanish t 0 α) (and_zero_l (nothing_at t (t.rows n))) ∙ vanish_none α
  vanish_none (Act a ∷ α) = vanish_none α

  gone_of : (s c : ℕ) (α : List (Symbol R A)) → vanish t s α ≡ true → has s c ≡ true → Gone t c α
  gone_of s c [] e h = tt
  gone_of s c (Token k ∷ α) e h = absurd (none_in s c (and_left _ _ e) h)
  gone_of s c (Rule n ∷ α) e h = (within_is s (nothing_at t (t.rows n)) c (and_left _ _ e) h, gone_of s c α (and_right _ _ e) h)
  gone_of s c (Act a ∷ α) e h = absurd (none_in s c (and_left _ _ e) h)

  gone_more : (c : ℕ) (α β : List (Symbol R A)) → Gone t c α → Gone t c β → Gone t c (α ++ β)
  gone_more c [] β h k = k
  gone_more c (Token i ∷ α) β h k = elim h [ ]
  gone_more c (Act a ∷ α) β h k = elim h [ ]
  gone_more c (Rule n ∷ α) β h k = (h.0, gone_more c α β h.1 k)

  pub over_none : (c : ℕ) (α : List (Symbol R A)) → Over t c α α
  over_none c α = ([], tt, refl)

  pub pass_before : (ps : List (Piece R A)) (p : Piece R A) → AllPass t (ps ++ p ∷ []) → AllPass t ps × (vanish t p.pass (map symbol p.symbols.now) ≡ true)
  pass_before [] p h = (tt, h.0)
  pass_before (q ∷ ps) p h = let r = pass_before ps p h.1 in ((h.0, r.0), r.1)

  pub pass_behind : (ps : List (Piece R A)) (p : Piece R A) → AllPass t ps → vanish t p.pass (map symbol p.symbols.now) ≡ true → AllPass t (ps ++ p ∷ [])
  pass_behind [] p h e = (e, tt)
  pass_behind (q ∷ ps) p h e = (h.0, pass_behind ps p h.1 e)

  -- of rows, each
  pub pass_at : (rs : List (TheRow R A)) (i : ℕ) (d : TheRow R A) → pass_all t rs ≡ true → i < length rs → (r : TheRow R A) → r ≡ slice_index_or rs i d → vanish t r.then.pass (map symbol r.then.symbols.now) ≡ true
  pass_at rs i d e h r is = subst (λ (q : TheRow R A). vanish t q.then.pass (map symbol q.then.symbols.now) ≡ true) (sym is) (at_index rs i d e h)
    where
      at_index : (qs : List (TheRow R A)) (k : ℕ) (q : TheRow R A) → pass_all t qs ≡ true → k < length qs → vanish t (slice_index_or qs k q).then.pass (map symbol (slice_index_or qs k q).then.symbols.now) ≡ true
      at_index [] k q p l = absurd (omega (arith, l))
      at_index (x ∷ qs) zero q p l = and_left _ _ p
      at_index (x ∷ qs) (suc k) q p l = at_index qs k q (and_right _ _ p) (omega (arith, l))

  pub over_end : (c : ℕ) (α β : List (Symbol R A)) (o : Option (Symbol R A)) → o ≡ None → Over t c α [] → Over t c α (with_next o β)
  over_end c α β o e h = subst (λ z. Over t c α (with_next z β)) (sym e) h

  -- a piece is passed over
  pub over_piece : (c s : ℕ) (α γ β : List (Symbol R A)) → Over t c α (γ ++ β) → vanish t s γ ≡ true → has s c ≡ true → Over t c α β
  over_piece c s α γ β o e h = (o.0 ++ γ, gone_more c o.0 γ o.1 (gone_of s c γ e h), o.2 ∙ sym (append_assoc o.0 γ β))

  nothing_row : (c : ℕ) (rs : List (Row R A)) → has (nothing_at t rs) c ≡ true → (r : Row R A) × Among r rs × (r.right ≡ []) × (has r.at c ≡ true)
  nothing_row c [] h = absurd (none_in 0 c refl h)
  nothing_row c (r ∷ rs) h = by r.right refl (has (of_nothing t r.at r.right) c) refl (nothing_row c rs)
    where
      by : (α : List (Symbol R A)) → r.right ≡ α → (b : Bool) → has (of_nothing t r.at r.right) c ≡ b → (has (nothing_at t rs) c ≡ true → (q : Row R A) × Among q rs × (q.right ≡ []) × (has q.at c ≡ true))
          → (q : Row R A) × Among q (r ∷ rs) × (q.right ≡ []) × (has q.at c ≡ true)
      by [] e true p k = (r, first rs, e, subst (λ z. has (of_nothing t r.at z) c ≡ true) e p)
      by (x ∷ α) e true p k = absurd (none_in 0 c refl (subst (λ z. has (of_nothing t r.at z) c ≡ true) e p))
      by α e false p k =
          let q = k (either_has (of_nothing t r.at r.right) (nothing_at t rs) c h (λ y. unlike (has (of_nothing t r.at r.right) c) y p)) in
          (q.0, later r rs q.1, q.2, q.3)

  weight_over : (c : ℕ) (δ β : List (Symbol R A)) → Gone t c δ → weight t β ≤ weight t (δ ++ β)
  weight_over c [] β h = omega arith
  weight_over c (Token i ∷ δ) β h = elim h [ ]
  weight_over c (Act a ∷ δ) β h = elim h [ ]
  weight_over c (Rule n ∷ δ) β h = omega (arith, weight_over c δ β h.1)

  pub over_lighter : (c : ℕ) (α β : List (Symbol R A)) → Over t c α β → weight t β ≤ weight t α
  over_lighter c α β o = subst (λ z. weight t β ≤ weight t z) (sym o.2) (weight_over c o.0 β o.1)

module _ {T V R A : Type 0} (g : Grammar T V R A) (t : Table R A) (sound : IsSound t) (rows_are : (n : R) → rights (t.rows n) ≡ g.rules n) (c : ℕ) (α₀ : List (Symbol R A)) (vs₀ : V) where
  keeps_gone : (δ β : List (Symbol R A)) (vs : V) → Gone t c δ → Keeps g t sound rows_are c α₀ vs₀ (δ ++ β) vs → Keeps g t sound rows_are c α₀ vs₀ β vs
  keeps_gone [] β vs h k = k
  keeps_gone (Token i ∷ δ) β vs h k = elim h [ ]
  keeps_gone (Act a ∷ δ) β vs h k = elim h [ ]
  keeps_gone (Rule n ∷ δ) β vs h k =
      let r = nothing_row t c (t.rows n) h.0 in
      let e : chosen (t.rows n) c ≡ Some [] = chosen_is t n r.0 c (t.rows n) (sound n) r.1 r.3 ∙ ap Some r.2 in
      keeps_gone δ β vs h.1 (
        chosen_fits t sound n [] (δ ++ β) (ends t sound g rows_are) c e k.0,
        alike_then g c α₀ (Rule n ∷ (δ ++ β)) (δ ++ β) vs₀ vs vs k.1 (alike_rule g t sound rows_are c n [] (δ ++ β) vs e k.0),
      )

  pub keeps_over : (α β : List (Symbol R A)) (vs : V) → Keeps g t sound rows_are c α₀ vs₀ α vs → Over t c α β → Keeps g t sound rows_are c α₀ vs₀ β vs
  keeps_over α β vs k o = keeps_gone o.0 β vs o.1 (subst (λ z. Keeps g t sound rows_are c α₀ vs₀ z vs) o.2 k)
