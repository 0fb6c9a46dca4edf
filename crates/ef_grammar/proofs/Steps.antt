-- The moves of the parser.
use Rattle.std.proofs.Common.{◌≡◌, ℕ, Bool, true, false, List, [], ◌∷◌, ◌++◌, Option, Some, None, refl, sym, ap, ◌∙◌, subst}
use Rattle.ef_grammar.specs.Grammar.{Symbol, Token, Rule, Act, Grammar, Among, Begins, there, takes, acts, goes, has}
use Rattle.ef_grammar.specs.Table.{Table, chosen, rights, IsSound}
use Rattle.ef_grammar.specs.Reads.{Fits, Ends, Alike, Fails, IsNext}
use Rattle.ef_grammar.specs.declared.moves.Next.TheVariants as next_is
use Rattle.ef_grammar.proofs.Choice.{ends, choice_is, chosen_among}

not_nothing : {X : Type 0} (x : X) (xs : List X) → x ∷ xs ≡ [] → ⊥
not_nothing x xs e = cc

module _ {T V R A : Type 0} (g : Grammar T V R A) where
  pub alike_then : (c : ℕ) (α β γ : List (Symbol R A)) (us vs ws : V) → Alike g c α us β vs → Alike g c β vs γ ws → Alike g c α us γ ws
  alike_then c α β γ us vs ws h k rest ts δ zs e fin = (λ x. (k rest ts δ zs e fin).0 ((h rest ts δ zs e fin).0 x), λ x. (h rest ts δ zs e fin).1 ((k rest ts δ zs e fin).1 x))

  pub alike_fails : (c : ℕ) (α β : List (Symbol R A)) (us vs : V) → Alike g c α us β vs → Fails g c β vs → Fails g c α us
  alike_fails c α β us vs h k rest ts δ zs e fin x = k rest ts δ zs e fin ((h rest ts δ zs e fin).0 x)

  -- ---- an action

  acted_back : (rest : List T) (a : A) (α : List (Symbol R A)) (vs : V) (ts : List T) (δ : List (Symbol R A)) (ws : V) → Ends g ts rest δ → Begins g rest (Act a ∷ α) vs ts δ ws
      → (us : V) × (g.act a vs ≡ Some us) × Begins g rest α us ts δ ws
  acted_back rest a α vs ts δ ws fin (there β zs) = absurd (not_nothing (Act a) α fin.0)
  acted_back rest a α vs ts δ ws fin (acts b β η us us' xs zs e h) = (us', e, h)

  some_is : (us vs : V) → Some us ≡ Some vs → us ≡ vs
  some_is us vs e = cc

  alike_act : (c : ℕ) (a : A) (α : List (Symbol R A)) (vs us : V) → g.act a vs ≡ Some us → Alike g c (Act a ∷ α) vs α us
  alike_act c a α vs us e rest ts δ ws k fin = (
    λ h. let b = acted_back rest a α vs ts δ ws fin h in subst (λ z. Begins g rest α z ts δ ws) (some_is b.0 us (sym b.1 ∙ e)) b.2,
    λ h. acts a α δ vs us ts ws e h,
  )

  fails_act : (c : ℕ) (a : A) (α : List (Symbol R A)) (vs : V) → g.act a vs ≡ None → Fails g c (Act a ∷ α) vs
  fails_act c a α vs e rest ts δ ws k fin h = let b = acted_back rest a α vs ts δ ws fin h in none_some b.0 (sym e ∙ b.1)
    where
      none_some : (us : V) → None ≡ Some us → ⊥
      none_some us q = cc

  -- ---- a token

  token_back : (rest : List T) (s : ℕ) (α : List (Symbol R A)) (vs : V) (t : T) (ts : List T) (δ : List (Symbol R A)) (ws : V) → Begins g rest (Token s ∷ α) vs (t ∷ ts) δ ws
      → Begins g rest α (g.push t vs) ts δ ws
  token_back rest s α vs t ts δ ws (takes r β η us x xs zs e h) = h

  token_class : (rest : List T) (s : ℕ) (α : List (Symbol R A)) (vs : V) (ts : List T) (δ : List (Symbol R A)) (ws : V) → Ends g ts rest δ → Begins g rest (Token s ∷ α) vs ts δ ws
      → has s (g.look (ts ++ rest)) ≡ true
  token_class rest s α vs ts δ ws fin (there β zs) = absurd (not_nothing (Token s) α fin.0)
  token_class rest s α vs ts δ ws fin (takes r β η us x xs zs e h) = e

  token_none : (s : ℕ) (α : List (Symbol R A)) (vs : V) (ts : List T) (δ : List (Symbol R A)) (ws : V) → ts ≡ [] → δ ≡ [] → Begins g [] (Token s ∷ α) vs ts δ ws → ⊥
  token_none s α vs ts δ ws p q (there β zs) = not_nothing (Token s) α q
  token_none s α vs ts δ ws p q (takes r β η us x xs zs e h) = not_nothing x xs p

  unlike : (b : Bool) → b ≡ true → b ≡ false → ⊥
  unlike b p q = cc

  fails_token : (c s : ℕ) (α : List (Symbol R A)) (vs : V) → has s c ≡ false → Fails g c (Token s ∷ α) vs
  fails_token c s α vs n rest ts δ ws e fin h = unlike (has s c) (subst (λ z. has s z ≡ true) e (token_class rest s α vs ts δ ws fin h)) n

  -- ---- the end

  pub done_is : (rest : List T) (vs : V) (ts : List T) (δ : List (Symbol R A)) (ws : V) → Begins g rest [] vs ts δ ws → (ts ≡ []) × (ws ≡ vs)
  done_is rest vs ts δ ws (there β us) = (refl, refl)

  -- ---- a rule

  module _ (t : Table R A) (sound : IsSound t) (rows_are : (n : R) → rights (t.rows n) ≡ g.rules n) where
    ruled_back : (rest : List T) (n : R) (α : List (Symbol R A)) (vs : V) (ts : List T) (δ : List (Symbol R A)) (ws : V) → Ends g ts rest δ → Begins g rest (Rule n ∷ α) vs ts δ ws
        → (β : List (Symbol R A)) × Among β (g.rules n) × Begins g rest (β ++ α) vs ts δ ws
    ruled_back rest n α vs ts δ ws fin (there β zs) = absurd (not_nothing (Rule n) α fin.0)
    ruled_back rest n α vs ts δ ws fin (goes m β γ η us xs zs among h) = (β, among, h)

    some_right : (β γ : List (Symbol R A)) → Some β ≡ Some γ → β ≡ γ
    some_right β γ e = cc

    none_right : (β : List (Symbol R A)) → None ≡ Some β → ⊥
    none_right β e = cc

    back_chosen : (rest : List T) (n : R) (α : List (Symbol R A)) (vs : V) (ts : List T) (δ : List (Symbol R A)) (ws : V) (o : Option (List (Symbol R A))) → Fits t (Rule n ∷ α) (ends t sound g rows_are)
        → Ends g ts rest δ → chosen (t.rows n) (g.look (ts ++ rest)) ≡ o → Begins g rest (Rule n ∷ α) vs ts δ ws → (β : List (Symbol R A)) × (o ≡ Some β) × Begins g rest (β ++ α) vs ts δ ws
    back_chosen rest n α vs ts δ ws o f fin e h =
        let b = ruled_back rest n α vs ts δ ws fin h in
        (b.0, sym e ∙ choice_is t sound g rows_are rest n b.0 α vs ts δ ws b.1 f fin b.2, b.2)

    pub alike_rule : (c : ℕ) (n : R) (β α : List (Symbol R A)) (vs : V) → chosen (t.rows n) c ≡ Some β → Fits t (Rule n ∷ α) (ends t sound g rows_are)
        → Alike g c (Rule n ∷ α) vs (β ++ α) vs
    alike_rule c n β α vs e f rest ts δ ws k fin =
        let e' : chosen (t.rows n) (g.look (ts ++ rest)) ≡ Some β = ap (λ z. chosen (t.rows n) z) k ∙ e in (
          λ h. let b = back_chosen rest n α vs ts δ ws (Some β) f fin e' h in subst (λ z. Begins g rest (z ++ α) vs ts δ ws) (sym (some_right β b.0 b.1)) b.2,
          λ h. goes n β α δ vs ts ws (subst (Among β) (rows_are n) (chosen_among t sound n β c e)) h,
        )

    pub fails_rule : (c : ℕ) (n : R) (α : List (Symbol R A)) (vs : V) → chosen (t.rows n) c ≡ None → Fits t (Rule n ∷ α) (ends t sound g rows_are)
        → Fails g c (Rule n ∷ α) vs
    fails_rule c n α vs e f rest ts δ ws k fin h =
        let b = back_chosen rest n α vs ts δ ws None f fin (ap (λ z. chosen (t.rows n) z) k ∙ e) h in
        none_right b.0 b.1

    -- ---- what the parser keeps while it does what is to be done before the next token, which is of this class

    module _ (c : ℕ) (α₀ : List (Symbol R A)) (vs₀ : V) where
      abbrev pub Keeps : List (Symbol R A) → V → Type 0
      Keeps α vs = Fits t α (ends t sound g rows_are) × Alike g c α₀ vs₀ α vs

      pub keeps_act : (a : A) (α β : List (Symbol R A)) (vs us : V) → Keeps β vs → β ≡ Act a ∷ α → g.act a vs ≡ Some us → Keeps α us
      keeps_act a α β vs us kept top e =
          let k : Keeps (Act a ∷ α) vs = subst (λ z. Keeps z vs) top kept in
          (k.0, alike_then c α₀ (Act a ∷ α) α vs₀ vs us k.1 (alike_act c a α vs us e))

      pub stops_act : (a : A) (α β : List (Symbol R A)) (vs : V) → Keeps β vs → β ≡ Act a ∷ α → g.act a vs ≡ None → Fails g c α₀ vs₀
      stops_act a α β vs kept top e =
          let k : Keeps (Act a ∷ α) vs = subst (λ z. Keeps z vs) top kept in
          alike_fails c α₀ (Act a ∷ α) vs₀ vs k.1 (fails_act c a α vs e)

      pub stops_token : (s : ℕ) (α β : List (Symbol R A)) (vs : V) → Keeps β vs → β ≡ Token s ∷ α → has s c ≡ false → Fails g c α₀ vs₀
      stops_token s α β vs kept top e =
          let k : Keeps (Token s ∷ α) vs = subst (λ z. Keeps z vs) top kept in
          alike_fails c α₀ (Token s ∷ α) vs₀ vs k.1 (fails_token c s α vs e)

      pub taken : (s : ℕ) (α β : List (Symbol R A)) (vs : V) → Keeps β vs → β ≡ Token s ∷ α → has s c ≡ true → IsNext g t c α₀ vs₀ next_is.Take α vs
      taken s α β vs kept top e =
          let k : Keeps (Token s ∷ α) vs = subst (λ z. Keeps z vs) top kept in (
            λ x ts rest δ u is. let a = k.1 rest (x ∷ ts) δ u is tt in
                (λ h. token_back rest s α vs x ts δ u (a.0 h), λ h. a.1 (takes s α δ vs x ts u (subst (λ z. has s z ≡ true) (sym is) e) h)),
            λ is u h. token_none s α vs [] [] u refl refl ((k.1 [] [] [] u is (refl, refl)).0 h),
            k.0,
          )
