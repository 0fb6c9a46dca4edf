-- A sound table has one value for the tokens.
use Rattle.std.proofs.Common.{◌≡◌, ℕ, List, [], ◌∷◌, ◌++◌, Some, true, refl, sym, ◌∙◌, subst}
use Rattle.ef_grammar.specs.Grammar.{Symbol, Token, Rule, Act, Grammar, Among, Leads, done, token, acted, ruled, has, one}
use Rattle.ef_grammar.specs.Table.{Table, chosen, rights, IsSound}
use Rattle.ef_grammar.specs.Answers.{Spells}
use Rattle.ef_grammar.specs.Reads.{Fits}
use Rattle.ef_grammar.proofs.Choice.{choice_is, chosen_fits}
use Rattle.ef_grammar.proofs.Runs.{to_begins, ends_all}
use Rattle.ef_grammar.proofs.Sets.{one_within}

module _ {T V R A : Type 0} (g : Grammar T V R A) where
  done_back : (v : V) (ts : List T) (u : V) → Leads g [] v ts u → u ≡ v
  done_back v ts u (done vs) = refl

  token_back : (s : ℕ) (α : List (Symbol R A)) (v : V) (t : T) (ts : List T) (u : V) → Leads g (Token s ∷ α) v (t ∷ ts) u → Leads g α (g.push t v) ts u
  token_back s α v t ts u (token r β vs x us ws is l) = l

  some_left : (v w : V) → Some v ≡ Some w → v ≡ w
  some_left v w e = cc

  acted_back : (a : A) (α : List (Symbol R A)) (v w : V) (ts : List T) (u : V) → g.act a v ≡ Some w → Leads g (Act a ∷ α) v ts u → Leads g α w ts u
  acted_back a α v w ts u e (acted b β vs us xs ws is l) = subst (λ z. Leads g α z ts u) (some_left us w (sym is ∙ e)) l

  ruled_back : (n : R) (α : List (Symbol R A)) (v : V) (ts : List T) (u : V) → Leads g (Rule n ∷ α) v ts u → (γ : List (Symbol R A)) × Among γ (g.rules n) × Leads g (γ ++ α) v ts u
  ruled_back n α v ts u (ruled m γ β vs xs ws among l) = (γ, among, l)

  some_right : (β γ : List (Symbol R A)) → Some β ≡ Some γ → β ≡ γ
  some_right β γ e = cc

  module _ (t : Table R A) (sound : IsSound t) (rows_are : (n : R) → rights (t.rows n) ≡ g.rules n) where
    right_is : (n : R) (γ α : List (Symbol R A)) (v : V) (ts : List T) (w : V) → Fits t (Rule n ∷ α) (one (g.look [])) → Among γ (g.rules n) → Leads g (γ ++ α) v ts w
        → chosen (t.rows n) (g.look (ts ++ [])) ≡ Some γ
    right_is n γ α v ts w f among l = choice_is t sound g rows_are [] n γ α v ts [] w among f (ends_all g ts) (to_begins g (γ ++ α) v ts w l)

    one_of_all : (α : List (Symbol R A)) (v : V) (ts : List T) (w : V) → Leads g α v ts w → Fits t α (one (g.look [])) → (u : V) → Leads g α v ts u → u ≡ w
    one_of_all α v ts w (done vs) f u l = done_back vs [] u l
    one_of_all α v ts w (token s β vs x us ws is k) f u l = one_of_all β (g.push x vs) us ws k f u (token_back s β vs x us u l)
    one_of_all α v ts w (acted a β vs us xs ws is k) f u l = one_of_all β us xs ws k f u (acted_back a β vs us xs u is l)
    one_of_all α v ts w (ruled n γ β vs xs ws among k) f u l =
        let other = ruled_back n β vs xs u l in
        let here : chosen (t.rows n) (g.look (xs ++ [])) ≡ Some γ = right_is n γ β vs xs ws f among k in
        let same : other.0 ≡ γ = some_right other.0 γ (sym (right_is n other.0 β vs xs u f other.1 other.2) ∙ here) in
        one_of_all (γ ++ β) vs xs ws k (chosen_fits t sound n γ β (one (g.look [])) (g.look (xs ++ [])) here f) u (subst (λ z. Leads g (z ++ β) vs xs u) same other.2)

    pub one_value : (n : R) (v : V) (ts : List T) (w u : V) → has (t.behind n) (g.look []) ≡ true → Spells g n v ts w → Spells g n v ts u → u ≡ w
    one_value n v ts w u e k l = one_of_all (Rule n ∷ []) v ts w k ((λ i h. one_within (g.look []) i (t.behind n) e h), tt) u l
