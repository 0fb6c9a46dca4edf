-- Two grammars with the same rows, over tokens and values of which those of the one stand for those of the other.
use Rattle.std.proofs.Common.{◌≡◌, List, [], ◌∷◌, ◌++◌, Option, Some, None, true, map, refl, sym, ap, ◌∙◌, subst}
use Rattle.std.specs.Option.{option_map}
use Rattle.ef_grammar.specs.Grammar.{Symbol, Token, Grammar, Among, Leads, done, token, acted, ruled, has}

-- The tokens and values of `g` are what those of `h` become.
module _ {T T' V V' R A : Type 0} (g : Grammar T V R A) (h : Grammar T' V' R A) (f : T' → T) (k : V' → V) where
  -- both grammars see the same in front of each token, and what they make of it stands for the same
  abbrev pub SeesAlike : List T' → Type 0
  SeesAlike [] = Unit {0}
  SeesAlike (t ∷ ts) = (g.look (map f (t ∷ ts)) ≡ h.look (t ∷ ts)) × ((v : V') → g.push (f t) (k v) ≡ k (h.push t v)) × SeesAlike ts

  pub record IsAlike : Type 0 where
    pub rows : (n : R) → g.rules n ≡ h.rules n
    pub acts : (a : A) (v : V') → g.act a (k v) ≡ option_map k (h.act a v)

  -- what the one spells, the other spells too
  pub leads_alike : IsAlike → (α : List (Symbol R A)) (v : V') (ts : List T') (w : V') → SeesAlike ts → Leads h α v ts w → Leads g α (k v) (map f ts) (k w)
  leads_alike same α v ts w see (done vs) = done (k vs)
  leads_alike same α v ts w see (token s β vs t us ws is x) =
      token s β (k vs) (f t) (map f us) (k ws) (subst (λ c. has s c ≡ true) (sym see.0) is)
      (subst (λ u. Leads g β u (map f us) (k ws)) (sym (see.1 vs)) (leads_alike same β (h.push t vs) us ws see.2 x))
  leads_alike same α v ts w see (acted a β vs us xs ws e x) =
      acted a β (k vs) (k us) (map f xs) (k ws) (same.acts a vs ∙ ap (option_map k) e) (leads_alike same β us xs ws see x)
  leads_alike same α v ts w see (ruled n γ β vs xs ws among x) =
      ruled n γ β (k vs) (map f xs) (k ws) (subst (Among γ) (sym (same.rows n)) among) (leads_alike same (γ ++ β) vs xs ws see x)

  -- and nothing else, of these tokens

  none_left : (ts : List T') → [] ≡ map f ts → ts ≡ []
  none_left [] e = refl
  none_left (t ∷ ts) e = absurd (cc)

  one_left : (t : T) (us : List T) (ts : List T') → t ∷ us ≡ map f ts → (x : T') × (xs : List T') × (ts ≡ x ∷ xs) × (t ≡ f x) × (us ≡ map f xs)
  one_left t us [] e = absurd (cc)
  one_left t us (x ∷ xs) e = (x, xs, refl, cc, cc)

  some_left : (us : V) (o : Option V') → Some us ≡ option_map k o → (v : V') × (o ≡ Some v) × (us ≡ k v)
  some_left us None e = absurd (cc)
  some_left us (Some v) e = (v, refl, cc)

  pub leads_back : IsAlike → (α : List (Symbol R A)) (u : V) (us : List T) (w : V) → Leads g α u us w
      → (v : V') (ts : List T') → u ≡ k v → us ≡ map f ts → SeesAlike ts → (z : V') × (w ≡ k z) × Leads h α v ts z
  leads_back same α u us w (done vs) v ts p q see = (v, p, subst (λ l. Leads h [] v l v) (sym (none_left ts q)) (done v))
  leads_back same α u us w (token s β vs t xs ws is x) v ts p q see =
      let b = one_left t xs ts q in
      let sees : SeesAlike (b.0 ∷ b.1) = subst SeesAlike b.2 see in
      let pushed : g.push t vs ≡ k (h.push b.0 v) = ap (λ y. g.push y vs) b.3 ∙ ap (g.push (f b.0)) p ∙ sees.1 v in
      let seen : g.look (t ∷ xs) ≡ h.look (b.0 ∷ b.1) = ap g.look (q ∙ ap (map f) b.2) ∙ sees.0 in
      let rest = leads_back same β (g.push t vs) xs ws x (h.push b.0 v) b.1 pushed b.4 sees.2 in
      (rest.0, rest.1, subst (λ l. Leads h (Token s ∷ β) v l rest.0) (sym b.2) (token s β v b.0 b.1 rest.0 (subst (λ c. has s c ≡ true) seen is) rest.2))
  leads_back same α u us w (acted a β vs ys xs ws e x) v ts p q see =
      let b = some_left ys (h.act a v) (sym e ∙ ap (g.act a) p ∙ same.acts a v) in
      let rest = leads_back same β ys xs ws x b.0 ts b.2 q see in
      (rest.0, rest.1, acted a β v b.0 ts rest.0 b.1 rest.2)
  leads_back same α u us w (ruled n γ β vs xs ws among x) v ts p q see =
      let rest = leads_back same (γ ++ β) vs xs ws x v ts p q see in
      (rest.0, rest.1, ruled n γ β v ts rest.0 (subst (Among γ) (same.rows n) among) rest.2)
