-- Laws of cuts: a text has one, and lexemes that were taken off its front are the first of each cut.
use Rattle.std.specs.Prelude.{ℕ, Bool, true, false, List, [], ◌∷◌, ◌++◌, ◌≡◌, ◌⊎◌, refl}
use Rattle.std.proofs.Common.{ap, ◌∙◌, sym, subst, inl, inr, append_assoc, append-nil}
use Rattle.ef_base.specs.Positions.{Position, next_position, position_after}
use Rattle.ef_base.specs.Cut.{Placed, LastGap, Longest, Cuts}
use Rattle.ef_base.specs.Taken.{Begins, Took}

-- why a text has one cut: gaps may be joined, what is behind a gap in a gap is one, no lexeme begins as a gap does,
-- and a front with its rest spells one lexeme
pub record OneCut (L : Type 0) (Gap : List ℕ → Type 0) (Spelled : L → List ℕ → List ℕ → Type 0) : Type 0 where
  pub begins_gap : ℕ → Bool
  pub none : Gap []
  pub join : (a b : List ℕ) → Gap a → Gap b → Gap (a ++ b)
  pub behind : (a b : List ℕ) → Gap a → Gap (a ++ b) → Gap b
  pub gap : (c : ℕ) (cs : List ℕ) → Gap (c ∷ cs) → begins_gap c ≡ true
  pub lexeme : (l : L) (front rest : List ℕ) → Spelled l front rest → Begins begins_gap false front
  pub one : (l m : L) (front rest : List ℕ) → Spelled l front rest → Spelled m front rest → l ≡ m

pub position_after-append : (at : Position) (a b : List ℕ) → position_after at (a ++ b) ≡ position_after (position_after at a) b
position_after-append at [] b = refl
position_after-append at (c ∷ a) b = position_after-append (next_position at c) a b

-- of two fronts of one text, one goes on with the other
fronts : (a b u v : List ℕ) → a ++ u ≡ b ++ v → ((m : List ℕ) × (b ≡ a ++ m) × (u ≡ m ++ v)) ⊎ ((m : List ℕ) × (a ≡ b ++ m) × (v ≡ m ++ u))
fronts [] b u v e = inl (b, refl, e)
fronts (c ∷ a) [] u v e = inr (c ∷ a, refl, sym e)
fronts (c ∷ a) (d ∷ b) u v e = go (fronts a b u v (cc e)) (cc e)
  where
    go : ((m : List ℕ) × (b ≡ a ++ m) × (u ≡ m ++ v)) ⊎ ((m : List ℕ) × (a ≡ b ++ m) × (v ≡ m ++ u)) → c ≡ d → ((m : List ℕ) × (d ∷ b ≡ (c ∷ a) ++ m) × (u ≡ m ++ v)) ⊎ ((m : List ℕ) × (c ∷ a ≡ (d ∷ b) ++ m) × (v ≡ m ++ u))
    go (inl h) f = inl (h.0, cc (h.1), h.2)
    go (inr h) f = inr (h.0, cc (h.1), h.2)

pub begins_on : (test : ℕ → Bool) (value : Bool) (a b : List ℕ) → Begins test value a → Begins test value (a ++ b)
begins_on test value [] b h = absurd h
begins_on test value (c ∷ a) b h = h

placed_same : {L : Type 0} (l m : Placed L) → l.lexeme ≡ m.lexeme → l.at ≡ m.at → l ≡ m
placed_same {L} l m e f =
    ap (λ (x : L). let p : Placed L = record { lexeme = x; at = l.at } in p) e ∙ ap (λ (x : Position). let p : Placed L = record { lexeme = m.lexeme; at = x } in p) f

-- a gap before a lexeme goes on with every gap that is a front of the same text
gap_on : {L : Type 0} {Gap : List ℕ → Type 0} {Spelled : L → List ℕ → List ℕ → Type 0} (facts : OneCut L Gap Spelled) (g h a b : List ℕ)
    → Gap g → Gap h → g ++ a ≡ h ++ b → Begins facts.begins_gap false b → (m : List ℕ) × (h ≡ g ++ m) × (a ≡ m ++ b) × Gap m
gap_on {L} {Gap} {Spelled} facts g h a b gap_g gap_h e s = go (fronts g h a b e)
  where
    stops : (m : List ℕ) → Gap m → b ≡ m ++ a → Begins facts.begins_gap false b → m ≡ []
    stops [] k f t = refl
    stops (c ∷ m) k f t =
        let yes : facts.begins_gap c ≡ true = facts.gap c m k in
        let no : facts.begins_gap c ≡ false = subst (Begins facts.begins_gap false) f t in
        cc

    go : ((m : List ℕ) × (h ≡ g ++ m) × (a ≡ m ++ b)) ⊎ ((m : List ℕ) × (g ≡ h ++ m) × (b ≡ m ++ a)) → (m : List ℕ) × (h ≡ g ++ m) × (a ≡ m ++ b) × Gap m
    go (inl k) = (k.0, k.1, k.2, facts.behind g k.0 gap_g (subst Gap k.1 gap_h))
    go (inr k) =
        let none : k.0 ≡ [] = stops k.0 (facts.behind h k.0 gap_h (subst Gap k.1 gap_g)) k.2 s in
        ([], sym (k.1 ∙ ap (λ m. h ++ m) none ∙ append-nil h) ∙ sym (append-nil g), sym (k.2 ∙ ap (λ m. m ++ a) none), facts.none)

-- the longest lexeme at the front of a text is one
pub same_front : {L : Type 0} {Gap : List ℕ → Type 0} {Spelled : L → List ℕ → List ℕ → Type 0} → OneCut L Gap Spelled → (l m : L) (f f' r r' : List ℕ)
    → Spelled l f r → Spelled m f' r' → Longest Spelled f r → Longest Spelled f' r' → f ++ r ≡ f' ++ r' → (f ≡ f') × (r ≡ r') × (l ≡ m)
same_front {L} {Gap} {Spelled} facts l m f f' r r' h h' g g' e = last (go (fronts f f' r r' e))
  where
    go : ((m : List ℕ) × (f' ≡ f ++ m) × (r ≡ m ++ r')) ⊎ ((m : List ℕ) × (f ≡ f' ++ m) × (r' ≡ m ++ r)) → (f ≡ f') × (r ≡ r')
    go (inl k) = let z : k.0 ≡ [] = g k.0 r' m k.2 (subst (λ t. Spelled m t r') k.1 h') in (sym (k.1 ∙ ap (λ m. f ++ m) z ∙ append-nil f), k.2 ∙ ap (λ m. m ++ r') z)
    go (inr k) = let z : k.0 ≡ [] = g' k.0 r l k.2 (subst (λ t. Spelled l t r) k.1 h) in (k.1 ∙ ap (λ m. f' ++ m) z ∙ append-nil f', sym (k.2 ∙ ap (λ m. m ++ r) z))

    last : (f ≡ f') × (r ≡ r') → (f ≡ f') × (r ≡ r') × (l ≡ m)
    last k = (k.0, k.1, facts.one l m f r h (subst (λ t. Spelled m t r) (sym k.0) (subst (λ t. Spelled m f' t) (sym k.1) h')))

-- at a text's end is no lexeme
ended : {L : Type 0} {Gap : List ℕ → Type 0} {Spelled : L → List ℕ → List ℕ → Type 0} (facts : OneCut L Gap Spelled) (text g a : List ℕ)
    → LastGap Gap text → text ≡ g ++ a → Gap g → Begins facts.begins_gap false a → ⊥
ended {L} {Gap} {Spelled} facts text g a last e gap s = go last
  where
    hits : (b : List ℕ) → Gap b → Begins facts.begins_gap false b → ⊥
    hits [] k t = t
    hits (c ∷ b) k t = let yes : facts.begins_gap c ≡ true = facts.gap c b k in cc

    go : Gap text ⊎ Gap (text ++ 10 ∷ []) → ⊥
    go (inl k) = hits a (facts.behind g a gap (subst Gap e k)) s
    go (inr k) =
        hits (a ++ 10 ∷ []) (facts.behind g (a ++ 10 ∷ []) gap (subst Gap (ap (λ t. t ++ 10 ∷ []) e ∙ append_assoc g a (10 ∷ [])) k))
        (begins_on facts.begins_gap false a (10 ∷ []) s)

-- nothing is taken yet
pub took_none : {L : Type 0} {Gap : List ℕ → Type 0} {Spelled : L → List ℕ → List ℕ → Type 0} → OneCut L Gap Spelled → (at : Position) (text : List ℕ) → Took Gap Spelled at text [] at text
took_none facts at text = ([], refl, facts.none, refl)

-- and a gap
pub took_gap : {L : Type 0} {Gap : List ℕ → Type 0} {Spelled : L → List ℕ → List ℕ → Type 0} → OneCut L Gap Spelled → (at there : Position) (text rest gap : List ℕ) (ls : List (Placed L))
    → Took Gap Spelled at text ls there (gap ++ rest) → Gap gap → Took Gap Spelled at text ls (position_after there gap) rest
took_gap facts at there text rest gap [] h k =
    (h.0 ++ gap, h.1 ∙ sym (append_assoc h.0 gap rest), facts.join h.0 gap h.2 k, ap (λ p. position_after p gap) h.3 ∙ sym (position_after-append at h.0 gap))
took_gap facts at there text rest gap (l ∷ ls) h k =
    (h.0, h.1, h.2, h.3, h.4, h.5, h.6, h.7, took_gap facts (position_after l.at h.1) there h.2 rest gap ls h.8 k)

-- and a lexeme
pub took_lexeme : {L : Type 0} {Gap : List ℕ → Type 0} {Spelled : L → List ℕ → List ℕ → Type 0} → OneCut L Gap Spelled → (at there : Position) (text front rest : List ℕ) (l : L) (ls : List (Placed L))
    → Took Gap Spelled at text ls there (front ++ rest) → Spelled l front rest → Longest Spelled front rest
    → Took Gap Spelled at text (ls ++ (record { lexeme = l; at = there }) ∷ []) (position_after there front) rest
took_lexeme facts at there text front rest l [] h k longest = (h.0, front, rest, h.1, h.2, h.3, k, longest, ([], refl, facts.none, refl))
took_lexeme facts at there text front rest l (k ∷ ls) h s longest =
    (h.0, h.1, h.2, h.3, h.4, h.5, h.6, h.7, took_lexeme facts (position_after k.at h.1) there h.2 front rest l ls h.8 s longest)

-- a cut of the rest makes one of the text
pub took_cut : {L : Type 0} {Gap : List ℕ → Type 0} {Spelled : L → List ℕ → List ℕ → Type 0} → OneCut L Gap Spelled → (at there : Position) (text rest : List ℕ) (ls ms : List (Placed L))
    → Took Gap Spelled at text ls there rest → Cuts Gap Spelled there rest ms → Cuts Gap Spelled at text (ls ++ ms)
took_cut {L} {Gap} {Spelled} facts at there text rest [] [] h c = go c
  where
    go : Gap rest ⊎ Gap (rest ++ 10 ∷ []) → LastGap Gap text
    go (inl k) = inl (subst Gap (sym h.1) (facts.join h.0 rest h.2 k))
    go (inr k) =
        inr (subst Gap (sym (ap (λ t. t ++ 10 ∷ []) h.1 ∙ append_assoc h.0 rest (10 ∷ []))) (facts.join h.0 (rest ++ 10 ∷ []) h.2 k))
took_cut facts at there text rest [] (m ∷ ms) h c = (
  h.0 ++ c.0,
  c.1,
  c.2,
  h.1 ∙ ap (λ t. h.0 ++ t) c.3 ∙ sym (append_assoc h.0 c.0 (c.1 ++ c.2)),
  facts.join h.0 c.0 h.2 c.4,
  c.5 ∙ ap (λ p. position_after p c.0) h.3 ∙ sym (position_after-append at h.0 c.0),
  c.6,
  c.7,
  c.8,
)
took_cut facts at there text rest (l ∷ ls) ms h c =
    (h.0, h.1, h.2, h.3, h.4, h.5, h.6, h.7, took_cut facts (position_after l.at h.1) there h.2 rest ls ms h.8 c)

-- what each cut goes on with behind what was taken
pub took_only : {L : Type 0} {Gap : List ℕ → Type 0} {Spelled : L → List ℕ → List ℕ → Type 0} → OneCut L Gap Spelled → (at there : Position) (text rest : List ℕ) (ls ms : List (Placed L))
    → Took Gap Spelled at text ls there rest → Cuts Gap Spelled at text ms → (more : List (Placed L)) × (ms ≡ ls ++ more) × Cuts Gap Spelled there rest more
took_only {L} {Gap} {Spelled} facts at there text rest [] [] h c = ([], refl, go c)
  where
    go : Gap text ⊎ Gap (text ++ 10 ∷ []) → LastGap Gap rest
    go (inl k) = inl (facts.behind h.0 rest h.2 (subst Gap h.1 k))
    go (inr k) = inr (facts.behind h.0 (rest ++ 10 ∷ []) h.2 (subst Gap (ap (λ t. t ++ 10 ∷ []) h.1 ∙ append_assoc h.0 rest (10 ∷ [])) k))
took_only facts at there text rest [] (m ∷ ms) h c =
    let on = gap_on facts h.0 c.0 rest (c.1 ++ c.2) h.2 c.4 (sym h.1 ∙ c.3) (begins_on facts.begins_gap false c.1 c.2 (facts.lexeme m.lexeme c.1 c.2 c.6)) in (
      m ∷ ms,
      refl,
      (on.0, c.1, c.2, on.2, on.3, c.5 ∙ ap (λ g. position_after at g) on.1 ∙ position_after-append at h.0 on.0 ∙ ap (λ p. position_after p on.0) (sym h.3), c.6, c.7, c.8),
    )
took_only facts at there text rest (l ∷ ls) [] h c =
    absurd (ended facts text h.0 (h.1 ++ h.2) c h.3 h.4 (begins_on facts.begins_gap false h.1 h.2 (facts.lexeme l.lexeme h.1 h.2 h.6)))
took_only {L} {Gap} {Spelled} facts at there text rest (l ∷ ls) (m ∷ ms) h c =
    let solid = begins_on facts.begins_gap false h.1 h.2 (facts.lexeme l.lexeme h.1 h.2 h.6) in
    let solid' = begins_on facts.begins_gap false c.1 c.2 (facts.lexeme m.lexeme c.1 c.2 c.6) in
    let gaps : (h.0 ≡ c.0) × (h.1 ++ h.2 ≡ c.1 ++ c.2) = same_gap facts h.0 c.0 (h.1 ++ h.2) (c.1 ++ c.2) h.4 c.4 (sym h.3 ∙ c.3) solid solid' in
    let same = same_front facts l.lexeme m.lexeme h.1 c.1 h.2 c.2 h.6 c.6 h.7 c.7 gaps.1 in
    let at_same : l.at ≡ m.at = h.5 ∙ ap (λ g. position_after at g) gaps.0 ∙ sym c.5 in
    let here : l ≡ m = placed_same l m same.2 at_same in
    let place : position_after m.at c.1 ≡ position_after l.at h.1 = ap (λ p. position_after p c.1) (sym at_same) ∙ ap (λ f. position_after l.at f) (sym same.0) in
    let left : Cuts Gap Spelled (position_after l.at h.1) h.2 ms =
    subst (λ t. Cuts Gap Spelled (position_after l.at h.1) t ms) (sym same.1) (subst (λ p. Cuts Gap Spelled p c.2 ms) place c.8) in
    let on = took_only facts (position_after l.at h.1) there h.2 rest ls ms h.8 left in
    (on.0, ap (λ x. x ∷ ms) (sym here) ∙ ap (λ t. l ∷ t) on.1, on.2)
  where
    same_gap : (facts : OneCut L Gap Spelled) (g g' a a' : List ℕ) → Gap g → Gap g' → g ++ a ≡ g' ++ a' → Begins facts.begins_gap false a → Begins facts.begins_gap false a' → (g ≡ g') × (a ≡ a')
    same_gap facts g g' a a' k k' e s s' = go (gap_on facts g g' a a' k k' e s')
      where
        empty : (m : List ℕ) → Gap m → a ≡ m ++ a' → Begins facts.begins_gap false a → m ≡ []
        empty [] z f t = refl
        empty (c ∷ m) z f t =
            let yes : facts.begins_gap c ≡ true = facts.gap c m z in
            let no : facts.begins_gap c ≡ false = subst (Begins facts.begins_gap false) f t in
            cc

        go : (m : List ℕ) × (g' ≡ g ++ m) × (a ≡ m ++ a') × Gap m → (g ≡ g') × (a ≡ a')
        go on =
            let none : on.0 ≡ [] = empty on.0 on.3 on.2 s in
            (sym (on.1 ∙ ap (λ m. g ++ m) none ∙ append-nil g), on.2 ∙ ap (λ m. m ++ a') none)

-- a cut takes all of the text but its last gap
pub cut_took : {L : Type 0} {Gap : List ℕ → Type 0} {Spelled : L → List ℕ → List ℕ → Type 0} → OneCut L Gap Spelled → (at : Position) (text : List ℕ) (ls : List (Placed L))
    → Cuts Gap Spelled at text ls → (there : Position) × (rest : List ℕ) × Took Gap Spelled at text ls there rest × LastGap Gap rest
cut_took facts at text [] c = (at, text, ([], refl, facts.none, refl), c)
cut_took facts at text (l ∷ ls) c =
    let on = cut_took facts (position_after l.at c.1) c.2 ls c.8 in (on.0, on.1, (c.0, c.1, c.2, c.3, c.4, c.5, c.6, c.7, on.2), on.3)

-- a text has one cut
pub one_cut : {L : Type 0} {Gap : List ℕ → Type 0} {Spelled : L → List ℕ → List ℕ → Type 0} → OneCut L Gap Spelled → (at : Position) (text : List ℕ) (ls ms : List (Placed L))
    → Cuts Gap Spelled at text ls → Cuts Gap Spelled at text ms → ls ≡ ms
one_cut {L} {Gap} {Spelled} facts at text ls ms c d =
    let t = cut_took facts at text ls c in
    let on = took_only facts at t.0 text t.1 ls ms t.2 d in
    end t.0 t.1 on.0 t.3 on.1 on.2
  where
    end : (there : Position) (rest : List ℕ) (more : List (Placed L)) → LastGap Gap rest → ms ≡ ls ++ more → Cuts Gap Spelled there rest more → ls ≡ ms
    end there rest [] last e k = sym (e ∙ append-nil ls)
    end there rest (m ∷ more) last e k =
        absurd (ended facts rest k.0 (k.1 ++ k.2) last k.3 k.4 (begins_on facts.begins_gap false k.1 k.2 (facts.lexeme m.lexeme k.1 k.2 k.6)))
