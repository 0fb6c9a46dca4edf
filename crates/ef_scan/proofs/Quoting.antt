-- A quoted text as it is read so far.
use Rattle.std.proofs.Common.{ℕ, ◌<◌, ◌≤◌, ◌≡◌, Bool, true, false, List, [], ◌∷◌, ◌++◌, length, chars, arith, refl, subst, sym, ap, ◌∙◌, append_assoc, append-nil, length-append, inl, inr}
use Rattle.std.specs.Prelude.{◌⊎◌, ◌==◌, map, Option, Some, None}
use Rattle.std.proofs.lemmas.Bool.Decides.{nat_tests}
use Rattle.ef_base.specs.Characters.{Each}
use Rattle.ef_base.specs.Escape.{Written, plainly}
use Rattle.ef_token.specs.Letters.{is_quote}
use Rattle.ef_token.specs.Lexeme.{Quoted, closes, legal, illegal, IsIllegalEscape}
use Rattle.ef_token.specs.ScanFaults.{HasNone}
use Rattle.ef_token.proofs.Quoting.{no_backslash, written_begins, legal_next, illegal_next, quoted_long}
use Rattle.ef_scan.specs.declared.cursor.Cursor.{Cursor}
use Rattle.ef_scan.specs.declared.class.Class.TheVariants as class
use Rattle.ef_scan.specs.Cursors.{IsInText, IsStep, IsBehind, IsRun, test_of}
use Rattle.ef_scan.proofs.Cursors.{behind_none, behind_step, behind_all, behind_room}

abbrev IsLegal : Bool → List (Option ℕ) → List ℕ → Type 0
IsLegal true cs found = cs ≡ map Some found
IsLegal false cs found = HasNone cs

pub record Reads (quote : ℕ) (first behind : Cursor) (found : List ℕ) (is_legal : Bool) : Type 0 where
  pub cs : List (Option ℕ)
  pub front : List ℕ
  pub read : IsBehind first behind front
  pub on : (ds : List (Option ℕ)) (more rest : List ℕ) → chars behind.rest.now ≡ more ++ rest → Quoted quote ds more rest → Quoted quote (cs ++ ds) (front ++ more) rest
  pub back : (ds : List (Option ℕ)) (more rest : List ℕ) → chars first.rest.now ≡ more ++ rest → Quoted quote ds more rest
      → (es : List (Option ℕ)) × (tail : List ℕ) × (chars behind.rest.now ≡ tail ++ rest) × Quoted quote es tail rest
  pub legal : IsLegal is_legal cs found

pub reads_none : (quote : ℕ) (first : Cursor) → IsInText first → Reads quote first first [] true
reads_none quote first inside = record {
  cs = [];
  front = [];
  read = behind_none first inside;
  on = λ ds more rest e h. h;
  back = λ ds more rest e h. (ds, more, e, h);
  legal = refl;
}

legal_more : (is_legal : Bool) (cs : List (Option ℕ)) (found : List ℕ) (c : ℕ) → IsLegal is_legal cs found → IsLegal is_legal (cs ++ Some c ∷ []) (found ++ c ∷ [])
legal_more true cs found c h = ap (λ t. t ++ Some c ∷ []) h ∙ map_snoc found c
  where
    map_snoc : (found : List ℕ) (c : ℕ) → map Some found ++ Some c ∷ [] ≡ map Some (found ++ c ∷ [])
    map_snoc [] c = refl
    map_snoc (d ∷ found) c = ap (λ t. Some d ∷ t) (map_snoc found c)
legal_more false cs found c h = has_more cs (Some c ∷ []) h
  where
    has_more : (cs ds : List (Option ℕ)) → HasNone cs → HasNone (cs ++ ds)
    has_more [] ds h = absurd h
    has_more (None ∷ cs) ds h = tt
    has_more (Some d ∷ cs) ds h = has_more cs ds h

pub reads_legal : (quote : ℕ) (first behind next : Cursor) (found later : List ℕ) (is_legal : Bool) (c : ℕ) → is_quote quote ≡ true → Reads quote first behind found is_legal
    → (front : List ℕ) × IsBehind behind next front × Written (λ d. d == quote) c front (chars next.rest.now) → later ≡ found ++ c ∷ [] → Reads quote first next later is_legal
reads_legal quote first behind next found later is_legal c q h k is = record {
  cs = h.cs ++ Some c ∷ [];
  front = h.front ++ k.0;
  read = behind_all first behind next h.front k.0 h.read k.1;
  on = on;
  back = back;
  legal = subst (IsLegal is_legal (h.cs ++ Some c ∷ [])) (sym is) (legal_more is_legal h.cs found c h.legal);
}
  where
    on : (ds : List (Option ℕ)) (more rest : List ℕ) → chars next.rest.now ≡ more ++ rest → Quoted quote ds more rest → Quoted quote ((h.cs ++ Some c ∷ []) ++ ds) ((h.front ++ k.0) ++ more) rest
    on ds more rest e z =
        let here : Quoted quote (Some c ∷ ds) (k.0 ++ more) rest = legal c ds k.0 more rest (subst (Written (λ d. d == quote) c k.0) e k.2) z in
        let there = h.on (Some c ∷ ds) (k.0 ++ more) rest (k.1.chars_are ∙ ap (λ t. k.0 ++ t) e ∙ sym (append_assoc k.0 more rest)) here in
        subst (λ t. Quoted quote t ((h.front ++ k.0) ++ more) rest) (sym (append_assoc h.cs (Some c ∷ []) ds))
        (subst (λ t. Quoted quote (h.cs ++ Some c ∷ ds) t rest) (sym (append_assoc h.front k.0 more)) there)

    back : (ds : List (Option ℕ)) (more rest : List ℕ) → chars first.rest.now ≡ more ++ rest → Quoted quote ds more rest
        → (es : List (Option ℕ)) × (tail : List ℕ) × (chars next.rest.now ≡ tail ++ rest) × Quoted quote es tail rest
    back ds more rest e z =
        let b = h.back ds more rest e z in
        let n = legal_next quote c b.0 k.0 (chars next.rest.now) b.1 rest q k.2 b.3 (sym k.1.chars_are ∙ b.2) in
        (n.es, n.tail, n.left, n.quoted)

has_none : (cs : List (Option ℕ)) → HasNone (cs ++ None ∷ [])
has_none [] = tt
has_none (None ∷ cs) = tt
has_none (Some d ∷ cs) = has_none cs

pub reads_illegal : (quote : ℕ) (first behind next : Cursor) (found : List ℕ) (is_legal : Bool) → is_quote quote ≡ true → Reads quote first behind found is_legal
    → (c : ℕ) × IsBehind behind next (92 ∷ c ∷ []) × IsIllegalEscape (c ∷ chars next.rest.now) → Reads quote first next found false
reads_illegal quote first behind next found is_legal q h k = record {
  cs = h.cs ++ None ∷ [];
  front = h.front ++ 92 ∷ k.0 ∷ [];
  read = behind_all first behind next h.front (92 ∷ k.0 ∷ []) h.read k.1;
  on = on;
  back = back;
  legal = has_none h.cs;
}
  where
    on : (ds : List (Option ℕ)) (more rest : List ℕ) → chars next.rest.now ≡ more ++ rest → Quoted quote ds more rest → Quoted quote ((h.cs ++ None ∷ []) ++ ds) ((h.front ++ 92 ∷ k.0 ∷ []) ++ more) rest
    on ds more rest e z =
        let here : Quoted quote (None ∷ ds) (92 ∷ k.0 ∷ more) rest = illegal k.0 ds more rest (subst (λ t. IsIllegalEscape (k.0 ∷ t)) e k.2) z in
        let there = h.on (None ∷ ds) (92 ∷ k.0 ∷ more) rest (k.1.chars_are ∙ ap (λ t. 92 ∷ k.0 ∷ t) e) here in
        subst (λ t. Quoted quote t ((h.front ++ 92 ∷ k.0 ∷ []) ++ more) rest) (sym (append_assoc h.cs (None ∷ []) ds))
        (subst (λ t. Quoted quote (h.cs ++ None ∷ ds) t rest) (sym (append_assoc h.front (92 ∷ k.0 ∷ []) more)) there)

    back : (ds : List (Option ℕ)) (more rest : List ℕ) → chars first.rest.now ≡ more ++ rest → Quoted quote ds more rest
        → (es : List (Option ℕ)) × (tail : List ℕ) × (chars next.rest.now ≡ tail ++ rest) × Quoted quote es tail rest
    back ds more rest e z =
        let b = h.back ds more rest e z in
        let n = illegal_next quote k.0 b.0 (chars next.rest.now) b.1 rest q k.2 b.3 (sym k.1.chars_are ∙ b.2) in
        (n.es, n.tail, n.left, n.quoted)

pub legal_shorter : (quote : ℕ) (behind next : Cursor) (c : ℕ) → (front : List ℕ) × IsBehind behind next front × Written (λ d. d == quote) c front (chars next.rest.now) → length next.rest.now < length behind.rest.now
legal_shorter quote behind next c k =
    let b = written_begins (λ d. d == quote) c k.0 (chars next.rest.now) k.2 in
    omega (arith, ap length b.2, behind_room behind next k.0 k.1)

pub illegal_shorter : (behind next : Cursor) → (c : ℕ) × IsBehind behind next (92 ∷ c ∷ []) × IsIllegalEscape (c ∷ chars next.rest.now) → length next.rest.now < length behind.rest.now
illegal_shorter behind next k = omega (arith, behind_room behind next (92 ∷ k.0 ∷ []) k.1)

-- ---- a text without escapes

quoted_plain : (quote : ℕ) (cs rest : List ℕ) → Each (test_of (class.Inside quote)) cs → Quoted quote (map Some cs) (cs ++ quote ∷ []) rest
quoted_plain quote [] rest h = closes rest
quoted_plain quote (c ∷ cs) rest h = legal c (map Some cs) (c ∷ []) (cs ++ quote ∷ []) rest (plainly c ((cs ++ quote ∷ []) ++ rest) (grind (arith, nat_tests))) (quoted_plain quote cs rest h.1)

pub inside : (quote : ℕ) (first behind close : Cursor) (count : ℕ) (run : IsRun (test_of (class.Inside quote)) first behind count) → IsStep behind quote close
    → (front : List ℕ) × IsBehind first close front × Quoted quote (map Some run.front) front (chars close.rest.now)
inside quote first behind close count run step =
    (run.front ++ quote ∷ [], behind_step first behind close run.front quote run.behind step, quoted_plain quote run.front (chars close.rest.now) run.each)

-- ---- the end

pub reads_open : (quote : ℕ) (first behind : Cursor) (found : List ℕ) (is_legal : Bool) → is_quote quote ≡ true → Reads quote first behind found is_legal
    → (chars behind.rest.now ≡ []) ⊎ (chars behind.rest.now ≡ 92 ∷ []) → (cs : List (Option ℕ)) (front rest : List ℕ) → chars first.rest.now ≡ front ++ rest → Quoted quote cs front rest → ⊥
reads_open quote first behind found is_legal q h ends cs front rest e k =
    let b = h.back cs front rest e k in go b.1 rest (quoted_long quote b.0 b.1 rest b.3) ends b.2
  where
    go : (tail rest : List ℕ) → (tail ≡ quote ∷ []) ⊎ (2 ≤ length tail) → (chars behind.rest.now ≡ []) ⊎ (chars behind.rest.now ≡ 92 ∷ []) → chars behind.rest.now ≡ tail ++ rest → ⊥
    go tail rest (inl z) (inl none) e = cc (sym none ∙ e ∙ ap (λ t. t ++ rest) z)
    go tail rest (inl z) (inr one) e = no_backslash quote q (sym (cc (sym one ∙ e ∙ ap (λ t. t ++ rest) z)))
    go tail rest (inr z) (inl none) e = let l = ap length (sym none ∙ e) ∙ length-append tail rest in absurd (omega arith)
    go tail rest (inr z) (inr one) e = let l = ap length (sym one ∙ e) ∙ length-append tail rest in absurd (omega arith)

reads_close : (quote : ℕ) (first behind close : Cursor) (found : List ℕ) (is_legal : Bool) (h : Reads quote first behind found is_legal) → IsStep behind quote close
    → (front : List ℕ) × IsBehind first close front × Quoted quote h.cs front (chars close.rest.now)
reads_close quote first behind close found is_legal h step = (
  h.front ++ quote ∷ [],
  behind_step first behind close h.front quote h.read step,
  subst (λ cs. Quoted quote cs (h.front ++ quote ∷ []) (chars close.rest.now)) (append-nil h.cs)
      (h.on [] (quote ∷ []) (chars close.rest.now) step.chars_are (closes (chars close.rest.now))),
)

pub reads_all : (quote : ℕ) (first behind close : Cursor) (found : List ℕ) (is_legal : Bool) → Reads quote first behind found is_legal → IsStep behind quote close → is_legal ≡ true
    → (front : List ℕ) × IsBehind first close front × Quoted quote (map Some found) front (chars close.rest.now)
reads_all quote first behind close found is_legal h step e =
    let k = reads_close quote first behind close found is_legal h step in
    let are : h.cs ≡ map Some found = subst (λ b. IsLegal b h.cs found) e h.legal in
    (k.0, k.1, subst (λ cs. Quoted quote cs k.0 (chars close.rest.now)) are k.2)

pub reads_bad : (quote : ℕ) (first behind close : Cursor) (found : List ℕ) (is_legal : Bool) → Reads quote first behind found is_legal → IsStep behind quote close → is_legal ≡ false
    → (cs : List (Option ℕ)) × (front rest : List ℕ) × (chars first.rest.now ≡ front ++ rest) × Quoted quote cs front rest × HasNone cs
reads_bad quote first behind close found is_legal h step e =
    let k = reads_close quote first behind close found is_legal h step in
    (h.cs, k.0, chars close.rest.now, k.1.chars_are, k.2, subst (λ b. IsLegal b h.cs found) e h.legal)
