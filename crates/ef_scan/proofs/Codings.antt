-- Comments that name Latin-1 are found.
use Rattle.std.proofs.Common.{ℕ, ◌+◌, ◌<◌, ◌≤◌, ◌≡◌, Bool, true, false, List, [], ◌∷◌, ◌++◌, length, take, drop, chars, get_or, arith, refl, subst, sym, ap, ◌∙◌, append_assoc, add-one}
use Rattle.std.specs.Prelude.{◌==◌, ◌||◌, map, codes, Option, Some, None, is_some, IfSome, IfNone}
use Rattle.std.specs.Char.{to_ascii_lowercase}
use Rattle.std.proofs.lemmas.Bool.Decides.{nat_tests}
use Rattle.std.proofs.lemmas.List.{take_more, take_all}
use Rattle.std.proofs.Math.Seq.{drop-cons}
use Rattle.ef_base.specs.Characters.{Each, Stops}
use Rattle.ef_base.proofs.Escapes.{same_rest}
use Rattle.ef_scan.specs.declared.cursor.Cursor.{Cursor}
use Rattle.ef_scan.specs.Scan.{HasCoding, IsCodingHere}
use Rattle.ef_scan.specs.Coding.{cased}
use Rattle.ef_scan.specs.Cursors.{IsInText, IsStep, IsBehind, IsRun}
use Rattle.ef_scan.proofs.Escaping.{same_run}
use Rattle.ef_scan.proofs.Cursors.{behind_none, behind_step}

-- ---- words

-- so much of the word is read, and any reading of the word is one that goes on from here
pub record WordTo (in_any_case : Bool) (first behind : Cursor) (word : List ℕ) (n : ℕ) : Type 0 where
  pub front : List ℕ
  pub read : IsBehind first behind front
  pub is : map (cased in_any_case) front ≡ take n word
  pub only : (other rest : List ℕ) → chars first.rest.now ≡ other ++ rest → map (cased in_any_case) other ≡ word
      → (more : List ℕ) × (chars behind.rest.now ≡ more ++ rest) × (map (cased in_any_case) more ≡ drop n word)

pub word_none : (in_any_case : Bool) (first : Cursor) (word : List ℕ) → IsInText first → WordTo in_any_case first first word 0
word_none in_any_case first word inside = record {
  front = [];
  read = behind_none first inside;
  is = refl;
  only = λ other rest e w. (other, e, w);
}

map_snoc : (f : ℕ → ℕ) (cs : List ℕ) (c : ℕ) → map f (cs ++ c ∷ []) ≡ map f cs ++ f c ∷ []
map_snoc f [] c = refl
map_snoc f (d ∷ cs) c = ap (λ t. f d ∷ t) (map_snoc f cs c)

map_cons : (f : ℕ → ℕ) (more : List ℕ) (d : ℕ) (ds : List ℕ) → map f more ≡ d ∷ ds → (c : ℕ) × (cs : List ℕ) × (more ≡ c ∷ cs) × (f c ≡ d) × (map f cs ≡ ds)
map_cons f [] d ds e = cc e
map_cons f (c ∷ cs) d ds e = (c, cs, refl, cc e, cc e)

next_left : (behind next : Cursor) (c d : ℕ) (more rest : List ℕ) → IsStep behind c next → chars behind.rest.now ≡ d ∷ (more ++ rest) → (c ≡ d) × (chars next.rest.now ≡ more ++ rest)
next_left behind next c d more rest step e = both (sym step.chars_are ∙ e)
  where
    both : c ∷ chars next.rest.now ≡ d ∷ (more ++ rest) → (c ≡ d) × (chars next.rest.now ≡ more ++ rest)
    both z = (cc z, cc z)

not_none : (text : List ℕ) (c : ℕ) (more : List ℕ) → text ≡ [] → text ≡ c ∷ more → ⊥
not_none text c more e h = cc (e, h)

drop_at : (word : List ℕ) (n : ℕ) → n < length word → drop n word ≡ get_or word n 0 ∷ drop (n + 1) word
drop_at word n l = rw (add-one n) (drop-cons word n 0 l)

pub word_more : (in_any_case : Bool) (first behind next : Cursor) (word : List ℕ) (n c d : ℕ) → WordTo in_any_case first behind word n → n < length word → IsStep behind c next → cased in_any_case c ≡ d
    → d ≡ get_or word n 0 → WordTo in_any_case first next word (n + 1)
word_more in_any_case first behind next word n c d h l step e at = record {
  front = h.front ++ c ∷ [];
  read = behind_step first behind next h.front c h.read step;
  is = map_snoc (cased in_any_case) h.front c ∙ ap (λ t. t ++ cased in_any_case c ∷ []) h.is ∙ ap (λ z. take n word ++ z ∷ []) (e ∙ at) ∙ sym (take_more word n 0 l);
  only = λ other rest is w.
      let k = h.only other rest is w in
      let m = map_cons (cased in_any_case) k.0 (get_or word n 0) (drop (n + 1) word) (k.2 ∙ drop_at word n l) in
      (m.1, (next_left behind next c m.0 m.1 rest step (k.1 ∙ ap (λ t. t ++ rest) m.2)).1, m.4);
}

pub word_all : (in_any_case : Bool) (first behind : Cursor) (word : List ℕ) (n : ℕ) → WordTo in_any_case first behind word n → length word ≤ n
    → (front : List ℕ) × IsBehind first behind front × (map (cased in_any_case) front ≡ word)
word_all in_any_case first behind word n h l = (h.front, h.read, h.is ∙ take_all n word l)

-- another character, or none
pub word_other : (in_any_case : Bool) (first behind next : Cursor) (word : List ℕ) (n c d : ℕ) → WordTo in_any_case first behind word n → n < length word → IsStep behind c next → (cased in_any_case c ≡ d → ⊥)
    → d ≡ get_or word n 0 → (front rest : List ℕ) → chars first.rest.now ≡ front ++ rest → map (cased in_any_case) front ≡ word → ⊥
word_other in_any_case first behind next word n c d h l step never at front rest e w =
    let k = h.only front rest e w in
    let m = map_cons (cased in_any_case) k.0 (get_or word n 0) (drop (n + 1) word) (k.2 ∙ drop_at word n l) in
    let same : c ≡ m.0 = (next_left behind next c m.0 m.1 rest step (k.1 ∙ ap (λ t. t ++ rest) m.2)).0 in
    never (ap (cased in_any_case) same ∙ m.3 ∙ sym at)

pub word_end : (in_any_case : Bool) (first behind : Cursor) (word : List ℕ) (n : ℕ) → WordTo in_any_case first behind word n → n < length word → chars behind.rest.now ≡ []
    → (front rest : List ℕ) → chars first.rest.now ≡ front ++ rest → map (cased in_any_case) front ≡ word → ⊥
word_end in_any_case first behind word n h l none front rest e w =
    let k = h.only front rest e w in
    let m = map_cons (cased in_any_case) k.0 (get_or word n 0) (drop (n + 1) word) (k.2 ∙ drop_at word n l) in
    not_none (chars behind.rest.now) m.0 (m.1 ++ rest) none (k.1 ∙ ap (λ t. t ++ rest) m.2)

-- ---- the search

-- so far no place names Latin-1
pub record Sought (text : List ℕ) (behind : Cursor) : Type 0 where
  pub front : List ℕ
  pub is : text ≡ front ++ chars behind.rest.now
  pub in_text : IsInText behind
  pub only : (other rest : List ℕ) → text ≡ other ++ rest → IsCodingHere rest → (more : List ℕ) × (chars behind.rest.now ≡ more ++ rest)

pub sought_none : (text : List ℕ) (first : Cursor) → IsInText first → text ≡ chars first.rest.now → Sought text first
sought_none text first inside e = record { front = []; is = e; in_text = inside; only = λ other rest is c. (other, sym e ∙ is) }

pub sought_more : (text : List ℕ) (behind next : Cursor) (c : ℕ) → Sought text behind → (IsCodingHere (chars behind.rest.now) → ⊥) → IsStep behind c next → Sought text next
sought_more text behind next c h never step = record {
  front = h.front ++ c ∷ [];
  is = h.is ∙ ap (λ t. h.front ++ t) step.chars_are ∙ sym (append_assoc h.front (c ∷ []) (chars next.rest.now));
  in_text = step.in_text;
  only = λ other rest is k. let m = h.only other rest is k in go rest k m.0 m.1;
}
  where
    go : (rest : List ℕ) → IsCodingHere rest → (more : List ℕ) → chars behind.rest.now ≡ more ++ rest → (more : List ℕ) × (chars next.rest.now ≡ more ++ rest)
    go rest k [] e = absurd (never (subst IsCodingHere (sym e) k))
    go rest k (d ∷ more) e = (more, cc (step.chars_are, e))

pub sought_found : (text : List ℕ) (behind : Cursor) → Sought text behind → IsCodingHere (chars behind.rest.now) → HasCoding text
sought_found text behind h k = (h.front, chars behind.rest.now, h.is, k)

pub sought_all : (text : List ℕ) (behind : Cursor) → Sought text behind → (IsCodingHere (chars behind.rest.now) → ⊥) → chars behind.rest.now ≡ [] → HasCoding text → ⊥
sought_all text behind h never none k =
    let m = h.only k.0 k.1 k.2 k.3 in
    never (subst IsCodingHere (nothing m.0 k.1 (sym none ∙ m.1)) k.3)
  where
    nothing : (more rest : List ℕ) → [] ≡ more ++ rest → rest ≡ chars behind.rest.now
    nothing [] rest e = sym e ∙ sym none
    nothing (c ∷ more) rest e = cc e

-- ---- what stands at a place

map_same : (cs : List ℕ) → map (cased false) cs ≡ cs
map_same [] = refl
map_same (c ∷ cs) = ap (λ t. c ∷ t) (map_same cs)

after_coding : (first behind : Cursor) (front rest : List ℕ) → IsBehind first behind front → map (cased false) front ≡ codes "coding" → chars first.rest.now ≡ codes "coding" ++ rest → chars behind.rest.now ≡ rest
after_coding first behind front rest h e is =
    let same : front ≡ codes "coding" = sym (map_same front) ∙ e in
    same_rest (codes "coding") (chars behind.rest.now) rest (ap (λ t. t ++ chars behind.rest.now) (sym same) ∙ sym h.chars_are ∙ is)

after_spaces : (behind second : Cursor) (count : ℕ) (bs more : List ℕ) → IsRun (λ c. c == 32) behind second count → Each (λ c. c == 32) bs → Stops (λ c. c == 32) more → chars behind.rest.now ≡ bs ++ more → chars second.rest.now ≡ more
after_spaces behind second count bs more run each stops e =
    let whole : run.front ++ chars second.rest.now ≡ bs ++ more = sym run.behind.chars_are ∙ e in
    let same : run.front ≡ bs = same_run (λ c. c == 32) run.front bs (chars second.rest.now) more run.each each run.stops stops whole in
    same_rest bs (chars second.rest.now) more (ap (λ t. t ++ chars second.rest.now) (sym same) ∙ whole)

sign_stops : (sign : ℕ) → (sign == 58 || sign == 61) ≡ true → (sign == 32) ≡ false
sign_stops sign h = grind (arith, nat_tests)

name_stops : (name rest : List ℕ) → map to_ascii_lowercase name ≡ codes "latin-1" → Stops (λ c. c == 32) (name ++ rest)
name_stops [] rest e = cc e
name_stops (c ∷ name) rest e = first c (cc e)
  where
    first : (c : ℕ) → to_ascii_lowercase c ≡ 108 → (c == 32) ≡ false
    first c h = grind (arith, nat_tests)

pub no_word_here : (first : Cursor) → ((front rest : List ℕ) → chars first.rest.now ≡ front ++ rest → map (cased false) front ≡ codes "coding" → ⊥) → IsCodingHere (chars first.rest.now) → ⊥
no_word_here first none h = none (codes "coding") (h.before ++ h.sign ∷ (h.behind ++ (h.name ++ h.rest))) h.is (map_same (codes "coding"))

module _ (first behind second : Cursor) (count : ℕ) (read : (front : List ℕ) × IsBehind first behind front × (map (cased false) front ≡ codes "coding")) (run : IsRun (λ c. c == 32) behind second count) where
  at_sign : (h : IsCodingHere (chars first.rest.now)) → chars second.rest.now ≡ h.sign ∷ (h.behind ++ (h.name ++ h.rest))
  at_sign h =
      after_spaces behind second count h.before (h.sign ∷ (h.behind ++ (h.name ++ h.rest))) run h.spaces.0 (sign_stops h.sign h.is_sign)
      (after_coding first behind read.0 (h.before ++ h.sign ∷ (h.behind ++ (h.name ++ h.rest))) read.1 read.2 h.is)

  pub no_sign_here : Stops (λ c. c == 58 || c == 61) (chars second.rest.now) → IsCodingHere (chars first.rest.now) → ⊥
  no_sign_here stops h =
      let never : (h.sign == 58 || h.sign == 61) ≡ false = subst (Stops (λ c. c == 58 || c == 61)) (at_sign h) stops in
      let yes = h.is_sign in cc (yes, never)

  module _ (third fourth : Cursor) (times : ℕ) (sign : (c : ℕ) × IsStep second c third × ((c == 58 || c == 61) ≡ true)) (spaces : IsRun (λ c. c == 32) third fourth times) where
    pub no_name_here : ((front rest : List ℕ) → chars fourth.rest.now ≡ front ++ rest → map (cased true) front ≡ codes "latin-1" → ⊥) → IsCodingHere (chars first.rest.now) → ⊥
    no_name_here none h =
        let left : chars third.rest.now ≡ h.behind ++ (h.name ++ h.rest) = tail (sym sign.1.chars_are ∙ at_sign h) in
        none h.name h.rest (after_spaces third fourth times h.behind (h.name ++ h.rest) spaces h.spaces.1 (name_stops h.name h.rest h.is_name) left) h.is_name
      where
        tail : {c d : ℕ} {a b : List ℕ} → c ∷ a ≡ d ∷ b → a ≡ b
        tail e = cc e

    pub coding_here : (fifth : Cursor) → (front : List ℕ) × IsBehind fourth fifth front × (map (cased true) front ≡ codes "latin-1") → IsCodingHere (chars first.rest.now)
    coding_here fifth name = record {
      before = run.front;
      sign = sign.0;
      behind = spaces.front;
      name = name.0;
      rest = chars fifth.rest.now;
      is =
          read.1.chars_are ∙ ap (λ t. t ++ chars behind.rest.now) (sym (map_same read.0) ∙ read.2)
          ∙ ap (λ t. codes "coding" ++ t)
          (run.behind.chars_are ∙ ap (λ t. run.front ++ t) (sign.1.chars_are ∙ ap (λ t. sign.0 ∷ t) (spaces.behind.chars_are ∙ ap (λ t. spaces.front ++ t) name.1.chars_are)));
      spaces = (run.each, spaces.each);
      is_sign = sign.2;
      is_name = name.2;
    }

-- whether there is an answer
pub is_there : {T : Type 0} {P : Type 0} (r : Option T) (Q : T → Type 0) (N : Type 0) → IfSome r Q → IfNone r N → ((x : T) → Q x → P) → (N → P → ⊥) → (is_some r ≡ true → P) × (P → is_some r ≡ true)
is_there (Some x) Q N some none f g = (λ e. f x some, λ p. refl)
is_there None Q N some none f g = (λ e. cc e, λ p. absurd (g none p))
