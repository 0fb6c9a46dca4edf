-- A text behind `\` begins with one escape, and a quoted text ends at one place.
use Rattle.std.specs.Prelude.{ℕ, ◌%◌, ◌<◌, ◌≡◌, ◌⊎◌, ◌||◌, ◌==◌, Bool, true, false, List, [], ◌∷◌, ◌++◌, length, take, if◌then◌else◌, Some, unwrap_or, refl}
use Rattle.std.proofs.Common.{ap, ◌∙◌, sym, subst, arith, inl, inr, append_assoc, append-nil}
use Rattle.std.proofs.lemmas.Bool.Decides.{nat_tests}
use Rattle.std.proofs.lemmas.List.{take_all}
use Rattle.std.proofs.Math.Seq.{take-append_seam}
use Rattle.ef_base.specs.Characters.{Stops, Each}
use Rattle.ef_base.specs.Escape.{Escape, by_letter, by_octal, by_two, by_braces, by_control, by_question, itself, Written, plainly, escaped, WrittenAll, named, is_octal, is_hex, value_after}

-- the longest front of characters of the class
abbrev pub run : (ℕ → Bool) → List ℕ → List ℕ
run p [] = []
run p (c ∷ cs) = if p c then c ∷ run p cs else []

pub run-append : (p : ℕ → Bool) (ds rest : List ℕ) → Each p ds → run p (ds ++ rest) ≡ ds ++ run p rest
run-append p [] rest h = refl
run-append p (d ∷ ds) rest h = rw h.0 (ap (λ t. d ∷ t) (run-append p ds rest h.1))

pub run-stops : (p : ℕ → Bool) (rest : List ℕ) → Stops p rest → run p rest ≡ []
run-stops p [] h = refl
run-stops p (c ∷ cs) h = rw h refl

letter_is : (c d : ℕ) → named c ≡ Some d → (is_octal c || c == 120 || c == 94) ≡ false
letter_is c d h = grind (arith, nat_tests)

-- ---- one escape

abbrev hex_escape_at : List ℕ → ℕ × List ℕ
hex_escape_at [] = (0, [])
hex_escape_at (a ∷ cs) =
    if a == 123 then (value_after 16 0 (run is_hex cs), 120 ∷ 123 ∷ (run is_hex cs ++ 125 ∷ []))
    else (value_after 16 0 (take 2 (a ∷ cs)), 120 ∷ take 2 (a ∷ cs))

abbrev control_escape_at : List ℕ → ℕ × List ℕ
control_escape_at [] = (0, [])
control_escape_at (c ∷ cs) = (if c == 63 then 127 else c % 32, 94 ∷ c ∷ [])

abbrev octal_escape_at : List ℕ → ℕ × List ℕ
octal_escape_at cs = (value_after 8 0 (take 3 (run is_octal cs)), take 3 (run is_octal cs))

-- the escape with which a text behind `\` begins: its character, and how it is written
abbrev pub escape_at : List ℕ → ℕ × List ℕ
escape_at [] = (0, [])
escape_at (c ∷ cs) =
    if is_octal c then octal_escape_at (c ∷ cs) else if c == 120 then hex_escape_at cs else if c == 94 then control_escape_at cs
    else (unwrap_or (named c) c, c ∷ [])

octal_front : (ds rest : List ℕ) → Each is_octal ds → (length ds ≡ 3) ⊎ ((length ds < 3) × Stops is_octal rest)
    → take 3 (run is_octal (ds ++ rest)) ≡ ds
octal_front ds rest each (inl three) =
    rw (run-append is_octal ds rest each) (subst (λ n. take n (ds ++ run is_octal rest) ≡ ds) three (take-append_seam ds (run is_octal rest)))
octal_front ds rest each (inr few) =
    rw (run-append is_octal ds rest each, run-stops is_octal rest few.1, append-nil ds) (take_all 3 ds (omega arith))

not_brace : (a : ℕ) → is_hex a ≡ true → (a == 123) ≡ false
not_brace a h = grind (arith, nat_tests)

brace_front : (ds rest : List ℕ) → Each is_hex ds → run is_hex ((ds ++ 125 ∷ []) ++ rest) ≡ ds
brace_front ds rest each = rw (append_assoc ds (125 ∷ []) rest, run-append is_hex ds (125 ∷ rest) each) (append-nil ds)

if_true : {A : Type 0} (b : Bool) (x y : A) → b ≡ true → (if b then x else y) ≡ x
if_true b x y e = ap (λ b. if b then x else y) e

if_false : {A : Type 0} (b : Bool) (x y : A) → b ≡ false → (if b then x else y) ≡ y
if_false b x y e = ap (λ b. if b then x else y) e

none_of : (a b c : Bool) → (a || b || c) ≡ false → (a ≡ false) × (b ≡ false) × (c ≡ false)
none_of true b c e = cc
none_of false true c e = cc
none_of false false c e = (refl, refl, e)

at_letter : (c : ℕ) (cs : List ℕ) → (is_octal c || c == 120 || c == 94) ≡ false → escape_at (c ∷ cs) ≡ (unwrap_or (named c) c, c ∷ [])
at_letter c cs other =
    let no = none_of (is_octal c) (c == 120) (c == 94) other in
    if_false (is_octal c) _ _ no.0 ∙ if_false (c == 120) _ _ no.1 ∙ if_false (c == 94) _ _ no.2

pub escape_begins : (c : ℕ) (front rest : List ℕ) → Escape c front rest → escape_at (front ++ rest) ≡ (c, front)
escape_begins _ _ _ (by_letter letter c rest e) =
    at_letter letter rest (letter_is letter c e) ∙ ap {B = ℕ × List ℕ} (λ o. (unwrap_or o letter, letter ∷ [])) e
escape_begins _ _ _ (by_octal [] rest some each long) = absurd (omega arith)
escape_begins _ _ _ (by_octal (d ∷ ds) rest some each long) =
    if_true (is_octal d) _ _ each.0 ∙ ap {B = ℕ × List ℕ} (λ es. (value_after 8 0 es, es)) (octal_front (d ∷ ds) rest each long)
escape_begins _ _ _ (by_two a b rest each) = if_false (a == 123) _ _ (not_brace a each.0)
escape_begins _ _ _ (by_braces ds rest some each is) =
    ap {B = ℕ × List ℕ} (λ es. (value_after 16 0 es, 120 ∷ 123 ∷ (es ++ 125 ∷ []))) (brace_front ds rest each)
escape_begins _ _ _ (by_control c rest is) =
    let other : (c == 63) ≡ false = grind (arith, nat_tests) in
    ap {B = ℕ × List ℕ} (λ b. (if b then 127 else c % 32, 94 ∷ c ∷ [])) other
escape_begins _ _ _ (by_question rest) = refl
escape_begins _ _ _ (itself c rest unnamed other) =
    at_letter c rest other ∙ ap {B = ℕ × List ℕ} (λ o. (unwrap_or o c, c ∷ [])) unnamed

-- a text begins with one escape
pub one_escape : (c d : ℕ) (front other rest behind : List ℕ) → Escape c front rest → Escape d other behind
    → front ++ rest ≡ other ++ behind → (c ≡ d) × (front ≡ other)
one_escape c d front other rest behind h k e =
    let same : (c, front) ≡ (d, other) = sym (escape_begins c front rest h) ∙ ap escape_at e ∙ escape_begins d other behind k in
    (ap (λ p. p.0) same, ap (λ p. p.1) same)

-- ---- one character

abbrev written_at : List ℕ → ℕ × List ℕ
written_at [] = (0, [])
written_at (c ∷ cs) = if c == 92 then ((escape_at cs).0, 92 ∷ (escape_at cs).1) else (c, c ∷ [])

written_begins : (special : ℕ → Bool) (c : ℕ) (front rest : List ℕ) → Written special c front rest → written_at (front ++ rest) ≡ (c, front)
written_begins special _ _ _ (plainly c rest other) = if_false (c == 92) _ _ (second (special c) (c == 92) other)
  where
    second : (a b : Bool) → (a || b) ≡ false → b ≡ false
    second true b e = cc
    second false b e = e
written_begins special _ _ _ (escaped c front rest is) =
    ap {B = ℕ × List ℕ} (λ (p : ℕ × List ℕ). (p.0, 92 ∷ p.1)) (escape_begins c front rest is)

-- and with one character
pub one_written : (special : ℕ → Bool) (c d : ℕ) (front other rest behind : List ℕ) → Written special c front rest → Written special d other behind
    → front ++ rest ≡ other ++ behind → (c ≡ d) × (front ≡ other)
one_written special c d front other rest behind h k e =
    let same : (c, front) ≡ (d, other) = sym (written_begins special c front rest h) ∙ ap written_at e ∙ written_begins special d other behind k in
    (ap (λ p. p.0) same, ap (λ p. p.1) same)

-- what is behind counts only as octal digits may go on with an escape
escape_before : (c : ℕ) (front rest behind : List ℕ) → (Stops is_octal rest → Stops is_octal behind) → Escape c front rest → Escape c front behind
escape_before _ _ _ behind f (by_letter letter c rest e) = by_letter letter c behind e
escape_before _ _ _ behind f (by_octal ds rest some each (inl three)) = by_octal ds behind some each (inl three)
escape_before _ _ _ behind f (by_octal ds rest some each (inr few)) = by_octal ds behind some each (inr (few.0, f few.1))
escape_before _ _ _ behind f (by_two a b rest each) = by_two a b behind each
escape_before _ _ _ behind f (by_braces ds rest some each is) = by_braces ds behind some each is
escape_before _ _ _ behind f (by_control c rest is) = by_control c behind is
escape_before _ _ _ behind f (by_question rest) = by_question behind
escape_before _ _ _ behind f (itself c rest unnamed other) = itself c behind unnamed other

written_before : (special : ℕ → Bool) (c : ℕ) (front rest behind : List ℕ) → (Stops is_octal rest → Stops is_octal behind)
    → Written special c front rest → Written special c front behind
written_before special _ _ _ behind f (plainly c rest other) = plainly c behind other
written_before special _ _ _ behind f (escaped c front rest is) = escaped c front behind (escape_before c front rest behind f is)

-- ---- quoted texts

pub same_rest : (front a b : List ℕ) → front ++ a ≡ front ++ b → a ≡ b
same_rest [] a b e = e
same_rest (c ∷ front) a b e = same_rest front a b (cc e)

module _ (quote : ℕ) (plain : (quote == 92) ≡ false) where
  no_quote : (c : ℕ) (front rest behind : List ℕ) → Written (λ c. c == quote) c front rest → quote ∷ behind ≡ front ++ rest → ⊥
  no_quote _ _ _ behind (plainly c rest other) e = let same : c ≡ quote = cc e in grind (arith, nat_tests)
  no_quote _ _ _ behind (escaped c front rest is) e = let same : 92 ≡ quote = cc e in grind (arith, nat_tests)

  written_on : (c : ℕ) (front more a : List ℕ) → Written (λ c. c == quote) c front (more ++ quote ∷ []) → Written (λ c. c == quote) c front (more ++ quote ∷ a)
  written_on c front more a = written_before (λ c. c == quote) c front (more ++ quote ∷ []) (more ++ quote ∷ a) (stops more)
    where
      stops : (more : List ℕ) → Stops is_octal (more ++ quote ∷ []) → Stops is_octal (more ++ quote ∷ a)
      stops [] h = h
      stops (c ∷ more) h = h

  split : (text front more a : List ℕ) → text ≡ front ++ more → text ++ quote ∷ a ≡ front ++ (more ++ quote ∷ a)
  split text front more a e = ap (λ t. t ++ quote ∷ a) e ∙ append_assoc front more (quote ∷ a)

  -- a text in quotes ends at its first quote that stands in no escape
  pub one_quoted : (cs ds text other a b : List ℕ) → WrittenAll (λ c. c == quote) cs text (quote ∷ []) → WrittenAll (λ c. c == quote) ds other (quote ∷ [])
      → text ++ quote ∷ a ≡ other ++ quote ∷ b → (cs ≡ ds) × (text ≡ other)
  one_quoted [] [] text other a b h k e = (refl, h ∙ sym k)
  one_quoted [] (d ∷ ds) text other a b h k e =
      let whole : quote ∷ a ≡ k.0 ++ (k.1 ++ quote ∷ b) = sym (ap (λ t. t ++ quote ∷ a) h) ∙ e ∙ split other k.0 k.1 b k.2 in
      absurd (no_quote d k.0 (k.1 ++ quote ∷ b) a (written_on d k.0 k.1 b k.3) whole)
  one_quoted (c ∷ cs) [] text other a b h k e =
      let whole : quote ∷ b ≡ h.0 ++ (h.1 ++ quote ∷ a) = sym (ap (λ t. t ++ quote ∷ b) k) ∙ sym e ∙ split text h.0 h.1 a h.2 in
      absurd (no_quote c h.0 (h.1 ++ quote ∷ a) b (written_on c h.0 h.1 a h.3) whole)
  one_quoted (c ∷ cs) (d ∷ ds) text other a b h k e =
      let whole : h.0 ++ (h.1 ++ quote ∷ a) ≡ k.0 ++ (k.1 ++ quote ∷ b) = sym (split text h.0 h.1 a h.2) ∙ e ∙ split other k.0 k.1 b k.2 in
      let here = one_written (λ c. c == quote) c d h.0 k.0 _ _ (written_on c h.0 h.1 a h.3) (written_on d k.0 k.1 b k.3) whole in
      let rest : h.1 ++ quote ∷ a ≡ k.1 ++ quote ∷ b = same_rest h.0 _ _ (whole ∙ ap (λ t. t ++ (k.1 ++ quote ∷ b)) (sym here.1)) in
      let more = one_quoted cs ds h.1 k.1 a b h.4 k.4 rest in
      (λ i. here.0 i ∷ more.0 i, h.2 ∙ (λ i. here.1 i ++ more.1 i) ∙ sym k.2)
