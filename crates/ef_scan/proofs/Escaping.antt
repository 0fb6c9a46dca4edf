-- Escapes as they are read, one character after another.
use Rattle.std.proofs.Common.{ℕ, ◌+◌, ◌*◌, ◌≤◌, ◌≡◌, Bool, true, false, List, [], ◌∷◌, ◌++◌, length, chars, arith, refl, subst, sym, ap, ◌∙◌, append_assoc, append-nil, length-append, inl, inr}
use Rattle.std.specs.Prelude.{◌⊎◌, ◌==◌, ◌||◌, ◌%◌, Option, Some, None, IfSome, IfNone, unwrap_or}
use Rattle.std.specs.Char.{digit_value}
use Rattle.std.proofs.lemmas.Bool.Decides.{nat_tests}
use Rattle.ef_base.specs.Characters.{Stops, Each, is_within}
use Rattle.ef_base.specs.Escape as escape
use Rattle.ef_base.specs.Escape.{Escape, by_letter, by_octal, by_two, by_braces, by_control, by_question, itself, Written, plainly, escaped, named, is_octal, is_hex, value_after, IsCharacter}
use Rattle.ef_base.proofs.Escapes.{run, run-append, run-stops, same_rest}
use Rattle.ef_token.specs.Numerals.{is_digit_of}
use Rattle.ef_token.specs.Lexeme.{IsIllegalEscape}
use Rattle.ef_base.proofs.Classes.{each_append}
use Rattle.ef_scan.specs.declared.cursor.Cursor.{Cursor}
use Rattle.ef_scan.specs.Cursors.{IsStep, IsBehind}
use Rattle.ef_scan.specs.Numbers.{IsDigit}
use Rattle.ef_scan.specs.declared.escape.Written.{Written as Found}
use Rattle.ef_scan.specs.declared.escape.Written.TheVariants as written
use Rattle.ef_scan.specs.Escapes.{IsEscape, HasNoEscape, IsCapped, IsEscaped, IsWritten}
use Rattle.ef_scan.proofs.Cursors.{step_behind, behind_step, behind_all}
use Rattle.ef_token.proofs.Numerals.{digit_below}

pub if_none : {T : Type 0} {P : Type 0} (r : Option T) → P → IfNone r P
if_none None p = p
if_none (Some x) p = tt

-- ---- digits

octal_digit : (c : ℕ) → is_digit_of 8 c ≡ true → (is_octal c ≡ true) × (escape.digit_value c ≡ digit_value c)
octal_digit c h = (grind (arith, nat_tests), grind (arith, nat_tests))

octal_is : (c : ℕ) → is_octal c ≡ true → is_digit_of 8 c ≡ true
octal_is c h = grind (arith, nat_tests)

hex_digit : (c : ℕ) → is_digit_of 16 c ≡ true → (is_hex c ≡ true) × (escape.digit_value c ≡ digit_value c)
hex_digit c h = (grind (arith, nat_tests), grind (arith, nat_tests))

hex_is : (c : ℕ) → is_hex c ≡ true → is_digit_of 16 c ≡ true
hex_is c h = grind (arith, nat_tests)

-- a test that holds nowhere where another does not
not_weaker : (p q : ℕ → Bool) (c : ℕ) → (q c ≡ true → p c ≡ true) → p c ≡ false → q c ≡ false
not_weaker p q c f h = go (q c) refl
  where
    go : (b : Bool) → q c ≡ b → q c ≡ false
    go true e = let yes : p c ≡ true = f e in cc
    go false e = e

pub stops_weaker : (p q : ℕ → Bool) (text : List ℕ) → ((c : ℕ) → q c ≡ true → p c ≡ true) → Stops p text → Stops q text
stops_weaker p q [] f s = tt
stops_weaker p q (c ∷ cs) f s = not_weaker p q c (f c) s

pub stops_octal : (text : List ℕ) → Stops (is_digit_of 8) text → Stops is_octal text
stops_octal text s = stops_weaker (is_digit_of 8) is_octal text octal_is s

pub stops_hex : (text : List ℕ) → Stops (is_digit_of 16) text → Stops is_hex text
stops_hex text s = stops_weaker (is_digit_of 16) is_hex text hex_is s

-- ---- octal digits

pub octal_one : (first second : Cursor) (a c : ℕ) → IsDigit 8 first a second → c ≡ a → Stops (is_digit_of 8) (chars second.rest.now) → IsEscape [] first c second
octal_one first second a c h e s =
    let x = octal_digit h.c h.is_digit in
    let v : value_after 8 0 (h.c ∷ []) ≡ c = omega (arith, x.1, h.value, e) in (
      h.c ∷ [],
      step_behind first second h.c h.step,
      subst (λ (n : ℕ). Escape n (h.c ∷ []) (chars second.rest.now)) v
          (by_octal (h.c ∷ []) (chars second.rest.now) (omega arith) (x.0, tt) (inr (omega arith, stops_octal (chars second.rest.now) s))),
    )

pub octal_two : (first second third : Cursor) (a b c : ℕ) → IsDigit 8 first a second → IsDigit 8 second b third → c ≡ 8 * a + b → Stops (is_digit_of 8) (chars third.rest.now) → IsEscape [] first c third
octal_two first second third a b c h k e s =
    let x = octal_digit h.c h.is_digit in
    let y = octal_digit k.c k.is_digit in
    let v : value_after 8 0 (h.c ∷ k.c ∷ []) ≡ c = omega (arith, x.1, y.1, h.value, k.value, e) in (
      h.c ∷ k.c ∷ [],
      behind_step first second third (h.c ∷ []) k.c (step_behind first second h.c h.step) k.step,
      subst (λ (n : ℕ). Escape n (h.c ∷ k.c ∷ []) (chars third.rest.now)) v
          (by_octal (h.c ∷ k.c ∷ []) (chars third.rest.now) (omega arith) (x.0, (y.0, tt)) (inr (omega arith, stops_octal (chars third.rest.now) s))),
    )

pub octal_three : (first second third fourth : Cursor) (a b c d : ℕ) → IsDigit 8 first a second → IsDigit 8 second b third → IsDigit 8 third d fourth → c ≡ 8 * (8 * a + b) + d → IsEscape [] first c fourth
octal_three first second third fourth a b c d h k l e =
    let x = octal_digit h.c h.is_digit in
    let y = octal_digit k.c k.is_digit in
    let z = octal_digit l.c l.is_digit in
    let v : value_after 8 0 (h.c ∷ k.c ∷ l.c ∷ []) ≡ c = omega (arith, x.1, y.1, z.1, h.value, k.value, l.value, e) in (
      h.c ∷ k.c ∷ l.c ∷ [],
      behind_step first third fourth (h.c ∷ k.c ∷ []) l.c (behind_step first second third (h.c ∷ []) k.c (step_behind first second h.c h.step) k.step) l.step,
      subst (λ (n : ℕ). Escape n (h.c ∷ k.c ∷ l.c ∷ []) (chars fourth.rest.now)) v (by_octal (h.c ∷ k.c ∷ l.c ∷ []) (chars fourth.rest.now) (omega arith) (x.0, (y.0, (z.0, tt))) (inl refl)),
    )

-- ---- what may begin with `x`

abbrev first_of : List ℕ → ℕ
first_of [] = 0
first_of (c ∷ cs) = c

abbrev pub HasTwo : List ℕ → Type 0
HasTwo text = (a b : ℕ) × (rest : List ℕ) × (text ≡ a ∷ b ∷ rest) × Each is_hex (a ∷ b ∷ [])

abbrev pub HasBraces : List ℕ → Type 0
HasBraces text = (ds rest : List ℕ) × (text ≡ 123 ∷ (ds ++ 125 ∷ rest)) × (1 ≤ length ds) × Each is_hex ds × IsCharacter (value_after 16 0 ds)

pub x_escapes : (text : List ℕ) (c : ℕ) (front rest : List ℕ) → Escape c front rest → 120 ∷ text ≡ front ++ rest → HasTwo text ⊎ HasBraces text
x_escapes text _ _ _ (by_letter letter c rest e) is =
    let same : 120 ≡ letter = cc is in
    let no : None ≡ Some c = subst (λ l. named l ≡ Some c) (sym same) e in cc no
x_escapes text _ _ _ (by_octal [] rest some each long) is = absurd (omega arith)
x_escapes text _ _ _ (by_octal (d ∷ ds) rest some each long) is =
    let same : 120 ≡ d = cc is in
    let no : is_octal 120 ≡ true = subst (λ l. is_octal l ≡ true) (sym same) each.0 in cc no
x_escapes text _ _ _ (by_two a b rest each) is = inl (a, b, rest, cc is, each)
x_escapes text _ _ _ (by_braces ds rest some each isc) is = inr (ds, rest, cc is ∙ ap (λ t. 123 ∷ t) (append_assoc ds (125 ∷ []) rest), some, each, isc)
x_escapes text _ _ _ (by_control c rest k) is = absurd (omega (arith, ap first_of is))
x_escapes text _ _ _ (by_question rest) is = absurd (omega (arith, ap first_of is))
x_escapes text _ _ _ (itself c rest unnamed other) is =
    let same : 120 ≡ c = cc is in
    let no : (is_octal 120 || 120 == 120 || 120 == 94) ≡ false = subst (λ l. (is_octal l || l == 120 || l == 94) ≡ false) (sym same) other in cc no

pub no_x : (text : List ℕ) → (HasTwo text → ⊥) → (HasBraces text → ⊥) → HasNoEscape (120 ∷ []) text
no_x text f g c front rest e h = go (x_escapes text c front rest h e)
  where
    go : HasTwo text ⊎ HasBraces text → ⊥
    go (inl k) = f k
    go (inr k) = g k

brace_no_hex : (c : ℕ) → is_hex c ≡ true → (c ≡ 123 → ⊥) × (c ≡ 125 → ⊥)
brace_no_hex c h = (λ e. absurd (grind (arith, nat_tests)), λ e. absurd (grind (arith, nat_tests)))

-- behind `x` stands nothing
pub nothing_behind_x : (text : List ℕ) → text ≡ [] → HasNoEscape (120 ∷ []) text
nothing_behind_x text e = no_x text (λ k. cc (e, k.3)) (λ k. cc (e, k.2))

-- no brace and no digit
pub one_not_hex : (text : List ℕ) → Stops (λ c. c == 123) text → Stops (is_digit_of 16) text → HasNoEscape (120 ∷ []) text
one_not_hex text brace s = no_x text (λ k. first text k.0 (k.1 ∷ k.2) k.3 k.4.0 s) (λ k. second text (k.0 ++ 125 ∷ k.1) k.2 brace)
  where
    first : (text : List ℕ) (a : ℕ) (more : List ℕ) → text ≡ a ∷ more → is_hex a ≡ true → Stops (is_digit_of 16) text → ⊥
    first text a more e h s =
        let yes : is_digit_of 16 a ≡ true = hex_is a h in
        let no : is_digit_of 16 a ≡ false = subst (Stops (is_digit_of 16)) e s in cc

    second : (text more : List ℕ) → text ≡ 123 ∷ more → Stops (λ c. c == 123) text → ⊥
    second text more e s = let no : (123 == 123) ≡ false = subst (Stops (λ c. c == 123)) e s in cc no

-- no brace, and one digit alone
pub two_not_hex : (first second : Cursor) (a : ℕ) → Stops (λ c. c == 123) (chars first.rest.now) → IsDigit 16 first a second → Stops (is_digit_of 16) (chars second.rest.now)
    → HasNoEscape (120 ∷ []) (chars first.rest.now)
two_not_hex first second a brace h s = no_x (chars first.rest.now) (λ k. two k) (λ k. braces k)
  where
    two : HasTwo (chars first.rest.now) → ⊥
    two k =
        let e : chars second.rest.now ≡ k.1 ∷ k.2 = cc (h.step.chars_are, k.3) in
        let yes : is_digit_of 16 k.1 ≡ true = hex_is k.1 k.4.1.0 in
        let no : is_digit_of 16 k.1 ≡ false = subst (Stops (is_digit_of 16)) e s in cc

    braces : HasBraces (chars first.rest.now) → ⊥
    braces k = let no : (123 == 123) ≡ false = subst (Stops (λ c. c == 123)) k.2 brace in cc no

pub two_hex : (first second third : Cursor) (a b c : ℕ) → IsDigit 16 first a second → IsDigit 16 second b third → c ≡ 16 * a + b → IsEscape (120 ∷ []) first c third
two_hex first second third a b c h k e =
    let x = hex_digit h.c h.is_digit in
    let y = hex_digit k.c k.is_digit in
    let v : value_after 16 0 (h.c ∷ k.c ∷ []) ≡ c = omega (arith, x.1, y.1, h.value, k.value, e) in (
      h.c ∷ k.c ∷ [],
      behind_step first second third (h.c ∷ []) k.c (step_behind first second h.c h.step) k.step,
      subst (λ (n : ℕ). Escape n (120 ∷ h.c ∷ k.c ∷ []) (chars third.rest.now)) v (by_two h.c k.c (chars third.rest.now) (x.0, (y.0, tt))),
    )

-- ---- digits in braces

pub record HexTo (first second : Cursor) (value : ℕ) : Type 0 where
  pub front : List ℕ
  pub behind : IsBehind first second front
  pub some : 1 ≤ length front
  pub each : Each is_hex front
  pub capped : IsCapped (value_after 16 0 front) value

pub hex_first : (first second : Cursor) (a : ℕ) → IsDigit 16 first a second → HexTo first second a
hex_first first second a h =
    let x = hex_digit h.c h.is_digit in
    let v : value_after 16 0 (h.c ∷ []) ≡ a = omega (arith, x.1, h.value) in
    let low = digit_below 16 h.c h.is_digit in
    record {
      front = h.c ∷ [];
      behind = step_behind first second h.c h.step;
      some = omega arith;
      each = (x.0, tt);
      capped = inl (sym v, omega (arith, v, low, h.value));
    }

value-snoc : (base n : ℕ) (ds : List ℕ) (c : ℕ) → value_after base n (ds ++ c ∷ []) ≡ base * value_after base n ds + escape.digit_value c
value-snoc base n [] c = refl
value-snoc base n (d ∷ ds) c = value-snoc base (base * n + escape.digit_value d) ds c

pub hex_more : (first second third : Cursor) (value a next : ℕ) → HexTo first second value → IsDigit 16 second a third
    → ((n : ℕ) → IsCapped n value → IsCapped (16 * n + a) next) → HexTo first third next
hex_more first second third value a next h k f =
    let x = hex_digit k.c k.is_digit in
    let v : 16 * value_after 16 0 h.front + a ≡ value_after 16 0 (h.front ++ k.c ∷ []) = omega (arith, x.1, k.value, value-snoc 16 0 h.front k.c) in
    record {
      front = h.front ++ k.c ∷ [];
      behind = behind_step first second third h.front k.c h.behind k.step;
      some = omega (arith, length-append h.front (k.c ∷ []));
      each = each_append is_hex h.front (k.c ∷ []) h.each (x.0, tt);
      capped = subst (λ n. IsCapped n next) v (f (value_after 16 0 h.front) h.capped);
    }

pub same_run : (p : ℕ → Bool) (a b r s : List ℕ) → Each p a → Each p b → Stops p r → Stops p s → a ++ r ≡ b ++ s → a ≡ b
same_run p a b r s h k t u e =
    sym (run-append p a r h ∙ ap (λ z. a ++ z) (run-stops p r t) ∙ append-nil a) ∙ ap (run p) e ∙ run-append p b s k ∙ ap (λ z. b ++ z) (run-stops p s u) ∙ append-nil b

-- behind `x{`, digits that some text follows
no_braces : (text ds rest : List ℕ) → text ≡ ds ++ rest → Each is_hex ds → Stops is_hex rest → ((more : List ℕ) → rest ≡ 125 ∷ more → 1 ≤ length ds → IsCharacter (value_after 16 0 ds) → ⊥)
    → HasNoEscape (120 ∷ 123 ∷ []) text
no_braces text ds rest e each stops f = no_x (123 ∷ text) two braces
  where
    two : HasTwo (123 ∷ text) → ⊥
    two k = let same : 123 ≡ k.0 = cc k.3 in (brace_no_hex k.0 k.4.0).0 (sym same)

    braces : HasBraces (123 ∷ text) → ⊥
    braces k =
        let whole : ds ++ rest ≡ k.0 ++ 125 ∷ k.1 = sym e ∙ cc k.2 in
        let same : ds ≡ k.0 = same_run is_hex ds k.0 rest (125 ∷ k.1) each k.4 stops refl whole in
        let left : rest ≡ 125 ∷ k.1 = same_rest ds rest (125 ∷ k.1) (whole ∙ ap (λ t. t ++ 125 ∷ k.1) (sym same)) in
        f k.1 left (subst (λ t. 1 ≤ length t) (sym same) k.3) (subst (λ t. IsCharacter (value_after 16 0 t)) (sym same) k.5)

pub braces_none : (first : Cursor) → Stops (is_digit_of 16) (chars first.rest.now) → HasNoEscape (120 ∷ 123 ∷ []) (chars first.rest.now)
braces_none first s = no_braces (chars first.rest.now) [] (chars first.rest.now) refl tt (stops_hex (chars first.rest.now) s) (λ more e some is. absurd (omega arith))

pub braces_end : (first second : Cursor) (value : ℕ) → HexTo first second value → Stops (is_digit_of 16) (chars second.rest.now) → chars second.rest.now ≡ [] → HasNoEscape (120 ∷ 123 ∷ []) (chars first.rest.now)
braces_end first second value h s e =
    no_braces (chars first.rest.now) h.front (chars second.rest.now) h.behind.chars_are h.each (stops_hex (chars second.rest.now) s) (λ more k some is. cc (e, k))

pub braces_open : (first second third : Cursor) (value c : ℕ) → HexTo first second value → Stops (is_digit_of 16) (chars second.rest.now) → IsStep second c third → (c ≡ 125 → ⊥)
    → HasNoEscape (120 ∷ 123 ∷ []) (chars first.rest.now)
braces_open first second third value c h s step n =
    no_braces (chars first.rest.now) h.front (chars second.rest.now) h.behind.chars_are h.each (stops_hex (chars second.rest.now) s) (λ more k some is. n (cc (step.chars_are, k)))

capped_character : (n v : ℕ) → IsCapped n v → IsCharacter n → IsCharacter v
capped_character n v (inl h) is = subst IsCharacter (sym h.0) is
capped_character n v (inr h) (inl is) = absurd (omega arith)
capped_character n v (inr h) (inr is) = absurd (omega arith)

pub braces_beyond : (first second : Cursor) (value : ℕ) → HexTo first second value → Stops (is_digit_of 16) (chars second.rest.now) → (IsCharacter value → ⊥) → HasNoEscape (120 ∷ 123 ∷ []) (chars first.rest.now)
braces_beyond first second value h s n =
    no_braces (chars first.rest.now) h.front (chars second.rest.now) h.behind.chars_are h.each (stops_hex (chars second.rest.now) s)
    (λ more k some is. n (capped_character (value_after 16 0 h.front) value h.capped is))

capped_is : (n v : ℕ) → IsCapped n v → IsCharacter v → v ≡ n
capped_is n v (inl h) is = h.0
capped_is n v (inr h) (inl is) = absurd (omega arith)
capped_is n v (inr h) (inr is) = absurd (omega arith)

pub braces_some : (first second third : Cursor) (value c d : ℕ) → HexTo first second value → IsStep second d third → d ≡ 125 → IsCharacter value → c ≡ value → IsEscape (120 ∷ 123 ∷ []) first c third
braces_some first second third value c d h step e is same =
    let v : c ≡ value_after 16 0 h.front = same ∙ capped_is (value_after 16 0 h.front) value h.capped is in (
      h.front ++ d ∷ [],
      behind_step first second third h.front d h.behind step,
      subst (λ (z : ℕ). Escape c (120 ∷ 123 ∷ (h.front ++ z ∷ [])) (chars third.rest.now)) (sym e)
          (subst (λ (n : ℕ). Escape n (120 ∷ 123 ∷ (h.front ++ 125 ∷ [])) (chars third.rest.now)) (sym v)
          (by_braces h.front (chars third.rest.now) h.some h.each (subst IsCharacter (capped_is (value_after 16 0 h.front) value h.capped is) is))),
    )

-- what a brace begins, behind `x`
pub begun_brace : (first second third : Cursor) (c d : ℕ) → IsStep first d second → d ≡ 123 → IsEscape (120 ∷ 123 ∷ []) second c third → IsEscape (120 ∷ []) first c third
begun_brace first second third c d step e h = (
  d ∷ h.0,
  behind_all first second third (d ∷ []) h.0 (step_behind first second d step) h.1,
  subst (λ (z : ℕ). Escape c (120 ∷ z ∷ h.0) (chars third.rest.now)) (sym e) h.2,
)

pub begun_brace_some : (first second : Cursor) (d : ℕ) (r : Option (ℕ × Cursor)) → IsStep first d second → d ≡ 123 → IfSome r (λ f. IsEscape (120 ∷ 123 ∷ []) second f.0 f.1)
    → IfSome r (λ f. IsEscape (120 ∷ []) first f.0 f.1)
begun_brace_some first second d (Some f) step e h = begun_brace first second f.1 f.0 d step e h
begun_brace_some first second d None step e h = tt

pub begun_brace_none : (first second : Cursor) (d : ℕ) (r : Option (ℕ × Cursor)) → IsStep first d second → d ≡ 123 → IfNone r (HasNoEscape (120 ∷ 123 ∷ []) (chars second.rest.now))
    → IfNone r (HasNoEscape (120 ∷ []) (chars first.rest.now))
begun_brace_none first second d (Some f) step e h = tt
begun_brace_none first second d None step e h =
    subst (HasNoEscape (120 ∷ [])) (sym (step.chars_are ∙ ap (λ z. z ∷ chars second.rest.now) e)) h

-- ---- behind `^`

pub control_escapes : (text : List ℕ) (c : ℕ) (front rest : List ℕ) → Escape c front rest → 94 ∷ text ≡ front ++ rest
    → (d : ℕ) × (more : List ℕ) × (text ≡ d ∷ more) × (((is_within 64 95 d || is_within 97 122 d) ≡ true) ⊎ (d ≡ 63))
control_escapes text _ _ _ (by_letter letter c rest e) is =
    let same : 94 ≡ letter = cc is in
    let no : None ≡ Some c = subst (λ l. named l ≡ Some c) (sym same) e in cc no
control_escapes text _ _ _ (by_octal [] rest some each long) is = absurd (omega arith)
control_escapes text _ _ _ (by_octal (d ∷ ds) rest some each long) is =
    let same : 94 ≡ d = cc is in
    let no : is_octal 94 ≡ true = subst (λ l. is_octal l ≡ true) (sym same) each.0 in cc no
control_escapes text _ _ _ (by_two a b rest each) is = absurd (omega (arith, ap first_of is))
control_escapes text _ _ _ (by_braces ds rest some each isc) is = absurd (omega (arith, ap first_of is))
control_escapes text _ _ _ (by_control c rest k) is = (c, rest, cc is, inl k)
control_escapes text _ _ _ (by_question rest) is = (63, rest, cc is, inr refl)
control_escapes text _ _ _ (itself c rest unnamed other) is =
    let same : 94 ≡ c = cc is in
    let no : (is_octal 94 || 94 == 120 || 94 == 94) ≡ false = subst (λ l. (is_octal l || l == 120 || l == 94) ≡ false) (sym same) other in cc no

pub control_none : (first : Cursor) → chars first.rest.now ≡ [] → HasNoEscape (94 ∷ []) (chars first.rest.now)
control_none first e c front rest is h = let k = control_escapes (chars first.rest.now) c front rest h is in cc (e, k.2)

pub control_other : (first second : Cursor) (d : ℕ) → IsStep first d second → ((is_within 64 95 d || is_within 97 122 d) ≡ false) → (d ≡ 63 → ⊥) → HasNoEscape (94 ∷ []) (chars first.rest.now)
control_other first second d step other n c front rest is h = go (control_escapes (chars first.rest.now) c front rest h is)
  where
    go : (z : ℕ) × (more : List ℕ) × (chars first.rest.now ≡ z ∷ more) × (((is_within 64 95 z || is_within 97 122 z) ≡ true) ⊎ (z ≡ 63)) → ⊥
    go k = of k.3 (cc (k.2, step.chars_are))
      where
        of : ((is_within 64 95 k.0 || is_within 97 122 k.0) ≡ true) ⊎ (k.0 ≡ 63) → d ≡ k.0 → ⊥
        of (inl is) e = let no : (is_within 64 95 k.0 || is_within 97 122 k.0) ≡ false = subst (λ z. (is_within 64 95 z || is_within 97 122 z) ≡ false) e other in cc
        of (inr is) e = n (e ∙ is)

pub control_is : (first second : Cursor) (d c : ℕ) → IsStep first d second → ((is_within 64 95 d || is_within 97 122 d) ≡ true) → c ≡ d % 32 → IsEscape (94 ∷ []) first c second
control_is first second d c step is e =
    (d ∷ [], step_behind first second d step, subst (λ (n : ℕ). Escape n (94 ∷ d ∷ []) (chars second.rest.now)) (sym e) (by_control d (chars second.rest.now) is))

pub control_question : (first second : Cursor) (d : ℕ) → IsStep first d second → d ≡ 63 → IsEscape (94 ∷ []) first 127 second
control_question first second d step e =
    (d ∷ [], step_behind first second d step, subst (λ (z : ℕ). Escape 127 (94 ∷ z ∷ []) (chars second.rest.now)) (sym e) (by_question (chars second.rest.now)))

-- ---- behind `\`

pub begun : (first second third : Cursor) (c letter k : ℕ) → IsStep first letter second → letter ≡ k → IsEscape (k ∷ []) second c third → IsEscape [] first c third
begun first second third c letter k step e h = (
  letter ∷ h.0,
  behind_all first second third (letter ∷ []) h.0 (step_behind first second letter step) h.1,
  subst (λ (z : ℕ). Escape c (z ∷ h.0) (chars third.rest.now)) (sym e) h.2,
)

pub begun_some : (second : Cursor) (letter k : ℕ) (r : Option (ℕ × Cursor)) → letter ≡ k → IfSome r (λ f. IsEscape (k ∷ []) second f.0 f.1)
    → IfSome r (λ f. (first : Cursor) → IsStep first letter second → Stops (is_digit_of 8) (chars first.rest.now) → IsEscape [] first f.0 f.1)
begun_some second letter k (Some f) e h = λ first step s. begun first second f.1 f.0 letter k step e h
begun_some second letter k None e h = tt

pub illegal_none : (text : List ℕ) (letter k : ℕ) (r : Option (ℕ × Cursor)) → letter ≡ k → (k == 120 || k == 94) ≡ true → IfNone r (HasNoEscape (k ∷ []) text)
    → IfNone r (IsIllegalEscape (letter ∷ text))
illegal_none text letter k (Some f) e is h = tt
illegal_none text letter k None e is h = subst (λ z. IsIllegalEscape (z ∷ text)) (sym e) (is, h)

no_octal : (letter : ℕ) → is_digit_of 8 letter ≡ false → is_octal letter ≡ false
no_octal letter h = not_weaker (is_digit_of 8) is_octal letter (octal_is letter) h

none_of : (a b c : Bool) → a ≡ false → b ≡ false → c ≡ false → (a || b || c) ≡ false
none_of true b c e f g = cc e
none_of false true c e f g = cc f
none_of false false c e f g = g

not_is : (a b : ℕ) → (a ≡ b → ⊥) → (a == b) ≡ false
not_is a b n = grind (arith, nat_tests)

pub other_letter : (first second : Cursor) (letter c : ℕ) → IsStep first letter second → Stops (is_digit_of 8) (chars first.rest.now) → (letter ≡ 120 → ⊥) → (letter ≡ 94 → ⊥)
    → c ≡ unwrap_or (named letter) letter → IsEscape [] first c second
other_letter first second letter c step s nx nc e = (
  letter ∷ [],
  step_behind first second letter step,
  subst (λ (n : ℕ). Escape n (letter ∷ []) (chars second.rest.now)) (sym e) (go (named letter) refl),
)
  where
    no_digit : is_digit_of 8 letter ≡ false
    no_digit = subst (Stops (is_digit_of 8)) step.chars_are s

    go : (o : Option ℕ) → named letter ≡ o → Escape (unwrap_or (named letter) letter) (letter ∷ []) (chars second.rest.now)
    go (Some d) k = subst (λ (o : Option ℕ). Escape (unwrap_or o letter) (letter ∷ []) (chars second.rest.now)) (sym k) (by_letter letter d (chars second.rest.now) k)
    go None k =
        subst (λ (o : Option ℕ). Escape (unwrap_or o letter) (letter ∷ []) (chars second.rest.now)) (sym k)
        (itself letter (chars second.rest.now) k (none_of (is_octal letter) (letter == 120) (letter == 94) (no_octal letter no_digit) (not_is letter 120 nx) (not_is letter 94 nc)))

-- ---- one character

pub written_by_escape : (special : ℕ → Bool) (first second : Cursor) (c : ℕ) (w : Found) → IsStep first c second → c ≡ 92 → IsEscaped second w → IsWritten special first w
written_by_escape special first second c (written.Legal d third) step e h = (
  c ∷ h.0,
  behind_all first second third (c ∷ []) h.0 (step_behind first second c step) h.1,
  subst (λ (z : ℕ). Written special d (z ∷ h.0) (chars third.rest.now)) (sym e) (escaped d h.0 (chars third.rest.now) h.2),
)
written_by_escape special first second c (written.Illegal third) step e h = (
  h.0,
  subst (λ z. IsBehind first third (z ∷ h.0 ∷ [])) e (behind_step first second third (c ∷ []) h.0 (step_behind first second c step) h.1),
  h.2,
)
written_by_escape special first second c written.Ends step e h = inr (step.chars_are ∙ (λ i. e i ∷ h i))

either_false : (a b : Bool) → a ≡ false → b ≡ false → (a || b) ≡ false
either_false true b e f = cc e
either_false false b e f = f

pub written_plainly : (special : ℕ → Bool) (first second : Cursor) (c : ℕ) → IsStep first c second → (c ≡ 92 → ⊥) → Stops special (chars first.rest.now)
    → (front : List ℕ) × IsBehind first second front × Written special c front (chars second.rest.now)
written_plainly special first second c step n s =
    let no : special c ≡ false = subst (Stops special) step.chars_are s in
    (c ∷ [], step_behind first second c step, plainly c (chars second.rest.now) (either_false (special c) (c == 92) no (not_is c 92 n)))
