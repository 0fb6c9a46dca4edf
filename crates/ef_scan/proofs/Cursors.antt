-- Steps of a cursor.
use Rattle.std.proofs.Common.{ℕ, ◌+◌, ◌-◌, ◌<◌, ◌≤◌, ◌≡◌, Bool, true, false, List, [], ◌∷◌, ◌++◌, length, take, drop, chars, arith, refl, subst, sym, ap, ◌∙◌, append_assoc, append-nil, length-append, length-drop}
use Rattle.std.specs.Prelude.{IsUtf8, ◌==◌, ◌&&◌, encode_utf8, encode_utf8_all}
use Rattle.std.specs.Char.{len_utf8}
use Rattle.std.specs.Str.{IsCharBoundary}
use Rattle.std.proofs.lemmas.Bool.Decides.{nat_tests}
use Rattle.std.proofs.lemmas.List.{take-append-drop, length-take-le}
use Rattle.std.proofs.Math.Seq.{take-append_seam}
use Rattle.std.proofs.lemmas.Str.{chars_past_char, IsUtf8-past_char, length-encode, len_utf8_bounds, length-le-encodes, encodes-append, encodes-IsAscii, IsCharBoundary-at_seam}
use Rattle.ef_base.specs.Characters.{Each, Stops}
use Rattle.ef_base.specs.Positions.{Position, next_position, position_after}
use Rattle.ef_base.proofs.Classes.{each_append, each_weaker}
use Rattle.ef_base.proofs.CutLaws.{position_after-append}
use Rattle.ef_base.proofs.Fronts.{each_ascii, utf8_behind, chars_behind}
use Rattle.ef_scan.specs.declared.class.Class.{Class}
use Rattle.ef_scan.specs.declared.cursor.Cursor.{Cursor}
use Rattle.ef_token.specs.Letters.{is_printing}
use Rattle.ef_scan.specs.Cursors.{IsInText, IsStep, IsBehind, IsRun, is_plain, is_plain_of, position_of, test_of}

-- behind a character at the front of a text
pub past_char : (text rest : List ℕ) (c : ℕ) → text ≡ encode_utf8 c ++ rest → length rest < length text
past_char text rest c e =
    let n : length text ≡ length (encode_utf8 c) + length rest = ap length e ∙ length-append (encode_utf8 c) rest in
    let m : length (encode_utf8 c) ≡ len_utf8 c = length-encode c in
    let k = (len_utf8_bounds c).0 in
    omega arith

pub step_shorter : (first second : Cursor) (c : ℕ) → IsStep first c second → length second.rest.now < length first.rest.now
step_shorter first second c h = past_char first.rest.now second.rest.now c h.bytes_are

pub a_step : (first second : Cursor) (c : ℕ) → first.rest.now ≡ encode_utf8 c ++ second.rest.now → IsInText first → position_of second ≡ next_position (position_of first) c
    → second.line ≤ first.line + 1 → second.column ≤ first.column + 1 → IsStep first c second
a_step first second c e inside position lines columns =
    let less : length second.rest.now < length first.rest.now = past_char first.rest.now second.rest.now c e in
    record {
      chars_are = chars_past_char first.rest.now second.rest.now c inside.utf8 e;
      bytes_are = e;
      position = position;
      in_text = record { utf8 = IsUtf8-past_char first.rest.now second.rest.now c inside.utf8 e; lines = omega arith; columns = omega arith };
    }

pub behind_none : (first : Cursor) → IsInText first → IsBehind first first []
behind_none first inside = record { chars_are = refl; bytes_are = refl; position = refl; in_text = inside }

pub behind_all : (first second third : Cursor) (front more : List ℕ) → IsBehind first second front → IsBehind second third more → IsBehind first third (front ++ more)
behind_all first second third front more h k = record {
  chars_are = h.chars_are ∙ ap (λ t. front ++ t) k.chars_are ∙ sym (append_assoc front more (chars third.rest.now));
  bytes_are =
      h.bytes_are ∙ ap (λ t. encode_utf8_all front ++ t) k.bytes_are ∙ sym (append_assoc (encode_utf8_all front) (encode_utf8_all more) third.rest.now)
      ∙ ap (λ t. t ++ third.rest.now) (sym (encodes-append front more));
  position = k.position ∙ ap (λ p. position_after p more) h.position ∙ sym (position_after-append (position_of first) front more);
  in_text = k.in_text;
}

pub step_behind : (first second : Cursor) (c : ℕ) → IsStep first c second → IsBehind first second (c ∷ [])
step_behind first second c h = record {
  chars_are = h.chars_are;
  bytes_are = h.bytes_are ∙ ap (λ t. t ++ second.rest.now) (sym (append-nil (encode_utf8 c)));
  position = h.position;
  in_text = h.in_text;
}

pub behind_step : (first second third : Cursor) (front : List ℕ) (c : ℕ) → IsBehind first second front → IsStep second c third → IsBehind first third (front ++ c ∷ [])
behind_step first second third front c h k = behind_all first second third front (c ∷ []) h (step_behind second third c k)

-- how much shorter the rest is
pub behind_room : (first second : Cursor) (front : List ℕ) → IsBehind first second front → length front + length second.rest.now ≤ length first.rest.now
behind_room first second front h =
    let n : length first.rest.now ≡ length (encode_utf8_all front) + length second.rest.now = ap length h.bytes_are ∙ length-append (encode_utf8_all front) second.rest.now in
    let k : length front ≤ length (encode_utf8_all front) = length-le-encodes front in
    omega arith

-- ---- runs

pub each_both : (p q : ℕ → Bool) (cs : List ℕ) → Each (λ c. p c && q c) cs → Each p cs × Each q cs
each_both p q [] h = (tt, tt)
each_both p q (c ∷ cs) h = let b = both (p c) (q c) h.0 in let on = each_both p q cs h.1 in ((b.0, on.0), (b.1, on.1))
  where
    both : (a b : Bool) → (a && b) ≡ true → (a ≡ true) × (b ≡ true)
    both true true e = (refl, refl)
    both true false e = cc e
    both false b e = cc e

-- a run that has come so far
pub record RunsTo (p : ℕ → Bool) (first second : Cursor) (count : ℕ) : Type 0 where
  pub front : List ℕ
  pub behind : IsBehind first second front
  pub each : Each p front
  pub counted : count ≡ length front

pub runs_none : (p : ℕ → Bool) (first : Cursor) → IsInText first → RunsTo p first first 0
runs_none p first inside = record { front = []; behind = behind_none first inside; each = tt; counted = refl }

pub runs_more : (p : ℕ → Bool) (first second third : Cursor) (count : ℕ) → RunsTo p first second count → (c : ℕ) × IsStep second c third × (p c ≡ true) → RunsTo p first third (count + 1)
runs_more p first second third count h k = record {
  front = h.front ++ k.0 ∷ [];
  behind = behind_step first second third h.front k.0 h.behind k.1;
  each = each_append p h.front (k.0 ∷ []) h.each (k.2, tt);
  counted = let e = h.counted in let l = length-append h.front (k.0 ∷ []) in omega arith;
}

-- and so many bytes further
pub runs_wide : (class : Class) (first second third : Cursor) (bytes : List ℕ) (count width : ℕ) → RunsTo (test_of class) first second count → bytes ≡ second.rest.now → width ≤ length bytes
    → Each (is_plain_of class) (take width bytes) → IsBehind second third (take width second.rest.now) → RunsTo (test_of class) first third (count + width)
runs_wide class first second third bytes count width h is within each k =
    let front : List ℕ = take width bytes in
    let same : take width second.rest.now ≡ take width bytes = ap (take width) (sym is) in
    let long : length (take width bytes) ≡ width = length-take-le width bytes within in
    record {
      front = h.front ++ take width bytes;
      behind = behind_all first second third h.front front h.behind (subst (IsBehind second third) same k);
      each = each_append (test_of class) h.front front h.each (each_both is_plain (test_of class) front each).1;
      counted = let e = h.counted in let l = length-append h.front front in omega arith;
    }

pub run_ends : (p : ℕ → Bool) (first second : Cursor) (count : ℕ) → RunsTo p first second count → Stops p (chars second.rest.now) → IsRun p first second count
run_ends p first second count h stops = record { front = h.front; behind = h.behind; each = h.each; stops = stops; counted = h.counted }

pub runs_room : (p : ℕ → Bool) (first second : Cursor) (count : ℕ) → RunsTo p first second count → count + length second.rest.now ≤ length first.rest.now
runs_room p first second count h = let e = h.counted in let k = behind_room first second h.front h.behind in omega arith

-- ---- slices

pub cut_between : (first second : Cursor) (front : List ℕ) → IsBehind first second front → IsCharBoundary first.rest.now (length first.rest.now - length second.rest.now)
cut_between first second front h =
    let n : length first.rest.now - length second.rest.now ≡ length (encode_utf8_all front) =
    omega (arith, ap length h.bytes_are, length-append (encode_utf8_all front) second.rest.now) in
    subst (λ k. IsCharBoundary first.rest.now k) (sym n) (IsCharBoundary-at_seam first.rest.now (encode_utf8_all front) second.rest.now h.bytes_are h.in_text.utf8)

pub between : (first second : Cursor) (front : List ℕ) → IsBehind first second front → take (length first.rest.now - length second.rest.now) first.rest.now ≡ encode_utf8_all front
between first second front h =
    let n : length first.rest.now - length second.rest.now ≡ length (encode_utf8_all front) =
    omega (arith, ap length h.bytes_are, length-append (encode_utf8_all front) second.rest.now) in
    ap (λ k. take k first.rest.now) n ∙ ap (λ t. take (length (encode_utf8_all front)) t) h.bytes_are ∙ take-append_seam (encode_utf8_all front) second.rest.now

-- ---- plain fronts: their bytes are their characters

-- printing characters end no line
pub printing_plain : (cs : List ℕ) → Each is_printing cs → Each is_plain cs
printing_plain cs h = each_weaker is_printing is_plain cs (λ c p. grind (arith, nat_tests)) h

pub plain_small : (c : ℕ) → is_plain c ≡ true → c < 128
plain_small c h = grind (arith, nat_tests)

-- a plain front has no end of line
pub position_plain : (at : Position) (front : List ℕ) → Each is_plain front → position_after at front ≡ record { line = at.line; column = at.column + length front }
position_plain at [] h = ap (λ (k : ℕ). let p : Position = record { line = at.line; column = k } in p) (omega arith)
position_plain at (c ∷ cs) h =
    let step : next_position at c ≡ record { line = at.line; column = at.column + 1 } = rw (not_newline c h.0) refl in
    ap (λ p. position_after p cs) step ∙ position_plain (record { line = at.line; column = at.column + 1 }) cs h.1
    ∙ ap (λ (k : ℕ). let p : Position = record { line = at.line; column = k } in p) (omega arith)
  where
    not_newline : (c : ℕ) → is_plain c ≡ true → (c == 10) ≡ false
    not_newline c h = grind (arith, nat_tests)

pub behind_width : (first second : Cursor) (width : ℕ) → IsInText first → width ≤ length first.rest.now → Each is_plain (take width first.rest.now)
    → second.rest.now ≡ drop width first.rest.now → second.line ≡ first.line → second.column ≡ first.column + width → IsBehind first second (take width first.rest.now)
behind_width first second width inside within plain rest line column =
    let front : List ℕ = take width first.rest.now in
    let e : first.rest.now ≡ take width first.rest.now ++ drop width first.rest.now = sym (take-append-drop width first.rest.now) in
    let left : length second.rest.now ≡ length first.rest.now - width = ap length rest ∙ length-drop width first.rest.now in
    let u : IsUtf8 (take width first.rest.now ++ drop width first.rest.now) = subst IsUtf8 e inside.utf8 in
    let long : length (take width first.rest.now) ≡ width = length-take-le width first.rest.now within in
    record {
      chars_are = ap chars e ∙ chars_behind is_plain plain_small (take width first.rest.now) (drop width first.rest.now) plain u ∙ ap (λ t. take width first.rest.now ++ chars t) (sym rest);
      bytes_are =
          e ∙ ap (λ t. take width first.rest.now ++ t) (sym rest) ∙ ap (λ t. t ++ second.rest.now) (sym (encodes-IsAscii (take width first.rest.now) (each_ascii is_plain plain_small (take width first.rest.now) plain)));
      position =
          ap (λ (k : ℕ). let p : Position = record { line = k; column = second.column } in p) line
          ∙ ap (λ (k : ℕ). let p : Position = record { line = first.line; column = k } in p) (column ∙ ap (λ n. first.column + n) (sym long))
          ∙ sym (position_plain (position_of first) (take width first.rest.now) plain);
      in_text =
          record {
            utf8 = subst IsUtf8 (sym rest) (utf8_behind is_plain plain_small (take width first.rest.now) (drop width first.rest.now) plain u);
            lines = omega (arith, inside.lines);
            columns = omega (arith, inside.columns);
          };
    }
