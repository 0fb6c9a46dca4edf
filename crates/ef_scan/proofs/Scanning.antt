-- What is gathered is of the text's cut.
use Rattle.std.proofs.Common.{ℕ, ◌+◌, ◌<◌, ◌≤◌, ◌≡◌, Bool, true, false, List, [], ◌∷◌, ◌++◌, length, take, chars, arith, refl, subst, sym, ap, ◌∙◌, append_assoc, append-nil, inl, Vec, Global}
use Rattle.std.specs.Prelude.{IsUtf8, ◌==◌, Result, Ok, Err, IfOk}
use Rattle.ef_base.specs.Characters.{Stops, is_white}
use Rattle.ef_base.specs.Texts.{Texts, AllDiffer, Extends}
use Rattle.ef_base.specs.Laws.{extends_same, extends_later}
use Rattle.ef_base.specs.Positions.{Position, first_position, next_position, position_after, place_at}
use Rattle.ef_base.specs.Cut.{Placed}
use Rattle.ef_base.specs.Taken.{Took}
use Rattle.ef_base.proofs.CutLaws.{took_gap, took_lexeme, took_cut, position_after-append}
use Rattle.ef_token.specs.Parts as x
use Rattle.ef_token.specs.Parts.{Gap, Spelled, CutsInto}
use Rattle.std.specs.Str.{IsValidUpTo}
use Rattle.ef_base.specs.declared.fault.Place.{Place}
use Rattle.ef_base.specs.declared.fault.Fault.{Fault}
use Rattle.ef_token.specs.Lexeme.{Lexeme, IsKind}
use Rattle.ef_token.specs.declared.token.TokenKind.{TokenKind}
use Rattle.ef_token.specs.declared.token.ScannedForm.{ScannedForm}
use Rattle.ef_token.specs.declared.token.ScannedForm.TheVariants.{Faulty}
use Rattle.ef_scan.specs.declared.verdict.Piece.{Piece}
use Rattle.ef_scan.specs.declared.part.Part.TheVariants as parts
use Rattle.ef_scan.specs.Verdicts.{Holds}
use Rattle.ef_scan.proofs.Gathering.{is_fault}
use Rattle.ef_scan.specs.declared.cursor.Cursor.{Cursor}
use Rattle.ef_scan.specs.declared.gathered.Gathered.{Gathered}
use Rattle.ef_scan.specs.declared.part.Part.{Part}
use Rattle.ef_scan.specs.Cursors.{IsInText, IsStep, IsRun, position_of}
use Rattle.ef_scan.specs.Scan.{faulty, fault_at, not_utf8, is_cut, IsScanned, AreOf}
use Rattle.ef_scan.specs.Gathered.{Gathers, IsGathered, AreFormsOf}
use Rattle.ef_scan.specs.Parts.{IsPart, IsPartAt, placed}
use Rattle.ef_scan.proofs.Cursors.{step_shorter, behind_room}
use Rattle.ef_token.proofs.Parting.{cut_facts, part_some}

-- ---- the start

pub started : (before : Texts) (file : ℕ) (text : List ℕ) (first cursor : Cursor) (count : ℕ) (gathered : Gathered) → first.rest.now ≡ text → position_of first ≡ first_position
    → IsRun is_white first cursor count → ((all : Texts) (file : ℕ) → Gathers all file gathered []) → IsGathered before before file text cursor gathered
started before file text first cursor count gathered is at run gathers = record {
  parts = [];
  took =
      let whole : chars text ≡ run.front ++ chars cursor.rest.now = ap chars (sym is) ∙ run.behind.chars_are in
      let place : position_of cursor ≡ position_after first_position run.front = run.behind.position ∙ ap (λ p. position_after p run.front) at in
      (run.front, whole, run.each, place);
  gathers = λ all later. gathers all file;
  kept = extends_same before;
  differ = λ d. d;
  in_text = run.behind.in_text;
  stops = run.stops;
}

-- ---- one more part

pub more_gathered : (before now later : Texts) (file : ℕ) (text : List ℕ) (first second third : Cursor) (count : ℕ) (old new : Gathered) (part : Part)
    → IsGathered before now file text first old → (h : IsPartAt first part second) → IsRun is_white second third count → Extends now later → (AllDiffer now → AllDiffer later)
    → ((all : Texts) (ps : List (Placed x.Part)) → Extends later all → Gathers all file old ps → Gathers all file new (ps ++ placed h.is_part (position_of first) ∷ []))
    → IsGathered before later file text third new
more_gathered before now later file text first second third count old new part g h run kept differ gathers = record {
  parts = g.parts ++ placed h.is_part (position_of first) ∷ [];
  took = took;
  gathers = λ all z. gathers all g.parts z (g.gathers all (extends_later kept z));
  kept = extends_later g.kept kept;
  differ = λ d. differ (g.differ d);
  in_text = run.behind.in_text;
  stops = run.stops;
}
  where
    took : Took Gap Spelled first_position (chars text) (g.parts ++ placed h.is_part (position_of first) ∷ []) (position_of third) (chars third.rest.now)
    took =
        let ps = g.parts ++ placed h.is_part (position_of first) ∷ [] in
        let one =
        took_lexeme cut_facts first_position (position_of first) (chars text) h.front (chars second.rest.now) h.is_part g.parts
        (subst (Took Gap Spelled first_position (chars text) g.parts (position_of first)) h.behind.chars_are g.took) h.spelled h.longest in
        let at_second = subst (λ p. Took Gap Spelled first_position (chars text) ps p (chars second.rest.now)) (sym h.behind.position) one in
        let before_gap = subst (λ r. Took Gap Spelled first_position (chars text) ps (position_of second) r) run.behind.chars_are at_second in
        subst (λ p. Took Gap Spelled first_position (chars text) ps p (chars third.rest.now)) (sym run.behind.position)
        (took_gap cut_facts first_position (position_of second) (chars text) (chars third.rest.now) run.front ps before_gap run.each)

pub shorter : (first second third : Cursor) (count : ℕ) (part : Part) → IsPartAt first part second → IsRun is_white second third count → length third.rest.now < length first.rest.now
shorter first second third count part h run =
    let some : 0 < length h.front = part_some h.is_part h.front (chars second.rest.now) h.spelled in
    let a = behind_room first second h.front h.behind in
    let b = behind_room second third run.front run.behind in
    omega arith

-- the first character of a part is not white
pub not_white : (first behind : Cursor) (c : ℕ) → IsStep first c behind → Stops is_white (chars first.rest.now) → is_white c ≡ false
not_white first behind c step s = subst (Stops is_white) step.chars_are s

-- ---- the end

pub whole : (before now : Texts) (file : ℕ) (text : List ℕ) (cursor : Cursor) (gathered : Gathered) (scanned : List ScannedForm) → IsUtf8 text → IsGathered before now file text cursor gathered
    → chars cursor.rest.now ≡ [] → ((all : Texts) (file : ℕ) (ps : List (Placed x.Part)) → Gathers all file gathered ps → AreFormsOf all file ps scanned)
    → (all : Texts) → Extends now all → IsScanned all file text scanned
whole before now file text cursor gathered scanned u g none forms all later =
    let k = forms all file g.parts (g.gathers all later) in
    (k.0, k.1, is_cut g.parts k.0 u cut k.2)
  where
    cut : CutsInto first_position (chars text) g.parts
    cut =
        subst (CutsInto first_position (chars text)) (append-nil g.parts)
        (took_cut cut_facts first_position (position_of cursor) (chars text) (chars cursor.rest.now) g.parts [] g.took (inl (subst Gap (sym none) tt)))

-- ---- the place behind a text

pub record EndsAt (text : List ℕ) (cursor : Cursor) : Type 0 where
  pub front : List ℕ
  pub is : chars text ≡ front ++ chars cursor.rest.now
  pub position : position_of cursor ≡ position_after first_position front
  pub in_text : IsInText cursor
  pub line : cursor.line + length cursor.rest.now ≤ length text + 1
  pub column : cursor.column + length cursor.rest.now ≤ length text + 1
  pub some : 1 ≤ cursor.column

pub ends_first : (text : List ℕ) (cursor : Cursor) → cursor.rest.now ≡ text → position_of cursor ≡ first_position → IsInText cursor → EndsAt text cursor
ends_first text cursor is at inside =
    let l : cursor.line ≡ 1 = ap (λ (p : Position). p.line) at in
    let c : cursor.column ≡ 1 = ap (λ (p : Position). p.column) at in
    let n = ap length is in
    record { front = []; is = ap chars (sym is); position = at; in_text = inside; line = omega arith; column = omega arith; some = omega arith }

-- a step adds at most one to each, where a column is no less than 1
step_adds : (at : Position) (c : ℕ) (b : Bool) → (c == 10) ≡ b → 1 ≤ at.column → ((next_position at c).line ≤ at.line + 1) × ((next_position at c).column ≤ at.column + 1) × (1 ≤ (next_position at c).column)
step_adds at c true e h = rw e (omega arith, omega arith, omega arith)
step_adds at c false e h = rw e (omega arith, omega arith, omega arith)

pub ends_more : (text : List ℕ) (cursor next : Cursor) (c : ℕ) → EndsAt text cursor → IsStep cursor c next → EndsAt text next
ends_more text cursor next c h step =
    let less = step_shorter cursor next c step in
    let adds = step_adds (position_of cursor) c (c == 10) refl h.some in
    let l : next.line ≡ (next_position (position_of cursor) c).line = ap (λ (p : Position). p.line) step.position in
    let k : next.column ≡ (next_position (position_of cursor) c).column = ap (λ (p : Position). p.column) step.position in
    record {
      front = h.front ++ c ∷ [];
      is = h.is ∙ ap (λ t. h.front ++ t) step.chars_are ∙ sym (append_assoc h.front (c ∷ []) (chars next.rest.now));
      position = step.position ∙ ap (λ p. next_position p c) h.position ∙ sym (position_after-append first_position h.front (c ∷ []));
      in_text = step.in_text;
      line = omega (arith, h.line, adds.0);
      column = omega (arith, h.column, adds.1);
      some = omega (arith, adds.2);
    }

pub ends_all : (text : List ℕ) (cursor : Cursor) → EndsAt text cursor → chars cursor.rest.now ≡ [] → position_of cursor ≡ position_after first_position (chars text)
ends_all text cursor h none = h.position ∙ ap (position_after first_position) (sym (h.is ∙ ap (λ t. h.front ++ t) none ∙ append-nil h.front))

-- ---- answers

pub all_whole : {E : Type 0} (before now : Texts) (file : ℕ) (text : List ℕ) (cursor : Cursor) (gathered : Gathered) (r : Result (Vec ScannedForm Global) E) → IsUtf8 text
    → IsGathered before now file text cursor gathered → chars cursor.rest.now ≡ []
    → IfOk r (λ forms. (all : Texts) (file : ℕ) (ps : List (Placed x.Part)) → Gathers all file gathered ps → AreFormsOf all file ps forms.items)
    → IfOk r (λ forms. (all : Texts) → Extends now all → IsScanned all file text forms.items)
all_whole before now file text cursor gathered (Ok forms) u g none h = λ all later. whole before now file text cursor gathered forms.items u g none h all later
all_whole before now file text cursor gathered (Err e) u g none h = tt

pub all_bad : {E : Type 0} (now : Texts) (file : ℕ) (text : List ℕ) (n : ℕ) (place : Place) (r : Result (Vec ScannedForm Global) E) → IsValidUpTo text n
    → place ≡ place_at file (position_after first_position (chars (take n text)))
    → IfOk r (λ forms. (f : Fault) × (forms.items ≡ Faulty f ∷ []) × (f.place ≡ place) × (f.code ≡ 101) × (f.words ≡ []))
    → IfOk r (λ forms. (all : Texts) → Extends now all → IsScanned all file text forms.items)
all_bad now file text n place (Ok forms) bad at h = λ all later. (
  faulty (fault_at file (position_after first_position (chars (take n text))) 101) ∷ [],
  subst (λ t. AreOf t (faulty (fault_at file (position_after first_position (chars (take n text))) 101) ∷ [])) (sym h.1)
      (is_fault file (position_after first_position (chars (take n text))) 101 h.0 (h.2 ∙ at) h.3 h.4, tt),
  not_utf8 n bad,
)
all_bad now file text n place (Err e) bad at h = tt

-- one more lexeme, by its token
pub push_lexeme : {E : Type 0} (all_names : Texts) (old new : Gathered) (part : Part) (piece : Piece) (kind : TokenKind) (place : Place) (r : Result (Unit {0}) E) → part ≡ parts.Lexeme piece
    → ((l : Lexeme) → Holds piece l → (all : Texts) → Extends all_names all → IsKind all l kind)
    → IfOk r (λ _. (all : Texts) (file : ℕ) (ps : List (Placed x.Part)) (p : Placed x.Part) (l : Lexeme) → p.lexeme ≡ x.lexeme l → place ≡ place_at file p.at → IsKind all l kind
    → Gathers all file old ps → Gathers all file new (ps ++ p ∷ []))
    → IfOk r (λ _. (all : Texts) (file : ℕ) (ps : List (Placed x.Part)) (p : x.Part) (at : Position) → Extends all_names all → IsPart part p → place ≡ place_at file at
    → Gathers all file old ps → Gathers all file new (ps ++ placed p at ∷ []))
push_lexeme names old new part piece kind place (Ok u) e kinds h = λ all file ps p at later is place_is g. go all file ps p at later (subst (λ q. IsPart q p) e is) place_is g
  where
    go : (all : Texts) (file : ℕ) (ps : List (Placed x.Part)) (p : x.Part) (at : Position) → Extends names all → IsPart (parts.Lexeme piece) p → place ≡ place_at file at → Gathers all file old ps
        → Gathers all file new (ps ++ placed p at ∷ [])
    go all file ps (x.lexeme l) at later is place_is g = h all file ps (placed (x.lexeme l) at) l refl place_is (kinds l is all later) g
    go all file ps (x.comment cs) at later is place_is g = absurd is
    go all file ps (x.fault code) at later is place_is g = absurd is
push_lexeme names old new part piece kind place (Err x) e kinds h = tt
