-- Parts at a place, and what is passed over behind a fault.
use Rattle.std.specs.Prelude.{ℕ, ◌+◌, ◌≡◌, false, List, [], ◌∷◌, ◌++◌, length, chars, encode_utf8_all, refl}
use Rattle.std.proofs.Common.{ap, ◌∙◌, sym, subst, append_assoc, append-nil, length-append, arith}
use Rattle.std.proofs.lemmas.Bool.Decides.{nat_tests}
use denote.Ref.{Bor}
use Rattle.ef_base.specs.Characters.{is_white}
use Rattle.ef_token.specs.Letters.{begins_gap}
use Rattle.ef_token.specs.Lexeme.{Lexeme, EndsForm}
use Rattle.ef_token.specs.ScanFaults.{Fails, IsFault, Skips, to_end, to_dot, over}
use Rattle.ef_token.specs.Parts as x
use Rattle.ef_token.specs.Parts.{stays_on_line}
use Rattle.ef_scan.specs.declared.cursor.Cursor.{Cursor}
use Rattle.ef_scan.specs.declared.verdict.Piece.{Piece}
use Rattle.ef_scan.specs.declared.part.Part.TheVariants as part
use Rattle.ef_scan.specs.Cursors.{IsInText, IsStep, IsBehind, IsRun}
use Rattle.ef_scan.specs.Verdicts.{Holds, IsLexemeAt}
use Rattle.ef_scan.specs.Parts.{IsPartAt}
use Rattle.ef_scan.proofs.Cursors.{behind_none, behind_step, behind_all, step_behind, step_shorter}
use Rattle.ef_token.proofs.Parting.{longest_lexeme, longest_comment, longest_fault}

-- ---- what is passed over

pub record Passes (first behind : Cursor) : Type 0 where
  pub front : List ℕ
  pub passed : IsBehind first behind front
  pub on : (cs rest : List ℕ) → chars behind.rest.now ≡ cs ++ rest → Skips cs rest → Skips (front ++ cs) rest

pub passes_none : (first : Cursor) → IsInText first → Passes first first
passes_none first inside = record { front = []; passed = behind_none first inside; on = λ cs rest e h. h }

pub passes_more : (first behind next : Cursor) (c : ℕ) → Passes first behind → IsStep behind c next → (c ≡ 46 → EndsForm (chars next.rest.now) → ⊥) → Passes first next
passes_more first behind next c h step never = record {
  front = h.front ++ c ∷ [];
  passed = behind_step first behind next h.front c h.passed step;
  on = λ cs rest e k.
      subst (λ t. Skips t rest) (sym (append_assoc h.front (c ∷ []) cs))
      (h.on (c ∷ cs) rest (step.chars_are ∙ ap (λ t. c ∷ t) e) (over c cs rest (λ d ends. never d (subst EndsForm (sym e) ends)) k));
}

pub passes_dot : (first behind next : Cursor) (c : ℕ) → Passes first behind → IsStep behind c next → c ≡ 46 → EndsForm (chars next.rest.now)
    → (front : List ℕ) × IsBehind first next front × Skips front (chars next.rest.now)
passes_dot first behind next c h step e ends = (
  h.front ++ 46 ∷ [],
  subst (λ z. IsBehind first next (h.front ++ z ∷ [])) e (behind_step first behind next h.front c h.passed step),
  h.on (46 ∷ []) (chars next.rest.now) (step.chars_are ∙ ap (λ z. z ∷ chars next.rest.now) e) (to_dot (chars next.rest.now) ends),
)

pub passes_all : (first behind : Cursor) → Passes first behind → chars behind.rest.now ≡ [] → (front : List ℕ) × IsBehind first behind front × Skips front (chars behind.rest.now)
passes_all first behind h none = (
  h.front,
  h.passed,
  subst (Skips h.front) (sym none) (subst (λ t. Skips t []) (append-nil h.front) (h.on [] [] none to_end)),
)

-- ---- parts

pub no_gap : (c : ℕ) → is_white c ≡ false → (c ≡ 37 → ⊥) → begins_gap c ≡ false
no_gap c h n = grind (arith, nat_tests)

pub comment_at : (first behind second : Cursor) (c count : ℕ) (text : Bor (List ℕ)) → IsInText first → IsStep first c behind → c ≡ 37 → (run : IsRun stays_on_line behind second count)
    → text.now ≡ encode_utf8_all run.front → IsPartAt first (part.Comment text) second
comment_at first behind second c count text inside step e run is = record {
  is_part = x.comment run.front;
  is = is;
  short =
      let less = step_shorter first behind c step in
      let long : length behind.rest.now ≡ length text.now + length second.rest.now = ap length (run.behind.bytes_are ∙ ap (λ t. t ++ second.rest.now) (sym is)) ∙ length-append text.now second.rest.now in
      omega (arith, inside.lines);
  front = 37 ∷ run.front;
  behind = subst (λ z. IsBehind first second (z ∷ run.front)) e (behind_all first behind second (c ∷ []) run.front (step_behind first behind c step) run.behind);
  spelled = (refl, run.each, run.stops);
  longest = longest_comment run.front (37 ∷ run.front) (chars second.rest.now) refl run.stops;
}

pub lexeme_at : (first second : Cursor) (piece : Piece) → (l : Lexeme) × Holds piece l × IsLexemeAt first l second → IsPartAt first (part.Lexeme piece) second
lexeme_at first second piece h =
    let at = h.2 in
    record {
      is_part = x.lexeme h.0;
      is = h.1;
      short = tt;
      front = at.front;
      behind = at.behind;
      spelled = (at.lexeme, λ code fails. at.faultless code (subst (Fails code) (sym at.behind.chars_are) fails));
      longest = longest_lexeme h.0 at.front (chars second.rest.now) at.lexeme at.longest (λ code fails. at.faultless code (subst (Fails code) (sym at.behind.chars_are) fails));
    }

pub fault_at : (first second : Cursor) (code : ℕ) → IsFault code (chars first.rest.now) → (front : List ℕ) × IsBehind first second front × Skips front (chars second.rest.now) → IsPartAt first (part.Fault code) second
fault_at first second code h k =
    let is : IsFault code (k.0 ++ chars second.rest.now) = subst (IsFault code) k.1.chars_are h in
    record {
      is_part = x.fault code;
      is = refl;
      short = tt;
      front = k.0;
      behind = k.1;
      spelled = (is, k.2);
      longest = longest_fault code k.0 (chars second.rest.now) is k.2;
    }
