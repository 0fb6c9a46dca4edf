-- Names, quoted atoms, strings and characters: what is found, and which faults begin as they do.
use Rattle.std.specs.Prelude.{IsUtf8, ℕ, ◌<◌, ◌≤◌, ◌==◌, ◌≡◌, ◌≢◌, ◌⊎◌, true, false, List, [], ◌∷◌, ◌++◌, length, map, chars, encode_utf8_all, Option, Some, refl}
use Rattle.std.proofs.Common.{ap, ◌∙◌, sym, subst, arith, inl, inr}
use Rattle.std.proofs.lemmas.Bool.Decides.{nat_tests}
use Rattle.std.proofs.lemmas.Str.{encodes_same, encodes-chars, chars-nil}
use Rattle.ef_base.specs.Characters.{Stops}
use Rattle.ef_base.specs.Taken.{Begins}
use Rattle.ef_base.specs.Escape.{Escape, by_letter, by_octal, by_two, by_braces, by_control, by_question, itself, Written, plainly, escaped}
use Rattle.ef_token.specs.declared.word.Word.{Word}
use Rattle.ef_token.specs.Words.{word_text}
use Rattle.ef_token.specs.Letters.{is_quote, continues_name, begins_gap}
use Rattle.ef_token.specs.Lexeme as x
use Rattle.ef_token.specs.Lexeme.{Lexeme, IsLexeme, IsQuoted, Quoted, closes, IsIllegalEscape}
use Rattle.ef_token.specs.ScanFaults.{Fails, unterminated, illegal_in_quotes, illegal_character, long_atom, lone_dollar, triple_quotes, HasNone, IsFault}
use Rattle.ef_scan.specs.declared.cursor.Cursor.{Cursor}
use Rattle.ef_scan.specs.Cursors.{IsStep, IsBehind, IsRun}
use Rattle.ef_token.specs.Sorts.{sort, BeginsAs}
use Rattle.ef_scan.specs.Verdicts.{IsAtomAt, IsLexemeAt}
use Rattle.ef_scan.proofs.Cursors.{behind_all, step_behind}
use Rattle.ef_token.proofs.Names.{word_encodes}
use Rattle.ef_token.proofs.Quoting.{closes_next}
use Rattle.ef_token.proofs.Lexemes.{shape_at, lexeme_no_gap}
use Rattle.ef_token.proofs.Faults.{FaultShape, open_atom, open_string, ill_string, ill_character, too_long, triple, fault_at}
use Rattle.ef_token.proofs.Faults as f
use Rattle.ef_token.proofs.Standing.{no_atom_sort, short_atom, atom_stands, word_stands, variable_stands, quoted_stands, string_stands, dollar_shape, character_stands}
use Rattle.ef_scan.proofs.Standing as s
use Rattle.ef_scan.proofs.Standing.{lexeme_at, atom_stands_at}

-- ---- names

sort_continues : (c n : ℕ) → sort c ≡ n → n < 2 → continues_name c ≡ true
sort_continues c n e low = grind (arith, nat_tests)

-- a run from a letter on has the letter
run_begins : (n : ℕ) (txt front rest : List ℕ) → n < 2 → BeginsAs n txt → txt ≡ front ++ rest → Stops continues_name rest → BeginsAs n front
run_begins n txt [] rest low b e s = absurd (go rest (subst (BeginsAs n) e b) s)
  where
    go : (rest : List ℕ) → BeginsAs n rest → Stops continues_name rest → ⊥
    go [] b s = b
    go (c ∷ cs) b s = let yes : continues_name c ≡ true = sort_continues c n b low in cc
run_begins n txt (c ∷ front) rest low b e s = subst (BeginsAs n) e b

-- the text of a reserved word is its characters
pub word_front : (front bytes : List ℕ) (w : Word) → bytes ≡ encode_utf8_all front → bytes ≡ word_text w → front ≡ word_text w
word_front front bytes w e h = encodes_same front (word_text w) (sym e ∙ h ∙ sym (word_encodes w))

pub word_bytes : (front bytes : List ℕ) (w : Word) → bytes ≡ encode_utf8_all front → front ≡ word_text w → bytes ≡ word_text w
word_bytes front bytes w e h = e ∙ ap encode_utf8_all h ∙ word_encodes w

pub atom_found : (first second : Cursor) (cs : List ℕ) → IsAtomAt first cs second → length cs ≤ 255 → IsLexemeAt first (x.atom cs) second
atom_found first second cs h short = lexeme_at first second (x.atom cs) h.front h.behind (short_atom cs h.front (chars second.rest.now) (atom_stands_at first second cs h) short)

pub atom_long : (first second : Cursor) (cs : List ℕ) → IsAtomAt first cs second → 255 < length cs → IsFault 105 (chars first.rest.now)
atom_long first second cs h long =
    inl (subst (Fails 105) (sym h.behind.chars_are) (long_atom cs h.front (chars second.rest.now) h.lexeme h.longest long), λ other fails. h.others other fails)

module _ (first second : Cursor) (count : ℕ) (run : IsRun continues_name first second count) where
  begins : (n : ℕ) → n < 2 → BeginsAs n (chars first.rest.now) → BeginsAs n run.front
  begins n low b = run_begins n (chars first.rest.now) run.front (chars second.rest.now) low b run.behind.chars_are run.stops

  pub atom_at : BeginsAs 0 (chars first.rest.now) → ((w : Word) → run.front ≢ word_text w) → IsAtomAt first run.front second
  atom_at b never =
      s.atom_at first second run.front run.front run.behind (atom_stands run.front (chars second.rest.now) run.each run.stops (begins 0 (omega arith) b) never)

  pub word_at : (w : Word) → run.front ≡ word_text w → IsLexemeAt first (x.word w) second
  word_at w e = lexeme_at first second (x.word w) run.front run.behind (word_stands run.front (chars second.rest.now) run.each run.stops w e)

  pub variable_at : BeginsAs 1 (chars first.rest.now) → IsLexemeAt first (x.variable run.front) second
  variable_at b =
      lexeme_at first second (x.variable run.front) run.front run.behind (variable_stands run.front (chars second.rest.now) run.each run.stops (begins 1 (omega arith) b))

-- ---- texts in quotes

-- a text whose quotes close legally
pub record IsClosed (quote : ℕ) (first second : Cursor) (cs : List ℕ) : Type 0 where
  pub inner : List ℕ
  pub behind : IsBehind first second (quote ∷ inner)
  pub quoted : Quoted quote (map Some cs) inner (chars second.rest.now)

pub closed : (quote : ℕ) (first behind second : Cursor) (cs : List ℕ) → IsStep first quote behind → (front : List ℕ) × IsBehind behind second front × Quoted quote (map Some cs) front (chars second.rest.now)
    → IsClosed quote first second cs
closed quote first behind second cs step h = record {
  inner = h.0;
  behind = behind_all first behind second (quote ∷ []) h.0 (step_behind first behind quote step) h.1;
  quoted = h.2;
}

pub quoted_at : (first second : Cursor) (cs : List ℕ) → IsClosed 39 first second cs → IsAtomAt first cs second
quoted_at first second cs h = s.atom_at first second cs (39 ∷ h.inner) h.behind (quoted_stands cs h.inner (chars second.rest.now) h.quoted)

pub string_at : (first second : Cursor) (cs : List ℕ) → IsClosed 34 first second cs → ((more : List ℕ) → chars first.rest.now ≡ 34 ∷ 34 ∷ 34 ∷ more → ⊥) → IsLexemeAt first (x.string cs) second
string_at first second cs h never =
    lexeme_at first second (x.string cs) (34 ∷ h.inner) h.behind
    (string_stands cs h.inner (chars second.rest.now) h.quoted (λ more e. never more (h.behind.chars_are ∙ ap (λ t. 34 ∷ t) e)))

-- the faults of quoted texts: 103 is the least, and 104 where the text is closed
least_of_quotes : (code : ℕ) (txt : List ℕ) (n : ℕ) → FaultShape code txt n → (n ≡ 4) ⊎ (n ≡ 5) → 103 ≤ code
least_of_quotes _ _ _ (open_atom txt more e none) z = omega arith
least_of_quotes code txt n h z = omega arith

pub open_fault : (quote n : ℕ) (first behind : Cursor) → is_quote quote ≡ true → sort quote ≡ n → (n ≡ 4) ⊎ (n ≡ 5) → IsStep first quote behind
    → ((cs : List (Option ℕ)) (front rest : List ℕ) → chars behind.rest.now ≡ front ++ rest → Quoted quote cs front rest → ⊥) → IsFault 103 (chars first.rest.now)
open_fault quote n first behind q s z step none =
    inl (
      subst (Fails 103) (sym step.chars_are) (unterminated quote (chars behind.rest.now) q none),
      λ other fails. least_of_quotes other (chars first.rest.now) n (fault_at other (chars first.rest.now) n fails (subst (BeginsAs n) (sym step.chars_are) s)) z,
    )

least_of_closed : (quote : ℕ) (cs : List (Option ℕ)) (inner rest more : List ℕ) → Quoted quote cs inner rest → more ≡ inner ++ rest → is_quote quote ≡ true
    → (code : ℕ) (txt : List ℕ) (n : ℕ) → FaultShape code txt n → (n ≡ 4) ⊎ (n ≡ 5) → txt ≡ quote ∷ more → 104 ≤ code
least_of_closed quote cs inner rest more k e q _ _ _ (open_atom txt left is none) z h =
    absurd (subst (λ y. f.IsUnclosed y left → ⊥) (sym (head (sym is ∙ h))) (λ none. none cs inner rest (tail (sym is ∙ h) ∙ e) k) none)
  where
    head : 39 ∷ left ≡ quote ∷ more → 39 ≡ quote
    head e = cc e

    tail : 39 ∷ left ≡ quote ∷ more → left ≡ more
    tail e = cc e
least_of_closed quote cs inner rest more k e q _ _ _ (open_string txt left is none) z h =
    absurd (subst (λ y. f.IsUnclosed y left → ⊥) (sym (head (sym is ∙ h))) (λ none. none cs inner rest (tail (sym is ∙ h) ∙ e) k) none)
  where
    head : 34 ∷ left ≡ quote ∷ more → 34 ≡ quote
    head e = cc e

    tail : 34 ∷ left ≡ quote ∷ more → left ≡ more
    tail e = cc e
least_of_closed quote cs inner rest more k e q code txt n s z h = omega arith

pub ill_fault : (quote n : ℕ) (first behind : Cursor) → is_quote quote ≡ true → sort quote ≡ n → (n ≡ 4) ⊎ (n ≡ 5) → IsStep first quote behind
    → (cs : List (Option ℕ)) × (front rest : List ℕ) × (chars behind.rest.now ≡ front ++ rest) × Quoted quote cs front rest × HasNone cs → IsFault 104 (chars first.rest.now)
ill_fault quote n first behind q s z step k =
    inl (
      subst (Fails 104) (sym (step.chars_are ∙ ap (λ t. quote ∷ t) k.3)) (illegal_in_quotes quote k.0 k.1 k.2 q k.4 k.5),
      λ other fails.
          least_of_closed quote k.0 k.1 k.2 (chars behind.rest.now) k.4 k.3 q other (chars first.rest.now) n
          (fault_at other (chars first.rest.now) n fails (subst (BeginsAs n) (sym step.chars_are) s)) z step.chars_are,
    )

-- three quotes
closed_two : (first behind : Cursor) (more : List ℕ) → IsStep first 34 behind → chars behind.rest.now ≡ 34 ∷ 34 ∷ more → chars first.rest.now ≡ 34 ∷ 34 ∷ 34 ∷ more
closed_two first behind more step e = step.chars_are ∙ ap (λ t. 34 ∷ t) e

least_of_three : (more : List ℕ) → (code : ℕ) (txt : List ℕ) (n : ℕ) → FaultShape code txt n → n ≡ 5 → txt ≡ 34 ∷ 34 ∷ 34 ∷ more → 507 ≤ code
least_of_three more _ _ _ (open_string txt left e none) z is = absurd (none [] (34 ∷ []) (34 ∷ more) (cc (e, is)) (closes (34 ∷ more)))
least_of_three more _ _ _ (ill_string txt left e ill) z is =
    let same : ill.0 ≡ [] = (closes_next 34 ill.0 (34 ∷ more) ill.1 ill.2 refl ill.4 (cc (e, is, ill.3))).0 in
    absurd (subst HasNone same ill.5)
least_of_three more _ _ _ (triple txt left e) z is = omega arith
least_of_three more _ _ _ (too_long n txt ds front rest e b l k g j) z is = no_atom_sort n 5 ds front rest k b z (λ y. omega arith) (λ y. omega arith)
least_of_three more code txt n k z is = absurd (omega (arith, z))

pub triple_fault : (first behind : Cursor) → IsStep first 34 behind → (more : List ℕ) × (chars behind.rest.now ≡ 34 ∷ 34 ∷ more) → IsFault 507 (chars first.rest.now)
triple_fault first behind step k =
    let e = closed_two first behind k.0 step k.1 in
    inl (
      subst (Fails 507) (sym e) (triple_quotes k.0),
      λ other fails. least_of_three k.0 other (chars first.rest.now) 5 (fault_at other (chars first.rest.now) 5 fails (subst (BeginsAs 5) (sym e) refl)) refl e,
    )

pub not_three : (first behind : Cursor) → IsStep first 34 behind → ((more : List ℕ) × (chars behind.rest.now ≡ 34 ∷ 34 ∷ more) → ⊥) → (more : List ℕ) → chars first.rest.now ≡ 34 ∷ 34 ∷ 34 ∷ more → ⊥
not_three first behind step never more e = never (more, cc (step.chars_are, e))

-- ---- characters

pub character_at : (first behind second : Cursor) (c : ℕ) → IsStep first 36 behind → (front : List ℕ) × IsBehind behind second front × Written (λ d. false) c front (chars second.rest.now) → IsLexemeAt first (x.character c) second
character_at first behind second c step h =
    lexeme_at first second (x.character c) (36 ∷ h.0) (behind_all first behind second (36 ∷ []) h.0 (step_behind first behind 36 step) h.1) (character_stands c h.0 (chars second.rest.now) h.2)

least_of_character : (code : ℕ) (txt : List ℕ) (n : ℕ) → FaultShape code txt n → n ≡ 6 → 104 ≤ code
least_of_character _ _ _ (ill_character txt more e bad) z = omega arith
least_of_character code txt n h z = omega arith

dollar_begins : (first behind : Cursor) → IsStep first 36 behind → BeginsAs 6 (chars first.rest.now)
dollar_begins first behind step = subst (BeginsAs 6) (sym step.chars_are) refl

pub ill_character_fault : (first behind next : Cursor) → IsStep first 36 behind → (c : ℕ) × IsBehind behind next (92 ∷ c ∷ []) × IsIllegalEscape (c ∷ chars next.rest.now) → IsFault 104 (chars first.rest.now)
ill_character_fault first behind next step k =
    inl (
      subst (Fails 104) (sym (step.chars_are ∙ ap (λ t. 36 ∷ t) k.1.chars_are)) (illegal_character (k.0 ∷ chars next.rest.now) k.2),
      λ other fails. least_of_character other (chars first.rest.now) 6 (fault_at other (chars first.rest.now) 6 fails (dollar_begins first behind step)) refl,
    )

least_of_lone : (code : ℕ) (txt : List ℕ) (n : ℕ) → FaultShape code txt n → n ≡ 6 → txt ≡ 36 ∷ [] → 108 ≤ code
least_of_lone _ _ _ (ill_character txt more e bad) z is = cc (e, is)
least_of_lone _ _ _ (too_long n txt ds front behind e b l k g j) z is = no_atom_sort n 6 ds front behind k b z (λ y. omega arith) (λ y. omega arith)
least_of_lone code txt n h z is = omega arith

pub lone_fault : (first behind : Cursor) → IsStep first 36 behind → chars behind.rest.now ≡ [] → IsFault 108 (chars first.rest.now)
lone_fault first behind step none =
    let e : chars first.rest.now ≡ 36 ∷ [] = step.chars_are ∙ ap (λ t. 36 ∷ t) none in
    inl (
      subst (Fails 108) (sym e) lone_dollar,
      λ other fails. least_of_lone other (chars first.rest.now) 6 (fault_at other (chars first.rest.now) 6 fails (dollar_begins first behind step)) refl e,
    )

-- `$\` ends the file
no_escape_there : (c : ℕ) (front rest : List ℕ) → Escape c front rest → [] ≡ front ++ rest → ⊥
no_escape_there _ _ _ (by_letter letter c rest e) z = cc z
no_escape_there _ _ _ (by_octal [] rest some each long) z = absurd (omega arith)
no_escape_there _ _ _ (by_octal (d ∷ ds) rest some each long) z = cc z
no_escape_there _ _ _ (by_two a b rest each) z = cc z
no_escape_there _ _ _ (by_braces ds rest some each is) z = cc z
no_escape_there _ _ _ (by_control c rest is) z = cc z
no_escape_there _ _ _ (by_question rest) z = cc z
no_escape_there _ _ _ (itself c rest unnamed other) z = cc z

no_written_alone : (c : ℕ) (inner rest : List ℕ) → Written (λ d. false) c inner rest → 92 ∷ [] ≡ inner ++ rest → ⊥
no_written_alone _ _ _ (plainly c rest other) e = let same : 92 ≡ c = cc e in absurd (grind (arith, nat_tests))
no_written_alone _ _ _ (escaped c front rest is) e = no_escape_there c front rest is (cc e)

no_lexeme_here : (l : Lexeme) (front rest : List ℕ) → 36 ∷ 92 ∷ [] ≡ front ++ rest → IsLexeme l front rest → BeginsAs 6 front → ⊥
no_lexeme_here l front rest e h b =
    let s = dollar_shape l front rest 6 (shape_at l front rest 6 h b) refl in
    no_written_alone s.0 s.1 rest s.3 (cc (e ∙ ap (λ t. t ++ rest) s.2))

front_begins : (front rest : List ℕ) (l : Lexeme) → BeginsAs 6 (front ++ rest) → IsLexeme l front rest → BeginsAs 6 front
front_begins [] rest l b h = absurd (lexeme_no_gap l [] rest h)
front_begins (c ∷ front) rest l b h = b

no_alone_fault : (code : ℕ) (txt : List ℕ) (n : ℕ) → FaultShape code txt n → n ≡ 6 → txt ≡ 36 ∷ 92 ∷ [] → ⊥
no_alone_fault _ _ _ (ill_character txt [] e bad) z is = bad
no_alone_fault _ _ _ (ill_character txt (d ∷ more) e bad) z is = cc (e, is)
no_alone_fault _ _ _ (f.dollar txt e) z is = cc (e, is)
no_alone_fault _ _ _ (too_long n txt ds front behind e b l k g j) z is = no_atom_sort n 6 ds front behind k b z (λ y. omega arith) (λ y. omega arith)
no_alone_fault code txt n h z is = absurd (omega (arith, z))

pub alone_fault : (first behind : Cursor) → IsStep first 36 behind → chars behind.rest.now ≡ 92 ∷ [] → IsFault 102 (chars first.rest.now)
alone_fault first behind step one =
    let e : chars first.rest.now ≡ 36 ∷ 92 ∷ [] = step.chars_are ∙ ap (λ t. 36 ∷ t) one in
    inr (
      refl,
      λ code fails. no_alone_fault code (chars first.rest.now) 6 (fault_at code (chars first.rest.now) 6 fails (dollar_begins first behind step)) refl e,
      λ l front rest is h. no_lexeme_here l front rest (sym e ∙ is) h (front_begins front rest l (subst (BeginsAs 6) is (dollar_begins first behind step)) h),
      subst (Begins begins_gap false) (sym step.chars_are) refl,
    )

-- ---- texts that are empty or not

pub stops_false : (txt : List ℕ) → Stops (λ c. false) txt
stops_false [] = tt
stops_false (c ∷ txt) = refl

pub empty_chars : (txt : List ℕ) → (length txt == 0) ≡ true → chars txt ≡ []
empty_chars [] e = chars-nil
empty_chars (c ∷ txt) e = absurd (grind (arith, nat_tests))

pub some_chars : (txt : List ℕ) → IsUtf8 txt → (length txt == 0) ≡ false → chars txt ≡ [] → ⊥
some_chars txt u e none =
    let l : length txt ≡ 0 = ap length (sym (encodes-chars txt u) ∙ ap encode_utf8_all none) in
    absurd (grind (arith, nat_tests))

pub lone_backslash : (txt : List ℕ) → IsUtf8 txt → (length txt == 0) ≡ false → (chars txt ≡ []) ⊎ (chars txt ≡ 92 ∷ []) → chars txt ≡ 92 ∷ []
lone_backslash txt u e (inl none) = absurd (some_chars txt u e none)
lone_backslash txt u e (inr one) = one
