-- Symbols and the full stop.
use Rattle.std.specs.Prelude.{IsUtf8, ℕ, ◌≤◌, ◌≡◌, List, [], ◌∷◌, ◌++◌, length, take, chars, encode_utf8_all, refl}
use Rattle.std.proofs.Common.{ap, ◌∙◌, sym, subst, arith, inl, inr, length-append}
use Rattle.std.proofs.lemmas.Str.{encodes-chars, encodes-append, encodes-IsAscii}
use Rattle.std.proofs.Math.Seq.{take-append_seam}
use Rattle.ef_base.specs.Characters.{Each}
use Rattle.ef_token.specs.declared.word.Sym.{Sym}
use Rattle.ef_token.specs.declared.word.Sym.TheVariants as symbols
use Rattle.ef_token.specs.Words.{sym_text}
use Rattle.ef_token.specs.Lexeme as x
use Rattle.ef_token.specs.Lexeme.{Lexeme, IsLexeme, EndsForm}
use Rattle.ef_token.specs.ScanFaults.{Fails, sigil, IsFault}
use Rattle.ef_scan.specs.declared.cursor.Cursor.{Cursor}
use Rattle.ef_scan.specs.Cursors.{IsInText, IsStep, IsBehind, is_plain}
use Rattle.ef_token.specs.Sorts.{sort, BeginsAs}
use Rattle.ef_scan.specs.Symbols.{Fits, IsLongestSymbol}
use Rattle.ef_scan.specs.Verdicts.{IsLexemeAt}
use Rattle.ef_base.proofs.Fronts.{each_ascii}
use Rattle.ef_scan.proofs.Cursors.{plain_small, printing_plain}
use Rattle.ef_token.proofs.Spellings.{symbol_facts}
use Rattle.ef_token.proofs.Lexemes.{shape_at, begins_no_gap, lexeme_no_gap}
use Rattle.ef_token.proofs.Faults.{FaultShape, tilde, too_long, fault_at}
use Rattle.ef_token.proofs.Standing.{IsLongestSign, no_atom_sort, sign_shape, no_sign_fault, symbol_stands, stop_stands}
use Rattle.ef_scan.proofs.Standing.{lexeme_at}

-- plain characters at the front of the characters are bytes at the front of the bytes
bytes_plain : (text front rest : List ℕ) → IsUtf8 text → chars text ≡ front ++ rest → Each is_plain front → (more : List ℕ) × (text ≡ front ++ more)
bytes_plain text front rest u e h = (
  encode_utf8_all rest,
  sym (encodes-chars text u) ∙ ap encode_utf8_all e ∙ encodes-append front rest ∙ ap (λ t. t ++ encode_utf8_all rest) (encodes-IsAscii front (each_ascii is_plain plain_small front h)),
)

pub symbol_front : (text : List ℕ) (s : Sym) (width : ℕ) → IsLongestSymbol text s width → take width text ≡ sym_text s
symbol_front text s width h =
    ap (λ n. take n text) h.long ∙ ap (λ t. take (length (sym_text s)) t) h.fits.1 ∙ take-append_seam (sym_text s) h.fits.0

pub symbol_plain : (text : List ℕ) (s : Sym) (width : ℕ) → IsLongestSymbol text s width → Each is_plain (take width text)
symbol_plain text s width h = subst (Each is_plain) (sym (symbol_front text s width h)) (printing_plain (sym_text s) (symbol_facts s).plain)

pub symbol_within : (text : List ℕ) (s : Sym) (width : ℕ) → IsLongestSymbol text s width → width ≤ length text
symbol_within text s width h = let e = ap length h.fits.1 in let l = length-append (sym_text s) h.fits.0 in let w = h.long in omega arith

longest_symbol : (text : List ℕ) (s : Sym) (width : ℕ) (rest : List ℕ) → IsUtf8 text → IsLongestSymbol text s width → chars text ≡ sym_text s ++ rest → IsLongestSign s rest
longest_symbol text s width rest u h is t after e =
    let short = h.longest t (bytes_plain text (sym_text t) after u (is ∙ e) (printing_plain (sym_text t) (symbol_facts t).plain)) in
    omega (arith, h.long, short)

module _ (first second : Cursor) (s : Sym) (width : ℕ) (inside : IsInText first) (is : IsLongestSymbol first.rest.now s width) (behind : IsBehind first second (take width first.rest.now)) where
  front_is : IsBehind first second (sym_text s)
  front_is = subst (IsBehind first second) (symbol_front first.rest.now s width is) behind

  longest : IsLongestSign s (chars second.rest.now)
  longest = longest_symbol first.rest.now s width (chars second.rest.now) inside.utf8 is front_is.chars_are

  pub symbol_at : (s ≡ symbols.Period → EndsForm (chars second.rest.now) → ⊥) → IsLexemeAt first (x.symbol s) second
  symbol_at never = lexeme_at first second (x.symbol s) (sym_text s) front_is (symbol_stands s (chars second.rest.now) longest never)

  pub stop_at : s ≡ symbols.Period → EndsForm (chars second.rest.now) → IsLexemeAt first x.full_stop second
  stop_at e ends = lexeme_at first second x.full_stop (sym_text s) front_is (stop_stands s (chars second.rest.now) longest e ends)

-- ---- no symbol

step_begins : (n : ℕ) (first behind : Cursor) (c : ℕ) → IsStep first c behind → sort c ≡ n → BeginsAs n (chars first.rest.now)
step_begins n first behind c step e = subst (BeginsAs n) (sym step.chars_are) e

pub tilde_fault : (first behind : Cursor) (c : ℕ) → IsStep first c behind → c ≡ 126 → IsFault 506 (chars first.rest.now)
tilde_fault first behind c step e =
    let is : chars first.rest.now ≡ 126 ∷ chars behind.rest.now = step.chars_are ∙ ap (λ z. z ∷ chars behind.rest.now) e in
    inl (
      subst (Fails 506) (sym is) (sigil (chars behind.rest.now)),
      λ other fails. least other (chars first.rest.now) 3 (fault_at other (chars first.rest.now) 3 fails (subst (BeginsAs 3) (sym is) refl)) refl,
    )
  where
    least : (code : ℕ) (text : List ℕ) (n : ℕ) → FaultShape code text n → n ≡ 3 → 506 ≤ code
    least _ _ _ (tilde text more e) z = omega arith
    least _ _ _ (too_long n text cs front rest e b l h g k) z = no_atom_sort n 3 cs front rest h b z (λ y. omega arith) (λ y. omega arith)
    least code text n h z = absurd (omega (arith, z))

pub character_fault : (first behind : Cursor) (c : ℕ) → IsInText first → IsStep first c behind → sort c ≡ 3 → (c ≡ 126 → ⊥) → ((s : Sym) → Fits s first.rest.now → ⊥) → IsFault 102 (chars first.rest.now)
character_fault first behind c inside step e never none =
    inr (
      refl,
      λ code fails.
          no_sign_fault code (chars first.rest.now) 3 (fault_at code (chars first.rest.now) 3 fails begins) refl
          (λ more z. never (cc (step.chars_are, z))),
      λ l front rest z h. fits l front rest z (sign_shape l front rest 3 (shape_at l front rest 3 h (front_begins front rest l z h)) refl),
      begins_no_gap 3 (chars first.rest.now) begins (omega arith),
    )
  where
    begins : BeginsAs 3 (chars first.rest.now)
    begins = step_begins 3 first behind c step e

    front_begins : (front rest : List ℕ) (l : Lexeme) → chars first.rest.now ≡ front ++ rest → IsLexeme l front rest → BeginsAs 3 front
    front_begins [] rest l z h = absurd (lexeme_no_gap l [] rest h)
    front_begins (d ∷ front) rest l z h = subst (BeginsAs 3) z begins

    fits : (l : Lexeme) (front rest : List ℕ) → chars first.rest.now ≡ front ++ rest → (s : Sym) × (front ≡ sym_text s) → ⊥
    fits l front rest z k = none k.0 (bytes_plain first.rest.now (sym_text k.0) rest inside.utf8 (z ∙ ap (λ t. t ++ rest) k.1) (printing_plain (sym_text k.0) (symbol_facts k.0).plain))
