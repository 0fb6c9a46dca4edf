-- Scanning faults by the first character of the text.
use Rattle.std.specs.Prelude.{ℕ, ◌^◌, ◌<◌, ◌≤◌, ◌==◌, ◌≡◌, ◌⊎◌, Bool, true, false, List, [], ◌∷◌, ◌++◌, length, Option, refl}
use Rattle.std.proofs.Common.{ap, ◌∙◌, sym, subst, arith, inl, inr}
use Rattle.std.proofs.lemmas.Bool.Decides.{nat_tests}
use Rattle.ef_base.specs.Characters.{Stops, is_digit}
use Rattle.ef_base.specs.Cut.{Longest}
use Rattle.ef_base.specs.Taken.{Begins}
use Rattle.ef_token.specs.Letters.{is_quote, begins_gap}
use Rattle.ef_token.specs.Numerals.{Digits, is_digit_of, value_of, IsBase}
use Rattle.ef_token.specs.Lexeme.{atom, integer, Quoted, IsIllegalEscape, IsLexeme}
use Rattle.ef_token.specs.ScanFaults.{Fails, unterminated, illegal_in_quotes, illegal_character, long_atom, illegal_base, no_digit, lone_dollar, float, large, sigil, triple_quotes, HasNone, IsFault}
use Rattle.ef_token.proofs.Spellings.{BeginsAs}
use Rattle.ef_token.proofs.Lexemes.{number, bare, quoted, shape_of, shape_begins, below_seven, same_sort, begins_more, digits_begin, begins_no_gap}

-- no text goes on to a closing quote
abbrev pub IsUnclosed : ℕ → List ℕ → Type 0
IsUnclosed quote more = (cs : List (Option ℕ)) (inner rest : List ℕ) → more ≡ inner ++ rest → Quoted quote cs inner rest → ⊥

abbrev pub IsIllClosed : ℕ → List ℕ → Type 0
IsIllClosed quote more = (cs : List (Option ℕ)) × (inner rest : List ℕ) × (more ≡ inner ++ rest) × Quoted quote cs inner rest × HasNone cs

-- a fault with the sort of the first character
pub data FaultShape : ℕ → List ℕ → ℕ → Type 0 where
  open_atom : (text more : List ℕ) → text ≡ 39 ∷ more → IsUnclosed 39 more → FaultShape 103 text 4
  open_string : (text more : List ℕ) → text ≡ 34 ∷ more → IsUnclosed 34 more → FaultShape 103 text 5
  ill_atom : (text more : List ℕ) → text ≡ 39 ∷ more → IsIllClosed 39 more → FaultShape 104 text 4
  ill_string : (text more : List ℕ) → text ≡ 34 ∷ more → IsIllClosed 34 more → FaultShape 104 text 5
  ill_character : (text more : List ℕ) → text ≡ 36 ∷ 92 ∷ more → IsIllegalEscape more → FaultShape 104 text 6
  too_long : (n : ℕ) (text chars front rest : List ℕ) → text ≡ front ++ rest → BeginsAs n front → n < 7 → IsLexeme (atom chars) front rest → Longest IsLexeme front rest → 255 < length chars → FaultShape 105 text n
  no_base : (text digits more : List ℕ) → text ≡ digits ++ 35 ∷ more → Digits 10 digits → (IsBase (value_of 10 digits) → ⊥) → FaultShape 106 text 2
  no_digits : (text digits more : List ℕ) → text ≡ digits ++ 35 ∷ more → Digits 10 digits → Stops (is_digit_of (value_of 10 digits)) more → FaultShape 107 text 2
  dollar : (text : List ℕ) → text ≡ 36 ∷ [] → FaultShape 108 text 6
  fraction : (text digits : List ℕ) (d : ℕ) (more : List ℕ) → text ≡ digits ++ 46 ∷ d ∷ more → Digits 10 digits → is_digit d ≡ true → FaultShape 501 text 2
  too_large : (n : ℕ) (text front rest : List ℕ) → text ≡ front ++ rest → BeginsAs 2 front → IsLexeme (integer n) front rest → Longest IsLexeme front rest → 2 ^ 127 ≤ n → FaultShape 504 text 2
  tilde : (text more : List ℕ) → text ≡ 126 ∷ more → FaultShape 506 text 3
  triple : (text more : List ℕ) → text ≡ 34 ∷ 34 ∷ 34 ∷ more → FaultShape 507 text 5

is_one : (quote : ℕ) → is_quote quote ≡ true → (quote ≡ 39) ⊎ (quote ≡ 34)
is_one quote h = go (quote == 39) refl
  where
    go : (b : Bool) → (quote == 39) ≡ b → (quote ≡ 39) ⊎ (quote ≡ 34)
    go true e = inl (grind (arith, nat_tests))
    go false e = inr (grind (arith, nat_tests))

pub fault_shape : (code : ℕ) (text : List ℕ) → Fails code text → (n : ℕ) × FaultShape code text n
fault_shape _ _ (unterminated quote more q h) = go (is_one quote q)
  where
    go : (quote ≡ 39) ⊎ (quote ≡ 34) → (n : ℕ) × FaultShape 103 (quote ∷ more) n
    go (inl e) = (4, open_atom (quote ∷ more) more (ap (λ z. z ∷ more) e) (subst (λ z. IsUnclosed z more) e h))
    go (inr e) = (5, open_string (quote ∷ more) more (ap (λ z. z ∷ more) e) (subst (λ z. IsUnclosed z more) e h))
fault_shape _ _ (illegal_in_quotes quote cs inner rest q h k) = go (is_one quote q)
  where
    ill : IsIllClosed quote (inner ++ rest)
    ill = (cs, inner, rest, refl, h, k)

    go : (quote ≡ 39) ⊎ (quote ≡ 34) → (n : ℕ) × FaultShape 104 (quote ∷ (inner ++ rest)) n
    go (inl e) = (4, ill_atom (quote ∷ (inner ++ rest)) (inner ++ rest) (ap (λ z. z ∷ (inner ++ rest)) e) (subst (λ z. IsIllClosed z (inner ++ rest)) e ill))
    go (inr e) = (5, ill_string (quote ∷ (inner ++ rest)) (inner ++ rest) (ap (λ z. z ∷ (inner ++ rest)) e) (subst (λ z. IsIllClosed z (inner ++ rest)) e ill))
fault_shape _ _ (illegal_character more h) = (6, ill_character (36 ∷ 92 ∷ more) more refl h)
fault_shape _ _ (long_atom chars front rest h g k) =
    let s = shape_of (atom chars) front rest h in
    (s.0, too_long s.0 (front ++ rest) chars front rest refl (shape_begins (atom chars) front rest s.0 s.1) (below_seven (atom chars) front rest s.0 s.1) h g k)
fault_shape _ _ (illegal_base digits more h k) = (2, no_base (digits ++ 35 ∷ more) digits more refl h k)
fault_shape _ _ (no_digit digits more h b s) = (2, no_digits (digits ++ 35 ∷ more) digits more refl h s)
fault_shape _ _ lone_dollar = (6, dollar (36 ∷ []) refl)
fault_shape _ _ (float digits d more h k) = (2, fraction (digits ++ 46 ∷ d ∷ more) digits d more refl h k)
fault_shape _ _ (large n front rest h g k) =
    (2, too_large n (front ++ rest) front rest refl (integer_as n front rest h) h g k)
  where
    integer_as : (n : ℕ) (front rest : List ℕ) → IsLexeme (integer n) front rest → BeginsAs 2 front
    integer_as n front rest h = shape_begins (integer n) front rest 2 (number n front rest h)
fault_shape _ _ (sigil more) = (3, tilde (126 ∷ more) more refl)
fault_shape _ _ (triple_quotes more) = (5, triple (34 ∷ 34 ∷ 34 ∷ more) more refl)

pub fault_begins : (code : ℕ) (text : List ℕ) (n : ℕ) → FaultShape code text n → BeginsAs n text × (n < 7)
fault_begins _ _ _ (open_atom text more e h) = (subst (BeginsAs 4) (sym e) refl, omega arith)
fault_begins _ _ _ (open_string text more e h) = (subst (BeginsAs 5) (sym e) refl, omega arith)
fault_begins _ _ _ (ill_atom text more e h) = (subst (BeginsAs 4) (sym e) refl, omega arith)
fault_begins _ _ _ (ill_string text more e h) = (subst (BeginsAs 5) (sym e) refl, omega arith)
fault_begins _ _ _ (ill_character text more e h) = (subst (BeginsAs 6) (sym e) refl, omega arith)
fault_begins _ _ _ (too_long n text chars front rest e b l h g k) = (subst (BeginsAs n) (sym e) (begins_more n front rest b), l)
fault_begins _ _ _ (no_base text digits more e h k) = (subst (BeginsAs 2) (sym e) (digits_begin digits (35 ∷ more) h), omega arith)
fault_begins _ _ _ (no_digits text digits more e h k) = (subst (BeginsAs 2) (sym e) (digits_begin digits (35 ∷ more) h), omega arith)
fault_begins _ _ _ (dollar text e) = (subst (BeginsAs 6) (sym e) refl, omega arith)
fault_begins _ _ _ (fraction text digits d more e h k) = (subst (BeginsAs 2) (sym e) (digits_begin digits (46 ∷ d ∷ more) h), omega arith)
fault_begins _ _ _ (too_large n text front rest e b h g k) = (subst (BeginsAs 2) (sym e) (begins_more 2 front rest b), omega arith)
fault_begins _ _ _ (tilde text more e) = (subst (BeginsAs 3) (sym e) refl, omega arith)
fault_begins _ _ _ (triple text more e) = (subst (BeginsAs 5) (sym e) refl, omega arith)

-- the shape that a fault has behind this first character
pub fault_at : (code : ℕ) (text : List ℕ) (n : ℕ) → Fails code text → BeginsAs n text → FaultShape code text n
fault_at code text n h b =
    let s = fault_shape code text h in
    subst (FaultShape code text) (same_sort s.0 n text (fault_begins code text s.0 s.1).0 b) s.1

-- a fault begins with no gap
pub fault_no_gap : (code : ℕ) (text : List ℕ) → IsFault code text → Begins begins_gap false text
fault_no_gap code text (inl h) = let s = fault_shape code text h.0 in let b = fault_begins code text s.0 s.1 in begins_no_gap s.0 text b.0 b.1
fault_no_gap code text (inr h) = h.3

-- a text has one fault
pub one_fault : (a b : ℕ) (text : List ℕ) → IsFault a text → IsFault b text → a ≡ b
one_fault a b text (inl h) (inl k) = let l = h.1 b k.0 in let m = k.1 a h.0 in omega arith
one_fault a b text (inl h) (inr k) = absurd (k.1 a h.0)
one_fault a b text (inr h) (inl k) = absurd (h.1 b k.0)
one_fault a b text (inr h) (inr k) = h.0 ∙ sym k.0

-- an atom begins as one that is quoted or not
pub atom_sort : (n : ℕ) (cs front rest : List ℕ) → IsLexeme (atom cs) front rest → BeginsAs n front → (n ≡ 0) ⊎ (n ≡ 4)
atom_sort n cs front rest (inl h) b = inl (same_sort n 0 front b (shape_begins (atom cs) front rest 0 (bare cs front rest h.0 h.1 h.2)))
atom_sort n cs front rest (inr h) b = inr (same_sort n 4 front b (shape_begins (atom cs) front rest 4 (quoted cs front rest h)))
