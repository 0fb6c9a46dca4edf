-- What begins with a numeral.
use Rattle.std.specs.Prelude.{ℕ, ◌^◌, ◌<◌, ◌≤◌, ◌≡◌, true, List, [], ◌∷◌, ◌++◌, length, refl}
use Rattle.std.proofs.Common.{ap, ◌∙◌, sym, subst, arith, inl, inr, append_assoc, length-append}
use Rattle.ef_base.specs.Characters.{Stops, is_digit}
use Rattle.ef_base.specs.Cut.{Longest}
use Rattle.ef_base.proofs.Escapes.{same_rest}
use Rattle.ef_token.specs.Numerals.{Digits, is_digit_of, value_of, IsBase, Halts}
use Rattle.ef_token.specs.Sorts.{BeginsAs}
use Rattle.ef_token.specs.Lexeme as x
use Rattle.ef_token.specs.Lexeme.{Lexeme, IsLexeme, IsInteger}
use Rattle.ef_token.specs.ScanFaults.{Fails}
use Rattle.ef_token.proofs.Numerals.{front_digits, same_digits, same_begins}
use Rattle.ef_token.proofs.Lexemes.{Shape, number, shape_at, shape_begins, begins_more, digits_begin, no_hash, hash_halts, same_lexeme}
use Rattle.ef_token.proofs.Faults.{FaultShape, no_base, no_digits, fraction, too_large, too_long, fault_at}
use Rattle.ef_token.proofs.Standing.{Stands, no_atom_sort}

number_shape : (l : Lexeme) (front rest : List ℕ) (n : ℕ) → Shape l front rest n → n ≡ 2 → (m : ℕ) × IsInteger m front
number_shape _ _ _ _ (number m front rest h) e = (m, h)
number_shape l front rest n h e = absurd (omega (arith, e))

dot_halts : (cs : List ℕ) → Halts 10 (46 ∷ cs)
dot_halts cs = (refl, λ e. absurd (omega arith))

-- a numeral before a sign is the one that was read
before_sign : (sign : ℕ) (ds rest es more : List ℕ) → Digits 10 ds → Halts 10 rest → Digits 10 es → Halts 10 (sign ∷ more) → ds ++ rest ≡ es ++ sign ∷ more → (ds ≡ es) × (rest ≡ sign ∷ more)
before_sign sign ds rest es more h g k z e =
    let same : ds ≡ es = same_digits 10 ds es rest (sign ∷ more) (omega arith) h k g z e in
    (same, same_rest es rest (sign ∷ more) (ap (λ t. t ++ rest) (sym same) ∙ e))

-- ---- the longest integers

more_is_none : (a more m : List ℕ) → a ≡ (a ++ more) ++ m → more ≡ []
more_is_none a [] m e = refl
more_is_none a (c ∷ more) m e = let l = ap length e ∙ length-append (a ++ c ∷ more) m in let k = length-append a (c ∷ more) in absurd (omega arith)

pub longest_decimal : (ds rest : List ℕ) → Digits 10 ds → Halts 10 rest → ((more : List ℕ) → rest ≡ 35 ∷ more → ⊥) → Longest IsLexeme ds rest
longest_decimal ds rest h halts none more after other e k = go n.1
  where
    n : (m : ℕ) × IsInteger m (ds ++ more)
    n = number_shape other (ds ++ more) after 2 (shape_at other (ds ++ more) after 2 k (digits_begin ds more h)) refl

    whole : ds ++ rest ≡ (ds ++ more) ++ after
    whole = ap (λ t. ds ++ t) e ∙ sym (append_assoc ds more after)

    go : IsInteger n.0 (ds ++ more) → more ≡ []
    go (inl d) = let f = front_digits 10 ds (ds ++ more) rest after (omega arith) h d.0 halts whole in more_is_none ds more f.0 f.1
    go (inr b) =
        let is : ds ++ rest ≡ b.0 ++ 35 ∷ (b.1 ++ after) = whole ∙ ap (λ t. t ++ after) b.2 ∙ append_assoc b.0 (35 ∷ b.1) after in
        absurd (none (b.1 ++ after) (before_sign 35 ds rest b.0 (b.1 ++ after) h halts b.3 (hash_halts 10 (b.1 ++ after) (omega arith)) is).1)

pub longest_based : (ds es rest : List ℕ) → Digits 10 ds → IsBase (value_of 10 ds) → Digits (value_of 10 ds) es → Halts (value_of 10 ds) rest → Longest IsLexeme (ds ++ 35 ∷ es) rest
longest_based ds es rest h base k halts more after other e z = go n.1
  where
    n : (m : ℕ) × IsInteger m ((ds ++ 35 ∷ es) ++ more)
    n =
        let b : BeginsAs 2 ((ds ++ 35 ∷ es) ++ more) = subst (BeginsAs 2) (sym (append_assoc ds (35 ∷ es) more)) (digits_begin ds (35 ∷ (es ++ more)) h) in
        number_shape other ((ds ++ 35 ∷ es) ++ more) after 2 (shape_at other ((ds ++ 35 ∷ es) ++ more) after 2 z b) refl

    go : IsInteger n.0 ((ds ++ 35 ∷ es) ++ more) → more ≡ []
    go (inl d) = absurd (no_hash 10 ((ds ++ 35 ∷ es) ++ more) ds (es ++ more) (omega arith) d.0 (append_assoc ds (35 ∷ es) more))
    go (inr b) =
        let is : ds ++ 35 ∷ (es ++ more) ≡ b.0 ++ 35 ∷ b.1 = sym (append_assoc ds (35 ∷ es) more) ∙ b.2 in
        let same = before_sign 35 ds (35 ∷ (es ++ more)) b.0 b.1 h (hash_halts 10 (es ++ more) (omega arith)) b.3 (hash_halts 10 b.1 (omega arith)) is in
        let digits : es ++ more ≡ b.1 = cc same.1 in
        let theirs : Digits (value_of 10 ds) (es ++ more) = subst (Digits (value_of 10 ds)) (sym digits) (subst (λ t. Digits (value_of 10 t) b.1) (sym same.0) b.5) in
        let f = front_digits (value_of 10 ds) es (es ++ more) rest after base.1 k theirs halts (ap (λ t. es ++ t) e ∙ sym (append_assoc es more after)) in
        more_is_none es more f.0 f.1

-- ---- faults of a numeral

-- a fault of a text that begins with a numeral, by what stands behind that
pub data NumberFault : ℕ → List ℕ → ℕ → Type 0 where
  as_base : (rest more : List ℕ) (base : ℕ) → rest ≡ 35 ∷ more → (IsBase base → ⊥) → NumberFault 106 rest base
  as_digits : (rest more : List ℕ) (base : ℕ) → rest ≡ 35 ∷ more → Stops (is_digit_of base) more → NumberFault 107 rest base
  as_fraction : (rest : List ℕ) (d : ℕ) (more : List ℕ) (base : ℕ) → rest ≡ 46 ∷ d ∷ more → is_digit d ≡ true → NumberFault 501 rest base
  as_large : (rest : List ℕ) (base : ℕ) → NumberFault 504 rest base

pub number_fault : (code : ℕ) (text ds rest : List ℕ) (n : ℕ) → FaultShape code text n → n ≡ 2 → text ≡ ds ++ rest → Digits 10 ds → Halts 10 rest → NumberFault code rest (value_of 10 ds)
number_fault _ _ ds rest _ (no_base text digits more e h k) z is d halts =
    let same = before_sign 35 ds rest digits more d halts h (hash_halts 10 more (omega arith)) (sym is ∙ e) in
    as_base rest more (value_of 10 ds) same.1 (subst (λ t. IsBase (value_of 10 t) → ⊥) (sym same.0) k)
number_fault _ _ ds rest _ (no_digits text digits more e h k) z is d halts =
    let same = before_sign 35 ds rest digits more d halts h (hash_halts 10 more (omega arith)) (sym is ∙ e) in
    as_digits rest more (value_of 10 ds) same.1 (subst (λ t. Stops (is_digit_of (value_of 10 t)) more) (sym same.0) k)
number_fault _ _ ds rest _ (fraction text digits c more e h k) z is d halts =
    let same = before_sign 46 ds rest digits (c ∷ more) d halts h (dot_halts (c ∷ more)) (sym is ∙ e) in
    as_fraction rest c more (value_of 10 ds) same.1 k
number_fault _ _ ds rest _ (too_large n text front behind e b h g k) z is d halts = as_large rest (value_of 10 ds)
number_fault _ _ ds rest n (too_long _ text cs front behind e b l h g k) z is d halts = no_atom_sort n 2 cs front behind h b z (λ y. omega arith) (λ y. omega arith)
number_fault code text ds rest n h z is d halts = absurd (omega (arith, z))

pub fault_of : (code : ℕ) (text ds rest : List ℕ) → Fails code text → text ≡ ds ++ rest → Digits 10 ds → Halts 10 rest → NumberFault code rest (value_of 10 ds)
fault_of code text ds rest f is d halts =
    number_fault code text ds rest 2 (fault_at code text 2 f (subst (BeginsAs 2) (sym is) (digits_begin ds rest d))) refl is d halts

pub at_least : (code base : ℕ) (rest : List ℕ) → NumberFault code rest base → 106 ≤ code
at_least _ _ _ (as_base rest more base e h) = omega arith
at_least _ _ _ (as_digits rest more base e h) = omega arith
at_least _ _ _ (as_fraction rest d more base e h) = omega arith
at_least _ _ _ (as_large rest base) = omega arith

pub at_least_107 : (code base : ℕ) (rest : List ℕ) → NumberFault code rest base → IsBase base → 107 ≤ code
at_least_107 _ _ _ (as_base rest more base e h) is = absurd (h is)
at_least_107 _ _ _ (as_digits rest more base e h) is = omega arith
at_least_107 _ _ _ (as_fraction rest d more base e h) is = omega arith
at_least_107 _ _ _ (as_large rest base) is = omega arith

pub at_least_501 : (code base : ℕ) (rest : List ℕ) → NumberFault code rest base → ((more : List ℕ) → rest ≡ 35 ∷ more → ⊥) → 501 ≤ code
at_least_501 _ _ _ (as_base rest more base e h) none = absurd (none more e)
at_least_501 _ _ _ (as_digits rest more base e h) none = absurd (none more e)
at_least_501 _ _ _ (as_fraction rest d more base e h) none = omega arith
at_least_501 _ _ _ (as_large rest base) none = omega arith

abbrev pub HasFraction : List ℕ → Type 0
HasFraction rest = (d : ℕ) × (more : List ℕ) × (rest ≡ 46 ∷ d ∷ more) × (is_digit d ≡ true)

at_least_504 : (code base : ℕ) (rest : List ℕ) → NumberFault code rest base → ((more : List ℕ) → rest ≡ 35 ∷ more → ⊥) → (HasFraction rest → ⊥) → 504 ≤ code
at_least_504 _ _ _ (as_base rest more base e h) none never = absurd (none more e)
at_least_504 _ _ _ (as_digits rest more base e h) none never = absurd (none more e)
at_least_504 _ _ _ (as_fraction rest d more base e h) none never = absurd (never (d, more, e, h))
at_least_504 _ _ _ (as_large rest base) none never = omega arith

abbrev first_of : List ℕ → ℕ
first_of [] = 0
first_of (c ∷ cs) = c

pub based_504 : (code base : ℕ) (rest es more : List ℕ) → NumberFault code rest base → rest ≡ 35 ∷ (es ++ more) → IsBase base → Digits base es → 504 ≤ code
based_504 _ _ _ es left (as_base rest more base e h) is b d = absurd (h b)
based_504 _ _ _ es left (as_digits rest more base e h) is b d = absurd (same_begins base es left more d (cc (e, is)) h)
based_504 _ _ _ es left (as_fraction rest d more base e h) is b k = absurd (omega (arith, ap first_of (sym is ∙ e)))
based_504 _ _ _ es left (as_large rest base) is b d = omega arith

-- ---- by the value

-- the front is an integer which may be too large, as the longest, and no lesser fault begins there
pub record IntegerStands (n : ℕ) (front rest : List ℕ) : Type 0 where
  pub lexeme : IsLexeme (x.integer n) front rest
  pub longest : Longest IsLexeme front rest
  pub others : (code : ℕ) → Fails code (front ++ rest) → 504 ≤ code

pub decimal_stands : (ds rest : List ℕ) → Digits 10 ds → Halts 10 rest → ((more : List ℕ) → rest ≡ 35 ∷ more → ⊥) → (HasFraction rest → ⊥) → IntegerStands (value_of 10 ds) ds rest
decimal_stands ds rest h halts none never = record {
  lexeme = inl (h, refl);
  longest = longest_decimal ds rest h halts none;
  others = λ code f. at_least_504 code (value_of 10 ds) rest (fault_of code (ds ++ rest) ds rest f refl h halts) none never;
}

pub based_stands : (ds es rest : List ℕ) → Digits 10 ds → IsBase (value_of 10 ds) → Digits (value_of 10 ds) es → Halts (value_of 10 ds) rest
    → IntegerStands (value_of (value_of 10 ds) es) (ds ++ 35 ∷ es) rest
based_stands ds es rest h base k halts = record {
  lexeme = inr (ds, es, refl, h, base, k, refl);
  longest = longest_based ds es rest h base k halts;
  others = λ code f.
      based_504 code (value_of 10 ds) (35 ∷ (es ++ rest)) es rest
      (fault_of code ((ds ++ 35 ∷ es) ++ rest) ds (35 ∷ (es ++ rest)) f (append_assoc ds (35 ∷ es) rest) h (hash_halts 10 (es ++ rest) (omega arith))) refl base k;
}

not_large : (code : ℕ) (text : List ℕ) (n z : ℕ) (front rest : List ℕ) → FaultShape code text z → z ≡ 2 → 504 ≤ code → text ≡ front ++ rest → IsLexeme (x.integer n) front rest → Longest IsLexeme front rest
    → n < 2 ^ 127 → ⊥
not_large _ _ n _ front rest (too_large m text other behind e b i j l) z low is h g k =
    let same : x.integer n ≡ x.integer m = (same_lexeme (x.integer n) (x.integer m) front other rest behind h i g j (sym is ∙ e)).2 in
    let eq : n ≡ m = cc same in absurd (omega arith)
not_large code text n z front rest s e low is h g k = absurd (omega (arith, e, low))

pub small_integer : (n : ℕ) (front rest : List ℕ) → IntegerStands n front rest → n < 2 ^ 127 → Stands (x.integer n) front rest
small_integer n front rest h small = record {
  lexeme = h.lexeme;
  longest = h.longest;
  faultless = λ code f. not_large code (front ++ rest) n 2 front rest (fault_at code (front ++ rest) 2 f begins) refl (h.others code f) refl h.lexeme h.longest small;
}
  where
    begins : BeginsAs 2 (front ++ rest)
    begins = begins_more 2 front rest (shape_begins (x.integer n) front rest 2 (number n front rest h.lexeme))
