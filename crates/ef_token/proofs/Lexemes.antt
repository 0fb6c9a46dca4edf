-- What the first character of a text tells of its lexemes, and that a text with what stands behind it is one lexeme.
use Rattle.std.specs.Prelude.{ℕ, ◌<◌, ◌≤◌, ◌≡◌, ◌≢◌, true, false, List, [], ◌∷◌, ◌++◌, map, Some, refl}
use Rattle.std.proofs.Common.{ap, ◌∙◌, sym, subst, arith, inl, inr, append-nil}
use Rattle.std.proofs.lemmas.Bool.Decides.{nat_tests}
use Rattle.ef_base.specs.Characters.{BeginsAndGoesOn, is_white, is_digit}
use Rattle.ef_base.specs.Cut.{Longest}
use Rattle.ef_base.specs.Taken.{Begins}
use Rattle.ef_base.specs.Escape.{Written}
use Rattle.ef_base.proofs.CutLaws.{OneCut, same_front}
use Rattle.ef_base.proofs.Escapes.{one_written, same_rest}
use Rattle.ef_base.proofs.Classes.{each_append, each_behind}
use Rattle.ef_token.specs.declared.word.Word.{Word}
use Rattle.ef_token.specs.declared.word.Sym.{Sym}
use Rattle.ef_token.specs.declared.word.Sym.TheVariants as symbols
use Rattle.ef_token.specs.Words.{word_text, sym_text}
use Rattle.ef_token.specs.Letters.{is_quote, begins_atom, begins_variable, continues_name, begins_gap}
use Rattle.ef_token.specs.Numerals.{Digits, last, next, underscore, is_digit_of, value_of, Halts}
use Rattle.ef_token.specs.Lexeme as x
use Rattle.ef_token.specs.Lexeme.{Lexeme, IsLexeme, IsInteger, IsQuoted, Quoted, EndsForm}
use Rattle.ef_token.specs.Parts.{Gap}
use Rattle.ef_token.proofs.Numerals.{same_digits, no_sign}
use Rattle.ef_token.proofs.Quoting.{one_quoted}
use Rattle.ef_token.proofs.Spellings.{sort, BeginsAs, word_facts, symbol_facts, one_word, one_symbol}

-- a lexeme with the sort of its first character
pub data Shape : Lexeme → List ℕ → List ℕ → ℕ → Type 0 where
  bare : (chars front rest : List ℕ) → front ≡ chars → BeginsAndGoesOn begins_atom continues_name chars → ((w : Word) → chars ≢ word_text w) → Shape (x.atom chars) front rest 0
  reserved : (w : Word) (front rest : List ℕ) → front ≡ word_text w → Shape (x.word w) front rest 0
  capital : (chars front rest : List ℕ) → front ≡ chars → BeginsAndGoesOn begins_variable continues_name chars → Shape (x.variable chars) front rest 1
  number : (n : ℕ) (front rest : List ℕ) → IsInteger n front → Shape (x.integer n) front rest 2
  sign : (s : Sym) (front rest : List ℕ) → front ≡ sym_text s → (s ≡ symbols.Period → EndsForm rest → ⊥) → Shape (x.symbol s) front rest 3
  stop : (front rest : List ℕ) → front ≡ 46 ∷ [] → EndsForm rest → Shape x.full_stop front rest 3
  quoted : (chars front rest : List ℕ) → IsQuoted 39 chars front rest → Shape (x.atom chars) front rest 4
  text : (chars front rest : List ℕ) → IsQuoted 34 chars front rest → Shape (x.string chars) front rest 5
  dollar : (c : ℕ) (inner front rest : List ℕ) → front ≡ 36 ∷ inner → Written (λ d. false) c inner rest → Shape (x.character c) front rest 6

pub shape_of : (l : Lexeme) (front rest : List ℕ) → IsLexeme l front rest → (n : ℕ) × Shape l front rest n
shape_of (x.atom chars) front rest (inl h) = (0, bare chars front rest h.0 h.1 h.2)
shape_of (x.atom chars) front rest (inr h) = (4, quoted chars front rest h)
shape_of (x.variable chars) front rest h = (1, capital chars front rest h.0 h.1)
shape_of (x.integer n) front rest h = (2, number n front rest h)
shape_of (x.character c) front rest h = (6, dollar c h.0 front rest h.1 h.2)
shape_of (x.string chars) front rest h = (5, text chars front rest h)
shape_of (x.word w) front rest h = (0, reserved w front rest h)
shape_of (x.symbol s) front rest h = (3, sign s front rest h.0 h.1)
shape_of x.full_stop front rest h = (3, stop front rest h.0 h.1)

-- ---- first characters

sort_atom : (c : ℕ) → begins_atom c ≡ true → sort c ≡ 0
sort_atom c h = rw h refl

sort_variable : (c : ℕ) → begins_variable c ≡ true → sort c ≡ 1
sort_variable c h = grind (arith, nat_tests)

pub digit_ten : (c : ℕ) → is_digit_of 10 c ≡ true → is_digit c ≡ true
digit_ten c h = grind (arith, nat_tests)

pub ten_digit : (c : ℕ) → is_digit c ≡ true → is_digit_of 10 c ≡ true
ten_digit c h = grind (arith, nat_tests)

sort_digit : (c : ℕ) → is_digit c ≡ true → sort c ≡ 2
sort_digit c h = grind (arith, nat_tests)

pub digits_begin : (ds more : List ℕ) → Digits 10 ds → BeginsAs 2 (ds ++ more)
digits_begin _ more (last d h) = sort_digit d (digit_ten d h)
digits_begin _ more (next d ds h hs) = sort_digit d (digit_ten d h)
digits_begin _ more (underscore d ds h hs) = sort_digit d (digit_ten d h)

integer_begins : (n : ℕ) (front : List ℕ) → IsInteger n front → BeginsAs 2 front
integer_begins n front (inl h) = subst (BeginsAs 2) (append-nil front) (digits_begin front [] h.0)
integer_begins n front (inr h) = subst (BeginsAs 2) (sym h.2) (digits_begin h.0 (35 ∷ h.1) h.3)

pub shape_begins : (l : Lexeme) (front rest : List ℕ) (n : ℕ) → Shape l front rest n → BeginsAs n front
shape_begins _ _ _ _ (bare [] front rest e h k) = absurd h
shape_begins _ _ _ _ (bare (c ∷ cs) front rest e h k) = subst (BeginsAs 0) (sym e) (sort_atom c h.0)
shape_begins _ _ _ _ (reserved w front rest e) = subst (BeginsAs 0) (sym e) (word_facts w).begins
shape_begins _ _ _ _ (capital [] front rest e h) = absurd h
shape_begins _ _ _ _ (capital (c ∷ cs) front rest e h) = subst (BeginsAs 1) (sym e) (sort_variable c h.0)
shape_begins _ _ _ _ (number n front rest h) = integer_begins n front h
shape_begins _ _ _ _ (sign s front rest e h) = subst (BeginsAs 3) (sym e) (symbol_facts s).begins
shape_begins _ _ _ _ (stop front rest e h) = subst (BeginsAs 3) (sym e) refl
shape_begins _ _ _ _ (quoted chars front rest h) = subst (BeginsAs 4) (sym h.1) refl
shape_begins _ _ _ _ (text chars front rest h) = subst (BeginsAs 5) (sym h.1) refl
shape_begins _ _ _ _ (dollar c inner front rest e h) = subst (BeginsAs 6) (sym e) refl

pub same_sort : (m n : ℕ) (front : List ℕ) → BeginsAs m front → BeginsAs n front → m ≡ n
same_sort m n [] h k = absurd h
same_sort m n (c ∷ cs) h k = sym h ∙ k

pub begins_more : (n : ℕ) (front more : List ℕ) → BeginsAs n front → BeginsAs n (front ++ more)
begins_more n [] more h = absurd h
begins_more n (c ∷ cs) more h = h

-- the shape that a lexeme has behind this first character
pub shape_at : (l : Lexeme) (front rest : List ℕ) (n : ℕ) → IsLexeme l front rest → BeginsAs n front → Shape l front rest n
shape_at l front rest n h b =
    let s = shape_of l front rest h in
    subst (Shape l front rest) (same_sort s.0 n front (shape_begins l front rest s.0 s.1) b) s.1

-- ---- one lexeme

-- a numeral has no `#`
pub no_hash : (base : ℕ) (ds a b : List ℕ) → base ≤ 36 → Digits base ds → ds ≡ a ++ 35 ∷ b → ⊥
no_hash base _ [] b low (last d h) e =
    let same : d ≡ 35 = cc e in
    let yes : is_digit_of base 35 ≡ true = subst (λ z. is_digit_of base z ≡ true) same h in
    let no : is_digit_of base 35 ≡ false = no_sign base 35 low refl in cc
no_hash base _ (c ∷ []) b low (last d h) e = cc e
no_hash base _ (c ∷ z ∷ a) b low (last d h) e = cc e
no_hash base _ [] b low (next d ds h hs) e =
    let same : d ≡ 35 = cc e in
    let yes : is_digit_of base 35 ≡ true = subst (λ z. is_digit_of base z ≡ true) same h in
    let no : is_digit_of base 35 ≡ false = no_sign base 35 low refl in cc
no_hash base _ (c ∷ a) b low (next d ds h hs) e = no_hash base ds a b low hs (cc e)
no_hash base _ [] b low (underscore d ds h hs) e =
    let same : d ≡ 35 = cc e in
    let yes : is_digit_of base 35 ≡ true = subst (λ z. is_digit_of base z ≡ true) same h in
    let no : is_digit_of base 35 ≡ false = no_sign base 35 low refl in cc
no_hash base _ (c ∷ []) b low (underscore d ds h hs) e = absurd (second d ds b c e)
  where
    abbrev_of : List ℕ → ℕ
    abbrev_of [] = 0
    abbrev_of (a ∷ []) = 0
    abbrev_of (a ∷ b ∷ cs) = b

    second : (d : ℕ) (ds b : List ℕ) (c : ℕ) → d ∷ 95 ∷ ds ≡ c ∷ 35 ∷ b → ⊥
    second d ds b c e = absurd (omega (arith, ap abbrev_of e))
no_hash base _ (c ∷ z ∷ a) b low (underscore d ds h hs) e = no_hash base ds a b low hs (cc e)

pub hash_halts : (base : ℕ) (cs : List ℕ) → base ≤ 36 → Halts base (35 ∷ cs)
hash_halts base cs low = (no_sign base 35 low refl, λ e. absurd (omega arith))

one_integer : (m n : ℕ) (front : List ℕ) → IsInteger m front → IsInteger n front → m ≡ n
one_integer m n front (inl h) (inl k) = sym h.1 ∙ k.1
one_integer m n front (inl h) (inr k) = absurd (no_hash 10 front k.0 k.1 (omega arith) h.0 k.2)
one_integer m n front (inr h) (inl k) = absurd (no_hash 10 front h.0 h.1 (omega arith) k.0 h.2)
one_integer m n front (inr h) (inr k) =
    let whole : h.0 ++ 35 ∷ h.1 ≡ k.0 ++ 35 ∷ k.1 = sym h.2 ∙ k.2 in
    let same : h.0 ≡ k.0 = same_digits 10 h.0 k.0 (35 ∷ h.1) (35 ∷ k.1) (omega arith) h.3 k.3 (hash_halts 10 h.1 (omega arith)) (hash_halts 10 k.1 (omega arith)) whole in
    let left : 35 ∷ h.1 ≡ 35 ∷ k.1 = same_rest h.0 (35 ∷ h.1) (35 ∷ k.1) (whole ∙ ap (λ t. t ++ 35 ∷ k.1) (sym same)) in
    let digits : h.1 ≡ k.1 = cc left in
    sym h.6 ∙ (λ i. value_of (value_of 10 (same i)) (digits i)) ∙ k.6

map_same : (a b : List ℕ) → map Some a ≡ map Some b → a ≡ b
map_same [] [] e = refl
map_same [] (d ∷ b) e = cc e
map_same (c ∷ a) [] e = cc e
map_same (c ∷ a) (d ∷ b) e = let head : c ≡ d = cc e in let tail : a ≡ b = map_same a b (cc e) in λ i. head i ∷ tail i

same_quoted : (quote : ℕ) (cs ds front rest : List ℕ) → is_quote quote ≡ true → IsQuoted quote cs front rest → IsQuoted quote ds front rest → cs ≡ ds
same_quoted quote cs ds front rest q h k =
    let inner : h.0 ≡ k.0 = cc (h.1, k.1) in
    map_same cs ds (one_quoted quote (map Some cs) (map Some ds) h.0 k.0 rest rest q h.2 k.2 (ap (λ t. t ++ rest) inner)).0

one_of_sort : (l m : Lexeme) (front rest : List ℕ) (n k : ℕ) → Shape l front rest n → Shape m front rest k → n ≡ k → l ≡ m
one_of_sort _ _ _ _ _ _ (bare cs front rest e h n) (bare ds _ _ f k m) z = ap x.atom (sym e ∙ f)
one_of_sort _ _ _ _ _ _ (bare cs front rest e h n) (reserved w _ _ f) z = absurd (n w (sym e ∙ f))
one_of_sort _ _ _ _ _ _ (reserved w front rest f) (bare cs _ _ e h n) z = absurd (n w (sym e ∙ f))
one_of_sort _ _ _ _ _ _ (reserved w front rest e) (reserved v _ _ f) z = ap x.word (one_word w v (sym e ∙ f))
one_of_sort _ _ _ _ _ _ (capital cs front rest e h) (capital ds _ _ f k) z = ap x.variable (sym e ∙ f)
one_of_sort _ _ _ _ _ _ (number m front rest h) (number n _ _ k) z = ap x.integer (one_integer m n front h k)
one_of_sort _ _ _ _ _ _ (sign s front rest e h) (sign t _ _ f k) z = ap x.symbol (one_symbol s t (sym e ∙ f))
one_of_sort _ _ _ _ _ _ (sign s front rest e h) (stop _ _ f k) z = absurd (h (one_symbol s symbols.Period (sym e ∙ f)) k)
one_of_sort _ _ _ _ _ _ (stop front rest f k) (sign s _ _ e h) z = absurd (h (one_symbol s symbols.Period (sym e ∙ f)) k)
one_of_sort _ _ _ _ _ _ (stop front rest f k) (stop _ _ e h) z = refl
one_of_sort _ _ _ _ _ _ (quoted cs front rest h) (quoted ds _ _ k) z = ap x.atom (same_quoted 39 cs ds front rest refl h k)
one_of_sort _ _ _ _ _ _ (text cs front rest h) (text ds _ _ k) z = ap x.string (same_quoted 34 cs ds front rest refl h k)
one_of_sort _ _ _ _ _ _ (dollar c inner front rest e h) (dollar d other _ _ f k) z =
    let same : inner ≡ other = cc (e, f) in
    ap x.character (one_written (λ d. false) c d inner other rest rest h k (ap (λ t. t ++ rest) same)).0
one_of_sort l m front rest n k h g z = absurd (omega (arith, z))

pub one_lexeme : (l m : Lexeme) (front rest : List ℕ) → IsLexeme l front rest → IsLexeme m front rest → l ≡ m
one_lexeme l m front rest h k =
    let s = shape_of l front rest h in
    let t = shape_of m front rest k in
    one_of_sort l m front rest s.0 t.0 s.1 t.1 (same_sort s.0 t.0 front (shape_begins l front rest s.0 s.1) (shape_begins m front rest t.0 t.1))

-- ---- the facts that make a cut unique

pub below_seven : (l : Lexeme) (front rest : List ℕ) (n : ℕ) → Shape l front rest n → n < 7
below_seven _ _ _ _ (bare chars front rest e h k) = omega arith
below_seven _ _ _ _ (reserved w front rest e) = omega arith
below_seven l front rest n h = omega arith

no_gap : (c n : ℕ) → sort c ≡ n → n < 7 → begins_gap c ≡ false
no_gap c n e h = grind (arith, nat_tests)

pub begins_no_gap : (n : ℕ) (front : List ℕ) → BeginsAs n front → n < 7 → Begins begins_gap false front
begins_no_gap n [] h k = h
begins_no_gap n (c ∷ cs) h k = no_gap c n h k

gap_of : (c : ℕ) → is_white c ≡ true → begins_gap c ≡ true
gap_of c h = rw h refl

pub lexeme_no_gap : (l : Lexeme) (front rest : List ℕ) → IsLexeme l front rest → Begins begins_gap false front
lexeme_no_gap l front rest h =
    let s = shape_of l front rest h in
    begins_no_gap s.0 front (shape_begins l front rest s.0 s.1) (below_seven l front rest s.0 s.1)

pub lexeme_facts : OneCut Lexeme Gap IsLexeme
lexeme_facts = record {
  begins_gap = begins_gap;
  none = tt;
  join = each_append is_white;
  behind = λ a b h k. each_behind is_white a b k;
  gap = λ c cs h. gap_of c h.0;
  lexeme = lexeme_no_gap;
  one = one_lexeme;
}

-- the longest lexeme at the front of a text is one
pub same_lexeme : (l m : Lexeme) (f f' r r' : List ℕ) → IsLexeme l f r → IsLexeme m f' r' → Longest IsLexeme f r → Longest IsLexeme f' r' → f ++ r ≡ f' ++ r' → (f ≡ f') × (r ≡ r') × (l ≡ m)
same_lexeme l m f f' r r' h h' g g' e = same_front lexeme_facts l m f f' r r' h h' g g' e
