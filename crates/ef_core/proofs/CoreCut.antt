-- A text of Core has one cut: the facts that make it so.
use Rattle.std.specs.Prelude.{ℕ, pos, neg_ℤ, ◌==◌, ◌≡◌, ◌≢◌, ◌⊎◌, true, false, List, [], ◌∷◌, ◌++◌, if◌then◌else◌, refl}
use Rattle.std.proofs.Common.{ap, ◌∙◌, sym, subst, arith, inl, inr}
use Rattle.std.proofs.lemmas.Bool.Decides.{nat_tests}
use Rattle.ef_base.specs.Characters.{is_white, is_digit, is_upper, number_after}
use Rattle.ef_base.specs.Positions.{first_position}
use Rattle.ef_base.specs.Taken.{Begins}
use Rattle.ef_base.proofs.CutLaws.{OneCut, one_cut}
use Rattle.ef_core.specs.Lexeme as x
use Rattle.ef_core.specs.Lexeme.{Lexeme, TheWord, Sym, Gap, Comment, Spelled, IsNumber, CutsInto, HasOneCut}
use Rattle.ef_base.proofs.Escapes.{one_written, one_quoted}
use Rattle.ef_core.proofs.Spellings.{begins_gap, sort, BeginsAs, word_begins, symbol_begins, one_word, one_symbol}

-- ---- gaps

mutual
  gap_join : (a b : List ℕ) → Gap a → Gap b → Gap (a ++ b)
  gap_join _ b x.none k = k
  gap_join _ b (x.white c cs w h) k = x.white c (cs ++ b) w (gap_join cs b h k)
  gap_join _ b (x.comment cs h) k = x.comment (cs ++ b) (comment_join cs b h k)

  comment_join : (a b : List ℕ) → Comment a → Gap b → Comment (a ++ b)
  comment_join _ b (x.line_end cs h) k = x.line_end (cs ++ b) (gap_join cs b h k)
  comment_join _ b (x.goes_on c cs n h) k = x.goes_on c (cs ++ b) n (comment_join cs b h k)

-- what a text of a gap's is by its first character
white_rest : (text : List ℕ) (c : ℕ) (cs : List ℕ) → Gap text → text ≡ c ∷ cs → is_white c ≡ true → Gap cs
white_rest _ c cs x.none e w = cc
white_rest _ c cs (x.white d ds v h) e w = subst Gap (cc e) h
white_rest _ c cs (x.comment ds h) e w = let same : 37 ≡ c = cc e in absurd (grind (arith, nat_tests))

comment_rest : (text cs : List ℕ) → Gap text → text ≡ 37 ∷ cs → Comment cs
comment_rest _ cs x.none e = cc
comment_rest _ cs (x.white d ds v h) e = let same : d ≡ 37 = cc e in absurd (grind (arith, nat_tests))
comment_rest _ cs (x.comment ds h) e = subst Comment (cc e) h

ended_rest : (text cs : List ℕ) → Comment text → text ≡ 10 ∷ cs → Gap cs
ended_rest _ cs (x.line_end ds h) e = subst Gap (cc e) h
ended_rest _ cs (x.goes_on d ds n h) e = absurd (n (cc e))

going_rest : (text : List ℕ) (c : ℕ) (cs : List ℕ) → Comment text → text ≡ c ∷ cs → c ≢ 10 → Comment cs
going_rest _ c cs (x.line_end ds h) e n = absurd (n (cc e))
going_rest _ c cs (x.goes_on d ds m h) e n = subst Comment (cc e) h

mutual
  gap_behind : (a b : List ℕ) → Gap a → Gap (a ++ b) → Gap b
  gap_behind _ b x.none k = k
  gap_behind _ b (x.white c cs w h) k = gap_behind cs b h (white_rest (c ∷ (cs ++ b)) c (cs ++ b) k refl w)
  gap_behind _ b (x.comment cs h) k = comment_behind cs b h (comment_rest (37 ∷ (cs ++ b)) (cs ++ b) k refl)

  comment_behind : (a b : List ℕ) → Comment a → Comment (a ++ b) → Gap b
  comment_behind _ b (x.line_end cs h) k = gap_behind cs b h (ended_rest (10 ∷ (cs ++ b)) (cs ++ b) k refl)
  comment_behind _ b (x.goes_on c cs n h) k = comment_behind cs b h (going_rest (c ∷ (cs ++ b)) c (cs ++ b) k refl n)

gap_begins : (c : ℕ) (cs : List ℕ) → Gap (c ∷ cs) → begins_gap c ≡ true
gap_begins c cs h = of (c ∷ cs) h refl
  where
    of : (text : List ℕ) → Gap text → text ≡ c ∷ cs → begins_gap c ≡ true
    of _ x.none e = cc
    of _ (x.white d ds w h) e = let same : d ≡ c = cc e in grind (arith, nat_tests)
    of _ (x.comment ds h) e = let same : 37 ≡ c = cc e in grind (arith, nat_tests)

-- ---- lexemes

abbrev pub sort_of : Lexeme → ℕ
sort_of (TheWord w) = 0
sort_of (x.Atom cs) = 1
sort_of (x.Var name) = 2
sort_of (x.Int n) = 3
sort_of (x.Char c) = 4
sort_of (x.Str cs) = 5
sort_of (Sym s) = 6

upper_sort : (c : ℕ) (cs : List ℕ) → is_upper c ≡ true → sort (c ∷ cs) ≡ 2
upper_sort c cs h = grind (arith, nat_tests)

digit_sort : (c : ℕ) (cs : List ℕ) → is_digit c ≡ true → sort (c ∷ cs) ≡ 3
digit_sort c cs h = grind (arith, nat_tests)

number_begins : (digits : List ℕ) → IsNumber digits → BeginsAs 3 digits
number_begins [] h = absurd h
number_begins (c ∷ cs) h = λ more. digit_sort c (cs ++ more) h.0

signed_begins : (digits : List ℕ) → IsNumber digits → BeginsAs 3 (45 ∷ digits)
signed_begins [] h = absurd h
signed_begins (c ∷ cs) h = λ more. ap (λ b. if b then 3 else 6) h.0

-- a lexeme, and whatever stands behind it, are of its sort
pub begins_as : (l : Lexeme) (front rest : List ℕ) → Spelled l front rest → BeginsAs (sort_of l) front
begins_as (TheWord w) front rest h = subst (BeginsAs 0) (sym h) (word_begins w)
begins_as (x.Atom cs) front rest h = subst (BeginsAs 1) (sym h.1) (λ more. refl)
begins_as (x.Var []) front rest h = absurd h.1
begins_as (x.Var (c ∷ cs)) front rest h = subst (BeginsAs 2) (sym h.0) (λ more. upper_sort c (cs ++ more) h.1.0)
begins_as (x.Int n) front rest h = go h.2
  where
    go : ((front ≡ h.0) × (n ≡ pos (number_after 0 h.0))) ⊎ ((front ≡ 45 ∷ h.0) × (n ≡ neg_ℤ (pos (number_after 0 h.0)))) → BeginsAs 3 front
    go (inl k) = subst (BeginsAs 3) (sym k.0) (number_begins h.0 h.1)
    go (inr k) = subst (BeginsAs 3) (sym k.0) (signed_begins h.0 h.1)
begins_as (x.Char c) front rest h = subst (BeginsAs 4) (sym h.1) (λ more. refl)
begins_as (x.Str cs) front rest h = subst (BeginsAs 5) (sym h.1) (λ more. refl)
begins_as (Sym s) front rest h = subst (BeginsAs 6) (sym h) (symbol_begins s)

-- a text of a sort below the last begins with no gap
no_gap : (n : ℕ) (front : List ℕ) → BeginsAs n front → (n == 7) ≡ false → Begins begins_gap false front
no_gap n [] h k = let e : 7 ≡ n = h [] in grind (arith, nat_tests)
no_gap n (c ∷ cs) h k = let e = h [] in grind (arith, nat_tests)

lexeme_no_gap : (l : Lexeme) → (sort_of l == 7) ≡ false
lexeme_no_gap (TheWord w) = refl
lexeme_no_gap (x.Atom cs) = refl
lexeme_no_gap (x.Var name) = refl
lexeme_no_gap (x.Int n) = refl
lexeme_no_gap (x.Char c) = refl
lexeme_no_gap (x.Str cs) = refl
lexeme_no_gap (Sym s) = refl

no_sign : (digits more : List ℕ) → IsNumber digits → digits ≡ 45 ∷ more → ⊥
no_sign [] more h e = h
no_sign (c ∷ cs) more h e = let same : c ≡ 45 = cc e in grind (arith, nat_tests, h.0)

one_of_sort : (l m : Lexeme) (front rest : List ℕ) → sort_of l ≡ sort_of m → Spelled l front rest → Spelled m front rest → l ≡ m
one_of_sort (TheWord w) (TheWord v) front rest e h k = ap TheWord (one_word w v (sym h ∙ k))
one_of_sort (x.Atom cs) (x.Atom ds) front rest e h k = ap x.Atom (one_quoted 39 refl cs ds h.0 k.0 [] [] h.2 k.2 (cc (h.1, k.1))).0
one_of_sort (x.Var v) (x.Var w) front rest e h k = ap x.Var (sym h.0 ∙ k.0)
one_of_sort (x.Int m) (x.Int n) front rest e h k = ap x.Int (go h.2 k.2)
  where
    go : ((front ≡ h.0) × (m ≡ pos (number_after 0 h.0))) ⊎ ((front ≡ 45 ∷ h.0) × (m ≡ neg_ℤ (pos (number_after 0 h.0))))
        → ((front ≡ k.0) × (n ≡ pos (number_after 0 k.0))) ⊎ ((front ≡ 45 ∷ k.0) × (n ≡ neg_ℤ (pos (number_after 0 k.0)))) → m ≡ n
    go (inl a) (inl b) = a.1 ∙ ap (λ ds. pos (number_after 0 ds)) (sym a.0 ∙ b.0) ∙ sym b.1
    go (inl a) (inr b) = absurd (no_sign h.0 k.0 h.1 (sym a.0 ∙ b.0))
    go (inr a) (inl b) = absurd (no_sign k.0 h.0 k.1 (sym b.0 ∙ a.0))
    go (inr a) (inr b) = let same : h.0 ≡ k.0 = cc (a.0, b.0) in a.1 ∙ ap (λ ds. neg_ℤ (pos (number_after 0 ds))) same ∙ sym b.1
one_of_sort (x.Char c) (x.Char d) front rest e h k = ap x.Char (one_written (λ c. false) c d h.0 k.0 rest rest h.2 k.2 (ap (λ t. t ++ rest) (cc (h.1, k.1)))).0
one_of_sort (x.Str cs) (x.Str ds) front rest e h k = ap x.Str (one_quoted 34 refl cs ds h.0 k.0 [] [] h.2 k.2 (cc (h.1, k.1))).0
one_of_sort (Sym s) (Sym t) front rest e h k = ap Sym (one_symbol s t (sym h ∙ k))
one_of_sort l m front rest e h k = absurd (omega (arith, e))

one_lexeme : (l m : Lexeme) (front rest : List ℕ) → Spelled l front rest → Spelled m front rest → l ≡ m
one_lexeme l m front rest h k =
    one_of_sort l m front rest (sym (begins_as l front rest h []) ∙ begins_as m front rest k []) h k

pub cut_facts : OneCut Lexeme Gap Spelled
cut_facts = record {
  begins_gap = begins_gap;
  none = x.none;
  join = gap_join;
  behind = gap_behind;
  gap = gap_begins;
  lexeme = λ l front rest h. no_gap (sort_of l) front (begins_as l front rest h) (lexeme_no_gap l);
  one = one_lexeme;
}

-- each text has one cut at most
pub one_way : (text : List ℕ) → HasOneCut text
one_way text ls ms h k = one_cut cut_facts first_position text ls ms h k
