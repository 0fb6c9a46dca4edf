-- A text is cut into parts in one way.
use Rattle.std.specs.Prelude.{ℕ, ◌<◌, ◌≡◌, true, false, List, [], ◌∷◌, ◌++◌, length, refl}
use Rattle.std.proofs.Common.{ap, ◌∙◌, sym, subst, arith, inl, inr, append_assoc, append-nil}
use Rattle.std.proofs.lemmas.Bool.Decides.{nat_tests}
use Rattle.ef_base.specs.Characters.{Each, Stops, is_white}
use Rattle.ef_base.specs.Cut.{Longest}
use Rattle.ef_base.specs.Taken.{Begins}
use Rattle.ef_base.proofs.CutLaws.{OneCut}
use Rattle.ef_token.specs.Letters.{begins_gap}
use Rattle.ef_token.specs.Lexeme.{Lexeme, IsLexeme, EndsForm}
use Rattle.ef_token.specs.ScanFaults.{IsFault, IsFaultless, Skips, to_end, to_dot, over}
use Rattle.ef_token.specs.Parts.{Part, lexeme, comment, fault, Gap, Spelled, stays_on_line}
use Rattle.ef_base.proofs.Classes.{each_append, each_behind}
use Rattle.ef_token.proofs.Lexemes.{lexeme_no_gap, one_lexeme}
use Rattle.ef_token.proofs.Faults.{fault_no_gap, one_fault}

not_white : (c : ℕ) → begins_gap c ≡ false → is_white c ≡ false
not_white c h = grind (arith, nat_tests)

begins_other : (text : List ℕ) → Begins begins_gap false text → Begins is_white false text
begins_other [] h = h
begins_other (c ∷ cs) h = not_white c h

-- what begins as no gap does is no comment
pub no_comment : (front text chars : List ℕ) → Begins begins_gap false front → front ++ text ≡ 37 ∷ chars → ⊥
no_comment [] text chars h e = h
no_comment (c ∷ cs) text chars h e =
    let same : c ≡ 37 = cc e in
    let no : begins_gap 37 ≡ false = subst (λ z. begins_gap z ≡ false) same h in cc no

pub fault_begins : (code : ℕ) (front rest : List ℕ) → IsFault code (front ++ rest) → Skips front rest → Begins begins_gap false front
fault_begins code [] rest h s = absurd (subst (Begins begins_gap false) (nothing [] rest s refl) (fault_no_gap code rest h))
  where
    nothing : (front rest : List ℕ) → Skips front rest → front ≡ [] → rest ≡ []
    nothing _ _ to_end e = refl
    nothing _ _ (to_dot rest h) e = cc e
    nothing _ _ (over c cs rest n h) e = cc e
fault_begins code (c ∷ cs) rest h s = fault_no_gap code ((c ∷ cs) ++ rest) h

part_begins : (p : Part) (front rest : List ℕ) → Spelled p front rest → Begins is_white false front
part_begins (lexeme l) front rest h = begins_other front (lexeme_no_gap l front rest h.0)
part_begins (comment chars) front rest h = subst (Begins is_white false) (sym h.0) refl
part_begins (fault code) front rest h = begins_other front (fault_begins code front rest h.0 h.1)

-- a lexeme and a fault exclude each other
pub no_both : (l : Lexeme) (code : ℕ) (front rest text : List ℕ) → text ≡ front ++ rest → IsLexeme l front rest → IsFaultless text → IsFault code text → ⊥
no_both l code front rest text e h k (inl f) = k code f.0
no_both l code front rest text e h k (inr f) = f.2 l front rest e h

one_part : (p q : Part) (front rest : List ℕ) → Spelled p front rest → Spelled q front rest → p ≡ q
one_part (lexeme l) (lexeme m) front rest h k = ap lexeme (one_lexeme l m front rest h.0 k.0)
one_part (lexeme l) (comment chars) front rest h k = absurd (no_comment front [] chars (lexeme_no_gap l front rest h.0) (append-nil front ∙ k.0))
one_part (lexeme l) (fault code) front rest h k = absurd (no_both l code front rest (front ++ rest) refl h.0 h.1 k.0)
one_part (comment chars) (lexeme l) front rest h k = absurd (no_comment front [] chars (lexeme_no_gap l front rest k.0) (append-nil front ∙ h.0))
one_part (comment chars) (comment other) front rest h k = ap comment (cc (h.0, k.0))
one_part (comment chars) (fault code) front rest h k = absurd (no_comment front [] chars (fault_begins code front rest k.0 k.1) (append-nil front ∙ h.0))
one_part (fault code) (lexeme l) front rest h k = absurd (no_both l code front rest (front ++ rest) refl k.0 k.1 h.0)
one_part (fault code) (comment chars) front rest h k = absurd (no_comment front [] chars (fault_begins code front rest h.0 h.1) (append-nil front ∙ k.0))
one_part (fault code) (fault other) front rest h k = ap fault (one_fault code other (front ++ rest) h.0 k.0)

-- a part has a character
pub part_some : (p : Part) (front rest : List ℕ) → Spelled p front rest → 0 < length front
part_some p [] rest h = absurd (part_begins p [] rest h)
part_some p (c ∷ front) rest h = omega arith

pub cut_facts : OneCut Part Gap Spelled
cut_facts = record {
  begins_gap = is_white;
  none = tt;
  join = each_append is_white;
  behind = λ a b h k. each_behind is_white a b k;
  gap = λ c cs h. h.0;
  lexeme = part_begins;
  one = one_part;
}

-- ---- the longest parts

pub longest_lexeme : (l : Lexeme) (front rest : List ℕ) → IsLexeme l front rest → Longest IsLexeme front rest → IsFaultless (front ++ rest) → Longest Spelled front rest
longest_lexeme l front rest h g f more after (lexeme m) e k = g more after m e k.0
longest_lexeme l front rest h g f more after (comment chars) e k = absurd (no_comment front more chars (lexeme_no_gap l front rest h) k.0)
longest_lexeme l front rest h g f more after (fault code) e k =
    let same : front ++ rest ≡ (front ++ more) ++ after = ap (λ t. front ++ t) e ∙ sym (append_assoc front more after) in
    absurd (no_both l code front rest (front ++ rest) refl h f (subst (IsFault code) (sym same) k.0))

-- what is passed over ends at one place
pub one_skip : (a b r s : List ℕ) → Skips a r → Skips b s → a ++ r ≡ b ++ s → a ≡ b
one_skip _ _ _ _ to_end to_end e = refl
one_skip _ _ _ _ to_end (to_dot s h) e = cc e
one_skip _ _ _ _ to_end (over c cs s n h) e = cc e
one_skip _ _ _ _ (to_dot r h) to_end e = cc e
one_skip _ _ _ _ (to_dot r h) (to_dot s k) e = refl
one_skip _ _ _ _ (to_dot r h) (over c cs s n k) e = absurd (n (sym (cc e)) (subst EndsForm (cc e) h))
one_skip _ _ _ _ (over c cs r n h) to_end e = cc e
one_skip _ _ _ _ (over c cs r n h) (to_dot s k) e = absurd (n (cc e) (subst EndsForm (sym (cc e)) k))
one_skip _ _ _ _ (over c cs r n h) (over d ds s m k) e =
    let head : c ≡ d = cc e in
    let tail : cs ≡ ds = one_skip cs ds r s h k (cc e) in
    λ i. head i ∷ tail i

pub nothing_more : (a more : List ℕ) → a ≡ a ++ more → more ≡ []
nothing_more [] more e = sym e
nothing_more (c ∷ a) more e = nothing_more a more (cc e)

pub longest_fault : (code : ℕ) (front rest : List ℕ) → IsFault code (front ++ rest) → Skips front rest → Longest Spelled front rest
longest_fault code front rest h s more after (lexeme m) e k =
    let same : front ++ rest ≡ (front ++ more) ++ after = ap (λ t. front ++ t) e ∙ sym (append_assoc front more after) in
    absurd (no_both m code (front ++ more) after (front ++ rest) same k.0 (subst IsFaultless (sym same) k.1) h)
longest_fault code front rest h s more after (comment chars) e k = absurd (no_comment front more chars (fault_begins code front rest h s) k.0)
longest_fault code front rest h s more after (fault other) e k =
    let same : front ++ rest ≡ (front ++ more) ++ after = ap (λ t. front ++ t) e ∙ sym (append_assoc front more after) in
    nothing_more front more (one_skip front (front ++ more) rest after s k.1 same)

begins_percent : (front text chars : List ℕ) → front ≡ 37 ∷ chars → Begins begins_gap false (front ++ text) → ⊥
begins_percent front text chars e h = let no : begins_gap 37 ≡ false = subst (λ t. Begins begins_gap false (t ++ text)) e h in cc no

pub longest_comment : (chars front rest : List ℕ) → front ≡ 37 ∷ chars → Stops stays_on_line rest → Longest Spelled front rest
longest_comment chars front rest e s [] after other g k = refl
longest_comment chars front rest e s (c ∷ more) after (lexeme m) g k = absurd (begins_percent front (c ∷ more) chars e (lexeme_no_gap m (front ++ c ∷ more) after k.0))
longest_comment chars front rest e s (c ∷ more) after (comment others) g k =
    let same : chars ++ c ∷ more ≡ others = cc (sym (ap (λ t. t ++ c ∷ more) e) ∙ k.0) in
    let yes : stays_on_line c ≡ true = (each_behind stays_on_line chars (c ∷ more) (subst (Each stays_on_line) (sym same) k.1)).0 in
    let no : stays_on_line c ≡ false = subst (Stops stays_on_line) g s in cc
longest_comment chars front rest e s (c ∷ more) after (fault code) g k = absurd (begins_percent front (c ∷ more) chars e (fault_begins code (front ++ c ∷ more) after k.0 k.1))
