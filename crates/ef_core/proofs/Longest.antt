-- The printed text of a lexeme spells it, and is the longest lexeme at its place.
use Rattle.std.specs.Prelude.{ℕ, suc, decimal, ℤ, pos, negsuc, neg_ℤ, ◌==◌, ◌≡◌, ◌⊎◌, Bool, false, List, [], ◌∷◌, ◌++◌, flat_map, refl}
use Rattle.std.specs.Fmt.{signed_decimal}
use Rattle.std.proofs.Common.{ap, ◌∙◌, sym, subst, arith, inl, inr, append_assoc, append-nil}
use Rattle.ef_base.specs.Characters.{Stops, Each, BeginsAndGoesOn, is_lower, is_upper, is_digit, is_name_part, number_after}
use Rattle.ef_base.specs.Cut.{Longest}
use Rattle.ef_base.specs.Escape.{IsCharacter, WrittenAll}
use Rattle.ef_core.specs.Lexeme as x
use Rattle.ef_core.specs.Lexeme.{Lexeme, TheWord, Sym, Symbol, word_text, symbol_text, Spelled, IsNumber}
use Rattle.ef_core.specs.Pieces.{spelling, escaped}
use Rattle.ef_core.specs.WellFormed.{IsInRange}
use Rattle.ef_core.proofs.CoreCut.{sort_of, begins_as}
use Rattle.ef_base.proofs.Classes.{each_behind}
use Rattle.ef_base.proofs.EscapedTexts.{escaped_written}
use Rattle.ef_base.proofs.Escapes.{one_quoted, same_rest}
use Rattle.ef_core.proofs.Numerals.{decimal_number}
use Rattle.ef_core.proofs.Spellings.{sort, word_lower, extends_symbol, same_symbol}

abbrev pub AreCharacters : List ℕ → Type 0
AreCharacters [] = Unit {0}
AreCharacters (c ∷ cs) = IsCharacter c × AreCharacters cs

-- a lexeme that is printed as it is
abbrev pub Good : Lexeme → Type 0
Good (TheWord w) = Unit {0}
Good (x.Atom cs) = AreCharacters cs
Good (x.Var name) = BeginsAndGoesOn is_upper is_name_part name
Good (x.Int n) = IsInRange n
Good (x.Char c) = ⊥
Good (x.Str cs) = ⊥
Good (Sym s) = Unit {0}

-- ---- the text spells the lexeme

spells_characters : (cs rest : List ℕ) → AreCharacters cs → WrittenAll (λ c. c == 39) cs (flat_map escaped cs) rest
spells_characters [] rest all = refl
spells_characters (c ∷ cs) rest all =
    (escaped c, flat_map escaped cs, refl, escaped_written 39 c (flat_map escaped cs ++ rest) refl all.0, spells_characters cs rest all.1)

pub spelled : (l : Lexeme) (rest : List ℕ) → Good l → Spelled l (spelling l) rest
spelled (TheWord w) rest g = refl
spelled (x.Atom cs) rest g = (flat_map escaped cs, refl, spells_characters cs (39 ∷ []) g)
spelled (x.Var name) rest g = (refl, g)
spelled (x.Int (pos n)) rest g =
    let is = decimal_number n (omega arith) in (decimal n, is.0, inl (refl, ap pos (sym is.1)))
spelled (x.Int (negsuc n)) rest g =
    let is = decimal_number (suc n) (omega arith) in (decimal (suc n), is.0, inr (refl, ap (λ m. neg_ℤ (pos m)) (sym is.1)))
spelled (x.Char c) rest g = absurd g
spelled (x.Str cs) rest g = absurd g
spelled (Sym s) rest g = refl

-- ---- and is the longest

-- the characters that could go on with a lexeme
abbrev pub extends : Lexeme → ℕ → Bool
extends (TheWord w) c = is_lower c
extends (x.Atom cs) c = false
extends (x.Var name) c = is_name_part c
extends (x.Int n) c = is_digit c
extends (x.Char d) c = false
extends (x.Str cs) c = false
extends (Sym s) c = extends_symbol s c

stops_front : (p : ℕ → Bool) (more after rest : List ℕ) → rest ≡ more ++ after → Stops p rest → Stops p more
stops_front p [] after rest e s = tt
stops_front p (c ∷ more) after rest e s = subst (Stops p) e s

-- a text of characters of a class does not go on where one of another class stands
all_taken : (p : ℕ → Bool) (front more : List ℕ) → Each p (front ++ more) → Stops p more → more ≡ []
all_taken p front [] h s = refl
all_taken p front (c ∷ more) h s = let yes = (each_behind p front (c ∷ more) h).0 in cc

number_tail : (n : ℤ) (c : ℕ) (cs rest : List ℕ) → Spelled (x.Int n) (c ∷ cs) rest → Each is_digit cs
number_tail n c cs rest h = go h.2
  where
    tail : (ds : List ℕ) → IsNumber ds → c ∷ cs ≡ ds → Each is_digit cs
    tail [] k e = absurd k
    tail (d ∷ ds) k e = subst (Each is_digit) (cc e) k.1

    whole : (ds : List ℕ) → IsNumber ds → Each is_digit ds
    whole [] k = absurd k
    whole (d ∷ ds) k = k

    go : ((c ∷ cs ≡ h.0) × (n ≡ pos (number_after 0 h.0))) ⊎ ((c ∷ cs ≡ 45 ∷ h.0) × (n ≡ neg_ℤ (pos (number_after 0 h.0)))) → Each is_digit cs
    go (inl k) = tail h.0 h.1 k.0
    go (inr k) = subst (Each is_digit) (cc (k.0)) (whole h.0 h.1)

-- a lexeme of the same sort whose text goes on with this one's goes on with nothing
longer : (l other : Lexeme) (more rest : List ℕ) → Good l → Stops (extends l) more → sort_of l ≡ sort_of other
    → Spelled l (spelling l) rest → Spelled other (spelling l ++ more) rest → more ≡ []
longer (TheWord w) (TheWord v) more rest g s e k h = all_taken is_lower (word_text w) more (subst (Each is_lower) (sym h) (word_lower v)) s
longer (x.Atom cs) (x.Atom ds) more rest g s e k h =
    let whole : k.0 ++ 39 ∷ more ≡ h.0 ++ 39 ∷ [] = cc (ap (λ t. t ++ more) (sym (k.1)), append_assoc k.0 (39 ∷ []) more, h.1) in
    let same = one_quoted 39 refl cs ds k.0 h.0 more [] k.2 h.2 whole in
    cc (same_rest k.0 (39 ∷ more) (39 ∷ []) (whole ∙ ap (λ t. t ++ 39 ∷ []) (sym same.1)))
longer (x.Var []) (x.Var name) more rest g s e k h = absurd g
longer (x.Var (c ∷ cs)) (x.Var name) more rest g s e k h =
    let all : BeginsAndGoesOn is_upper is_name_part (c ∷ (cs ++ more)) = subst (BeginsAndGoesOn is_upper is_name_part) (sym h.0) h.1 in
    all_taken is_name_part cs more all.1 s
longer (x.Int m) (x.Int n) more rest g s e k h = go (signed_decimal m) k h
  where
    go : (text : List ℕ) → Spelled (x.Int m) text rest → Spelled (x.Int n) (text ++ more) rest → more ≡ []
    go [] k h = let bad : sort [] ≡ 3 = begins_as (x.Int m) [] rest k [] in absurd (omega arith)
    go (c ∷ cs) k h = all_taken is_digit cs more (number_tail n c (cs ++ more) rest h) s
longer (Sym t) (Sym u) more rest g s e k h =
    same_rest (symbol_text t) more [] (h ∙ ap symbol_text (sym (same_symbol t u more s h)) ∙ sym (append-nil (symbol_text t)))
longer l other more rest g s e k h = absurd (omega (arith, e))

pub longest : (l : Lexeme) (rest : List ℕ) → Good l → Stops (extends l) rest → Longest Spelled (spelling l) rest
longest l rest g s more after other e h =
    let here : sort (spelling l ++ more) ≡ sort_of l = begins_as l (spelling l) rest (spelled l rest g) more in
    let there : sort ((spelling l ++ more) ++ []) ≡ sort_of other = begins_as other (spelling l ++ more) after h [] in
    let same : sort_of l ≡ sort_of other = sym here ∙ ap sort (sym (append-nil (spelling l ++ more))) ∙ there in
    longer l other more after g (stops_front (extends l) more after rest e s) same (spelled l after g) h
