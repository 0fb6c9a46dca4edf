-- What the spellings of reserved words and symbols tell.
use Rattle.std.specs.Prelude.{ℕ, ◌==◌, ◌&&◌, ◌||◌, ◌≡◌, Bool, true, false, List, [], ◌∷◌, ◌++◌, bytes_eq, find, Option, Some, if◌then◌else◌, refl}
use Rattle.std.proofs.Common.{ap, ◌∙◌, sym, append-nil}
use Rattle.ef_base.specs.Characters.{Stops, Each, is_lower, is_upper, is_digit, is_white}
use Rattle.ef_core.specs.Lexeme as x
use Rattle.ef_core.specs.Lexeme.{Word, Symbol, word_text, symbol_text}

-- what a gap begins with
abbrev pub begins_gap : ℕ → Bool
begins_gap c = is_white c || c == 37

abbrev sort_of_sign : List ℕ → ℕ
sort_of_sign [] = 6
sort_of_sign (c ∷ cs) = if is_digit c then 3 else 6

-- 0 where a text begins with a word, 1 an atom, 2 a variable, 3 an integer, 4 a character, 5 a string, 6 a symbol, 7 none of these
abbrev pub sort : List ℕ → ℕ
sort [] = 7
sort (c ∷ cs) =
    if is_lower c then 0 else if c == 39 then 1 else if is_upper c then 2 else if is_digit c then 3 else if c == 36 then 4
    else if c == 34 then 5 else if begins_gap c then 7 else if c == 45 then sort_of_sign cs else 6

-- whatever stands behind it, the text is of this sort
abbrev pub BeginsAs : ℕ → List ℕ → Type 0
BeginsAs n front = (more : List ℕ) → sort (front ++ more) ≡ n

-- ---- words

abbrev all_words : List Word
all_words =
    x.After ∷ x.Apply ∷ x.Attributes ∷ x.Call ∷ x.Case ∷ x.Catch ∷ x.Do ∷ x.End ∷ x.Fun ∷ x.In ∷ x.Let
    ∷ x.Letrec ∷ x.Module ∷ x.Of ∷ x.Primop ∷ x.Receive ∷ x.Try ∷ x.When ∷ []

abbrev word_at : List ℕ → Option Word
word_at text = find (λ w. bytes_eq (word_text w) text) all_words

abbrev are_lower : List ℕ → Bool
are_lower [] = true
are_lower (c ∷ cs) = is_lower c && are_lower cs

pub both_true : (a b : Bool) → (a && b) ≡ true → (a ≡ true) × (b ≡ true)
both_true true b e = (refl, e)
both_true false b e = cc

record WordFacts (w : Word) : Type 0 where
  at : word_at (word_text w) ≡ Some w
  begins : BeginsAs 0 (word_text w)
  lower : are_lower (word_text w) ≡ true

word_facts : (w : Word) → WordFacts w
word_facts x.After = record { at = refl; begins = λ more. refl; lower = refl }
word_facts _ = record { at = refl; begins = λ more. refl; lower = refl }

pub word_begins : (w : Word) → BeginsAs 0 (word_text w)
word_begins w = (word_facts w).begins

pub word_lower : (w : Word) → Each is_lower (word_text w)
word_lower w = each (word_text w) (word_facts w).lower
  where
    each : (cs : List ℕ) → are_lower cs ≡ true → Each is_lower cs
    each [] h = tt
    each (c ∷ cs) h = let both = both_true (is_lower c) (are_lower cs) h in (both.0, each cs both.1)

pub one_word : (w v : Word) → word_text w ≡ word_text v → w ≡ v
one_word w v e =
    let a = (word_facts w).at in
    let b = (word_facts v).at in
    let c = ap word_at e in
    cc

-- ---- symbols

-- a symbol stands before those with which it begins
abbrev all_symbols : List Symbol
all_symbols =
    x.BinEnd ∷ x.LeftParen ∷ x.RightParen ∷ x.LeftBracket ∷ x.RightBracket ∷ x.LeftBrace ∷ x.RightBrace ∷ x.Less
    ∷ x.Greater ∷ x.Comma ∷ x.Bar ∷ x.Slash ∷ x.Colon ∷ x.Equals ∷ x.Arrow ∷ x.DashBar ∷ x.BinBegin ∷ x.SegmentBegin ∷ []

abbrev is_front : List ℕ → List ℕ → Bool
is_front [] text = true
is_front (c ∷ cs) [] = false
is_front (c ∷ cs) (d ∷ ds) = d == c && is_front cs ds

-- the longest symbol at the front of a text
abbrev symbol_at : List ℕ → Option Symbol
symbol_at text = find (λ s. is_front (symbol_text s) text) all_symbols

-- the characters that make a longer symbol of this one
abbrev pub extends_symbol : Symbol → ℕ → Bool
extends_symbol x.RightBrace c = c == 35
extends_symbol _ c = false

pub symbol_begins : (s : Symbol) → BeginsAs 6 (symbol_text s)
symbol_begins x.LeftParen = λ more. refl
symbol_begins _ = λ more. refl

symbol_stands : (s : Symbol) (rest : List ℕ) → Stops (extends_symbol s) rest → symbol_at (symbol_text s ++ rest) ≡ Some s
symbol_stands x.RightBrace [] h = refl
symbol_stands x.RightBrace (c ∷ cs) h = rw h refl
symbol_stands _ rest h = refl

pub one_symbol : (s t : Symbol) → symbol_text s ≡ symbol_text t → s ≡ t
one_symbol s t e =
    let a = symbol_stands s [] tt in
    let b = symbol_stands t [] tt in
    let c = ap (λ u. symbol_at (u ++ [])) e in
    cc

-- a symbol that goes on with a symbol is that one, where the text does not go on with it
pub same_symbol : (s t : Symbol) (more : List ℕ) → Stops (extends_symbol s) more → symbol_text s ++ more ≡ symbol_text t → s ≡ t
same_symbol s t more h e =
    let a = symbol_stands s more h in
    let b = symbol_stands t [] tt in
    let c = ap symbol_at (e ∙ sym (append-nil (symbol_text t))) in
    cc
