-- Printed pieces are cut into their lexemes.
use Rattle.std.specs.Prelude.{ℕ, ◌==◌, ◌≡◌, ◌||◌, Bool, true, false, List, [], ◌∷◌, ◌++◌, map, if◌then◌else◌, refl}
use Rattle.std.proofs.Common.{ap, sym, subst, arith, inl, append_assoc}
use Rattle.std.proofs.lemmas.Bool.Decides.{nat_tests}
use Rattle.ef_base.specs.Characters.{Stops, is_name_part}
use Rattle.ef_base.specs.Cut.{Placed, Cuts}
use Rattle.ef_base.specs.Positions.{Position, position_after}
use Rattle.ef_base.specs.Taken.{Begins}
use Rattle.ef_core.specs.declared.layout.Last.{Last}
use Rattle.ef_core.specs.declared.layout.Last.TheVariants.{Start, Newline, Opening, Callable, Other}
use Rattle.ef_core.specs.Lexeme as x
use Rattle.ef_core.specs.Lexeme.{Lexeme, TheWord, Sym, Symbol, Gap, Spelled}
use Rattle.ef_core.specs.Pieces.{Piece, Break, Put, spelling, after, closes, opens_args, gap, lay, lexemes}
use Rattle.ef_core.proofs.Longest.{Good, extends, spelled, longest}

-- a character that could go on with some lexeme
abbrev extends_some : ℕ → Bool
extends_some c = is_name_part c || c == 35

stops_at : (l : Lexeme) (c : ℕ) → extends_some c ≡ false → extends l c ≡ false
stops_at (TheWord w) c h = grind (arith, nat_tests)
stops_at (x.Atom cs) c h = refl
stops_at (x.Var name) c h = grind (arith, nat_tests)
stops_at (x.Int n) c h = grind (arith, nat_tests)
stops_at (x.Char d) c h = refl
stops_at (x.Str cs) c h = refl
stops_at (Sym x.RightBrace) c h = grind (arith, nat_tests)
stops_at (Sym _) c h = refl

stops_front : (l : Lexeme) (front rest : List ℕ) → Begins extends_some false front → Stops (extends l) (front ++ rest)
stops_front l [] rest h = absurd h
stops_front l (c ∷ cs) rest h = stops_at l c h

stops_all : (l : Lexeme) (rest : List ℕ) → ((c : ℕ) → extends l c ≡ false) → Stops (extends l) rest
stops_all l [] f = tt
stops_all l (c ∷ cs) f = f c

-- a symbol behind which no gap stands goes on with nothing
opening_ends : (l : Lexeme) → after l ≡ Opening → (c : ℕ) → extends l c ≡ false
opening_ends (TheWord w) e c = cc
opening_ends (x.Atom cs) e c = refl
opening_ends (x.Var name) e c = cc
opening_ends (x.Int n) e c = cc
opening_ends (x.Char d) e c = refl
opening_ends (x.Str cs) e c = refl
opening_ends (Sym x.RightBrace) e c = cc
opening_ends (Sym _) e c = refl

next_other : (l : Lexeme) → Begins extends_some false (gap Other l ++ spelling l)
next_other (TheWord w) = refl
next_other (x.Atom cs) = refl
next_other (x.Var name) = refl
next_other (x.Int n) = refl
next_other (x.Char d) = refl
next_other (x.Str cs) = refl
next_other (Sym x.LeftParen) = refl
next_other (Sym _) = refl

next_callable : (l : Lexeme) → Begins extends_some false (gap Callable l ++ spelling l)
next_callable (TheWord w) = refl
next_callable (x.Atom cs) = refl
next_callable (x.Var name) = refl
next_callable (x.Int n) = refl
next_callable (x.Char d) = refl
next_callable (x.Str cs) = refl
next_callable (Sym x.LeftParen) = refl
next_callable (Sym _) = refl

never_start : (l : Lexeme) → after l ≡ Start → ⊥
never_start (TheWord w) e = cc
never_start (x.Atom cs) e = cc
never_start (x.Var name) e = cc
never_start (x.Int n) e = cc
never_start (x.Char d) e = cc
never_start (x.Str cs) e = cc
never_start (Sym x.LeftParen) e = cc
never_start (Sym _) e = cc

-- the gap behind a lexeme and the next one go on with it nowhere
stops_put : (l : Lexeme) (last : Last) → after l ≡ last → (other : Lexeme) (rest : List ℕ) → Stops (extends l) ((gap last other ++ spelling other) ++ rest)
stops_put l Opening e other rest = stops_all l (spelling other ++ rest) (opening_ends l e)
stops_put l Other e other rest = stops_front l (gap Other other ++ spelling other) rest (next_other other)
stops_put l Callable e other rest = stops_front l (gap Callable other ++ spelling other) rest (next_callable other)
stops_put l Newline e other rest = stops_at l 10 refl
stops_put l Start e other rest = absurd (never_start l e)

broken : (l : Lexeme) (ps : List Piece) → Stops (extends l) (lay Newline ps ++ 10 ∷ [])
broken l [] = stops_at l 10 refl
broken l (Break ∷ ps) = broken l ps
broken l (Put other ∷ ps) = stops_at l 10 refl

stops : (l : Lexeme) (ps : List Piece) → Stops (extends l) (lay (after l) ps ++ 10 ∷ [])
stops l [] = stops_at l 10 refl
stops l (Break ∷ ps) = broken l ps
stops l (Put other ∷ ps) =
    subst (Stops (extends l)) (sym (append_assoc (gap (after l) other ++ spelling other) (lay (after other) ps) (10 ∷ [])))
    (stops_put l (after l) refl other (lay (after other) ps ++ 10 ∷ []))

gap_is : (last : Last) (l : Lexeme) → Gap (gap last l)
gap_is Start l = x.none
gap_is Newline l = x.white 10 [] refl x.none
gap_is Opening l = x.none
gap_is Callable l = go (closes l) (opens_args l)
  where
    go : (a b : Bool) → Gap (if a then [] else (if b then [] else 32 ∷ []))
    go true b = x.none
    go false true = x.none
    go false false = x.white 32 [] refl x.none
gap_is Other l = go (closes l)
  where
    go : (a : Bool) → Gap (if a then [] else 32 ∷ [])
    go true = x.none
    go false = x.white 32 [] refl x.none

abbrev pub AllGood : List Piece → Type 0
AllGood [] = Unit {0}
AllGood (Break ∷ ps) = AllGood ps
AllGood (Put l ∷ ps) = Good l × AllGood ps

pub all_good-append : (ps qs : List Piece) → AllGood ps → AllGood qs → AllGood (ps ++ qs)
all_good-append [] qs h k = k
all_good-append (Break ∷ ps) qs h k = all_good-append ps qs h k
all_good-append (Put l ∷ ps) qs h k = (h.0, all_good-append ps qs h.1 k)

pub lexemes-append : (ps qs : List Piece) → lexemes (ps ++ qs) ≡ lexemes ps ++ lexemes qs
lexemes-append [] qs = refl
lexemes-append (Break ∷ ps) qs = lexemes-append ps qs
lexemes-append (Put l ∷ ps) qs = ap (λ ls. l ∷ ls) (lexemes-append ps qs)

regroup : (a b c d : List ℕ) → ((a ++ b) ++ c) ++ d ≡ a ++ (b ++ (c ++ d))
regroup a b c d = simp append_assoc

pub printed_cut : (at : Position) (last : Last) (ps : List Piece) → AllGood ps
    → (ls : List (Placed Lexeme)) × (map (λ (l : Placed Lexeme). l.lexeme) ls ≡ lexemes ps) × Cuts Gap Spelled at (lay last ps ++ 10 ∷ []) ls
printed_cut at last [] all = ([], refl, inl (x.white 10 [] refl x.none))
printed_cut at last (Break ∷ ps) all = printed_cut at Newline ps all
printed_cut at last (Put l ∷ ps) all =
    let there : Position = position_after at (gap last l) in
    let rest = printed_cut (position_after there (spelling l)) (after l) ps all.1 in
    let text : List ℕ = lay (after l) ps ++ 10 ∷ [] in
    let here : Placed Lexeme = record { lexeme = l; at = there } in
    let whole = regroup (gap last l) (spelling l) (lay (after l) ps) (10 ∷ []) in (
      here ∷ rest.0,
      ap (λ ms. l ∷ ms) rest.1,
      (gap last l, spelling l, text, whole, gap_is last l, refl, spelled l text all.0, longest l text all.0 (stops l ps), rest.2),
    )
