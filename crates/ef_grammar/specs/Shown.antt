-- What the code's rows stand for.
use Rattle.std.specs.Prelude.{◌≡◌, ◌&&◌, Bool, true, false, List, [], ◌∷◌, ◌++◌, map, reverse, Option, Some, None}
use Rattle.ef_grammar.specs.Grammar as g
use Rattle.ef_grammar.specs.Table as t
use Rattle.ef_grammar.specs.declared.row.Symbol as rs
use Rattle.ef_grammar.specs.declared.row.Symbol.TheVariants as symbol_is
use Rattle.ef_grammar.specs.declared.row.Row as rr
use Rattle.ef_grammar.specs.declared.row.Piece.{Piece}
use Rattle.ef_grammar.specs.declared.symbols.Symbols.{Symbols}

abbrev pub symbol : {R A : Type 0} → rs.Symbol R A → g.Symbol R A
symbol (symbol_is.Token s) = g.Token s
symbol (symbol_is.Rule n) = g.Rule n
symbol (symbol_is.Act a) = g.Act a

abbrev pub row : {R A : Type 0} → rr.Row R A → t.Row R A
row r = record { at = r.at; right = map symbol r.right.now ++ map symbol r.then.symbols.now }

abbrev pub joined : {R A : Type 0} → List (Piece R A) → List (g.Symbol R A)
joined [] = []
joined (p ∷ ps) = map symbol p.symbols.now ++ joined ps

abbrev pub at_last : {R A : Type 0} → Option R → List (g.Symbol R A)
at_last None = []
at_last (Some n) = g.Rule n ∷ []

-- the next one first
abbrev pub symbols : {R A : Type 0} → Symbols R A → List (g.Symbol R A)
symbols s = map symbol s.front.now ++ joined (reverse s.behind.items) ++ at_last s.last

-- the symbols with the one that was taken, if there was one
abbrev pub with_next : {R A : Type 0} → Option (g.Symbol R A) → List (g.Symbol R A) → List (g.Symbol R A)
with_next (Some x) α = x ∷ α
with_next None α = []

-- at the classes of `pass` the second part of each row comes to nothing
abbrev pub pass_all : {R A : Type 0} → t.Table R A → List (rr.Row R A) → Bool
pass_all table [] = true
pass_all table (r ∷ rs) = t.vanish table r.then.pass (map symbol r.then.symbols.now) && pass_all table rs

-- so do the pieces that wait
abbrev pub AllPass : {R A : Type 0} → t.Table R A → List (Piece R A) → Type 0
AllPass table [] = Unit {0}
AllPass table (p ∷ ps) = (t.vanish table p.pass (map symbol p.symbols.now) ≡ true) × AllPass table ps

abbrev pub Passes : {R A : Type 0} → t.Table R A → Symbols R A → Type 0
Passes table s = (t.vanish table s.pass (map symbol s.front.now) ≡ true) × AllPass table s.behind.items

-- what an action gave: whether it took what was read, and the value then
abbrev pub acted : {V : Type 0} → Bool → V → Option V
acted true v = Some v
acted false v = None
