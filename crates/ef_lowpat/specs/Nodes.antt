-- Nodes of patterns: what can be a literal is one.
use Rattle.std.specs.Prelude.{◌≡◌, ◌⊎◌}
use Rattle.ef_core.specs.Normal.{NormalPat}
use Rattle.ef_core.specs.Tree.{LitTree, LitTrees, PatTree, PatTrees, lit_list, lit_list_to, lit_tuple, no_lits, more_lits, pat_lit, pat_tuple, pat_list, pat_list_to, no_pats, more_pats}

abbrev pub lit_pats : LitTrees → PatTrees
lit_pats no_lits = no_pats
lit_pats (more_lits l ls) = more_pats (pat_lit l) (lit_pats ls)

-- a node of literals says a literal
abbrev pub Says : PatTree → LitTree → Type 0
Says (pat_tuple ps) (lit_tuple ls) = ps ≡ lit_pats ls
Says (pat_list ps) (lit_list ls) = ps ≡ lit_pats ls
Says (pat_list_to ps p) (lit_list_to ls l) = (ps ≡ lit_pats ls) × (p ≡ pat_lit l)
Says _ _ = ⊥

-- the literal that the node says, or the node, where it says none
abbrev pub Finishes : PatTree → PatTree → Type 0
Finishes node p = ((l : LitTree) × Says node l × (p ≡ pat_lit l)) ⊎ (NormalPat node × (p ≡ node))

-- without items, the tail stands for itself
abbrev pub FinishesTo : PatTrees → PatTree → PatTree → Type 0
FinishesTo no_pats tail p = p ≡ tail
FinishesTo (more_pats q ps) tail p = Finishes (pat_list_to (more_pats q ps) tail) p
