-- Well-formed trees: those that have a spelling. Values stand together only where an expression may give several; a list
-- with a tail, a `letrec` and a `case` are not empty; the size of a pattern's segment is a variable, an integer or `'all'`;
-- numbers have their range, and variables are spelled as such.
use Rattle.std.specs.Prelude.{ℤ, ◌<◌, ◌^◌, ◌≡◌, pos, negsuc, List, length, codes}
use Rattle.ef_base.specs.Characters.{BeginsAndGoesOn, is_upper, is_name_part}
use Rattle.ef_base.specs.Texts.{Texts, IsNameOf, text}
use Rattle.ef_core.specs.declared.literal.CoreVar.{CoreVar}
use Rattle.ef_core.specs.declared.literal.CoreVar.TheVariants.{Numbered, Named}
use Rattle.ef_core.specs.declared.literal.FName.{FName}
use Rattle.ef_core.specs.Everywhere.{Rule}
use Rattle.ef_core.specs.Tree.{LitTree, LitTrees, CoreTree, CoreTrees, CoreSegments, CoreDefs, CoreClauses, PatTree, PatTrees, PatSegments, int, atom, lit_list_to, no_lits, more_lits, var, lit, fun_name, value_list, tuple, list, list_to, bin, letrec, case_of, apply, call, primop, end, more, no_segments, segment, no_defs, def, no_clauses, clause, pat_list_to, pat_bin, no_pats, more_pats, no_pat_segments, pat_segment}

-- an integer of 128 bits, with its sign
abbrev pub IsInRange : ℤ → Type 0
IsInRange (pos n) = n < 2 ^ 127
IsInRange (negsuc n) = n < 2 ^ 127

-- one value
abbrev pub IsSingle : CoreTree → Type 0
IsSingle (value_list es) = ⊥
IsSingle _ = Unit {0}

abbrev pub AreSingle : CoreTrees → Type 0
AreSingle end = Unit {0}
AreSingle (more e es) = IsSingle e × AreSingle es

abbrev pub AreSingleSegments : CoreSegments → Type 0
AreSingleSegments no_segments = Unit {0}
AreSingleSegments (segment e size unit kind flags ss) = IsSingle e × IsSingle size × IsInRange unit × AreSingleSegments ss

abbrev pub AreSome : CoreTrees → Type 0
AreSome end = ⊥
AreSome (more e es) = Unit {0}

abbrev pub AreSomeLits : LitTrees → Type 0
AreSomeLits no_lits = ⊥
AreSomeLits (more_lits l ls) = Unit {0}

abbrev pub AreSomePats : PatTrees → Type 0
AreSomePats no_pats = ⊥
AreSomePats (more_pats p ps) = Unit {0}

abbrev pub AreSomeClauses : CoreClauses → Type 0
AreSomeClauses no_clauses = ⊥
AreSomeClauses (clause ps g b cs) = Unit {0}

abbrev pub AreSomeDefs : CoreDefs → Type 0
AreSomeDefs no_defs = ⊥
AreSomeDefs (def f vs b ds) = Unit {0}

-- as many parameters as the arity says
abbrev pub Matches : FName → List CoreVar → Type 0
Matches f vs = (length vs ≡ f.arity) × (f.arity < 2 ^ 32)

abbrev pub AllMatch : CoreDefs → Type 0
AllMatch no_defs = Unit {0}
AllMatch (def f vs b ds) = Matches f vs × AllMatch ds

abbrev pub WellFormedExpr : CoreTree → Type 0
WellFormedExpr (fun_name f) = f.arity < 2 ^ 32
WellFormedExpr (value_list es) = AreSingle es
WellFormedExpr (tuple es) = AreSingle es
WellFormedExpr (list es) = AreSingle es
WellFormedExpr (list_to es e) = AreSome es × AreSingle es × IsSingle e
WellFormedExpr (bin ss) = AreSingleSegments ss
WellFormedExpr (letrec ds e) = AreSomeDefs ds × AllMatch ds
WellFormedExpr (case_of e cs) = AreSomeClauses cs
WellFormedExpr (apply f es) = IsSingle f × AreSingle es
WellFormedExpr (call m f es) = IsSingle m × IsSingle f × AreSingle es
WellFormedExpr (primop n es) = AreSingle es
WellFormedExpr _ = Unit {0}

abbrev pub WellFormedLit : LitTree → Type 0
WellFormedLit (int i) = IsInRange i
WellFormedLit (lit_list_to ls l) = AreSomeLits ls
WellFormedLit _ = Unit {0}

module _ (texts : Texts) where
  abbrev pub IsSize : CoreTree → Type 0
  IsSize (var v) = Unit {0}
  IsSize (lit (int i)) = Unit {0}
  IsSize (lit (atom n)) = IsNameOf texts n (codes "all")
  IsSize _ = ⊥

  abbrev pub HaveSizes : PatSegments → Type 0
  HaveSizes no_pat_segments = Unit {0}
  HaveSizes (pat_segment p size unit kind flags ss) = IsSize size × IsInRange unit × HaveSizes ss

  abbrev pub WellFormedPat : PatTree → Type 0
  WellFormedPat (pat_list_to ps p) = AreSomePats ps
  WellFormedPat (pat_bin ss) = HaveSizes ss
  WellFormedPat _ = Unit {0}

  abbrev pub WellFormedVar : CoreVar → Type 0
  WellFormedVar (Numbered n) = n < 2 ^ 32
  WellFormedVar (Named n) = BeginsAndGoesOn is_upper is_name_part (text texts n)

  abbrev pub well_formed : Rule
  well_formed = record { expr = WellFormedExpr; pat = WellFormedPat; literal = WellFormedLit; variable = WellFormedVar }
