-- Last calls: a call that stands last in a body stands last in what the body is lowered to, with no step around it. So does
-- one at the end of a clause of a `case` that stands last and leaves no new name bound.
use Rattle.std.specs.Prelude.{ℕ, ◌≡◌, true, List}
use Rattle.ef_core.specs.Plain.{StepTree}
use Rattle.ef_core.specs.Tree as c
use Rattle.ef_core.specs.Tree.{CoreClauses, CoreTree}
use Rattle.ef_forms.specs.Sure.{clauses_sure, sure}
use Rattle.ef_forms.specs.Tree as t
use Rattle.ef_forms.specs.Tree.{Clauses, Shape, Tree, Trees, tree}
use Rattle.ef_forms.specs.Ways.{NameSet, all_names, union}
use Rattle.ef_meaning.specs.Lowers.{finished}

-- each name of the first set is one of the second
abbrev pub IsWithin : NameSet → NameSet → Type 0
IsWithin s t = (y : ℕ) → s y ≡ true → t y ≡ true

abbrev pub IsApplied : CoreTree → Type 0
IsApplied (c.apply f es) = Unit {0}
IsApplied _ = ⊥

abbrev pub IsCalled : CoreTree → Type 0
IsCalled (c.call m f es) = Unit {0}
IsCalled _ = ⊥

abbrev mutual
  -- the value of an expression, before which these names are bound
  pub StaysLast : NameSet → Tree → CoreTree → Type 0
  StaysLast bound (tree p e) v = ShapeStaysLast bound e v

  pub ShapeStaysLast : NameSet → Shape → CoreTree → Type 0
  ShapeStaysLast bound (t.call f es) v = IsApplied v
  ShapeStaysLast bound (t.remote m f es) v = IsCalled v
  ShapeStaysLast bound (t.case_of e cs) v = IsWithin (clauses_sure cs) (union bound (sure e)) → (x : CoreTree) × (made : CoreClauses) × (v ≡ c.case_of x made) × ClausesStayLast (union bound (sure e)) cs made
  ShapeStaysLast bound _ v = Unit {0}

  -- each of the clauses; more of them may follow
  pub ClausesStayLast : NameSet → Clauses → CoreClauses → Type 0
  ClausesStayLast bound t.no_clauses made = Unit {0}
  ClausesStayLast bound (t.clause p ps g body cs) (c.clause qs h e made) = ((ss : List StepTree) × (v : CoreTree) × (e ≡ finished ss v) × LastStays (union bound (all_names ps)) body v) × ClausesStayLast bound cs made
  ClausesStayLast bound _ _ = ⊥

  -- the last of several expressions
  pub LastStays : NameSet → Trees → CoreTree → Type 0
  LastStays bound t.end v = Unit {0}
  LastStays bound (t.more e t.end) v = StaysLast bound e v
  LastStays bound (t.more e (t.more f es)) v = LastStays (union bound (sure e)) (t.more f es) v

-- a body: steps, and behind them the value of its last expression
abbrev pub KeepsLastCalls : NameSet → Trees → CoreTree → Type 0
KeepsLastCalls bound es e = (ss : List StepTree) × (v : CoreTree) × (e ≡ finished ss v) × LastStays bound es v
