-- Core trees whose names are all of one table.
use Rattle.ef_base.specs.Texts.{Texts, HasName}
use Rattle.ef_core.specs.declared.literal.CoreVar.{CoreVar}
use Rattle.ef_core.specs.declared.literal.CoreVar.TheVariants.{Numbered, Named}
use Rattle.ef_core.specs.declared.literal.FName.{FName}
use Rattle.ef_core.specs.declared.env.Bind.{Bind}
pub use Rattle.ef_core.specs.Everywhere.{Each}
use Rattle.ef_core.specs.Everywhere.{Rule, Holds, AllHold, StepsHold, LitHolds, DefHolds}
use Rattle.ef_core.specs.Tree.{LitTree, CoreTree, CoreTrees, CoreSegments, CoreSteps, CoreDefs, PatTree, PatSegments, AttributeTree, DefTree, CoreModuleTree, atom, fun_name, bin, letrec, primop, no_segments, segment, no_defs, def, pat_bin, no_pat_segments, pat_segment}

module _ (texts : Texts) where
  abbrev pub VarOf : CoreVar → Type 0
  VarOf (Numbered n) = Unit {0}
  VarOf (Named n) = HasName texts n

  abbrev pub FNameOf : FName → Type 0
  FNameOf f = HasName texts f.name

  abbrev pub KindsOf : CoreSegments → Type 0
  KindsOf no_segments = Unit {0}
  KindsOf (segment e size unit kind flags ss) = HasName texts kind × KindsOf ss

  abbrev pub PatKindsOf : PatSegments → Type 0
  PatKindsOf no_pat_segments = Unit {0}
  PatKindsOf (pat_segment p size unit kind flags ss) = HasName texts kind × PatKindsOf ss

  abbrev pub FNamesOf : CoreDefs → Type 0
  FNamesOf no_defs = Unit {0}
  FNamesOf (def f vs b ds) = FNameOf f × FNamesOf ds

  -- the names that stand right in an expression
  abbrev pub NamesOf : CoreTree → Type 0
  NamesOf (fun_name f) = FNameOf f
  NamesOf (bin ss) = KindsOf ss
  NamesOf (letrec ds e) = FNamesOf ds
  NamesOf (primop n es) = HasName texts n
  NamesOf _ = Unit {0}

  abbrev pub PatNamesOf : PatTree → Type 0
  PatNamesOf (pat_bin ss) = PatKindsOf ss
  PatNamesOf _ = Unit {0}

  abbrev pub LitNameOf : LitTree → Type 0
  LitNameOf (atom n) = HasName texts n
  LitNameOf _ = Unit {0}

  abbrev pub of_table : Rule
  of_table = record { expr = NamesOf; pat = PatNamesOf; literal = LitNameOf; variable = VarOf }

  abbrev pub LitOf : LitTree → Type 0
  LitOf = LitHolds of_table

  abbrev pub CoreOf : CoreTree → Type 0
  CoreOf = Holds of_table

  abbrev pub CoresOf : CoreTrees → Type 0
  CoresOf = AllHold of_table

  abbrev pub StepsOf : CoreSteps → Type 0
  StepsOf = StepsHold of_table

  abbrev pub AttributeOf : AttributeTree → Type 0
  AttributeOf a = HasName texts a.name × LitOf a.term

  abbrev pub DefOf : DefTree → Type 0
  DefOf d = FNameOf d.name × DefHolds of_table d

  abbrev pub CoreModuleOf : CoreModuleTree → Type 0
  CoreModuleOf m = HasName texts m.name × Each FNameOf m.exports × Each AttributeOf m.attributes × Each DefOf m.defs

  -- the variables of an environment
  abbrev pub BindOf : Bind → Type 0
  BindOf b = VarOf b.var
