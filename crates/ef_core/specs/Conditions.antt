-- What a Core text has to meet beside its grammar.
use Rattle.std.specs.Prelude.{ℕ, ℤ, pos, ◌≡◌, ◌≤◌, ◌⊎◌, List, [], ◌∷◌, map, codes}
use Rattle.ef_base.specs.Texts.{Texts, IsNameOf}
use Rattle.ef_base.specs.declared.name.Name.{Name}
use Rattle.ef_core.specs.declared.literal.FName.{FName}
use Rattle.ef_core.specs.Everywhere.{Each, Rule, HoldsIn}
use Rattle.ef_core.specs.Scope.{IsAmong, InScope, pats_vars, def_names}
use Rattle.ef_core.specs.Tree.{LitTree, CoreTree, CoreSegments, CoreSteps, CoreDefs, CoreClauses, PatTree, PatSegments, CoreModuleTree, atom, lit_list, no_lits, more_lits, a_fun, bin, lets, letrec, case_of, receive, try_catch, no_segments, segment, done, step, no_defs, def, no_clauses, clause, pat_bin, no_pat_segments, pat_segment}

-- no element stands twice
abbrev pub NoneTwice : {A : Type 0} → List A → Type 0
NoneTwice [] = Unit {0}
NoneTwice (x ∷ xs) = (IsAmong xs x → ⊥) × NoneTwice xs

-- ---- no variable stands twice in one list, nor in the patterns of one clause

abbrev StepsDiffer : CoreSteps → Type 0
StepsDiffer done = Unit {0}
StepsDiffer (step vs e ss) = NoneTwice vs × StepsDiffer ss

abbrev ParametersDiffer : CoreDefs → Type 0
ParametersDiffer no_defs = Unit {0}
ParametersDiffer (def f vs b ds) = NoneTwice vs × ParametersDiffer ds

abbrev PatternsDiffer : CoreClauses → Type 0
PatternsDiffer no_clauses = Unit {0}
PatternsDiffer (clause ps g b cs) = NoneTwice (pats_vars ps) × PatternsDiffer cs

abbrev pub VariablesDiffer : CoreTree → Type 0
VariablesDiffer (a_fun vs b) = NoneTwice vs
VariablesDiffer (lets ss e) = StepsDiffer ss
VariablesDiffer (letrec ds e) = ParametersDiffer ds
VariablesDiffer (case_of e cs) = PatternsDiffer cs
VariablesDiffer (receive cs t b) = PatternsDiffer cs
VariablesDiffer (try_catch a vs b ws h) = NoneTwice vs × NoneTwice ws
VariablesDiffer _ = Unit {0}

-- ---- no function is defined twice in one `letrec`

abbrev pub FunctionsDiffer : CoreTree → Type 0
FunctionsDiffer (letrec ds e) = NoneTwice (def_names ds)
FunctionsDiffer _ = Unit {0}

-- ---- segments: the unit is 1 to 256, the type `'integer'` or `'binary'`, the flags a sign and an order of bytes

module _ (texts : Texts) where
  abbrev pub IsWord : Name → List ℕ → Type 0
  IsWord n word = IsNameOf texts n word

  abbrev pub AreFlags : LitTree → Type 0
  AreFlags (lit_list (more_lits (atom sign) (more_lits (atom order) no_lits))) =
      (IsWord sign (codes "signed") ⊎ IsWord sign (codes "unsigned")) × (IsWord order (codes "big") ⊎ IsWord order (codes "little"))
  AreFlags _ = ⊥

  pub record IsSegment (unit : ℤ) (kind : Name) (flags : LitTree) : Type 0 where
    pub bits : ℕ
    pub unit_is : unit ≡ pos bits
    pub at_least : 1 ≤ bits
    pub at_most : bits ≤ 256
    pub kind_is : IsWord kind (codes "integer") ⊎ IsWord kind (codes "binary")
    pub flags_are : AreFlags flags

  abbrev pub AreSegments : CoreSegments → Type 0
  AreSegments no_segments = Unit {0}
  AreSegments (segment e size unit kind flags ss) = IsSegment unit kind flags × AreSegments ss

  abbrev pub ArePatSegments : PatSegments → Type 0
  ArePatSegments no_pat_segments = Unit {0}
  ArePatSegments (pat_segment p size unit kind flags ss) = IsSegment unit kind flags × ArePatSegments ss

  abbrev pub SegmentsAreRight : CoreTree → Type 0
  SegmentsAreRight (bin ss) = AreSegments ss
  SegmentsAreRight _ = Unit {0}

  abbrev pub PatSegmentsAreRight : PatTree → Type 0
  PatSegmentsAreRight (pat_bin ss) = ArePatSegments ss
  PatSegmentsAreRight _ = Unit {0}

  -- ---- what is asked of each part of a module, and of the module

  abbrev pub conditions : Rule
  conditions = record {
    expr = λ e. VariablesDiffer e × FunctionsDiffer e × SegmentsAreRight e;
    pat = PatSegmentsAreRight;
    literal = λ l. Unit {0};
    variable = λ v. Unit {0};
  }

  abbrev pub defined : CoreModuleTree → List FName
  defined m = map (λ d. d.name) m.defs

  pub record MeetsConditions (m : CoreModuleTree) : Type 0 where
    pub parts : HoldsIn conditions m
    pub parameters_differ : Each (λ d. NoneTwice d.params) m.defs
    pub functions_differ : NoneTwice (defined m)
    pub exports_defined : Each (IsAmong (defined m)) m.exports
    pub in_scope : Each (λ d. InScope d.params (defined m) d.body) m.defs
