-- The modules that are built so far, and the limits on them.
use Rattle.std.specs.Prelude.{ℕ, ◌+◌, ◌≤◌, ◌≡◌, ◌≢◌, ◌⊎◌, List, [], ◌∷◌, codes, map}
use Rattle.std.specs.List.{flat_map}
use Rattle.ef_base.specs.Texts.{Texts, text}
use Rattle.ef_forms.specs.declared.form.FunctionRef.{FunctionRef}
use Rattle.ef_forms.specs.declared.tables.FunctionName.{FunctionName}
use Rattle.ef_forms.specs.Tree.{Tree, Shape, Trees, Guards, Clauses, FunctionTree, FormTree, PlacedTree, ModuleTree, tree, int, atom, var, any, list, list_to, tuple, matching, call, remote, case_of, end, more, no_guard, or_guard, no_clauses, clause, module_name, export, dropped, function, count}

-- ---- what a module defines and exports, in order of the source

abbrev pub name_of : FunctionRef → FunctionName
name_of r = record { name = r.name; arity = r.arity }

abbrev pub functions_of : FormTree → List FunctionTree
functions_of (function g) = g ∷ []
functions_of _ = []

abbrev pub functions_in : List PlacedTree → List FunctionTree
functions_in fs = flat_map (λ (f : PlacedTree). functions_of f.form) fs

abbrev pub exports_of : FormTree → List FunctionName
exports_of (export refs) = map name_of refs
exports_of _ = []

abbrev pub exports_in : List PlacedTree → List FunctionName
exports_in fs = flat_map (λ (f : PlacedTree). exports_of f.form) fs

abbrev pub key_of : FunctionTree → FunctionName
key_of f = record { name = f.name; arity = f.arity }

abbrev pub defined_in : List PlacedTree → List FunctionName
defined_in fs = map key_of (functions_in fs)

-- `module_info/0` and `module_info/1`, which each module has
abbrev pub IsModuleInfo : Texts → FunctionName → Type 0
IsModuleInfo all f = (text all f.name ≡ codes "module_info") × (f.arity ≤ 1)

-- the element stands in the list
abbrev pub IsAmong : {A : Type 0} → A → List A → Type 0
IsAmong x [] = ⊥
IsAmong x (y ∷ ys) = (y ≡ x) ⊎ IsAmong x ys

-- nothing stands twice
abbrev pub IsDistinct : {A : Type 0} → List A → Type 0
IsDistinct [] = Unit {0}
IsDistinct (x ∷ xs) = (IsAmong x xs → ⊥) × IsDistinct xs

abbrev pub IsDefined : Texts → List FunctionName → FunctionName → Type 0
IsDefined all defined f = IsAmong f defined ⊎ IsModuleInfo all f

abbrev pub Each : {A : Type 0} → (A → Type 0) → List A → Type 0
Each P [] = Unit {0}
Each P (x ∷ xs) = P x × Each P xs

-- ---- calls of functions of the module by atoms, and remote calls of two atoms, but none of `erlang`

abbrev pub IsCallOf : Texts → List FunctionName → Tree → ℕ → Type 0
IsCallOf all defined (tree p (atom n)) arity = IsDefined all defined (record { name = n; arity = arity })
IsCallOf all defined _ arity = ⊥

abbrev pub IsForeignModule : Texts → Tree → Type 0
IsForeignModule all (tree p (atom n)) = text all n ≢ codes "erlang"
IsForeignModule all _ = ⊥

abbrev pub IsAtom : Tree → Type 0
IsAtom (tree p (atom n)) = Unit {0}
IsAtom _ = ⊥

-- ---- patterns of variables, integers, atoms, lists and tuples

abbrev mutual
  pub IsPattern : Tree → Type 0
  IsPattern (tree p e) = IsPatternShape e

  pub IsPatternShape : Shape → Type 0
  IsPatternShape (int i) = Unit {0}
  IsPatternShape (atom n) = Unit {0}
  IsPatternShape (var n) = Unit {0}
  IsPatternShape any = Unit {0}
  IsPatternShape (list es) = ArePatterns es
  IsPatternShape (list_to es e) = ArePatterns es × IsPattern e
  IsPatternShape (tuple es) = ArePatterns es
  IsPatternShape _ = ⊥

  pub ArePatterns : Trees → Type 0
  ArePatterns end = Unit {0}
  ArePatterns (more e es) = IsPattern e × ArePatterns es

-- ---- expressions and clauses

-- there is a clause
abbrev pub AreSome : Clauses → Type 0
AreSome no_clauses = ⊥
AreSome (clause p ps g body cs) = Unit {0}

module _ (all : Texts) (defined : List FunctionName) where
  abbrev mutual
    pub IsBuiltTree : Tree → Type 0
    IsBuiltTree (tree p e) = IsBuiltShape e

    pub IsBuiltShape : Shape → Type 0
    IsBuiltShape (int i) = Unit {0}
    IsBuiltShape (atom n) = Unit {0}
    IsBuiltShape (var n) = Unit {0}
    IsBuiltShape any = Unit {0}
    IsBuiltShape (list es) = AreBuilt es
    IsBuiltShape (list_to es e) = AreBuilt es × IsBuiltTree e
    IsBuiltShape (tuple es) = AreBuilt es
    IsBuiltShape (matching p e) = IsPattern p × IsBuiltTree e
    IsBuiltShape (call f es) = IsCallOf all defined f (count es) × AreBuilt es
    IsBuiltShape (remote m f es) = IsForeignModule all m × IsAtom f × AreBuilt es
    IsBuiltShape (case_of e cs) = IsBuiltTree e × AreSome cs × AreBuiltClauses 1 cs
    IsBuiltShape _ = ⊥

    pub AreBuilt : Trees → Type 0
    AreBuilt end = Unit {0}
    AreBuilt (more e es) = IsBuiltTree e × AreBuilt es

    -- clauses without guards, each with so many patterns and a body that isn't empty
    pub AreBuiltClauses : ℕ → Clauses → Type 0
    AreBuiltClauses arity no_clauses = Unit {0}
    AreBuiltClauses arity (clause p ps no_guard body cs) =
        (count ps ≡ arity) × ArePatterns ps × (1 ≤ count body) × AreBuilt body × AreBuiltClauses arity cs
    AreBuiltClauses arity (clause p ps (or_guard es gs) body cs) = ⊥

abbrev pub IsBuiltFunction : Texts → List FunctionName → FunctionTree → Type 0
IsBuiltFunction all defined f = (IsModuleInfo all (key_of f) → ⊥) × AreBuiltClauses all defined f.arity f.clauses

-- the attributes that a module may have are `module`, `export` and those that are dropped
abbrev pub IsBuiltForm : FormTree → Type 0
IsBuiltForm (module_name n) = Unit {0}
IsBuiltForm (export refs) = Unit {0}
IsBuiltForm dropped = Unit {0}
IsBuiltForm (function g) = Unit {0}
IsBuiltForm _ = ⊥

abbrev pub AreBuiltForms : List PlacedTree → Type 0
AreBuiltForms [] = Unit {0}
AreBuiltForms (f ∷ fs) = IsBuiltForm f.form × AreBuiltForms fs

-- how many of the forms are export attributes
abbrev pub export_count_of : FormTree → ℕ
export_count_of (export refs) = 1
export_count_of _ = 0

abbrev pub export_count_in : List PlacedTree → ℕ
export_count_in [] = 0
export_count_in (f ∷ fs) = export_count_of f.form + export_count_in fs

-- a module that is built: it has one export attribute, what it exports and calls is defined, and nothing is defined or
-- exported twice
pub record IsBuilt (all : Texts) (m : ModuleTree) : Type 0 where
  pub forms : AreBuiltForms m.forms
  pub one_export : export_count_in m.forms ≡ 1
  pub functions : IsDistinct (defined_in m.forms)
  pub exports : IsDistinct (exports_in m.forms)
  pub exported : Each (IsDefined all (defined_in m.forms)) (exports_in m.forms)
  pub bodies : Each (IsBuiltFunction all (defined_in m.forms)) (functions_in m.forms)

-- ---- limits, as far as trees are built

-- the most parameters, arguments, or the greatest arity of a function that is mentioned
abbrev pub most_arguments : ℕ
most_arguments = 255

abbrev pub most_functions : ℕ
most_functions = 65536

abbrev mutual
  pub IsNarrow : Tree → Type 0
  IsNarrow (tree p e) = IsNarrowShape e

  pub IsNarrowShape : Shape → Type 0
  IsNarrowShape (int i) = Unit {0}
  IsNarrowShape (atom n) = Unit {0}
  IsNarrowShape (var n) = Unit {0}
  IsNarrowShape any = Unit {0}
  IsNarrowShape (list es) = AreNarrow es
  IsNarrowShape (list_to es e) = AreNarrow es × IsNarrow e
  IsNarrowShape (tuple es) = AreNarrow es
  IsNarrowShape (matching p e) = IsNarrow p × IsNarrow e
  IsNarrowShape (call f es) = (count es ≤ most_arguments) × IsNarrow f × AreNarrow es
  IsNarrowShape (remote m f es) = (count es ≤ most_arguments) × IsNarrow m × IsNarrow f × AreNarrow es
  IsNarrowShape (case_of e cs) = IsNarrow e × AreNarrowClauses cs
  IsNarrowShape _ = Unit {0}

  pub AreNarrow : Trees → Type 0
  AreNarrow end = Unit {0}
  AreNarrow (more e es) = IsNarrow e × AreNarrow es

  pub AreNarrowGuards : Guards → Type 0
  AreNarrowGuards no_guard = Unit {0}
  AreNarrowGuards (or_guard es gs) = AreNarrow es × AreNarrowGuards gs

  pub AreNarrowClauses : Clauses → Type 0
  AreNarrowClauses no_clauses = Unit {0}
  AreNarrowClauses (clause p ps g body cs) =
      (count ps ≤ most_arguments) × AreNarrow ps × AreNarrowGuards g × AreNarrow body × AreNarrowClauses cs
