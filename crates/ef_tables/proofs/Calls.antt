-- Calls, exports and whole modules.
use Rattle.std.proofs.Common.{◌≡◌, ℕ, refl, List, [], ◌∷◌, ◌++◌, length, map, sym, ◌∙◌, subst, Bool, true, false, ◌≤◌, arith, Box, Vec}
use Rattle.std.specs.Prelude.{IsTrue, ◌↔◌, MatchOption, Option, Some}
use Rattle.std.specs.declared.alloc.Global.{Global}
use Rattle.ef_base.specs.declared.name.Name.{Name}
use Rattle.ef_base.specs.declared.fault.Place.{Place}
use Rattle.ef_base.specs.Texts.{Texts, Extends, HasName}
use Rattle.ef_forms.specs.declared.expr.Expr.{Expr}
use Rattle.ef_forms.specs.declared.expr.Clause.{Clause, out-Clause}
use Rattle.ef_forms.specs.declared.expr.Node.TheVariants as node
use Rattle.ef_forms.specs.declared.form.FunctionRef.{FunctionRef}
use Rattle.ef_forms.specs.declared.tables.FunctionName.{FunctionName}
use Rattle.ef_forms.specs.Tree.{Trees, FormTree, PlacedTree, ModuleTree, tree, atom, case_of, count, clause, no_clauses, export}
use Rattle.ef_forms.specs.OfTable.{FormOf, FormsOf, ReferencesOf, ModuleOf, TreeOf, ClausesOf}
use Rattle.ef_forms.specs.Built.{IsDefined, IsCallOf, IsDistinct, Each, AreBuiltForms, IsBuilt, IsBuiltFunction, IsBuiltTree, AreBuilt, AreBuiltClauses, AreSome, ArePatterns, defined_in, export_count_in, exports_in, exports_of, functions_in, name_of}
use Rattle.ef_forms.specs.Plain.{plain, plain_all, plain_clauses, plain_guard}
use Rattle.ef_forms.proofs.Plain.{laws, opened, clauses_are, counted}
use Rattle.ef_forms.proofs.Built.{built_later, built_before}
use Rattle.ef_tables.specs.declared.function_set.FunctionSet.{FunctionSet}
use Rattle.ef_tables.specs.Sets as sets

pub called : (texts : Texts) (defined : List FunctionName) (e : Expr) (n : Name) (es : List Expr) (b : Bool) → e.node ≡ node.Atom n
    → (IsTrue b ↔ IsDefined texts defined (sets.function n (length es))) → IsTrue b ↔ IsCallOf texts defined (plain e) (count (plain_all es))
called texts defined e n es b is same =
    let shape : plain e ≡ tree e.place (atom n) = grind (arith, laws, is) in
    subst (λ t. IsTrue b ↔ IsCallOf texts defined t (count (plain_all es))) (sym shape)
    (subst (λ k. IsTrue b ↔ IsDefined texts defined (sets.function n k)) (sym (counted es)) same)

reference_names : (texts : Texts) (rs : List FunctionRef) (rest : List FunctionName) → ReferencesOf texts rs → Each (λ (f : FunctionName). HasName texts f.name) rest → Each (λ (f : FunctionName). HasName texts f.name) (map name_of rs ++ rest)
reference_names texts [] rest of more = more
reference_names texts (r ∷ rs) rest of more = (of.0, reference_names texts rs rest of.1 more)

export_names : (texts : Texts) (fs : List PlacedTree) → FormsOf texts fs → Each (λ (f : FunctionName). HasName texts f.name) (exports_in fs)
export_names texts [] of = tt
export_names texts (f ∷ fs) of = by_form f.form of.0 (export_names texts fs of.1)
  where
    by_form : (g : FormTree) → FormOf texts g → Each (λ (f : FunctionName). HasName texts f.name) (exports_in fs) → Each (λ (f : FunctionName). HasName texts f.name) (exports_of g ++ exports_in fs)
    by_form (export rs) here more = reference_names texts rs (exports_in fs) here more
    by_form _ here more = more

pub exported_names : (texts : Texts) (m : ModuleTree) (exports : List FunctionName) → ModuleOf texts m → exports ≡ exports_in m.forms → Each (λ (f : FunctionName). HasName texts f.name) exports
exported_names texts m exports of is = subst (Each (λ (f : FunctionName). HasName texts f.name)) (sym is) (export_names texts m.forms of.1)

-- in each later table
abbrev pub Tells : Texts → ModuleTree → Bool → Type 0
Tells now m b = (all : Texts) → Extends now all → (IsTrue b ↔ IsBuilt all m)

pub says_no : (now : Texts) (m : ModuleTree) → ModuleOf now m → (IsBuilt now m → ⊥) → Tells now m false
says_no now m of not all later = (λ wrong. let bad : false ≡ true = wrong in cc, λ built. absurd (not (built_before now all m of later built)))

pub says : (now : Texts) (m : ModuleTree) (b : Bool) (functions exports : List FunctionName) → ModuleOf now m
    → functions ≡ defined_in m.forms → exports ≡ exports_in m.forms
    → IsDistinct functions → IsDistinct exports → Each (IsDefined now functions) exports → export_count_in m.forms ≡ 1
    → (IsTrue b ↔ (AreBuiltForms m.forms × Each (IsBuiltFunction now functions) (functions_in m.forms))) → Tells now m b
says now m b functions exports of f e distinct_f distinct_e defined one forms all later = (
  λ yes. built_later now all m of later (record {
    forms = (forms.0 yes).0;
    one_export = one;
    functions = subst IsDistinct f distinct_f;
    exports = subst IsDistinct e distinct_e;
    exported = subst (λ l. Each (IsDefined now l) (exports_in m.forms)) f (subst (Each (IsDefined now functions)) e defined);
    bodies = subst (λ l. Each (IsBuiltFunction now l) (functions_in m.forms)) f (forms.0 yes).1;
  }),
  λ built. let was = built_before now all m of later built in forms.1 (was.forms, subst (λ l. Each (IsBuiltFunction now l) (functions_in m.forms)) (sym f) was.bodies),
)

-- ---- clauses

guard_given : (texts : Texts) (defined : List FunctionName) (arity : ℕ) (p : Place) (ps body : Trees) (gs : List (Vec Expr Global)) → 1 ≤ length gs
    → AreBuiltClauses texts defined arity (clause p ps (plain_guard gs) body no_clauses) → ⊥
guard_given texts defined arity p ps body [] given built = omega arith
guard_given texts defined arity p ps body (g ∷ gs) given built = built

no_guard_given : (texts : Texts) (defined : List FunctionName) (arity : ℕ) (p : Place) (ps body : Trees) (gs : List (Vec Expr Global)) (b : Bool) → length gs ≡ 0
    → count ps ≡ arity → ArePatterns ps → 1 ≤ count body → (IsTrue b ↔ AreBuilt texts defined body) → IsTrue b ↔ AreBuiltClauses texts defined arity (clause p ps (plain_guard gs) body no_clauses)
no_guard_given texts defined arity p ps body [] b none counts patterns some same = (λ yes. (counts, patterns, some, same.0 yes, tt), λ built. same.1 built.3)
no_guard_given texts defined arity p ps body (g ∷ gs) b none counts patterns some same = absurd (omega arith)

built_parts : (texts : Texts) (defined : List FunctionName) (arity : ℕ) (p : Place) (ps body : Trees) (gs : List (Vec Expr Global))
    → AreBuiltClauses texts defined arity (clause p ps (plain_guard gs) body no_clauses) → (count ps ≡ arity) × (1 ≤ count body)
built_parts texts defined arity p ps body [] built = (built.0, built.2)
built_parts texts defined arity p ps body (g ∷ gs) built = absurd built

module _ (texts : Texts) (defined : List FunctionName) (arity : ℕ) (c : Clause) where
  abbrev pub Told : Bool → Type 0
  Told b = IsTrue b ↔ AreBuiltClauses texts defined arity (plain_clauses (c ∷ []))

  not_built : (AreBuiltClauses texts defined arity (plain_clauses (c ∷ [])) → ⊥) → Told false
  not_built refused = (λ wrong. let bad : false ≡ true = wrong in cc, λ built. absurd (refused built))

  pub guarded : 1 ≤ length (out-Clause c).guard.items → Told false
  guarded given = not_built (λ built. guard_given texts defined arity (out-Clause c).place (plain_all (out-Clause c).patterns.items) (plain_all (out-Clause c).body.items) (out-Clause c).guard.items given built)

  pub of_another_number : (length (out-Clause c).patterns.items ≡ arity → ⊥) → Told false
  of_another_number other = not_built (λ built. let is = built_parts texts defined arity (out-Clause c).place (plain_all (out-Clause c).patterns.items) (plain_all (out-Clause c).body.items) (out-Clause c).guard.items built in other (sym (counted (out-Clause c).patterns.items) ∙ is.0))

  pub unguarded : (patterns body : List Expr) (b : Bool) → length (out-Clause c).guard.items ≡ 0 → length (out-Clause c).patterns.items ≡ arity → 1 ≤ length (out-Clause c).body.items
      → patterns ≡ (out-Clause c).patterns.items → body ≡ (out-Clause c).body.items → ArePatterns (plain_all patterns) → (IsTrue b ↔ AreBuilt texts defined (plain_all body)) → Told b
  unguarded patterns body b none counts some read read' are same =
      no_guard_given texts defined arity (out-Clause c).place (plain_all (out-Clause c).patterns.items) (plain_all (out-Clause c).body.items) (out-Clause c).guard.items b none
      (counted (out-Clause c).patterns.items ∙ counts) (subst (λ l. ArePatterns (plain_all l)) read are) (omega (arith, counted (out-Clause c).body.items)) (subst (λ l. IsTrue b ↔ AreBuilt texts defined (plain_all l)) read' same)

-- ---- case

module _ (texts : Texts) (defined : List FunctionName) (e : Expr) (arg : Box Expr Global) (cs : Vec Clause Global) (clauses : List Clause) (is : e.node ≡ node.Case arg cs) (read : clauses ≡ cs.items) where
  case_is : plain e ≡ tree e.place (case_of (plain arg.value) (plain_clauses clauses))
  case_is = opened e ∙ rw (is, node.outs-Case arg cs, clauses_are cs.items, read) refl

  pub clauses_names : TreeOf texts (plain e) → ClausesOf texts (plain_clauses clauses)
  clauses_names names = (subst (TreeOf texts) case_is names).1

  some_clause : (l : List Clause) → 1 ≤ length l → AreSome (plain_clauses l)
  some_clause [] given = absurd (omega arith)
  some_clause (c ∷ l) given = tt

  pub case_told : (of : Expr) (b : Bool) → of ≡ arg.value → 1 ≤ length clauses → IsBuiltTree texts defined (plain of)
      → (IsTrue b ↔ AreBuiltClauses texts defined 1 (plain_clauses clauses)) → IsTrue b ↔ IsBuiltTree texts defined (plain e)
  case_told of b same given built told = subst (λ t. IsTrue b ↔ IsBuiltTree texts defined t) (sym case_is) (
    λ yes. (subst (λ a. IsBuiltTree texts defined (plain a)) same built, some_clause clauses given, told.0 yes),
    λ all. told.1 all.2,
  )

pub found_set : (functions : List FunctionName) (found : Option FunctionSet) (set : FunctionSet) → found ≡ Some set
    → MatchOption found (IsDistinct functions → ⊥) (λ s. IsDistinct functions × (s ≡ functions)) → IsDistinct functions × (set ≡ functions)
found_set functions found set is known = subst (λ o. MatchOption o (IsDistinct functions → ⊥) (λ s. IsDistinct functions × (s ≡ functions))) is known

pub undefined : (now : Texts) (m : ModuleTree) (functions exports : List FunctionName) (b : Bool) → functions ≡ defined_in m.forms → exports ≡ exports_in m.forms
    → (IsTrue b ↔ Each (IsDefined now functions) exports) → b ≡ false → IsBuilt now m → ⊥
undefined now m functions exports b f e same is built =
    let all : Each (IsDefined now functions) exports = subst (Each (IsDefined now functions)) (sym e) (subst (λ l. Each (IsDefined now l) (exports_in m.forms)) (sym f) built.exported) in
    let bad : false ≡ true = sym is ∙ same.1 all in
    cc
