-- Whether a module is built is the same in every later table.
use Rattle.std.proofs.Common.{◌≡◌, ℕ, List, [], ◌∷◌, refl, sym, ◌∙◌, inl, inr, ◌++◌, map}
use Rattle.ef_base.specs.declared.name.Name.{Name}
use Rattle.ef_base.specs.Texts.{Texts, Extends, HasName, IsNameOf, text}
use Rattle.ef_base.specs.Laws.{named_later}
use Rattle.ef_forms.specs.declared.form.FunctionRef.{FunctionRef}
use Rattle.ef_forms.specs.declared.tables.FunctionName.{FunctionName}
use Rattle.ef_forms.specs.Tree.{Tree, Trees, Clauses, FunctionTree, FormTree, PlacedTree, ModuleTree, tree, atom, list, list_to, tuple, matching, call, remote, case_of, end, more, no_guard, or_guard, no_clauses, clause, export, function, count}
use Rattle.ef_forms.specs.OfTable.{TreeOf, TreesOf, ClausesOf, FunctionOf, ReferencesOf, FormOf, FormsOf, ModuleOf}
use Rattle.ef_forms.specs.Built.{IsDefined, IsModuleInfo, IsCallOf, IsForeignModule, IsBuiltTree, AreBuilt, AreBuiltClauses, IsBuiltFunction, IsBuilt, Each, exports_in, exports_of, functions_in, functions_of, defined_in, name_of}

-- the text of a name of the table stays
pub text_later : (now all : Texts) (n : Name) → HasName now n → Extends now all → text all n ≡ text now n
text_later now all n within later =
    let at : IsNameOf now n (text now n) = record { within = within; is = refl } in
    (named_later now all n (text now n) at later).is

-- two tables in which the names of a third have the same texts
abbrev pub Agree : Texts → Texts → Texts → Type 0
Agree now a b = (n : Name) → HasName now n → text a n ≡ text b n

module _ (now a b : Texts) (agree : Agree now a b) where
  info_same : (f : FunctionName) → HasName now f.name → IsModuleInfo a f → IsModuleInfo b f
  info_same f within (is, few) = (sym (agree f.name within) ∙ is, few)

  defined_same : (defined : List FunctionName) (f : FunctionName) → HasName now f.name → IsDefined a defined f → IsDefined b defined f
  defined_same defined f within (inl among) = inl among
  defined_same defined f within (inr info) = inr (info_same f within info)

  call_same : (defined : List FunctionName) (f : Tree) (k : ℕ) → TreeOf now f → IsCallOf a defined f k → IsCallOf b defined f k
  call_same defined (tree p (atom n)) k of is = defined_same defined (record { name = n; arity = k }) of is
  call_same defined (tree p _) k of is = is

  foreign_same : (m : Tree) → TreeOf now m → IsForeignModule a m → IsForeignModule b m
  foreign_same (tree p (atom n)) of is = λ same. is (agree n of ∙ same)
  foreign_same (tree p _) of is = is

  mutual
    tree_same : (defined : List FunctionName) (e : Tree) → TreeOf now e → IsBuiltTree a defined e → IsBuiltTree b defined e
    tree_same defined (tree p (list es)) of is = trees_same defined es of is
    tree_same defined (tree p (list_to es e)) of is = (trees_same defined es of.0 is.0, tree_same defined e of.1 is.1)
    tree_same defined (tree p (tuple es)) of is = trees_same defined es of is
    tree_same defined (tree p (matching q e)) of is = (is.0, tree_same defined e of.1 is.1)
    tree_same defined (tree p (call f es)) of is = (call_same defined f (count es) of.0 is.0, trees_same defined es of.1 is.1)
    tree_same defined (tree p (remote m f es)) of is = (foreign_same m of.0 is.0, is.1, trees_same defined es of.2 is.2)
    tree_same defined (tree p (case_of e cs)) of is = (tree_same defined e of.0 is.0, is.1, clauses_same defined 1 cs of.1 is.2)
    tree_same defined (tree p _) of is = is

    trees_same : (defined : List FunctionName) (es : Trees) → TreesOf now es → AreBuilt a defined es → AreBuilt b defined es
    trees_same defined end of is = is
    trees_same defined (more e es) of is = (tree_same defined e of.0 is.0, trees_same defined es of.1 is.1)

    clauses_same : (defined : List FunctionName) (arity : ℕ) (cs : Clauses) → ClausesOf now cs → AreBuiltClauses a defined arity cs → AreBuiltClauses b defined arity cs
    clauses_same defined arity no_clauses of is = is
    clauses_same defined arity (clause p ps no_guard body cs) of is = (is.0, is.1, is.2, trees_same defined body of.2 is.3, clauses_same defined arity cs of.3 is.4)
    clauses_same defined arity (clause p ps (or_guard es gs) body cs) of is = is

  function_same : (defined : List FunctionName) (f : FunctionTree) → FunctionOf now f → IsBuiltFunction a defined f → IsBuiltFunction b defined f
  function_same defined f of is = (λ info. is.0 (sym_info info), clauses_same defined f.arity f.clauses of.1 is.1)
    where
      sym_info : IsModuleInfo b (record { name = f.name; arity = f.arity }) → IsModuleInfo a (record { name = f.name; arity = f.arity })
      sym_info info = (agree f.name of.0 ∙ info.0, info.1)

  exports_same : (defined : List FunctionName) (rs : List FunctionRef) (rest : List FunctionName) → ReferencesOf now rs
      → (Each (IsDefined a defined) rest → Each (IsDefined b defined) rest) → Each (IsDefined a defined) (map name_of rs ++ rest) → Each (IsDefined b defined) (map name_of rs ++ rest)
  exports_same defined [] rest of then is = then is
  exports_same defined (r ∷ rs) rest of then is = (defined_same defined (name_of r) of.0 is.0, exports_same defined rs rest of.1 then is.1)

  exported_same : (defined : List FunctionName) (fs : List PlacedTree) → FormsOf now fs → Each (IsDefined a defined) (exports_in fs) → Each (IsDefined b defined) (exports_in fs)
  exported_same defined [] of is = is
  exported_same defined (f ∷ fs) of is = by_form f.form of.0 (exported_same defined fs of.1) is
    where
      by_form : (g : FormTree) → FormOf now g → (Each (IsDefined a defined) (exports_in fs) → Each (IsDefined b defined) (exports_in fs)) → Each (IsDefined a defined) (exports_of g ++ exports_in fs) → Each (IsDefined b defined) (exports_of g ++ exports_in fs)
      by_form (export rs) here then is = exports_same defined rs (exports_in fs) here then is
      by_form _ here then is = then is

  bodies_same : (defined : List FunctionName) (fs : List PlacedTree) → FormsOf now fs → Each (IsBuiltFunction a defined) (functions_in fs) → Each (IsBuiltFunction b defined) (functions_in fs)
  bodies_same defined [] of is = is
  bodies_same defined (f ∷ fs) of is = by_form f.form of.0 (bodies_same defined fs of.1) is
    where
      by_form : (g : FormTree) → FormOf now g → (Each (IsBuiltFunction a defined) (functions_in fs) → Each (IsBuiltFunction b defined) (functions_in fs)) → Each (IsBuiltFunction a defined) (functions_of g ++ functions_in fs) → Each (IsBuiltFunction b defined) (functions_of g ++ functions_in fs)
      by_form (function g) here then is = (function_same defined g here is.0, then is.1)
      by_form _ here then is = then is

  module_same : (m : ModuleTree) → ModuleOf now m → IsBuilt a m → IsBuilt b m
  module_same m of is = record {
    forms = is.forms;
    one_export = is.one_export;
    functions = is.functions;
    exports = is.exports;
    exported = exported_same (defined_in m.forms) m.forms of.1 is.exported;
    bodies = bodies_same (defined_in m.forms) m.forms of.1 is.bodies;
  }

pub built_later : (now all : Texts) (m : ModuleTree) → ModuleOf now m → Extends now all → IsBuilt now m → IsBuilt all m
built_later now all m of later = module_same now now all (λ n within. sym (text_later now all n within later)) m of

pub built_before : (now all : Texts) (m : ModuleTree) → ModuleOf now m → Extends now all → IsBuilt all m → IsBuilt now m
built_before now all m of later = module_same now all now (λ n within. text_later now all n within later) m of
