-- Functions that are read without a fault and built have no more parameters or arguments than there may be.
use Rattle.std.proofs.Common.{◌≡◌, ◌≤◌, ℕ, List, [], ◌++◌, refl, sym, ap, ◌∙◌, subst, arith}
use Rattle.std.specs.Prelude.{nat_lt, Some}
use Rattle.std.specs.List.{flat_map}
use Rattle.std.proofs.lemmas.Grind.{flat_map-append}
use Rattle.ef_base.specs.declared.fault.Fault.{Fault}
use Rattle.ef_base.specs.declared.fault.Place.{Place}
use Rattle.ef_base.specs.FaultTable as table
use Rattle.ef_base.specs.NamedFaults.{plain}
use Rattle.ef_base.specs.Texts.{Texts}
use Rattle.ef_token.specs.declared.token.Token.{Token}
use Rattle.ef_forms.specs.declared.role.Role.{Role}
use Rattle.ef_forms.specs.declared.role.Role.TheVariants.{Body, Pattern}
use Rattle.ef_forms.specs.declared.tables.FunctionName.{FunctionName}
use Rattle.ef_forms.specs.Built.{Each, IsPattern, ArePatterns, IsCallOf, IsForeignModule, IsAtom, IsBuiltTree, AreBuilt, AreBuiltClauses, IsBuiltFunction, IsNarrow, AreNarrow, AreNarrowClauses, most_arguments, functions_in, functions_of}
use Rattle.ef_forms.specs.Nodes.{SeenTree, seen, next, nodes, parts, all_nodes, clause_nodes}
use Rattle.ef_forms.specs.Roles.{inside, of_target}
use Rattle.ef_forms.specs.Tree.{Tree, Shape, Trees, Clauses, FunctionTree, FormTree, PlacedTree, tree, int, atom, var, any, list, list_to, tuple, matching, call, remote, case_of, end, more, no_guard, or_guard, no_clauses, clause, count, module_name, export, import, record_of, attribute, dropped, export_all, function}
use Rattle.ef_forms.specs.Views.{heads, arguments, segments_of}
use Rattle.ef_parse.specs.Spelled.{start_of}
use Rattle.ef_module.specs.Forms.{ReadsForm}
use Rattle.ef_module.specs.Modules.{ReadsForms, no_forms, read, faulty}
use Rattle.ef_profile.specs.Unbuilt.{node_faults, head_faults, tree_faults, too_many, float_faults, map_faults, segment_faults, size_faults, argument_faults, call_faults}
use Rattle.ef_lowmod.specs.Function.{IsNarrowFunction}
use Rattle.ef_front.proofs.Small.{at_most, each_joined, each_parted, none_first, not_one}
use Rattle.ef_front.proofs.Whole.{kept_functions}

split_none : {A : Type 0} (f : A → List Fault) (xs ys : List A) → flat_map f (xs ++ ys) ≡ [] → (flat_map f xs ≡ []) × (flat_map f ys ≡ [])
split_none f xs ys none = none_first (flat_map f xs) (flat_map f ys) (sym (flat_map-append f xs ys) ∙ none)

few : (p : Place) (n : ℕ) → too_many p n ≡ [] → n ≤ most_arguments
few p n none = at_most most_arguments n (not_one (nat_lt most_arguments n) (plain p table.too_many_arguments) none)

-- the numbers of parameters
abbrev HasFew : Clauses → Type 0
HasFew no_clauses = Unit {0}
HasFew (clause p ps g body cs) = (count ps ≤ most_arguments) × HasFew cs

few_heads : (cs : Clauses) → flat_map head_faults (heads cs) ≡ [] → HasFew cs
few_heads no_clauses none = tt
few_heads (clause p ps g body cs) none =
    let parts = none_first (too_many p (count ps)) (flat_map head_faults (heads cs)) none in
    (few p (count ps) parts.0, few_heads cs parts.1)

module _ (all : Texts) where
  abbrev IsClean : List SeenTree → Type 0
  IsClean ss = flat_map (node_faults all) ss ≡ []

  -- the arguments of a node without a fault
  own_clean : (s : SeenTree) → node_faults all s ≡ [] → argument_faults s.tree ≡ []
  own_clean s none =
      let one = none_first (float_faults all s.tree) _ none in
      let two = none_first (map_faults all s.tree) _ one.1 in
      let three = none_first (flat_map (segment_faults all) (segments_of s.tree)) _ two.1 in
      let four = none_first (size_faults s.role s.tree) (argument_faults s.tree) three.1 in
      four.1

  -- ---- patterns

  mutual
    pattern : (e : Tree) → IsPattern e → IsNarrow e
    pattern (tree p (int i)) h = tt
    pattern (tree p (atom n)) h = tt
    pattern (tree p (var n)) h = tt
    pattern (tree p any) h = tt
    pattern (tree p (list es)) h = patterns es h
    pattern (tree p (list_to es e)) h = (patterns es h.0, pattern e h.1)
    pattern (tree p (tuple es)) h = patterns es h
    pattern (tree p e) h = absurd h

    patterns : (es : Trees) → ArePatterns es → AreNarrow es
    patterns end h = tt
    patterns (more e es) h = (pattern e h.0, patterns es h.1)

  module _ (defined : List FunctionName) where
    called : (f : Tree) (arity : ℕ) → IsCallOf all defined f arity → IsNarrow f
    called (tree p (atom n)) arity h = tt
    called (tree p e) arity h = absurd h

    foreign : (m : Tree) → IsForeignModule all m → IsNarrow m
    foreign (tree p (atom n)) h = tt
    foreign (tree p e) h = absurd h

    an_atom : (f : Tree) → IsAtom f → IsNarrow f
    an_atom (tree p (atom n)) h = tt
    an_atom (tree p e) h = absurd h

    few_one : (cs : Clauses) → AreBuiltClauses all defined 1 cs → HasFew cs
    few_one no_clauses h = tt
    few_one (clause p ps no_guard body cs) h = let one : count ps ≡ 1 = h.0 in (omega arith, few_one cs h.4)
    few_one (clause p ps (or_guard es gs) body cs) h = absurd h

    below : (r : Role) (l : ℕ) (p : Place) (e : Shape) → IsClean (nodes r l (tree p e)) → IsClean (parts (inside r) (next l) e)
    below r l p e none = (none_first (node_faults all (seen r l (tree p e))) (flat_map (node_faults all) (parts (inside r) (next l) e)) none).1

    arguments_few : (r : Role) (l : ℕ) (p : Place) (e : Shape) (n : ℕ) → IsClean (nodes r l (tree p e)) → arguments (tree p e) ≡ Some n → n ≤ most_arguments
    arguments_few r l p e n none is =
        let own = own_clean (seen r l (tree p e)) (none_first (node_faults all (seen r l (tree p e))) (flat_map (node_faults all) (parts (inside r) (next l) e)) none).0 in
        few p n (subst (λ o. call_faults p o ≡ []) is (none_first (call_faults p (arguments (tree p e))) _ own).0)

    mutual
      narrow : (r : Role) (l : ℕ) (e : Tree) → IsBuiltTree all defined e → IsClean (nodes r l e) → IsNarrow e
      narrow r l (tree p (int i)) h none = tt
      narrow r l (tree p (atom n)) h none = tt
      narrow r l (tree p (var n)) h none = tt
      narrow r l (tree p any) h none = tt
      narrow r l (tree p (list es)) h none = all_narrow (inside r) (next l) es h (below r l p (list es) none)
      narrow r l (tree p (list_to es e)) h none =
          let both = split_none (node_faults all) (all_nodes (inside r) (next l) es) (nodes (inside r) (next l) e) (below r l p (list_to es e) none) in
          (all_narrow (inside r) (next l) es h.0 both.0, narrow (inside r) (next l) e h.1 both.1)
      narrow r l (tree p (tuple es)) h none = all_narrow (inside r) (next l) es h (below r l p (tuple es) none)
      narrow r l (tree p (matching q e)) h none =
          let both = split_none (node_faults all) (nodes Pattern (next l) q) (nodes (inside r) (next l) e) (below r l p (matching q e) none) in
          (pattern q h.0, narrow (inside r) (next l) e h.1 both.1)
      narrow r l (tree p (call f es)) h none =
          let both = split_none (node_faults all) (nodes (of_target (inside r) f) (next l) f) (all_nodes (inside r) (next l) es) (below r l p (call f es) none) in
          (arguments_few r l p (call f es) (count es) none refl, called f (count es) h.0, all_narrow (inside r) (next l) es h.1 both.1)
      narrow r l (tree p (remote m f es)) h none =
          let first = split_none (node_faults all) (nodes (of_target (inside r) m) (next l) m) (nodes (of_target (inside r) f) (next l) f ++ all_nodes (inside r) (next l) es) (below r l p (remote m f es) none) in
          let both = split_none (node_faults all) (nodes (of_target (inside r) f) (next l) f) (all_nodes (inside r) (next l) es) first.1 in
          (arguments_few r l p (remote m f es) (count es) none refl, foreign m h.0, an_atom f h.1, all_narrow (inside r) (next l) es h.2 both.1)
      narrow r l (tree p (case_of e cs)) h none =
          let both = split_none (node_faults all) (nodes (inside r) (next l) e) (clause_nodes (next l) cs) (below r l p (case_of e cs) none) in
          (narrow (inside r) (next l) e h.0 both.0, clauses_narrow (next l) 1 cs (few_one cs h.2) h.2 both.1)
      narrow r l (tree p e) h none = absurd h

      all_narrow : (r : Role) (l : ℕ) (es : Trees) → AreBuilt all defined es → IsClean (all_nodes r l es) → AreNarrow es
      all_narrow r l end h none = tt
      all_narrow r l (more e es) h none =
          let both = split_none (node_faults all) (nodes r l e) (all_nodes r l es) none in
          (narrow r l e h.0 both.0, all_narrow r l es h.1 both.1)

      clauses_narrow : (l arity : ℕ) (cs : Clauses) → HasFew cs → AreBuiltClauses all defined arity cs → IsClean (clause_nodes l cs) → AreNarrowClauses cs
      clauses_narrow l arity no_clauses parameters h none = tt
      clauses_narrow l arity (clause p ps no_guard body cs) parameters h none =
          let first = split_none (node_faults all) (all_nodes Pattern l ps) (all_nodes Body l body ++ clause_nodes l cs) none in
          let both = split_none (node_faults all) (all_nodes Body l body) (clause_nodes l cs) first.1 in
          (parameters.0, patterns ps h.1, tt, all_narrow Body l body h.3 both.0, clauses_narrow l arity cs parameters.1 h.4 both.1)
      clauses_narrow l arity (clause p ps (or_guard es gs) body cs) parameters h none = absurd h

    -- ---- functions of forms

    function_narrow : (p : Place) (f : FunctionTree) → tree_faults all p (function f) ≡ [] → IsBuiltFunction all defined f → IsNarrowFunction f
    function_narrow p f none h =
        let both = none_first (flat_map head_faults (heads f.clauses)) (flat_map (node_faults all) (clause_nodes 1 f.clauses)) none in
        clauses_narrow 1 f.arity f.clauses (few_heads f.clauses both.0) h.1 both.1

    form_narrow : (p : Place) (f : FormTree) → tree_faults all p f ≡ [] → Each (IsBuiltFunction all defined) (functions_of f) → Each IsNarrowFunction (functions_of f)
    form_narrow p (module_name n) none h = tt
    form_narrow p (export rs) none h = tt
    form_narrow p (import m rs) none h = tt
    form_narrow p (record_of r) none h = tt
    form_narrow p (attribute n e) none h = tt
    form_narrow p dropped none h = tt
    form_narrow p export_all none h = tt
    form_narrow p (function f) none h = (function_narrow p f none h.0, tt)

    read_narrow : (f : FormTree) (ts : List Token) → ReadsForm all f ts → Each (IsBuiltFunction all defined) (functions_of f) → Each IsNarrowFunction (functions_of f)
    read_narrow f ts h built =
        let same : functions_of h.written ≡ functions_of f = sym (kept_functions all h.written) ∙ ap functions_of (sym h.is) in
        subst (Each IsNarrowFunction) same (form_narrow (start_of ts) h.written h.tree (subst (Each (IsBuiltFunction all defined)) (sym same) built))

    pub forms_narrow : (tss : List (List Token)) (fs : List PlacedTree) (faults : List Fault) → ReadsForms all tss fs faults → Each (IsBuiltFunction all defined) (functions_in fs) → Each IsNarrowFunction (functions_in fs)
    forms_narrow _ _ _ no_forms h = tt
    forms_narrow _ _ _ (read ts tss f fs faults r rs) h =
        let both = each_parted (IsBuiltFunction all defined) (functions_of f) (functions_in fs) h in
        each_joined IsNarrowFunction (functions_of f) (functions_in fs) (read_narrow f ts r both.0) (forms_narrow tss fs faults rs both.1)
    forms_narrow _ _ _ (faulty ts tss fs own faults r rs) h = forms_narrow tss fs faults rs h
