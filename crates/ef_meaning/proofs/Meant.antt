-- A built module whose names are bound is never without meaning.
use Rattle.std.proofs.Common.{◌≡◌, ◌≢◌, ℕ, zero, suc, ◌≤◌, ◌&&◌, ◌==◌, ⊎_elim, Bool, true, false, if◌then◌else◌, codes, bytes_eq, List, [], ◌∷◌, ◌++◌, length, map, Option, Some, refl, sym, ap, ◌∙◌, subst, arith}
use Rattle.std.proofs.lemmas.Bool.Decides.{nat_tests}
use Rattle.std.proofs.lemmas.Slice.Eq.{bytes_eq-Decides}
use Rattle.std.specs.List.{flat_map}
use Rattle.ef_base.specs.declared.name.Name.{Name}
use Rattle.ef_base.specs.declared.fault.Fault.{Fault}
use Rattle.ef_base.specs.declared.fault.Place.{Place}
use Rattle.ef_base.specs.Texts.{Texts, text}
use Rattle.ef_forms.specs.declared.tables.FunctionName.{FunctionName}
use Rattle.ef_forms.specs.Tree.{Tree, Shape, Trees, Clauses, FunctionTree, ModuleTree, tree, int, atom, var, any, list, list_to, tuple, matching, call, remote, case_of, end, more, no_guard, or_guard, no_clauses, clause, count}
use Rattle.ef_forms.specs.Built.{Each, IsAmong, IsDefined, IsCallOf, IsForeignModule, IsAtom, IsBuiltTree, IsBuiltShape, AreBuilt, AreBuiltClauses, IsBuiltFunction, IsBuilt, key_of, functions_in, defined_in, exports_in}
use Rattle.ef_forms.specs.Ways.{NameSet, no_names, union, all_names, ways, bind, on_all, on_some, unbound, unsafe, use_faults, patterns_faults, faults, shape_faults, all_faults, body_faults, clauses_faults}
use Rattle.ef_forms.specs.Sure.{sure}
use Rattle.ef_forms.proofs.Bools.{or_more}
use Rattle.ef_forms.proofs.Growth.{all_flat, grows_bind}
use Rattle.ef_forms.proofs.Grows.{grows_ways}
use Rattle.ef_meaning.specs.Lookup.{FunctionKey, find}
use Rattle.ef_meaning.specs.End.{Wrong}
use Rattle.ef_meaning.specs.Source.{Function, Module, levels, defined, module_info, module_of}
use Rattle.ef_meaning.specs.Bound.{IsBoundFunction, IsBoundModule}
use Rattle.ef_meaning.specs.Runs.{Run, IsRun, Lists, Exports, source_run, start}
use Rattle.ef_meaning.proofs.Fine.{IsFound, IsSafe, IsSafeShape, IsSafeTarget, AreSafe, AreSafeInTurn, AreSafeClauses, IsSafeBody, IsSafeModule, levels_fine, local_fine, fine_meant}

same_number : (n : ℕ) → (n == n) ≡ true
same_number n = grind (arith, nat_tests)

same_text : (t : List ℕ) → bytes_eq t t ≡ true
same_text t = (bytes_eq-Decides t t).1 refl

-- ---- names that are bound on all ways

-- what is bound on all of these ways is in the set
abbrev Within : List NameSet → NameSet → Type 0
Within sets t = (n : Name) → on_all n sets ≡ true → t n.index ≡ true

both_empty : (xs ys : List Fault) → xs ++ ys ≡ [] → (xs ≡ []) × (ys ≡ [])
both_empty [] ys p = (refl, p)
both_empty (x ∷ xs) ys p = absurd cc

-- the names of a pattern, too
within_bind : (t : NameSet) (sets : List NameSet) (σ : NameSet) → Within sets σ → Within (flat_map (bind t) sets) (union σ t)
within_bind t sets σ within n p = or_more (σ n.index) (on_all n sets) (t n.index) (within n) (sym (all_flat (bind t) t n (λ s. (grows_bind t).all n s) sets) ∙ p)

-- behind an expression its sure names, too
within_ways : (e : Tree) (sets : List NameSet) (σ : NameSet) → Within sets σ → Within (flat_map (ways e) sets) (union σ (sure e))
within_ways e sets σ within n p = or_more (σ n.index) (on_all n sets) (sure e n.index) (within n) (sym (all_flat (ways e) (sure e) n (λ s. (grows_ways e).all n s) sets) ∙ p)

-- ---- functions that are found

-- a test that holds at the first
found_first : (t : Bool) (g : Function) (o : Option Function) → t ≡ true → (h : Function) × ((if t then Some g else o) ≡ Some h)
found_first true g o p = (g, refl)
found_first false g o p = absurd cc

found_behind : (t : Bool) (g : Function) (o : Option Function) → (h : Function) × (o ≡ Some h) → (h : Function) × ((if t then Some g else o) ≡ Some h)
found_behind true g o p = (g, refl)
found_behind false g o p = p

module _ (all : Texts) where
  behind_all : (fs : List FunctionTree) (f : List ℕ) (a : ℕ) (rest : List (FunctionKey × Function)) → (g : Function) × (find f a rest ≡ Some g) → (g : Function) × (find f a (map (defined all) fs ++ rest) ≡ Some g)
  behind_all [] f a rest p = p
  behind_all (h ∷ fs) f a rest p = found_behind (bytes_eq (text all h.name) f && h.arity == a) (defined all h).1 _ (behind_all fs f a rest p)

  found_among : (fs : List FunctionTree) (k : FunctionName) (rest : List (FunctionKey × Function)) → IsAmong k (map key_of fs) → (g : Function) × (find (text all k.name) k.arity (map (defined all) fs ++ rest) ≡ Some g)
  found_among [] k rest p = absurd p
  found_among (f ∷ fs) k rest p = ⊎_elim
      (λ e. found_first (bytes_eq (text all f.name) (text all k.name) && f.arity == k.arity) (defined all f).1 _
      (ap (λ (z : FunctionName). bytes_eq (text all z.name) (text all k.name) && z.arity == k.arity) e ∙ rw (same_text (text all k.name), same_number k.arity) refl))
      (λ q. found_behind (bytes_eq (text all f.name) (text all k.name) && f.arity == k.arity) (defined all f).1 _ (found_among fs k rest q)) p

  found_info : (f : List ℕ) (a : ℕ) → f ≡ codes "module_info" → a ≤ 1 → (g : Function) × (find f a (module_info 0 ∷ module_info 1 ∷ []) ≡ Some g)
  found_info f a is le = subst (λ t. (g : Function) × (find t a (module_info 0 ∷ module_info 1 ∷ []) ≡ Some g)) (sym is) (by a le)
    where
      by : (a : ℕ) → a ≤ 1 → (g : Function) × (find (codes "module_info") a (module_info 0 ∷ module_info 1 ∷ []) ≡ Some g)
      by zero le = ((module_info 0).1, refl)
      by (suc zero) le = ((module_info 1).1, refl)
      by (suc (suc n)) le = absurd (omega arith)

  module _ (m : ModuleTree) where
    abbrev world : Module
    world = module_of all m

    pub found_defined : (k : FunctionName) → IsDefined all (defined_in m.forms) k → IsFound world (text all k.name) k.arity
    found_defined k p = ⊎_elim (λ q. found_among (functions_in m.forms) k _ q) (λ q. behind_all (functions_in m.forms) (text all k.name) k.arity _ (found_info (text all k.name) k.arity q.0 q.1)) p

    -- ---- names on the way

    safe_target : (f : Tree) (a : ℕ) → IsCallOf all (defined_in m.forms) f a → IsSafeTarget world f a
    safe_target (tree p (atom n)) a built = found_defined (record { name = n; arity = a }) built
    safe_target (tree p _) a built = absurd built

    foreign_atom : (e : Tree) → IsForeignModule all e → IsAtom e
    foreign_atom (tree p (atom n)) q = tt
    foreign_atom (tree p _) q = absurd q

    safe_atom : (s : NameSet) (e : Tree) → IsAtom e → IsSafe world s e
    safe_atom s (tree p (atom n)) q = tt
    safe_atom s (tree p _) q = absurd q

    safe_use : (sets : List NameSet) (t : NameSet) → Within sets t → (p : Place) (n : Name) → use_faults all p n sets ≡ [] → t n.index ≡ true
    safe_use sets t within p n none = by (on_all n sets) refl (on_some n sets) none
      where
        by : (b : Bool) → on_all n sets ≡ b → (c : Bool) → (if b then [] else (if c then (unsafe all p n ∷ []) else (unbound all p n ∷ []))) ≡ [] → t n.index ≡ true
        by true e c q = within n e
        by false e true q = absurd cc
        by false e false q = absurd cc

    mutual
      safe_tree : (e : Tree) (s : List NameSet) (t : NameSet) → Within s t → IsBuiltTree all (defined_in m.forms) e → faults all e s ≡ [] → IsSafe world t e
      safe_tree (tree p e) s t within built none = safe_shape e p s t within built none

      safe_shape : (e : Shape) (p : Place) (s : List NameSet) (t : NameSet) → Within s t → IsBuiltShape all (defined_in m.forms) e → shape_faults all p e s ≡ [] → IsSafeShape world t e
      safe_shape (int i) p s t within built none = tt
      safe_shape (atom n) p s t within built none = tt
      safe_shape (var n) p s t within built none = safe_use s t within p n none
      safe_shape any p s t within built none = absurd cc
      safe_shape (list es) p s t within built none = safe_trees es s t within built none
      safe_shape (list_to es e) p s t within built none =
          let parts = both_empty (all_faults all es s) (faults all e s) none in
          (safe_trees es s t within built.0 parts.0, safe_tree e s t within built.1 parts.1)
      safe_shape (tuple es) p s t within built none = safe_trees es s t within built none
      safe_shape (matching q e) p s t within built none = safe_tree e s t within built.1 (both_empty (faults all e s) _ none).0
      safe_shape (call f es) p s t within built none =
          (safe_target f (count es) built.0, safe_trees es s t within built.1 (both_empty (faults all f s) (all_faults all es s) none).1)
      safe_shape (remote g f es) p s t within built none =
          let parts = both_empty (faults all g s) (faults all f s ++ all_faults all es s) none in
          (safe_atom t g (foreign_atom g built.0), safe_atom t f built.1, safe_trees es s t within built.2 (both_empty (faults all f s) (all_faults all es s) parts.1).1)
      safe_shape (case_of e cs) p s t within built none =
          let parts = both_empty (faults all e s) (clauses_faults all cs (flat_map (ways e) s)) none in
          (safe_tree e s t within built.0 parts.0, safe_clauses cs 1 (flat_map (ways e) s) (union t (sure e)) (within_ways e s t within) built.2 parts.1)
      safe_shape _ p s t within built none = absurd built

      safe_trees : (es : Trees) (s : List NameSet) (t : NameSet) → Within s t → AreBuilt all (defined_in m.forms) es → all_faults all es s ≡ [] → AreSafe world t es
      safe_trees end s t within built none = tt
      safe_trees (more e es) s t within built none =
          let parts = both_empty (faults all e s) (all_faults all es s) none in
          (safe_tree e s t within built.0 parts.0, safe_trees es s t within built.1 parts.1)

      safe_in_turn : (es : Trees) (s : List NameSet) (t : NameSet) → Within s t → AreBuilt all (defined_in m.forms) es → body_faults all es s ≡ [] → AreSafeInTurn world t es
      safe_in_turn end s t within built none = tt
      safe_in_turn (more e es) s t within built none =
          let parts = both_empty (faults all e s) (body_faults all es (flat_map (ways e) s)) none in
          (safe_tree e s t within built.0 parts.0, safe_in_turn es (flat_map (ways e) s) (union t (sure e)) (within_ways e s t within) built.1 parts.1)

      safe_clauses : (cs : Clauses) (arity : ℕ) (s : List NameSet) (t : NameSet) → Within s t → AreBuiltClauses all (defined_in m.forms) arity cs → clauses_faults all cs s ≡ [] → AreSafeClauses world arity t cs
      safe_clauses no_clauses arity s t within built none = tt
      safe_clauses (clause p ps (or_guard es gs) body cs) arity s t within built none = absurd built
      safe_clauses (clause p ps no_guard body cs) arity s t within built none =
          let inside = flat_map (bind (all_names ps)) s in
          let parts = both_empty (patterns_faults all ps s) (body_faults all body inside ++ clauses_faults all cs s) none in
          let rest = both_empty (body_faults all body inside) (clauses_faults all cs s) parts.1 in
          (refl, built.2, safe_in_turn body inside (union t (all_names ps)) (within_bind (all_names ps) s t within) built.3 rest.0, safe_clauses cs arity s t within built.4 rest.1, built.0)

    -- each function of these
    abbrev EachSafe : List (FunctionKey × Function) → Type 0
    EachSafe [] = Unit {0}
    EachSafe (g ∷ gs) = IsSafeBody world g.0.arity g.1.body × EachSafe gs

    each_safe : (fs : List FunctionTree) → Each (IsBuiltFunction all (defined_in m.forms)) fs → Each (IsBoundFunction all) fs → EachSafe (map (defined all) fs ++ (module_info 0 ∷ module_info 1 ∷ []))
    each_safe [] built bound = (tt, (tt, tt))
    each_safe (f ∷ fs) built bound = ((no_names, (λ n e. absurd cc), safe_clauses f.clauses f.arity (no_names ∷ []) no_names (λ n e. absurd cc) built.0.1 bound.0), each_safe fs built.1 bound.1)

    safe_found : (gs : List (FunctionKey × Function)) → EachSafe gs → (f : List ℕ) (a : ℕ) (g : Function) → find f a gs ≡ Some g → IsSafeBody world a g.body
    safe_found [] safe f a g is = absurd cc
    safe_found (h ∷ gs) safe f a g is = by (bytes_eq h.0.name f) (h.0.arity == a) refl (λ e. safe_found gs safe.1 f a g e) is
      where
        by : (s t : Bool) → (h.0.arity == a) ≡ t → (find f a gs ≡ Some g → IsSafeBody world a g.body) → (if s && t then Some h.1 else find f a gs) ≡ Some g → IsSafeBody world a g.body
        by true true count k e =
            let same : h.1 ≡ g = cc in
            let arity : h.0.arity ≡ a = grind (arith, nat_tests) in
            subst (λ (x : Function). IsSafeBody world a x.body) same (subst (λ n. IsSafeBody world n h.1.body) arity safe.0)
        by true false count k e = k e
        by false t count k e = k e

    pub safe_module : IsBuilt all m → IsBoundModule all m → IsSafeModule world
    safe_module built bound = record { each = safe_found _ (each_safe (functions_in m.forms) built.bodies bound) }

    -- ---- runs

    found_listed : (gs : List FunctionName) (f : List ℕ) (a : ℕ) → Each (IsDefined all (defined_in m.forms)) gs → Lists all gs f a → IsFound world f a
    found_listed [] f a each p = absurd p
    found_listed (g ∷ gs) f a each p = ⊎_elim (λ q. subst (λ t. IsFound world t a) q.0 (subst (λ k. IsFound world (text all g.name) k) q.1 (found_defined g each.0))) (λ q. found_listed gs f a each.1 q) p

    pub found_exported : IsBuilt all m → (f : List ℕ) (a : ℕ) → Exports all m f a → IsFound world f a
    found_exported built f a p = ⊎_elim (λ q. found_listed (exports_in m.forms) f a built.exported q) (λ q. behind_all (functions_in m.forms) f a _ (found_info f a q.0 q.1)) p

    pub runs_meant : IsBuilt all m → IsBoundModule all m → (r : Run) → IsRun all m r → (n : ℕ) → source_run all m r n ≢ Wrong
    runs_meant built bound r run n =
        let safe = safe_module built bound in
        let g = found_exported built r.name (length r.arguments) run.exported in
        fine_meant world (source_run all m r n) (local_fine world safe (levels world n) (levels_fine world safe n) r.name (length r.arguments) g.0 g.1 r.arguments (start r []) tt)
