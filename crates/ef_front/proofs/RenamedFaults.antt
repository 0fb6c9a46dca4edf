-- A module under other names of the same texts has the same faults.
use Rattle.std.proofs.Common.{◌≡◌, ◌==◌, ◌||◌, ◌&&◌, ℕ, Bool, true, false, List, [], ◌∷◌, ◌++◌, refl, sym, ap, ap₂, map}
use Rattle.std.specs.Prelude.{nat_lt}
use Rattle.std.specs.List.{flat_map}
use Rattle.std.proofs.lemmas.Bool.Decides.{Decides-eqb}
use Rattle.ef_base.specs.declared.fault.Place.{Place}
use Rattle.ef_base.specs.declared.name.Name.{Name}
use Rattle.ef_base.specs.FaultTable as table
use Rattle.ef_base.specs.NamedFaults as fault
use Rattle.ef_base.specs.Texts.{Texts, HasName}
use Rattle.ef_forms.specs.OfTable.{TreeOf, ShapeOf, TreesOf, GuardsOf, ClausesOf, FormOf, FormsOf}
use Rattle.ef_forms.specs.Tree.{Tree, Shape, Trees, Guards, Clauses, FunctionTree, FormTree, PlacedTree, tree, var, any, list, list_to, tuple, matching, call, remote, case_of, end, more, no_guard, or_guard, no_clauses, clause, function}
use Rattle.ef_forms.specs.Ways.{NameSet, Way, no_names, one_name, union, bind, or_else, before, beside, ways, shape_ways, side_by_side, body_ways, clauses_ways, names, shape_names, all_names, guards_names, clauses_names, on_some, on_all, use_faults, name_faults, pattern_faults, pattern_shape_faults, patterns_faults, pattern_guards_faults, pattern_clauses_faults, faults, shape_faults, all_faults, body_faults, guards_faults, clauses_faults}
use Rattle.ef_forms.proofs.Renamed.{renamed_tree, renamed_shape, renamed_all, renamed_guards, renamed_clauses, renamed_function, renamed_form, renamed_placed}
use Rattle.ef_front.proofs.RenamedSizes.{function_depth_stays, function_weight_stays}
use Rattle.ef_profile.specs.Adds.{where_}
use Rattle.ef_rows.proofs.Renamed.{Renames}
use Rattle.ef_front.specs.Source.{most_depth, most_weight, size_faults, form_faults, forms_faults}

same_test : (p q : Bool) → (p ≡ true → q ≡ true) → (q ≡ true → p ≡ true) → p ≡ q
same_test true q f g = sym (f refl)
same_test false true f g = g refl
same_test false false f g = refl

module _ (a b : Texts) (r : Name → Name) (renames : Renames a b r) where
  -- the sets agree on each name
  abbrev Alike : NameSet → NameSet → Type 0
  Alike s t = (n : Name) → s (r n).index ≡ t n.index

  abbrev AllAlike : List NameSet → List NameSet → Type 0
  AllAlike [] [] = Unit {0}
  AllAlike (s ∷ ss) (t ∷ ts) = Alike s t × AllAlike ss ts
  AllAlike _ _ = ⊥

  abbrev WaysAlike : Way → Way → Type 0
  WaysAlike f g = (s t : NameSet) → Alike s t → AllAlike (f s) (g t)

  -- ---- sets and ways

  alike_one : (m : Name) → Alike (one_name (r m)) (one_name m)
  alike_one m n = same_test ((r m).index == (r n).index) (m.index == n.index)
      (λ e. (Decides-eqb m.index n.index).1 (ap (λ (x : Name). x.index)
      (renames.injective m n (ap (λ (i : ℕ). let x : Name = record { index = i } in x) ((Decides-eqb (r m).index (r n).index).0 e)))))
      (λ e. (Decides-eqb (r m).index (r n).index).1
      (ap (λ (i : ℕ). let x : Name = record { index = i } in (r x).index) ((Decides-eqb m.index n.index).0 e)))

  alike_union : (s t u v : NameSet) → Alike s t → Alike u v → Alike (union s u) (union t v)
  alike_union s t u v h g = λ n. ap₂ (λ p q. p || q) (h n) (g n)

  alike_append : (ss ts us vs : List NameSet) → AllAlike ss ts → AllAlike us vs → AllAlike (ss ++ us) (ts ++ vs)
  alike_append [] [] us vs h g = g
  alike_append [] (t ∷ ts) us vs h g = absurd h
  alike_append (s ∷ ss) [] us vs h g = absurd h
  alike_append (s ∷ ss) (t ∷ ts) us vs h g = (h.0, alike_append ss ts us vs h.1 g)

  alike_flat : (f g : Way) (ss ts : List NameSet) → WaysAlike f g → AllAlike ss ts → AllAlike (flat_map f ss) (flat_map g ts)
  alike_flat f g [] [] w h = tt
  alike_flat f g [] (t ∷ ts) w h = absurd h
  alike_flat f g (s ∷ ss) [] w h = absurd h
  alike_flat f g (s ∷ ss) (t ∷ ts) w h = alike_append (f s) (g t) (flat_map f ss) (flat_map g ts) (w s t h.0) (alike_flat f g ss ts w h.1)

  alike_unions : (s t : NameSet) (us vs : List NameSet) → Alike s t → AllAlike us vs → AllAlike (map (union s) us) (map (union t) vs)
  alike_unions s t [] [] h g = tt
  alike_unions s t [] (v ∷ vs) h g = absurd g
  alike_unions s t (u ∷ us) [] h g = absurd g
  alike_unions s t (u ∷ us) (v ∷ vs) h g = (alike_union s t u v h g.0, alike_unions s t us vs h g.1)

  alike_beside : (f g h k : Way) → WaysAlike f g → WaysAlike h k → WaysAlike (beside f h) (beside g k)
  alike_beside f g h k one two = λ s t e.
      alike_flat (λ u. map (union u) (h s)) (λ u. map (union u) (k t)) (f s) (g t) (λ u v i. alike_unions u v (h s) (k t) i (two s t e)) (one s t e)

  alike_bind : (s t : NameSet) → Alike s t → WaysAlike (bind s) (bind t)
  alike_bind s t h = λ u v e. (alike_union u v s t e h, tt)

  alike_before : (f g h k : Way) → WaysAlike f g → WaysAlike h k → WaysAlike (before f h) (before g k)
  alike_before f g h k one two = λ s t e. alike_flat h k (f s) (g t) two (one s t e)

  alike_or_else : (f g h k : Way) → WaysAlike f g → WaysAlike h k → WaysAlike (or_else f h) (or_else g k)
  alike_or_else f g h k one two = λ s t e. alike_append (f s) (g t) (h s) (k t) (one s t e) (two s t e)

  mutual
    names_alike : (e : Tree) → Alike (names (renamed_tree r e)) (names e)
    names_alike (tree p e) = shape_names_alike e

    shape_names_alike : (e : Shape) → Alike (shape_names (renamed_shape r e)) (shape_names e)
    shape_names_alike (var m) = alike_one m
    shape_names_alike (list es) = all_names_alike es
    shape_names_alike (list_to es e) =
        alike_union (all_names (renamed_all r es)) (all_names es) (names (renamed_tree r e)) (names e) (all_names_alike es) (names_alike e)
    shape_names_alike (tuple es) = all_names_alike es
    shape_names_alike (matching p e) = alike_union (names (renamed_tree r p)) (names p) (names (renamed_tree r e)) (names e) (names_alike p) (names_alike e)
    shape_names_alike (call f es) =
        alike_union (names (renamed_tree r f)) (names f) (all_names (renamed_all r es)) (all_names es) (names_alike f) (all_names_alike es)
    shape_names_alike (remote m f es) =
        alike_union (names (renamed_tree r m)) (names m) (union (names (renamed_tree r f)) (all_names (renamed_all r es))) (union (names f) (all_names es)) (names_alike m)
        (alike_union (names (renamed_tree r f)) (names f) (all_names (renamed_all r es)) (all_names es) (names_alike f) (all_names_alike es))
    shape_names_alike (case_of e cs) =
        alike_union (names (renamed_tree r e)) (names e) (clauses_names (renamed_clauses r cs)) (clauses_names cs) (names_alike e) (clauses_names_alike cs)
    shape_names_alike _ = λ n. refl

    all_names_alike : (es : Trees) → Alike (all_names (renamed_all r es)) (all_names es)
    all_names_alike end = λ n. refl
    all_names_alike (more e es) =
        alike_union (names (renamed_tree r e)) (names e) (all_names (renamed_all r es)) (all_names es) (names_alike e) (all_names_alike es)

    guards_names_alike : (gs : Guards) → Alike (guards_names (renamed_guards r gs)) (guards_names gs)
    guards_names_alike no_guard = λ n. refl
    guards_names_alike (or_guard es gs) =
        alike_union (all_names (renamed_all r es)) (all_names es) (guards_names (renamed_guards r gs)) (guards_names gs) (all_names_alike es) (guards_names_alike gs)

    clauses_names_alike : (cs : Clauses) → Alike (clauses_names (renamed_clauses r cs)) (clauses_names cs)
    clauses_names_alike no_clauses = λ n. refl
    clauses_names_alike (clause p ps g body cs) =
        let behind_guard = alike_union (all_names (renamed_all r body)) (all_names body) (clauses_names (renamed_clauses r cs)) (clauses_names cs) (all_names_alike body) (clauses_names_alike cs) in
        alike_union (all_names (renamed_all r ps)) (all_names ps)
        (union (guards_names (renamed_guards r g)) (union (all_names (renamed_all r body)) (clauses_names (renamed_clauses r cs)))) (union (guards_names g) (union (all_names body) (clauses_names cs)))
        (all_names_alike ps)
        (alike_union (guards_names (renamed_guards r g)) (guards_names g) (union (all_names (renamed_all r body)) (clauses_names (renamed_clauses r cs))) (union (all_names body) (clauses_names cs))
        (guards_names_alike g) behind_guard)

  mutual
    ways_alike : (e : Tree) → WaysAlike (ways (renamed_tree r e)) (ways e)
    ways_alike (tree p e) = shape_ways_alike e

    shape_ways_alike : (e : Shape) → WaysAlike (shape_ways (renamed_shape r e)) (shape_ways e)
    shape_ways_alike (var m) = alike_bind (one_name (r m)) (one_name m) (alike_one m)
    shape_ways_alike (list es) = side_alike es
    shape_ways_alike (list_to es e) =
        alike_beside (side_by_side (renamed_all r es)) (side_by_side es) (ways (renamed_tree r e)) (ways e) (side_alike es) (ways_alike e)
    shape_ways_alike (tuple es) = side_alike es
    shape_ways_alike (matching p e) =
        alike_before (ways (renamed_tree r e)) (ways e) (bind (names (renamed_tree r p))) (bind (names p)) (ways_alike e)
        (alike_bind (names (renamed_tree r p)) (names p) (names_alike p))
    shape_ways_alike (call f es) =
        alike_beside (ways (renamed_tree r f)) (ways f) (side_by_side (renamed_all r es)) (side_by_side es) (ways_alike f) (side_alike es)
    shape_ways_alike (remote m f es) =
        alike_beside (ways (renamed_tree r m)) (ways m) (beside (ways (renamed_tree r f)) (side_by_side (renamed_all r es))) (beside (ways f) (side_by_side es)) (ways_alike m)
        (alike_beside (ways (renamed_tree r f)) (ways f) (side_by_side (renamed_all r es)) (side_by_side es) (ways_alike f) (side_alike es))
    shape_ways_alike (case_of e cs) =
        alike_before (ways (renamed_tree r e)) (ways e) (clauses_ways (renamed_clauses r cs)) (clauses_ways cs) (ways_alike e) (clauses_ways_alike cs)
    shape_ways_alike _ = λ s t h. (h, tt)

    side_alike : (es : Trees) → WaysAlike (side_by_side (renamed_all r es)) (side_by_side es)
    side_alike end = λ s t h. (h, tt)
    side_alike (more e es) =
        alike_beside (ways (renamed_tree r e)) (ways e) (side_by_side (renamed_all r es)) (side_by_side es) (ways_alike e) (side_alike es)

    body_ways_alike : (es : Trees) → WaysAlike (body_ways (renamed_all r es)) (body_ways es)
    body_ways_alike end = λ s t h. (h, tt)
    body_ways_alike (more e es) =
        alike_before (ways (renamed_tree r e)) (ways e) (body_ways (renamed_all r es)) (body_ways es) (ways_alike e) (body_ways_alike es)

    clauses_ways_alike : (cs : Clauses) → WaysAlike (clauses_ways (renamed_clauses r cs)) (clauses_ways cs)
    clauses_ways_alike no_clauses = λ s t h. (h, tt)
    clauses_ways_alike (clause p ps g body no_clauses) =
        alike_before (bind (all_names (renamed_all r ps))) (bind (all_names ps)) (body_ways (renamed_all r body)) (body_ways body)
        (alike_bind (all_names (renamed_all r ps)) (all_names ps) (all_names_alike ps)) (body_ways_alike body)
    clauses_ways_alike (clause p ps g body (clause q qs h d cs)) =
        alike_or_else (before (bind (all_names (renamed_all r ps))) (body_ways (renamed_all r body))) (before (bind (all_names ps)) (body_ways body))
        (clauses_ways (renamed_clauses r (clause q qs h d cs))) (clauses_ways (clause q qs h d cs))
        (alike_before (bind (all_names (renamed_all r ps))) (bind (all_names ps)) (body_ways (renamed_all r body)) (body_ways body)
        (alike_bind (all_names (renamed_all r ps)) (all_names ps) (all_names_alike ps)) (body_ways_alike body))
        (clauses_ways_alike (clause q qs h d cs))

  -- ---- faults

  on_some_alike : (n : Name) (ss ts : List NameSet) → AllAlike ss ts → on_some (r n) ss ≡ on_some n ts
  on_some_alike n [] [] h = refl
  on_some_alike n [] (t ∷ ts) h = absurd h
  on_some_alike n (s ∷ ss) [] h = absurd h
  on_some_alike n (s ∷ ss) (t ∷ ts) h = ap₂ (λ p q. p || q) (h.0 n) (on_some_alike n ss ts h.1)

  on_all_alike : (n : Name) (ss ts : List NameSet) → AllAlike ss ts → on_all (r n) ss ≡ on_all n ts
  on_all_alike n [] [] h = refl
  on_all_alike n [] (t ∷ ts) h = absurd h
  on_all_alike n (s ∷ ss) [] h = absurd h
  on_all_alike n (s ∷ ss) (t ∷ ts) h = ap₂ (λ p q. p && q) (h.0 n) (on_all_alike n ss ts h.1)

  use_alike : (p : Place) (n : Name) (ss ts : List NameSet) → HasName a (r n) → AllAlike ss ts → use_faults a p (r n) ss ≡ use_faults b p n ts
  use_alike p n ss ts k h = rw (on_all_alike n ss ts h, on_some_alike n ss ts h, renames.keeps n k) refl

  name_alike : (p : Place) (n : Name) (ss ts : List NameSet) → HasName a (r n) → AllAlike ss ts → name_faults a p (r n) ss ≡ name_faults b p n ts
  name_alike p n ss ts k h = rw (on_all_alike n ss ts h, on_some_alike n ss ts h, renames.keeps n k) refl

  -- two lists that are equal in both parts
  both : {A : Type 0} {xs ys us vs : List A} → xs ≡ ys → us ≡ vs → xs ++ us ≡ ys ++ vs
  both e f = ap₂ (λ x y. x ++ y) e f

  behind : (e : Tree) (ss ts : List NameSet) → AllAlike ss ts → AllAlike (flat_map (ways (renamed_tree r e)) ss) (flat_map (ways e) ts)
  behind e ss ts h = alike_flat (ways (renamed_tree r e)) (ways e) ss ts (ways_alike e) h

  mutual
    pattern_alike : (e : Tree) (ss ts : List NameSet) → TreeOf a (renamed_tree r e) → AllAlike ss ts → pattern_faults a (renamed_tree r e) ss ≡ pattern_faults b e ts
    pattern_alike (tree p e) ss ts k h = pattern_shape_alike p e ss ts k h

    pattern_shape_alike : (p : Place) (e : Shape) (ss ts : List NameSet) → ShapeOf a (renamed_shape r e) → AllAlike ss ts
        → pattern_shape_faults a p (renamed_shape r e) ss ≡ pattern_shape_faults b p e ts
    pattern_shape_alike p (var n) ss ts k h = name_alike p n ss ts k h
    pattern_shape_alike p (list es) ss ts k h = patterns_alike es ss ts k h
    pattern_shape_alike p (list_to es e) ss ts k h = both (patterns_alike es ss ts k.0 h) (pattern_alike e ss ts k.1 h)
    pattern_shape_alike p (tuple es) ss ts k h = patterns_alike es ss ts k h
    pattern_shape_alike p (matching q e) ss ts k h = both (pattern_alike q ss ts k.0 h) (pattern_alike e ss ts k.1 h)
    pattern_shape_alike p (call f es) ss ts k h = both (pattern_alike f ss ts k.0 h) (patterns_alike es ss ts k.1 h)
    pattern_shape_alike p (remote m f es) ss ts k h = both (pattern_alike m ss ts k.0 h) (both (pattern_alike f ss ts k.1 h) (patterns_alike es ss ts k.2 h))
    pattern_shape_alike p (case_of e cs) ss ts k h = both (pattern_alike e ss ts k.0 h) (pattern_clauses_alike cs ss ts k.1 h)
    pattern_shape_alike p _ ss ts k h = refl

    patterns_alike : (es : Trees) (ss ts : List NameSet) → TreesOf a (renamed_all r es) → AllAlike ss ts → patterns_faults a (renamed_all r es) ss ≡ patterns_faults b es ts
    patterns_alike end ss ts k h = refl
    patterns_alike (more e es) ss ts k h = both (pattern_alike e ss ts k.0 h) (patterns_alike es ss ts k.1 h)

    pattern_guards_alike : (gs : Guards) (ss ts : List NameSet) → GuardsOf a (renamed_guards r gs) → AllAlike ss ts
        → pattern_guards_faults a (renamed_guards r gs) ss ≡ pattern_guards_faults b gs ts
    pattern_guards_alike no_guard ss ts k h = refl
    pattern_guards_alike (or_guard es gs) ss ts k h = both (patterns_alike es ss ts k.0 h) (pattern_guards_alike gs ss ts k.1 h)

    pattern_clauses_alike : (cs : Clauses) (ss ts : List NameSet) → ClausesOf a (renamed_clauses r cs) → AllAlike ss ts
        → pattern_clauses_faults a (renamed_clauses r cs) ss ≡ pattern_clauses_faults b cs ts
    pattern_clauses_alike no_clauses ss ts k h = refl
    pattern_clauses_alike (clause p ps g body cs) ss ts k h =
        both (patterns_alike ps ss ts k.0 h) (both (pattern_guards_alike g ss ts k.1 h) (both (patterns_alike body ss ts k.2 h) (pattern_clauses_alike cs ss ts k.3 h)))

  mutual
    faults_alike : (e : Tree) (ss ts : List NameSet) → TreeOf a (renamed_tree r e) → AllAlike ss ts → faults a (renamed_tree r e) ss ≡ faults b e ts
    faults_alike (tree p e) ss ts k h = shape_faults_alike p e ss ts k h

    shape_faults_alike : (p : Place) (e : Shape) (ss ts : List NameSet) → ShapeOf a (renamed_shape r e) → AllAlike ss ts → shape_faults a p (renamed_shape r e) ss ≡ shape_faults b p e ts
    shape_faults_alike p (var n) ss ts k h = use_alike p n ss ts k h
    shape_faults_alike p any ss ts k h = refl
    shape_faults_alike p (list es) ss ts k h = all_faults_alike es ss ts k h
    shape_faults_alike p (list_to es e) ss ts k h = both (all_faults_alike es ss ts k.0 h) (faults_alike e ss ts k.1 h)
    shape_faults_alike p (tuple es) ss ts k h = all_faults_alike es ss ts k h
    shape_faults_alike p (matching q e) ss ts k h =
        both (faults_alike e ss ts k.1 h) (pattern_alike q (flat_map (ways (renamed_tree r e)) ss) (flat_map (ways e) ts) k.0 (behind e ss ts h))
    shape_faults_alike p (call f es) ss ts k h = both (faults_alike f ss ts k.0 h) (all_faults_alike es ss ts k.1 h)
    shape_faults_alike p (remote m f es) ss ts k h =
        both (faults_alike m ss ts k.0 h) (both (faults_alike f ss ts k.1 h) (all_faults_alike es ss ts k.2 h))
    shape_faults_alike p (case_of e cs) ss ts k h =
        both (faults_alike e ss ts k.0 h) (clauses_alike cs (flat_map (ways (renamed_tree r e)) ss) (flat_map (ways e) ts) k.1 (behind e ss ts h))
    shape_faults_alike p _ ss ts k h = refl

    all_faults_alike : (es : Trees) (ss ts : List NameSet) → TreesOf a (renamed_all r es) → AllAlike ss ts → all_faults a (renamed_all r es) ss ≡ all_faults b es ts
    all_faults_alike end ss ts k h = refl
    all_faults_alike (more e es) ss ts k h = both (faults_alike e ss ts k.0 h) (all_faults_alike es ss ts k.1 h)

    body_alike : (es : Trees) (ss ts : List NameSet) → TreesOf a (renamed_all r es) → AllAlike ss ts → body_faults a (renamed_all r es) ss ≡ body_faults b es ts
    body_alike end ss ts k h = refl
    body_alike (more e es) ss ts k h =
        both (faults_alike e ss ts k.0 h) (body_alike es (flat_map (ways (renamed_tree r e)) ss) (flat_map (ways e) ts) k.1 (behind e ss ts h))

    guards_alike : (gs : Guards) (ss ts : List NameSet) → GuardsOf a (renamed_guards r gs) → AllAlike ss ts → guards_faults a (renamed_guards r gs) ss ≡ guards_faults b gs ts
    guards_alike no_guard ss ts k h = refl
    guards_alike (or_guard es gs) ss ts k h =
        both (body_alike es ss ts k.0 h)
        (guards_alike gs (flat_map (body_ways (renamed_all r es)) ss) (flat_map (body_ways es) ts) k.1 (alike_flat (body_ways (renamed_all r es)) (body_ways es) ss ts (body_ways_alike es) h))

    clauses_alike : (cs : Clauses) (ss ts : List NameSet) → ClausesOf a (renamed_clauses r cs) → AllAlike ss ts → clauses_faults a (renamed_clauses r cs) ss ≡ clauses_faults b cs ts
    clauses_alike no_clauses ss ts k h = refl
    clauses_alike (clause p ps g body cs) ss ts k h =
        let us = flat_map (bind (all_names (renamed_all r ps))) ss in
        let vs = flat_map (bind (all_names ps)) ts in
        let inside = alike_flat (bind (all_names (renamed_all r ps))) (bind (all_names ps)) ss ts (alike_bind (all_names (renamed_all r ps)) (all_names ps) (all_names_alike ps)) h in
        both (patterns_alike ps ss ts k.0 h) (both (guards_alike g us vs k.1 inside) (both (body_alike body us vs k.2 inside) (clauses_alike cs ss ts k.3 h)))

  size_stays : (p : Place) (f : FunctionTree) → size_faults p (renamed_function r f) ≡ size_faults p f
  size_stays p f =
      ap₂ (λ (d w : ℕ). where_ (nat_lt most_depth d || nat_lt most_weight w) (fault.plain p table.function_too_large)) (function_depth_stays r f) (function_weight_stays r f)

  form_alike : (p : PlacedTree) (f : FormTree) → FormOf a (renamed_form r f) → form_faults a (renamed_placed r p) (renamed_form r f) ≡ form_faults b p f
  form_alike p (function f) k = both (clauses_alike f.clauses (no_names ∷ []) (no_names ∷ []) k.1 ((λ n. refl), tt)) (size_stays p.place f)
  form_alike p _ k = refl

  pub faults_renamed : (fs : List PlacedTree) → FormsOf a (map (renamed_placed r) fs) → forms_faults a (map (renamed_placed r) fs) ≡ forms_faults b fs
  faults_renamed [] k = refl
  faults_renamed (f ∷ fs) k = both (form_alike f f.form k.0) (faults_renamed fs k.1)
