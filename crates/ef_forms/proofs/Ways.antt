-- The faults of scope are the same in every later table.
use Rattle.std.proofs.Common.{◌≡◌, List, [], ◌∷◌, ◌++◌, refl}
use Rattle.std.specs.List.{flat_map}
use Rattle.ef_base.specs.declared.name.Name.{Name}
use Rattle.ef_base.specs.declared.fault.Place.{Place}
use Rattle.ef_base.specs.Texts.{Texts, Extends, HasName}
use Rattle.ef_forms.specs.Tree.{Tree, Trees, Guards, Clauses, FunctionTree, tree, var, list, list_to, tuple, matching, call, remote, case_of, end, more, no_guard, or_guard, no_clauses, clause}
use Rattle.ef_forms.specs.OfTable.{TreeOf, TreesOf, GuardsOf, ClausesOf, FunctionOf}
use Rattle.ef_forms.specs.Ways.{NameSet, faults, all_faults, body_faults, clauses_faults, function_faults, use_faults, name_faults, pattern_faults, patterns_faults, pattern_clauses_faults, ways, body_ways, bind, all_names, no_names, pattern_guards_faults, guards_faults}
use Rattle.ef_forms.proofs.Built.{text_later}

pub both : {A : Type 0} {a b c d : List A} → a ≡ b → c ≡ d → a ++ c ≡ b ++ d
both same other = rw (same, other) refl

module _ (now all : Texts) (later : Extends now all) where
  use_later : (p : Place) (n : Name) (sets : List NameSet) → HasName now n → use_faults all p n sets ≡ use_faults now p n sets
  use_later p n sets within = rw (text_later now all n within later) refl

  name_later : (p : Place) (n : Name) (sets : List NameSet) → HasName now n → name_faults all p n sets ≡ name_faults now p n sets
  name_later p n sets within = rw (text_later now all n within later) refl

  mutual
    pattern_same : (e : Tree) (sets : List NameSet) → TreeOf now e → pattern_faults all e sets ≡ pattern_faults now e sets
    pattern_same (tree p (var n)) sets of = name_later p n sets of
    pattern_same (tree p (list es)) sets of = patterns_same es sets of
    pattern_same (tree p (list_to es e)) sets of = both (patterns_same es sets of.0) (pattern_same e sets of.1)
    pattern_same (tree p (tuple es)) sets of = patterns_same es sets of
    pattern_same (tree p (matching q e)) sets of = both (pattern_same q sets of.0) (pattern_same e sets of.1)
    pattern_same (tree p (call f es)) sets of = both (pattern_same f sets of.0) (patterns_same es sets of.1)
    pattern_same (tree p (remote m f es)) sets of = both (pattern_same m sets of.0) (both (pattern_same f sets of.1) (patterns_same es sets of.2))
    pattern_same (tree p (case_of e cs)) sets of = both (pattern_same e sets of.0) (pattern_clauses_same cs sets of.1)
    pattern_same (tree p _) sets of = refl

    patterns_same : (es : Trees) (sets : List NameSet) → TreesOf now es → patterns_faults all es sets ≡ patterns_faults now es sets
    patterns_same end sets of = refl
    patterns_same (more e es) sets of = both (pattern_same e sets of.0) (patterns_same es sets of.1)

    pattern_guards_same : (gs : Guards) (sets : List NameSet) → GuardsOf now gs → pattern_guards_faults all gs sets ≡ pattern_guards_faults now gs sets
    pattern_guards_same no_guard sets of = refl
    pattern_guards_same (or_guard es gs) sets of = both (patterns_same es sets of.0) (pattern_guards_same gs sets of.1)

    pattern_clauses_same : (cs : Clauses) (sets : List NameSet) → ClausesOf now cs → pattern_clauses_faults all cs sets ≡ pattern_clauses_faults now cs sets
    pattern_clauses_same no_clauses sets of = refl
    pattern_clauses_same (clause p ps g body cs) sets of =
        both (patterns_same ps sets of.0) (both (pattern_guards_same g sets of.1) (both (patterns_same body sets of.2) (pattern_clauses_same cs sets of.3)))

  mutual
    faults_same : (e : Tree) (sets : List NameSet) → TreeOf now e → faults all e sets ≡ faults now e sets
    faults_same (tree p (var n)) sets of = use_later p n sets of
    faults_same (tree p (list es)) sets of = all_same es sets of
    faults_same (tree p (list_to es e)) sets of = both (all_same es sets of.0) (faults_same e sets of.1)
    faults_same (tree p (tuple es)) sets of = all_same es sets of
    faults_same (tree p (matching q e)) sets of = both (faults_same e sets of.1) (pattern_same q (flat_map (ways e) sets) of.0)
    faults_same (tree p (call f es)) sets of = both (faults_same f sets of.0) (all_same es sets of.1)
    faults_same (tree p (remote m f es)) sets of = both (faults_same m sets of.0) (both (faults_same f sets of.1) (all_same es sets of.2))
    faults_same (tree p (case_of e cs)) sets of = both (faults_same e sets of.0) (clauses_same cs (flat_map (ways e) sets) of.1)
    faults_same (tree p _) sets of = refl

    all_same : (es : Trees) (sets : List NameSet) → TreesOf now es → all_faults all es sets ≡ all_faults now es sets
    all_same end sets of = refl
    all_same (more e es) sets of = both (faults_same e sets of.0) (all_same es sets of.1)

    body_same : (es : Trees) (sets : List NameSet) → TreesOf now es → body_faults all es sets ≡ body_faults now es sets
    body_same end sets of = refl
    body_same (more e es) sets of = both (faults_same e sets of.0) (body_same es (flat_map (ways e) sets) of.1)

    guards_same : (gs : Guards) (sets : List NameSet) → GuardsOf now gs → guards_faults all gs sets ≡ guards_faults now gs sets
    guards_same no_guard sets of = refl
    guards_same (or_guard es gs) sets of = both (body_same es sets of.0) (guards_same gs (flat_map (body_ways es) sets) of.1)

    clauses_same : (cs : Clauses) (sets : List NameSet) → ClausesOf now cs → clauses_faults all cs sets ≡ clauses_faults now cs sets
    clauses_same no_clauses sets of = refl
    clauses_same (clause p ps g body cs) sets of =
        let inside = flat_map (bind (all_names ps)) sets in
        both (patterns_same ps sets of.0) (both (guards_same g inside of.1) (both (body_same body inside of.2) (clauses_same cs sets of.3)))

pub faults_later : (now all : Texts) (f : FunctionTree) → FunctionOf now f → Extends now all → function_faults all f ≡ function_faults now f
faults_later now all f of later = clauses_same now all later f.clauses (no_names ∷ []) of.1
