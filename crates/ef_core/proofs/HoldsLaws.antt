-- What holds everywhere in a tree under one rule holds under a weaker one, and under two together.
use Rattle.std.specs.Prelude.{List, [], ◌∷◌, ◌++◌}
use Rattle.ef_core.specs.declared.literal.CoreVar.{CoreVar}
use Rattle.ef_core.specs.Everywhere.{Each, Rule, both, LitHolds, LitsHold, Holds, AllHold, SegmentsHold, StepsHold, DefsHold, ClausesHold, PatHolds, PatsHold, PatSegmentsHold, DefHolds}
use Rattle.ef_core.specs.Tree.{LitTree, LitTrees, CoreTree, CoreTrees, CoreSegments, CoreSteps, CoreDefs, CoreClauses, PatTree, PatTrees, PatSegments, DefTree, int, atom, lit_list, lit_list_to, lit_tuple, no_lits, more_lits, var, lit, fun_name, a_fun, value_list, tuple, list, list_to, bin, lets, letrec, case_of, apply, call, primop, do_then, receive, try_catch, end, more, no_segments, segment, done, step, no_defs, def, no_clauses, clause, pat_var, pat_lit, pat_tuple, pat_list, pat_list_to, alias, pat_bin, no_pats, more_pats, no_pat_segments, pat_segment}

pub each_same : {A : Type 0} (P Q : A → Type 0) → ((a : A) → P a → Q a) → (as' : List A) → Each P as' → Each Q as'
each_same P Q same [] is = tt
each_same P Q same (a ∷ as') is = (same a is.0, each_same P Q same as' is.1)

pub each_append : {A : Type 0} (P : A → Type 0) (as' bs : List A) → Each P as' → Each P bs → Each P (as' ++ bs)
each_append P [] bs p q = q
each_append P (a ∷ as') bs p q = (p.0, each_append P as' bs p.1 q)

pub each_both : {A : Type 0} (P Q : A → Type 0) (as' : List A) → Each P as' → Each Q as' → Each (λ a. P a × Q a) as'
each_both P Q [] p q = tt
each_both P Q (a ∷ as') p q = ((p.0, q.0), each_both P Q as' p.1 q.1)

-- ---- under a weaker rule

module _
    (r s : Rule)
    (exprs : (e : CoreTree) → r.expr e → s.expr e)
    (pats : (p : PatTree) → r.pat p → s.pat p)
    (literals : (l : LitTree) → r.literal l → s.literal l)
    (variables : (v : CoreVar) → r.variable v → s.variable v) where
  vars_map : (vs : List CoreVar) → Each r.variable vs → Each s.variable vs
  vars_map = each_same r.variable s.variable variables

  mutual
    pub lit_holds_map : (l : LitTree) → LitHolds r l → LitHolds s l
    lit_holds_map (int i) h = literals (int i) h
    lit_holds_map (atom n) h = literals (atom n) h
    lit_holds_map (lit_list ls) h = (literals (lit_list ls) h.0, lits_hold_map ls h.1)
    lit_holds_map (lit_list_to ls l) h = (literals (lit_list_to ls l) h.0, lits_hold_map ls h.1, lit_holds_map l h.2)
    lit_holds_map (lit_tuple ls) h = (literals (lit_tuple ls) h.0, lits_hold_map ls h.1)

    pub lits_hold_map : (ls : LitTrees) → LitsHold r ls → LitsHold s ls
    lits_hold_map no_lits h = tt
    lits_hold_map (more_lits l ls) h = (lit_holds_map l h.0, lits_hold_map ls h.1)

  mutual
    pub holds_map : (e : CoreTree) → Holds r e → Holds s e
    holds_map (var v) h = (exprs (var v) h.0, variables v h.1)
    holds_map (lit l) h = (exprs (lit l) h.0, lit_holds_map l h.1)
    holds_map (fun_name f) h = exprs (fun_name f) h
    holds_map (a_fun vs b) h = (exprs (a_fun vs b) h.0, vars_map vs h.1, holds_map b h.2)
    holds_map (value_list es) h = (exprs (value_list es) h.0, all_hold_map es h.1)
    holds_map (tuple es) h = (exprs (tuple es) h.0, all_hold_map es h.1)
    holds_map (list es) h = (exprs (list es) h.0, all_hold_map es h.1)
    holds_map (list_to es e) h = (exprs (list_to es e) h.0, all_hold_map es h.1, holds_map e h.2)
    holds_map (bin ss) h = (exprs (bin ss) h.0, segments_hold_map ss h.1)
    holds_map (lets ss e) h = (exprs (lets ss e) h.0, steps_hold_map ss h.1, holds_map e h.2)
    holds_map (letrec ds e) h = (exprs (letrec ds e) h.0, defs_hold_map ds h.1, holds_map e h.2)
    holds_map (case_of e cs) h = (exprs (case_of e cs) h.0, holds_map e h.1, clauses_hold_map cs h.2)
    holds_map (apply f es) h = (exprs (apply f es) h.0, holds_map f h.1, all_hold_map es h.2)
    holds_map (call m f es) h = (exprs (call m f es) h.0, holds_map m h.1, holds_map f h.2, all_hold_map es h.3)
    holds_map (primop n es) h = (exprs (primop n es) h.0, all_hold_map es h.1)
    holds_map (do_then a b) h = (exprs (do_then a b) h.0, holds_map a h.1, holds_map b h.2)
    holds_map (receive cs t b) h = (exprs (receive cs t b) h.0, clauses_hold_map cs h.1, holds_map t h.2, holds_map b h.3)
    holds_map (try_catch a vs b ws c) h =
        (exprs (try_catch a vs b ws c) h.0, holds_map a h.1, vars_map vs h.2, holds_map b h.3, vars_map ws h.4, holds_map c h.5)

    pub all_hold_map : (es : CoreTrees) → AllHold r es → AllHold s es
    all_hold_map end h = tt
    all_hold_map (more e es) h = (holds_map e h.0, all_hold_map es h.1)

    pub segments_hold_map : (ss : CoreSegments) → SegmentsHold r ss → SegmentsHold s ss
    segments_hold_map no_segments h = tt
    segments_hold_map (segment e size unit kind flags ss) h =
        (holds_map e h.0, holds_map size h.1, lit_holds_map flags h.2, segments_hold_map ss h.3)

    pub steps_hold_map : (ss : CoreSteps) → StepsHold r ss → StepsHold s ss
    steps_hold_map done h = tt
    steps_hold_map (step vs e ss) h = (vars_map vs h.0, holds_map e h.1, steps_hold_map ss h.2)

    pub defs_hold_map : (ds : CoreDefs) → DefsHold r ds → DefsHold s ds
    defs_hold_map no_defs h = tt
    defs_hold_map (def f vs b ds) h = (vars_map vs h.0, holds_map b h.1, defs_hold_map ds h.2)

    pub clauses_hold_map : (cs : CoreClauses) → ClausesHold r cs → ClausesHold s cs
    clauses_hold_map no_clauses h = tt
    clauses_hold_map (clause ps g b cs) h = (pats_hold_map ps h.0, holds_map g h.1, holds_map b h.2, clauses_hold_map cs h.3)

    pub pat_holds_map : (p : PatTree) → PatHolds r p → PatHolds s p
    pat_holds_map (pat_var v) h = (pats (pat_var v) h.0, variables v h.1)
    pat_holds_map (pat_lit l) h = (pats (pat_lit l) h.0, lit_holds_map l h.1)
    pat_holds_map (pat_tuple ps) h = (pats (pat_tuple ps) h.0, pats_hold_map ps h.1)
    pat_holds_map (pat_list ps) h = (pats (pat_list ps) h.0, pats_hold_map ps h.1)
    pat_holds_map (pat_list_to ps p) h = (pats (pat_list_to ps p) h.0, pats_hold_map ps h.1, pat_holds_map p h.2)
    pat_holds_map (alias v p) h = (pats (alias v p) h.0, variables v h.1, pat_holds_map p h.2)
    pat_holds_map (pat_bin ss) h = (pats (pat_bin ss) h.0, pat_segments_hold_map ss h.1)

    pub pats_hold_map : (ps : PatTrees) → PatsHold r ps → PatsHold s ps
    pats_hold_map no_pats h = tt
    pats_hold_map (more_pats p ps) h = (pat_holds_map p h.0, pats_hold_map ps h.1)

    pub pat_segments_hold_map : (ss : PatSegments) → PatSegmentsHold r ss → PatSegmentsHold s ss
    pat_segments_hold_map no_pat_segments h = tt
    pat_segments_hold_map (pat_segment p size unit kind flags ss) h =
        (pat_holds_map p h.0, holds_map size h.1, lit_holds_map flags h.2, pat_segments_hold_map ss h.3)

  pub def_holds_map : (d : DefTree) → DefHolds r d → DefHolds s d
  def_holds_map d h = (vars_map d.params h.0, holds_map d.body h.1)

-- ---- under two rules

module _ (r s : Rule) where
  vars_both : (vs : List CoreVar) → Each r.variable vs → Each s.variable vs → Each (both r s).variable vs
  vars_both = each_both r.variable s.variable

  mutual
    pub lit_holds_both : (l : LitTree) → LitHolds r l → LitHolds s l → LitHolds (both r s) l
    lit_holds_both (int i) h k = (h, k)
    lit_holds_both (atom n) h k = (h, k)
    lit_holds_both (lit_list ls) h k = ((h.0, k.0), lits_hold_both ls h.1 k.1)
    lit_holds_both (lit_list_to ls l) h k = ((h.0, k.0), lits_hold_both ls h.1 k.1, lit_holds_both l h.2 k.2)
    lit_holds_both (lit_tuple ls) h k = ((h.0, k.0), lits_hold_both ls h.1 k.1)

    pub lits_hold_both : (ls : LitTrees) → LitsHold r ls → LitsHold s ls → LitsHold (both r s) ls
    lits_hold_both no_lits h k = tt
    lits_hold_both (more_lits l ls) h k = (lit_holds_both l h.0 k.0, lits_hold_both ls h.1 k.1)

  mutual
    pub holds_both : (e : CoreTree) → Holds r e → Holds s e → Holds (both r s) e
    holds_both (var v) h k = ((h.0, k.0), (h.1, k.1))
    holds_both (lit l) h k = ((h.0, k.0), lit_holds_both l h.1 k.1)
    holds_both (fun_name f) h k = (h, k)
    holds_both (a_fun vs b) h k = ((h.0, k.0), vars_both vs h.1 k.1, holds_both b h.2 k.2)
    holds_both (value_list es) h k = ((h.0, k.0), all_hold_both es h.1 k.1)
    holds_both (tuple es) h k = ((h.0, k.0), all_hold_both es h.1 k.1)
    holds_both (list es) h k = ((h.0, k.0), all_hold_both es h.1 k.1)
    holds_both (list_to es e) h k = ((h.0, k.0), all_hold_both es h.1 k.1, holds_both e h.2 k.2)
    holds_both (bin ss) h k = ((h.0, k.0), segments_hold_both ss h.1 k.1)
    holds_both (lets ss e) h k = ((h.0, k.0), steps_hold_both ss h.1 k.1, holds_both e h.2 k.2)
    holds_both (letrec ds e) h k = ((h.0, k.0), defs_hold_both ds h.1 k.1, holds_both e h.2 k.2)
    holds_both (case_of e cs) h k = ((h.0, k.0), holds_both e h.1 k.1, clauses_hold_both cs h.2 k.2)
    holds_both (apply f es) h k = ((h.0, k.0), holds_both f h.1 k.1, all_hold_both es h.2 k.2)
    holds_both (call m f es) h k = ((h.0, k.0), holds_both m h.1 k.1, holds_both f h.2 k.2, all_hold_both es h.3 k.3)
    holds_both (primop n es) h k = ((h.0, k.0), all_hold_both es h.1 k.1)
    holds_both (do_then a b) h k = ((h.0, k.0), holds_both a h.1 k.1, holds_both b h.2 k.2)
    holds_both (receive cs t b) h k = ((h.0, k.0), clauses_hold_both cs h.1 k.1, holds_both t h.2 k.2, holds_both b h.3 k.3)
    holds_both (try_catch a vs b ws c) h k =
        ((h.0, k.0), holds_both a h.1 k.1, vars_both vs h.2 k.2, holds_both b h.3 k.3, vars_both ws h.4 k.4, holds_both c h.5 k.5)

    pub all_hold_both : (es : CoreTrees) → AllHold r es → AllHold s es → AllHold (both r s) es
    all_hold_both end h k = tt
    all_hold_both (more e es) h k = (holds_both e h.0 k.0, all_hold_both es h.1 k.1)

    pub segments_hold_both : (ss : CoreSegments) → SegmentsHold r ss → SegmentsHold s ss → SegmentsHold (both r s) ss
    segments_hold_both no_segments h k = tt
    segments_hold_both (segment e size unit kind flags ss) h k =
        (holds_both e h.0 k.0, holds_both size h.1 k.1, lit_holds_both flags h.2 k.2, segments_hold_both ss h.3 k.3)

    pub steps_hold_both : (ss : CoreSteps) → StepsHold r ss → StepsHold s ss → StepsHold (both r s) ss
    steps_hold_both done h k = tt
    steps_hold_both (step vs e ss) h k = (vars_both vs h.0 k.0, holds_both e h.1 k.1, steps_hold_both ss h.2 k.2)

    pub defs_hold_both : (ds : CoreDefs) → DefsHold r ds → DefsHold s ds → DefsHold (both r s) ds
    defs_hold_both no_defs h k = tt
    defs_hold_both (def f vs b ds) h k = (vars_both vs h.0 k.0, holds_both b h.1 k.1, defs_hold_both ds h.2 k.2)

    pub clauses_hold_both : (cs : CoreClauses) → ClausesHold r cs → ClausesHold s cs → ClausesHold (both r s) cs
    clauses_hold_both no_clauses h k = tt
    clauses_hold_both (clause ps g b cs) h k =
        (pats_hold_both ps h.0 k.0, holds_both g h.1 k.1, holds_both b h.2 k.2, clauses_hold_both cs h.3 k.3)

    pub pat_holds_both : (p : PatTree) → PatHolds r p → PatHolds s p → PatHolds (both r s) p
    pat_holds_both (pat_var v) h k = ((h.0, k.0), (h.1, k.1))
    pat_holds_both (pat_lit l) h k = ((h.0, k.0), lit_holds_both l h.1 k.1)
    pat_holds_both (pat_tuple ps) h k = ((h.0, k.0), pats_hold_both ps h.1 k.1)
    pat_holds_both (pat_list ps) h k = ((h.0, k.0), pats_hold_both ps h.1 k.1)
    pat_holds_both (pat_list_to ps p) h k = ((h.0, k.0), pats_hold_both ps h.1 k.1, pat_holds_both p h.2 k.2)
    pat_holds_both (alias v p) h k = ((h.0, k.0), (h.1, k.1), pat_holds_both p h.2 k.2)
    pat_holds_both (pat_bin ss) h k = ((h.0, k.0), pat_segments_hold_both ss h.1 k.1)

    pub pats_hold_both : (ps : PatTrees) → PatsHold r ps → PatsHold s ps → PatsHold (both r s) ps
    pats_hold_both no_pats h k = tt
    pats_hold_both (more_pats p ps) h k = (pat_holds_both p h.0 k.0, pats_hold_both ps h.1 k.1)

    pub pat_segments_hold_both : (ss : PatSegments) → PatSegmentsHold r ss → PatSegmentsHold s ss → PatSegmentsHold (both r s) ss
    pat_segments_hold_both no_pat_segments h k = tt
    pat_segments_hold_both (pat_segment p size unit kind flags ss) h k =
        (pat_holds_both p h.0 k.0, holds_both size h.1 k.1, lit_holds_both flags h.2 k.2, pat_segments_hold_both ss h.3 k.3)

  pub def_holds_both : (d : DefTree) → DefHolds r d → DefHolds s d → DefHolds (both r s) d
  def_holds_both d h k = (vars_both d.params h.0 k.0, holds_both d.body h.1 k.1)

  -- ---- each of the two

  pub both_first : (e : CoreTree) → Holds (both r s) e → Holds r e
  both_first = holds_map (both r s) r (λ e h. h.0) (λ p h. h.0) (λ l h. h.0) (λ v h. h.0)

  pub both_second : (e : CoreTree) → Holds (both r s) e → Holds s e
  both_second = holds_map (both r s) s (λ e h. h.1) (λ p h. h.1) (λ l h. h.1) (λ v h. h.1)
