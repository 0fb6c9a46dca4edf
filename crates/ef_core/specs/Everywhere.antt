-- A condition that holds everywhere in a Core tree.
use Rattle.std.specs.Prelude.{List, [], ◌∷◌}
use Rattle.ef_core.specs.declared.literal.CoreVar.{CoreVar}
use Rattle.ef_core.specs.Tree.{LitTree, LitTrees, CoreTree, CoreTrees, CoreSegments, CoreSteps, CoreDefs, CoreClauses, PatTree, PatTrees, PatSegments, DefTree, CoreModuleTree, int, atom, lit_list, lit_list_to, lit_tuple, no_lits, more_lits, var, lit, fun_name, a_fun, value_list, tuple, list, list_to, bin, lets, letrec, case_of, apply, call, primop, do_then, receive, try_catch, end, more, no_segments, segment, done, step, no_defs, def, no_clauses, clause, pat_var, pat_lit, pat_tuple, pat_list, pat_list_to, alias, pat_bin, no_pats, more_pats, no_pat_segments, pat_segment}

abbrev pub Each : {A : Type 0} → (A → Type 0) → List A → Type 0
Each P [] = Unit {0}
Each P (x ∷ xs) = P x × Each P xs

-- what is asked of each expression, pattern, literal and variable
pub record Rule : Type 1 where
  pub expr : CoreTree → Type 0
  pub pat : PatTree → Type 0
  pub literal : LitTree → Type 0
  pub variable : CoreVar → Type 0

-- what both ask
abbrev pub both : Rule → Rule → Rule
both r s = record {
  expr = λ e. r.expr e × s.expr e;
  pat = λ p. r.pat p × s.pat p;
  literal = λ l. r.literal l × s.literal l;
  variable = λ v. r.variable v × s.variable v;
}

module _ (rule : Rule) where
  abbrev mutual
    pub LitHolds : LitTree → Type 0
    LitHolds (int i) = rule.literal (int i)
    LitHolds (atom n) = rule.literal (atom n)
    LitHolds (lit_list ls) = rule.literal (lit_list ls) × LitsHold ls
    LitHolds (lit_list_to ls l) = rule.literal (lit_list_to ls l) × LitsHold ls × LitHolds l
    LitHolds (lit_tuple ls) = rule.literal (lit_tuple ls) × LitsHold ls

    pub LitsHold : LitTrees → Type 0
    LitsHold no_lits = Unit {0}
    LitsHold (more_lits l ls) = LitHolds l × LitsHold ls

  abbrev mutual
    pub Holds : CoreTree → Type 0
    Holds (var v) = rule.expr (var v) × rule.variable v
    Holds (lit l) = rule.expr (lit l) × LitHolds l
    Holds (fun_name f) = rule.expr (fun_name f)
    Holds (a_fun vs b) = rule.expr (a_fun vs b) × Each rule.variable vs × Holds b
    Holds (value_list es) = rule.expr (value_list es) × AllHold es
    Holds (tuple es) = rule.expr (tuple es) × AllHold es
    Holds (list es) = rule.expr (list es) × AllHold es
    Holds (list_to es e) = rule.expr (list_to es e) × AllHold es × Holds e
    Holds (bin ss) = rule.expr (bin ss) × SegmentsHold ss
    Holds (lets ss e) = rule.expr (lets ss e) × StepsHold ss × Holds e
    Holds (letrec ds e) = rule.expr (letrec ds e) × DefsHold ds × Holds e
    Holds (case_of e cs) = rule.expr (case_of e cs) × Holds e × ClausesHold cs
    Holds (apply f es) = rule.expr (apply f es) × Holds f × AllHold es
    Holds (call m f es) = rule.expr (call m f es) × Holds m × Holds f × AllHold es
    Holds (primop n es) = rule.expr (primop n es) × AllHold es
    Holds (do_then a b) = rule.expr (do_then a b) × Holds a × Holds b
    Holds (receive cs t b) = rule.expr (receive cs t b) × ClausesHold cs × Holds t × Holds b
    Holds (try_catch a vs b ws h) =
        rule.expr (try_catch a vs b ws h) × Holds a × Each rule.variable vs × Holds b × Each rule.variable ws × Holds h

    pub AllHold : CoreTrees → Type 0
    AllHold end = Unit {0}
    AllHold (more e es) = Holds e × AllHold es

    pub SegmentsHold : CoreSegments → Type 0
    SegmentsHold no_segments = Unit {0}
    SegmentsHold (segment e size unit kind flags ss) = Holds e × Holds size × LitHolds flags × SegmentsHold ss

    pub StepsHold : CoreSteps → Type 0
    StepsHold done = Unit {0}
    StepsHold (step vs e ss) = Each rule.variable vs × Holds e × StepsHold ss

    pub DefsHold : CoreDefs → Type 0
    DefsHold no_defs = Unit {0}
    DefsHold (def f vs b ds) = Each rule.variable vs × Holds b × DefsHold ds

    pub ClausesHold : CoreClauses → Type 0
    ClausesHold no_clauses = Unit {0}
    ClausesHold (clause ps g b cs) = PatsHold ps × Holds g × Holds b × ClausesHold cs

    pub PatHolds : PatTree → Type 0
    PatHolds (pat_var v) = rule.pat (pat_var v) × rule.variable v
    PatHolds (pat_lit l) = rule.pat (pat_lit l) × LitHolds l
    PatHolds (pat_tuple ps) = rule.pat (pat_tuple ps) × PatsHold ps
    PatHolds (pat_list ps) = rule.pat (pat_list ps) × PatsHold ps
    PatHolds (pat_list_to ps p) = rule.pat (pat_list_to ps p) × PatsHold ps × PatHolds p
    PatHolds (alias v p) = rule.pat (alias v p) × rule.variable v × PatHolds p
    PatHolds (pat_bin ss) = rule.pat (pat_bin ss) × PatSegmentsHold ss

    pub PatsHold : PatTrees → Type 0
    PatsHold no_pats = Unit {0}
    PatsHold (more_pats p ps) = PatHolds p × PatsHold ps

    pub PatSegmentsHold : PatSegments → Type 0
    PatSegmentsHold no_pat_segments = Unit {0}
    PatSegmentsHold (pat_segment p size unit kind flags ss) = PatHolds p × Holds size × LitHolds flags × PatSegmentsHold ss

  -- a function, and each of a list
  abbrev pub DefHolds : DefTree → Type 0
  DefHolds d = Each rule.variable d.params × Holds d.body

  -- the terms of the attributes and the functions of a module
  pub record HoldsIn (m : CoreModuleTree) : Type 0 where
    pub terms : Each (λ a. LitHolds a.term) m.attributes
    pub defs : Each DefHolds m.defs
