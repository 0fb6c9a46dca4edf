-- The lexemes of the pieces of a tree spell the tree.
use Rattle.std.specs.Prelude.{ℕ, ℤ, suc, max, ◌+◌, ◌<◌, ◌≤◌, ◌^◌, ◌≡◌, List, [], ◌∷◌, ◌++◌, flat_map}
use Rattle.std.proofs.Common.{sym, ap, ◌∙◌, subst, arith, append_assoc, append-nil}
use Rattle.ef_base.specs.declared.name.Name.{Name}
use Rattle.ef_base.specs.Texts.{Texts, HasName}
use Rattle.ef_core.specs.declared.literal.CoreVar.{CoreVar}
use Rattle.ef_core.specs.declared.literal.CoreVar.TheVariants.{Numbered, Named}
use Rattle.ef_core.specs.declared.literal.FName.{FName}
use Rattle.ef_core.specs.Lexeme as x
use Rattle.ef_core.specs.Lexeme.{Lexeme, TheWord, Sym, Symbol}
use Rattle.ef_core.specs.Pieces.{Piece, Break, put_word, put_sym, lexemes}
use Rattle.ef_core.proofs.Printed.{lexemes-append}
use Rattle.ef_core.specs.Layout as l
use Rattle.ef_core.specs.Layout.{enclosed, separated, pieces}
use Rattle.ef_core.specs.Grammar as g
use Rattle.ef_core.specs.Depth as d
use Rattle.ef_core.specs.WellFormed as w
use Rattle.ef_core.specs.Everywhere.{Each, DefHolds, Holds, AllHold, SegmentsHold, StepsHold, DefsHold, ClausesHold, PatHolds, PatsHold, PatSegmentsHold, LitHolds, LitsHold}
use Rattle.ef_core.specs.Normal as n
use Rattle.ef_core.specs.OfTable.{KindsOf, PatKindsOf, FNamesOf}
use Rattle.ef_core.specs.Readable.{readable}
use Rattle.ef_core.specs.Tree.{LitTree, LitTrees, CoreTree, CoreTrees, CoreSegments, CoreSteps, CoreDefs, CoreClauses, PatTree, PatTrees, PatSegments, AttributeTree, DefTree, CoreModuleTree, int, atom, lit_list, lit_list_to, lit_tuple, no_lits, more_lits, var, lit, fun_name, a_fun, value_list, tuple, list, list_to, bin, lets, letrec, case_of, apply, call, primop, do_then, receive, try_catch, end, more, no_segments, segment, done, step, no_defs, def, no_clauses, clause, pat_var, pat_lit, pat_tuple, pat_list, pat_list_to, alias, pat_bin, no_pats, more_pats, no_pat_segments, pat_segment}

-- ---- the lexemes of what is put together

enclosed_is : (a : Symbol) (ps : List Piece) (b : Symbol) → g.surrounded a (lexemes ps) b ≡ lexemes (enclosed a ps b)
enclosed_is a ps b = ap (λ ls. Sym a ∷ ls) (sym (lexemes-append ps (put_sym b)))

with_tail_is : (a : Symbol) (ps qs : List Piece) (b : Symbol) → g.surrounded a (lexemes ps ++ Sym x.Bar ∷ lexemes qs) b ≡ lexemes (enclosed a (ps ++ (put_sym x.Bar ++ qs)) b)
with_tail_is a ps qs b = ap (λ z. g.surrounded a z b) (sym (lexemes-append ps (put_sym x.Bar ++ qs))) ∙ enclosed_is a (ps ++ (put_sym x.Bar ++ qs)) b

separated_is : (ps qs : List Piece) → lexemes ps ++ Sym x.Comma ∷ lexemes qs ≡ lexemes (ps ++ (put_sym x.Comma ++ qs))
separated_is ps qs = sym (lexemes-append ps (put_sym x.Comma ++ qs))

fun_is : (names : Texts) (vs : List CoreVar) (b : List Piece) → g.fun_of (lexemes (l.var_list names vs)) (lexemes b) ≡ lexemes (l.params_pieces names vs ++ b)
fun_is names vs b = simp (lexemes-append, append_assoc)

let_is : (names : Texts) (vs : List CoreVar) (e b : List Piece) → g.let_of (lexemes (l.vars_pieces names vs)) (lexemes e) (lexemes b) ≡ lexemes (l.let_of names vs e ++ b)
let_is names vs e b = simp (lexemes-append, append_assoc)

clause_is : (names : Texts) (ps e b : List Piece) → g.clause_of (lexemes ps) (lexemes e) (lexemes b) ≡ lexemes (l.clause_of names ps e b)
clause_is names ps e b = simp lexemes-append

segment_is : (names : Texts) (e size : List Piece) (unit : ℤ) (kind : Name) (flags : LitTree) → g.segment_of names (lexemes e) (lexemes size) unit kind (lexemes (l.lit_pieces names flags)) ≡ lexemes (l.segment_of names e size unit kind flags)
segment_is names e size unit kind flags = simp (lexemes-append, append_assoc)

def_is : (names : Texts) (f : FName) (vs : List CoreVar) (b : List Piece) → lexemes (l.fname_pieces names f) ++ Sym x.Equals ∷ g.fun_of (lexemes (l.var_list names vs)) (lexemes b) ≡ lexemes (l.def_of names f vs b)
def_is names f vs b = simp (lexemes-append, append_assoc)

case_is : (ps qs : List Piece) → TheWord x.Case ∷ (lexemes ps ++ TheWord x.Of ∷ (lexemes qs ++ TheWord x.End ∷ [])) ≡ lexemes (put_word x.Case ++ (ps ++ (put_word x.Of ++ (qs ++ put_word x.End))))
case_is ps qs = simp lexemes-append

letrec_is : (ps qs : List Piece) → TheWord x.Letrec ∷ (lexemes ps ++ TheWord x.In ∷ lexemes qs) ≡ lexemes (put_word x.Letrec ++ (ps ++ (put_word x.In ++ (Break ∷ [] ++ qs))))
letrec_is ps qs = simp lexemes-append

apply_is : (ps qs : List Piece) → TheWord x.Apply ∷ (lexemes ps ++ g.surrounded x.LeftParen (lexemes qs) x.RightParen) ≡ lexemes (put_word x.Apply ++ (ps ++ l.in_parentheses qs))
apply_is ps qs = simp lexemes-append

call_is : (ps qs rs : List Piece) → TheWord x.Call ∷ (lexemes ps ++ Sym x.Colon ∷ (lexemes qs ++ g.surrounded x.LeftParen (lexemes rs) x.RightParen)) ≡ lexemes (put_word x.Call ++ (ps ++ (put_sym x.Colon ++ (qs ++ l.in_parentheses rs))))
call_is ps qs rs = simp lexemes-append

primop_is : (names : Texts) (n : Name) (qs : List Piece) → TheWord x.Primop ∷ g.atom_of names n ∷ g.surrounded x.LeftParen (lexemes qs) x.RightParen ≡ lexemes (put_word x.Primop ++ (l.atom_pieces names n ++ l.in_parentheses qs))
primop_is names n qs = simp lexemes-append

do_is : (ps qs : List Piece) → TheWord x.Do ∷ (lexemes ps ++ lexemes qs) ≡ lexemes (put_word x.Do ++ (ps ++ qs))
do_is ps qs = simp lexemes-append

receive_is : (ps qs rs : List Piece) → TheWord x.Receive ∷ (lexemes ps ++ TheWord x.After ∷ (lexemes qs ++ Sym x.Arrow ∷ lexemes rs)) ≡ lexemes (put_word x.Receive ++ (ps ++ (put_word x.After ++ (qs ++ (put_sym x.Arrow ++ rs)))))
receive_is ps qs rs = simp lexemes-append

try_is : (a vs b ws h : List Piece) → TheWord x.Try ∷ (lexemes a ++ TheWord x.Of ∷ (lexemes vs ++ Sym x.Arrow ∷ (lexemes b ++ TheWord x.Catch ∷ (lexemes ws ++ Sym x.Arrow ∷ lexemes h))))
    ≡ lexemes (put_word x.Try ++ (a ++ (put_word x.Of ++ (vs ++ (put_sym x.Arrow ++ (b ++ (put_word x.Catch ++ (ws ++ (put_sym x.Arrow ++ h)))))))))
try_is a vs b ws h = simp lexemes-append

alias_is : (ps qs : List Piece) → lexemes ps ++ Sym x.Equals ∷ lexemes qs ≡ lexemes (ps ++ (put_sym x.Equals ++ qs))
alias_is ps qs = sym (lexemes-append ps (put_sym x.Equals ++ qs))

alone_is : (ps : List Piece) → lexemes ps ≡ lexemes (ps ++ [])
alone_is ps = sym (ap lexemes (append-nil ps))

module_is : (names : Texts) (m : CoreModuleTree) → TheWord x.Module ∷ g.atom_of names m.name ∷ (g.surrounded x.LeftBracket (lexemes (l.fname_list names m.exports)) x.RightBracket
    ++ TheWord x.Attributes ∷ (g.surrounded x.LeftBracket (lexemes (l.attribute_list names m.attributes)) x.RightBracket ++ (lexemes (flat_map (l.def_pieces names) m.defs) ++ TheWord x.End ∷ [])))
    ≡ lexemes (l.module_pieces names m)
module_is names m = simp (lexemes-append, append_assoc)

-- each element spelled, so is the list
spells_listed : {A : Type 0} (Spells : A → List Lexeme → Type 0) (f : A → List Piece) (Q : A → Type 0) → ((a : A) → Q a → Spells a (lexemes (f a)))
    → (as' : List A) → Each Q as' → g.Listed Spells as' (lexemes (separated f as'))
spells_listed Spells f Q spelled [] h = g.nothing
spells_listed {A} Spells f Q spelled (a ∷ as') h = g.some (some_of a as' h)
  where
    some_of : (a : A) (as' : List A) → Each Q (a ∷ as') → g.Some Spells (a ∷ as') (lexemes (separated f (a ∷ as')))
    some_of a [] h = subst (g.Some Spells (a ∷ [])) (alone_is (f a)) (g.one (spelled a h.0))
    some_of a (b ∷ as') h = subst (g.Some Spells (a ∷ b ∷ as')) (separated_is (f a) (separated f (b ∷ as'))) (g.and_more (spelled a h.0) (some_of b as' h.1))

abbrev Fits : ℕ → ℕ → ℕ → Type 0
Fits most k depth = k + depth ≤ suc most

part : (most k n : ℕ) → Fits most k (suc n) → (k ≤ most) × Fits most (suc k) n
part most k n h = (omega arith, omega arith)

three : (most k l m n : ℕ) → Fits most k (max l (max m n)) → Fits most k l × Fits most k m × Fits most k n
three most k l m n h = (omega arith, omega arith, omega arith)

four : (most k l m n o : ℕ) → Fits most k (max l (max m (max n o))) → Fits most k l × Fits most k m × Fits most k n × Fits most k o
four most k l m n o h = (omega arith, omega arith, omega arith, omega arith)

two : (most k m n : ℕ) → Fits most k (max m n) → Fits most k m × Fits most k n
two most k m n h = (omega arith, omega arith)

module _ (names : Texts) (most : ℕ) where
  lits_of : (k : ℕ) (ts : LitTrees) → (w.AreSomeLits ts → g.SpellsSomeLits names most k ts (lexemes (l.lits_pieces names ts))) → g.SpellsLits names most k ts (lexemes (l.lits_pieces names ts))
  lits_of k no_lits f = g.no_literals
  lits_of k (more_lits t ts) f = g.some_literals (f tt)

  mutual
    spells_lit : (k : ℕ) (t : LitTree) → LitHolds (readable names) t → Fits most k (d.lit_depth t) → g.SpellsLit names most k t (lexemes (l.lit_pieces names t))
    spells_lit k (int i) h f = g.an_integer i (omega arith)
    spells_lit k (atom n) h f = g.an_atom n (omega arith) h.1.1
    spells_lit k (lit_list ts) h f =
        let fits = part most k (d.lits_depth ts) f in
        subst (g.SpellsLit names most k (lit_list ts)) (enclosed_is x.LeftBracket (l.lits_pieces names ts) x.RightBracket)
        (g.a_literal_list fits.0 (lits_of (suc k) ts (λ s. spells_some_lits (suc k) ts s h.1 fits.1)))
    spells_lit k (lit_list_to ts t) h f =
        let fits = part most k (max (d.lits_depth ts) (d.lit_depth t)) f in
        let each = two most (suc k) (d.lits_depth ts) (d.lit_depth t) fits.1 in
        subst (g.SpellsLit names most k (lit_list_to ts t)) (with_tail_is x.LeftBracket (l.lits_pieces names ts) (l.lit_pieces names t) x.RightBracket)
        (g.a_literal_list_to fits.0 (spells_some_lits (suc k) ts h.0.1.0 h.1 each.0) (spells_lit (suc k) t h.2 each.1))
    spells_lit k (lit_tuple ts) h f =
        let fits = part most k (d.lits_depth ts) f in
        subst (g.SpellsLit names most k (lit_tuple ts)) (enclosed_is x.LeftBrace (l.lits_pieces names ts) x.RightBrace)
        (g.a_literal_tuple fits.0 (lits_of (suc k) ts (λ s. spells_some_lits (suc k) ts s h.1 fits.1)))

    spells_some_lits : (k : ℕ) (ts : LitTrees) → w.AreSomeLits ts → LitsHold (readable names) ts → Fits most k (d.lits_depth ts) → g.SpellsSomeLits names most k ts (lexemes (l.lits_pieces names ts))
    spells_some_lits k no_lits s h f = absurd s
    spells_some_lits k (more_lits t no_lits) s h f =
        subst (g.SpellsSomeLits names most k (more_lits t no_lits)) (sym (ap lexemes (append-nil (l.lit_pieces names t)))) (g.one_literal (spells_lit k t h.0 (two most k (d.lit_depth t) 0 f).0))
    spells_some_lits k (more_lits t (more_lits u ts)) s h f =
        let each = two most k (d.lit_depth t) (d.lits_depth (more_lits u ts)) f in
        subst (g.SpellsSomeLits names most k (more_lits t (more_lits u ts))) (separated_is (l.lit_pieces names t) (l.lits_pieces names (more_lits u ts)))
        (g.and_literals (spells_lit k t h.0 each.0) (spells_some_lits k (more_lits u ts) tt h.1 each.1))

  -- ---- variables

  spells_bare_var : (v : CoreVar) → (readable names).variable v → g.SpellsBareVar names most v (lexemes (l.var_pieces names v))
  spells_bare_var (Numbered n) h = g.a_number n h.1.0
  spells_bare_var (Named n) h = g.a_name n h.1.1 h.0

  spells_var : (v : CoreVar) → (readable names).variable v → g.SpellsVar names most v (lexemes (l.var_pieces names v))
  spells_var v h = g.bare (spells_bare_var v h)

  spells_var_list : (vs : List CoreVar) → Each (readable names).variable vs → g.Listed (g.SpellsVar names most) vs (lexemes (l.var_list names vs))
  spells_var_list vs h = spells_listed (g.SpellsVar names most) (l.var_pieces names) (readable names).variable spells_var vs h

  spells_vars : (vs : List CoreVar) → Each (readable names).variable vs → g.SpellsVars names most vs (lexemes (l.vars_pieces names vs))
  spells_vars [] h = g.variables g.nothing
  spells_vars (v ∷ []) h = g.one_variable (spells_var v h.0)
  spells_vars (v ∷ u ∷ vs) h =
      subst (g.SpellsVars names most (v ∷ u ∷ vs)) (enclosed_is x.Less (l.var_list names (v ∷ u ∷ vs)) x.Greater) (g.variables (spells_var_list (v ∷ u ∷ vs) h))

  spells_fname : (f : FName) → HasName names f.name → f.arity < 2 ^ 32 → g.SpellsFName names most f (lexemes (l.fname_pieces names f))
  spells_fname f named small = g.name_and_arity f named small

  -- ---- what an expression is spelled as

  abbrev SpellsAs : ℕ → CoreTree → List Lexeme → Type 0
  SpellsAs k (value_list es) ls = g.SpellsValues names most k (value_list es) ls
  SpellsAs k e ls = g.SpellsValue names most k e ls

  as_expression : (k : ℕ) (e : CoreTree) (ls : List Lexeme) → SpellsAs k e ls → g.SpellsExpr names most k e ls
  as_expression k (value_list es) ls s = g.an_expression s
  as_expression k e ls s = g.an_expression (g.a_value s)

  as_single : (k : ℕ) (e : CoreTree) (ls : List Lexeme) → w.IsSingle e → SpellsAs k e ls → g.SpellsSingle names most k e ls
  as_single k (value_list es) ls one s = absurd one
  as_single k e ls one s = g.a_single s

  all_of : (k : ℕ) (es : CoreTrees) → (w.AreSome es → g.SpellsSome names most k es (lexemes (l.all_pieces names es))) → g.SpellsAll names most k es (lexemes (l.all_pieces names es))
  all_of k end f = g.no_values
  all_of k (more e es) f = g.some_values (f tt)

  abbrev AreSomeSegments : CoreSegments → Type 0
  AreSomeSegments no_segments = ⊥
  AreSomeSegments (segment e size unit kind flags ss) = Unit {0}

  segments_of : (k : ℕ) (ss : CoreSegments) → (AreSomeSegments ss → g.SpellsSomeSegments names most k ss (lexemes (l.segments_pieces names ss))) → g.SpellsSegments names most k ss (lexemes (l.segments_pieces names ss))
  segments_of k no_segments f = g.nothing_in_binary
  segments_of k (segment e size unit kind flags ss) f = g.some_segments (f tt)

  abbrev AreSomePatSegments : PatSegments → Type 0
  AreSomePatSegments no_pat_segments = ⊥
  AreSomePatSegments (pat_segment e size unit kind flags ss) = Unit {0}

  pat_segments_of : (k : ℕ) (ss : PatSegments) → (AreSomePatSegments ss → g.SpellsSomePatSegments names most k ss (lexemes (l.pat_segments_pieces names ss))) → g.SpellsPatSegments names most k ss (lexemes (l.pat_segments_pieces names ss))
  pat_segments_of k no_pat_segments f = g.nothing_in_pattern
  pat_segments_of k (pat_segment e size unit kind flags ss) f = g.some_pattern_segments (f tt)

  all_pats_of : (k : ℕ) (ps : PatTrees) → (w.AreSomePats ps → g.SpellsSomePats names most k ps (lexemes (l.all_pat_pieces names ps))) → g.SpellsAllPats names most k ps (lexemes (l.all_pat_pieces names ps))
  all_pats_of k no_pats f = g.no_patterns
  all_pats_of k (more_pats p ps) f = g.some_patterns (f tt)

  spells_definition : (k : ℕ) (f : FName) (vs : List CoreVar) (b : CoreTree) (ps : List Piece) → w.Matches f vs → HasName names f.name → Each (readable names).variable vs
      → g.SpellsExpr names most k b (lexemes ps) → g.SpellsDef names most k f vs b (lexemes (l.def_of names f vs ps))
  spells_definition k f vs b ps matches named holds body =
      subst (g.SpellsDef names most k f vs b) (def_is names f vs ps)
      (g.a_definition matches.0 (g.bare (spells_fname f named matches.1)) (g.a_fun_of (spells_var_list vs holds) body))

  size_single : (size : CoreTree) → w.IsSize names size → w.IsSingle size
  size_single (value_list es) h = absurd h
  size_single e h = tt

  mutual
    pub spells : (k : ℕ) (e : CoreTree) → Holds (readable names) e → Fits most k (d.depth e) → SpellsAs k e (lexemes (pieces names e))
    spells k (var v) h f = g.a_variable (omega arith) (spells_bare_var v h.1)
    spells k (lit t) h f = g.a_literal (spells_lit k t h.1 f)
    spells k (fun_name fn) h f = g.a_function_name (omega arith) (spells_fname fn h.1.1 h.1.0)
    spells k (a_fun vs b) h f =
        let fits = part most k (d.depth b) f in
        subst (g.SpellsValue names most k (a_fun vs b)) (fun_is names vs (pieces names b))
        (g.a_function fits.0 (spells_var_list vs h.1) (as_expression (suc k) b _ (spells (suc k) b h.2 fits.1)))
    spells k (value_list end) h f = g.values (part most k 0 f).0 tt g.no_values
    spells k (value_list (more e end)) h f = absurd h.0.0
    spells k (value_list (more e (more u es))) h f =
        let fits = part most k (d.all_depth (more e (more u es))) f in
        subst (g.SpellsValues names most k (value_list (more e (more u es)))) (enclosed_is x.Less (l.all_pieces names (more e (more u es))) x.Greater)
        (g.values fits.0 tt (g.some_values (spells_some (suc k) (more e (more u es)) tt h.0.1.0 h.1 fits.1)))
    spells k (tuple es) h f =
        let fits = part most k (d.all_depth es) f in
        subst (g.SpellsValue names most k (tuple es)) (enclosed_is x.LeftBrace (l.all_pieces names es) x.RightBrace)
        (g.a_tuple fits.0 h.0.0 (all_of (suc k) es (λ s. spells_some (suc k) es s h.0.1.0 h.1 fits.1)))
    spells k (list es) h f =
        let fits = part most k (d.all_depth es) f in
        subst (g.SpellsValue names most k (list es)) (enclosed_is x.LeftBracket (l.all_pieces names es) x.RightBracket)
        (g.a_list fits.0 h.0.0 (all_of (suc k) es (λ s. spells_some (suc k) es s h.0.1.0 h.1 fits.1)))
    spells k (list_to es e) h f =
        let fits = part most k (max (d.all_depth es) (d.depth e)) f in
        let each = two most (suc k) (d.all_depth es) (d.depth e) fits.1 in
        subst (g.SpellsValue names most k (list_to es e)) (with_tail_is x.LeftBracket (l.all_pieces names es) (pieces names e) x.RightBracket)
        (g.a_list_to fits.0 h.0.0 (spells_some (suc k) es h.0.1.0.0 h.0.1.0.1 h.1 each.0) (as_single (suc k) e _ h.0.1.0.2 (spells (suc k) e h.2 each.1)))
    spells k (bin ss) h f =
        let fits = part most k (d.segments_depth ss) f in
        subst (g.SpellsValue names most k (bin ss)) (enclosed_is x.BinBegin (l.segments_pieces names ss) x.BinEnd)
        (g.a_binary fits.0 (segments_of (suc k) ss (λ s. spells_segments (suc k) ss s h.0.1.0 h.0.1.1 h.1 fits.1)))
    spells k (lets ss e) h f =
        let fits = part most k (max (d.steps_depth ss) (d.depth e)) f in
        let each = two most (suc k) (d.steps_depth ss) (d.depth e) fits.1 in
        g.a_run fits.0 (spells_run k ss e (pieces names e) h.0.0.0 h.0.0.1 h.1 each.0 (as_expression (suc k) e _ (spells (suc k) e h.2 each.1)))
    spells k (letrec ds b) h f =
        let fits = part most k (max (d.defs_depth ds) (d.depth b)) f in
        let each = two most (suc k) (d.defs_depth ds) (d.depth b) fits.1 in
        subst (g.SpellsValue names most k (letrec ds b)) (letrec_is (l.defs_pieces names ds) (pieces names b))
        (g.a_letrec fits.0 (spells_defs (suc k) ds h.0.1.0.0 h.0.1.0.1 h.0.1.1 h.1 each.0) (as_expression (suc k) b _ (spells (suc k) b h.2 each.1)))
    spells k (case_of e cs) h f =
        let fits = part most k (max (d.depth e) (d.clauses_depth cs)) f in
        let each = two most (suc k) (d.depth e) (d.clauses_depth cs) fits.1 in
        subst (g.SpellsValue names most k (case_of e cs)) (case_is (pieces names e) (l.clauses_pieces names cs))
        (g.a_case fits.0 h.0.1.0 (as_expression (suc k) e _ (spells (suc k) e h.1 each.0)) (spells_clauses (suc k) cs h.2 each.1))
    spells k (apply e es) h f =
        let fits = part most k (max (d.depth e) (d.all_depth es)) f in
        let each = two most (suc k) (d.depth e) (d.all_depth es) fits.1 in
        subst (g.SpellsValue names most k (apply e es)) (apply_is (pieces names e) (l.all_pieces names es))
        (g.an_application fits.0 (as_single (suc k) e _ h.0.1.0.0 (spells (suc k) e h.1 each.0)) (all_of (suc k) es (λ s. spells_some (suc k) es s h.0.1.0.1 h.2 each.1)))
    spells k (call m e es) h f =
        let fits = part most k (max (d.depth m) (max (d.depth e) (d.all_depth es))) f in
        let each = three most (suc k) (d.depth m) (d.depth e) (d.all_depth es) fits.1 in
        subst (g.SpellsValue names most k (call m e es)) (call_is (pieces names m) (pieces names e) (l.all_pieces names es))
        (g.a_call fits.0 (as_single (suc k) m _ h.0.1.0.0 (spells (suc k) m h.1 each.0)) (as_single (suc k) e _ h.0.1.0.1 (spells (suc k) e h.2 each.1))
        (all_of (suc k) es (λ s. spells_some (suc k) es s h.0.1.0.2 h.3 each.2)))
    spells k (primop n es) h f =
        let fits = part most k (d.all_depth es) f in
        subst (g.SpellsValue names most k (primop n es)) (primop_is names n (l.all_pieces names es))
        (g.a_primop fits.0 h.0.1.1 (all_of (suc k) es (λ s. spells_some (suc k) es s h.0.1.0 h.1 fits.1)))
    spells k (do_then a b) h f =
        let fits = part most k (max (d.depth a) (d.depth b)) f in
        let each = two most (suc k) (d.depth a) (d.depth b) fits.1 in
        subst (g.SpellsValue names most k (do_then a b)) (do_is (pieces names a) (pieces names b))
        (g.a_do fits.0 (as_expression (suc k) a _ (spells (suc k) a h.1 each.0)) (as_expression (suc k) b _ (spells (suc k) b h.2 each.1)))
    spells k (receive cs t b) h f =
        let fits = part most k (max (d.clauses_depth cs) (max (d.depth t) (d.depth b))) f in
        let each = three most (suc k) (d.clauses_depth cs) (d.depth t) (d.depth b) fits.1 in
        subst (g.SpellsValue names most k (receive cs t b)) (receive_is (l.clauses_pieces names cs) (pieces names t) (pieces names b))
        (g.a_receive fits.0 (spells_clauses (suc k) cs h.1 each.0) (as_expression (suc k) t _ (spells (suc k) t h.2 each.1)) (as_expression (suc k) b _ (spells (suc k) b h.3 each.2)))
    spells k (try_catch a vs b ws e) h f =
        let fits = part most k (max (d.depth a) (max (d.depth b) (d.depth e))) f in
        let each = three most (suc k) (d.depth a) (d.depth b) (d.depth e) fits.1 in
        subst (g.SpellsValue names most k (try_catch a vs b ws e)) (try_is (pieces names a) (l.vars_pieces names vs) (pieces names b) (l.vars_pieces names ws) (pieces names e))
        (g.a_try fits.0 (as_expression (suc k) a _ (spells (suc k) a h.1 each.0)) (spells_vars vs h.2) (as_expression (suc k) b _ (spells (suc k) b h.3 each.1))
        (spells_vars ws h.4) (as_expression (suc k) e _ (spells (suc k) e h.5 each.2)))

    spells_some : (k : ℕ) (es : CoreTrees) → w.AreSome es → w.AreSingle es → AllHold (readable names) es → Fits most k (d.all_depth es)
        → g.SpellsSome names most k es (lexemes (l.all_pieces names es))
    spells_some k end s one h f = absurd s
    spells_some k (more e end) s one h f =
        subst (g.SpellsSome names most k (more e end)) (alone_is (pieces names e)) (g.one_value (as_single k e _ one.0 (spells k e h.0 (two most k (d.depth e) 0 f).0)))
    spells_some k (more e (more u es)) s one h f =
        let each = two most k (d.depth e) (d.all_depth (more u es)) f in
        subst (g.SpellsSome names most k (more e (more u es))) (separated_is (pieces names e) (l.all_pieces names (more u es)))
        (g.and_values (as_single k e _ one.0 (spells k e h.0 each.0)) (spells_some k (more u es) tt one.1 h.1 each.1))

    spells_segments : (k : ℕ) (ss : CoreSegments) → AreSomeSegments ss → w.AreSingleSegments ss → KindsOf names ss → SegmentsHold (readable names) ss → Fits most k (d.segments_depth ss)
        → g.SpellsSomeSegments names most k ss (lexemes (l.segments_pieces names ss))
    spells_segments k no_segments s one kinds h f = absurd s
    spells_segments k (segment e size unit kind flags no_segments) s one kinds h f =
        let each = four most k (d.depth e) (d.depth size) (d.lit_depth flags) 0 f in
        subst (g.SpellsSomeSegments names most k (segment e size unit kind flags no_segments))
        (segment_is names (pieces names e) (pieces names size) unit kind flags ∙ alone_is (l.segment_of names (pieces names e) (pieces names size) unit kind flags))
        (g.one_segment (as_single k e _ one.0 (spells k e h.0 each.0)) (as_single k size _ one.1 (spells k size h.1 each.1)) kinds.0 (spells_lit k flags h.2 each.2))
    spells_segments k (segment e size unit kind flags (segment e' size' unit' kind' flags' ss)) s one kinds h f =
        let each = four most k (d.depth e) (d.depth size) (d.lit_depth flags) (d.segments_depth (segment e' size' unit' kind' flags' ss)) f in
        let more_segments = l.segments_pieces names (segment e' size' unit' kind' flags' ss) in
        subst (g.SpellsSomeSegments names most k (segment e size unit kind flags (segment e' size' unit' kind' flags' ss)))
        (ap (λ z. z ++ Sym x.Comma ∷ lexemes more_segments) (segment_is names (pieces names e) (pieces names size) unit kind flags)
        ∙ separated_is (l.segment_of names (pieces names e) (pieces names size) unit kind flags) more_segments)
        (g.and_segments (as_single k e _ one.0 (spells k e h.0 each.0)) (as_single k size _ one.1 (spells k size h.1 each.1)) kinds.0 (spells_lit k flags h.2 each.2)
        (spells_segments k (segment e' size' unit' kind' flags' ss) tt one.3 kinds.1 h.3 each.3))

    spells_run : (k : ℕ) (ss : CoreSteps) (b : CoreTree) (ps : List Piece) → n.IsRun ss → n.IsNoRun b → StepsHold (readable names) ss → Fits most (suc k) (d.steps_depth ss)
        → g.SpellsExpr names most (suc k) b (lexemes ps) → g.SpellsRun names most k ss b (lexemes (l.steps_pieces names ss ++ ps))
    spells_run k done b ps run no_run h f body = absurd run
    spells_run k (step vs e done) b ps run no_run h f body =
        let each = two most (suc k) (d.depth e) 0 f in
        subst (g.SpellsRun names most k (step vs e done) b) (let_is names vs (pieces names e) ps ∙ ap (λ z. lexemes (z ++ ps)) (sym (append-nil (l.let_of names vs (pieces names e)))))
        (g.last_let no_run (spells_vars vs h.0) (as_expression (suc k) e _ (spells (suc k) e h.1 each.0)) body)
    spells_run k (step vs e (step us u ss)) b ps run no_run h f body =
        let each = two most (suc k) (d.depth e) (d.steps_depth (step us u ss)) f in
        subst (g.SpellsRun names most k (step vs e (step us u ss)) b)
        (let_is names vs (pieces names e) (l.steps_pieces names (step us u ss) ++ ps)
        ∙ ap lexemes (sym (append_assoc (l.let_of names vs (pieces names e)) (l.steps_pieces names (step us u ss)) ps)))
        (g.and_let (spells_vars vs h.0) (as_expression (suc k) e _ (spells (suc k) e h.1 each.0)) (g.a_let (spells_run k (step us u ss) b ps tt no_run h.2 each.1 body)))

    spells_defs : (k : ℕ) (ds : CoreDefs) → w.AreSomeDefs ds → w.AllMatch ds → FNamesOf names ds → DefsHold (readable names) ds → Fits most k (d.defs_depth ds)
        → g.SpellsDefs names most k ds (lexemes (l.defs_pieces names ds))
    spells_defs k no_defs s matches named h f = absurd s
    spells_defs k (def fn vs b no_defs) s matches named h f =
        subst (g.SpellsDefs names most k (def fn vs b no_defs)) (alone_is (l.def_of names fn vs (pieces names b)))
        (g.one_definition (spells_definition k fn vs b (pieces names b) matches.0 named.0 h.0 (as_expression k b _ (spells k b h.1 (two most k (d.depth b) 0 f).0))))
    spells_defs k (def fn vs b (def fn' vs' b' ds)) s matches named h f =
        let each = two most k (d.depth b) (d.defs_depth (def fn' vs' b' ds)) f in
        subst (g.SpellsDefs names most k (def fn vs b (def fn' vs' b' ds)))
        (sym (lexemes-append (l.def_of names fn vs (pieces names b)) (l.defs_pieces names (def fn' vs' b' ds))))
        (g.and_definitions (spells_definition k fn vs b (pieces names b) matches.0 named.0 h.0 (as_expression k b _ (spells k b h.1 each.0)))
        (spells_defs k (def fn' vs' b' ds) tt matches.1 named.1 h.2 each.1))

    spells_clauses : (k : ℕ) (cs : CoreClauses) → ClausesHold (readable names) cs → Fits most k (d.clauses_depth cs) → g.SpellsClauses names most k cs (lexemes (l.clauses_pieces names cs))
    spells_clauses k no_clauses h f = g.no_clause
    spells_clauses k (clause ps u b cs) h f =
        let each = four most k (d.pats_depth ps) (d.depth u) (d.depth b) (d.clauses_depth cs) f in
        subst (g.SpellsClauses names most k (clause ps u b cs))
        (ap (λ z. z ++ lexemes (l.clauses_pieces names cs)) (clause_is names (l.pats_pieces names ps) (pieces names u) (pieces names b))
        ∙ sym (lexemes-append (l.clause_of names (l.pats_pieces names ps) (pieces names u) (pieces names b)) (l.clauses_pieces names cs)))
        (g.and_clauses (g.a_clause (spells_pats k ps h.0 each.0) (as_expression k u _ (spells k u h.1 each.1)) (as_expression k b _ (spells k b h.2 each.2)))
        (spells_clauses k cs h.3 each.3))

    spells_pats : (k : ℕ) (ps : PatTrees) → PatsHold (readable names) ps → Fits most k (d.pats_depth ps) → g.SpellsPats names most k ps (lexemes (l.pats_pieces names ps))
    spells_pats k no_pats h f = g.patterns g.no_patterns
    spells_pats k (more_pats p no_pats) h f = g.one_pattern (g.a_pattern (spells_pat k p h.0 (two most k (d.pat_depth p) 0 f).0))
    spells_pats k (more_pats p (more_pats q ps)) h f =
        let each = two most k (d.pat_depth p) (d.pats_depth (more_pats q ps)) f in
        subst (g.SpellsPats names most k (more_pats p (more_pats q ps))) (enclosed_is x.Less (l.all_pat_pieces names (more_pats p (more_pats q ps))) x.Greater)
        (g.patterns (g.some_patterns (subst (g.SpellsSomePats names most k (more_pats p (more_pats q ps))) (separated_is (l.pat_pieces names p) (l.all_pat_pieces names (more_pats q ps)))
        (g.and_patterns (g.a_pattern (spells_pat k p h.0 each.0)) (spells_some_pats k (more_pats q ps) tt h.1 each.1)))))

    spells_some_pats : (k : ℕ) (ps : PatTrees) → w.AreSomePats ps → PatsHold (readable names) ps → Fits most k (d.pats_depth ps)
        → g.SpellsSomePats names most k ps (lexemes (l.all_pat_pieces names ps))
    spells_some_pats k no_pats s h f = absurd s
    spells_some_pats k (more_pats p no_pats) s h f =
        subst (g.SpellsSomePats names most k (more_pats p no_pats)) (alone_is (l.pat_pieces names p)) (g.one_of_patterns (g.a_pattern (spells_pat k p h.0 (two most k (d.pat_depth p) 0 f).0)))
    spells_some_pats k (more_pats p (more_pats q ps)) s h f =
        let each = two most k (d.pat_depth p) (d.pats_depth (more_pats q ps)) f in
        subst (g.SpellsSomePats names most k (more_pats p (more_pats q ps))) (separated_is (l.pat_pieces names p) (l.all_pat_pieces names (more_pats q ps)))
        (g.and_patterns (g.a_pattern (spells_pat k p h.0 each.0)) (spells_some_pats k (more_pats q ps) tt h.1 each.1))

    spells_pat : (k : ℕ) (p : PatTree) → PatHolds (readable names) p → Fits most k (d.pat_depth p) → g.SpellsBarePat names most k p (lexemes (l.pat_pieces names p))
    spells_pat k (pat_var v) h f = g.a_variable_pattern (omega arith) (spells_bare_var v h.1)
    spells_pat k (pat_lit t) h f = g.a_literal_pattern (spells_lit k t h.1 f)
    spells_pat k (pat_tuple ps) h f =
        let fits = part most k (d.pats_depth ps) f in
        subst (g.SpellsBarePat names most k (pat_tuple ps)) (enclosed_is x.LeftBrace (l.all_pat_pieces names ps) x.RightBrace)
        (g.a_tuple_pattern fits.0 h.0.0 (all_pats_of (suc k) ps (λ s. spells_some_pats (suc k) ps s h.1 fits.1)))
    spells_pat k (pat_list ps) h f =
        let fits = part most k (d.pats_depth ps) f in
        subst (g.SpellsBarePat names most k (pat_list ps)) (enclosed_is x.LeftBracket (l.all_pat_pieces names ps) x.RightBracket)
        (g.a_list_pattern fits.0 h.0.0 (all_pats_of (suc k) ps (λ s. spells_some_pats (suc k) ps s h.1 fits.1)))
    spells_pat k (pat_list_to ps p) h f =
        let fits = part most k (max (d.pats_depth ps) (d.pat_depth p)) f in
        let each = two most (suc k) (d.pats_depth ps) (d.pat_depth p) fits.1 in
        subst (g.SpellsBarePat names most k (pat_list_to ps p)) (with_tail_is x.LeftBracket (l.all_pat_pieces names ps) (l.pat_pieces names p) x.RightBracket)
        (g.a_list_to_pattern fits.0 h.0.0 (spells_some_pats (suc k) ps h.0.1.0 h.1 each.0) (g.a_pattern (spells_pat (suc k) p h.2 each.1)))
    spells_pat k (alias v p) h f =
        let fits = part most k (d.pat_depth p) f in
        subst (g.SpellsBarePat names most k (alias v p)) (alias_is (l.var_pieces names v) (l.pat_pieces names p))
        (g.an_alias fits.0 (spells_var v h.1) (g.a_pattern (spells_pat (suc k) p h.2 fits.1)))
    spells_pat k (pat_bin ss) h f =
        let fits = part most k (d.pat_segments_depth ss) f in
        subst (g.SpellsBarePat names most k (pat_bin ss)) (enclosed_is x.BinBegin (l.pat_segments_pieces names ss) x.BinEnd)
        (g.a_binary_pattern fits.0 (pat_segments_of (suc k) ss (λ s. spells_pat_segments (suc k) ss s h.0.1.0 h.0.1.1 h.1 fits.1)))

    spells_pat_segments : (k : ℕ) (ss : PatSegments) → AreSomePatSegments ss → w.HaveSizes names ss → PatKindsOf names ss → PatSegmentsHold (readable names) ss → Fits most k (d.pat_segments_depth ss)
        → g.SpellsSomePatSegments names most k ss (lexemes (l.pat_segments_pieces names ss))
    spells_pat_segments k no_pat_segments s sizes kinds h f = absurd s
    spells_pat_segments k (pat_segment p size unit kind flags no_pat_segments) s sizes kinds h f =
        let each = four most k (d.pat_depth p) (d.depth size) (d.lit_depth flags) 0 f in
        subst (g.SpellsSomePatSegments names most k (pat_segment p size unit kind flags no_pat_segments))
        (segment_is names (l.pat_pieces names p) (pieces names size) unit kind flags ∙ alone_is (l.segment_of names (l.pat_pieces names p) (pieces names size) unit kind flags))
        (g.one_pattern_segment sizes.0 (g.a_pattern (spells_pat k p h.0 each.0)) (as_single k size _ (size_single size sizes.0) (spells k size h.1 each.1)) kinds.0 (spells_lit k flags h.2 each.2))
    spells_pat_segments k (pat_segment p size unit kind flags (pat_segment p' size' unit' kind' flags' ss)) s sizes kinds h f =
        let each = four most k (d.pat_depth p) (d.depth size) (d.lit_depth flags) (d.pat_segments_depth (pat_segment p' size' unit' kind' flags' ss)) f in
        let more_segments = l.pat_segments_pieces names (pat_segment p' size' unit' kind' flags' ss) in
        subst (g.SpellsSomePatSegments names most k (pat_segment p size unit kind flags (pat_segment p' size' unit' kind' flags' ss)))
        (ap (λ z. z ++ Sym x.Comma ∷ lexemes more_segments) (segment_is names (l.pat_pieces names p) (pieces names size) unit kind flags)
        ∙ separated_is (l.segment_of names (l.pat_pieces names p) (pieces names size) unit kind flags) more_segments)
        (g.and_pattern_segments sizes.0 (g.a_pattern (spells_pat k p h.0 each.0)) (as_single k size _ (size_single size sizes.0) (spells k size h.1 each.1)) kinds.0 (spells_lit k flags h.2 each.2)
        (spells_pat_segments k (pat_segment p' size' unit' kind' flags' ss) tt sizes.2 kinds.1 h.3 each.3))

  -- ---- modules

  abbrev IsNamed : FName → Type 0
  IsNamed f = HasName names f.name × (f.arity < 2 ^ 32)

  abbrev IsTerm : AttributeTree → Type 0
  IsTerm a = HasName names a.name × LitHolds (readable names) a.term × Fits most 1 (d.lit_depth a.term)

  abbrev IsFunction : DefTree → Type 0
  IsFunction t = HasName names t.name.name × w.Matches t.name t.params × DefHolds (readable names) t × Fits most 1 (d.depth t.body)

  spells_attribute : (a : AttributeTree) → IsTerm a → g.SpellsAttribute names most a (lexemes (l.attribute_pieces names a))
  spells_attribute a h = g.an_attribute h.0 (spells_lit 1 a.term h.1 h.2)

  spells_functions : (ds : List DefTree) → Each IsFunction ds → g.SpellsModuleDefs names most ds (lexemes (flat_map (l.def_pieces names) ds))
  spells_functions [] h = g.no_more_functions
  spells_functions (t ∷ ds) h =
      subst (g.SpellsModuleDefs names most (t ∷ ds)) (sym (lexemes-append (l.def_of names t.name t.params (pieces names t.body)) (flat_map (l.def_pieces names) ds)))
      (g.and_functions
      (spells_definition 1 t.name t.params t.body (pieces names t.body) h.0.1 h.0.0 h.0.2.0 (as_expression 1 t.body _ (spells 1 t.body h.0.2.1 h.0.3)))
      (spells_functions ds h.1))

  pub spells_module : (m : CoreModuleTree) → HasName names m.name → Each IsNamed m.exports → Each IsTerm m.attributes → Each IsFunction m.defs
      → g.SpellsModule names most m (lexemes (l.module_pieces names m))
  spells_module m named exports attributes defs =
      subst (g.SpellsModule names most m) (module_is names m)
      (g.bare (g.a_module named
      (spells_listed (g.SpellsFName names most) (l.fname_pieces names) IsNamed (λ f h. spells_fname f h.0 h.1) m.exports exports)
      (spells_listed (g.SpellsAttribute names most) (l.attribute_pieces names) IsTerm spells_attribute m.attributes attributes)
      (spells_functions m.defs defs)))
