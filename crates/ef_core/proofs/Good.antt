-- The pieces of a tree are good lexemes.
use Rattle.std.specs.Prelude.{ℕ, ℤ, pos, ◌<◌, ◌^◌, List, [], ◌∷◌, ◌++◌, chars, decimal, flat_map}
use Rattle.std.proofs.Common.{arith}
use Rattle.ef_base.specs.declared.name.Name.{Name}
use Rattle.ef_base.specs.Texts.{Texts, AllUtf8, HasName, text}
use Rattle.ef_core.specs.declared.literal.CoreVar.{CoreVar}
use Rattle.ef_core.specs.declared.literal.CoreVar.TheVariants.{Numbered, Named}
use Rattle.ef_core.specs.declared.literal.FName.{FName}
use Rattle.ef_core.specs.Everywhere.{Each, DefHolds, Holds, AllHold, SegmentsHold, StepsHold, DefsHold, ClausesHold, PatHolds, PatsHold, PatSegmentsHold, LitHolds, LitsHold}
use Rattle.ef_core.specs.Layout as l
use Rattle.ef_core.specs.Layout.{enclosed, pieces}
use Rattle.ef_core.specs.Lexeme as x
use Rattle.ef_core.specs.Lexeme.{Lexeme, Symbol}
use Rattle.ef_core.specs.OfTable.{KindsOf, PatKindsOf, FNamesOf}
use Rattle.ef_core.specs.Pieces.{Piece, Break, Put, put_sym, put_word}
use Rattle.ef_core.specs.Readable.{readable}
use Rattle.ef_core.specs.WellFormed as w
use Rattle.ef_core.specs.WellFormed.{IsInRange}
use Rattle.ef_core.specs.Tree.{LitTree, LitTrees, CoreTree, CoreTrees, CoreSegments, CoreSteps, CoreDefs, CoreClauses, PatTree, PatTrees, PatSegments, AttributeTree, DefTree, CoreModuleTree, int, atom, lit_list, lit_list_to, lit_tuple, no_lits, more_lits, var, lit, fun_name, a_fun, value_list, tuple, list, list_to, bin, lets, letrec, case_of, apply, call, primop, do_then, receive, try_catch, end, more, no_segments, segment, done, step, no_defs, def, no_clauses, clause, pat_var, pat_lit, pat_tuple, pat_list, pat_list_to, alias, pat_bin, no_pats, more_pats, no_pat_segments, pat_segment}
use Rattle.ef_core.proofs.Ascii.{utf8_characters, numbered_good}
use Rattle.ef_core.proofs.Longest.{Good}
use Rattle.ef_core.proofs.Printed.{AllGood, all_good-append}

-- all lexemes of the pieces are good
pub record IsGood (ps : List Piece) : Type 0 where
  pub all : AllGood ps

good_none : IsGood []
good_none = record { all = tt }

-- one after the other
and : {ps qs : List Piece} → IsGood ps → IsGood qs → IsGood (ps ++ qs)
and {ps} {qs} p q = record { all = all_good-append ps qs p.all q.all }

by_lexeme : {ps : List Piece} (x : Lexeme) → Good x → IsGood ps → IsGood (Put x ∷ ps)
by_lexeme x g h = record { all = (g, h.all) }

by_symbol : {ps : List Piece} (a : Symbol) → IsGood ps → IsGood (put_sym a ++ ps)
by_symbol a h = record { all = (tt, h.all) }

by_word : {ps : List Piece} (a : x.Word) → IsGood ps → IsGood (put_word a ++ ps)
by_word a h = record { all = (tt, h.all) }

by_break : {ps : List Piece} → IsGood ps → IsGood (Break ∷ ps)
by_break h = record { all = h.all }

enclosed_good : {ps : List Piece} (a b : Symbol) → IsGood ps → IsGood (enclosed a ps b)
enclosed_good a b h = by_symbol a (and h (by_symbol b good_none))

tail_good : {ps qs : List Piece} (a b : Symbol) → IsGood ps → IsGood qs → IsGood (enclosed a (ps ++ (put_sym x.Bar ++ qs)) b)
tail_good a b p q = enclosed_good a b (and p (by_symbol x.Bar q))

module _ (names : Texts) (utf8 : AllUtf8 names) where
  good_atom : (n : Name) → HasName names n → IsGood (l.atom_pieces names n)
  good_atom n named = by_lexeme (x.Atom (chars (text names n))) (utf8_characters (text names n) (utf8 n named)) good_none

  good_var : (v : CoreVar) → (readable names).variable v → IsGood (l.var_pieces names v)
  good_var (Numbered n) h = by_lexeme (x.Var (95 ∷ decimal n)) (numbered_good n (small n h.1.0)) good_none
    where
      small : (n : ℕ) → n < 2 ^ 32 → n < 10 ^ 64
      small n h = omega arith
  good_var (Named n) h = by_lexeme (x.Var (text names n)) h.1.0 good_none

  good_fname : (f : FName) → HasName names f.name → f.arity < 2 ^ 32 → IsGood (l.fname_pieces names f)
  good_fname f named small = and (good_atom f.name named) (by_symbol x.Slash (by_lexeme (x.Int (pos f.arity)) (less f.arity small) good_none))
    where
      less : (n : ℕ) → n < 2 ^ 32 → n < 2 ^ 127
      less n h = omega arith

  mutual
    good_lit : (t : LitTree) → LitHolds (readable names) t → IsGood (l.lit_pieces names t)
    good_lit (int i) h = by_lexeme (x.Int i) h.1.0 good_none
    good_lit (atom n) h = good_atom n h.1.1
    good_lit (lit_list ts) h = enclosed_good x.LeftBracket x.RightBracket (good_lits ts h.1)
    good_lit (lit_list_to ts t) h = tail_good x.LeftBracket x.RightBracket (good_lits ts h.1) (good_lit t h.2)
    good_lit (lit_tuple ts) h = enclosed_good x.LeftBrace x.RightBrace (good_lits ts h.1)

    good_lits : (ts : LitTrees) → LitsHold (readable names) ts → IsGood (l.lits_pieces names ts)
    good_lits no_lits h = good_none
    good_lits (more_lits t ts) h = and (good_lit t h.0) (good_more_lits ts h.1)

    good_more_lits : (ts : LitTrees) → LitsHold (readable names) ts → IsGood (l.more_lits_pieces names ts)
    good_more_lits no_lits h = good_none
    good_more_lits (more_lits t ts) h = by_symbol x.Comma (and (good_lit t h.0) (good_more_lits ts h.1))

  good_more_vars : (vs : List CoreVar) → Each (readable names).variable vs → IsGood (flat_map (λ v. put_sym x.Comma ++ l.var_pieces names v) vs)
  good_more_vars [] h = good_none
  good_more_vars (v ∷ vs) h = by_symbol x.Comma (and (good_var v h.0) (good_more_vars vs h.1))

  good_var_list : (vs : List CoreVar) → Each (readable names).variable vs → IsGood (l.var_list names vs)
  good_var_list [] h = good_none
  good_var_list (v ∷ vs) h = and (good_var v h.0) (good_more_vars vs h.1)

  good_vars : (vs : List CoreVar) → Each (readable names).variable vs → IsGood (l.vars_pieces names vs)
  good_vars [] h = enclosed_good x.Less x.Greater good_none
  good_vars (v ∷ []) h = good_var v h.0
  good_vars (v ∷ u ∷ vs) h = enclosed_good x.Less x.Greater (good_var_list (v ∷ u ∷ vs) h)

  good_params : (vs : List CoreVar) → Each (readable names).variable vs → IsGood (l.params_pieces names vs)
  good_params vs h = by_word x.Fun (and (enclosed_good x.LeftParen x.RightParen (good_var_list vs h)) (by_symbol x.Arrow good_none))

  good_segment : (value size : List Piece) (unit : ℤ) (kind : Name) (flags : LitTree) → IsGood value → IsGood size → IsInRange unit → HasName names kind → LitHolds (readable names) flags
      → IsGood (l.segment_of names value size unit kind flags)
  good_segment value size unit kind flags v s u k f =
      and (enclosed_good x.SegmentBegin x.Greater v)
      (enclosed_good x.LeftParen x.RightParen
      (and s (by_symbol x.Comma (by_lexeme (x.Int unit) u (by_symbol x.Comma (and (good_atom kind k) (by_symbol x.Comma (good_lit flags f))))))))

  good_let : (vs : List CoreVar) (value : List Piece) → Each (readable names).variable vs → IsGood value → IsGood (l.let_of names vs value)
  good_let vs value h v = by_word x.Let (and (good_vars vs h) (by_symbol x.Equals (and v (by_word x.In (by_break good_none)))))

  good_def : (f : FName) (vs : List CoreVar) (body : List Piece) → HasName names f.name → w.Matches f vs → Each (readable names).variable vs → IsGood body → IsGood (l.def_of names f vs body)
  good_def f vs body named matches h b = and (good_fname f named matches.1) (by_symbol x.Equals (and (good_params vs h) b))

  good_clause : {ps guard body : List Piece} → IsGood ps → IsGood guard → IsGood body → IsGood (l.clause_of names ps guard body)
  good_clause p u b = by_break (and p (by_word x.When (and u (by_symbol x.Arrow b))))

  good_args : {ps : List Piece} → IsGood ps → IsGood (l.in_parentheses ps)
  good_args h = enclosed_good x.LeftParen x.RightParen h

  mutual
    pub good : (e : CoreTree) → Holds (readable names) e → IsGood (pieces names e)
    good (var v) h = good_var v h.1
    good (lit t) h = good_lit t h.1
    good (fun_name f) h = good_fname f h.1.1 h.1.0
    good (a_fun vs b) h = and (good_params vs h.1) (good b h.2)
    good (value_list es) h = good_values es h.1
    good (tuple es) h = enclosed_good x.LeftBrace x.RightBrace (good_all es h.1)
    good (list es) h = enclosed_good x.LeftBracket x.RightBracket (good_all es h.1)
    good (list_to es e) h = tail_good x.LeftBracket x.RightBracket (good_all es h.1) (good e h.2)
    good (bin ss) h = enclosed_good x.BinBegin x.BinEnd (good_segments ss h.0.1.0 h.0.1.1 h.1)
    good (lets ss e) h = and (good_steps ss h.1) (good e h.2)
    good (letrec ds b) h = by_word x.Letrec (and (good_defs ds h.0.1.0.1 h.0.1.1 h.1) (by_word x.In (by_break (good b h.2))))
    good (case_of e cs) h = by_word x.Case (and (good e h.1) (by_word x.Of (and (good_clauses cs h.2) (by_word x.End good_none))))
    good (apply e es) h = by_word x.Apply (and (good e h.1) (good_args (good_all es h.2)))
    good (call m e es) h = by_word x.Call (and (good m h.1) (by_symbol x.Colon (and (good e h.2) (good_args (good_all es h.3)))))
    good (primop n es) h = by_word x.Primop (and (good_atom n h.0.1.1) (good_args (good_all es h.1)))
    good (do_then a b) h = by_word x.Do (and (good a h.1) (good b h.2))
    good (receive cs t b) h = by_word x.Receive (and (good_clauses cs h.1) (by_word x.After (and (good t h.2) (by_symbol x.Arrow (good b h.3)))))
    good (try_catch a vs b ws e) h =
        by_word x.Try (and (good a h.1) (by_word x.Of (and (good_vars vs h.2) (by_symbol x.Arrow (and (good b h.3)
        (by_word x.Catch (and (good_vars ws h.4) (by_symbol x.Arrow (good e h.5)))))))))

    good_all : (es : CoreTrees) → AllHold (readable names) es → IsGood (l.all_pieces names es)
    good_all end h = good_none
    good_all (more e es) h = and (good e h.0) (good_more es h.1)

    good_more : (es : CoreTrees) → AllHold (readable names) es → IsGood (l.more_pieces names es)
    good_more end h = good_none
    good_more (more e es) h = by_symbol x.Comma (and (good e h.0) (good_more es h.1))

    good_values : (es : CoreTrees) → AllHold (readable names) es → IsGood (l.values_pieces names es)
    good_values end h = enclosed_good x.Less x.Greater good_none
    good_values (more e end) h = good e h.0
    good_values (more e (more u es)) h = enclosed_good x.Less x.Greater (and (good e h.0) (good_more (more u es) h.1))

    good_segments : (ss : CoreSegments) → w.AreSingleSegments ss → KindsOf names ss → SegmentsHold (readable names) ss → IsGood (l.segments_pieces names ss)
    good_segments no_segments one kinds h = good_none
    good_segments (segment e size unit kind flags ss) one kinds h =
        and (good_segment (pieces names e) (pieces names size) unit kind flags (good e h.0) (good size h.1) one.2 kinds.0 h.2) (good_more_segments ss one.3 kinds.1 h.3)

    good_more_segments : (ss : CoreSegments) → w.AreSingleSegments ss → KindsOf names ss → SegmentsHold (readable names) ss → IsGood (l.more_segments_pieces names ss)
    good_more_segments no_segments one kinds h = good_none
    good_more_segments (segment e size unit kind flags ss) one kinds h =
        by_symbol x.Comma (and (good_segment (pieces names e) (pieces names size) unit kind flags (good e h.0) (good size h.1) one.2 kinds.0 h.2) (good_more_segments ss one.3 kinds.1 h.3))

    good_steps : (ss : CoreSteps) → StepsHold (readable names) ss → IsGood (l.steps_pieces names ss)
    good_steps done h = good_none
    good_steps (step vs e ss) h = and (good_let vs (pieces names e) h.0 (good e h.1)) (good_steps ss h.2)

    good_defs : (ds : CoreDefs) → w.AllMatch ds → FNamesOf names ds → DefsHold (readable names) ds → IsGood (l.defs_pieces names ds)
    good_defs no_defs matches named h = good_none
    good_defs (def f vs b ds) matches named h = and (good_def f vs (pieces names b) named.0 matches.0 h.0 (good b h.1)) (good_defs ds matches.1 named.1 h.2)

    good_clauses : (cs : CoreClauses) → ClausesHold (readable names) cs → IsGood (l.clauses_pieces names cs)
    good_clauses no_clauses h = good_none
    good_clauses (clause ps u b cs) h = and (good_clause (good_pats ps h.0) (good u h.1) (good b h.2)) (good_clauses cs h.3)

    good_pats : (ps : PatTrees) → PatsHold (readable names) ps → IsGood (l.pats_pieces names ps)
    good_pats no_pats h = enclosed_good x.Less x.Greater good_none
    good_pats (more_pats p no_pats) h = good_pat p h.0
    good_pats (more_pats p (more_pats q ps)) h = enclosed_good x.Less x.Greater (and (good_pat p h.0) (good_more_pats (more_pats q ps) h.1))

    good_all_pats : (ps : PatTrees) → PatsHold (readable names) ps → IsGood (l.all_pat_pieces names ps)
    good_all_pats no_pats h = good_none
    good_all_pats (more_pats p ps) h = and (good_pat p h.0) (good_more_pats ps h.1)

    good_more_pats : (ps : PatTrees) → PatsHold (readable names) ps → IsGood (l.more_pat_pieces names ps)
    good_more_pats no_pats h = good_none
    good_more_pats (more_pats p ps) h = by_symbol x.Comma (and (good_pat p h.0) (good_more_pats ps h.1))

    good_pat : (p : PatTree) → PatHolds (readable names) p → IsGood (l.pat_pieces names p)
    good_pat (pat_var v) h = good_var v h.1
    good_pat (pat_lit t) h = good_lit t h.1
    good_pat (pat_tuple ps) h = enclosed_good x.LeftBrace x.RightBrace (good_all_pats ps h.1)
    good_pat (pat_list ps) h = enclosed_good x.LeftBracket x.RightBracket (good_all_pats ps h.1)
    good_pat (pat_list_to ps p) h = tail_good x.LeftBracket x.RightBracket (good_all_pats ps h.1) (good_pat p h.2)
    good_pat (alias v p) h = and (good_var v h.1) (by_symbol x.Equals (good_pat p h.2))
    good_pat (pat_bin ss) h = enclosed_good x.BinBegin x.BinEnd (good_pat_segments ss h.0.1.0 h.0.1.1 h.1)

    good_pat_segments : (ss : PatSegments) → w.HaveSizes names ss → PatKindsOf names ss → PatSegmentsHold (readable names) ss → IsGood (l.pat_segments_pieces names ss)
    good_pat_segments no_pat_segments sizes kinds h = good_none
    good_pat_segments (pat_segment p size unit kind flags ss) sizes kinds h =
        and (good_segment (l.pat_pieces names p) (pieces names size) unit kind flags (good_pat p h.0) (good size h.1) sizes.1 kinds.0 h.2) (good_more_pat_segments ss sizes.2 kinds.1 h.3)

    good_more_pat_segments : (ss : PatSegments) → w.HaveSizes names ss → PatKindsOf names ss → PatSegmentsHold (readable names) ss → IsGood (l.more_pat_segments_pieces names ss)
    good_more_pat_segments no_pat_segments sizes kinds h = good_none
    good_more_pat_segments (pat_segment p size unit kind flags ss) sizes kinds h =
        by_symbol x.Comma (and (good_segment (l.pat_pieces names p) (pieces names size) unit kind flags (good_pat p h.0) (good size h.1) sizes.1 kinds.0 h.2) (good_more_pat_segments ss sizes.2 kinds.1 h.3))

  -- ---- modules

  good_fnames : (fs : List FName) → Each (λ f. HasName names f.name × (f.arity < 2 ^ 32)) fs → IsGood (flat_map (λ f. put_sym x.Comma ++ l.fname_pieces names f) fs)
  good_fnames [] h = good_none
  good_fnames (f ∷ fs) h = by_symbol x.Comma (and (good_fname f h.0.0 h.0.1) (good_fnames fs h.1))

  good_fname_list : (fs : List FName) → Each (λ f. HasName names f.name × (f.arity < 2 ^ 32)) fs → IsGood (l.fname_list names fs)
  good_fname_list [] h = good_none
  good_fname_list (f ∷ fs) h = and (good_fname f h.0.0 h.0.1) (good_fnames fs h.1)

  good_attribute : (a : AttributeTree) → HasName names a.name × LitHolds (readable names) a.term → IsGood (l.attribute_pieces names a)
  good_attribute a h = and (good_atom a.name h.0) (by_symbol x.Equals (good_lit a.term h.1))

  good_attributes : (as' : List AttributeTree) → Each (λ a. HasName names a.name × LitHolds (readable names) a.term) as' → IsGood (flat_map (λ a. put_sym x.Comma ++ l.attribute_pieces names a) as')
  good_attributes [] h = good_none
  good_attributes (a ∷ as') h = by_symbol x.Comma (and (good_attribute a h.0) (good_attributes as' h.1))

  good_attribute_list : (as' : List AttributeTree) → Each (λ a. HasName names a.name × LitHolds (readable names) a.term) as' → IsGood (l.attribute_list names as')
  good_attribute_list [] h = good_none
  good_attribute_list (a ∷ as') h = and (good_attribute a h.0) (good_attributes as' h.1)

  abbrev pub IsGoodDef : DefTree → Type 0
  IsGoodDef t = HasName names t.name.name × w.Matches t.name t.params × DefHolds (readable names) t

  good_defs_of : (ds : List DefTree) → Each IsGoodDef ds → IsGood (flat_map (l.def_pieces names) ds)
  good_defs_of [] h = good_none
  good_defs_of (t ∷ ds) h = and (by_break (good_def t.name t.params (pieces names t.body) h.0.0 h.0.1 h.0.2.0 (good t.body h.0.2.1))) (good_defs_of ds h.1)

  pub good_module : (m : CoreModuleTree) → HasName names m.name → Each (λ f. HasName names f.name × (f.arity < 2 ^ 32)) m.exports
      → Each (λ a. HasName names a.name × LitHolds (readable names) a.term) m.attributes → Each IsGoodDef m.defs → IsGood (l.module_pieces names m)
  good_module m named exports attributes defs =
      and (by_word x.Module (and (good_atom m.name named) (enclosed_good x.LeftBracket x.RightBracket (good_fname_list m.exports exports))))
      (and (by_break (by_word x.Attributes (enclosed_good x.LeftBracket x.RightBracket (good_attribute_list m.attributes attributes))))
      (and (good_defs_of m.defs defs) (by_break (by_word x.End good_none))))
