-- The printed text of a module.
use Rattle.std.specs.Prelude.{ℕ, ℤ, pos, List, [], ◌∷◌, ◌++◌, decimal, flat_map}
use Rattle.std.specs.Str.{chars}
use Rattle.ef_base.specs.declared.name.Name.{Name}
use Rattle.ef_base.specs.Texts.{Texts, text}
use Rattle.ef_core.specs.declared.layout.Last.TheVariants.{Start}
use Rattle.ef_core.specs.declared.literal.CoreVar.{CoreVar}
use Rattle.ef_core.specs.declared.literal.CoreVar.TheVariants.{Numbered, Named}
use Rattle.ef_core.specs.declared.literal.FName.{FName}
use Rattle.ef_core.specs.Lexeme as x
use Rattle.ef_core.specs.Lexeme.{Sym}
use Rattle.ef_core.specs.Pieces.{Piece, Break, Put, put_word, put_sym, lay}
use Rattle.ef_core.specs.Tree.{LitTree, LitTrees, CoreTree, CoreTrees, CoreSegments, CoreSteps, CoreDefs, CoreClauses, PatTree, PatTrees, PatSegments, AttributeTree, DefTree, CoreModuleTree, int, atom, lit_list, lit_list_to, lit_tuple, no_lits, more_lits, var, lit, fun_name, a_fun, value_list, tuple, list, list_to, bin, lets, letrec, case_of, apply, call, primop, do_then, receive, try_catch, end, more, no_segments, segment, done, step, no_defs, def, no_clauses, clause, pat_var, pat_lit, pat_tuple, pat_list, pat_list_to, alias, pat_bin, no_pats, more_pats, no_pat_segments, pat_segment}

-- with commas between
abbrev pub separated : {A : Type 0} → (A → List Piece) → List A → List Piece
separated f [] = []
separated f (a ∷ as') = f a ++ flat_map (λ b. put_sym x.Comma ++ f b) as'

-- between the symbols
abbrev pub enclosed : x.Symbol → List Piece → x.Symbol → List Piece
enclosed opening ps closing = put_sym opening ++ (ps ++ put_sym closing)

abbrev pub in_parentheses : List Piece → List Piece
in_parentheses ps = enclosed x.LeftParen ps x.RightParen

abbrev pub in_angles : List Piece → List Piece
in_angles ps = enclosed x.Less ps x.Greater

-- ---- the lexemes of trees, in order

module _ (names : Texts) where
  abbrev pub atom_pieces : Name → List Piece
  atom_pieces n = Put (x.Atom (chars (text names n))) ∷ []

  abbrev pub var_pieces : CoreVar → List Piece
  var_pieces (Numbered n) = Put (x.Var (95 ∷ decimal n)) ∷ []
  var_pieces (Named n) = Put (x.Var (text names n)) ∷ []

  abbrev pub fname_pieces : FName → List Piece
  fname_pieces f = atom_pieces f.name ++ (put_sym x.Slash ++ Put (x.Int (pos f.arity)) ∷ [])

  abbrev mutual
    pub lit_pieces : LitTree → List Piece
    lit_pieces (int n) = Put (x.Int n) ∷ []
    lit_pieces (atom n) = atom_pieces n
    lit_pieces (lit_list ls) = enclosed x.LeftBracket (lits_pieces ls) x.RightBracket
    lit_pieces (lit_list_to ls l) = enclosed x.LeftBracket (lits_pieces ls ++ (put_sym x.Bar ++ lit_pieces l)) x.RightBracket
    lit_pieces (lit_tuple ls) = enclosed x.LeftBrace (lits_pieces ls) x.RightBrace

    pub lits_pieces : LitTrees → List Piece
    lits_pieces no_lits = []
    lits_pieces (more_lits l ls) = lit_pieces l ++ more_lits_pieces ls

    pub more_lits_pieces : LitTrees → List Piece
    more_lits_pieces no_lits = []
    more_lits_pieces (more_lits l ls) = put_sym x.Comma ++ (lit_pieces l ++ more_lits_pieces ls)

  abbrev pub var_list : List CoreVar → List Piece
  var_list = separated var_pieces

  -- one variable stands alone, any other number between `<` and `>`
  abbrev pub vars_pieces : List CoreVar → List Piece
  vars_pieces [] = in_angles []
  vars_pieces (v ∷ []) = var_pieces v
  vars_pieces (v ∷ w ∷ vs) = in_angles (var_list (v ∷ w ∷ vs))

  abbrev pub params_pieces : List CoreVar → List Piece
  params_pieces vs = put_word x.Fun ++ (in_parentheses (var_list vs) ++ put_sym x.Arrow)

  -- a segment, of the pieces of its value and of its size
  abbrev pub segment_of : List Piece → List Piece → ℤ → Name → LitTree → List Piece
  segment_of value size unit kind flags =
      enclosed x.SegmentBegin value x.Greater
      ++ in_parentheses (size ++ (put_sym x.Comma ++ (Put (x.Int unit) ∷ [] ++ (put_sym x.Comma ++ (atom_pieces kind ++ (put_sym x.Comma ++ lit_pieces flags))))))

  -- a let ends its line
  abbrev pub let_of : List CoreVar → List Piece → List Piece
  let_of vs value = put_word x.Let ++ (vars_pieces vs ++ (put_sym x.Equals ++ (value ++ (put_word x.In ++ Break ∷ []))))

  abbrev pub def_of : FName → List CoreVar → List Piece → List Piece
  def_of f vs body = fname_pieces f ++ (put_sym x.Equals ++ (params_pieces vs ++ body))

  -- a clause begins a line
  abbrev pub clause_of : List Piece → List Piece → List Piece → List Piece
  clause_of pats guard body = Break ∷ [] ++ (pats ++ (put_word x.When ++ (guard ++ (put_sym x.Arrow ++ body))))

  abbrev mutual
    pub pieces : CoreTree → List Piece
    pieces (var v) = var_pieces v
    pieces (lit l) = lit_pieces l
    pieces (fun_name f) = fname_pieces f
    pieces (a_fun vs b) = params_pieces vs ++ pieces b
    pieces (value_list es) = values_pieces es
    pieces (tuple es) = enclosed x.LeftBrace (all_pieces es) x.RightBrace
    pieces (list es) = enclosed x.LeftBracket (all_pieces es) x.RightBracket
    pieces (list_to es e) = enclosed x.LeftBracket (all_pieces es ++ (put_sym x.Bar ++ pieces e)) x.RightBracket
    pieces (bin ss) = enclosed x.BinBegin (segments_pieces ss) x.BinEnd
    pieces (lets ss e) = steps_pieces ss ++ pieces e
    pieces (letrec ds e) = put_word x.Letrec ++ (defs_pieces ds ++ (put_word x.In ++ (Break ∷ [] ++ pieces e)))
    pieces (case_of e cs) = put_word x.Case ++ (pieces e ++ (put_word x.Of ++ (clauses_pieces cs ++ put_word x.End)))
    pieces (apply f es) = put_word x.Apply ++ (pieces f ++ in_parentheses (all_pieces es))
    pieces (call m f es) = put_word x.Call ++ (pieces m ++ (put_sym x.Colon ++ (pieces f ++ in_parentheses (all_pieces es))))
    pieces (primop n es) = put_word x.Primop ++ (atom_pieces n ++ in_parentheses (all_pieces es))
    pieces (do_then a b) = put_word x.Do ++ (pieces a ++ pieces b)
    pieces (receive cs t b) = put_word x.Receive ++ (clauses_pieces cs ++ (put_word x.After ++ (pieces t ++ (put_sym x.Arrow ++ pieces b))))
    pieces (try_catch a vs b ws h) =
        put_word x.Try ++ (pieces a ++ (put_word x.Of ++ (vars_pieces vs ++ (put_sym x.Arrow ++ (pieces b
        ++ (put_word x.Catch ++ (vars_pieces ws ++ (put_sym x.Arrow ++ pieces h))))))))

    pub all_pieces : CoreTrees → List Piece
    all_pieces end = []
    all_pieces (more e es) = pieces e ++ more_pieces es

    pub more_pieces : CoreTrees → List Piece
    more_pieces end = []
    more_pieces (more e es) = put_sym x.Comma ++ (pieces e ++ more_pieces es)

    -- one value stands alone, any other number between `<` and `>`
    pub values_pieces : CoreTrees → List Piece
    values_pieces end = in_angles []
    values_pieces (more e end) = pieces e
    values_pieces (more e (more f es)) = in_angles (pieces e ++ more_pieces (more f es))

    pub segments_pieces : CoreSegments → List Piece
    segments_pieces no_segments = []
    segments_pieces (segment e size unit kind flags ss) =
        segment_of (pieces e) (pieces size) unit kind flags ++ more_segments_pieces ss

    pub more_segments_pieces : CoreSegments → List Piece
    more_segments_pieces no_segments = []
    more_segments_pieces (segment e size unit kind flags ss) =
        put_sym x.Comma ++ (segment_of (pieces e) (pieces size) unit kind flags ++ more_segments_pieces ss)

    pub steps_pieces : CoreSteps → List Piece
    steps_pieces done = []
    steps_pieces (step vs e ss) = let_of vs (pieces e) ++ steps_pieces ss

    pub defs_pieces : CoreDefs → List Piece
    defs_pieces no_defs = []
    defs_pieces (def f vs b ds) = def_of f vs (pieces b) ++ defs_pieces ds

    pub clauses_pieces : CoreClauses → List Piece
    clauses_pieces no_clauses = []
    clauses_pieces (clause ps g b cs) = clause_of (pats_pieces ps) (pieces g) (pieces b) ++ clauses_pieces cs

    pub pat_pieces : PatTree → List Piece
    pat_pieces (pat_var v) = var_pieces v
    pat_pieces (pat_lit l) = lit_pieces l
    pat_pieces (pat_tuple ps) = enclosed x.LeftBrace (all_pat_pieces ps) x.RightBrace
    pat_pieces (pat_list ps) = enclosed x.LeftBracket (all_pat_pieces ps) x.RightBracket
    pat_pieces (pat_list_to ps p) = enclosed x.LeftBracket (all_pat_pieces ps ++ (put_sym x.Bar ++ pat_pieces p)) x.RightBracket
    pat_pieces (alias v p) = var_pieces v ++ (put_sym x.Equals ++ pat_pieces p)
    pat_pieces (pat_bin ss) = enclosed x.BinBegin (pat_segments_pieces ss) x.BinEnd

    pub all_pat_pieces : PatTrees → List Piece
    all_pat_pieces no_pats = []
    all_pat_pieces (more_pats p ps) = pat_pieces p ++ more_pat_pieces ps

    pub more_pat_pieces : PatTrees → List Piece
    more_pat_pieces no_pats = []
    more_pat_pieces (more_pats p ps) = put_sym x.Comma ++ (pat_pieces p ++ more_pat_pieces ps)

    -- one pattern stands alone, any other number between `<` and `>`
    pub pats_pieces : PatTrees → List Piece
    pats_pieces no_pats = in_angles []
    pats_pieces (more_pats p no_pats) = pat_pieces p
    pats_pieces (more_pats p (more_pats q ps)) = in_angles (pat_pieces p ++ more_pat_pieces (more_pats q ps))

    pub pat_segments_pieces : PatSegments → List Piece
    pat_segments_pieces no_pat_segments = []
    pat_segments_pieces (pat_segment p size unit kind flags ss) =
        segment_of (pat_pieces p) (pieces size) unit kind flags ++ more_pat_segments_pieces ss

    pub more_pat_segments_pieces : PatSegments → List Piece
    more_pat_segments_pieces no_pat_segments = []
    more_pat_segments_pieces (pat_segment p size unit kind flags ss) =
        put_sym x.Comma ++ (segment_of (pat_pieces p) (pieces size) unit kind flags ++ more_pat_segments_pieces ss)

  abbrev pub fname_list : List FName → List Piece
  fname_list = separated fname_pieces

  abbrev pub attribute_pieces : AttributeTree → List Piece
  attribute_pieces a = atom_pieces a.name ++ (put_sym x.Equals ++ lit_pieces a.term)

  abbrev pub attribute_list : List AttributeTree → List Piece
  attribute_list = separated attribute_pieces

  -- a function of the module, on a line of its own
  abbrev pub def_pieces : DefTree → List Piece
  def_pieces d = Break ∷ [] ++ def_of d.name d.params (pieces d.body)

  -- the name and the exports
  abbrev pub header_pieces : CoreModuleTree → List Piece
  header_pieces m = put_word x.Module ++ (atom_pieces m.name ++ enclosed x.LeftBracket (fname_list m.exports) x.RightBracket)

  abbrev pub attributes_pieces : CoreModuleTree → List Piece
  attributes_pieces m = Break ∷ [] ++ (put_word x.Attributes ++ enclosed x.LeftBracket (attribute_list m.attributes) x.RightBracket)

  abbrev pub module_pieces : CoreModuleTree → List Piece
  module_pieces m = header_pieces m ++ (attributes_pieces m ++ (flat_map def_pieces m.defs ++ (Break ∷ [] ++ put_word x.End)))

-- the text of a module
abbrev pub text_of : Texts → CoreModuleTree → List ℕ
text_of names m = lay Start (module_pieces names m) ++ 10 ∷ []
