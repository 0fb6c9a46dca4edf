-- The grammar of Core text, a constructor a rule (Core Erlang 1.0.3, cut to the profile). `SpellsExpr k e ls` says that the
-- lexemes spell the expression at level k. The body of a function of the module has level 1, a part has one more than its
-- node, and no level is beyond the greatest. What stands in an annotation is dropped. What can be a literal is one, a run
-- of lets is one node, and one value between `<` and `>` is that value.
use Rattle.std.specs.Prelude.{ℕ, ℤ, pos, suc, ◌<◌, ◌≤◌, ◌^◌, ◌≡◌, ◌≢◌, List, [], ◌∷◌, ◌++◌, length, decimal}
use Rattle.std.specs.Str.{chars}
use Rattle.ef_base.specs.declared.name.Name.{Name}
use Rattle.ef_base.specs.Texts.{Texts, HasName, text}
use Rattle.ef_core.specs.declared.literal.CoreVar.{CoreVar}
use Rattle.ef_core.specs.declared.literal.CoreVar.TheVariants.{Numbered, Named}
use Rattle.ef_core.specs.declared.literal.FName.{FName}
use Rattle.ef_core.specs.Lexeme as x
use Rattle.ef_core.specs.Lexeme.{Lexeme, TheWord, Sym, Symbol}
use Rattle.ef_core.specs.Normal.{AreLits, IsLit, ArePatLits, IsPatLit, IsNotOne, IsNoRun, IsOwnName}
use Rattle.ef_core.specs.WellFormed.{IsSize, AreSomeClauses}
use Rattle.ef_core.specs.Tree.{LitTree, LitTrees, CoreTree, CoreTrees, CoreSegments, CoreSteps, CoreDefs, CoreClauses, PatTree, PatTrees, PatSegments, AttributeTree, DefTree, CoreModuleTree, int, atom, lit_list, lit_list_to, lit_tuple, no_lits, more_lits, var, lit, fun_name, a_fun, value_list, tuple, list, list_to, bin, lets, letrec, case_of, apply, call, primop, do_then, receive, try_catch, end, more, no_segments, segment, done, step, no_defs, def, no_clauses, clause, pat_var, pat_lit, pat_tuple, pat_list, pat_list_to, alias, pat_bin, no_pats, more_pats, no_pat_segments, pat_segment}

-- ---- lexemes in their order

abbrev pub surrounded : Symbol → List Lexeme → Symbol → List Lexeme
surrounded opening ls closing = Sym opening ∷ (ls ++ Sym closing ∷ [])

abbrev pub with_note : List Lexeme → List Lexeme → List Lexeme
with_note ls notes = surrounded x.LeftParen (ls ++ Sym x.DashBar ∷ surrounded x.LeftBracket notes x.RightBracket) x.RightParen

abbrev pub fun_of : List Lexeme → List Lexeme → List Lexeme
fun_of params body = TheWord x.Fun ∷ (surrounded x.LeftParen params x.RightParen ++ Sym x.Arrow ∷ body)

abbrev pub let_of : List Lexeme → List Lexeme → List Lexeme → List Lexeme
let_of vars value body = TheWord x.Let ∷ (vars ++ Sym x.Equals ∷ (value ++ TheWord x.In ∷ body))

abbrev pub clause_of : List Lexeme → List Lexeme → List Lexeme → List Lexeme
clause_of pats guard body = pats ++ TheWord x.When ∷ (guard ++ Sym x.Arrow ∷ body)

-- ---- lists

-- one or more, with commas between
pub data Some {A : Type 0} (Spells : A → List Lexeme → Type 0) : List A → List Lexeme → Type 0 where
  one : {a : A} {ls : List Lexeme} → Spells a ls → Some Spells (a ∷ []) ls
  and_more : {a : A} {as' : List A} {ls ms : List Lexeme} → Spells a ls → Some Spells as' ms → Some Spells (a ∷ as') (ls ++ Sym x.Comma ∷ ms)

-- none or more, with commas between
pub data Listed {A : Type 0} (Spells : A → List Lexeme → Type 0) : List A → List Lexeme → Type 0 where
  nothing : Listed Spells [] []
  some : {as' : List A} {ls : List Lexeme} → Some Spells as' ls → Listed Spells as' ls

-- the characters of a string, as integers
abbrev pub characters : List ℕ → LitTrees
characters [] = no_lits
characters (c ∷ cs) = more_lits (int (pos c)) (characters cs)

module _ (names : Texts) where
  abbrev pub atom_of : Name → Lexeme
  atom_of n = x.Atom (chars (text names n))

  -- a segment, of its value, size, unit, type and flags
  abbrev pub segment_of : List Lexeme → List Lexeme → ℤ → Name → List Lexeme → List Lexeme
  segment_of value size unit kind flags =
      surrounded x.SegmentBegin value x.Greater
      ++ surrounded x.LeftParen (size ++ Sym x.Comma ∷ x.Int unit ∷ Sym x.Comma ∷ atom_of kind ∷ Sym x.Comma ∷ flags) x.RightParen

module _ (names : Texts) (greatest : ℕ) where
  -- ---- literals

  mutual
    pub data SpellsLit : ℕ → LitTree → List Lexeme → Type 0 where
      an_integer : {k : ℕ} (i : ℤ) → k ≤ greatest → SpellsLit k (int i) (x.Int i ∷ [])
      a_character : {k : ℕ} (c : ℕ) → k ≤ greatest → SpellsLit k (int (pos c)) (x.Char c ∷ [])
      an_atom : {k : ℕ} (n : Name) → k ≤ greatest → HasName names n → SpellsLit k (atom n) (atom_of names n ∷ [])
      a_string : {k : ℕ} (cs : List ℕ) → k ≤ greatest → (cs ≢ [] → suc k ≤ greatest) → SpellsLit k (lit_list (characters cs)) (x.Str cs ∷ [])
      a_literal_list : {k : ℕ} {ls : LitTrees} {xs : List Lexeme} → k ≤ greatest
          → SpellsLits (suc k) ls xs → SpellsLit k (lit_list ls) (surrounded x.LeftBracket xs x.RightBracket)
      a_literal_list_to : {k : ℕ} {ls : LitTrees} {l : LitTree} {xs ys : List Lexeme} → k ≤ greatest
          → SpellsSomeLits (suc k) ls xs → SpellsLit (suc k) l ys
          → SpellsLit k (lit_list_to ls l) (surrounded x.LeftBracket (xs ++ Sym x.Bar ∷ ys) x.RightBracket)
      a_literal_tuple : {k : ℕ} {ls : LitTrees} {xs : List Lexeme} → k ≤ greatest
          → SpellsLits (suc k) ls xs → SpellsLit k (lit_tuple ls) (surrounded x.LeftBrace xs x.RightBrace)

    pub data SpellsLits : ℕ → LitTrees → List Lexeme → Type 0 where
      no_literals : {k : ℕ} → SpellsLits k no_lits []
      some_literals : {k : ℕ} {ls : LitTrees} {xs : List Lexeme} → SpellsSomeLits k ls xs → SpellsLits k ls xs

    pub data SpellsSomeLits : ℕ → LitTrees → List Lexeme → Type 0 where
      one_literal : {k : ℕ} {l : LitTree} {xs : List Lexeme} → SpellsLit k l xs → SpellsSomeLits k (more_lits l no_lits) xs
      and_literals : {k : ℕ} {l : LitTree} {ls : LitTrees} {xs ys : List Lexeme} → SpellsLit k l xs → SpellsSomeLits k ls ys
          → SpellsSomeLits k (more_lits l ls) (xs ++ Sym x.Comma ∷ ys)

  -- ---- annotations

  -- literals, each at level 1
  pub record Notes (notes : List Lexeme) : Type 0 where
    pub literals : LitTrees
    pub spelled : SpellsLits 1 literals notes

  -- as it is, or in parentheses with an annotation
  pub data Annotated {A : Type 0} (Spells : A → List Lexeme → Type 0) : A → List Lexeme → Type 0 where
    bare : {a : A} {ls : List Lexeme} → Spells a ls → Annotated Spells a ls
    annotated : {a : A} {ls notes : List Lexeme} → Spells a ls → Notes notes → Annotated Spells a (with_note ls notes)

  -- ---- variables and names of functions

  pub data SpellsBareVar : CoreVar → List Lexeme → Type 0 where
    a_number : (n : ℕ) → n < 2 ^ 32 → SpellsBareVar (Numbered n) (x.Var (95 ∷ decimal n) ∷ [])
    a_name : (n : Name) → HasName names n → IsOwnName (text names n) → SpellsBareVar (Named n) (x.Var (text names n) ∷ [])

  abbrev pub SpellsVar : CoreVar → List Lexeme → Type 0
  SpellsVar = Annotated SpellsBareVar

  -- one variable, or any number between `<` and `>`
  pub data SpellsVars : List CoreVar → List Lexeme → Type 0 where
    one_variable : {v : CoreVar} {ls : List Lexeme} → SpellsVar v ls → SpellsVars (v ∷ []) ls
    variables : {vs : List CoreVar} {ls : List Lexeme} → Listed SpellsVar vs ls → SpellsVars vs (surrounded x.Less ls x.Greater)

  pub data SpellsFName : FName → List Lexeme → Type 0 where
    name_and_arity : (f : FName) → HasName names f.name → f.arity < 2 ^ 32
        → SpellsFName f (atom_of names f.name ∷ Sym x.Slash ∷ x.Int (pos f.arity) ∷ [])

  -- ---- expressions and patterns

  mutual
    pub data SpellsExpr : ℕ → CoreTree → List Lexeme → Type 0 where
      an_expression : {k : ℕ} {e : CoreTree} {ls : List Lexeme} → SpellsValues k e ls → SpellsExpr k e ls
      an_annotated_expression : {k : ℕ} {e : CoreTree} {ls notes : List Lexeme} → SpellsValues k e ls → Notes notes → SpellsExpr k e (with_note ls notes)

    -- one value, or any number between `<` and `>`
    pub data SpellsValues : ℕ → CoreTree → List Lexeme → Type 0 where
      a_value : {k : ℕ} {e : CoreTree} {ls : List Lexeme} → SpellsValue k e ls → SpellsValues k e ls
      values : {k : ℕ} {es : CoreTrees} {ls : List Lexeme} → k ≤ greatest → IsNotOne es
          → SpellsAll (suc k) es ls → SpellsValues k (value_list es) (surrounded x.Less ls x.Greater)
      a_value_in_angles : {k : ℕ} {e : CoreTree} {ls : List Lexeme} → k ≤ greatest
          → SpellsSingle (suc k) e ls → SpellsValues k e (surrounded x.Less ls x.Greater)

    -- a part that is one value: of these only a variable may be annotated
    pub data SpellsSingle : ℕ → CoreTree → List Lexeme → Type 0 where
      a_single : {k : ℕ} {e : CoreTree} {ls : List Lexeme} → SpellsValue k e ls → SpellsSingle k e ls
      an_annotated_variable : {k : ℕ} {v : CoreVar} {ls notes : List Lexeme} → k ≤ greatest
          → SpellsBareVar v ls → Notes notes → SpellsSingle k (var v) (with_note ls notes)

    pub data SpellsValue : ℕ → CoreTree → List Lexeme → Type 0 where
      a_variable : {k : ℕ} {v : CoreVar} {ls : List Lexeme} → k ≤ greatest → SpellsBareVar v ls → SpellsValue k (var v) ls
      a_literal : {k : ℕ} {l : LitTree} {ls : List Lexeme} → SpellsLit k l ls → SpellsValue k (lit l) ls
      a_function_name : {k : ℕ} {f : FName} {ls : List Lexeme} → k ≤ greatest → SpellsFName f ls → SpellsValue k (fun_name f) ls
      a_function : {k : ℕ} {vs : List CoreVar} {b : CoreTree} {xs ys : List Lexeme} → k ≤ greatest
          → Listed SpellsVar vs xs → SpellsExpr (suc k) b ys → SpellsValue k (a_fun vs b) (fun_of xs ys)
      a_tuple : {k : ℕ} {es : CoreTrees} {ls : List Lexeme} → k ≤ greatest → (AreLits es → ⊥)
          → SpellsAll (suc k) es ls → SpellsValue k (tuple es) (surrounded x.LeftBrace ls x.RightBrace)
      a_list : {k : ℕ} {es : CoreTrees} {ls : List Lexeme} → k ≤ greatest → (AreLits es → ⊥)
          → SpellsAll (suc k) es ls → SpellsValue k (list es) (surrounded x.LeftBracket ls x.RightBracket)
      a_list_to : {k : ℕ} {es : CoreTrees} {e : CoreTree} {xs ys : List Lexeme} → k ≤ greatest → (AreLits es → IsLit e → ⊥)
          → SpellsSome (suc k) es xs → SpellsSingle (suc k) e ys
          → SpellsValue k (list_to es e) (surrounded x.LeftBracket (xs ++ Sym x.Bar ∷ ys) x.RightBracket)
      a_binary : {k : ℕ} {ss : CoreSegments} {ls : List Lexeme} → k ≤ greatest
          → SpellsSegments (suc k) ss ls → SpellsValue k (bin ss) (surrounded x.BinBegin ls x.BinEnd)
      a_run : {k : ℕ} {ss : CoreSteps} {b : CoreTree} {ls : List Lexeme} → k ≤ greatest → SpellsRun k ss b ls → SpellsValue k (lets ss b) ls
      a_letrec : {k : ℕ} {ds : CoreDefs} {b : CoreTree} {xs ys : List Lexeme} → k ≤ greatest
          → SpellsDefs (suc k) ds xs → SpellsExpr (suc k) b ys → SpellsValue k (letrec ds b) (TheWord x.Letrec ∷ (xs ++ TheWord x.In ∷ ys))
      a_case : {k : ℕ} {e : CoreTree} {cs : CoreClauses} {xs ys : List Lexeme} → k ≤ greatest → AreSomeClauses cs
          → SpellsExpr (suc k) e xs → SpellsClauses (suc k) cs ys
          → SpellsValue k (case_of e cs) (TheWord x.Case ∷ (xs ++ TheWord x.Of ∷ (ys ++ TheWord x.End ∷ [])))
      an_application : {k : ℕ} {f : CoreTree} {es : CoreTrees} {xs ys : List Lexeme} → k ≤ greatest
          → SpellsSingle (suc k) f xs → SpellsAll (suc k) es ys
          → SpellsValue k (apply f es) (TheWord x.Apply ∷ (xs ++ surrounded x.LeftParen ys x.RightParen))
      a_call : {k : ℕ} {m f : CoreTree} {es : CoreTrees} {xs ys zs : List Lexeme} → k ≤ greatest
          → SpellsSingle (suc k) m xs → SpellsSingle (suc k) f ys → SpellsAll (suc k) es zs
          → SpellsValue k (call m f es) (TheWord x.Call ∷ (xs ++ Sym x.Colon ∷ (ys ++ surrounded x.LeftParen zs x.RightParen)))
      a_primop : {k : ℕ} {n : Name} {es : CoreTrees} {ls : List Lexeme} → k ≤ greatest → HasName names n
          → SpellsAll (suc k) es ls → SpellsValue k (primop n es) (TheWord x.Primop ∷ atom_of names n ∷ surrounded x.LeftParen ls x.RightParen)
      a_do : {k : ℕ} {a b : CoreTree} {xs ys : List Lexeme} → k ≤ greatest
          → SpellsExpr (suc k) a xs → SpellsExpr (suc k) b ys → SpellsValue k (do_then a b) (TheWord x.Do ∷ (xs ++ ys))
      a_receive : {k : ℕ} {cs : CoreClauses} {t b : CoreTree} {xs ys zs : List Lexeme} → k ≤ greatest
          → SpellsClauses (suc k) cs xs → SpellsExpr (suc k) t ys → SpellsExpr (suc k) b zs
          → SpellsValue k (receive cs t b) (TheWord x.Receive ∷ (xs ++ TheWord x.After ∷ (ys ++ Sym x.Arrow ∷ zs)))
      a_try : {k : ℕ} {a b h : CoreTree} {vs ws : List CoreVar} {as' xs bs ys hs : List Lexeme} → k ≤ greatest
          → SpellsExpr (suc k) a as' → SpellsVars vs xs → SpellsExpr (suc k) b bs → SpellsVars ws ys → SpellsExpr (suc k) h hs
          → SpellsValue k (try_catch a vs b ws h)
          (TheWord x.Try ∷ (as' ++ TheWord x.Of ∷ (xs ++ Sym x.Arrow ∷ (bs ++ TheWord x.Catch ∷ (ys ++ Sym x.Arrow ∷ hs)))))

    pub data SpellsAll : ℕ → CoreTrees → List Lexeme → Type 0 where
      no_values : {k : ℕ} → SpellsAll k end []
      some_values : {k : ℕ} {es : CoreTrees} {ls : List Lexeme} → SpellsSome k es ls → SpellsAll k es ls

    pub data SpellsSome : ℕ → CoreTrees → List Lexeme → Type 0 where
      one_value : {k : ℕ} {e : CoreTree} {ls : List Lexeme} → SpellsSingle k e ls → SpellsSome k (more e end) ls
      and_values : {k : ℕ} {e : CoreTree} {es : CoreTrees} {xs ys : List Lexeme} → SpellsSingle k e xs → SpellsSome k es ys
          → SpellsSome k (more e es) (xs ++ Sym x.Comma ∷ ys)

    pub data SpellsSegments : ℕ → CoreSegments → List Lexeme → Type 0 where
      nothing_in_binary : {k : ℕ} → SpellsSegments k no_segments []
      some_segments : {k : ℕ} {ss : CoreSegments} {ls : List Lexeme} → SpellsSomeSegments k ss ls → SpellsSegments k ss ls

    pub data SpellsSomeSegments : ℕ → CoreSegments → List Lexeme → Type 0 where
      one_segment : {k : ℕ} {e size : CoreTree} {unit : ℤ} {kind : Name} {flags : LitTree} {xs ys zs : List Lexeme}
          → SpellsSingle k e xs → SpellsSingle k size ys → HasName names kind → SpellsLit k flags zs
          → SpellsSomeSegments k (segment e size unit kind flags no_segments) (segment_of names xs ys unit kind zs)
      and_segments : {k : ℕ} {e size : CoreTree} {unit : ℤ} {kind : Name} {flags : LitTree} {ss : CoreSegments} {xs ys zs ls : List Lexeme}
          → SpellsSingle k e xs → SpellsSingle k size ys → HasName names kind → SpellsLit k flags zs → SpellsSomeSegments k ss ls
          → SpellsSomeSegments k (segment e size unit kind flags ss) (segment_of names xs ys unit kind zs ++ Sym x.Comma ∷ ls)

    -- a run of lets: its steps, and the body behind them, which is no let
    pub data SpellsRun : ℕ → CoreSteps → CoreTree → List Lexeme → Type 0 where
      last_let : {k : ℕ} {vs : List CoreVar} {e b : CoreTree} {xs ys zs : List Lexeme} → IsNoRun b
          → SpellsVars vs xs → SpellsExpr (suc k) e ys → SpellsExpr (suc k) b zs → SpellsRun k (step vs e done) b (let_of xs ys zs)
      and_let : {k : ℕ} {vs : List CoreVar} {e b : CoreTree} {ss : CoreSteps} {xs ys zs : List Lexeme}
          → SpellsVars vs xs → SpellsExpr (suc k) e ys → SpellsInner k ss b zs → SpellsRun k (step vs e ss) b (let_of xs ys zs)

    -- a let that is the body of a let goes on with its run; between `<` and `>` it stands two levels deeper
    pub data SpellsInner : ℕ → CoreSteps → CoreTree → List Lexeme → Type 0 where
      a_let : {k : ℕ} {ss : CoreSteps} {b : CoreTree} {ls : List Lexeme} → SpellsRun k ss b ls → SpellsInner k ss b ls
      an_annotated_let : {k : ℕ} {ss : CoreSteps} {b : CoreTree} {ls notes : List Lexeme} → SpellsRun k ss b ls → Notes notes
          → SpellsInner k ss b (with_note ls notes)
      a_let_in_angles : {k : ℕ} {ss : CoreSteps} {b : CoreTree} {ls : List Lexeme} → suc (suc k) ≤ greatest
          → SpellsRun (suc (suc k)) ss b ls → SpellsInner k ss b (surrounded x.Less ls x.Greater)
      an_annotated_let_in_angles : {k : ℕ} {ss : CoreSteps} {b : CoreTree} {ls notes : List Lexeme} → suc (suc k) ≤ greatest
          → SpellsRun (suc (suc k)) ss b ls → Notes notes → SpellsInner k ss b (with_note (surrounded x.Less ls x.Greater) notes)

    -- a function, whose body has this level
    pub data SpellsDef : ℕ → FName → List CoreVar → CoreTree → List Lexeme → Type 0 where
      a_definition : {k : ℕ} {f : FName} {vs : List CoreVar} {b : CoreTree} {xs ys : List Lexeme} → length vs ≡ f.arity
          → Annotated SpellsFName f xs → SpellsFun k vs b ys → SpellsDef k f vs b (xs ++ Sym x.Equals ∷ ys)

    pub data SpellsFun : ℕ → List CoreVar → CoreTree → List Lexeme → Type 0 where
      a_fun_of : {k : ℕ} {vs : List CoreVar} {b : CoreTree} {xs ys : List Lexeme} → Listed SpellsVar vs xs → SpellsExpr k b ys
          → SpellsFun k vs b (fun_of xs ys)
      an_annotated_fun : {k : ℕ} {vs : List CoreVar} {b : CoreTree} {xs ys notes : List Lexeme} → Listed SpellsVar vs xs → SpellsExpr k b ys
          → Notes notes → SpellsFun k vs b (with_note (fun_of xs ys) notes)

    -- one function or more
    pub data SpellsDefs : ℕ → CoreDefs → List Lexeme → Type 0 where
      one_definition : {k : ℕ} {f : FName} {vs : List CoreVar} {b : CoreTree} {ls : List Lexeme} → SpellsDef k f vs b ls
          → SpellsDefs k (def f vs b no_defs) ls
      and_definitions : {k : ℕ} {f : FName} {vs : List CoreVar} {b : CoreTree} {ds : CoreDefs} {xs ys : List Lexeme} → SpellsDef k f vs b xs
          → SpellsDefs k ds ys → SpellsDefs k (def f vs b ds) (xs ++ ys)

    -- none or more clauses, whose parts have this level
    pub data SpellsClauses : ℕ → CoreClauses → List Lexeme → Type 0 where
      no_clause : {k : ℕ} → SpellsClauses k no_clauses []
      and_clauses : {k : ℕ} {ps : PatTrees} {g b : CoreTree} {cs : CoreClauses} {xs ys : List Lexeme} → SpellsClause k ps g b xs
          → SpellsClauses k cs ys → SpellsClauses k (clause ps g b cs) (xs ++ ys)

    pub data SpellsClause : ℕ → PatTrees → CoreTree → CoreTree → List Lexeme → Type 0 where
      a_clause : {k : ℕ} {ps : PatTrees} {g b : CoreTree} {xs ys zs : List Lexeme}
          → SpellsPats k ps xs → SpellsExpr k g ys → SpellsExpr k b zs → SpellsClause k ps g b (clause_of xs ys zs)
      an_annotated_clause : {k : ℕ} {ps : PatTrees} {g b : CoreTree} {xs ys zs notes : List Lexeme}
          → SpellsPats k ps xs → SpellsExpr k g ys → SpellsExpr k b zs → Notes notes → SpellsClause k ps g b (with_note (clause_of xs ys zs) notes)

    -- one pattern, or any number between `<` and `>`
    pub data SpellsPats : ℕ → PatTrees → List Lexeme → Type 0 where
      one_pattern : {k : ℕ} {p : PatTree} {ls : List Lexeme} → SpellsPat k p ls → SpellsPats k (more_pats p no_pats) ls
      patterns : {k : ℕ} {ps : PatTrees} {ls : List Lexeme} → SpellsAllPats k ps ls → SpellsPats k ps (surrounded x.Less ls x.Greater)

    pub data SpellsPat : ℕ → PatTree → List Lexeme → Type 0 where
      a_pattern : {k : ℕ} {p : PatTree} {ls : List Lexeme} → SpellsBarePat k p ls → SpellsPat k p ls
      an_annotated_pattern : {k : ℕ} {p : PatTree} {ls notes : List Lexeme} → SpellsBarePat k p ls → Notes notes → SpellsPat k p (with_note ls notes)

    pub data SpellsBarePat : ℕ → PatTree → List Lexeme → Type 0 where
      a_variable_pattern : {k : ℕ} {v : CoreVar} {ls : List Lexeme} → k ≤ greatest → SpellsBareVar v ls → SpellsBarePat k (pat_var v) ls
      a_literal_pattern : {k : ℕ} {l : LitTree} {ls : List Lexeme} → SpellsLit k l ls → SpellsBarePat k (pat_lit l) ls
      a_tuple_pattern : {k : ℕ} {ps : PatTrees} {ls : List Lexeme} → k ≤ greatest → (ArePatLits ps → ⊥)
          → SpellsAllPats (suc k) ps ls → SpellsBarePat k (pat_tuple ps) (surrounded x.LeftBrace ls x.RightBrace)
      a_list_pattern : {k : ℕ} {ps : PatTrees} {ls : List Lexeme} → k ≤ greatest → (ArePatLits ps → ⊥)
          → SpellsAllPats (suc k) ps ls → SpellsBarePat k (pat_list ps) (surrounded x.LeftBracket ls x.RightBracket)
      a_list_to_pattern : {k : ℕ} {ps : PatTrees} {p : PatTree} {xs ys : List Lexeme} → k ≤ greatest → (ArePatLits ps → IsPatLit p → ⊥)
          → SpellsSomePats (suc k) ps xs → SpellsPat (suc k) p ys
          → SpellsBarePat k (pat_list_to ps p) (surrounded x.LeftBracket (xs ++ Sym x.Bar ∷ ys) x.RightBracket)
      an_alias : {k : ℕ} {v : CoreVar} {p : PatTree} {xs ys : List Lexeme} → k ≤ greatest
          → SpellsVar v xs → SpellsPat (suc k) p ys → SpellsBarePat k (alias v p) (xs ++ Sym x.Equals ∷ ys)
      a_binary_pattern : {k : ℕ} {ss : PatSegments} {ls : List Lexeme} → k ≤ greatest
          → SpellsPatSegments (suc k) ss ls → SpellsBarePat k (pat_bin ss) (surrounded x.BinBegin ls x.BinEnd)

    pub data SpellsAllPats : ℕ → PatTrees → List Lexeme → Type 0 where
      no_patterns : {k : ℕ} → SpellsAllPats k no_pats []
      some_patterns : {k : ℕ} {ps : PatTrees} {ls : List Lexeme} → SpellsSomePats k ps ls → SpellsAllPats k ps ls

    pub data SpellsSomePats : ℕ → PatTrees → List Lexeme → Type 0 where
      one_of_patterns : {k : ℕ} {p : PatTree} {ls : List Lexeme} → SpellsPat k p ls → SpellsSomePats k (more_pats p no_pats) ls
      and_patterns : {k : ℕ} {p : PatTree} {ps : PatTrees} {xs ys : List Lexeme} → SpellsPat k p xs → SpellsSomePats k ps ys
          → SpellsSomePats k (more_pats p ps) (xs ++ Sym x.Comma ∷ ys)

    pub data SpellsPatSegments : ℕ → PatSegments → List Lexeme → Type 0 where
      nothing_in_pattern : {k : ℕ} → SpellsPatSegments k no_pat_segments []
      some_pattern_segments : {k : ℕ} {ss : PatSegments} {ls : List Lexeme} → SpellsSomePatSegments k ss ls → SpellsPatSegments k ss ls

    -- the size is a variable, an integer or `'all'`
    pub data SpellsSomePatSegments : ℕ → PatSegments → List Lexeme → Type 0 where
      one_pattern_segment : {k : ℕ} {p : PatTree} {size : CoreTree} {unit : ℤ} {kind : Name} {flags : LitTree} {xs ys zs : List Lexeme} → IsSize names size
          → SpellsPat k p xs → SpellsSingle k size ys → HasName names kind → SpellsLit k flags zs
          → SpellsSomePatSegments k (pat_segment p size unit kind flags no_pat_segments) (segment_of names xs ys unit kind zs)
      and_pattern_segments : {k : ℕ} {p : PatTree} {size : CoreTree} {unit : ℤ} {kind : Name} {flags : LitTree} {ss : PatSegments} {xs ys zs ls : List Lexeme} → IsSize names size
          → SpellsPat k p xs → SpellsSingle k size ys → HasName names kind → SpellsLit k flags zs → SpellsSomePatSegments k ss ls
          → SpellsSomePatSegments k (pat_segment p size unit kind flags ss) (segment_of names xs ys unit kind zs ++ Sym x.Comma ∷ ls)

  -- ---- modules

  pub data SpellsAttribute : AttributeTree → List Lexeme → Type 0 where
    an_attribute : {a : AttributeTree} {ls : List Lexeme} → HasName names a.name → SpellsLit 1 a.term ls
        → SpellsAttribute a (atom_of names a.name ∷ Sym x.Equals ∷ ls)

  -- none or more functions, each at level 1
  pub data SpellsModuleDefs : List DefTree → List Lexeme → Type 0 where
    no_more_functions : SpellsModuleDefs [] []
    and_functions : {d : DefTree} {ds : List DefTree} {xs ys : List Lexeme} → SpellsDef 1 d.name d.params d.body xs → SpellsModuleDefs ds ys
        → SpellsModuleDefs (d ∷ ds) (xs ++ ys)

  pub data SpellsBareModule : CoreModuleTree → List Lexeme → Type 0 where
    a_module : {m : CoreModuleTree} {xs ys zs : List Lexeme} → HasName names m.name
        → Listed SpellsFName m.exports xs → Listed SpellsAttribute m.attributes ys → SpellsModuleDefs m.defs zs
        → SpellsBareModule m (TheWord x.Module ∷ atom_of names m.name ∷ (surrounded x.LeftBracket xs x.RightBracket
        ++ TheWord x.Attributes ∷ (surrounded x.LeftBracket ys x.RightBracket ++ (zs ++ TheWord x.End ∷ []))))

  abbrev pub SpellsModule : CoreModuleTree → List Lexeme → Type 0
  SpellsModule = Annotated SpellsBareModule
