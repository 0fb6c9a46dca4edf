-- A function that is read has a clause: the values that are read keep what their clauses begin with.
use Rattle.std.proofs.Common.{◌≡◌, ℕ, Bool, true, false, cond, length, max, min, nat_lt, ◌-◌, ◌^◌, List, [], ◌∷◌, ◌++◌, Option, Some, None, IfSome, refl, sym, subst}
use Rattle.std.specs.Prelude.{if◌then◌else◌}
use Rattle.ef_base.specs.declared.fault.Fault.{Fault}
use Rattle.ef_base.specs.FaultTable as table
use Rattle.ef_base.specs.declared.fault.Place.{Place}
use Rattle.ef_base.specs.declared.name.Name.{Name}
use Rattle.ef_base.specs.Texts.{Texts}
use Rattle.ef_token.specs.declared.token.Token.{Token}
use Rattle.ef_token.specs.declared.token.TokenKind.{TokenKind}
use Rattle.ef_token.specs.declared.token.TokenKind.TheVariants as kind
use Rattle.ef_token.specs.declared.word.Sym.{Sym}
use Rattle.ef_token.specs.declared.word.Sym.TheVariants as sym_is
use Rattle.ef_token.specs.declared.word.Word.{Word}
use Rattle.ef_token.specs.declared.word.Word.TheVariants as word_is
use Rattle.ef_forms.specs.declared.expr.ClassPart.{ClassPart}
use Rattle.ef_forms.specs.Built.{Each, functions_in, functions_of}
use Rattle.ef_forms.specs.Plain.{ClauseTree, clauses as plain_clauses}
use Rattle.ef_forms.specs.Tree.{Tree, Shape, FormTree, PlacedTree, tree, module_name, export, import, record_of, attribute, dropped, export_all, function}
use Rattle.ef_grammar.specs.Grammar.{Symbol, Leads, done, token, acted, ruled}
use Rattle.ef_build.specs.declared.value.Head.{Head}
use Rattle.ef_build.specs.declared.value.Operator.{Operator}
use Rattle.ef_build.specs.Constructs.{arrow, class_of, first_head, head_faults, headed, name_shape, with_clause}
use Rattle.ef_build.specs.Expressions.{all, at_catch, between, enclosed, field_name, in_front, number_in, text_in, text_in_leaf, top_atom, top_value, trace_name, two, variable_in}
use Rattle.ef_build.specs.Forms as forms
use Rattle.ef_build.specs.Stack.{Action, given, made, most_nesting, put, rest, take, top_at, top_caught, top_catches, top_clauses, top_definitions, top_fields, top_guard, top_items, top_leaf, top_mark, top_open_segment, top_operand, top_operator, top_qualifiers, top_references, top_segments, top_steps, under}
use Rattle.ef_build.specs.Tokens.{added, operated, push, symbol_operator, symbol_value, token_value, word_operator, word_value}
use Rattle.ef_build.specs.Values.{Clauses, Guard, Items, Read, Value, caught, clauses, form}
use Rattle.ef_rows.specs.declared.rows.Action.{Action as ActionName}
use Rattle.ef_rows.specs.declared.rows.Action.TheVariants as a
use Rattle.ef_rows.specs.declared.rows.RuleName.{RuleName}
use Rattle.ef_rows.specs.Erlang.{act, grammar}
use Rattle.ef_parse.specs.Spelled.{SpellsForm}
use Rattle.ef_module.specs.Forms.{ReadsForm, kept}
use Rattle.ef_profile.specs.Kinds.{kind_of}
use Rattle.ef_module.specs.Modules.{ReadsForms, no_forms, read, faulty}
use Rattle.ef_lowmod.specs.Function.{IsWhole}
use Rattle.ef_front.proofs.Small.{each_joined}

-- clauses with a head are some
abbrev AreHeaded : Option Head → List ClauseTree → Type 0
AreHeaded None cs = Unit {0}
AreHeaded (Some h) [] = ⊥
AreHeaded (Some h) (c ∷ cs) = Unit {0}

abbrev IsFine : Value → Type 0
IsFine (clauses c) = AreHeaded c.first c.clauses
IsFine (form f) = Each IsWhole (functions_of f)
IsFine _ = Unit {0}

abbrev AreFine : List Value → Type 0
AreFine [] = Unit {0}
AreFine (v ∷ vs) = IsFine v × AreFine vs

record Keeps (f : Action) : Type 0 where
  kept : (s : Read) → AreFine s.values → IfSome (f s) (λ t. AreFine t.values)

-- ---- the parts of actions

fine_rest : (vs : List Value) → AreFine vs → AreFine (rest vs)
fine_rest [] h = tt
fine_rest (v ∷ vs) h = h.1

gives : {A : Type 0} (o : Option A) (f : A → Action) → ((x : A) → Keeps (f x)) → Keeps (given o f)
gives (Some x) f h = record { kept = λ s fine. (h x).kept s fine }
gives None f h = record { kept = λ s fine. tt }

takes : {A : Type 0} (top : List Value → Option A) (f : A → Action) → ((x : A) → Keeps (f x)) → Keeps (take top f)
takes top f h = record { kept = λ s fine. (gives (top s.values) f h).kept (under s) (fine_rest s.values fine) }

puts : (v : Value) → IsFine v → Keeps (put v)
puts v here = record { kept = λ s fine. (here, fine) }

picked : (b : Bool) (s t : Read) → AreFine s.values → AreFine t.values → IfSome (if b then Some s else Some t) (λ u. AreFine u.values)
picked true s t h k = h
picked false s t h k = k

makes : (n : ℕ) (p q : Place) (e : Shape) → Keeps (made n p q e)
makes n p q e = record { kept = λ s fine. picked (nat_lt n most_nesting) _ _ (tt, fine) (tt, fine) }

encloses : (n : ℕ) (p : Place) (e : Tree) → Keeps (enclosed n p e)
encloses n p (tree q e) = makes n p q e

two_kept : (shape : Tree → Tree → Shape) → Keeps (two shape)
two_kept shape = takes top_operand _ (λ y. takes top_operand _ (λ x. makes _ _ _ _))

all_kept : (shape : List Tree → Shape) → Keeps (all shape)
all_kept shape = takes top_items _ (λ es. takes top_at _ (λ p. makes _ _ _ _))

chosen : (b : Bool) (s : Read) → AreFine s.values → IfSome (cond b (Some s) None) (λ t. AreFine t.values)
chosen true s fine = fine
chosen false s fine = tt

longer : (first : Option Head) (cs : List ClauseTree) (c : ClauseTree) → AreHeaded first (cs ++ c ∷ [])
longer None cs c = tt
longer (Some h) [] c = tt
longer (Some h) (d ∷ cs) c = tt

clause_put : (cs : Clauses) (c : ClauseTree) (first : Option Head) (nest : ℕ) → Keeps (with_clause cs c first nest)
clause_put cs c first nest = puts (clauses (record { clauses = cs.clauses ++ c ∷ []; first = first; nest = max cs.nest nest })) (longer first cs.clauses c)

headed_kept : (code : ℕ) (cs : Clauses) (h : Head) (ps : Items) (g : Guard) (body : Items) → Keeps (headed code cs h ps g body)
headed_kept code cs h ps g body = record {
  kept = λ s fine.
      (clause_put cs (record { place = h.place; patterns = ps.trees; guard = g.tests; body = body.trees }) (Some (first_head cs.first h)) (max (max ps.nest g.nest) body.nest)).kept
      (record { values = s.values; faults = s.faults ++ head_faults code cs.first h; trace = s.trace; deep = s.deep }) fine;
}

traced : (n : Option Name) → Keeps (λ s. cond (at_catch s.values) (Some (record { values = s.values; faults = s.faults; trace = n; deep = s.deep })) None)
traced n = record { kept = λ s fine. chosen (at_catch s.values) _ fine }

stays : Keeps (λ s. Some s)
stays = record { kept = λ s fine. fine }

caught_put : (p : Place) (k : ClassPart) (e : Tree) (n : ℕ)
    → Keeps (λ s. Some (record { values = caught (record { place = p; class = k; pattern = e; trace = s.trace; nest = n }) ∷ s.values; faults = s.faults; trace = None; deep = s.deep }))
caught_put p k e n = record { kept = λ s fine. (tt, fine) }

-- ---- a function, which has the clauses on top

function_made : (h : Head) (cs : List ClauseTree) → AreHeaded (Some h) cs → Keeps (forms.function_of h cs)
function_made h [] some = absurd some
function_made h (c ∷ cs) some =
    gives h.name _ (λ n. puts (form (function (record { place = h.place; name = n; arity = min h.arity (2 ^ 32 - 1); clauses = plain_clauses (c ∷ cs) }))) (tt, tt))

function_headed : (first : Option Head) (cs : List ClauseTree) → AreHeaded first cs → Keeps (given first (λ h. forms.function_of h cs))
function_headed None cs some = record { kept = λ s fine. tt }
function_headed (Some h) cs some = function_made h cs some

clauses_given : (vs : List Value) (f : Clauses → Action) → ((x : Clauses) → AreHeaded x.first x.clauses → Keeps (f x)) → AreFine vs → Keeps (given (top_clauses vs) f)
clauses_given [] f h all_fine = record { kept = λ s fine. tt }
clauses_given (clauses x ∷ vs) f h all_fine = record { kept = λ s fine. (h x all_fine.0).kept s fine }
clauses_given (_ ∷ vs) f h all_fine = record { kept = λ s fine. tt }

function_kept : Keeps forms.function
function_kept = record {
  kept = λ s fine.
      (clauses_given s.values (λ cs. given cs.first (λ h. forms.function_of h cs.clauses)) (λ cs some. function_headed cs.first cs.clauses some) fine).kept (under s) (fine_rest s.values fine);
}

-- ---- all actions

keeps : (x : ActionName) → Keeps (act x)
keeps a.Catching = takes top_operand _ (λ x. takes top_operator _ (λ o. makes _ _ _ _))
keeps a.Matching = two_kept _
keeps a.Binary = takes top_operand _ (λ y. takes top_operator _ (λ o. takes top_operand _ (λ x. gives (between o.0) _ (λ b. makes _ _ _ _))))
keeps a.OrElse = two_kept _
keeps a.AndAlso = two_kept _
keeps a.Unary = takes top_operand _ (λ x. takes top_operator _ (λ o. gives (in_front o.0) _ (λ u. makes _ _ _ _)))
keeps a.None = puts _ tt
keeps a.Call = takes top_items _ (λ es. takes top_at _ (λ p. takes top_operand _ (λ f. makes _ _ _ _)))
keeps a.Remote = takes top_items _ (λ es. takes top_at _ (λ p. takes top_operand _ (λ f. takes top_operand _ (λ m. makes _ _ _ _))))
keeps a.Trace = takes top_leaf _ (λ l. gives (trace_name l.0) _ (λ n. traced n))
keeps a.RecordNew = takes top_fields _ (λ fs. takes top_at _ (λ q. takes top_atom _ (λ n. takes top_at _ (λ p. makes _ _ _ _))))
keeps a.RecordIndex = takes top_atom _ (λ f. takes top_atom _ (λ n. takes top_at _ (λ p. makes 0 _ _ _)))
keeps a.RecordUpdate = takes top_fields _ (λ fs. takes top_at _ (λ q. takes top_atom _ (λ n. takes top_at _ (λ p. takes top_operand _ (λ x. makes _ _ _ _)))))
keeps a.RecordField = takes top_atom _ (λ f. takes top_atom _ (λ n. takes top_at _ (λ p. takes top_operand _ (λ x. makes _ _ _ _))))
keeps a.NoFields = puts _ tt
keeps a.Field = takes top_operand _ (λ x. takes top_leaf _ (λ l. takes top_fields _ (λ fs. gives (field_name l.0) _ (λ n. puts _ tt))))
keeps a.MayTrace = record { kept = λ s fine. chosen (at_catch s.values) s fine }
keeps a.Refuse = record { kept = λ s fine. tt }
keeps a.Leaf = takes top_leaf _ (λ l. makes 0 _ _ _)
keeps a.Parens = takes top_operand _ (λ x. takes top_at _ (λ p. encloses _ _ x.tree))
keeps a.NoSegments = puts _ tt
keeps a.Block = all_kept _
keeps a.IfOf = takes top_clauses _ (λ cs. takes top_at _ (λ q. makes _ _ _ _))
keeps a.CaseOf = takes top_clauses _ (λ cs. takes top_operand _ (λ x. takes top_at _ (λ q. makes _ _ _ _)))
keeps a.NoSteps = puts _ tt
keeps a.NoClauses = puts _ tt
keeps a.Join = takes top_leaf _ (λ l. takes top_operand _ (λ x. gives (text_in_leaf l.0) _ (λ second. gives (text_in x.tree) _ (λ first. puts _ tt))))
keeps a.List = all_kept _
keeps a.ListComp = takes top_qualifiers _ (λ qs. takes top_operand _ (λ x. takes top_items _ (λ none. takes top_at _ (λ q. makes _ _ _ _))))
keeps a.Add = takes top_operand _ (λ x. takes top_items _ (λ es. puts _ tt))
keeps a.ListTo = takes top_operand _ (λ x. takes top_items _ (λ es. takes top_at _ (λ p. makes _ _ _ _)))
keeps a.Tuple = all_kept _
keeps a.Bin = takes top_segments _ (λ ss. takes top_at _ (λ q. makes _ _ _ _))
keeps a.BinComp = takes top_qualifiers _ (λ qs. takes top_operand _ (λ x. takes top_segments _ (λ none. takes top_at _ (λ q. makes _ _ _ _))))
keeps a.Segment = takes top_operand _ (λ x. puts _ tt)
keeps a.AddSegment = takes top_open_segment _ (λ s. takes top_segments _ (λ ss. puts _ tt))
keeps a.Size = takes top_operand _ (λ x. takes top_open_segment _ (λ s. puts _ tt))
keeps a.WordNumber = takes top_leaf _ (λ l. takes top_atom _ (λ n. takes top_operator _ (λ o. takes top_open_segment _ (λ s. gives (number_in l.0) _ (λ i. puts _ tt)))))
keeps a.Word = takes top_atom _ (λ n. takes top_operator _ (λ o. takes top_open_segment _ (λ s. puts _ tt)))
keeps a.NoQualifiers = puts _ tt
keeps a.From = takes top_operand _ (λ e. takes top_operator _ (λ o. takes top_operand _ (λ p. takes top_qualifiers _ (λ qs. gives (arrow o.0) _ (λ q. puts _ tt)))))
keeps a.Filter = takes top_operand _ (λ e. takes top_qualifiers _ (λ qs. puts _ tt))
keeps a.NoGuard = puts _ tt
keeps a.AddGuard = takes top_items _ (λ es. takes top_guard _ (λ g. puts _ tt))
keeps a.IfClause = takes top_items _ (λ body. takes top_guard _ (λ g. takes top_clauses _ (λ cs. gives g.start _ (λ q. clause_put cs _ _ _))))
keeps a.Clause = takes top_items _ (λ body. takes top_guard _ (λ g. takes top_operand _ (λ x. takes top_clauses _ (λ cs. clause_put cs _ _ _))))
keeps a.ReceiveAfter = takes top_items _ (λ body. takes top_operand _ (λ x. takes top_clauses _ (λ cs. takes top_at _ (λ q. makes _ _ _ _))))
keeps a.ReceiveOf = takes top_clauses _ (λ cs. takes top_at _ (λ q. makes _ _ _ _))
keeps a.NoCatches = puts _ tt
keeps a.Forget = takes top_value _ (λ v. stays)
keeps a.Unclassed = puts _ tt
keeps a.TryOf = takes top_items _ (λ after. takes top_catches _ (λ ks. takes top_clauses _ (λ cs. takes top_items _ (λ body. takes top_at _ (λ q. makes _ _ _ _)))))
keeps a.Class = takes top_leaf _ (λ l. gives (class_of l.0) _ (λ k. puts _ tt))
keeps a.CaughtPattern = takes top_operand _ (λ x. takes top_mark _ (λ m. caught_put _ _ _ _))
keeps a.CatchClause = takes top_items _ (λ body. takes top_guard _ (λ g. takes top_caught _ (λ c. takes top_catches _ (λ cs. puts _ tt))))
keeps a.Step = takes top_operand _ (λ x. takes top_steps _ (λ ss. puts _ tt))
keeps a.StepMatch = takes top_operand _ (λ e. takes top_operand _ (λ p. takes top_steps _ (λ ss. puts _ tt)))
keeps a.MaybeOf = takes top_clauses _ (λ cs. takes top_steps _ (λ ss. takes top_at _ (λ q. makes _ _ _ _)))
keeps a.FunClause = takes top_items _ (λ body. takes top_guard _ (λ g. takes top_items _ (λ ps. takes top_at _ (λ q. takes top_clauses _ (λ cs. headed_kept table.fun_head_mismatch cs (record { place = q; name = None; arity = length ps.trees }) ps g body)))))
keeps a.FunOf = takes top_clauses _ (λ cs. takes top_at _ (λ q. makes _ _ _ _))
keeps a.FunLocal = takes top_leaf _ (λ a. takes top_operator _ (λ o. takes top_atom _ (λ n. takes top_clauses _ (λ none. takes top_at _ (λ q. gives (number_in a.0) _ (λ i. makes 0 _ _ _))))))
keeps a.NamedClause = takes top_items _ (λ body. takes top_guard _ (λ g. takes top_items _ (λ ps. takes top_at _ (λ q. takes top_leaf _ (λ l. takes top_clauses _ (λ cs. gives (variable_in l.0) _ (λ n. headed_kept table.fun_head_mismatch cs (record { place = l.1; name = Some n; arity = length ps.trees }) ps g body)))))))
keeps a.FunRemote = takes top_operand _ (λ a. takes top_operator _ (λ o. takes top_operand _ (λ f. takes top_leaf _ (λ m. takes top_clauses _ (λ none. takes top_at _ (λ q. gives (name_shape m.0) _ (λ e. makes _ _ _ _)))))))
keeps a.FunctionClause = takes top_items _ (λ body. takes top_guard _ (λ g. takes top_items _ (λ ps. takes top_at _ (λ q. takes top_atom _ (λ n. takes top_clauses _ (λ cs. headed_kept table.head_mismatch cs (record { place = n.1; name = Some n.0; arity = length ps.trees }) ps g body))))))
keeps a.Function = function_kept
keeps a.ModuleName = takes top_atom _ (λ n. takes top_at _ (λ q. takes top_atom _ (λ w. takes top_operator _ (λ o. puts _ tt))))
keeps a.Export = takes top_references _ (λ rs. takes top_at _ (λ q. takes top_at _ (λ r. takes top_atom _ (λ w. takes top_operator _ (λ o. puts _ tt)))))
keeps a.Import = takes top_references _ (λ rs. takes top_at _ (λ q. takes top_atom _ (λ n. takes top_at _ (λ r. takes top_atom _ (λ w. takes top_operator _ (λ o. puts _ tt))))))
keeps a.RecordOf = takes top_definitions _ (λ ds. takes top_at _ (λ q. takes top_atom _ (λ n. takes top_at _ (λ r. takes top_atom _ (λ w. takes top_operator _ (λ o. puts _ tt))))))
keeps a.Dropped = takes top_atom _ (λ w. takes top_operator _ (λ o. puts _ tt))
keeps a.Attribute = takes top_operand _ (λ x. takes top_at _ (λ q. takes top_atom _ (λ w. takes top_operator _ (λ o. puts _ tt))))
keeps a.NoReferences = puts _ tt
keeps a.Reference = takes top_leaf _ (λ a. takes top_operator _ (λ o. takes top_atom _ (λ n. takes top_references _ (λ rs. gives (number_in a.0) _ (λ i. puts _ tt)))))
keeps a.NoDefinitions = puts _ tt
keeps a.DefinitionWith = takes top_operand _ (λ x. takes top_atom _ (λ n. takes top_definitions _ (λ ds. puts _ tt)))
keeps a.Definition = takes top_atom _ (λ n. takes top_definitions _ (λ ds. puts _ tt))
keeps a.NameArity = takes top_leaf _ (λ a. takes top_operator _ (λ o. takes top_atom _ (λ n. gives (number_in a.0) _ (λ i. makes 1 _ _ _))))

-- ---- tokens

operator_fine : (o : Option Operator) (p : Place) (s : Read) → AreFine s.values → AreFine (added (operated o p) s).values
operator_fine (Some o) p s fine = (tt, fine)
operator_fine None p s fine = fine

symbol_fine : (x : Sym) (p : Place) (s : Read) → AreFine s.values → AreFine (added (symbol_value x p) s).values
symbol_fine sym_is.LeftParen p s fine = (tt, fine)
symbol_fine sym_is.LeftBracket p s fine = (tt, fine)
symbol_fine sym_is.LeftBrace p s fine = (tt, fine)
symbol_fine sym_is.LeftBits p s fine = (tt, fine)
symbol_fine sym_is.Hash p s fine = (tt, fine)
symbol_fine x p s fine = operator_fine (symbol_operator x) p s fine

word_fine : (w : Word) (p : Place) (s : Read) → AreFine s.values → AreFine (added (word_value w p) s).values
word_fine word_is.Begin p s fine = (tt, fine)
word_fine word_is.Case p s fine = (tt, fine)
word_fine word_is.Fun p s fine = (tt, fine)
word_fine word_is.If p s fine = (tt, fine)
word_fine word_is.Maybe p s fine = (tt, fine)
word_fine word_is.Receive p s fine = (tt, fine)
word_fine word_is.Try p s fine = (tt, fine)
word_fine w p s fine = operator_fine (word_operator w) p s fine

token_fine : (names : Texts) (k : TokenKind) (p : Place) (s : Read) → AreFine s.values → AreFine (added (token_value names k p) s).values
token_fine names (kind.Atom n) p s fine = (tt, fine)
token_fine names (kind.Var n) p s fine = (tt, fine)
token_fine names (kind.Int i) p s fine = (tt, fine)
token_fine names (kind.Char c) p s fine = (tt, fine)
token_fine names (kind.Str cs) p s fine = (tt, fine)
token_fine names (kind.Word w) p s fine = word_fine w p s fine
token_fine names (kind.Sym x) p s fine = symbol_fine x p s fine
token_fine names kind.Dot p s fine = fine

-- ---- all that is read

module _ (names : Texts) where
  leads : (α : List (Symbol RuleName ActionName)) (vs : Read) (ts : List Token) (ws : Read) → AreFine vs.values → Leads (grammar names) α vs ts ws → AreFine ws.values
  leads _ _ _ _ fine (done vs) = fine
  leads _ _ _ _ fine (token s β vs t us ws is l) = leads β (push names t vs) us ws (token_fine names t.kind t.place vs fine) l
  leads _ _ _ _ fine (acted x β vs us ts ws is l) = leads β us ts ws (subst (λ o. IfSome o (λ t. AreFine t.values)) is ((keeps x).kept vs fine)) l
  leads _ _ _ _ fine (ruled n γ β vs ts ws is l) = leads (γ ++ β) vs ts ws fine l

  form_whole : (f : FormTree) (ts : List Token) → SpellsForm names (kind_of names ts) f [] ts → Each IsWhole (functions_of f)
  form_whole f ts spelled = (leads _ _ ts _ tt spelled.1).0

  -- what is kept of an attribute has no function either
  no_functions : (b c : Bool) (n : Name) (e : Tree) → functions_of (cond b (cond c export_all dropped) (attribute n e)) ≡ []
  no_functions true true n e = refl
  no_functions true false n e = refl
  no_functions false c n e = refl

  pub kept_functions : (f : FormTree) → functions_of (kept names f) ≡ functions_of f
  kept_functions (module_name n) = refl
  kept_functions (export rs) = refl
  kept_functions (import m rs) = refl
  kept_functions (record_of r) = refl
  kept_functions (attribute n e) = no_functions _ _ n e
  kept_functions dropped = refl
  kept_functions export_all = refl
  kept_functions (function g) = refl

  read_whole : (f : FormTree) (ts : List Token) → ReadsForm names f ts → Each IsWhole (functions_of f)
  read_whole f ts h =
      subst (λ g. Each IsWhole (functions_of g)) (sym h.is) (subst (Each IsWhole) (sym (kept_functions h.written)) (form_whole h.written ts h.spelled))

  pub forms_whole : (tss : List (List Token)) (fs : List PlacedTree) (faults : List Fault) → ReadsForms names tss fs faults → Each IsWhole (functions_in fs)
  forms_whole _ _ _ no_forms = tt
  forms_whole _ _ _ (read ts tss f fs faults r rs) = each_joined IsWhole (functions_of f) (functions_in fs) (read_whole f ts r) (forms_whole tss fs faults rs)
  forms_whole _ _ _ (faulty ts tss fs own faults r rs) = forms_whole tss fs faults rs
