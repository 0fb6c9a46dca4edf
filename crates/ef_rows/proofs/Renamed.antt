-- What tokens make under other names, and that what they make has no names but those of the table.
use Rattle.std.proofs.Common.{◌≡◌, ◌+◌, ℕ, Bool, true, false, cond, length, ltb, arith, List, [], ◌∷◌, Option, Some, None, refl, sym, ap, ap₂, ◌∙◌, subst, map}
use Rattle.std.specs.Prelude.{◌&&◌}
use Rattle.std.specs.Option.{option_map}
use Rattle.std.proofs.lemmas.Bool.{ltb-false}
use Rattle.ef_base.specs.declared.fault.Fault.{Fault}
use Rattle.ef_base.specs.declared.name.Name.{Name}
use Rattle.ef_base.specs.Texts.{Texts, Extends, HasName, text}
use Rattle.ef_base.specs.Laws.{has_later}
use Rattle.ef_token.specs.declared.token.Token.{Token}
use Rattle.ef_token.specs.declared.token.TokenKind.{TokenKind}
use Rattle.ef_token.specs.declared.token.TokenKind.TheVariants as kind
use Rattle.ef_token.specs.declared.word.Sym.{Sym}
use Rattle.ef_token.specs.declared.word.Sym.TheVariants as sym_is
use Rattle.ef_token.specs.declared.word.Word.{Word}
use Rattle.ef_token.specs.declared.word.Word.TheVariants as word
use Rattle.ef_token.specs.TokenForm.{KindOf, TokensOf}
use Rattle.ef_forms.specs.Tree.{FormTree}
use Rattle.ef_forms.specs.OfTable.{TreeOf, ClausesOf, FormOf}
use Rattle.ef_forms.specs.Plain as plain
use Rattle.ef_forms.proofs.Renamed.{Injective, shift, own_shift, shift_injective, renamed_tree, renamed_form, renamed_clause, clauses_stay, tree_of_table, clauses_of_table, form_of_table}
use Rattle.ef_grammar.specs.Grammar.{has}
use Rattle.ef_grammar.specs.Answers.{Spells}
use Rattle.ef_grammar.proofs.Alike.{IsAlike, SeesAlike, leads_alike, leads_back}
use Rattle.ef_grammar.proofs.OneValue.{one_value}
use Rattle.ef_build.specs.Stack.{nothing}
use Rattle.ef_build.specs.Values.{Operand, Clauses, Value, Read, value, operand, clauses, form}
use Rattle.ef_build.proofs.Renamed.{renamed_operand, renamed_clauses, renamed_value, renamed_read}
use Rattle.ef_build.proofs.RenamedTokens.{renamed_kind, renamed_token, KeepsWildcard, push_stays, wildcard_stays}
use Rattle.ef_build.proofs.RenamedExpressions as e
use Rattle.ef_build.proofs.RenamedConstructs as c
use Rattle.ef_build.proofs.RenamedForms as f
use Rattle.ef_rows.specs.Classes as class
use Rattle.ef_rows.specs.declared.rows.Action.{Action}
use Rattle.ef_rows.specs.declared.rows.Action.TheVariants as a
use Rattle.ef_rows.specs.declared.single.Single.{Single}
use Rattle.ef_rows.specs.declared.single.Start.{Start}
use Rattle.ef_rows.specs.declared.single.Start.TheVariants as start_is
use Rattle.ef_rows.specs.Erlang.{own_class, is_variable, is_name, is_colon, ends_pattern, is_trace, is_class, class_before, look, act, grammar}
use Rattle.ef_rows.specs.Makes.{rule_of, Makes, IsSingle}
use Rattle.ef_rows.specs.Sound.{sound, rows_are}
use Rattle.ef_rows.specs.Tables.{behind, table}

-- No two names become one, and a new name of the new table has the text of the old name.
pub record Renames (new old : Texts) (r : Name → Name) : Type 0 where
  pub injective : Injective r
  pub keeps : (n : Name) → HasName new (r n) → text new (r n) ≡ text old n

-- ---- the rows

module _ (r : Name → Name) (injective : Injective r) where
  pub acts : (x : Action) (s : Read) → act x (renamed_read r s) ≡ option_map (renamed_read r) (act x s)
  acts a.Catching = e.catching_stays r
  acts a.Matching = e.matching_stays r
  acts a.Binary = e.binary_stays r
  acts a.OrElse = e.or_else_stays r
  acts a.AndAlso = e.and_also_stays r
  acts a.Unary = e.unary_stays r
  acts a.None = e.none_stays r
  acts a.Call = e.call_stays r
  acts a.Remote = e.remote_stays r
  acts a.Trace = e.trace_stays r
  acts a.RecordNew = e.record_new_stays r
  acts a.RecordIndex = e.record_index_stays r
  acts a.RecordUpdate = e.record_update_stays r
  acts a.RecordField = e.record_field_stays r
  acts a.NoFields = e.no_fields_stays r
  acts a.Field = e.field_stays r
  acts a.MayTrace = e.may_trace_stays r
  acts a.Refuse = λ s. refl
  acts a.Leaf = e.on_leaf_stays r
  acts a.Parens = e.parens_stays r
  acts a.NoSegments = c.no_segments_stays r
  acts a.Block = e.block_stays r
  acts a.IfOf = c.if_of_stays r
  acts a.CaseOf = c.case_of_stays r
  acts a.NoSteps = c.no_steps_stays r
  acts a.NoClauses = c.no_clauses_stays r
  acts a.Join = e.join_stays r
  acts a.List = e.list_stays r
  acts a.ListComp = c.list_comp_stays r
  acts a.Add = e.add_stays r
  acts a.ListTo = e.list_to_stays r
  acts a.Tuple = e.tuple_stays r
  acts a.Bin = c.bin_stays r
  acts a.BinComp = c.bin_comp_stays r
  acts a.Segment = c.segment_stays r
  acts a.AddSegment = c.add_segment_stays r
  acts a.Size = c.size_stays r
  acts a.WordNumber = c.word_number_stays r
  acts a.Word = c.word_stays r
  acts a.NoQualifiers = c.no_qualifiers_stays r
  acts a.From = c.from_stays r
  acts a.Filter = c.filter_stays r
  acts a.NoGuard = c.no_guard_stays r
  acts a.AddGuard = c.add_guard_stays r
  acts a.IfClause = c.if_clause_stays r
  acts a.Clause = c.clause_stays r
  acts a.ReceiveAfter = c.receive_after_stays r
  acts a.ReceiveOf = c.receive_of_stays r
  acts a.NoCatches = c.no_catches_stays r
  acts a.Forget = e.drop_stays r
  acts a.Unclassed = c.unclassed_stays r
  acts a.TryOf = c.try_of_stays r
  acts a.Class = c.class_stays r
  acts a.CaughtPattern = c.caught_pattern_stays r
  acts a.CatchClause = c.catch_clause_stays r
  acts a.Step = c.step_stays r
  acts a.StepMatch = c.step_match_stays r
  acts a.MaybeOf = c.maybe_of_stays r
  acts a.FunClause = c.fun_clause_stays r injective
  acts a.FunOf = c.fun_of_stays r
  acts a.FunLocal = c.fun_local_stays r
  acts a.NamedClause = c.named_clause_stays r injective
  acts a.FunRemote = c.fun_remote_stays r
  acts a.FunctionClause = c.function_clause_stays r injective
  acts a.Function = f.function_stays r
  acts a.ModuleName = f.module_name_stays r
  acts a.Export = f.export_stays r
  acts a.Import = f.import_stays r
  acts a.RecordOf = f.record_of_stays r
  acts a.Dropped = f.dropped_stays r
  acts a.Attribute = f.attribute_stays r
  acts a.NoReferences = f.no_references_stays r
  acts a.Reference = f.reference_stays r
  acts a.NoDefinitions = f.no_definitions_stays r
  acts a.DefinitionWith = f.definition_with_stays r
  acts a.Definition = f.definition_stays r
  acts a.NameArity = e.name_arity_stays r

-- ---- classes of tokens

module _ (r : Name → Name) where
  variable_stays : (k : TokenKind) → is_variable (renamed_kind r k) ≡ is_variable k
  variable_stays (kind.Atom n) = refl
  variable_stays (kind.Var n) = refl
  variable_stays k = refl

  name_stays : (k : TokenKind) → is_name (renamed_kind r k) ≡ is_name k
  name_stays (kind.Atom n) = refl
  name_stays (kind.Var n) = refl
  name_stays k = refl

  colon_stays : (k : TokenKind) → is_colon (renamed_kind r k) ≡ is_colon k
  colon_stays (kind.Atom n) = refl
  colon_stays (kind.Var n) = refl
  colon_stays k = refl

  end_stays : (k : TokenKind) → ends_pattern (renamed_kind r k) ≡ ends_pattern k
  end_stays (kind.Atom n) = refl
  end_stays (kind.Var n) = refl
  end_stays k = refl

  trace_stays : (ts : List Token) → is_trace (map (renamed_token r) ts) ≡ is_trace ts
  trace_stays [] = refl
  trace_stays (t ∷ []) = refl
  trace_stays (t ∷ u ∷ ts) = ap₂ (λ p q. p && q) (variable_stays t.kind) (end_stays u.kind)

  named_stays : (ts : List Token) → is_class (map (renamed_token r) ts) ≡ is_class ts
  named_stays [] = refl
  named_stays (t ∷ []) = refl
  named_stays (t ∷ u ∷ ts) = ap₂ (λ p q. p && q) (name_stays t.kind) (colon_stays u.kind)

  symbol_before : (s : Sym) (ts : List Token) (own : ℕ) → class_before (kind.Sym s) (map (renamed_token r) ts) own ≡ class_before (kind.Sym s) ts own
  symbol_before sym_is.Colon ts own = ap (λ b. cond b class.ColonEnd own) (trace_stays ts)
  symbol_before sym_is.Semicolon ts own = ap (λ b. cond b class.SemiNamed own) (named_stays ts)
  symbol_before s ts own = refl

  word_before : (w : Word) (ts : List Token) (own : ℕ) → class_before (kind.Word w) (map (renamed_token r) ts) own ≡ class_before (kind.Word w) ts own
  word_before word.Catch ts own = ap (λ b. cond b class.CatchNamed own) (named_stays ts)
  word_before w ts own = refl

  before_stays : (k : TokenKind) (ts : List Token) (own : ℕ) → class_before (renamed_kind r k) (map (renamed_token r) ts) own ≡ class_before k ts own
  before_stays (kind.Sym s) ts own = symbol_before s ts own
  before_stays (kind.Word w) ts own = word_before w ts own
  before_stays k ts own = refl

-- ---- two tables

module _ (new old : Texts) (r : Name → Name) (renames : Renames new old r) where
  keeps_wildcard : (k : TokenKind) → KindOf new (renamed_kind r k) → KeepsWildcard r new old k
  keeps_wildcard (kind.Var n) h = wildcard_stays r new old n (renames.keeps n h)
  keeps_wildcard k h = tt

  class_stays : (k : TokenKind) → KindOf new (renamed_kind r k) → own_class new (renamed_kind r k) ≡ own_class old k
  class_stays (kind.Var n) h = ap (λ b. cond b class.Any class.Var) (wildcard_stays r new old n (renames.keeps n h))
  class_stays k h = refl

  look_stays : (ts : List Token) → TokensOf new (map (renamed_token r) ts) → look new (map (renamed_token r) ts) ≡ look old ts
  look_stays [] h = refl
  look_stays (t ∷ ts) h = before_stays r t.kind ts (own_class new (renamed_kind r t.kind)) ∙ ap (class_before t.kind ts) (class_stays t.kind h.0)

  alike : IsAlike (grammar new) (grammar old) (renamed_token r) (renamed_read r)
  alike = record { rows = λ n. refl; acts = acts r renames.injective }

  sees : (ts : List Token) → TokensOf new (map (renamed_token r) ts) → SeesAlike (grammar new) (grammar old) (renamed_token r) (renamed_read r) ts
  sees [] h = tt
  sees (t ∷ ts) h = (look_stays (t ∷ ts) h, λ s. push_stays r new old t s (keeps_wildcard t.kind h.0), sees ts h.1)

  -- renamed tokens make the renamed value
  pub makes_renamed : (n : Start) (ts : List Token) (v : Value) (faults : List Fault) (deep : Bool) → TokensOf new (map (renamed_token r) ts)
      → Makes old n ts v faults deep → Makes new n (map (renamed_token r) ts) (renamed_value r v) faults deep
  makes_renamed n ts v faults deep h m =
      (option_map r m.0, leads_alike (grammar new) (grammar old) (renamed_token r) (renamed_read r) alike _ nothing ts _ (sees ts h) m.1)

  one_left : (w : Value) (vs : List Value) → w ∷ [] ≡ map (renamed_value r) vs → (v : Value) × (vs ≡ v ∷ []) × (w ≡ renamed_value r v)
  one_left w [] e = absurd (cc)
  one_left w (v ∷ []) e = (v, refl, cc)
  one_left w (v ∷ u ∷ vs) e = absurd (cc)

  held : (n : Start) (ts : List Token) (v : Value) (faults : List Fault) (deep : Bool) (z : Read) → z.values ≡ v ∷ [] → faults ≡ z.faults → deep ≡ z.deep
      → Spells (grammar old) (rule_of n) nothing ts z → Makes old n ts v faults deep
  held n ts v faults deep z is same deeper spelled = (z.trace, subst (λ (w : Read). Spells (grammar old) (rule_of n) nothing ts w) whole spelled)
    where
      whole : z ≡ record { values = v ∷ []; faults = faults; trace = z.trace; deep = deep }
      whole = rw (same, deeper, sym is) refl

  -- and nothing else
  pub makes_back : (n : Start) (ts : List Token) (w : Value) (faults : List Fault) (deep : Bool) → TokensOf new (map (renamed_token r) ts)
      → Makes new n (map (renamed_token r) ts) w faults deep → (v : Value) × (w ≡ renamed_value r v) × Makes old n ts v faults deep
  makes_back n ts w faults deep h m =
      let b = leads_back (grammar new) (grammar old) (renamed_token r) (renamed_read r) alike _ _ _ _ m.1 nothing ts refl refl (sees ts h) in
      let one = one_left w b.0.values (ap (λ (z : Read). z.values) b.1) in
      (one.0, one.2, held n ts one.0 faults deep b.0 one.1 (ap (λ (z : Read). z.faults) b.1) (ap (λ (z : Read). z.deep) b.1) b.2)

-- ---- there is one value

abbrev read_of : Value → List Fault → Option Name → Bool → Read
read_of v faults trace deep = record { values = v ∷ []; faults = faults; trace = trace; deep = deep }

ends : (n : Start) → has (behind (rule_of n)) class.Nothing ≡ true
ends start_is.Expression = refl
ends start_is.Clauses = refl
ends start_is.Function = refl
ends start_is.Module = refl
ends start_is.Export = refl
ends start_is.Import = refl
ends start_is.Record = refl
ends start_is.Dropped = refl
ends start_is.Other = refl

pub one_made : (all : Texts) (n : Start) (ts : List Token) (v w : Value) (faults others : List Fault) (deep deeper : Bool)
    → Makes all n ts v faults deep → Makes all n ts w others deeper → (w ≡ v) × (others ≡ faults) × (deeper ≡ deep)
one_made all n ts v w faults others deep deeper x y =
    let same : read_of w others y.0 deeper ≡ read_of v faults x.0 deep = one_value (grammar all) table sound rows_are (rule_of n) nothing ts _ _ (ends n) x.1 y.1 in
    (first w v (ap (λ (z : Read). z.values) same), ap (λ (z : Read). z.faults) same, ap (λ (z : Read). z.deep) same)
  where
    first : (w v : Value) → w ∷ [] ≡ v ∷ [] → w ≡ v
    first w v e = cc

-- ---- no names but those of the table

pub tokens_later : (now all : Texts) (ts : List Token) → TokensOf now ts → Extends now all → TokensOf all ts
tokens_later now all [] h later = tt
tokens_later now all (t ∷ ts) h later = (kind_later t.kind h.0, tokens_later now all ts h.1 later)
  where
    kind_later : (k : TokenKind) → KindOf now k → KindOf all k
    kind_later (kind.Atom n) h = has_later now all n h later
    kind_later (kind.Var n) h = has_later now all n h later
    kind_later k h = tt

module _ (all : Texts) where
  kind_stays : (k : TokenKind) → KindOf all k → renamed_kind (shift all) k ≡ k
  kind_stays (kind.Atom n) h = ap kind.Atom (own_shift all n h)
  kind_stays (kind.Var n) h = ap kind.Var (own_shift all n h)
  kind_stays k h = refl

  tokens_stay : (ts : List Token) → TokensOf all ts → map (renamed_token (shift all)) ts ≡ ts
  tokens_stay [] h = refl
  tokens_stay (t ∷ ts) h = ap₂ (λ (k : TokenKind) us. let u : Token = record { kind = k; place = t.place } in u ∷ us) (kind_stays t.kind h.0) (tokens_stay ts h.1)

  -- a name that the shift puts into the table was there
  shift_within_as : (n : Name) (b : Bool) → ltb n.index (length all) ≡ b → HasName all (cond b n (record { index = n.index + 1 })) → cond b n (record { index = n.index + 1 }) ≡ n
  shift_within_as n true is h = refl
  shift_within_as n false is h = absurd (omega (arith, h, ltb-false _ _ is))

  shift_renames : Renames all all (shift all)
  shift_renames = record { injective = shift_injective all; keeps = λ n h. ap (text all) (shift_within_as n (ltb n.index (length all)) refl h) }

  pub value_of_table : (n : Start) (ts : List Token) (v : Value) (faults : List Fault) (deep : Bool) → TokensOf all ts → Makes all n ts v faults deep → renamed_value (shift all) v ≡ v
  value_of_table n ts v faults deep h m =
      let same = tokens_stay ts h in
      let other : Makes all n (map (renamed_token (shift all)) ts) (renamed_value (shift all) v) faults deep =
      makes_renamed all all (shift all) shift_renames n ts v faults deep (subst (TokensOf all) (sym same) h) m in
      (one_made all n ts v (renamed_value (shift all) v) faults faults deep deep m (subst (λ us. Makes all n us (renamed_value (shift all) v) faults deep) same other)).0

  pub single_of_table : (n : Start) (ts : List Token) (s : Single) → TokensOf all ts → IsSingle all n ts (Some s) → renamed_value (shift all) (value s.value) ≡ value s.value
  single_of_table n ts s h is = value_of_table n ts (value s.value) s.faults.items s.deep h is.0

  pub tree_made : (n : Start) (ts : List Token) (x : Operand) (faults : List Fault) (deep : Bool) → TokensOf all ts → Makes all n ts (operand x) faults deep → TreeOf all x.tree
  tree_made n ts x faults deep h m = tree_of_table all x.tree (inside (value_of_table n ts (operand x) faults deep h m))
    where
      inside : operand (renamed_operand (shift all) x) ≡ operand x → renamed_tree (shift all) x.tree ≡ x.tree
      inside e = ap (λ (z : Operand). z.tree) (let same : renamed_operand (shift all) x ≡ x = cc in same)

  pub clauses_made : (n : Start) (ts : List Token) (x : Clauses) (faults : List Fault) (deep : Bool) → TokensOf all ts → Makes all n ts (clauses x) faults deep → ClausesOf all (plain.clauses x.clauses)
  clauses_made n ts x faults deep h m =
      clauses_of_table all (plain.clauses x.clauses) (sym (clauses_stay (shift all) x.clauses) ∙ ap plain.clauses (inside (value_of_table n ts (clauses x) faults deep h m)))
    where
      inside : clauses (renamed_clauses (shift all) x) ≡ clauses x → map (renamed_clause (shift all)) x.clauses ≡ x.clauses
      inside e = ap (λ (z : Clauses). z.clauses) (let same : renamed_clauses (shift all) x ≡ x = cc in same)

  pub form_made : (n : Start) (ts : List Token) (f : FormTree) (faults : List Fault) (deep : Bool) → TokensOf all ts → Makes all n ts (form f) faults deep → FormOf all f
  form_made n ts f faults deep h m = form_of_table all f (inside (value_of_table n ts (form f) faults deep h m))
    where
      inside : form (renamed_form (shift all) f) ≡ form f → renamed_form (shift all) f ≡ f
      inside e = cc
