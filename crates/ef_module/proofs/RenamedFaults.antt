-- Under other names forms have the same kinds and the same faults, and what is kept of them is the same, renamed.
use Rattle.std.proofs.Common.{◌≡◌, ℕ, Bool, true, false, cond, List, [], ◌∷◌, ◌++◌, Option, Some, None, refl, ap, ap₂, ◌∙◌, subst, map, option_map, option_and_then, codes, bytes_eq}
use Rattle.std.specs.Prelude.{◌||◌, ◌&&◌}
use Rattle.std.specs.List.{flat_map, list_any}
use Rattle.ef_base.specs.declared.fault.Fault.{Fault}
use Rattle.ef_base.specs.declared.fault.Place.{Place}
use Rattle.ef_base.specs.declared.name.Name.{Name}
use Rattle.ef_base.specs.FaultTable as table
use Rattle.ef_base.specs.NamedFaults.{plain}
use Rattle.ef_base.specs.Texts.{Texts, HasName}
use Rattle.ef_token.specs.declared.token.Token.{Token}
use Rattle.ef_token.specs.declared.token.TokenKind.{TokenKind}
use Rattle.ef_token.specs.declared.token.TokenKind.TheVariants as kind
use Rattle.ef_token.specs.declared.word.Sym.{Sym}
use Rattle.ef_token.specs.declared.word.Sym.TheVariants as sym_is
use Rattle.ef_token.specs.TokenForm.{KindOf, TokensOf}
use Rattle.ef_forms.specs.declared.expr.TypeWord.{TypeWord}
use Rattle.ef_forms.specs.declared.form.FunctionRef.{FunctionRef}
use Rattle.ef_forms.specs.Nodes.{SeenTree, form_nodes}
use Rattle.ef_forms.specs.OfTable.{TreeOf, SegmentsOf, WordsOf, FormOf}
use Rattle.ef_forms.specs.Tree.{Tree, Segments, FormTree, count, tree, int, atom, var, binary, call, remote, fun_local, no_segments, segment, sized, module_name, export, import, record_of, attribute, dropped, export_all, function}
use Rattle.ef_forms.specs.Views.{place_of, atom_of, call_by_name, fun_name, segments_of, segment_list}
use Rattle.ef_forms.proofs.Renamed.{renamed_tree, renamed_segments, renamed_word, renamed_reference, renamed_form}
use Rattle.ef_forms.proofs.RenamedNodes.{renamed_seen, count_stays, place_stays, atom_stays, arguments_stay, operator_stays, heads_stay, fun_heads_stay, form_nodes_stay}
use Rattle.ef_parse.specs.declared.spelled.FormKind.{FormKind}
use Rattle.ef_parse.specs.declared.spelled.FormKind.TheVariants as is
use Rattle.ef_parse.specs.Spelled.{start_of}
use Rattle.ef_parse.proofs.Renamed.{renamed_kind, renamed_token, Renames}
use Rattle.ef_profile.specs.Adds.{where_}
use Rattle.ef_module.specs.Forms.{is_compile, kept}
use Rattle.ef_profile.specs.Kinds.{is_minus, atom_in, is_attribute, attribute_name, named_kind, kind_of, named_fault, not_spelled, word_kind}
use Rattle.ef_module.specs.Refused.{opens_map, refused_code, refusal, behind, outside, refused_from, kind_faults, token_faults}
use Rattle.ef_profile.specs.Unbuilt as u
use Rattle.ef_profile.specs.Unbuilt.{FunctionText, mentions, tree_faults}
use Rattle.ef_module.proofs.NodesOf.{EachOf, form_nodes_of}

pub joined : {us vs ss ts : List Fault} → us ≡ ss → vs ≡ ts → us ++ vs ≡ ss ++ ts
joined e f = ap₂ (λ x y. x ++ y) e f

-- ---- tokens

module _ (r : Name → Name) where
  minus_stays : (k : TokenKind) → is_minus (renamed_kind r k) ≡ is_minus k
  minus_stays (kind.Atom n) = refl
  minus_stays (kind.Var n) = refl
  minus_stays k = refl

  atom_in_stays : (k : TokenKind) → atom_in (renamed_kind r k) ≡ option_map r (atom_in k)
  atom_in_stays (kind.Atom n) = refl
  atom_in_stays (kind.Var n) = refl
  atom_in_stays k = refl

  attribute_stays : (ts : List Token) → is_attribute (map (renamed_token r) ts) ≡ is_attribute ts
  attribute_stays [] = refl
  attribute_stays (t ∷ ts) = minus_stays t.kind

  chosen_stays : (b : Bool) (o : Option Name) → cond b (option_map r o) None ≡ option_map r (cond b o None)
  chosen_stays true o = refl
  chosen_stays false o = refl

  name_stays : (ts : List Token) → attribute_name (map (renamed_token r) ts) ≡ option_map r (attribute_name ts)
  name_stays [] = refl
  name_stays (t ∷ []) = refl
  name_stays (t ∷ v ∷ ts) = ap₂ (λ b o. cond b o None) (minus_stays t.kind) (atom_in_stays v.kind) ∙ chosen_stays (is_minus t.kind) (atom_in v.kind)

  pub start_stays : (ts : List Token) → start_of (map (renamed_token r) ts) ≡ start_of ts
  start_stays [] = refl
  start_stays (t ∷ ts) = refl

  -- ---- tokens that are refused

  map_stays : (ts : List Token) → opens_map (map (renamed_token r) ts) ≡ opens_map ts
  map_stays [] = refl
  map_stays (t ∷ ts) = brace_stays t.kind
    where
      brace_stays : (k : TokenKind) → opens_map (record { kind = renamed_kind r k; place = t.place } ∷ map (renamed_token r) ts) ≡ opens_map (record { kind = k; place = t.place } ∷ ts)
      brace_stays (kind.Atom n) = refl
      brace_stays (kind.Var n) = refl
      brace_stays k = refl

  symbol_code : (s : Sym) (ts : List Token) → refused_code (kind.Sym s) (map (renamed_token r) ts) ≡ refused_code (kind.Sym s) ts
  symbol_code sym_is.Hash ts = ap (λ b. cond b (Some table.map) None) (map_stays ts)
  symbol_code s ts = refl

  code_stays : (k : TokenKind) (ts : List Token) → refused_code (renamed_kind r k) (map (renamed_token r) ts) ≡ refused_code k ts
  code_stays (kind.Sym s) ts = symbol_code s ts
  code_stays (kind.Atom n) ts = refl
  code_stays (kind.Var n) ts = refl
  code_stays k ts = refl

  behind_stays : (typed : Bool) (type_ : Option ℕ) (k : TokenKind) → behind typed type_ (renamed_kind r k) ≡ behind typed type_ k
  behind_stays typed type_ (kind.Atom n) = named type_
    where
      named : (o : Option ℕ) → behind typed o (kind.Atom (r n)) ≡ behind typed o (kind.Atom n)
      named (Some depth) = refl
      named None = refl
  behind_stays typed type_ (kind.Var n) = named type_
    where
      named : (o : Option ℕ) → behind typed o (kind.Var (r n)) ≡ behind typed o (kind.Var n)
      named (Some depth) = refl
      named None = refl
  behind_stays typed type_ k = refl

  refused_stays : (typed : Bool) (type_ : Option ℕ) (ts : List Token) → refused_from typed type_ (map (renamed_token r) ts) ≡ refused_from typed type_ ts
  refused_stays typed type_ [] = refl
  refused_stays typed type_ (t ∷ ts) =
      joined (ap (λ c. outside type_ (refusal t.place c)) (code_stays t.kind ts))
      (ap (λ o. refused_from typed o (map (renamed_token r) ts)) (behind_stays typed type_ t.kind) ∙ refused_stays typed (behind typed type_ t.kind) ts)

  kind_faults_stay : (k : FormKind) (ts : List Token) → kind_faults k (map (renamed_token r) ts) ≡ kind_faults k ts
  kind_faults_stay is.Dropped ts = refl
  kind_faults_stay is.Record ts = refused_stays true None ts
  kind_faults_stay is.Function ts = refused_stays false None ts
  kind_faults_stay is.Module ts = refused_stays false None ts
  kind_faults_stay is.Export ts = refused_stays false None ts
  kind_faults_stay is.Import ts = refused_stays false None ts
  kind_faults_stay is.Other ts = refused_stays false None ts

module _ (new old : Texts) (r : Name → Name) (renames : Renames new old r) where
  -- what becomes of the name is one of the new table
  abbrev NameOf : Option Name → Type 0
  NameOf (Some n) = HasName new (r n)
  NameOf None = Unit {0}

  atom_in_named : (k : TokenKind) → KindOf new (renamed_kind r k) → NameOf (atom_in k)
  atom_in_named (kind.Atom n) h = h
  atom_in_named k h = tt

  chosen_named : (b : Bool) (o : Option Name) → NameOf o → NameOf (cond b o None)
  chosen_named true o h = h
  chosen_named false o h = tt

  attribute_named : (ts : List Token) → TokensOf new (map (renamed_token r) ts) → NameOf (attribute_name ts)
  attribute_named [] h = tt
  attribute_named (t ∷ []) h = tt
  attribute_named (t ∷ v ∷ ts) h = chosen_named (is_minus t.kind) (atom_in v.kind) (atom_in_named v.kind h.1.0)

  named_kind_stays : (o : Option Name) → NameOf o → named_kind new (option_map r o) ≡ named_kind old o
  named_kind_stays (Some n) h = ap word_kind (renames.keeps n h)
  named_kind_stays None h = refl

  pub kind_stays : (ts : List Token) → TokensOf new (map (renamed_token r) ts) → kind_of new (map (renamed_token r) ts) ≡ kind_of old ts
  kind_stays ts h =
      ap₂ (λ b k. cond b k is.Function) (attribute_stays r ts)
      (ap (named_kind new) (name_stays r ts) ∙ named_kind_stays (attribute_name ts) (attribute_named ts h))

  pub token_faults_stay : (ts : List Token) → TokensOf new (map (renamed_token r) ts) → token_faults new (map (renamed_token r) ts) ≡ token_faults old ts
  token_faults_stay ts h = ap (λ k. kind_faults k (map (renamed_token r) ts)) (kind_stays ts h) ∙ kind_faults_stay r (kind_of old ts) ts

  named_fault_stays : (ts : List Token) (o : Option Name) → TokensOf new (map (renamed_token r) ts) → NameOf o
      → named_fault new (map (renamed_token r) ts) (option_map r o) ≡ named_fault old ts o
  named_fault_stays ts (Some n) h has = rw (start_stays r ts, kind_stays ts h, renames.keeps n has) refl
  named_fault_stays ts None h has = rw (start_stays r ts) refl

  pub not_spelled_stays : (ts : List Token) → TokensOf new (map (renamed_token r) ts) → not_spelled new (map (renamed_token r) ts) ≡ not_spelled old ts
  not_spelled_stays ts h =
      ap (named_fault new (map (renamed_token r) ts)) (name_stays r ts) ∙ named_fault_stays ts (attribute_name ts) h (attribute_named ts h)

  -- ---- the rules of a node

  text_stays : (word : List ℕ) (n : Name) → HasName new (r n) → u.is_text new word (r n) ≡ u.is_text old word n
  text_stays word n h = ap (λ t. bytes_eq t word) (renames.keeps n h)

  atom_named : (e : Tree) → TreeOf new (renamed_tree r e) → NameOf (atom_of e)
  atom_named (tree p (atom n)) h = h
  atom_named (tree p _) h = tt

  local_call : (fs : List FunctionText) (k : ℕ) (o : Option Name) → NameOf o
      → u.is_call_of fs new (option_map (λ n. record { home = None; name = n; arity = k }) (option_map r o)) ≡ u.is_call_of fs old (option_map (λ n. record { home = None; name = n; arity = k }) o)
  local_call fs k (Some n) h = ap (λ t. u.is_function_of fs t k) (renames.keeps n h)
  local_call fs k None h = refl

  remote_call : (fs : List FunctionText) (k : ℕ) (m o : Option Name) → NameOf m → NameOf o
      → u.is_call_of fs new (option_and_then (λ a. option_map (λ n. record { home = Some a; name = n; arity = k }) (option_map r o)) (option_map r m))
      ≡ u.is_call_of fs old (option_and_then (λ a. option_map (λ n. record { home = Some a; name = n; arity = k }) o) m)
  remote_call fs k (Some m) (Some n) g h = ap₂ (λ b t. b && u.is_function_of fs t k) (text_stays (codes "erlang") m g) (renames.keeps n h)
  remote_call fs k (Some m) None g h = refl
  remote_call fs k None o g h = refl

  call_stays : (fs : List FunctionText) (e : Tree) → TreeOf new (renamed_tree r e) → u.is_call_of fs new (call_by_name (renamed_tree r e)) ≡ u.is_call_of fs old (call_by_name e)
  call_stays fs (tree p (call f es)) h =
      ap₂ (λ k o. u.is_call_of fs new (option_map (λ n. record { home = None; name = n; arity = k }) o)) (count_stays r es) (atom_stays r f)
      ∙ local_call fs (count es) (atom_of f) (atom_named f h.0)
  call_stays fs (tree p (remote m f es)) h =
      ap₂ (λ k o. u.is_call_of fs new (option_and_then (λ a. option_map (λ n. record { home = Some a; name = n; arity = k }) o) (atom_of (renamed_tree r m)))) (count_stays r es) (atom_stays r f)
      ∙ ap (λ o. u.is_call_of fs new (option_and_then (λ a. option_map (λ n. record { home = Some a; name = n; arity = count es }) (option_map r (atom_of f))) o)) (atom_stays r m)
      ∙ remote_call fs (count es) (atom_of m) (atom_of f) (atom_named m h.0) (atom_named f h.1)
  call_stays fs (tree p _) h = refl

  words_stay : (ws : List TypeWord) → WordsOf new (map (renamed_word r) ws) → list_any (u.is_utf new) (map (renamed_word r) ws) ≡ list_any (u.is_utf old) ws
  words_stay [] h = refl
  words_stay (w ∷ ws) h = ap₂ (λ a b. a || b) (ap u.is_utf_word (renames.keeps w.name h.0)) (words_stay ws h.1)

  segments_stay : (ss : Segments) → SegmentsOf new (renamed_segments r ss) → flat_map (u.segment_faults new) (segment_list (renamed_segments r ss)) ≡ flat_map (u.segment_faults old) (segment_list ss)
  segments_stay no_segments h = refl
  segments_stay (segment p e ws ss) h = joined (ap (λ b. cond b (plain p table.utf_segment ∷ []) []) (words_stay ws h.1)) (segments_stay ss h.2)
  segments_stay (sized p e n ws ss) h = joined (ap (λ b. cond b (plain p table.utf_segment ∷ []) []) (words_stay ws h.2)) (segments_stay ss h.3)

  segments_of_stay : (e : Tree) → TreeOf new (renamed_tree r e) → flat_map (u.segment_faults new) (segments_of (renamed_tree r e)) ≡ flat_map (u.segment_faults old) (segments_of e)
  segments_of_stay (tree p (binary ss)) h = segments_stay ss h
  segments_of_stay (tree p _) h = refl

  plain_size_stays : (e : Tree) → u.is_plain_size (renamed_tree r e) ≡ u.is_plain_size e
  plain_size_stays (tree p (int i)) = refl
  plain_size_stays (tree p (var n)) = refl
  plain_size_stays (tree p _) = refl

  named_faults_stay : (p : Place) (e : Tree) → u.named_faults p (fun_name (renamed_tree r e)) ≡ u.named_faults p (fun_name e)
  named_faults_stay q (tree p (fun_local n a)) = refl
  named_faults_stay q (tree p _) = refl

  pub node_faults_stay : (s : SeenTree) → TreeOf new (renamed_tree r s.tree) → u.node_faults new (renamed_seen r s) ≡ u.node_faults old s
  node_faults_stay s h =
      joined floats (joined maps (joined (segments_of_stay s.tree h) (joined sizes arguments_are)))
    where
      floats : u.float_faults new (renamed_tree r s.tree) ≡ u.float_faults old s.tree
      floats = rw (operator_stays r s.tree, call_stays u.float_functions s.tree h, place_stays r s.tree) refl

      maps : u.map_faults new (renamed_tree r s.tree) ≡ u.map_faults old s.tree
      maps = rw (call_stays u.map_functions s.tree h, place_stays r s.tree) refl

      sizes : u.size_faults s.role (renamed_tree r s.tree) ≡ u.size_faults s.role s.tree
      sizes = rw (plain_size_stays s.tree, place_stays r s.tree) refl

      arguments_are : u.argument_faults (renamed_tree r s.tree) ≡ u.argument_faults s.tree
      arguments_are = rw (place_stays r s.tree, arguments_stay r s.tree, named_faults_stay (place_of s.tree) s.tree, fun_heads_stay r s.tree) refl

  nodes_faults_stay : (ss : List SeenTree) → EachOf new (map (renamed_seen r) ss) → flat_map (u.node_faults new) (map (renamed_seen r) ss) ≡ flat_map (u.node_faults old) ss
  nodes_faults_stay [] h = refl
  nodes_faults_stay (s ∷ ss) h = joined (node_faults_stay s h.0) (nodes_faults_stay ss h.1)

  -- ---- forms

  each_of : (f : FormTree) → FormOf new (renamed_form r f) → EachOf new (map (renamed_seen r) (form_nodes f))
  each_of f h = subst (EachOf new) (form_nodes_stay r f) (form_nodes_of new (renamed_form r f) h)

  is_atom_stays : (word : List ℕ) (o : Option Name) → NameOf o → u.is_atom_of new word (option_map r o) ≡ u.is_atom_of old word o
  is_atom_stays word (Some n) h = text_stays word n h
  is_atom_stays word None h = refl

  mentioned : (word : List ℕ) (ss : List SeenTree) → EachOf new (map (renamed_seen r) ss) → mentions new word (map (renamed_seen r) ss) ≡ mentions old word ss
  mentioned word [] h = refl
  mentioned word (s ∷ ss) h =
      ap₂ (λ a b. a || b) (ap (u.is_atom_of new word) (atom_stays r s.tree) ∙ is_atom_stays word (atom_of s.tree) (atom_named s.tree h.0)) (mentioned word ss h.1)

  mentions_stay : (word : List ℕ) (f : FormTree) → FormOf new (renamed_form r f) → mentions new word (form_nodes (renamed_form r f)) ≡ mentions old word (form_nodes f)
  mentions_stay word f h = ap (mentions new word) (form_nodes_stay r f) ∙ mentioned word (form_nodes f) (each_of f h)

  references_stay : (fs : List FunctionRef) → flat_map u.reference_faults (map (renamed_reference r) fs) ≡ flat_map u.reference_faults fs
  references_stay [] = refl
  references_stay (f ∷ fs) = joined refl (references_stay fs)

  own_faults_stay : (p : Place) (f : FormTree) → FormOf new (renamed_form r f) → u.own_faults new p (renamed_form r f) ≡ u.own_faults old p f
  own_faults_stay p (module_name n) h = refl
  own_faults_stay p (export fs) h = references_stay fs
  own_faults_stay p (import m fs) h = references_stay fs
  own_faults_stay p (record_of d) h = refl
  own_faults_stay p (attribute n e) h =
      ap₂ (λ t b. where_ (bytes_eq t (codes "on_load") || (bytes_eq t (codes "compile") && b)) (plain p table.not_in_profile)) (renames.keeps n h.0) (mentions_stay (codes "parse_transform") (attribute n e) h)
  own_faults_stay p dropped h = refl
  own_faults_stay p export_all h = refl
  own_faults_stay p (function f) h = ap (flat_map u.head_faults) (heads_stay r f.clauses)

  pub tree_faults_stay : (p : Place) (f : FormTree) → FormOf new (renamed_form r f) → tree_faults new p (renamed_form r f) ≡ tree_faults old p f
  tree_faults_stay p f h =
      joined (own_faults_stay p f h) (ap (flat_map (u.node_faults new)) (form_nodes_stay r f) ∙ nodes_faults_stay (form_nodes f) (each_of f h))

  compile_stays : (f : FormTree) → FormOf new (renamed_form r f) → is_compile new (renamed_form r f) ≡ is_compile old f
  compile_stays (module_name n) h = refl
  compile_stays (export fs) h = refl
  compile_stays (import m fs) h = refl
  compile_stays (record_of d) h = refl
  compile_stays (attribute n e) h = text_stays (codes "compile") n h.0
  compile_stays dropped h = refl
  compile_stays export_all h = refl
  compile_stays (function f) h = refl

  kept_as : (a b : Bool) (f : FormTree) → cond a (cond b export_all dropped) (renamed_form r f) ≡ renamed_form r (cond a (cond b export_all dropped) f)
  kept_as true true f = refl
  kept_as true false f = refl
  kept_as false b f = refl

  pub kept_stays : (f : FormTree) → FormOf new (renamed_form r f) → kept new (renamed_form r f) ≡ renamed_form r (kept old f)
  kept_stays f h =
      ap₂ (λ a b. cond a (cond b export_all dropped) (renamed_form r f)) (compile_stays f h) (mentions_stay (codes "export_all") f h)
      ∙ kept_as (is_compile old f) (mentions old (codes "export_all") (form_nodes f)) f
