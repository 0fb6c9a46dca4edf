-- A later table of names gives the same kinds, faults and forms.
use Rattle.std.proofs.Common.{◌≡◌, ℕ, List, [], ◌∷◌, ◌++◌, refl, sym, ap, ◌∙◌, Bool, true, false, Option, Some, None, cond, option_map, option_and_then, bytes_eq, codes, get_or}
use Rattle.std.specs.Prelude.{◌||◌, ◌&&◌}
use Rattle.std.specs.List.{flat_map, list_any}
use Rattle.std.proofs.lemmas.List.{get_or_append_left}
use Rattle.ef_base.specs.declared.fault.Place.{Place}
use Rattle.ef_base.specs.declared.name.Name.{Name}
use Rattle.ef_base.specs.FaultTable as table
use Rattle.ef_base.specs.NamedFaults.{naming, plain}
use Rattle.ef_base.specs.Texts.{Texts, Extends, HasName, text}
use Rattle.ef_token.specs.declared.token.Token.{Token}
use Rattle.ef_token.specs.declared.token.TokenKind.{TokenKind}
use Rattle.ef_token.specs.declared.token.TokenKind.TheVariants as kind
use Rattle.ef_token.specs.TokenForm.{KindOf, TokensOf}
use Rattle.ef_forms.specs.declared.expr.TypeWord.{TypeWord}
use Rattle.ef_forms.specs.declared.view.Called.{Called}
use Rattle.ef_forms.specs.Nodes.{SeenTree, form_nodes}
use Rattle.ef_forms.specs.OfTable.{TreeOf, SegmentsOf, WordsOf, FormOf}
use Rattle.ef_forms.specs.Tree.{Tree, Segments, FormTree, count}
use Rattle.ef_forms.specs.Tree.{tree, int, character, string, atom, var, any, list, list_to, tuple, binary, unary, operation, and_also, or_else, matching, catching, call, remote, record_new, record_update, record_field, record_index, block, if_of, case_of, receive_of, receive_after, try_of, maybe, list_comp, bin_comp, fun_local, fun_remote, fun_of, named_fun, no_segments, segment, sized, module_name, export, import, record_of, attribute, dropped, export_all, function}
use Rattle.ef_forms.specs.Views.{SegmentTree, atom_of, operator, place_of, call_by_name, segments_of, segment_list}
use Rattle.ef_parse.specs.declared.spelled.FormKind.TheVariants as is
use Rattle.ef_parse.specs.Spelled.{start_of}
use Rattle.ef_profile.specs.Adds.{where_}
use Rattle.ef_module.specs.Forms.{is_compile, kept}
use Rattle.ef_profile.specs.Kinds.{is_minus, atom_in, is_attribute, attribute_name, named_kind, kind_of, malformed, named_fault, not_spelled, word_kind}
use Rattle.ef_module.specs.Refused.{kind_faults, token_faults}
use Rattle.ef_profile.specs.Unbuilt as u
use Rattle.ef_profile.specs.Unbuilt.{FunctionText, mentions, tree_faults}
use Rattle.ef_module.proofs.NodesOf.{EachOf, form_nodes_of}

module _ (now all : Texts) (later : Extends now all) where
  text_same : (n : Name) → HasName now n → text all n ≡ text now n
  text_same n has = sym (ap (λ t. get_or t n.index []) later.is) ∙ get_or_append_left now later.more [] n.index has

  -- the name, where there is one, is one of the table
  abbrev NameOf : Option Name → Type 0
  NameOf (Some n) = HasName now n
  NameOf None = Unit {0}

  -- ---- tokens

  atom_named : (k : TokenKind) → KindOf now k → NameOf (atom_in k)
  atom_named (kind.Atom n) h = h
  atom_named (kind.Var n) h = tt
  atom_named (kind.Int i) h = tt
  atom_named (kind.Char c) h = tt
  atom_named (kind.Str cs) h = tt
  atom_named (kind.Word w) h = tt
  atom_named (kind.Sym s) h = tt
  atom_named kind.Dot h = tt

  chosen : (b : Bool) (o : Option Name) → NameOf o → NameOf (cond b o None)
  chosen true o h = h
  chosen false o h = tt

  attribute_named : (ts : List Token) → TokensOf now ts → NameOf (attribute_name ts)
  attribute_named [] h = tt
  attribute_named (t ∷ []) h = tt
  attribute_named (t ∷ v ∷ ts) h = chosen (is_minus t.kind) (atom_in v.kind) (atom_named v.kind h.1.0)

  kind_named : (o : Option Name) → NameOf o → named_kind all o ≡ named_kind now o
  kind_named (Some n) h = ap word_kind (text_same n h)
  kind_named None h = refl

  pub same_kind : (ts : List Token) → TokensOf now ts → kind_of all ts ≡ kind_of now ts
  same_kind ts h = ap (λ k. cond (is_attribute ts) k is.Function) (kind_named (attribute_name ts) (attribute_named ts h))

  pub same_token_faults : (ts : List Token) → TokensOf now ts → token_faults all ts ≡ token_faults now ts
  same_token_faults ts h = ap (λ k. kind_faults k ts) (same_kind ts h)

  fault_named : (ts : List Token) (o : Option Name) → TokensOf now ts → NameOf o → named_fault all ts o ≡ named_fault now ts o
  fault_named ts (Some n) h has = ap (λ k. naming (start_of ts) (malformed k) (text all n)) (same_kind ts h) ∙ ap (naming (start_of ts) (malformed (kind_of now ts))) (text_same n has)
  fault_named ts None h has = refl

  pub same_not_spelled : (ts : List Token) → TokensOf now ts → not_spelled all ts ≡ not_spelled now ts
  same_not_spelled ts h = fault_named ts (attribute_name ts) h (attribute_named ts h)

  -- ---- what rules see of a node

  abbrev CalledOf : Option Called → Type 0
  CalledOf (Some c) = NameOf c.home × HasName now c.name
  CalledOf None = Unit {0}

  abbrev SegmentWords : List SegmentTree → Type 0
  SegmentWords [] = Unit {0}
  SegmentWords (s ∷ ss) = WordsOf now s.types × SegmentWords ss

  local_call : (k : ℕ) (o : Option Name) → NameOf o → CalledOf (option_map (λ n. record { home = None; name = n; arity = k }) o)
  local_call k (Some n) h = (tt, h)
  local_call k None h = tt

  remote_call : (k : ℕ) (m o : Option Name) → NameOf m → NameOf o → CalledOf (option_and_then (λ h. option_map (λ n. record { home = Some h; name = n; arity = k }) o) m)
  remote_call k (Some m) (Some n) at h = (at, h)
  remote_call k (Some m) None at h = tt
  remote_call k None o at h = tt

  words_of : (ss : Segments) → SegmentsOf now ss → SegmentWords (segment_list ss)
  words_of no_segments h = tt
  words_of (segment p e ws ss) h = (h.1, words_of ss h.2)
  words_of (sized p e n ws ss) h = (h.2, words_of ss h.3)

  record NodeOf (e : Tree) : Type 0 where
    of_atom : NameOf (atom_of e)
    of_call : CalledOf (call_by_name e)
    of_words : SegmentWords (segments_of e)

  node_of : (e : Tree) → TreeOf now e → NodeOf e
  node_of (tree p (int i)) h = record { of_atom = tt; of_call = tt; of_words = tt }
  node_of (tree p (character i)) h = record { of_atom = tt; of_call = tt; of_words = tt }
  node_of (tree p (string i)) h = record { of_atom = tt; of_call = tt; of_words = tt }
  node_of (tree p (atom n)) h = record { of_atom = h; of_call = tt; of_words = tt }
  node_of (tree p (var n)) h = record { of_atom = tt; of_call = tt; of_words = tt }
  node_of (tree p any) h = record { of_atom = tt; of_call = tt; of_words = tt }
  node_of (tree p (list es)) h = record { of_atom = tt; of_call = tt; of_words = tt }
  node_of (tree p (list_to es e)) h = record { of_atom = tt; of_call = tt; of_words = tt }
  node_of (tree p (tuple es)) h = record { of_atom = tt; of_call = tt; of_words = tt }
  node_of (tree p (binary ss)) h = record { of_atom = tt; of_call = tt; of_words = words_of ss h }
  node_of (tree p (unary o e)) h = record { of_atom = tt; of_call = tt; of_words = tt }
  node_of (tree p (operation o a b)) h = record { of_atom = tt; of_call = tt; of_words = tt }
  node_of (tree p (and_also a b)) h = record { of_atom = tt; of_call = tt; of_words = tt }
  node_of (tree p (or_else a b)) h = record { of_atom = tt; of_call = tt; of_words = tt }
  node_of (tree p (matching q e)) h = record { of_atom = tt; of_call = tt; of_words = tt }
  node_of (tree p (catching e)) h = record { of_atom = tt; of_call = tt; of_words = tt }
  node_of (tree p (call f es)) h = record { of_atom = tt; of_call = local_call (count es) (atom_of f) (node_of f h.0).of_atom; of_words = tt }
  node_of (tree p (remote m f es)) h = record { of_atom = tt; of_call = remote_call (count es) (atom_of m) (atom_of f) (node_of m h.0).of_atom (node_of f h.1).of_atom; of_words = tt }
  node_of (tree p (record_new n fs)) h = record { of_atom = tt; of_call = tt; of_words = tt }
  node_of (tree p (record_update e n fs)) h = record { of_atom = tt; of_call = tt; of_words = tt }
  node_of (tree p (record_field e n f)) h = record { of_atom = tt; of_call = tt; of_words = tt }
  node_of (tree p (record_index n f)) h = record { of_atom = tt; of_call = tt; of_words = tt }
  node_of (tree p (block es)) h = record { of_atom = tt; of_call = tt; of_words = tt }
  node_of (tree p (if_of cs)) h = record { of_atom = tt; of_call = tt; of_words = tt }
  node_of (tree p (case_of e cs)) h = record { of_atom = tt; of_call = tt; of_words = tt }
  node_of (tree p (receive_of cs)) h = record { of_atom = tt; of_call = tt; of_words = tt }
  node_of (tree p (receive_after cs e es)) h = record { of_atom = tt; of_call = tt; of_words = tt }
  node_of (tree p (try_of es cs ks after)) h = record { of_atom = tt; of_call = tt; of_words = tt }
  node_of (tree p (maybe ss cs)) h = record { of_atom = tt; of_call = tt; of_words = tt }
  node_of (tree p (list_comp e qs)) h = record { of_atom = tt; of_call = tt; of_words = tt }
  node_of (tree p (bin_comp e qs)) h = record { of_atom = tt; of_call = tt; of_words = tt }
  node_of (tree p (fun_local n a)) h = record { of_atom = tt; of_call = tt; of_words = tt }
  node_of (tree p (fun_remote m f a)) h = record { of_atom = tt; of_call = tt; of_words = tt }
  node_of (tree p (fun_of cs)) h = record { of_atom = tt; of_call = tt; of_words = tt }
  node_of (tree p (named_fun n cs)) h = record { of_atom = tt; of_call = tt; of_words = tt }

  -- ---- the rules

  home_same : (o : Option Name) → NameOf o → u.is_at_home all o ≡ u.is_at_home now o
  home_same (Some n) h = ap (λ t. bytes_eq t (codes "erlang")) (text_same n h)
  home_same None h = refl

  called_same : (fs : List FunctionText) (o : Option Called) → CalledOf o → u.is_call_of fs all o ≡ u.is_call_of fs now o
  called_same fs (Some c) h = ap (λ b. b && u.is_function_of fs (text all c.name) c.arity) (home_same c.home h.0) ∙ ap (λ t. u.is_at_home now c.home && u.is_function_of fs t c.arity) (text_same c.name h.1)
  called_same fs None h = refl

  utf_same : (ws : List TypeWord) → WordsOf now ws → list_any (u.is_utf all) ws ≡ list_any (u.is_utf now) ws
  utf_same [] h = refl
  utf_same (w ∷ ws) h = ap (λ t. u.is_utf_word t || list_any (u.is_utf all) ws) (text_same w.name h.0) ∙ ap (λ b. u.is_utf now w || b) (utf_same ws h.1)

  segments_same : (ss : List SegmentTree) → SegmentWords ss → flat_map (u.segment_faults all) ss ≡ flat_map (u.segment_faults now) ss
  segments_same [] h = refl
  segments_same (s ∷ ss) h =
      ap (λ b. where_ b (plain s.place table.utf_segment) ++ flat_map (u.segment_faults all) ss) (utf_same s.types h.0) ∙ ap (λ l. u.segment_faults now s ++ l) (segments_same ss h.1)

  node_same : (s : SeenTree) → TreeOf now s.tree → u.node_faults all s ≡ u.node_faults now s
  node_same s h =
      let of = node_of s.tree h in
      let rest = u.size_faults s.role s.tree ++ u.argument_faults s.tree in
      ap (λ b. where_ (u.is_division (operator s.tree) || b) (plain (place_of s.tree) table.float_operation) ++ (u.map_faults all s.tree ++ (flat_map (u.segment_faults all) (segments_of s.tree) ++ rest))) (called_same u.float_functions (call_by_name s.tree) of.of_call)
      ∙ ap (λ b. u.float_faults now s.tree ++ (where_ b (plain (place_of s.tree) table.map_function) ++ (flat_map (u.segment_faults all) (segments_of s.tree) ++ rest))) (called_same u.map_functions (call_by_name s.tree) of.of_call)
      ∙ ap (λ l. u.float_faults now s.tree ++ (u.map_faults now s.tree ++ (l ++ rest))) (segments_same (segments_of s.tree) of.of_words)

  nodes_same : (ss : List SeenTree) → EachOf now ss → flat_map (u.node_faults all) ss ≡ flat_map (u.node_faults now) ss
  nodes_same [] h = refl
  nodes_same (s ∷ ss) h = ap (λ l. l ++ flat_map (u.node_faults all) ss) (node_same s h.0) ∙ ap (λ l. u.node_faults now s ++ l) (nodes_same ss h.1)

  atom_same : (word : List ℕ) (o : Option Name) → NameOf o → u.is_atom_of all word o ≡ u.is_atom_of now word o
  atom_same word (Some n) h = ap (λ t. bytes_eq t word) (text_same n h)
  atom_same word None h = refl

  mentions_same : (word : List ℕ) (ss : List SeenTree) → EachOf now ss → mentions all word ss ≡ mentions now word ss
  mentions_same word [] h = refl
  mentions_same word (s ∷ ss) h =
      ap (λ b. b || mentions all word ss) (atom_same word (atom_of s.tree) (node_of s.tree h.0).of_atom) ∙ ap (λ b. u.is_atom_of now word (atom_of s.tree) || b) (mentions_same word ss h.1)

  own_same : (p : Place) (f : FormTree) → FormOf now f → u.own_faults all p f ≡ u.own_faults now p f
  own_same p (module_name n) h = refl
  own_same p (export rs) h = refl
  own_same p (import m rs) h = refl
  own_same p (record_of r) h = refl
  own_same p (attribute n e) h =
      let ss = form_nodes (attribute n e) in
      ap (λ t. where_ (bytes_eq t (codes "on_load") || (bytes_eq t (codes "compile") && mentions all (codes "parse_transform") ss)) (plain p table.not_in_profile)) (text_same n h.0)
      ∙ ap (λ b. where_ (u.is_text now (codes "on_load") n || (u.is_text now (codes "compile") n && b)) (plain p table.not_in_profile)) (mentions_same (codes "parse_transform") ss (form_nodes_of now (attribute n e) h))
  own_same p dropped h = refl
  own_same p export_all h = refl
  own_same p (function f) h = refl

  pub same_tree_faults : (p : Place) (f : FormTree) → FormOf now f → tree_faults all p f ≡ tree_faults now p f
  same_tree_faults p f h = ap (λ l. l ++ flat_map (u.node_faults all) (form_nodes f)) (own_same p f h) ∙ ap (λ l. u.own_faults now p f ++ l) (nodes_same (form_nodes f) (form_nodes_of now f h))

  compile_same : (f : FormTree) → FormOf now f → is_compile all f ≡ is_compile now f
  compile_same (module_name n) h = refl
  compile_same (export rs) h = refl
  compile_same (import m rs) h = refl
  compile_same (record_of r) h = refl
  compile_same (attribute n e) h = ap (λ t. bytes_eq t (codes "compile")) (text_same n h.0)
  compile_same dropped h = refl
  compile_same export_all h = refl
  compile_same (function f) h = refl

  pub same_kept : (f : FormTree) → FormOf now f → kept all f ≡ kept now f
  same_kept f h =
      ap (λ b. cond b (cond (mentions all (codes "export_all") (form_nodes f)) export_all dropped) f) (compile_same f h)
      ∙ ap (λ b. cond (is_compile now f) (cond b export_all dropped) f) (mentions_same (codes "export_all") (form_nodes f) (form_nodes_of now f h))

-- what is kept of a form has names of the table
kept_one : (all : Texts) (a b : Bool) (f : FormTree) → FormOf all f → FormOf all (cond a (cond b export_all dropped) f)
kept_one all true true f h = tt
kept_one all true false f h = tt
kept_one all false b f h = h

pub kept_of : (all : Texts) (f : FormTree) → FormOf all f → FormOf all (kept all f)
kept_of all f h = kept_one all (is_compile all f) (mentions all (codes "export_all") (form_nodes f)) f h
