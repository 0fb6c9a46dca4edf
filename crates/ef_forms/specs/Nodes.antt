-- The nodes of a tree, each before its parts, with what it is there for and how deep it lies.
use Rattle.std.specs.Prelude.{ℕ, ◌+◌, ◌-◌, ◌^◌, min, List, [], ◌∷◌, ◌++◌, Option, Some, None}
use Rattle.std.specs.List.{flat_map}
use Rattle.ef_forms.specs.declared.role.Role.{Role}
use Rattle.ef_forms.specs.declared.role.Role.TheVariants.{Body, Pattern, Guard, Target, Filter}
use Rattle.ef_forms.specs.Roles.{inside, of_size, of_target}
use Rattle.ef_forms.specs.Tree.{Tree, Shape, Trees, Guards, Clauses, MaybeClauses, MaybeTrees, Catches, Segments, Fields, Steps, Qualifiers, FieldTree, RecordTree, FunctionTree, FormTree}
use Rattle.ef_forms.specs.Tree.{tree, int, character, string, atom, var, any, list, list_to, tuple, binary, unary, operation, and_also, or_else, matching, catching, call, remote, record_new, record_update, record_field, record_index, block, if_of, case_of, receive_of, receive_after, try_of, maybe, list_comp, bin_comp, fun_local, fun_remote, fun_of, named_fun}
use Rattle.ef_forms.specs.Tree.{end, more, no_guard, or_guard, no_clauses, clause, left_out, these, absent, present, no_catches, catches, no_segments, segment, sized, no_fields, field, no_steps, step, step_to, no_qualifiers, list_from, bits_from, filter}
use Rattle.ef_forms.specs.Tree.{module_name, export, import, record_of, attribute, dropped, export_all, function}

pub record SeenTree : Type 0 where
  pub role : Role
  -- how deep it lies, from 1
  pub level : ℕ
  pub tree : Tree

abbrev pub seen : Role → ℕ → Tree → SeenTree
seen r l e = record { role = r; level = l; tree = e }

-- one deeper, as far as a u32 counts
abbrev pub next : ℕ → ℕ
next l = min (l + 1) (2 ^ 32 - 1)

-- the level behind qualifiers, each of which is one
abbrev pub behind : ℕ → Qualifiers → ℕ
behind l no_qualifiers = l
behind l (list_from p e b qs) = behind (next l) qs
behind l (bits_from p e b qs) = behind (next l) qs
behind l (filter e qs) = behind (next l) qs

abbrev mutual
  pub nodes : Role → ℕ → Tree → List SeenTree
  nodes r l (tree p e) = seen r l (tree p e) ∷ parts (inside r) (next l) e

  -- what lies below a node: the role of what has none of its own, and the level
  pub parts : Role → ℕ → Shape → List SeenTree
  parts r l (int n) = []
  parts r l (character c) = []
  parts r l (string cs) = []
  parts r l (atom n) = []
  parts r l (var n) = []
  parts r l any = []
  parts r l (list es) = all_nodes r l es
  parts r l (list_to es e) = all_nodes r l es ++ nodes r l e
  parts r l (tuple es) = all_nodes r l es
  parts r l (binary ss) = segment_nodes r l ss
  parts r l (unary o e) = nodes r l e
  parts r l (operation o a b) = nodes r l a ++ nodes r l b
  parts r l (and_also a b) = nodes r l a ++ nodes r l b
  parts r l (or_else a b) = nodes r l a ++ nodes r l b
  parts r l (matching p e) = nodes Pattern l p ++ nodes r l e
  parts r l (catching e) = nodes r l e
  parts r l (call f es) = nodes (of_target r f) l f ++ all_nodes r l es
  parts r l (remote m f es) = nodes (of_target r m) l m ++ (nodes (of_target r f) l f ++ all_nodes r l es)
  parts r l (record_new n fs) = field_nodes r l fs
  parts r l (record_update e n fs) = nodes r l e ++ field_nodes r l fs
  parts r l (record_field e n f) = nodes r l e
  parts r l (record_index n f) = []
  parts r l (block es) = all_nodes Body l es
  parts r l (if_of cs) = clause_nodes l cs
  parts r l (case_of e cs) = nodes r l e ++ clause_nodes l cs
  parts r l (receive_of cs) = clause_nodes l cs
  parts r l (receive_after cs e es) = clause_nodes l cs ++ (nodes r l e ++ all_nodes Body l es)
  parts r l (try_of es of ks after) = all_nodes Body l es ++ (maybe_clause_nodes l of ++ (catch_nodes l ks ++ maybe_body_nodes l after))
  parts r l (maybe ss others) = step_nodes l ss ++ maybe_clause_nodes l others
  parts r l (list_comp e qs) = qualifier_nodes l qs ++ nodes Body (behind l qs) e
  parts r l (bin_comp e qs) = qualifier_nodes l qs ++ nodes Body (behind l qs) e
  parts r l (fun_local n a) = []
  parts r l (fun_remote m f a) = nodes Target l m ++ (nodes Target l f ++ nodes Target l a)
  parts r l (fun_of cs) = clause_nodes l cs
  parts r l (named_fun n cs) = clause_nodes l cs

  pub all_nodes : Role → ℕ → Trees → List SeenTree
  all_nodes r l end = []
  all_nodes r l (more e es) = nodes r l e ++ all_nodes r l es

  pub guard_nodes : ℕ → Guards → List SeenTree
  guard_nodes l no_guard = []
  guard_nodes l (or_guard es gs) = all_nodes Guard l es ++ guard_nodes l gs

  pub clause_nodes : ℕ → Clauses → List SeenTree
  clause_nodes l no_clauses = []
  clause_nodes l (clause p ps g body cs) = all_nodes Pattern l ps ++ (guard_nodes l g ++ (all_nodes Body l body ++ clause_nodes l cs))

  pub maybe_clause_nodes : ℕ → MaybeClauses → List SeenTree
  maybe_clause_nodes l left_out = []
  maybe_clause_nodes l (these cs) = clause_nodes l cs

  pub maybe_body_nodes : ℕ → MaybeTrees → List SeenTree
  maybe_body_nodes l absent = []
  maybe_body_nodes l (present es) = all_nodes Body l es

  pub catch_nodes : ℕ → Catches → List SeenTree
  catch_nodes l no_catches = []
  catch_nodes l (catches p c e t g body ks) = nodes Pattern l e ++ (guard_nodes l g ++ (all_nodes Body l body ++ catch_nodes l ks))

  pub segment_nodes : Role → ℕ → Segments → List SeenTree
  segment_nodes r l no_segments = []
  segment_nodes r l (segment p e ws ss) = nodes r l e ++ segment_nodes r l ss
  segment_nodes r l (sized p e n ws ss) = nodes r l e ++ (nodes (of_size r) l n ++ segment_nodes r l ss)

  pub field_nodes : Role → ℕ → Fields → List SeenTree
  field_nodes r l no_fields = []
  field_nodes r l (field p n e fs) = nodes r l e ++ field_nodes r l fs

  -- what follows a step that matches lies one deeper
  pub step_nodes : ℕ → Steps → List SeenTree
  step_nodes l no_steps = []
  step_nodes l (step e ss) = nodes Body l e ++ step_nodes l ss
  step_nodes l (step_to p e ss) = nodes Pattern l p ++ (nodes Body l e ++ step_nodes (next l) ss)

  -- what follows a qualifier lies one deeper
  pub qualifier_nodes : ℕ → Qualifiers → List SeenTree
  qualifier_nodes l no_qualifiers = []
  qualifier_nodes l (list_from p e b qs) = nodes Pattern l p ++ (nodes Body l e ++ qualifier_nodes (next l) qs)
  qualifier_nodes l (bits_from p e b qs) = nodes Pattern l p ++ (nodes Body l e ++ qualifier_nodes (next l) qs)
  qualifier_nodes l (filter e qs) = nodes Filter l e ++ qualifier_nodes (next l) qs

abbrev pub function_nodes : FunctionTree → List SeenTree
function_nodes f = clause_nodes 1 f.clauses

abbrev pub default_nodes : Option Tree → List SeenTree
default_nodes None = []
default_nodes (Some e) = nodes Body 1 e

-- the values that the fields of a record take where none is given
abbrev pub record_nodes : RecordTree → List SeenTree
record_nodes r = flat_map (λ (f : FieldTree). default_nodes f.default) r.fields

abbrev pub form_nodes : FormTree → List SeenTree
form_nodes (function f) = function_nodes f
form_nodes (attribute n e) = nodes Body 1 e
form_nodes (record_of r) = record_nodes r
form_nodes (module_name n) = []
form_nodes (export fs) = []
form_nodes (import m fs) = []
form_nodes dropped = []
form_nodes export_all = []
