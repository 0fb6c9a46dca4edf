-- What the tree of a form may not have: floats, maps, segments and sizes outside the profile, and too many arguments. A rule
-- is a function of a node.
use Rattle.std.specs.Prelude.{ℕ, nat_eq, nat_lt, bytes_eq, codes, Bool, true, false, ◌&&◌, ◌||◌, List, [], ◌∷◌, ◌++◌, Option, Some, None, cond}
use Rattle.std.specs.List.{flat_map, list_any}
use Rattle.ef_base.specs.declared.fault.Fault.{Fault}
use Rattle.ef_base.specs.declared.fault.Place.{Place}
use Rattle.ef_base.specs.declared.name.Name.{Name}
use Rattle.ef_base.specs.FaultTable as table
use Rattle.ef_base.specs.NamedFaults.{plain}
use Rattle.ef_base.specs.Texts.{Texts, text}
use Rattle.ef_forms.specs.declared.expr.BinaryOp.{BinaryOp}
use Rattle.ef_forms.specs.declared.expr.BinaryOp.TheVariants as op
use Rattle.ef_forms.specs.declared.expr.TypeWord.{TypeWord}
use Rattle.ef_forms.specs.declared.form.FunctionRef.{FunctionRef}
use Rattle.ef_forms.specs.declared.role.Role.{Role}
use Rattle.ef_forms.specs.declared.role.Role.TheVariants as role
use Rattle.ef_forms.specs.declared.tables.FunctionName.{FunctionName}
use Rattle.ef_forms.specs.declared.view.Called.{Called}
use Rattle.ef_forms.specs.Nodes.{SeenTree, form_nodes}
use Rattle.ef_forms.specs.Tree.{Tree, FormTree, tree, var, int, export, import, attribute, function}
use Rattle.ef_forms.specs.Views.{SegmentTree, HeadTree, place_of, atom_of, call_by_name, arguments, fun_name, operator, segments_of, heads, fun_heads}
use Rattle.ef_profile.specs.Adds.{where_}

-- the most parameters or arguments, and the greatest arity of a function that is mentioned
abbrev pub most_arguments : ℕ
most_arguments = 255

abbrev pub is_text : Texts → List ℕ → Name → Bool
is_text all word n = bytes_eq (text all n) word

-- ---- operators and functions of floats and maps, by their names, also with the module `erlang`

abbrev pub is_division : Option BinaryOp → Bool
is_division (Some op.Slash) = true
is_division _ = false

abbrev pub is_at_home : Texts → Option Name → Bool
is_at_home all None = true
is_at_home all (Some home) = is_text all (codes "erlang") home

abbrev pub FunctionText : Type 0
FunctionText = List ℕ × ℕ

abbrev pub float_functions : List FunctionText
float_functions = (codes "float", 1) ∷ (codes "round", 1) ∷ (codes "trunc", 1) ∷ (codes "ceil", 1) ∷ (codes "floor", 1) ∷ []

abbrev pub map_functions : List FunctionText
map_functions = (codes "map_size", 1) ∷ (codes "map_get", 2) ∷ (codes "is_map_key", 2) ∷ []

abbrev pub is_function_of : List FunctionText → List ℕ → ℕ → Bool
is_function_of fs name arity = list_any (λ (f : FunctionText). bytes_eq name f.0 && nat_eq arity f.1) fs

abbrev pub is_call_of : List FunctionText → Texts → Option Called → Bool
is_call_of fs all (Some c) = is_at_home all c.home && is_function_of fs (text all c.name) c.arity
is_call_of fs all None = false

abbrev pub float_faults : Texts → Tree → List Fault
float_faults all e = where_ (is_division (operator e) || is_call_of float_functions all (call_by_name e)) (plain (place_of e) table.float_operation)

abbrev pub map_faults : Texts → Tree → List Fault
map_faults all e = where_ (is_call_of map_functions all (call_by_name e)) (plain (place_of e) table.map_function)

-- ---- segments

abbrev pub utf_words : List (List ℕ)
utf_words = codes "utf8" ∷ codes "utf16" ∷ codes "utf32" ∷ []

abbrev pub is_utf_word : List ℕ → Bool
is_utf_word w = list_any (bytes_eq w) utf_words

abbrev pub is_utf : Texts → TypeWord → Bool
is_utf all w = is_utf_word (text all w.name)

abbrev pub segment_faults : Texts → SegmentTree → List Fault
segment_faults all s = where_ (list_any (is_utf all) s.types) (plain s.place table.utf_segment)

-- the size of a segment of a pattern is an integer or a variable
abbrev pub is_plain_size : Tree → Bool
is_plain_size (tree p (int i)) = true
is_plain_size (tree p (var n)) = true
is_plain_size (tree p _) = false

abbrev pub is_pattern_size : Role → Bool
is_pattern_size role.PatternSize = true
is_pattern_size _ = false

abbrev pub size_faults : Role → Tree → List Fault
size_faults r e = where_ (is_pattern_size r && cond (is_plain_size e) false true) (plain (place_of e) table.size_expression)

-- ---- numbers of parameters and arguments

abbrev pub too_many : Place → ℕ → List Fault
too_many p n = where_ (nat_lt most_arguments n) (plain p table.too_many_arguments)

abbrev pub head_faults : HeadTree → List Fault
head_faults h = too_many h.place h.parameters

abbrev pub call_faults : Place → Option ℕ → List Fault
call_faults p (Some n) = too_many p n
call_faults p None = []

abbrev pub named_faults : Place → Option FunctionName → List Fault
named_faults p (Some f) = too_many p f.arity
named_faults p None = []

abbrev pub argument_faults : Tree → List Fault
argument_faults e = call_faults (place_of e) (arguments e) ++ (named_faults (place_of e) (fun_name e) ++ flat_map head_faults (fun_heads e))

-- ---- the rules of a node, and of what else a form has

abbrev pub node_faults : Texts → SeenTree → List Fault
node_faults all s =
    float_faults all s.tree ++ (map_faults all s.tree ++ (flat_map (segment_faults all) (segments_of s.tree) ++ (size_faults s.role s.tree ++ argument_faults s.tree)))

abbrev pub reference_faults : FunctionRef → List Fault
reference_faults r = too_many r.place r.arity

-- an atom of this text stands in a constant
abbrev pub is_atom_of : Texts → List ℕ → Option Name → Bool
is_atom_of all word (Some n) = is_text all word n
is_atom_of all word None = false

abbrev pub mentions : Texts → List ℕ → List SeenTree → Bool
mentions all word ss = list_any (λ (s : SeenTree). is_atom_of all word (atom_of s.tree)) ss

-- `-on_load`, and `parse_transform` in `-compile`
abbrev pub attribute_faults : Texts → Place → Name → List SeenTree → List Fault
attribute_faults all p n ss = where_ (is_text all (codes "on_load") n || (is_text all (codes "compile") n && mentions all (codes "parse_transform") ss)) (plain p table.not_in_profile)

abbrev pub own_faults : Texts → Place → FormTree → List Fault
own_faults all p (export rs) = flat_map reference_faults rs
own_faults all p (import m rs) = flat_map reference_faults rs
own_faults all p (attribute n e) = attribute_faults all p n (form_nodes (attribute n e))
own_faults all p (function f) = flat_map head_faults (heads f.clauses)
own_faults all p _ = []

-- the faults of a form that is spelled, which stands at this place
abbrev pub tree_faults : Texts → Place → FormTree → List Fault
tree_faults all p f = own_faults all p f ++ flat_map (node_faults all) (form_nodes f)
