-- The nodes of a tree lie as deep as the tree says, and are as many.
use Rattle.std.proofs.Common.{ℕ, ◌≡◌, ◌+◌, ◌-◌, ◌^◌, ◌≤◌, List, [], ◌∷◌, ◌++◌, length, min, max, refl, arith, length-append}
use Rattle.ef_forms.specs.declared.role.Role.{Role}
use Rattle.ef_forms.specs.declared.role.Role.TheVariants.{Body, Pattern, Guard, Target, Filter}
use Rattle.ef_forms.specs.Depth.{depth, shape_depth, all_depth, guards_depth, clauses_depth, maybe_clauses_depth, maybe_body_depth, catches_depth, segments_depth, fields_depth, steps_depth, qualifiers_depth, qualifier_count}
use Rattle.ef_forms.specs.Nodes.{SeenTree, seen, next, behind, nodes, parts, all_nodes, guard_nodes, clause_nodes, maybe_clause_nodes, maybe_body_nodes, catch_nodes, segment_nodes, field_nodes, step_nodes, qualifier_nodes}
use Rattle.ef_forms.specs.Roles.{inside, of_size, of_target}
use Rattle.ef_forms.specs.Tree.{Tree, Shape, Trees, Guards, Clauses, MaybeClauses, MaybeTrees, Catches, Segments, Fields, Steps, Qualifiers}
use Rattle.ef_forms.specs.Tree.{tree, int, character, string, atom, var, any, list, list_to, tuple, binary, unary, operation, and_also, or_else, matching, catching, call, remote, record_new, record_update, record_field, record_index, block, if_of, case_of, receive_of, receive_after, try_of, maybe, list_comp, bin_comp, fun_local, fun_remote, fun_of, named_fun}
use Rattle.ef_forms.specs.Tree.{end, more, no_guard, or_guard, no_clauses, clause, left_out, these, absent, present, no_catches, catches, no_segments, segment, sized, no_fields, field, no_steps, step, step_to, no_qualifiers, list_from, bits_from, filter}
use Rattle.ef_forms.specs.Weight.{weight, shape_weight, all_weight, guards_weight, clauses_weight, maybe_clauses_weight, maybe_body_weight, catches_weight, segments_weight, fields_weight, steps_weight, qualifiers_weight}

-- 0 for none
abbrev pub greatest_level : List SeenTree → ℕ
greatest_level [] = 0
greatest_level (s ∷ ss) = max s.level (greatest_level ss)

pub greatest_append : (a b : List SeenTree) → greatest_level (a ++ b) ≡ max (greatest_level a) (greatest_level b)
greatest_append [] b = omega arith
greatest_append (s ∷ a) b = let rest = greatest_append a b in omega (arith, rest)

-- the nodes of parts that lie at the level l are d deep and weigh w
pub record Measured (l : ℕ) (ns : List SeenTree) (d w : ℕ) : Type 0 where
  pub deep : 1 ≤ l → l ≤ 2 ^ 32 - 1 → max l (greatest_level ns + 1) ≡ min (l + d) (2 ^ 32)
  pub heavy : length ns ≡ w

-- with the node whose parts they are
pub record Below (l : ℕ) (ns : List SeenTree) (d w : ℕ) : Type 0 where
  pub deep : 1 ≤ l → l ≤ 2 ^ 32 - 1 → max l (greatest_level ns + 1) + 1 ≡ min (l + d) (2 ^ 32 + 1)
  pub heavy : length ns + 1 ≡ w

none : {l : ℕ} → Measured l [] 0 0
none = record { deep = λ one top. omega arith; heavy = refl }

leaf : {l : ℕ} → Below l [] 1 1
leaf = record { deep = λ one top. omega arith; heavy = refl }

below : {l d w : ℕ} {ns : List SeenTree} → Measured l ns d w → Below l ns (1 + d) (1 + w)
below p = record {
  deep = λ one top. let h = p.deep one top in omega (arith, h);
  heavy = omega (arith, p.heavy);
}

node : {r : Role} {l d w : ℕ} {e : Tree} {ns : List SeenTree} → Below (next l) ns d w → Measured l (seen r l e ∷ ns) d w
node p = record {
  deep = λ one top. let h = p.deep (omega (arith, one)) (omega arith) in omega (arith, h, one, top);
  heavy = omega (arith, p.heavy);
}

module _ {l d w e v : ℕ} {ns ms : List SeenTree} where
  both : Measured l ns d w → Measured l ms e v → Measured l (ns ++ ms) (max d e) (w + v)
  both p q = record {
    deep = λ one top. let f = p.deep one top in let g = q.deep one top in omega (arith, greatest_append ns ms, f, g);
    heavy = omega (arith, length-append ns ms, p.heavy, q.heavy);
  }

  -- what follows is one deeper
  deeper : Measured l ns d w → l ≤ greatest_level ns → Measured (next l) ms e v → Measured l (ns ++ ms) (max d (1 + e)) (w + v)
  deeper p reached q = record {
    deep = λ one top. let f = p.deep one top in let g = q.deep (omega (arith, one)) (omega arith) in omega (arith, greatest_append ns ms, f, g, reached, one, top);
    heavy = omega (arith, length-append ns ms, p.heavy, q.heavy);
  }

  -- what follows lies k deeper, at the level m
  deeper_by : {m : ℕ} (k : ℕ) → Measured l ns d w → (l ≤ 2 ^ 32 - 1 → m ≡ min (l + k) (2 ^ 32 - 1)) → m ≤ greatest_level ms → Measured m ms e v
      → Measured l (ns ++ ms) (max d (k + e)) (w + v)
  deeper_by k p at reached q = record {
    deep = λ one top. let a = at top in let f = p.deep one top in let g = q.deep (omega (arith, one, a)) (omega (arith, a)) in omega (arith, greatest_append ns ms, f, g, a, reached, one, top);
    heavy = omega (arith, length-append ns ms, p.heavy, q.heavy);
  }

reached : (r : Role) (l : ℕ) (e : Tree) → l ≤ greatest_level (nodes r l e)
reached r l (tree p e) = omega arith

behind_is : (l : ℕ) (qs : Qualifiers) → l ≤ 2 ^ 32 - 1 → behind l qs ≡ min (l + qualifier_count qs) (2 ^ 32 - 1)
behind_is l no_qualifiers top = omega arith
behind_is l (list_from p e strict qs) top = let rest = behind_is (next l) qs (omega arith) in omega (arith, rest)
behind_is l (bits_from p e strict qs) top = let rest = behind_is (next l) qs (omega arith) in omega (arith, rest)
behind_is l (filter e qs) top = let rest = behind_is (next l) qs (omega arith) in omega (arith, rest)

mutual
  pub measured : (r : Role) (l : ℕ) (e : Tree) → Measured l (nodes r l e) (depth e) (weight e)
  measured r l (tree p e) = node (measured_shape (inside r) (next l) e)

  measured_shape : (r : Role) (l : ℕ) (e : Shape) → Below l (parts r l e) (shape_depth e) (shape_weight e)
  measured_shape r l (int n) = leaf
  measured_shape r l (character c) = leaf
  measured_shape r l (string cs) = leaf
  measured_shape r l (atom n) = leaf
  measured_shape r l (var n) = leaf
  measured_shape r l any = leaf
  measured_shape r l (list es) = below (measured_all r l es)
  measured_shape r l (list_to es e) = below (both (measured_all r l es) (measured r l e))
  measured_shape r l (tuple es) = below (measured_all r l es)
  measured_shape r l (binary ss) = below (measured_segments r l ss)
  measured_shape r l (unary o e) = below (measured r l e)
  measured_shape r l (operation o a b) = below (both (measured r l a) (measured r l b))
  measured_shape r l (and_also a b) = below (both (measured r l a) (measured r l b))
  measured_shape r l (or_else a b) = below (both (measured r l a) (measured r l b))
  measured_shape r l (matching p e) = below (both (measured Pattern l p) (measured r l e))
  measured_shape r l (catching e) = below (measured r l e)
  measured_shape r l (call f es) = below (both (measured (of_target r f) l f) (measured_all r l es))
  measured_shape r l (remote m f es) = below (both (measured (of_target r m) l m) (both (measured (of_target r f) l f) (measured_all r l es)))
  measured_shape r l (record_new n fs) = below (measured_fields r l fs)
  measured_shape r l (record_update e n fs) = below (both (measured r l e) (measured_fields r l fs))
  measured_shape r l (record_field e n f) = below (measured r l e)
  measured_shape r l (record_index n f) = leaf
  measured_shape r l (block es) = below (measured_all Body l es)
  measured_shape r l (if_of cs) = below (measured_clauses l cs)
  measured_shape r l (case_of e cs) = below (both (measured r l e) (measured_clauses l cs))
  measured_shape r l (receive_of cs) = below (measured_clauses l cs)
  measured_shape r l (receive_after cs e es) = below (both (measured_clauses l cs) (both (measured r l e) (measured_all Body l es)))
  measured_shape r l (try_of es of ks after) = below (both (measured_all Body l es) (both (measured_maybe_clauses l of) (both (measured_catches l ks) (measured_maybe_body l after))))
  measured_shape r l (maybe ss others) = below (both (measured_steps l ss) (measured_maybe_clauses l others))
  measured_shape r l (list_comp e qs) = below (deeper_by (qualifier_count qs) (measured_qualifiers l qs) (behind_is l qs) (reached Body (behind l qs) e) (measured Body (behind l qs) e))
  measured_shape r l (bin_comp e qs) = below (deeper_by (qualifier_count qs) (measured_qualifiers l qs) (behind_is l qs) (reached Body (behind l qs) e) (measured Body (behind l qs) e))
  measured_shape r l (fun_local n a) = leaf
  measured_shape r l (fun_remote m f a) = below (both (measured Target l m) (both (measured Target l f) (measured Target l a)))
  measured_shape r l (fun_of cs) = below (measured_clauses l cs)
  measured_shape r l (named_fun n cs) = below (measured_clauses l cs)

  measured_all : (r : Role) (l : ℕ) (es : Trees) → Measured l (all_nodes r l es) (all_depth es) (all_weight es)
  measured_all r l end = none
  measured_all r l (more e es) = both (measured r l e) (measured_all r l es)

  measured_guards : (l : ℕ) (gs : Guards) → Measured l (guard_nodes l gs) (guards_depth gs) (guards_weight gs)
  measured_guards l no_guard = none
  measured_guards l (or_guard es gs) = both (measured_all Guard l es) (measured_guards l gs)

  measured_clauses : (l : ℕ) (cs : Clauses) → Measured l (clause_nodes l cs) (clauses_depth cs) (clauses_weight cs)
  measured_clauses l no_clauses = none
  measured_clauses l (clause p ps g body cs) = both (measured_all Pattern l ps) (both (measured_guards l g) (both (measured_all Body l body) (measured_clauses l cs)))

  measured_maybe_clauses : (l : ℕ) (cs : MaybeClauses) → Measured l (maybe_clause_nodes l cs) (maybe_clauses_depth cs) (maybe_clauses_weight cs)
  measured_maybe_clauses l left_out = none
  measured_maybe_clauses l (these cs) = measured_clauses l cs

  measured_maybe_body : (l : ℕ) (es : MaybeTrees) → Measured l (maybe_body_nodes l es) (maybe_body_depth es) (maybe_body_weight es)
  measured_maybe_body l absent = none
  measured_maybe_body l (present es) = measured_all Body l es

  measured_catches : (l : ℕ) (ks : Catches) → Measured l (catch_nodes l ks) (catches_depth ks) (catches_weight ks)
  measured_catches l no_catches = none
  measured_catches l (catches p c e t g body ks) = both (measured Pattern l e) (both (measured_guards l g) (both (measured_all Body l body) (measured_catches l ks)))

  measured_segments : (r : Role) (l : ℕ) (ss : Segments) → Measured l (segment_nodes r l ss) (segments_depth ss) (segments_weight ss)
  measured_segments r l no_segments = none
  measured_segments r l (segment p e ws ss) = both (measured r l e) (measured_segments r l ss)
  measured_segments r l (sized p e n ws ss) = both (measured r l e) (both (measured (of_size r) l n) (measured_segments r l ss))

  measured_fields : (r : Role) (l : ℕ) (fs : Fields) → Measured l (field_nodes r l fs) (fields_depth fs) (fields_weight fs)
  measured_fields r l no_fields = none
  measured_fields r l (field p n e fs) = both (measured r l e) (measured_fields r l fs)

  measured_steps : (l : ℕ) (ss : Steps) → Measured l (step_nodes l ss) (steps_depth ss) (steps_weight ss)
  measured_steps l no_steps = none
  measured_steps l (step e ss) = both (measured Body l e) (measured_steps l ss)
  measured_steps l (step_to p e ss) = both (measured Pattern l p) (deeper (measured Body l e) (reached Body l e) (measured_steps (next l) ss))

  measured_qualifiers : (l : ℕ) (qs : Qualifiers) → Measured l (qualifier_nodes l qs) (qualifiers_depth qs) (qualifiers_weight qs)
  measured_qualifiers l no_qualifiers = none
  measured_qualifiers l (list_from p e strict qs) = both (measured Pattern l p) (deeper (measured Body l e) (reached Body l e) (measured_qualifiers (next l) qs))
  measured_qualifiers l (bits_from p e strict qs) = both (measured Pattern l p) (deeper (measured Body l e) (reached Body l e) (measured_qualifiers (next l) qs))
  measured_qualifiers l (filter e qs) = deeper (measured Filter l e) (reached Filter l e) (measured_qualifiers (next l) qs)

-- the greatest level among the nodes of a tree is the depth of the tree, counted from its level
pub deepest : (r : Role) (l : ℕ) (e : Tree) → 1 ≤ l → l ≤ 2 ^ 32 - 1 → greatest_level (nodes r l e) ≡ min (l + depth e - 1) (2 ^ 32 - 1)
deepest r l e one top = let h = (measured r l e).deep one top in omega (arith, h, reached r l e)

pub counted : (r : Role) (l : ℕ) (e : Tree) → length (nodes r l e) ≡ weight e
counted r l e = (measured r l e).heavy
