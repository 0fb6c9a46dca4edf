-- The segments of a binary and the clauses of a fun, one by one; nodes as views open them.
use Rattle.std.proofs.Common.{◌≡◌, ℕ, List, [], ◌∷◌, refl, sym, ap, ◌∙◌, map, length, Vec, Box, Option, Some, None}
use Rattle.std.specs.Option.{option_map}
use Rattle.std.specs.declared.alloc.Global.{Global}
use Rattle.ef_base.specs.declared.fault.Place.{Place}
use Rattle.ef_base.specs.declared.name.Name.{Name}
use Rattle.ef_forms.specs.declared.expr.Clause.{Clause}
use Rattle.ef_forms.specs.declared.expr.Expr.{Expr}
use Rattle.ef_forms.specs.declared.expr.Node.{out-Node, the_lemmas}
use Rattle.ef_forms.specs.declared.expr.Node.TheVariants as node
use Rattle.ef_forms.specs.declared.expr.Segment.{Segment, out-Segment}
use Rattle.ef_forms.specs.declared.expr.TypeWord.{TypeWord}
use Rattle.ef_forms.specs.declared.view.Called.{Called}
use Rattle.ef_forms.specs.Tree.{Tree, Segments, tree, call, remote, fun_of, named_fun}
use Rattle.ef_forms.specs.Plain.{plain, plain_all, plain_clauses, plain_segments, segment_of}
use Rattle.ef_forms.specs.Shown.{show_head, show_segment}
use Rattle.ef_forms.specs.Views.{SegmentTree, arguments, atom_of, call_by_name, fun_heads, heads, segment_list}
use Rattle.ef_forms.proofs.Opened.{opened_shape, shape_of}
use Rattle.ef_forms.proofs.Plain.{counted, plain_one_segment}

one_segment : (p : Place) (e : Tree) (o : Option Tree) (ws : List TypeWord) (ss : Segments)
    → (let s : SegmentTree = record { place = p; value = e; size = o; types = ws } in segment_list (segment_of p e o ws ss) ≡ s ∷ segment_list ss)
one_segment p e None ws ss = refl
one_segment p e (Some n) ws ss = refl

pub shown_segments : (ss : List Segment) → map show_segment ss ≡ segment_list (plain_segments ss)
shown_segments [] = refl
shown_segments (s ∷ ss) =
    ap (λ l. show_segment s ∷ l) (shown_segments ss)
    ∙ sym (ap segment_list (plain_one_segment s (plain_segments ss)) ∙ one_segment (out-Segment s).place (plain (out-Segment s).value) (option_map plain (out-Segment s).size) (out-Segment s).types.items (plain_segments ss))

pub shown_heads : (cs : List Clause) → map show_head cs ≡ heads (plain_clauses cs)
shown_heads [] = refl
shown_heads (c ∷ cs) = simp (shown_heads cs, counted)

at_call : (e : Expr) (f : Box Expr Global) (es : Vec Expr Global) → e.node ≡ node.Call f es → plain e ≡ tree e.place (call (plain f.value) (plain_all es.items))
at_call e f es is = opened_shape e ∙ ap (λ n. tree e.place (shape_of (out-Node n))) is ∙ simp the_lemmas

at_remote : (e : Expr) (m f : Box Expr Global) (es : Vec Expr Global) → e.node ≡ node.Remote m f es → plain e ≡ tree e.place (remote (plain m.value) (plain f.value) (plain_all es.items))
at_remote e m f es is = opened_shape e ∙ ap (λ n. tree e.place (shape_of (out-Node n))) is ∙ simp the_lemmas

at_fun : (e : Expr) (cs : Vec Clause Global) → e.node ≡ node.Fun cs → plain e ≡ tree e.place (fun_of (plain_clauses cs.items))
at_fun e cs is = opened_shape e ∙ ap (λ n. tree e.place (shape_of (out-Node n))) is ∙ simp the_lemmas

at_named_fun : (e : Expr) (n : Name) (cs : Vec Clause Global) → e.node ≡ node.NamedFun n cs → plain e ≡ tree e.place (named_fun n (plain_clauses cs.items))
at_named_fun e n cs is = opened_shape e ∙ ap (λ n. tree e.place (shape_of (out-Node n))) is ∙ simp the_lemmas

pub call_arguments : (e : Expr) (f : Box Expr Global) (es : Vec Expr Global) (k : ℕ) → e.node ≡ node.Call f es → k ≡ length es.items → Some k ≡ arguments (plain e)
call_arguments e f es k is counts = ap Some (counts ∙ sym (counted es.items)) ∙ sym (ap arguments (at_call e f es is))

pub remote_arguments : (e : Expr) (m f : Box Expr Global) (es : Vec Expr Global) (k : ℕ) → e.node ≡ node.Remote m f es → k ≡ length es.items → Some k ≡ arguments (plain e)
remote_arguments e m f es k is counts = ap Some (counts ∙ sym (counted es.items)) ∙ sym (ap arguments (at_remote e m f es is))

pub call_named : (e : Expr) (f : Box Expr Global) (es : Vec Expr Global) (n : Name) (k : ℕ) → e.node ≡ node.Call f es
    → Some n ≡ atom_of (plain f.value) → k ≡ length es.items
    → (let c : Called = record { home = None; name = n; arity = k } in Some c ≡ call_by_name (plain e))
call_named e f es n k is at_f counts =
    let shape = at_call e f es is in
    let number = counted es.items in
    simp (shape, ← at_f, number, counts)

pub remote_named : (e : Expr) (m f : Box Expr Global) (es : Vec Expr Global) (h n : Name) (k : ℕ) → e.node ≡ node.Remote m f es
    → Some h ≡ atom_of (plain m.value) → Some n ≡ atom_of (plain f.value) → k ≡ length es.items
    → (let c : Called = record { home = Some h; name = n; arity = k } in Some c ≡ call_by_name (plain e))
remote_named e m f es h n k is at_m at_f counts =
    let shape = at_remote e m f es is in
    let number = counted es.items in
    simp (shape, ← at_m, ← at_f, number, counts)

pub fun_shown : (e : Expr) (cs : Vec Clause Global) (ds : List Clause) → e.node ≡ node.Fun cs → ds ≡ cs.items → map show_head ds ≡ fun_heads (plain e)
fun_shown e cs ds is same = ap (map show_head) same ∙ shown_heads cs.items ∙ sym (ap fun_heads (at_fun e cs is))

pub named_fun_shown : (e : Expr) (n : Name) (cs : Vec Clause Global) (ds : List Clause) → e.node ≡ node.NamedFun n cs → ds ≡ cs.items → map show_head ds ≡ fun_heads (plain e)
named_fun_shown e n cs ds is same = ap (map show_head) same ∙ shown_heads cs.items ∙ sym (ap fun_heads (at_named_fun e n cs is))
