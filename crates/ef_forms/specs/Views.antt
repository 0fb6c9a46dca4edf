-- What nodes are, as rules ask for it.
use Rattle.std.specs.Prelude.{ℕ, List, [], ◌∷◌, Option, Some, None, option_and_then}
use Rattle.std.specs.Option.{option_map}
use Rattle.ef_base.specs.declared.fault.Place.{Place}
use Rattle.ef_base.specs.declared.name.Name.{Name}
use Rattle.ef_forms.specs.declared.expr.BinaryOp.{BinaryOp}
use Rattle.ef_forms.specs.declared.expr.TypeWord.{TypeWord}
use Rattle.ef_forms.specs.declared.tables.FunctionName.{FunctionName}
use Rattle.ef_forms.specs.declared.view.Called.{Called}
use Rattle.ef_forms.specs.Tree.{Tree, Segments, Clauses, tree, atom, binary, no_segments, segment, sized, no_clauses, clause, call, remote, operation, fun_local, fun_of, named_fun, count}

abbrev pub place_of : Tree → Place
place_of (tree p e) = p

abbrev pub atom_of : Tree → Option Name
atom_of (tree p (atom n)) = Some n
atom_of (tree p _) = None

-- what is called by its name
abbrev pub call_by_name : Tree → Option Called
call_by_name (tree p (call f es)) = option_map (λ n. record { home = None; name = n; arity = count es }) (atom_of f)
call_by_name (tree p (remote m f es)) = option_and_then (λ h. option_map (λ n. record { home = Some h; name = n; arity = count es }) (atom_of f)) (atom_of m)
call_by_name (tree p _) = None

-- how many arguments a call has, whatever is called
abbrev pub arguments : Tree → Option ℕ
arguments (tree p (call f es)) = Some (count es)
arguments (tree p (remote m f es)) = Some (count es)
arguments (tree p _) = None

-- the function that `fun f/a` names
abbrev pub fun_name : Tree → Option FunctionName
fun_name (tree p (fun_local n a)) = Some (record { name = n; arity = a })
fun_name (tree p _) = None

abbrev pub operator : Tree → Option BinaryOp
operator (tree p (operation o a b)) = Some o
operator (tree p _) = None

-- one segment of a binary
pub record SegmentTree : Type 0 where
  pub place : Place
  pub value : Tree
  pub size : Option Tree
  pub types : List TypeWord

abbrev pub segment_list : Segments → List SegmentTree
segment_list no_segments = []
segment_list (segment p e ws ss) = record { place = p; value = e; size = None; types = ws } ∷ segment_list ss
segment_list (sized p e n ws ss) = record { place = p; value = e; size = Some n; types = ws } ∷ segment_list ss

abbrev pub segments_of : Tree → List SegmentTree
segments_of (tree p (binary ss)) = segment_list ss
segments_of (tree p _) = []

-- a clause by its place and the number of its parameters
pub record HeadTree : Type 0 where
  pub place : Place
  pub parameters : ℕ

abbrev pub heads : Clauses → List HeadTree
heads no_clauses = []
heads (clause p ps g body cs) = record { place = p; parameters = count ps } ∷ heads cs

-- the clauses of a fun
abbrev pub fun_heads : Tree → List HeadTree
fun_heads (tree p (fun_of cs)) = heads cs
fun_heads (tree p (named_fun n cs)) = heads cs
fun_heads (tree p _) = []
