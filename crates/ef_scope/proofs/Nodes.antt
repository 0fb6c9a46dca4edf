-- What the walk does at each kind of node.
use Rattle.std.proofs.Common.{◌≡◌, ◌⊎◌, inl, inr, ℤ, List, [], sym, subst}
use Rattle.ef_base.specs.declared.fault.Fault.{Fault}
use Rattle.ef_base.specs.declared.name.Name.{Name}
use Rattle.ef_base.specs.declared.fault.Place.{Place}
use Rattle.ef_base.specs.Texts.{Texts}
use Rattle.ef_forms.specs.declared.expr.Expr.{Expr}
use Rattle.ef_forms.specs.declared.expr.Node.{Node}
use Rattle.ef_forms.specs.declared.expr.Node.TheVariants as node
use Rattle.ef_forms.specs.declared.expr.Clause.{Clause}
use Rattle.ef_forms.specs.Plain.{plain, plain_all, plain_clauses, plain_node}
use Rattle.ef_forms.specs.Tree.{Shape, int, atom, var, any, list, list_to, tuple, matching, call, remote, case_of}
use Rattle.ef_forms.specs.Ways.{shape_ways, stay, ways, side_by_side, clauses_ways, bind, names, faults, shape_faults, all_faults, clauses_faults, pattern_faults}
use Rattle.ef_scope.specs.declared.state.State.{State}
use Rattle.ef_scope.specs.Walks.{Walks}
use Rattle.ef_forms.proofs.Shapes.{IsOther, plain_atom, plain_int}
use Rattle.ef_scope.proofs.Adds.{adds_none}
use Rattle.ef_scope.proofs.Lists.{tree_is}
use Rattle.ef_scope.proofs.Parts.{walks_stay}

module _ (texts : Texts) (a b : State) (x y : List Fault) where
  pub node_walks : (e : Expr) (k : Node) (sh : Shape) → e.node ≡ k → plain_node k ≡ sh → Walks (shape_ways sh) (shape_faults texts e.place sh) a b x y → Walks (ways (plain e)) (faults texts (plain e)) a b x y
  node_walks e k sh is shape walks = subst (λ t. Walks (ways t) (faults texts t) a b x y) (sym (tree_is e k sh is shape)) walks

  pub of_one : (e f : Expr) → e ≡ f → Walks (ways (plain e)) (faults texts (plain e)) a b x y → Walks (ways (plain f)) (faults texts (plain f)) a b x y
  of_one e f same walks = subst (λ g. Walks (ways (plain g)) (faults texts (plain g)) a b x y) same walks

  pub of_pattern : (e f : Expr) → e ≡ f → Walks (bind (names (plain e))) (pattern_faults texts (plain e)) a b x y → Walks (bind (names (plain f))) (pattern_faults texts (plain f)) a b x y
  of_pattern e f same walks = subst (λ g. Walks (bind (names (plain g))) (pattern_faults texts (plain g)) a b x y) same walks

  pub of_clauses : (cs ds : List Clause) → cs ≡ ds → Walks (clauses_ways (plain_clauses cs)) (clauses_faults texts (plain_clauses cs)) a b x y → Walks (clauses_ways (plain_clauses ds)) (clauses_faults texts (plain_clauses ds)) a b x y
  of_clauses cs ds same walks = subst (λ l. Walks (clauses_ways (plain_clauses l)) (clauses_faults texts (plain_clauses l)) a b x y) same walks

  pub of_all : (es fs : List Expr) → es ≡ fs → Walks (side_by_side (plain_all es)) (all_faults texts (plain_all es)) a b x y → Walks (side_by_side (plain_all fs)) (all_faults texts (plain_all fs)) a b x y
  of_all es fs same walks = subst (λ l. Walks (side_by_side (plain_all l)) (all_faults texts (plain_all l)) a b x y) same walks

nothing : (s : State) (x : List Fault) → Walks stay (λ sets. []) s s x x
nothing s x = walks_stay (λ sets. []) s x x (λ sets shows. adds_none x)

pub literal_walks : (texts : Texts) (e : Expr) (s : State) (x : List Fault) → ((i : ℤ) × (e.node ≡ node.Int i)) ⊎ ((n : Name) × (e.node ≡ node.Atom n)) → Walks (ways (plain e)) (faults texts (plain e)) s s x x
literal_walks texts e s x is = elim is [
  | inl i ↦ node_walks texts s s x x e _ _ i.1 (plain_int i.0) (nothing s x)
  | inr n ↦ node_walks texts s s x x e _ _ n.1 (plain_atom n.0) (nothing s x)
]

-- what is not built binds nothing and has no fault
pub other_walks : (texts : Texts) (p : Place) (e : Shape) (s : State) (x : List Fault) → IsOther e → Walks (shape_ways e) (shape_faults texts p e) s s x x
other_walks texts p (int i) s x is = absurd is
other_walks texts p (atom n) s x is = absurd is
other_walks texts p (var n) s x is = absurd is
other_walks texts p any s x is = absurd is
other_walks texts p (list es) s x is = absurd is
other_walks texts p (list_to es e) s x is = absurd is
other_walks texts p (tuple es) s x is = absurd is
other_walks texts p (matching q e) s x is = absurd is
other_walks texts p (call f es) s x is = absurd is
other_walks texts p (remote m f es) s x is = absurd is
other_walks texts p (case_of e cs) s x is = absurd is
other_walks texts p _ s x is = nothing s x
