-- The tree of a node, and what is left of a list while a loop goes over it.
use Rattle.std.proofs.Common.{◌≡◌, ◌<◌, ◌+◌, ℕ, List, [], ◌∷◌, length, drop, get_or, suc, add-one, sym, ap, ◌∙◌, subst}
use Rattle.std.proofs.Math.Seq.{drop-cons}
use Rattle.ef_base.specs.Texts.{Texts}
use Rattle.ef_forms.specs.declared.expr.Expr.{Expr}
use Rattle.ef_forms.specs.declared.expr.Clause.{Clause, out-Clause}
use Rattle.ef_forms.specs.declared.expr.Node.{Node}
use Rattle.ef_forms.specs.OfTable.{TreeOf, TreesOf, ClausesOf}
use Rattle.ef_forms.specs.Plain.{plain, plain_all, plain_clauses, plain_node}
use Rattle.ef_forms.specs.Tree.{Shape, tree}
use Rattle.ef_forms.proofs.Plain.{plain_expr}

pub tree_is : (e : Expr) (k : Node) (sh : Shape) → e.node ≡ k → plain_node k ≡ sh → plain e ≡ tree e.place sh
tree_is e k sh is shape = plain_expr e ∙ ap (tree e.place) (ap plain_node is ∙ shape)

pub next : {A : Type 0} (xs : List A) (i : ℕ) (x : A) → i < length xs → x ≡ get_or xs i x → drop i xs ≡ x ∷ drop (i + 1) xs
next xs i x small read = rw add-one (drop-cons xs i x small ∙ ap (λ z. z ∷ drop (suc i) xs) (sym read))

-- the same of a list that is read under another name
pub next_of : {A : Type 0} (xs read_xs : List A) (i : ℕ) (x : A) → read_xs ≡ xs → i < length read_xs → x ≡ get_or read_xs i x → drop i xs ≡ x ∷ drop (i + 1) xs
next_of xs read_xs i x same small read = subst (λ l. drop i l ≡ x ∷ drop (i + 1) l) same (next read_xs i x small read)

-- ---- the names of one of them, and of the rest

module _ (texts : Texts) (es : List Expr) (i : ℕ) (e : Expr) (small : i < length es) (read : e ≡ get_or es i e) (names : TreesOf texts (plain_all (drop i es))) where
  pub first_names : TreeOf texts (plain e)
  first_names = (subst (λ l. TreesOf texts (plain_all l)) (next es i e small read) names).0

  pub rest_names : TreesOf texts (plain_all (drop (i + 1) es))
  rest_names = (subst (λ l. TreesOf texts (plain_all l)) (next es i e small read) names).1

module _ (texts : Texts) (cs : List Clause) (i : ℕ) (c : Clause) (small : i < length cs) (read : c ≡ get_or cs i c) (names : ClausesOf texts (plain_clauses (drop i cs))) where
  all_names_of : ClausesOf texts (plain_clauses (c ∷ drop (i + 1) cs))
  all_names_of = subst (λ l. ClausesOf texts (plain_clauses l)) (next cs i c small read) names

  pub clause_names : ClausesOf texts (plain_clauses (c ∷ []))
  clause_names = (all_names_of.0, all_names_of.1, all_names_of.2, tt)

  pub patterns_names : (ps : List Expr) → ps ≡ (out-Clause c).patterns.items → TreesOf texts (plain_all ps)
  patterns_names ps is = subst (λ l. TreesOf texts (plain_all l)) (sym is) all_names_of.0

  pub body_names : (body : List Expr) → body ≡ (out-Clause c).body.items → TreesOf texts (plain_all body)
  body_names body is = subst (λ l. TreesOf texts (plain_all l)) (sym is) all_names_of.2

  pub rest_clauses_names : ClausesOf texts (plain_clauses (drop (i + 1) cs))
  rest_clauses_names = all_names_of.3
