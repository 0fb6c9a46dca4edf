-- The trees of source patterns, and their elements.
use Rattle.std.proofs.Common.{◌≡◌, ℕ, zero, suc, ◌<◌, List, [], ◌∷◌, length, get_or, sym, ap, ◌∙◌, subst, arith}
use Rattle.ef_forms.specs.declared.expr.Expr.{Expr}
use Rattle.ef_forms.specs.declared.expr.Node.{Node}
use Rattle.ef_forms.specs.Built.{ArePatterns, IsPattern}
use Rattle.ef_forms.specs.Plain.{plain, plain_all, plain_node}
use Rattle.ef_forms.specs.Tree.{Shape, tree}
use Rattle.ef_forms.proofs.Plain.{plain_expr}

pub expr_is : (e : Expr) (n : Node) (s : Shape) → e.node ≡ n → plain_node n ≡ s → plain e ≡ tree e.place s
expr_is e n s is same = plain_expr e ∙ ap (λ m. tree e.place (plain_node m)) is ∙ ap (tree e.place) same

pub pattern_at : (es : List Expr) (i : ℕ) (e : Expr) → i < length es → e ≡ get_or es i e → ArePatterns (plain_all es) → IsPattern (plain e)
pattern_at [] i e small read all = absurd (omega arith)
pattern_at (y ∷ es) zero e small read all = subst (λ z. IsPattern (plain z)) (sym read) all.0
pattern_at (y ∷ es) (suc i) e small read all = pattern_at es i e (omega arith) read all.1
