-- An expression is larger than what a call goes over in it.
use Rattle.std.proofs.Common.{◌≡◌, ◌<◌, ◌+◌, ◌*◌, ℕ, List, Vec, Box, arith, rules}
use Rattle.std.specs.declared.alloc.Global.{Global}
use denote.Param.Weighed.{most}
use Rattle.ef_forms.specs.declared.expr.Clause.{Clause}
use Rattle.ef_forms.specs.declared.expr.Expr.{Expr, the_lemmas}
use Rattle.ef_forms.specs.declared.expr.Node.TheVariants as node
use Rattle.ef_forms.proofs.expr.Expr.TheLaws.{the_size}
use Rattle.ef_forms.proofs.expr.Clause.TheLaws as clause

pub tuple_falls : (e : Expr) (es : Vec Expr Global) (l : List Expr) (t : ℕ) → e.node ≡ node.Tuple es → l ≡ es.items → 2 * the_size e + 0 ≡ t → 2 * most the_size l + 1 < t
tuple_falls e es l t is same all = search (rules, the_lemmas)

pub call_falls : (e : Expr) (f : Box Expr Global) (es : Vec Expr Global) (l : List Expr) (t : ℕ) → e.node ≡ node.Call f es → l ≡ es.items → 2 * the_size e + 0 ≡ t → 2 * most the_size l + 1 < t
call_falls e f es l t is same all = search (rules, the_lemmas)

pub case_falls : (e : Expr) (arg : Box Expr Global) (cs : Vec Clause Global) (l : List Clause) (t : ℕ) → e.node ≡ node.Case arg cs → l ≡ cs.items → 2 * the_size e + 0 ≡ t → 2 * most clause.the_size l + 1 < t
case_falls e arg cs l t is same all = search (rules, the_lemmas)
