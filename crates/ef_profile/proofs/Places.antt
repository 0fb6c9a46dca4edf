-- Where a node stands.
use Rattle.std.proofs.Common.{◌≡◌, ap}
use Rattle.ef_forms.specs.declared.expr.Expr.{Expr}
use Rattle.ef_forms.specs.Plain.{plain}
use Rattle.ef_forms.specs.Views.{place_of}
use Rattle.ef_forms.proofs.Plain.{plain_expr}

pub placed : (e : Expr) → place_of (plain e) ≡ e.place
placed e = ap place_of (plain_expr e)
