use Rattle.ef_forms.proofs.Views.{fun_shown, named_fun_shown}
use Rattle.ef_forms.proofs.view.fun_clauses.Goals as goal

pub returns-in-Fun : goal.returns-in-Fun
returns-in-Fun c = fun_shown c.args.expr.now c.in-Fun.clauses c.deref.result.now c.in-Fun.is c.deref.ensures.value

pub returns-in-NamedFun : goal.returns-in-NamedFun
returns-in-NamedFun c = named_fun_shown c.args.expr.now c.in-NamedFun.name c.in-NamedFun.clauses c.deref-in-NamedFun.result.now c.in-NamedFun.is c.deref-in-NamedFun.ensures.value
