use Rattle.std.proofs.Common.{arith}
use Rattle.std.proofs.lemmas.Grind.{common_steps}
use Rattle.ef_forms.proofs.Extents.{laws}
use Rattle.ef_forms.proofs.measure.+measure.Goals as goal

pub measure-returns-in-If : goal.measure-returns-in-If
measure-returns-in-If t c = grind (arith, common_steps, laws)

pub measure-returns-in-Case : goal.measure-returns-in-Case
measure-returns-in-Case t c = grind (arith, common_steps, laws)

pub measure-returns-in-Receive-default-None : goal.measure-returns-in-Receive-default-None
measure-returns-in-Receive-default-None t c = grind (arith, common_steps, laws)

pub measure-returns-in-Receive-default-Some : goal.measure-returns-in-Receive-default-Some
measure-returns-in-Receive-default-Some t c = grind (arith, common_steps, laws)

pub measure-returns-in-Try-default-None-default-None : goal.measure-returns-in-Try-default-None-default-None
measure-returns-in-Try-default-None-default-None t c = grind (arith, common_steps, laws)

pub measure-returns-in-Try-default-None-default-Some : goal.measure-returns-in-Try-default-None-default-Some
measure-returns-in-Try-default-None-default-Some t c = grind (arith, common_steps, laws)

pub measure-returns-in-Try-default-Some-default-None : goal.measure-returns-in-Try-default-Some-default-None
measure-returns-in-Try-default-Some-default-None t c = grind (arith, common_steps, laws)

pub measure-returns-in-Try-default-Some-default-Some : goal.measure-returns-in-Try-default-Some-default-Some
measure-returns-in-Try-default-Some-default-Some t c = grind (arith, common_steps, laws)

pub measure-returns-in-Maybe-default-None : goal.measure-returns-in-Maybe-default-None
measure-returns-in-Maybe-default-None t c = grind (arith, common_steps, laws)

pub measure-returns-in-Maybe-default-Some : goal.measure-returns-in-Maybe-default-Some
measure-returns-in-Maybe-default-Some t c = grind (arith, common_steps, laws)

pub measure-returns-in-ListComp : goal.measure-returns-in-ListComp
measure-returns-in-ListComp t c = grind (arith, common_steps, laws)

pub measure-returns-in-BinComp : goal.measure-returns-in-BinComp
measure-returns-in-BinComp t c = grind (arith, common_steps, laws)

pub measure-returns-in-FunLocal : goal.measure-returns-in-FunLocal
measure-returns-in-FunLocal t c = grind (arith, common_steps, laws)

pub measure-returns-in-FunRemote : goal.measure-returns-in-FunRemote
measure-returns-in-FunRemote t c = grind (arith, common_steps, laws)

pub measure-returns-in-Fun : goal.measure-returns-in-Fun
measure-returns-in-Fun t c = grind (arith, common_steps, laws)

pub measure-returns-in-NamedFun : goal.measure-returns-in-NamedFun
measure-returns-in-NamedFun t c = grind (arith, common_steps, laws)

pub measure-returns-in-Int : goal.measure-returns-in-Int
measure-returns-in-Int t c = grind (arith, common_steps, laws)

pub measure-returns-in-Int-2 : goal.measure-returns-in-Int-2
measure-returns-in-Int-2 t c = grind (arith, common_steps, laws)

pub measure-returns-in-Int-3 : goal.measure-returns-in-Int-3
measure-returns-in-Int-3 t c = grind (arith, common_steps, laws)

pub measure-returns-in-Int-4 : goal.measure-returns-in-Int-4
measure-returns-in-Int-4 t c = grind (arith, common_steps, laws)

pub measure-returns-in-Int-5 : goal.measure-returns-in-Int-5
measure-returns-in-Int-5 t c = grind (arith, common_steps, laws)

pub measure-returns-in-Int-6 : goal.measure-returns-in-Int-6
measure-returns-in-Int-6 t c = grind (arith, common_steps, laws)

pub measure_catch-returns : goal.measure_catch-returns
measure_catch-returns t c = grind (arith, common_steps, laws)
