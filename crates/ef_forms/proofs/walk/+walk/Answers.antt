use Rattle.std.proofs.Common.{arith}
use Rattle.std.proofs.lemmas.Grind.{common_steps}
use Rattle.ef_forms.proofs.Opened.{laws}
use Rattle.ef_forms.proofs.walk.+walk.Goals as goal

pub nodes-returns-in-If : goal.nodes-returns-in-If
nodes-returns-in-If t c = grind (arith, common_steps, laws)

pub nodes-returns-in_ok-nodes-in-Case : goal.nodes-returns-in_ok-nodes-in-Case
nodes-returns-in_ok-nodes-in-Case t c = grind (arith, common_steps, laws)

pub nodes-returns-in-Receive-default-None : goal.nodes-returns-in-Receive-default-None
nodes-returns-in-Receive-default-None t c = grind (arith, common_steps, laws)

pub nodes-returns-in_ok-nodes-in-Receive-default-Some : goal.nodes-returns-in_ok-nodes-in-Receive-default-Some
nodes-returns-in_ok-nodes-in-Receive-default-Some t c = grind (arith, common_steps, laws)

pub nodes-returns-in_ok-all_nodes-in-Try-default-None-default-None : goal.nodes-returns-in_ok-all_nodes-in-Try-default-None-default-None
nodes-returns-in_ok-all_nodes-in-Try-default-None-default-None t c = grind (arith, common_steps, laws)

pub nodes-returns-in_ok-catch_nodes-in-Try-default-None-default-Some : goal.nodes-returns-in_ok-catch_nodes-in-Try-default-None-default-Some
nodes-returns-in_ok-catch_nodes-in-Try-default-None-default-Some t c = grind (arith, common_steps, laws)

pub nodes-returns-in_ok-clause_nodes-in-Try-default-Some-default-None : goal.nodes-returns-in_ok-clause_nodes-in-Try-default-Some-default-None
nodes-returns-in_ok-clause_nodes-in-Try-default-Some-default-None t c = grind (arith, common_steps, laws)

pub nodes-returns-in_ok-catch_nodes-in-Try-default-Some-default-Some : goal.nodes-returns-in_ok-catch_nodes-in-Try-default-Some-default-Some
nodes-returns-in_ok-catch_nodes-in-Try-default-Some-default-Some t c = grind (arith, common_steps, laws)

pub nodes-returns-in-Maybe-default-None : goal.nodes-returns-in-Maybe-default-None
nodes-returns-in-Maybe-default-None t c = grind (arith, common_steps, laws)

pub nodes-returns-in_ok-step_nodes-in-Maybe-default-Some : goal.nodes-returns-in_ok-step_nodes-in-Maybe-default-Some
nodes-returns-in_ok-step_nodes-in-Maybe-default-Some t c = grind (arith, common_steps, laws)

pub nodes-returns-in-FunLocal : goal.nodes-returns-in-FunLocal
nodes-returns-in-FunLocal t c = grind (arith, common_steps, laws)

pub nodes-returns-in_ok-nodes-in-FunRemote-2 : goal.nodes-returns-in_ok-nodes-in-FunRemote-2
nodes-returns-in_ok-nodes-in-FunRemote-2 t c = grind (arith, common_steps, laws)

pub nodes-returns-in-Fun : goal.nodes-returns-in-Fun
nodes-returns-in-Fun t c = grind (arith, common_steps, laws)

pub nodes-returns-in-NamedFun : goal.nodes-returns-in-NamedFun
nodes-returns-in-NamedFun t c = grind (arith, common_steps, laws)

pub nodes-returns-in-Int : goal.nodes-returns-in-Int
nodes-returns-in-Int t c = grind (arith, common_steps, laws)

pub nodes-returns-in-Int-2 : goal.nodes-returns-in-Int-2
nodes-returns-in-Int-2 t c = grind (arith, common_steps, laws)

pub nodes-returns-in-Int-3 : goal.nodes-returns-in-Int-3
nodes-returns-in-Int-3 t c = grind (arith, common_steps, laws)

pub nodes-returns-in-Int-4 : goal.nodes-returns-in-Int-4
nodes-returns-in-Int-4 t c = grind (arith, common_steps, laws)

pub nodes-returns-in-Int-5 : goal.nodes-returns-in-Int-5
nodes-returns-in-Int-5 t c = grind (arith, common_steps, laws)

pub nodes-returns-in-Int-6 : goal.nodes-returns-in-Int-6
nodes-returns-in-Int-6 t c = grind (arith, common_steps, laws)

pub one_catch_nodes-returns : goal.one_catch_nodes-returns
one_catch_nodes-returns t c = grind (arith, common_steps, laws)
