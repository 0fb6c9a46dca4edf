use Rattle.std.proofs.Common.{◌≡◌, ◌++◌, [], ◌∷◌, sym, subst, arith}
use Rattle.std.proofs.lemmas.Grind.{common_steps}
use Rattle.ef_grammar.specs.Shown.{AllPass}
use Rattle.ef_grammar.proofs.Passing.{pass_behind}
use Rattle.ef_grammar.proofs.symbols.wait.Goals as goal

pub returns-in_ok-push-clause-passes : goal.returns-in_ok-push-clause-passes
returns-in_ok-push-clause-passes g c t h e =
    let items : c.push.new.self.items ≡ c.args.behind.now.items ++ c.args.piece ∷ [] = grind (arith, common_steps) in
    subst (AllPass t) (sym items) (pass_behind t c.args.behind.now.items c.args.piece h e)
