use Rattle.std.proofs.Common.{◌≡◌, ◌∷◌, ◌++◌, [], true, None, option_map, map, reverse, sym, ap, ◌∙◌, subst, arith}
use Rattle.std.proofs.lemmas.Grind.{common_steps}
use Rattle.std.proofs.lemmas.List.{append_assoc}
use Rattle.ef_grammar.specs.Grammar.{Rule, has}
use Rattle.ef_grammar.specs.Reads.{Over}
use Rattle.ef_grammar.specs.Shown.{symbol, symbols, joined, at_last, AllPass}
use Rattle.ef_grammar.specs.Table.{vanish}
use Rattle.ef_grammar.proofs.Passing.{over_end, over_piece, pass_before, vanish_tail}
use Rattle.ef_grammar.proofs.Tops.{popped}
use Rattle.ef_grammar.proofs.symbols.next.Goals as goal

pub returns-in-Some-clause-over : goal.returns-in-Some-clause-over
returns-in-Some-clause-over g c t h =
    let front : c.pieces.symbols.front.now ≡ c.in-Some.first ∷ c.in-Some.rest.now = grind (arith, common_steps) in
    subst (Over t c.args.class (symbols c.args.symbols.now)) (ap (λ z. map symbol z ++ joined (reverse c.pieces.symbols.behind.items) ++ at_last c.pieces.symbols.last) front) (c.pieces.invariant t h).0

pub returns-in-Some-clause-passes : goal.returns-in-Some-clause-passes
returns-in-Some-clause-passes g c t h =
    let front : c.pieces.symbols.front.now ≡ c.in-Some.first ∷ c.in-Some.rest.now = grind (arith, common_steps) in
    let i = c.pieces.invariant t h in
    (vanish_tail t c.pieces.symbols.pass (symbol c.in-Some.first) (map symbol c.in-Some.rest.now) (subst (λ z. vanish t c.pieces.symbols.pass (map symbol z) ≡ true) front i.1.0), i.1.1)

pub pieces-preserved-then-not-is_in : goal.pieces-preserved-then-not-is_in
pieces-preserved-then-not-is_in g c t h =
    let i = c.pieces.invariant t h in
    let empty : c.pieces.symbols.front.now ≡ [] = grind (arith, common_steps) in
    let items : c.pieces.symbols.behind.items ≡ c.pop.new.self.items ++ c.in-Some-pop.piece ∷ [] = grind (arith, common_steps) in
    let both = pass_before t c.pop.new.self.items c.in-Some-pop.piece (subst (AllPass t) items i.1.1) in (
      subst (Over t c.args.class (symbols c.args.symbols.now))
          (popped c.pieces.symbols.front.now c.pieces.symbols.behind.items c.pop.new.self.items c.in-Some-pop.piece c.pieces.symbols.last empty items) i.0,
      (both.1, both.0),
    )

pub pieces-preserved : goal.pieces-preserved
pieces-preserved g c t h =
    let i = c.pieces.invariant t h in
    let empty : c.pieces.symbols.front.now ≡ [] = grind (arith, common_steps) in
    let items : c.pieces.symbols.behind.items ≡ c.pop.new.self.items ++ c.in-Some-pop.piece ∷ [] = grind (arith, common_steps) in
    let both = pass_before t c.pop.new.self.items c.in-Some-pop.piece (subst (AllPass t) items i.1.1) in
    let in_pass : has c.in-Some-pop.piece.pass c.args.class ≡ true = grind (arith, common_steps) in
    let before = subst (Over t c.args.class (symbols c.args.symbols.now))
    (popped c.pieces.symbols.front.now c.pieces.symbols.behind.items c.pop.new.self.items c.in-Some-pop.piece c.pieces.symbols.last empty items
    ∙ append_assoc (map symbol c.in-Some-pop.piece.symbols.now) (joined (reverse c.pop.new.self.items)) (at_last c.pieces.symbols.last)) i.0 in
    let over = over_piece t c.args.class c.in-Some-pop.piece.pass (symbols c.args.symbols.now) (map symbol c.in-Some-pop.piece.symbols.now)
    (joined (reverse c.pop.new.self.items) ++ at_last c.pieces.symbols.last) before both.1 in_pass in (
      subst (λ z. Over t c.args.class (symbols c.args.symbols.now) (map symbol z ++ joined (reverse c.pop.new.self.items) ++ at_last c.pieces.symbols.last)) (sym empty) over,
      (i.1.0, both.0),
    )

pub returns-in_err-last-in-None-clause-over : goal.returns-in_err-last-in-None-clause-over
returns-in_err-last-in-None-clause-over g c t h =
    let i = c.pieces.invariant t h in
    let nothing : symbols c.pieces.symbols ≡ [] = grind (arith, common_steps) in
    let none : option_map symbol c.from_residual.result ≡ None = grind (arith, common_steps) in
    over_end t c.args.class (symbols c.args.symbols.now) _ (option_map symbol c.from_residual.result) none (subst (Over t c.args.class (symbols c.args.symbols.now)) nothing i.0)

pub returns-in-None-clause-over : goal.returns-in-None-clause-over
returns-in-None-clause-over g c t h =
    let i = c.pieces.invariant t h in
    let one : symbols c.pieces.symbols ≡ Rule c.in_ok-last-in-None.last ∷ [] = grind (arith, common_steps) in
    let rest : map symbol c.pieces.symbols.front.now ++ joined (reverse c.pop.new.self.items) ++ [] ≡ [] = grind (arith, common_steps) in
    subst (λ z. Over t c.args.class (symbols c.args.symbols.now) z) (one ∙ ap (λ z. Rule c.in_ok-last-in-None.last ∷ z) (sym rest)) i.0
