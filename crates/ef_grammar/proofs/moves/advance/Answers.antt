use Rattle.std.proofs.Common.{◌≡◌, ℕ, suc, [], ◌∷◌, ◌++◌, ◌<◌, ◌≤◌, option_map, Some, None, true, false, refl, arith, subst, sym}
use Rattle.std.proofs.lemmas.Grind.{common_steps}
use Rattle.ef_grammar.specs.Grammar.{Token, Rule, Act, has}
use Rattle.ef_grammar.specs.Table.{chosen, opened_rows, weight}
use Rattle.ef_grammar.specs.Reads.{Over}
use Rattle.ef_grammar.specs.Shown.{row, symbol, symbols, with_next}
use Rattle.ef_grammar.proofs.Opened.{keeps_rule, stops_rule, opened_lighter}
use Rattle.ef_grammar.proofs.Steps.{Keeps, keeps_act, stops_act, stops_token, taken}
use Rattle.ef_grammar.proofs.Passing.{keeps_over, over_lighter}
use Rattle.ef_grammar.proofs.moves.advance.Goals as goal

pub returns-then-is_in-clause-next : goal.returns-then-is_in-clause-next
returns-then-is_in-clause-next g c =
    let t = g.G.Grammar in
    let m = g.met.G.Grammar in
    let of = t.grammar c.args.language.now in
    let is : option_map symbol c.next.result ≡ Some (Token c.in-Some-Token.set) = grind (arith, common_steps) in
    let past : Over t.table c.args.class (symbols c.moves.symbols) (Token c.in-Some-Token.set ∷ symbols c.next.new.symbols) =
    subst (λ o. Over t.table c.args.class (symbols c.moves.symbols) (with_next o (symbols c.next.new.symbols))) is (c.next.ensures.over t.table c.moves.invariant.1) in
    let kept = keeps_over of t.table m.sound (m.rows_are c.args.language.now) c.args.class (symbols c.args.symbols.now) (t.value c.args.state.now) _ _ (t.value c.moves.state) c.moves.invariant.0 past in
    let in_set : has c.in-Some-Token.set c.args.class ≡ true = grind (arith, common_steps) in
    taken of t.table m.sound (m.rows_are c.args.language.now) c.args.class (symbols c.args.symbols.now) (t.value c.args.state.now) _ _ _ _ kept refl in_set

pub returns-else-is_in-clause-next : goal.returns-else-is_in-clause-next
returns-else-is_in-clause-next g c =
    let t = g.G.Grammar in
    let m = g.met.G.Grammar in
    let of = t.grammar c.args.language.now in
    let is : option_map symbol c.next.result ≡ Some (Token c.in-Some-Token.set) = grind (arith, common_steps) in
    let past : Over t.table c.args.class (symbols c.moves.symbols) (Token c.in-Some-Token.set ∷ symbols c.next.new.symbols) =
    subst (λ o. Over t.table c.args.class (symbols c.moves.symbols) (with_next o (symbols c.next.new.symbols))) is (c.next.ensures.over t.table c.moves.invariant.1) in
    let kept = keeps_over of t.table m.sound (m.rows_are c.args.language.now) c.args.class (symbols c.args.symbols.now) (t.value c.args.state.now) _ _ (t.value c.moves.state) c.moves.invariant.0 past in
    let not_in : has c.in-Some-Token.set c.args.class ≡ false = grind (arith, common_steps) in
    stops_token of t.table m.sound (m.rows_are c.args.language.now) c.args.class (symbols c.args.symbols.now) (t.value c.args.state.now) _ _ _ _ kept refl not_in

pub moves-preserved-else-not-branch : goal.moves-preserved-else-not-branch
moves-preserved-else-not-branch g c =
    let t = g.G.Grammar in
    let m = g.met.G.Grammar in
    let of = t.grammar c.args.language.now in
    let is : option_map symbol c.next.result ≡ Some (Act c.in-Some-Act.action) = grind (arith, common_steps) in
    let past : Over t.table c.args.class (symbols c.moves.symbols) (Act c.in-Some-Act.action ∷ symbols c.next.new.symbols) =
    subst (λ o. Over t.table c.args.class (symbols c.moves.symbols) (with_next o (symbols c.next.new.symbols))) is (c.next.ensures.over t.table c.moves.invariant.1) in
    let kept = keeps_over of t.table m.sound (m.rows_are c.args.language.now) c.args.class (symbols c.args.symbols.now) (t.value c.args.state.now) _ _ (t.value c.moves.state) c.moves.invariant.0 past in
    let made : of.act c.in-Some-Act.action (t.value c.moves.state) ≡ Some (t.value c.act.new.state) = grind (arith, common_steps) in
    (keeps_act of t.table m.sound (m.rows_are c.args.language.now) c.args.class (symbols c.args.symbols.now) (t.value c.args.state.now) _ _ _ _ _ kept refl made, c.next.ensures.passes t.table c.moves.invariant.1)

pub returns-then-not-branch-clause-next : goal.returns-then-not-branch-clause-next
returns-then-not-branch-clause-next g c =
    let t = g.G.Grammar in
    let m = g.met.G.Grammar in
    let of = t.grammar c.args.language.now in
    let is : option_map symbol c.next.result ≡ Some (Act c.in-Some-Act.action) = grind (arith, common_steps) in
    let past : Over t.table c.args.class (symbols c.moves.symbols) (Act c.in-Some-Act.action ∷ symbols c.next.new.symbols) =
    subst (λ o. Over t.table c.args.class (symbols c.moves.symbols) (with_next o (symbols c.next.new.symbols))) is (c.next.ensures.over t.table c.moves.invariant.1) in
    let kept = keeps_over of t.table m.sound (m.rows_are c.args.language.now) c.args.class (symbols c.args.symbols.now) (t.value c.args.state.now) _ _ (t.value c.moves.state) c.moves.invariant.0 past in
    let none : of.act c.in-Some-Act.action (t.value c.moves.state) ≡ None = grind (arith, common_steps) in
    stops_act of t.table m.sound (m.rows_are c.args.language.now) c.args.class (symbols c.args.symbols.now) (t.value c.args.state.now) _ _ _ _ kept refl none

pub returns-in_default-clause-next : goal.returns-in_default-clause-next
returns-in_default-clause-next g c =
    let t = g.G.Grammar in
    let m = g.met.G.Grammar in
    let of = t.grammar c.args.language.now in
    let is : option_map symbol c.next.result ≡ Some (Rule c.in-Some-Rule.rule) = grind (arith, common_steps) in
    let past : Over t.table c.args.class (symbols c.moves.symbols) (Rule c.in-Some-Rule.rule ∷ symbols c.next.new.symbols) =
    subst (λ o. Over t.table c.args.class (symbols c.moves.symbols) (with_next o (symbols c.next.new.symbols))) is (c.next.ensures.over t.table c.moves.invariant.1) in
    let kept = keeps_over of t.table m.sound (m.rows_are c.args.language.now) c.args.class (symbols c.args.symbols.now) (t.value c.args.state.now) _ _ (t.value c.moves.state) c.moves.invariant.0 past in
    let none : chosen (opened_rows t.table c.in-Some-Rule.rule) c.args.class ≡ None = grind (arith, common_steps) in
    stops_rule of t.table m.sound (m.rows_are c.args.language.now) c.args.class (symbols c.args.symbols.now) (t.value c.args.state.now) _ _ _ _ kept refl none

pub moves-smaller : goal.moves-smaller
moves-smaller g c =
    let t = g.G.Grammar in
    let m = g.met.G.Grammar in
    let of = t.grammar c.args.language.now in
    let is : option_map symbol c.next.result ≡ Some (Rule c.in-Some-Rule.rule) = grind (arith, common_steps) in
    let past : Over t.table c.args.class (symbols c.moves.symbols) (Rule c.in-Some-Rule.rule ∷ symbols c.next.new.symbols) =
    subst (λ o. Over t.table c.args.class (symbols c.moves.symbols) (with_next o (symbols c.next.new.symbols))) is (c.next.ensures.over t.table c.moves.invariant.1) in
    let right : chosen (opened_rows t.table c.in-Some-Rule.rule) c.args.class ≡ Some (row c.in-Some.row.now).right = grind (arith, common_steps) in
    let put : symbols c.put.new.symbols ≡ (row c.in-Some.row.now).right ++ symbols c.next.new.symbols = grind (arith, common_steps) in
    let lighter = opened_lighter of t.table m.sound (m.rows_are c.args.language.now) c.args.class c.in-Some-Rule.rule (row c.in-Some.row.now).right (symbols c.next.new.symbols) right in
    let passed = over_lighter t.table c.args.class (symbols c.moves.symbols) (Rule c.in-Some-Rule.rule ∷ symbols c.next.new.symbols) past in
    smaller (weight t.table (symbols c.put.new.symbols)) _ _
    (subst (λ z. weight t.table z < weight t.table (Rule c.in-Some-Rule.rule ∷ symbols c.next.new.symbols)) (sym put) lighter) passed
  where
    smaller : (i j k : ℕ) → i < j → j ≤ k → i < k
    smaller i j k p q = omega (arith, p, q)

pub moves-preserved : goal.moves-preserved
moves-preserved g c =
    let t = g.G.Grammar in
    let m = g.met.G.Grammar in
    let of = t.grammar c.args.language.now in
    let is : option_map symbol c.next.result ≡ Some (Rule c.in-Some-Rule.rule) = grind (arith, common_steps) in
    let past : Over t.table c.args.class (symbols c.moves.symbols) (Rule c.in-Some-Rule.rule ∷ symbols c.next.new.symbols) =
    subst (λ o. Over t.table c.args.class (symbols c.moves.symbols) (with_next o (symbols c.next.new.symbols))) is (c.next.ensures.over t.table c.moves.invariant.1) in
    let kept = keeps_over of t.table m.sound (m.rows_are c.args.language.now) c.args.class (symbols c.args.symbols.now) (t.value c.args.state.now) _ _ (t.value c.moves.state) c.moves.invariant.0 past in
    let right : chosen (opened_rows t.table c.in-Some-Rule.rule) c.args.class ≡ Some (row c.in-Some.row.now).right = grind (arith, common_steps) in
    let put : symbols c.put.new.symbols ≡ (row c.in-Some.row.now).right ++ symbols c.next.new.symbols = grind (arith, common_steps) in
    let next = keeps_rule of t.table m.sound (m.rows_are c.args.language.now) c.args.class (symbols c.args.symbols.now) (t.value c.args.state.now) _ _ _ _ _ kept refl right in (
      subst (λ z. Keeps of t.table m.sound (m.rows_are c.args.language.now) c.args.class (symbols c.args.symbols.now) (t.value c.args.state.now) z (t.value c.moves.state)) (sym put) next,
      c.in_ok-put-in-Some-Rule.ensures.passes t.table (c.next.ensures.passes t.table c.moves.invariant.1) c.in-Some.ensures.passed,
    )

pub returns-then-is_in-clause-passed : goal.returns-then-is_in-clause-passed
returns-then-is_in-clause-passed g c = c.next.ensures.passes g.G.Grammar.table c.moves.invariant.1

pub returns-else-is_in-clause-passed : goal.returns-else-is_in-clause-passed
returns-else-is_in-clause-passed g c = c.next.ensures.passes g.G.Grammar.table c.moves.invariant.1

pub returns-then-not-branch-clause-passed : goal.returns-then-not-branch-clause-passed
returns-then-not-branch-clause-passed g c = c.next.ensures.passes g.G.Grammar.table c.moves.invariant.1

pub returns-in_default-clause-passed : goal.returns-in_default-clause-passed
returns-in_default-clause-passed g c = c.next.ensures.passes g.G.Grammar.table c.moves.invariant.1

pub returns-in-None-clause-passed : goal.returns-in-None-clause-passed
returns-in-None-clause-passed g c = c.next.ensures.passes g.G.Grammar.table c.moves.invariant.1

pub returns-in-None-clause-next : goal.returns-in-None-clause-next
returns-in-None-clause-next g c =
    let t = g.G.Grammar in
    let m = g.met.G.Grammar in
    let of = t.grammar c.args.language.now in
    let is : option_map symbol c.next.result ≡ None = grind (arith, common_steps) in
    let past : Over t.table c.args.class (symbols c.moves.symbols) [] =
    subst (λ o. Over t.table c.args.class (symbols c.moves.symbols) (with_next o (symbols c.next.new.symbols))) is (c.next.ensures.over t.table c.moves.invariant.1) in
    (keeps_over of t.table m.sound (m.rows_are c.args.language.now) c.args.class (symbols c.args.symbols.now) (t.value c.args.state.now) _ _ (t.value c.moves.state) c.moves.invariant.0 past).1

pub moves-smaller-else-not-branch : goal.moves-smaller-else-not-branch
moves-smaller-else-not-branch g c =
    let t = g.G.Grammar in
    let is : option_map symbol c.next.result ≡ Some (Act c.in-Some-Act.action) = grind (arith, common_steps) in
    let past : Over t.table c.args.class (symbols c.moves.symbols) (Act c.in-Some-Act.action ∷ symbols c.next.new.symbols) =
    subst (λ o. Over t.table c.args.class (symbols c.moves.symbols) (with_next o (symbols c.next.new.symbols))) is (c.next.ensures.over t.table c.moves.invariant.1) in
    less _ _ (over_lighter t.table c.args.class (symbols c.moves.symbols) (Act c.in-Some-Act.action ∷ symbols c.next.new.symbols) past)
  where
    less : (i j : ℕ) → suc i ≤ j → i < j
    less i j p = omega (arith, p)
