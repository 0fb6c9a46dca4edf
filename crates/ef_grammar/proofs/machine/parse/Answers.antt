use Rattle.std.proofs.Common.{◌≡◌, ◌+◌, [], ◌∷◌, drop, refl, arith}
use Rattle.std.proofs.lemmas.Grind.{common_steps}
use Rattle.ef_grammar.specs.Grammar.{Rule}
use Rattle.ef_grammar.specs.Shown.{symbols}
use Rattle.ef_grammar.specs.declared.moves.Next.TheVariants as next_is
use Rattle.ef_grammar.proofs.Runs.{begins, taken, refuses, wants, early, finishes, next_as, at_as}
use Rattle.ef_grammar.proofs.machine.parse.Goals as goal

pub tokens-init : goal.tokens-init
tokens-init g c =
    let t = g.G.Grammar in
    let of = t.grammar c.args.language.now in
    let start : Rule c.args.start ∷ [] ≡ symbols c.only-symbols.result = grind (arith, common_steps) in (
      at_as of t.table c.args.start (t.value c.args.state) c.args.tokens.now 0 _ _ _ _ start refl
          (begins of t.table c.args.start (t.value c.args.state) c.args.tokens.now c.requires.ends),
      c.only-symbols.ensures.passes t.table,
    )

pub tokens-preserved : goal.tokens-preserved
tokens-preserved g c =
    let t = g.G.Grammar in
    let of = t.grammar c.args.language.now in
    let kept : of.push c.in-Some.token.now (t.value c.advance.new.state) ≡ t.value c.push.new.state = grind (arith, common_steps) in
    let found = c.in-Some.ensures.lookup in (
      at_as of t.table c.args.start (t.value c.args.state) c.args.tokens.now (c.tokens.at + 1) _ _ _ _ refl kept
          (taken of t.table c.args.start (t.value c.args.state) c.args.tokens.now c.tokens.at (symbols c.tokens.symbols) (symbols c.advance.new.symbols) (t.value c.tokens.state)
          (t.value c.advance.new.state) c.in-Some.token.now c.tokens.invariant.0
          (next_as of t.table c.args.start (t.value c.args.state) c.args.tokens.now (of.look (drop c.tokens.at c.args.tokens.now)) c.look-class.result (symbols c.tokens.symbols)
          (symbols c.advance.new.symbols) (t.value c.tokens.state) (t.value c.advance.new.state) _ next_is.Take c.look-class.ensures.class c.in-Take.is c.in_ok-advance.ensures.next) found.3.0 found.1),
      c.in_ok-advance.ensures.passed,
    )

pub returns-in-Refuse : goal.returns-in-Refuse
returns-in-Refuse g c =
    let t = g.G.Grammar in
    let of = t.grammar c.args.language.now in
    refuses of t.table c.args.start (t.value c.args.state) c.args.tokens.now c.tokens.at (symbols c.tokens.symbols) (t.value c.tokens.state) c.tokens.invariant.0
    (next_as of t.table c.args.start (t.value c.args.state) c.args.tokens.now (of.look (drop c.tokens.at c.args.tokens.now)) c.look-class.result (symbols c.tokens.symbols)
    (symbols c.advance.new.symbols) (t.value c.tokens.state) (t.value c.advance.new.state) _ next_is.Refuse c.look-class.ensures.class c.in-Refuse.is c.in_ok-advance.ensures.next)

pub returns-in-None : goal.returns-in-None
returns-in-None g c =
    let t = g.G.Grammar in
    let of = t.grammar c.args.language.now in
    wants of t.table c.args.start (t.value c.args.state) c.args.tokens.now c.tokens.at (symbols c.tokens.symbols) (symbols c.advance.new.symbols) (t.value c.tokens.state)
    (t.value c.advance.new.state) c.tokens.invariant.0
    (next_as of t.table c.args.start (t.value c.args.state) c.args.tokens.now (of.look (drop c.tokens.at c.args.tokens.now)) c.look-class.result (symbols c.tokens.symbols)
    (symbols c.advance.new.symbols) (t.value c.tokens.state) (t.value c.advance.new.state) _ next_is.Take c.look-class.ensures.class c.in-Take.is c.in_ok-advance.ensures.next)
    (grind (arith, common_steps))

pub returns-then-at-tokens : goal.returns-then-at-tokens
returns-then-at-tokens g c =
    let t = g.G.Grammar in
    let of = t.grammar c.args.language.now in
    early of t.table c.args.start (t.value c.args.state) c.args.tokens.now c.tokens.at (symbols c.tokens.symbols) (t.value c.tokens.state) (t.value c.advance.new.state) c.tokens.invariant.0
    (next_as of t.table c.args.start (t.value c.args.state) c.args.tokens.now (of.look (drop c.tokens.at c.args.tokens.now)) c.look-class.result (symbols c.tokens.symbols)
    (symbols c.advance.new.symbols) (t.value c.tokens.state) (t.value c.advance.new.state) _ next_is.Finish c.look-class.ensures.class c.in-Finish.is c.in_ok-advance.ensures.next)
    c.if-at-tokens.true

pub returns-in-Finish : goal.returns-in-Finish
returns-in-Finish g c =
    let t = g.G.Grammar in
    let of = t.grammar c.args.language.now in
    finishes of t.table c.args.start (t.value c.args.state) c.args.tokens.now c.tokens.at (symbols c.tokens.symbols) (t.value c.tokens.state) (t.value c.advance.new.state) c.tokens.invariant.0
    (next_as of t.table c.args.start (t.value c.args.state) c.args.tokens.now (of.look (drop c.tokens.at c.args.tokens.now)) c.look-class.result (symbols c.tokens.symbols)
    (symbols c.advance.new.symbols) (t.value c.tokens.state) (t.value c.advance.new.state) _ next_is.Finish c.look-class.ensures.class c.in-Finish.is c.in_ok-advance.ensures.next)
    c.if-at-tokens.false
