use Rattle.std.proofs.Common.{subst, sym, refl}
use Rattle.ef_token.specs.Lexeme as x
use Rattle.ef_token.specs.Lexeme.{EndsForm}
use Rattle.ef_scan.specs.Symbols.{Fits, IsLongestSymbol}
use Rattle.ef_scan.proofs.Signs.{symbol_at, stop_at, tilde_fault, character_fault}
use Rattle.ef_scan.proofs.lexeme.sign.Goals as goal

pub returns-then-first-eq126 : goal.returns-then-first-eq126
returns-then-first-eq126 c = tilde_fault c.args.at c.requires.step.0 c.args.first c.requires.step.1 c.if-first-eq126.true

pub returns-in_default : goal.returns-in_default
returns-in_default c =
    character_fault c.args.at c.requires.step.0 c.args.first c.requires.in_text c.requires.step.1 c.requires.begins c.if-first-eq126.false
    (λ s h. c.in_default.ensures.none s (subst (Fits s) (sym c.as_bytes.ensures.value) h))

pub returns-then-is_full_stop : goal.returns-then-is_full_stop
returns-then-is_full_stop c =
    let s = c.in-Some.symbol in
    let is = subst (λ t. IsLongestSymbol t s.sym s.width) c.as_bytes.ensures.value c.in-Some.ensures.some in
    let both = c.is_full_stop.ensures.0 c.if-is_full_stop.true in
    (x.full_stop, tt, stop_at c.args.at c.behind-behind.result s.sym s.width c.requires.in_text is c.behind-behind.ensures both.0 both.1)

pub returns : goal.returns
returns c =
    let s = c.in-Some.symbol in
    let is = subst (λ t. IsLongestSymbol t s.sym s.width) c.as_bytes.ensures.value c.in-Some.ensures.some in (
      x.symbol s.sym,
      refl,
      symbol_at c.args.at c.behind-behind.result s.sym s.width c.requires.in_text is c.behind-behind.ensures
          (λ p ends. let both = c.is_full_stop.ensures.1 (p, ends) in let never = c.if-is_full_stop.false in cc (both, never)),
    )
