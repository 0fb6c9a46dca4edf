use Rattle.std.proofs.Common.{arith, refl}
use Rattle.ef_token.specs.Lexeme as x
use Rattle.ef_scan.proofs.Verdicts.{atom_at, word_at, atom_found, atom_long, word_front, word_bytes}
use Rattle.ef_scan.proofs.lexeme.atom.Goals as goal

pub returns-in-Some : goal.returns-in-Some
returns-in-Some c =
    let run = c.requires.run in (
      x.word c.in-Some.word,
      refl,
      word_at c.args.at c.args.run.behind c.args.run.count run c.in-Some.word
          (word_front run.front c.text_to-name.result.now c.in-Some.word (c.text_to-name.ensures run.front run.behind) c.in-Some.ensures.some),
    )

pub returns-then-run-gt-MAX_ATOM : goal.returns-then-run-gt-MAX_ATOM
returns-then-run-gt-MAX_ATOM c =
    let run = c.requires.run in
    atom_long c.args.at c.args.run.behind run.front
    (atom_at c.args.at c.args.run.behind c.args.run.count run c.requires.begins
    (λ w e. c.in_default.ensures.none w (word_bytes run.front c.text_to-name.result.now w (c.text_to-name.ensures run.front run.behind) e)))
    (omega (arith, run.counted))

pub returns : goal.returns
returns c =
    let run = c.requires.run in (
      x.atom run.front,
      (c.text_to-name.ensures run.front run.behind, omega (arith, run.counted)),
      atom_found c.args.at c.args.run.behind run.front
          (atom_at c.args.at c.args.run.behind c.args.run.count run c.requires.begins
          (λ w e. c.in_default.ensures.none w (word_bytes run.front c.text_to-name.result.now w (c.text_to-name.ensures run.front run.behind) e)))
          (omega (arith, run.counted)),
    )
