use Rattle.std.proofs.Common.{refl, sym}
use Rattle.std.specs.Prelude.{chars, false}
use Rattle.ef_token.specs.Lexeme as x
use Rattle.ef_scan.proofs.Verdicts.{character_at, ill_character_fault, lone_fault, alone_fault, empty_chars, lone_backslash, stops_false}
use Rattle.ef_scan.proofs.lexeme.character.Goals as goal

pub returns-then-is_empty : goal.returns-then-is_empty
returns-then-is_empty c = lone_fault c.args.at c.args.behind c.requires (empty_chars c.args.behind.rest.now (sym c.if-is_empty.ensures))

pub returns-in-Legal : goal.returns-in-Legal
returns-in-Legal c = (
  x.character c.in-Legal.c,
  refl,
  character_at c.args.at c.args.behind c.in-Legal.end c.in-Legal.c c.requires (c.in-Legal.ensures (λ d. false) (stops_false (chars c.args.behind.rest.now))),
)

pub returns-in-Illegal : goal.returns-in-Illegal
returns-in-Illegal c = ill_character_fault c.args.at c.args.behind c.in-Illegal.field-0 c.requires (c.in-Illegal.ensures (λ d. false) (stops_false (chars c.args.behind.rest.now)))

pub returns-in-Ends : goal.returns-in-Ends
returns-in-Ends c =
    alone_fault c.args.at c.args.behind c.requires
    (lone_backslash c.args.behind.rest.now c.requires.in_text.utf8 (sym c.if-is_empty.ensures) (c.in-Ends.ensures (λ d. false) (stops_false (chars c.args.behind.rest.now))))
