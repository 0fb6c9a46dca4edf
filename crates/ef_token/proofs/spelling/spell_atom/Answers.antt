use Rattle.std.proofs.Common.{chars, subst, ◌++◌, ◌≡◌}
use Rattle.std.specs.Prelude.{IfOk}
use Rattle.ef_token.proofs.Names.{all_bare, all_quoted, nothing_left}
use Rattle.ef_token.proofs.spelling.spell_atom.Goals as goal

pub returns-then-is_bare-clause-spells : goal.returns-then-is_bare-clause-spells
returns-then-is_bare-clause-spells c =
    all_bare c.put.result c.args.into.now.items c.put.new.into.items c.args.text.now c.utf8.text (c.is_bare.ensures.0 c.if-is_bare.true)
    (subst (λ t. IfOk c.put.result (λ x. c.put.new.into.items ≡ c.args.into.now.items ++ t)) c.as_bytes.ensures.value c.put.ensures.puts)

pub returns-clause-spells : goal.returns-clause-spells
returns-clause-spells c =
    all_quoted c.put-3.result c.loop-step.into.items c.put-3.new.into.items (chars c.args.text.now) c.args.into.now.items
    (nothing_left c.loop-step.into.items (chars c.loop-step.rest.now) (chars c.args.text.now) c.args.into.now.items c.loop-step.invariant.1 c.in_default.ensures.none)
    (λ h. let yes = c.is_bare.ensures.1 h in let never = c.if-is_bare.false in cc (yes, never)) c.put-3.ensures.puts
