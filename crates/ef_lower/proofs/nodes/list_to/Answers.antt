use Rattle.std.proofs.Common.{◌≡◌, ◌==◌, true, false, sym, ◌∙◌, length, vec_len, arith, subst}
use Rattle.std.proofs.lemmas.Bool.Decides.{nat_tests}
use Rattle.ef_core.specs.Normal.{AreLits}
use Rattle.ef_core.specs.Plain.{plain_all}
use Rattle.ef_lower.proofs.Literals.{list_to_node, list_to_said}
use Rattle.ef_lower.proofs.nodes.list_to.Goals.{else-is_literal-via-then-is_literal+else-are_literals, else-is_literal-via-else-is_literal}
use Rattle.ef_lower.proofs.nodes.list_to.Goals as goal

pub returns-then-are_literals : goal.returns-then-are_literals
returns-then-are_literals c =
    let counted : vec_len c.args.items ≡ length c.args.items.items = omega (arith, c.args.items.ok.0) in
    let filled : (vec_len c.args.items == 0) ≡ false = sym c.is_empty.ensures ∙ c.if-is_empty.false in
    list_to_said c.args.items.items c.args.tail c.in_ok-items.items c.literal_of.result c.in_ok-new.field-0 (λ none. grind (arith, nat_tests)) c.in_ok-items.ensures c.literal_of.ensures c.in_ok-new.ensures.ok

pub returns : goal.returns
returns c =
    let counted : vec_len c.args.items ≡ length c.args.items.items = omega (arith, c.args.items.ok.0) in
    let filled : (vec_len c.args.items == 0) ≡ false = sym c.is_empty.ensures ∙ c.if-is_empty.false in
    list_to_node c.args.items c.args.tail c.in_ok-new-2.field-0 (λ none. grind (arith, nat_tests)) c.in_ok-new-2.ensures.ok (λ all one.
    elim c.else-is_literal.branch [
      | else-is_literal-via-then-is_literal+else-are_literals w ↦ let yes : w.are_literals.result ≡ true = w.are_literals.ensures.1 (subst (λ es. AreLits (plain_all es)) (sym w.deref.ensures.value) all) in let no = w.if-are_literals.false in absurd cc
      | else-is_literal-via-else-is_literal w ↦ let yes : c.is_literal.result ≡ true = c.is_literal.ensures.1 one in let no = w.if-is_literal.false in absurd cc
    ])
