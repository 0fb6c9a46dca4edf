use Rattle.ef_scan.proofs.Codings.{WordTo}
use Rattle.ef_scan.proofs.coding.after_word.Given as goal

abbrev pub invariant-loop-c : goal.invariant-loop-c
invariant-loop-c l = WordTo l.in_any_case l.at l.behind l.word l.c-index
