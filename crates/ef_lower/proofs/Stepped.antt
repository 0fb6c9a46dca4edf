-- What the code of a match makes, as a step of a match.
use Rattle.std.proofs.Common.{◌≤◌, ◌+◌, ◌*◌, ℕ, codes, List, length, arith}
use Rattle.ef_base.specs.Texts.{Texts}
use Rattle.ef_core.specs.declared.env.Bind.{Bind}
use Rattle.ef_core.specs.declared.lowered.Test.{Test}
use Rattle.ef_core.specs.Fresh.{DrawsAtMost}
use Rattle.ef_core.specs.Plain.{ClauseTree}
use Rattle.ef_core.specs.Tree.{PatTrees}
use Rattle.ef_forms.specs.Tree.{Tree, end, more}
use Rattle.ef_forms.specs.Weight.{weight}
use Rattle.ef_lower.specs.Matches.{IsLastClause, IsPatternsOf}
use Rattle.ef_lower.proofs.Few.{few_binds}
use Rattle.ef_lowpat.specs.Budgets.{variables_per_pattern}

-- there are variables left for the guards, the last clause and the names
pub step_enough : (texts : Texts) (p : Tree) (n : ℕ) (bound : List Bind) (pats : PatTrees) (tests : List Test) (m : ℕ) (binds : List Bind) → IsPatternsOf texts (more p end) n bound pats tests m binds →
    (guarded first most : ℕ) (last : ClauseTree) → n + variables_per_pattern * weight p + weight p + 6 ≤ most → DrawsAtMost 2 m guarded → IsLastClause texts (codes "badmatch") 1 guarded first last → first + length binds ≤ most
step_enough texts p n bound pats tests m binds found guarded first most last enough guards is_last =
    let few = few_binds bound binds (more p end) found.names_differ found.names_new found.names_all in let behind = found.drawn.1 in let more' = guards.1 in let next = is_last.enough in omega arith
