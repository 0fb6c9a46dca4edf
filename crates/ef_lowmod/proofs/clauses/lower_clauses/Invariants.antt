use Rattle.std.proofs.Common.{◌≤◌, ◌+◌, ◌*◌, map, take, drop}
use Rattle.ef_base.specs.Texts.{AllDiffer, AllUtf8, Extends}
use Rattle.ef_core.specs.Plain.{plain_clause}
use Rattle.ef_forms.specs.Plain.{plain_clauses}
use Rattle.ef_forms.specs.Weight.{clauses_weight}
use Rattle.ef_lowmod.specs.Clauses.{AreLoweredClauses}
use Rattle.ef_lowmod.proofs.clauses.lower_clauses.Given as goal
use Rattle.ef_lowpat.specs.Budgets.{variables_per_clause}

abbrev pub invariant-loop-clause : goal.invariant-loop-clause
invariant-loop-clause l = record {
  kept : Extends l.fn.names l.names;
  differ : AllDiffer l.fn.names → AllDiffer l.names;
  utf8 : AllUtf8 l.fn.names → AllUtf8 l.names;
  lowered : AreLoweredClauses l.names l.tables.functions.items (take l.clause-index l.clauses) (map plain_clause l.made.items);
  drawn : l.fn.fresh ≤ l.fresh;
  left : l.fresh + variables_per_clause * clauses_weight (plain_clauses (drop l.clause-index l.clauses)) ≤ l.fn.fresh + variables_per_clause * clauses_weight (plain_clauses l.clauses);
}
