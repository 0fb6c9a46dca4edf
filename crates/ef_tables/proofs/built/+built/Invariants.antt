use Rattle.std.proofs.Common.{drop}
use Rattle.ef_forms.specs.Built.{AreBuilt, AreBuiltClauses}
use Rattle.ef_forms.specs.OfTable.{ClausesOf, TreesOf}
use Rattle.ef_forms.specs.Plain.{plain_all, plain_clauses}
use Rattle.ef_tables.proofs.built.+built.Given as goal

abbrev pub invariant-are_built-loop-expr : goal.invariant-are_built-loop-expr
invariant-are_built-loop-expr l =
    (AreBuilt l.names l.defined (plain_all l.exprs) → AreBuilt l.names l.defined (plain_all (drop l.expr-index l.exprs)))
    × (AreBuilt l.names l.defined (plain_all (drop l.expr-index l.exprs)) → AreBuilt l.names l.defined (plain_all l.exprs))
    × TreesOf l.names (plain_all (drop l.expr-index l.exprs))

abbrev pub invariant-are_built_clauses-loop-clause : goal.invariant-are_built_clauses-loop-clause
invariant-are_built_clauses-loop-clause l =
    (AreBuiltClauses l.names l.defined l.arity (plain_clauses l.clauses) → AreBuiltClauses l.names l.defined l.arity (plain_clauses (drop l.clause-index l.clauses)))
    × (AreBuiltClauses l.names l.defined l.arity (plain_clauses (drop l.clause-index l.clauses)) → AreBuiltClauses l.names l.defined l.arity (plain_clauses l.clauses))
    × ClausesOf l.names (plain_clauses (drop l.clause-index l.clauses))
