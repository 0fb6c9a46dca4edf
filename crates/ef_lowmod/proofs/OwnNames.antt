-- A function of one clause, whose parameters are the clause's names: its body is that of the clause.
use Rattle.std.proofs.Common.{◌≡◌, ◌≤◌, ◌+◌, ◌*◌, ◌^◌, ℕ, List, [], ◌∷◌, length, map, sym, ap, ◌∙◌, subst, arith}
use Rattle.ef_base.specs.Texts.{Texts}
use Rattle.ef_core.specs.declared.env.Bind.{Bind}
use Rattle.ef_core.specs.declared.literal.CoreVar.{CoreVar}
use Rattle.ef_core.specs.Depth.{depth}
use Rattle.ef_core.specs.Env.{NamesDiffer}
use Rattle.ef_core.specs.Everywhere.{Each}
use Rattle.ef_core.specs.Fresh.{variables_from}
use Rattle.ef_core.specs.Lowered.{IsLowered, IsReadableBind}
use Rattle.ef_core.specs.Readable.{readable}
use Rattle.ef_core.specs.Scope.{IsAmong}
use Rattle.ef_core.specs.Tree.{CoreTree}
use Rattle.ef_forms.specs.declared.expr.Clause.{Clause, out-Clause}
use Rattle.ef_forms.specs.declared.expr.Expr.{Expr}
use Rattle.ef_forms.specs.declared.tables.FunctionName.{FunctionName}
use Rattle.ef_forms.specs.Depth.{all_depth, clauses_depth}
use Rattle.ef_forms.specs.Plain.{plain, plain_all, plain_clauses}
use Rattle.ef_forms.specs.Tree.{clause, count, no_clauses, no_guard}
use Rattle.ef_forms.specs.Ways.{all_names, body_faults}
use Rattle.ef_forms.specs.Weight.{all_weight, clauses_weight}
use Rattle.ef_forms.proofs.Plain.{counted}
use Rattle.ef_lower.specs.Scope.{HasVariables, IsInScope}
use Rattle.ef_lower.proofs.Numbered.{numbered_below, numbered_count, numbered_readable}
use Rattle.ef_lower.proofs.Listed.{among_themselves}
use Rattle.ef_lowmod.specs.Clauses.{AreReadyClauses, IsLoweredBody, IsReadyClause}
use Rattle.ef_lowmod.specs.Parameters.{own_names}
use Rattle.ef_lowmod.proofs.Lowered.{has_earlier}
use Rattle.ef_lowmod.proofs.OneClause.{OneClause}
use Rattle.ef_lowmod.proofs.Parameters.{each_name, names_below, names_bound, parameters_keep}
use Rattle.ef_lowmod.proofs.Ready.{each_number, each_ready}
use Rattle.ef_lowpat.specs.Budgets.{depth_per_level}
use Rattle.ef_meaning.specs.Lowers.{AreBelow, KeepsBody, KeepsFunction}
use Rattle.ef_meaning.specs.Named.{bound_names}
use Rattle.ef_meaning.specs.Source.{by_clauses}
use Rattle.ef_base.specs.Texts.{Extends}

module _ (all : Texts) (defined : List FunctionName) (n : ℕ) (cs : List Clause) (params : List CoreVar) (env : List Bind) (c : Clause)
    (ready : AreReadyClauses all defined n (plain_clauses cs)) (first : params ≡ variables_from 0 n) (one : OneClause cs params env c) where
  whole : AreReadyClauses all defined n (plain_clauses (c ∷ []))
  whole = subst (λ l. AreReadyClauses all defined n (plain_clauses l)) one.alone ready

  pub own_ready : IsReadyClause all defined c
  own_ready = (each_ready all defined n (c ∷ []) whole).0

  own_number : count (plain_all (out-Clause c).patterns.items) ≡ n
  own_number = counted (out-Clause c).patterns.items ∙ (each_number all defined n (c ∷ []) whole).0

  own_each : (P : CoreVar → Type 0) → Each P (variables_from 0 n) → Each (λ (b : Bind). P b.var) env
  own_each P are =
      subst (Each (λ (b : Bind). P b.var)) (sym one.names) (each_name P (plain_all (out-Clause c).patterns.items) params (subst (Each P) (sym first) are))

  pub own_readable : n ≤ 2 ^ 32 → Each (IsReadableBind all) env
  own_readable few = own_each (readable all).variable (numbered_readable all 0 n (omega arith))

  pub own_below : AreBelow n env
  own_below =
      subst (AreBelow n) (sym one.names) (names_below n (plain_all (out-Clause c).patterns.items) params (subst (Each _) (sym first) (numbered_below n 0 n (omega arith))))

  pub own_within : HasVariables env params
  own_within = own_each (IsAmong params) (subst (Each (IsAmong params)) first (among_themselves params))

  own_set : (y : ℕ) → bound_names env y ≡ all_names (plain_all (out-Clause c).patterns.items) y
  own_set y =
      let number = ap length first ∙ numbered_count 0 n in
      let few = own_number in
      ap (λ e. bound_names e y) one.names ∙ names_bound (plain_all (out-Clause c).patterns.items) params y one.parameters (omega arith)

  pub own_faults : body_faults all (plain_all (out-Clause c).body.items) (bound_names env ∷ []) ≡ []
  own_faults =
      let same : bound_names env ≡ all_names (plain_all (out-Clause c).patterns.items) = λ i y. own_set y i in
      subst (λ s. body_faults all (plain_all (out-Clause c).body.items) (s ∷ []) ≡ []) (sym same) own_ready.no_fault

  pub own_weight : all_weight (plain_all (out-Clause c).body.items) ≤ clauses_weight (plain_clauses cs)
  own_weight = let same = ap (λ l. clauses_weight (plain_clauses l)) one.alone in omega arith

  pub own_body : (now : Texts) (es : List Expr) (body : CoreTree) → Extends all now → es ≡ (out-Clause c).body.items → KeepsBody now (map plain es) env [] body → IsLowered now body → IsInScope all defined env body → depth body + 1 ≤ depth_per_level * all_depth (plain_all es) → IsLoweredBody now defined (plain_clauses cs) params body
  own_body now es body later same keeps lowered in_scope shallow =
      let ps = plain_all (out-Clause c).patterns.items in
      let names : env ≡ own_names ps (variables_from 0 n) = one.names ∙ ap (own_names ps) first in
      let kept : KeepsBody now (map plain (out-Clause c).body.items) (own_names ps (variables_from 0 n)) [] body = subst (λ l. KeepsBody now (map plain l) (own_names ps (variables_from 0 n)) [] body) same (subst (λ e. KeepsBody now (map plain es) e [] body) names keeps) in
      let function = parameters_keep now (out-Clause c).place ps n (map plain (out-Clause c).body.items) body one.parameters own_number (subst NamesDiffer names one.differ) kept in
      let clauses : plain_clauses cs ≡ clause (out-Clause c).place ps no_guard (plain_all (out-Clause c).body.items) no_clauses = ap plain_clauses one.alone ∙ ap (λ g. clause (out-Clause c).place ps g (plain_all (out-Clause c).body.items) no_clauses) own_ready.unguarded in
      record {
        keeps = subst (λ l. KeepsFunction now (by_clauses l []) params body) (sym clauses) (subst (λ vs. KeepsFunction now (by_clauses (clause (out-Clause c).place ps no_guard (plain_all (out-Clause c).body.items) no_clauses) []) vs body) (sym first) function);
        lowered = lowered;
        in_scope = λ fs has. in_scope params fs own_within (has_earlier all now later defined fs has);
        shallow = let deep = ap (λ l. all_depth (plain_all l)) same in let within = ap clauses_depth clauses in omega arith;
      }
