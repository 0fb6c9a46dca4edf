-- A case as it is made of its parts.
use Rattle.std.proofs.Common.{◌≡◌, ◌≤◌, ℕ, inl, inr, codes, List, [], ◌∷◌, ◌++◌, length, map, sym, ap, ◌∙◌, subst, arith}
use Rattle.std.proofs.lemmas.List.{map-append}
use Rattle.ef_base.specs.Texts.{Texts}
use Rattle.ef_core.specs.declared.env.Bind.{Bind}
use Rattle.ef_core.specs.declared.tree.CoreClause.{CoreClause}
use Rattle.ef_core.specs.Fresh.{most_variables}
use Rattle.ef_core.specs.Plain.{StepTree, clauses, plain_clause, plain_clauses}
use Rattle.ef_core.specs.Tree as c
use Rattle.ef_core.specs.Tree.{CoreTree}
use Rattle.ef_lower.specs.Arms.{ArmTree, FinishesAll, IsCaseOf, LeavesNames, MakesCase, PutsNamed, shared}
use Rattle.ef_lower.specs.Matches.{IsLastClause}

module _ {texts : Texts} {x : CoreTree} {arms : List ArmTree} {n first : ℕ} {whole : CoreTree} where
  -- the last clause goes behind those of the arms
  pub chosen : (last : CoreClause) (cs all : List CoreClause) → IsLastClause texts (codes "case_clause") 1 n first (plain_clause last) → first ≤ most_variables → FinishesAll (shared arms) arms (map plain_clause cs) → all ≡ cs ++ last ∷ [] → whole ≡ c.case_of x (plain_clauses all) →
      IsCaseOf texts x arms n first whole
  chosen last cs all is_last in_range finished pushed is = record {
    last = plain_clause last;
    made = map plain_clause cs;
    is_last = is_last;
    in_range = in_range;
    finished = finished;
    is = is ∙ ap (λ l. c.case_of x (clauses l)) (ap (map plain_clause) pushed ∙ map-append plain_clause cs (last ∷ []));
  }

  -- with the names behind it
  pub makes_case : {env env1 : List Bind} {old new : List StepTree} {m : ℕ} {e : CoreTree} (bs : List Bind) → bs ≡ shared arms → IsCaseOf texts x arms n first whole → LeavesNames bs whole first env old m env1 new e → MakesCase texts x arms n env old m env1 new e
  makes_case {env} {env1} {old} {new} {m} {e} [] same is_case leaves = inr (record {
    none = sym same;
    is_case = subst (λ k. IsCaseOf texts x arms n k e) (sym leaves.1) (subst (IsCaseOf texts x arms n first) (sym leaves.0) is_case);
    bound = leaves.2;
    steps = leaves.3;
  })
  makes_case {env} {env1} {old} {new} {m} {e} (b ∷ bs) same is_case leaves = inl (record {
    some = subst (λ l. 1 ≤ length l) same (omega arith);
    first = first;
    whole = whole;
    is_case = is_case;
    puts = subst (λ l. PutsNamed l whole first env old m env1 new e) same leaves;
  })
