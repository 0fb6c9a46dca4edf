-- The lists in a tree: the pieces of their elements, and the names in them.
use Rattle.std.proofs.Common.{◌≡◌, List, [], ◌∷◌, ◌++◌, length, map, refl, ap, append_assoc}
use Rattle.std.specs.Prelude.{flat_map}
use Rattle.ef_base.specs.Texts.{Texts}
use Rattle.ef_core.specs.declared.lexeme.Symbol.TheVariants.{Comma, Arrow}
use Rattle.ef_core.specs.declared.lexeme.Word.TheVariants.{Try, Of, Catch}
use Rattle.ef_core.specs.declared.literal.CoreVar.{CoreVar}
use Rattle.ef_core.specs.declared.literal.CoreLit.{CoreLit}
use Rattle.ef_core.specs.declared.literal.FName.{FName}
use Rattle.ef_core.specs.declared.module.CoreAttribute.{CoreAttribute}
use Rattle.ef_core.specs.declared.tree.CoreExpr.{CoreExpr}
use Rattle.ef_core.specs.declared.tree.CorePat.{CorePat}
use Rattle.ef_core.specs.declared.tree.CoreClause.{CoreClause}
use Rattle.ef_core.specs.declared.tree.CoreDef.{CoreDef}
use Rattle.ef_core.specs.declared.tree.CoreSegment.{CoreSegment}
use Rattle.ef_core.specs.declared.tree.CorePatSegment.{CorePatSegment}
use Rattle.ef_core.specs.declared.tree.LetStep.{LetStep}
use Rattle.ef_core.specs.Everywhere.{Each, LitsHold, ClausesHold, PatHolds, PatsHold}
use Rattle.ef_core.specs.Layout.{var_pieces, vars_pieces, var_list, fname_pieces, lit_pieces, more_lits_pieces, in_angles, pieces, all_pieces, more_pieces, values_pieces, let_of, steps_pieces, def_of, defs_pieces, clause_of, clauses_pieces, segment_of, more_segments_pieces, pat_pieces, all_pat_pieces, more_pat_pieces, pats_pieces, more_pat_segments_pieces, attribute_pieces, def_pieces}
use Rattle.ef_core.specs.OfTable.{of_table, VarOf, FNameOf, LitOf, CoreOf, CoresOf, StepsOf, DefOf, AttributeOf}
use Rattle.ef_core.specs.Pieces.{Piece, put_sym, put_word}
use Rattle.ef_core.specs.Plain.{plain_lit, plain_lits, plain, plain_all, plain_pat, plain_pats, plain_steps, plain_def, plain_defs, plain_clauses, plain_segments, plain_pat_segments, plain_attribute}
use Rattle.ef_core.specs.Tree.{CoreTree, bin, letrec, try_catch, pat_bin}
use Rattle.ef_print.proofs.Lists.{Row}

-- with a comma before each
abbrev pub after_commas : {A : Type 0} → (A → List Piece) → (A → Type 0) → Row A
after_commas f P = record {
  one = λ x. put_sym Comma ++ f x;
  all = flat_map (λ x. put_sym Comma ++ f x);
  Named = P;
  AllNamed = Each P;
  empty_is = refl;
  next_is = λ x xs. refl;
  next_named = λ x xs all. all;
}

module _ (names : Texts) where
  abbrev pub more_vars : Row CoreVar
  more_vars = after_commas (var_pieces names) (VarOf names)

  abbrev pub more_fnames : Row FName
  more_fnames = after_commas (fname_pieces names) (FNameOf names)

  abbrev pub more_lits : Row CoreLit
  more_lits = record {
    one = λ l. put_sym Comma ++ lit_pieces names (plain_lit l);
    all = λ ls. more_lits_pieces names (plain_lits ls);
    Named = λ l. LitOf names (plain_lit l);
    AllNamed = λ ls. LitsHold (of_table names) (plain_lits ls);
    empty_is = refl;
    next_is = λ l ls. refl;
    next_named = λ l ls all. all;
  }

  pub many_vars : (vs : List CoreVar) → (length vs ≡ 1 → ⊥) → in_angles (var_list names vs) ≡ vars_pieces names vs
  many_vars [] many = refl
  many_vars (v ∷ []) many = absurd (many refl)
  many_vars (v ∷ w ∷ vs) many = refl

  -- ---- expressions

  abbrev pub more_exprs : Row CoreExpr
  more_exprs = record {
    one = λ e. put_sym Comma ++ pieces names (plain e);
    all = λ es. more_pieces names (plain_all es);
    Named = λ e. CoreOf names (plain e);
    AllNamed = λ es. CoresOf names (plain_all es);
    empty_is = refl;
    next_is = λ e es. refl;
    next_named = λ e es all. all;
  }

  pub many_values : (es : List CoreExpr) → (length es ≡ 1 → ⊥) → in_angles (all_pieces names (plain_all es)) ≡ values_pieces names (plain_all es)
  many_values [] many = refl
  many_values (e ∷ []) many = absurd (many refl)
  many_values (e ∷ f ∷ es) many = refl

  abbrev pub all_steps : Row LetStep
  all_steps = record {
    one = λ s. let_of names s.vars.items (pieces names (plain s.value));
    all = λ ss. steps_pieces names (plain_steps ss);
    Named = λ s. Each (VarOf names) s.vars.items × CoreOf names (plain s.value);
    AllNamed = λ ss. StepsOf names (plain_steps ss);
    empty_is = refl;
    next_is = λ s ss. refl;
    next_named = λ s ss all. ((all.0, all.1), all.2);
  }

  abbrev pub all_defs : Row CoreDef
  all_defs = record {
    one = λ d. def_of names d.name d.params.items (pieces names (plain d.body));
    all = λ ds. defs_pieces names (plain_defs ds);
    Named = λ d. DefOf names (plain_def d);
    AllNamed = λ ds. Each (DefOf names) (map plain_def ds);
    empty_is = refl;
    next_is = λ d ds. refl;
    next_named = λ d ds all. all;
  }

  pub letrec_named : (ds : List CoreDef) (e : CoreTree) → CoreOf names (letrec (plain_defs ds) e) → Each (DefOf names) (map plain_def ds)
  letrec_named [] e all = tt
  letrec_named (d ∷ ds) e all = ((all.0.0, (all.1.0, all.1.1)), letrec_named ds e (all.0.1, all.1.2, all.2))

  abbrev pub all_clauses : Row CoreClause
  all_clauses = record {
    one = λ c. clause_of names (pats_pieces names (plain_pats c.pats.items)) (pieces names (plain c.guard)) (pieces names (plain c.body));
    all = λ cs. clauses_pieces names (plain_clauses cs);
    Named = λ c. PatsHold (of_table names) (plain_pats c.pats.items) × CoreOf names (plain c.guard) × CoreOf names (plain c.body);
    AllNamed = λ cs. ClausesHold (of_table names) (plain_clauses cs);
    empty_is = refl;
    next_is = λ c cs. refl;
    next_named = λ c cs all. ((all.0, all.1, all.2), all.3);
  }

  -- the branches of a `try`, one behind the other
  pub two_branches : (a : CoreTree) (vs : List CoreVar) (b : CoreTree) (ws : List CoreVar) (h : CoreTree) → put_word Try ++ (pieces names a ++ (put_word Of ++ (vars_pieces names vs ++ (put_sym Arrow ++ pieces names b)) ++ (put_word Catch ++ (vars_pieces names ws ++ (put_sym Arrow ++ pieces names h))))) ≡ pieces names (try_catch a vs b ws h)
  two_branches a vs b ws h =
      ap (λ ps. put_word Try ++ (pieces names a ++ (put_word Of ++ ps)))
      (append_assoc (vars_pieces names vs) (put_sym Arrow ++ pieces names b) (put_word Catch ++ (vars_pieces names ws ++ (put_sym Arrow ++ pieces names h))))

  abbrev pub more_segments : Row CoreSegment
  more_segments = record {
    one = λ s. put_sym Comma ++ segment_of names (pieces names (plain s.value)) (pieces names (plain s.size)) s.unit s.kind (plain_lit s.flags);
    all = λ ss. more_segments_pieces names (plain_segments ss);
    Named = λ s. CoreOf names (bin (plain_segments (s ∷ [])));
    AllNamed = λ ss. CoreOf names (bin (plain_segments ss));
    empty_is = refl;
    next_is = λ s ss. refl;
    next_named = λ s ss all. (((all.0.0, tt), (all.1.0, all.1.1, all.1.2, tt)), (all.0.1, all.1.3));
  }

  -- ---- patterns

  abbrev pub more_pats : Row CorePat
  more_pats = record {
    one = λ p. put_sym Comma ++ pat_pieces names (plain_pat p);
    all = λ ps. more_pat_pieces names (plain_pats ps);
    Named = λ p. PatHolds (of_table names) (plain_pat p);
    AllNamed = λ ps. PatsHold (of_table names) (plain_pats ps);
    empty_is = refl;
    next_is = λ p ps. refl;
    next_named = λ p ps all. all;
  }

  pub many_pats : (ps : List CorePat) → (length ps ≡ 1 → ⊥) → in_angles (all_pat_pieces names (plain_pats ps)) ≡ pats_pieces names (plain_pats ps)
  many_pats [] many = refl
  many_pats (p ∷ []) many = absurd (many refl)
  many_pats (p ∷ q ∷ ps) many = refl

  abbrev pub more_pat_segments : Row CorePatSegment
  more_pat_segments = record {
    one = λ s. put_sym Comma ++ segment_of names (pat_pieces names (plain_pat s.value)) (pieces names (plain s.size)) s.unit s.kind (plain_lit s.flags);
    all = λ ss. more_pat_segments_pieces names (plain_pat_segments ss);
    Named = λ s. PatHolds (of_table names) (pat_bin (plain_pat_segments (s ∷ [])));
    AllNamed = λ ss. PatHolds (of_table names) (pat_bin (plain_pat_segments ss));
    empty_is = refl;
    next_is = λ s ss. refl;
    next_named = λ s ss all. (((all.0.0, tt), (all.1.0, all.1.1, all.1.2, tt)), (all.0.1, all.1.3));
  }

  -- ---- modules

  abbrev pub more_attributes : Row CoreAttribute
  more_attributes = record {
    one = λ a. put_sym Comma ++ attribute_pieces names (plain_attribute a);
    all = λ l. flat_map (λ a. put_sym Comma ++ attribute_pieces names a) (map plain_attribute l);
    Named = λ a. AttributeOf names (plain_attribute a);
    AllNamed = λ l. Each (AttributeOf names) (map plain_attribute l);
    empty_is = refl;
    next_is = λ a l. refl;
    next_named = λ a l all. all;
  }

  abbrev pub functions : Row CoreDef
  functions = record {
    one = λ d. def_pieces names (plain_def d);
    all = λ ds. flat_map (def_pieces names) (map plain_def ds);
    Named = λ d. DefOf names (plain_def d);
    AllNamed = λ ds. Each (DefOf names) (map plain_def ds);
    empty_is = refl;
    next_is = λ d ds. refl;
    next_named = λ d ds all. all;
  }
