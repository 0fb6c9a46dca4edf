-- Actions that make forms do the same under other names.
use Rattle.std.proofs.Common.{List, Some, None, refl, map}
use Rattle.std.specs.Option.{option_map}
use Rattle.ef_base.specs.declared.name.Name.{Name}
use Rattle.ef_forms.specs.Plain.{ClauseTree}
use Rattle.ef_forms.proofs.Renamed.{renamed_clause, renamed_reference, renamed_field_tree, clauses_stay}
use Rattle.ef_build.specs.declared.value.Head.{Head}
use Rattle.ef_build.specs.Expressions.{arity_of}
use Rattle.ef_build.specs.Forms.{function_of, function, no_references, reference, no_definitions, definition, definition_with, module_name, export, import, record_of, dropped, attribute}
use Rattle.ef_build.proofs.Tops.{map_more}
use Rattle.ef_build.proofs.Renamed.{renamed_head}
use Rattle.ef_build.proofs.RenamedStack.{Stays, given_stays, given_are, at_taken, operator_taken, leaf_taken, operand_taken, clauses_taken, definitions_taken, references_taken, atom_taken}
use Rattle.ef_build.proofs.RenamedExpressions.{number_in_stays}

module _ (r : Name → Name) where
  function_of_stays : (h : Head) (cs : List ClauseTree) → Stays r (function_of (renamed_head r h) (map (renamed_clause r) cs)) (function_of h cs)
  function_of_stays h cs = given_stays r r (option_map r h.name) h.name _ _ refl (λ n s. rw (clauses_stay r cs) refl)

  pub function_stays : Stays r function function
  function_stays = clauses_taken r _ _ (λ cs. given_stays r (renamed_head r) (option_map (renamed_head r) cs.first) cs.first _ _ refl (λ h. function_of_stays h cs.clauses))

  -- ---- attributes

  pub no_references_stays : Stays r no_references no_references
  no_references_stays s = refl

  pub reference_stays : Stays r reference reference
  reference_stays =
      leaf_taken r _ _ (λ a. operator_taken r _ _ (λ o. atom_taken r _ _ (λ n. references_taken r _ _ (λ fs. given_are r _ _ _ _ (number_in_stays r a.0) (λ i s.
      rw (map_more (renamed_reference r) fs (record { place = n.1; name = n.0; arity = arity_of i })) refl)))))

  pub no_definitions_stays : Stays r no_definitions no_definitions
  no_definitions_stays s = refl

  pub definition_stays : Stays r definition definition
  definition_stays = atom_taken r _ _ (λ n. definitions_taken r _ _ (λ ds s. rw (map_more (renamed_field_tree r) ds (record { place = n.1; name = n.0; default = None })) refl))

  pub definition_with_stays : Stays r definition_with definition_with
  definition_with_stays =
      operand_taken r _ _ (λ x. atom_taken r _ _ (λ n. definitions_taken r _ _ (λ ds s. rw (map_more (renamed_field_tree r) ds (record { place = n.1; name = n.0; default = Some x.tree })) refl)))

  pub module_name_stays : Stays r module_name module_name
  module_name_stays = atom_taken r _ _ (λ n. at_taken r _ _ (λ q. atom_taken r _ _ (λ w. operator_taken r _ _ (λ o s. refl))))

  pub export_stays : Stays r export export
  export_stays = references_taken r _ _ (λ fs. at_taken r _ _ (λ q. at_taken r _ _ (λ p. atom_taken r _ _ (λ w. operator_taken r _ _ (λ o s. refl)))))

  pub import_stays : Stays r import import
  import_stays = references_taken r _ _ (λ fs. at_taken r _ _ (λ q. atom_taken r _ _ (λ n. at_taken r _ _ (λ p. atom_taken r _ _ (λ w. operator_taken r _ _ (λ o s. refl))))))

  pub record_of_stays : Stays r record_of record_of
  record_of_stays = definitions_taken r _ _ (λ ds. at_taken r _ _ (λ q. atom_taken r _ _ (λ n. at_taken r _ _ (λ p. atom_taken r _ _ (λ w. operator_taken r _ _ (λ o s. refl))))))

  pub dropped_stays : Stays r dropped dropped
  dropped_stays = atom_taken r _ _ (λ w. operator_taken r _ _ (λ o s. refl))

  pub attribute_stays : Stays r attribute attribute
  attribute_stays = operand_taken r _ _ (λ x. at_taken r _ _ (λ q. atom_taken r _ _ (λ w. operator_taken r _ _ (λ o s. refl))))
