-- Tokens under other names spell the renamed trees and nothing else, and what is spelled has no names but those of the table.
use Rattle.std.proofs.Common.{◌≡◌, List, [], ◌∷◌, true, false, refl, ap, ◌∙◌, subst, map}
use Rattle.ef_base.specs.declared.fault.Fault.{Fault}
use Rattle.ef_base.specs.declared.name.Name.{Name}
use Rattle.ef_base.specs.Texts.{Texts}
use Rattle.ef_token.specs.declared.token.Token.{Token}
use Rattle.ef_token.specs.TokenForm.{TokensOf}
use Rattle.ef_forms.specs.Tree as t
use Rattle.ef_forms.specs.Tree.{Tree, FormTree}
use Rattle.ef_forms.specs.OfTable.{TreeOf, ClausesOf, FormOf}
use Rattle.ef_forms.proofs.Renamed as tr
use Rattle.ef_forms.proofs.Renamed.{renamed_tree, renamed_form, clauses_stay}
use Rattle.ef_build.specs.Values.{Operand, Clauses, Value, operand, clauses, form}
use Rattle.ef_build.proofs.Renamed.{renamed_operand, renamed_clauses, renamed_value}
pub use Rattle.ef_build.proofs.RenamedTokens.{renamed_kind, renamed_token}
use Rattle.ef_rows.specs.declared.single.Start.TheVariants as start_is
use Rattle.ef_rows.specs.Makes.{Makes}
pub use Rattle.ef_rows.proofs.Renamed.{Renames}
use Rattle.ef_rows.proofs.Renamed.{makes_renamed, makes_back, tree_made, clauses_made, form_made}
pub use Rattle.ef_rows.proofs.TwoTables.{renaming, renaming_renames, IsRenamed, tokens_alike, AreRenamed, forms_alike}
use Rattle.ef_parse.specs.declared.spelled.FormKind.{FormKind}
use Rattle.ef_parse.specs.Spelled.{start_for, SpellsExpression, IsDeepExpression, IsNoExpression, SpellsClauses, AreDeepClauses, AreNoClauses, SpellsForm, IsDeepForm, IsNoForm}

module _ (r : Name → Name) where
  operand_left : (x : Operand) (v : Value) → operand x ≡ renamed_value r v → (y : Operand) × (v ≡ operand y)
  operand_left x (operand y) e = (y, refl)
  operand_left x _ e = absurd (cc)

  clauses_left : (x : Clauses) (v : Value) → clauses x ≡ renamed_value r v → (y : Clauses) × (v ≡ clauses y)
  clauses_left x (clauses y) e = (y, refl)
  clauses_left x _ e = absurd (cc)

  form_left : (f : FormTree) (v : Value) → form f ≡ renamed_value r v → (g : FormTree) × (v ≡ form g)
  form_left f (form g) e = (g, refl)
  form_left f _ e = absurd (cc)

module _ (new old : Texts) (r : Name → Name) (renames : Renames new old r) (ts : List Token) (named : TokensOf new (map (renamed_token r) ts)) where
  -- ---- expressions

  pub spells_expression : (e : Tree) → SpellsExpression old e ts → SpellsExpression new (renamed_tree r e) (map (renamed_token r) ts)
  spells_expression e s =
      (renamed_operand r s.0, s.1, ap (renamed_tree r) s.2, makes_renamed new old r renames start_is.Expression ts (operand s.0) s.1 false named s.3)

  pub deep_expression : IsDeepExpression old ts → IsDeepExpression new (map (renamed_token r) ts)
  deep_expression d = (renamed_operand r d.0, d.1, makes_renamed new old r renames start_is.Expression ts (operand d.0) d.1 true named d.2)

  pub no_expression : IsNoExpression old ts → IsNoExpression new (map (renamed_token r) ts)
  no_expression none x faults deep m =
      let back = makes_back new old r renames start_is.Expression ts (operand x) faults deep named m in
      let left = operand_left r x back.0 back.1 in
      none left.0 faults deep (subst (λ v. Makes old start_is.Expression ts v faults deep) left.1 back.2)

  -- ---- clauses

  pub spells_clauses : (cs : t.Clauses) → SpellsClauses old cs ts → SpellsClauses new (tr.renamed_clauses r cs) (map (renamed_token r) ts)
  spells_clauses cs s = (
    renamed_clauses r s.0,
    s.1,
    clauses_stay r (let x : Clauses = s.0 in x.clauses) ∙ ap (tr.renamed_clauses r) s.2,
    makes_renamed new old r renames start_is.Clauses ts (clauses s.0) s.1 false named s.3,
  )

  pub deep_clauses : AreDeepClauses old ts → AreDeepClauses new (map (renamed_token r) ts)
  deep_clauses d = (renamed_clauses r d.0, d.1, makes_renamed new old r renames start_is.Clauses ts (clauses d.0) d.1 true named d.2)

  pub no_clauses : AreNoClauses old ts → AreNoClauses new (map (renamed_token r) ts)
  no_clauses none x faults deep m =
      let back = makes_back new old r renames start_is.Clauses ts (clauses x) faults deep named m in
      let left = clauses_left r x back.0 back.1 in
      none left.0 faults deep (subst (λ v. Makes old start_is.Clauses ts v faults deep) left.1 back.2)

  -- ---- forms

  pub spells_form : (k : FormKind) (f : FormTree) (faults : List Fault) → SpellsForm old k f faults ts → SpellsForm new k (renamed_form r f) faults (map (renamed_token r) ts)
  spells_form k f faults s = makes_renamed new old r renames (start_for k) ts (form f) faults false named s

  pub deep_form : (k : FormKind) → IsDeepForm old k ts → IsDeepForm new k (map (renamed_token r) ts)
  deep_form k d = (renamed_form r d.0, d.1, makes_renamed new old r renames (start_for k) ts (form d.0) d.1 true named d.2)

  pub no_form : (k : FormKind) → IsNoForm old k ts → IsNoForm new k (map (renamed_token r) ts)
  no_form k none f faults deep m =
      let back = makes_back new old r renames (start_for k) ts (form f) faults deep named m in
      let left = form_left r f back.0 back.1 in
      none left.0 faults deep (subst (λ v. Makes old (start_for k) ts v faults deep) left.1 back.2)

-- ---- no names but those of the table

module _ (all : Texts) (ts : List Token) (named : TokensOf all ts) where
  pub expression_of_table : (e : Tree) → SpellsExpression all e ts → TreeOf all e
  expression_of_table e s = subst (TreeOf all) s.2 (tree_made all start_is.Expression ts s.0 s.1 false named s.3)

  pub clauses_of_table : (cs : t.Clauses) → SpellsClauses all cs ts → ClausesOf all cs
  clauses_of_table cs s = subst (ClausesOf all) s.2 (clauses_made all start_is.Clauses ts s.0 s.1 false named s.3)

  pub form_of_table : (k : FormKind) (f : FormTree) (faults : List Fault) → SpellsForm all k f faults ts → FormOf all f
  form_of_table k f faults s = form_made all (start_for k) ts f faults false named s
