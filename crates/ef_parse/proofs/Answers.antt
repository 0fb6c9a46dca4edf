-- What is spelled, by the one value that the tokens make.
use Rattle.std.proofs.Common.{◌≡◌, ◌⊎◌, inl, inr, Bool, true, false, List, refl, sym, ap, ◌∙◌, subst, subst₂, Option, Some, None}
use Rattle.ef_base.specs.declared.fault.Fault.{Fault}
use Rattle.ef_base.specs.declared.fault.Refusal.{Refusal}
use Rattle.ef_base.specs.declared.fault.Refusal.TheVariants.{Faulty}
use Rattle.ef_base.specs.NamedFaults as fault
use Rattle.ef_base.specs.Texts.{Texts, Extends}
use Rattle.ef_token.specs.declared.token.Token.{Token}
use Rattle.ef_token.specs.TokenForm.{TokensOf}
use Rattle.ef_forms.specs.declared.form.Form.{Form}
use Rattle.ef_forms.specs.OfTable.{TreeOf, ClausesOf, FormOf}
use Rattle.ef_forms.specs.Tree as t
use Rattle.ef_forms.specs.Tree.{Tree, FormTree}
use Rattle.ef_forms.specs.Plain as p
use Rattle.ef_forms.specs.Plain.{plain, plain_form, plain_clauses}
use Rattle.ef_build.specs.declared.value.Clauses.{Clauses as TheClauses}
use Rattle.ef_build.specs.declared.value.Operand.{Operand as TheOperand}
use Rattle.ef_build.specs.Values as v
use Rattle.ef_build.specs.Values.{Value, operand, clauses, form, operand_of, clauses_of, value}
use Rattle.ef_rows.specs.declared.single.Single.{Single}
use Rattle.ef_rows.specs.declared.single.Start.TheVariants as start_is
use Rattle.ef_rows.specs.Makes.{IsSingle, Makes}
use Rattle.ef_rows.proofs.Renamed.{tree_made, clauses_made, form_made, tokens_later}
use Rattle.ef_parse.specs.declared.spelled.FormKind.{FormKind}
use Rattle.ef_parse.specs.Spelled.{start_of, as_operand, as_clauses, as_form, start_for, IsExpression, IsDeepExpression, IsNoShallowExpression, IsNoExpression, IsExpressionRefused, AreClauses, AreDeepClauses, AreNoShallowClauses, AreNoClauses, AreClausesRefused, IsForm, IsDeepForm, IsNoForm, IsNoShallowForm}

operand_there : (w : Value) (x : v.Operand) → as_operand w ≡ Some x → w ≡ operand x
operand_there (operand y) x e = cc
operand_there _ x e = absurd (cc)

clauses_there : (w : Value) (x : v.Clauses) → as_clauses w ≡ Some x → w ≡ clauses x
clauses_there (clauses y) x e = cc
clauses_there _ x e = absurd (cc)

form_there : (w : Value) (x : FormTree) → as_form w ≡ Some x → w ≡ form x
form_there (form y) x e = cc
form_there _ x e = absurd (cc)

some_same : {X : Type 0} {x y : X} → Some x ≡ Some y → x ≡ y
some_same e = cc

some_none : {X : Type 0} {x : X} → Some x ≡ None → ⊥
some_none e = cc

true_false : true ≡ false → ⊥
true_false e = cc

module _ (all : Texts) (ts : List Token) (single : Single) (h : IsSingle all start_is.Expression ts (Some single)) where
  pub expression : (x : TheOperand) → as_operand (value single.value) ≡ Some (operand_of x) → single.deep ≡ false → IsExpression all (plain x.expr) ts
  expression x is flat = record {
    spelled = (operand_of x, single.faults.items, refl, subst₂ (λ (w : Value) (deep : Bool). Makes all start_is.Expression ts w single.faults.items deep) (operand_there (value single.value) (operand_of x) is) flat h.0);
    alone = λ other m. sym m.2 ∙ ap (λ (y : v.Operand). y.tree) (some_same (ap as_operand (h.1 (operand m.0) m.1 false m.3).0 ∙ is));
    shallow = λ m. true_false ((h.1 (operand m.0) m.1 true m.2).2 ∙ flat);
  }

  pub expression_too_deep : (x : TheOperand) → as_operand (value single.value) ≡ Some (operand_of x) → single.deep ≡ true → IsDeepExpression all ts × IsNoShallowExpression all ts
  expression_too_deep x is deep = (
    (operand_of x, single.faults.items, subst₂ (λ (w : Value) (deep : Bool). Makes all start_is.Expression ts w single.faults.items deep) (operand_there (value single.value) (operand_of x) is) deep h.0),
    λ e m. true_false (sym deep ∙ sym (h.1 (operand m.0) m.1 false m.3).2),
  )

  pub no_expression : as_operand (value single.value) ≡ None → IsNoExpression all ts
  no_expression is y faults deep m = some_none (ap as_operand (h.1 (operand y) faults deep m).0 ∙ is)

pub no_expression_at_all : (all : Texts) (ts : List Token) → IsSingle all start_is.Expression ts None → IsNoExpression all ts
no_expression_at_all all ts h y faults deep m = h (operand y) faults deep m

module _ (all : Texts) (ts : List Token) (single : Single) (h : IsSingle all start_is.Clauses ts (Some single)) where
  pub clauses_of_function : (x : TheClauses) → as_clauses (value single.value) ≡ Some (clauses_of x) → single.deep ≡ false → AreClauses all (plain_clauses x.clauses.items) ts
  clauses_of_function x is flat = record {
    spelled = (clauses_of x, single.faults.items, refl, subst₂ (λ (w : Value) (deep : Bool). Makes all start_is.Clauses ts w single.faults.items deep) (clauses_there (value single.value) (clauses_of x) is) flat h.0);
    alone = λ other m. sym m.2 ∙ ap (λ (y : v.Clauses). p.clauses y.clauses) (some_same (ap as_clauses (h.1 (clauses m.0) m.1 false m.3).0 ∙ is));
    shallow = λ m. true_false ((h.1 (clauses m.0) m.1 true m.2).2 ∙ flat);
  }

  pub clauses_of_function_too_deep : (x : TheClauses) → as_clauses (value single.value) ≡ Some (clauses_of x) → single.deep ≡ true → AreDeepClauses all ts × AreNoShallowClauses all ts
  clauses_of_function_too_deep x is deep = (
    (clauses_of x, single.faults.items, subst₂ (λ (w : Value) (deep : Bool). Makes all start_is.Clauses ts w single.faults.items deep) (clauses_there (value single.value) (clauses_of x) is) deep h.0),
    λ cs m. true_false (sym deep ∙ sym (h.1 (clauses m.0) m.1 false m.3).2),
  )

  pub no_clauses_of_function : as_clauses (value single.value) ≡ None → AreNoClauses all ts
  no_clauses_of_function is y faults deep m = some_none (ap as_clauses (h.1 (clauses y) faults deep m).0 ∙ is)

pub no_clauses_of_function_at_all : (all : Texts) (ts : List Token) → IsSingle all start_is.Clauses ts None → AreNoClauses all ts
no_clauses_of_function_at_all all ts h y faults deep m = h (clauses y) faults deep m

module _ (all : Texts) (k : FormKind) (ts : List Token) (single : Single) (h : IsSingle all (start_for k) ts (Some single)) where
  pub spelled_form : (f : Form) → as_form (value single.value) ≡ Some (plain_form f) → single.deep ≡ false → IsForm all k (plain_form f) single.faults.items ts
  spelled_form f is flat = record {
    spelled = subst₂ (λ (w : Value) (deep : Bool). Makes all (start_for k) ts w single.faults.items deep) (form_there (value single.value) (plain_form f) is) flat h.0;
    alone = λ other others m. (some_same (ap as_form (h.1 (form other) others false m).0 ∙ is), (h.1 (form other) others false m).1);
    shallow = λ m. true_false ((h.1 (form m.0) m.1 true m.2).2 ∙ flat);
  }

  pub deep_form : (f : Form) → as_form (value single.value) ≡ Some (plain_form f) → single.deep ≡ true → IsDeepForm all k ts × IsNoShallowForm all k ts
  deep_form f is deep = (
    (plain_form f, single.faults.items, subst₂ (λ (w : Value) (deep : Bool). Makes all (start_for k) ts w single.faults.items deep) (form_there (value single.value) (plain_form f) is) deep h.0),
    λ g heads m. true_false (sym deep ∙ sym (h.1 (form g) heads false m).2),
  )

  pub no_form : as_form (value single.value) ≡ None → IsNoForm all k ts
  no_form is f faults deep m = some_none (ap as_form (h.1 (form f) faults deep m).0 ∙ is)

pub no_form_at_all : (all : Texts) (k : FormKind) (ts : List Token) → IsSingle all (start_for k) ts None → IsNoForm all k ts
no_form_at_all all k ts h f faults deep m = h (form f) faults deep m

-- ---- what is refused

module _ (all : Texts) (ts : List Token) (r : Refusal) where
  pub expression_unspelled : r ≡ Faulty (fault.syntax_error (start_of ts)) → IsNoExpression all ts → IsExpressionRefused all ts r
  expression_unspelled is none = subst (IsExpressionRefused all ts) (sym is) (inl (refl, none))

  pub expression_deep : r ≡ Faulty (fault.too_deep (start_of ts)) → IsDeepExpression all ts × IsNoShallowExpression all ts → IsExpressionRefused all ts r
  expression_deep is deep = subst (IsExpressionRefused all ts) (sym is) (inr (refl, deep.0, deep.1))

  pub clauses_unspelled : r ≡ Faulty (fault.syntax_error (start_of ts)) → AreNoClauses all ts → AreClausesRefused all ts r
  clauses_unspelled is none = subst (AreClausesRefused all ts) (sym is) (inl (refl, none))

  pub clauses_deep : r ≡ Faulty (fault.too_deep (start_of ts)) → AreDeepClauses all ts × AreNoShallowClauses all ts → AreClausesRefused all ts r
  clauses_deep is deep = subst (AreClausesRefused all ts) (sym is) (inr (refl, deep.0, deep.1))

-- ---- the names of what is spelled

pub expression_of_table : (now all : Texts) (ts : List Token) (e : Tree) → TokensOf now ts → Extends now all → IsExpression all e ts → TreeOf all e
expression_of_table now all ts e named ext is =
    subst (TreeOf all) is.spelled.2 (tree_made all start_is.Expression ts is.spelled.0 is.spelled.1 false (tokens_later now all ts named ext) is.spelled.3)

pub clauses_of_table : (now all : Texts) (ts : List Token) (cs : t.Clauses) → TokensOf now ts → Extends now all → AreClauses all cs ts → ClausesOf all cs
clauses_of_table now all ts cs named ext is =
    subst (ClausesOf all) is.spelled.2 (clauses_made all start_is.Clauses ts is.spelled.0 is.spelled.1 false (tokens_later now all ts named ext) is.spelled.3)

pub form_of_table : (now all : Texts) (k : FormKind) (ts : List Token) (f : FormTree) (faults : List Fault) → TokensOf now ts → Extends now all → IsForm all k f faults ts → FormOf all f
form_of_table now all k ts f faults named ext is = form_made all (start_for k) ts f faults false (tokens_later now all ts named ext) is.spelled
