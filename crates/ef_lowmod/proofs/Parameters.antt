-- Functions of one clause, whose parameters are variables or `_`.
use Rattle.std.proofs.Common.{◌≡◌, ◌≤◌, ◌<◌, ◌+◌, ℕ, zero, suc, ◌||◌, ◌==◌, List, [], ◌∷◌, ◌++◌, length, get_or, take, Some, None, refl, sym, ap, ◌∙◌, subst, append_assoc, append-nil, add-one, arith}
use Rattle.std.proofs.Math.Seq.{get_or-append_seam, take-append_seam}
use Rattle.std.proofs.lemmas.List.{get_or_default}
use Rattle.ef_base.specs.declared.name.Name.{Name}
use Rattle.ef_base.specs.declared.fault.Place.{Place}
use Rattle.ef_base.specs.Texts.{Texts}
use Rattle.ef_core.specs.declared.env.Bind.{Bind}
use Rattle.ef_core.specs.declared.literal.CoreVar.{CoreVar}
use Rattle.ef_core.specs.declared.literal.CoreVar.TheVariants.{Numbered}
use Rattle.ef_core.specs.Env.{NamesDiffer, bind, held}
use Rattle.ef_core.specs.Everywhere.{Each}
use Rattle.ef_core.specs.Fresh.{variables_from}
use Rattle.ef_core.specs.Tree.{CoreTree}
use Rattle.ef_core.proofs.Held.{held_before}
use Rattle.ef_core.proofs.HoldsLaws.{each_append}
use Rattle.ef_forms.specs.declared.expr.Expr.{Expr}
use Rattle.ef_forms.specs.Plain.{plain, plain_all, trees}
use Rattle.ef_forms.specs.Tree.{Tree, Trees, tree, var, any, end, more, clause, no_clauses, no_guard, count}
use Rattle.ef_forms.specs.Ways.{all_names}
use Rattle.ef_lower.proofs.Numbered.{numbered_count}
use Rattle.ef_lowmod.specs.Parameters.{AreParameters, IsParameter, own_name, own_names}
use Rattle.ef_meaning.specs.Value.{Value, values_of, with_some}
use Rattle.ef_meaning.specs.Exception.{Error, function_clause}
use Rattle.ef_meaning.specs.End.{Gives, Raises, and_then}
use Rattle.ef_meaning.specs.Match.{Bindings, match_all, match_name, match_values}
use Rattle.ef_meaning.specs.Named.{bound_names}
use Rattle.ef_meaning.specs.Source as source
use Rattle.ef_meaning.specs.Source.{by_clauses}
use Rattle.ef_meaning.specs.Core as core
use Rattle.ef_meaning.specs.Core.{Vars}
use Rattle.ef_meaning.specs.Lowers.{AreBelow, Describes, Exports, IsBelow, KeepsBody, KeepsFunction, Related, SameValue}
use Rattle.ef_meaning.proofs.Bodies.{below_push, clause_keeps, describes_push, not_bound, one_export}
use Rattle.ef_meaning.proofs.Simulate.{keeps_same, map_keeps}
use Rattle.ef_meaning.proofs.Steps.{eval_steady}
use Rattle.ef_meaning.proofs.Variables.{are_below_more, describes_more}

-- ---- the names of parameters

first_name : (P : CoreVar → Type 0) (e : Tree) (y : CoreVar) → P y → Each (λ (b : Bind). P b.var) (own_name e y)
first_name P (tree p (var n)) y is = (is, tt)
first_name P (tree p e) y is = tt

-- what holds of the parameters holds of the variables of their names
pub each_name : (P : CoreVar → Type 0) (ps : Trees) (ys : List CoreVar) → Each P ys → Each (λ (b : Bind). P b.var) (own_names ps ys)
each_name P end ys all = tt
each_name P (more e ps) [] all = tt
each_name P (more e ps) (y ∷ ys) all = each_append (λ (b : Bind). P b.var) (own_name e y) (own_names ps ys) (first_name P e y all.0) (each_name P ps ys all.1)

below_all : (n : ℕ) (bs : List Bind) → Each (λ (b : Bind). IsBelow n b.var) bs → AreBelow n bs
below_all n [] all = tt
below_all n (b ∷ bs) all = (all.0, below_all n bs all.1)

pub names_below : (n : ℕ) (ps : Trees) (ys : List CoreVar) → Each (IsBelow n) ys → AreBelow n (own_names ps ys)
names_below n ps ys all = below_all n (own_names ps ys) (each_name (IsBelow n) ps ys all)

pub names_bound : (ps : Trees) (ys : List CoreVar) (y : ℕ) → AreParameters ps → count ps ≤ length ys → bound_names (own_names ps ys) y ≡ all_names ps y
names_bound end ys y are few = refl
names_bound (more e ps) [] y are few = absurd (omega arith)
names_bound (more (tree p (var n)) ps) (v ∷ ys) y are few = ap (λ t. (n.index == y) || t) (names_bound ps ys y are.1 (omega arith))
names_bound (more (tree p any) ps) (v ∷ ys) y are few = names_bound ps ys y are.1 (omega arith)
names_bound (more (tree p e) ps) (v ∷ ys) y are few = absurd are.0

-- one more parameter
next_names : (es : List Expr) (ys : List CoreVar) (i : ℕ) (e : Expr) (y : CoreVar) → i < length es → e ≡ get_or es i e → i < length ys → y ≡ get_or ys i y → own_names (plain_all (take (suc i) es)) ys ≡ own_names (plain_all (take i es)) ys ++ own_name (plain e) y
next_names [] ys i e y small read less at = absurd (omega arith)
next_names (x ∷ es) [] i e y small read less at = absurd (omega arith)
next_names (x ∷ es) (z ∷ ys) zero e y small read less at = append-nil (own_name (plain x) z) ∙ (λ j. own_name (plain (sym read j)) (sym at j))
next_names (x ∷ es) (z ∷ ys) (suc i) e y small read less at =
    ap (λ l. own_name (plain x) z ++ l) (next_names es ys i e y (omega arith) read (omega arith) at)
    ∙ sym (append_assoc (own_name (plain x) z) (own_names (plain_all (take i es)) ys) (own_name (plain e) y))

names_more : (es : List Expr) (ys : List CoreVar) (i : ℕ) (e : Expr) (y : CoreVar) → i < length es → e ≡ get_or es i e → i < length ys → y ≡ get_or ys i y → own_names (plain_all (take (i + 1) es)) ys ≡ own_names (plain_all (take i es)) ys ++ own_name (plain e) y
names_more es ys i e y small read less at = ap (λ n. own_names (plain_all (take n es)) ys) (add-one i) ∙ next_names es ys i e y small read less at

next_parameter : (es : List Expr) (i : ℕ) (e : Expr) → i < length es → e ≡ get_or es i e → AreParameters (plain_all (take i es)) → IsParameter (plain e) → AreParameters (plain_all (take (suc i) es))
next_parameter [] i e small read are is = absurd (omega arith)
next_parameter (x ∷ es) zero e small read are is = (subst (λ z. IsParameter (plain z)) read is, tt)
next_parameter (x ∷ es) (suc i) e small read are is = (are.0, next_parameter es i e (omega arith) read are.1 is)

pub parameters_more : (es : List Expr) (i : ℕ) (e : Expr) → i < length es → e ≡ get_or es i e → AreParameters (plain_all (take i es)) → IsParameter (plain e) → AreParameters (plain_all (take (i + 1) es))
parameters_more es i e small read are is = subst (λ n. AreParameters (plain_all (take n es))) (sym (add-one i)) (next_parameter es i e small read are is)

-- a variable is one more name
pub name_pushed : (es : List Expr) (ys : List CoreVar) (i : ℕ) (e : Expr) (p : Place) (x : Name) (d : CoreVar) (env new : List Bind) → i < length es → e ≡ get_or es i e → i < length ys → plain e ≡ tree p (var x) → env ≡ own_names (plain_all (take i es)) ys → new ≡ env ++ bind x (get_or ys i d) ∷ [] → new ≡ own_names (plain_all (take (i + 1) es)) ys
name_pushed es ys i e p x d env new small read less is before pushed =
    let y = get_or ys i d in
    pushed ∙ ap (λ l. l ++ bind x y ∷ []) before ∙ ap (λ t. own_names (plain_all (take i es)) ys ++ own_name t y) (sym is) ∙ sym (names_more es ys i e y small read less (get_or_default ys i d y less))

-- and `_` is none
pub none_pushed : (es : List Expr) (ys : List CoreVar) (i : ℕ) (e : Expr) (p : Place) (env : List Bind) → i < length es → e ≡ get_or es i e → i < length ys → plain e ≡ tree p any → env ≡ own_names (plain_all (take i es)) ys → env ≡ own_names (plain_all (take (i + 1) es)) ys
none_pushed es [] i e p env small read less is before = absurd (omega arith)
none_pushed es (z ∷ ys) i e p env small read less is before =
    let y = get_or (z ∷ ys) i z in
    before ∙ sym (append-nil (own_names (plain_all (take i es)) (z ∷ ys))) ∙ ap (λ t. own_names (plain_all (take i es)) (z ∷ ys) ++ own_name t y) (sym is)
    ∙ sym (names_more es (z ∷ ys) i e y small read less (get_or_default (z ∷ ys) i z y less))

-- ---- what is kept

-- a name is none of those before it
free_before : (env rest : List Bind) (b : Bind) → NamesDiffer (env ++ b ∷ rest) → held env b.name ≡ None
free_before env rest b differ =
    let bs = env ++ b ∷ rest in
    subst (λ l. held l b.name ≡ None) (take-append_seam env (b ∷ rest))
    (subst (λ (x : Bind). held (take (length env) bs) x.name ≡ None) (get_or-append_seam env b rest b) (held_before bs (length env) b differ (within env)))
  where
    within : (env : List Bind) → length env < length (env ++ b ∷ rest)
    within [] = omega arith
    within (x ∷ env) = let more = within env in omega arith

-- parameters match any values of their number, and Core's variables take them
matched : (all : Texts) (n k : ℕ) (env : List Bind) (ps : Trees) (vs : List Value) (b : Bindings) (d : Vars) → AreParameters ps → count ps ≡ k → NamesDiffer (env ++ own_names ps (variables_from n k)) → AreBelow n env → Describes env b d → length vs ≡ k →
    (b1 : Bindings) × (d1 : Vars) × (match_all all ps vs b ≡ Some b1) × (core.bind (variables_from n k) vs d ≡ Some d1) × Describes (env ++ own_names ps (variables_from n k)) b1 d1
matched all n zero env end [] b d are number differ below q len = (b, d, refl, refl, subst (λ e. Describes e b d) (sym (append-nil env)) q)
matched all n zero env end (v ∷ vs) b d are number differ below q len = absurd (omega arith)
matched all n zero env (more e ps) vs b d are number differ below q len = absurd (omega arith)
matched all n (suc k) env end vs b d are number differ below q len = absurd (omega arith)
matched all n (suc k) env (more e ps) [] b d are number differ below q len = absurd (omega arith)
matched all n (suc k) env (more (tree p (var x)) ps) (v ∷ vs) b d are number differ below q len =
    let rest = own_names ps (variables_from (n + 1) k) in
    let here : Bind = bind x (Numbered n) in
    let free : held env x ≡ None = free_before env rest here differ in
    let seam : (env ++ here ∷ []) ++ rest ≡ env ++ here ∷ rest = append_assoc env (here ∷ []) rest in
    let next = matched all (n + 1) k (env ++ here ∷ []) ps vs ((x, v) ∷ b) ((Numbered n, v) ∷ d) are.1 (omega arith) (subst NamesDiffer (sym seam) differ)
    (below_push n env x below) (describes_push n env b d x v below free q) (omega arith) in (
      next.0,
      next.1,
      ◌∙◌ {c = Some next.0} (ap (λ o. with_some (match_name x o v b) (λ c. match_values all ps (values_of vs) c)) (not_bound env b d x q free)) next.2,
      next.3,
      subst (λ e. Describes e next.0 next.1) seam next.4,
    )
matched all n (suc k) env (more (tree p any) ps) (v ∷ vs) b d are number differ below q len =
    matched all (n + 1) k env ps vs b ((Numbered n, v) ∷ d) are.1 (omega arith) differ (are_below_more n (n + 1) env (omega arith) below) (describes_more n env b d v below q) (omega arith)
matched all n (suc k) env (more (tree p e) ps) (v ∷ vs) b d are number differ below q len = absurd are.0

-- a function of one clause, whose parameters are variables or `_`
pub parameters_keep : (now : Texts) (p : Place) (ps : Trees) (k : ℕ) (es : List Tree) (body : CoreTree) → AreParameters ps → count ps ≡ k → NamesDiffer (own_names ps (variables_from 0 k)) → KeepsBody now es (own_names ps (variables_from 0 k)) [] body →
    KeepsFunction now (by_clauses (clause p ps no_guard (trees es) no_clauses) []) (variables_from 0 k) body
parameters_keep now p ps k es body are number differ keeps = record {
  made = keeps.made;
  bodies = keeps.bodies;
  keeps = λ w cw world all inc n calls en vs s t same len.
      let i = matched w.texts 0 k [] ps vs [] [] are number differ tt (record { each = λ x. tt }) (len ∙ numbered_count 0 k) in
      clause_keeps SameValue (Related cw all en) n _ _ _ (λ wide. keeps_same SameValue (Related cw all en) n _ (and_then (source.eval_body w (trees es) (source.levels w n) i.0 s) (λ a u. Gives a.0 u)) _ (λ m. core.core cw m body i.1 [] t)
      (ap (λ o. source.value_only (source.chosen o (λ c. source.eval_body w (trees es) (source.levels w n) c s) (Raises Error function_clause s))) i.2)
      (λ j m. core.run_body cw (core.levels cw m) body [] (i.3 j) t)
      (map_keeps (Exports []) SameValue (Related cw all en) n (source.eval_body w (trees es) (source.levels w n) i.0 s) (λ m. core.core cw m body i.1 [] t) (λ a. a.0)
      (eval_steady cw body i.1 [] t).extends
      (λ a us ex. one_export a us ex)
      (keeps.keeps i.0 i.1 i.4 w cw world all inc n calls en [] s t (record { each = λ f g found. refl }) same)));
}
