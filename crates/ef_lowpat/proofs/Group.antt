-- Several patterns at once, from the beginning.
use Rattle.std.proofs.Common.{◌≡◌, ℕ, suc, ◌≤◌, ◌==◌, ◌⊎◌, inl, inr, true, List, [], ◌∷◌, ◌++◌, length, Option, Some, None, refl, sym, ap, ◌∙◌, subst, arith, append-nil}
use Rattle.std.specs.Prelude.{◌||◌}
use Rattle.std.proofs.lemmas.Bool.{and_from}
use Rattle.std.proofs.lemmas.Bool.Decides.{nat_tests}
use Rattle.ef_base.specs.Texts.{Texts}
use Rattle.ef_core.specs.declared.env.Bind.{Bind}
use Rattle.ef_core.specs.declared.literal.CoreVar.{CoreVar}
use Rattle.ef_core.specs.declared.literal.CoreVar.TheVariants.{Numbered, Named}
use Rattle.ef_core.specs.declared.lowered.Test.{Test}
use Rattle.ef_core.specs.Conditions.{NoneTwice}
use Rattle.ef_core.specs.Env.{NamesDiffer, held}
use Rattle.ef_core.specs.Everywhere.{Each}
use Rattle.ef_core.specs.Fresh.{DrawsAtMost, IsDrawnIn, most_variables, variables_from}
use Rattle.ef_core.specs.Lowered.{IsReadableBind, IsReadableTest}
use Rattle.ef_core.specs.Plain.{pats}
use Rattle.ef_core.specs.Readable.{readable}
use Rattle.ef_core.specs.Scope.{IsAmong, pats_vars}
use Rattle.ef_core.specs.Tree.{PatTree}
use Rattle.ef_core.proofs.HoldsLaws.{each_both, each_same}
use Rattle.ef_forms.specs.Plain.{trees}
use Rattle.ef_forms.specs.Tree.{Tree, count}
use Rattle.ef_forms.specs.Ways.{all_names}
use Rattle.ef_forms.specs.Weight.{all_weight}
use Rattle.ef_meaning.specs.Value.{values_of}
use Rattle.ef_meaning.specs.Match.{Bindings}
use Rattle.ef_meaning.specs.Core.{Vars, are_built, can_match, pat_count}
use Rattle.ef_meaning.specs.Lowers.{AreBelow}
use Rattle.ef_meaning.specs.Named.{bound_names}
use Rattle.ef_meaning.specs.Patterns.{KeepsPatterns, SameMatch}
use Rattle.ef_lowpat.specs.Lowers.{AreFound, IsVariableOf, LowersItems}
use Rattle.ef_lowpat.specs.Matching.{KeepsItems, SameBy, whole}
use Rattle.ef_lowpat.proofs.Found.{drawn_in_row, each_among, row_differs, row_drawn}
use Rattle.ef_lowpat.proofs.Items.{values_keep}
use Rattle.ef_lowpat.proofs.Verdicts.{valued_held, values_agree, values_append}

same_match : (env : List Bind) (tests : List Test) (o : Option Bindings) (p : Option Vars) → SameBy whole env tests o p → SameMatch env tests o p
same_match env tests None None same = tt
same_match env tests None (Some d) same = same
same_match env tests (Some b) None same = same
same_match env tests (Some b) (Some d) same = (same.0, same.1)

-- as many patterns as those of the source
count_of : (es : List Tree) → count (trees es) ≡ length es
count_of [] = refl
count_of (e ∷ es) = let rest = count_of es in omega arith

pats_of : (ps : List PatTree) → pat_count (pats ps) ≡ length ps
pats_of [] = refl
pats_of (p ∷ ps) = let rest = pats_of ps in omega arith

fit_together : (es : List Tree) (ps : List PatTree) → length ps ≡ length es → are_built (pats ps) ≡ true → can_match (count (trees es)) (pats ps) ≡ true
fit_together es ps number built =
    let same : pat_count (pats ps) ≡ count (trees es) = pats_of ps ∙ number ∙ sym (count_of es) in
    and_from (pat_count (pats ps) == count (trees es)) (are_built (pats ps)) (grind (arith, nat_tests)) built

pub group_keeps : (now : Texts) (es : List Tree) (n0 : ℕ) (bound : List Bind) (ps : List PatTree) (tests : List Test) (n1 : ℕ) (binds : List Bind) → AreBelow n0 bound → length ps ≡ length es → are_built (pats ps) ≡ true → KeepsItems es n0 bound ps tests n1 binds → KeepsPatterns now (trees es) n0 bound (pats ps) tests n1 binds
group_keeps now es n0 bound ps tests n1 binds below number built items =
    let one = values_keep es n0 bound ps tests n1 binds items in record {
      drawn = one.drawn;
      below = one.below;
      tests_below = one.tests_below;
      fits = fit_together es ps number built;
      agree = λ all later vs c d e. one.agree all (values_of vs) c d e;
      decided = λ all later vs c d h e.
          let is = one.decided all (values_of vs) c d (valued_held bound c h) e in
          (values_append bound binds d (values_agree n0 bound c d below (one.agree all (values_of vs) c d e) h) is.values, is.verdict.0, is.verdict.1);
      keeps = λ all later vs b c desc. same_match (bound ++ binds) tests _ _ (one.keeps all (values_of vs) b c desc);
    }

module _ (es : List Tree) (bound : List Bind) (n0 n1 : ℕ) (tests : List Test) (binds : List Bind) (ps : List PatTree) (all : LowersItems es bound n0 [] [] n1 tests binds ps) where
  pub matched : (now : Texts) → AreBelow n0 bound → KeepsPatterns now (trees es) n0 bound (pats ps) tests n1 binds
  matched now below =
      group_keeps now es n0 bound ps tests n1 binds below all.number all.built
      (subst (λ ts. KeepsItems es n0 bound ps ts n1 binds) (sym all.tests_added)
      (subst (λ bs. KeepsItems es n0 bound ps all.tests n1 bs) (sym all.binds_added)
      (subst (λ env. KeepsItems es n0 env ps all.tests n1 all.binds) (append-nil bound) all.keeps)))

  found : AreFound bound n0 n1 tests binds
  found = all.found n0 (omega arith) (record { differ = tt; new = tt; drawn = tt; lefts = tt; rights = tt })

  pub distinct : NoneTwice (pats_vars (pats ps))
  distinct = subst NoneTwice (sym all.variables) (row_differs n0 all.count)

  pub drawn_here : Each (IsDrawnIn n0 n1) (pats_vars (pats ps))
  drawn_here = subst (Each (IsDrawnIn n0 n1)) (sym all.variables) (subst (λ n. Each (IsDrawnIn n0 n) (variables_from n0 all.count)) (sym all.drawn) (row_drawn n0 all.count))

  in_pattern : (v : CoreVar) → IsDrawnIn n0 n1 v → IsAmong (pats_vars (pats ps)) v
  in_pattern v drawn = subst (λ vs. IsAmong vs v) (sym all.variables) (drawn_in_row n0 all.count n1 v all.drawn drawn)

  pub binds_in_pattern : Each (λ b. IsAmong (pats_vars (pats ps)) b.var) binds
  binds_in_pattern = each_same (λ b. IsDrawnIn n0 n1 b.var) (λ b. IsAmong (pats_vars (pats ps)) b.var) (λ b p. in_pattern b.var p) binds found.drawn

  pub lefts_in_pattern : Each (λ t. IsAmong (pats_vars (pats ps)) t.left) tests
  lefts_in_pattern = each_same (λ t. IsDrawnIn n0 n1 t.left) (λ t. IsAmong (pats_vars (pats ps)) t.left) (λ t p. in_pattern t.left p) tests found.lefts

  pub rights_known : Each (λ t. IsAmong (pats_vars (pats ps)) t.right ⊎ IsVariableOf bound t.right) tests
  rights_known = each_same (λ t. IsDrawnIn n0 n1 t.right ⊎ IsVariableOf bound t.right) (λ t. IsAmong (pats_vars (pats ps)) t.right ⊎ IsVariableOf bound t.right) one tests found.rights
    where
      one : (t : Test) → IsDrawnIn n0 n1 t.right ⊎ IsVariableOf bound t.right → IsAmong (pats_vars (pats ps)) t.right ⊎ IsVariableOf bound t.right
      one t (inl p) = inl (in_pattern t.right p)
      one t (inr p) = inr p

  pub names_differ : NamesDiffer binds
  names_differ = found.differ

  pub names_new : Each (λ b. held bound b.name ≡ None) binds
  names_new = found.new

  pub names_all : (y : ℕ) → bound_names (bound ++ binds) y ≡ (bound_names bound y || all_names (trees es) y)
  names_all y = all.named y ∙ ap (λ env. bound_names env y || all_names (trees es) y) (append-nil bound)

  module _ (texts : Texts) (within : n1 ≤ most_variables) where
    -- a variable that was drawn can be said
    sayable : (v : CoreVar) → IsDrawnIn n0 n1 v → (readable texts).variable v
    sayable (Numbered i) p = let below : suc i ≤ n1 = p.1 in (tt, (omega arith, tt))
    sayable (Named x) p = absurd p

    pub readable_binds : Each (IsReadableBind texts) binds
    readable_binds = each_same (λ b. IsDrawnIn n0 n1 b.var) (IsReadableBind texts) (λ b p. sayable b.var p) binds found.drawn

    pub readable_tests : Each (IsReadableBind texts) bound → Each (IsReadableTest texts) tests
    readable_tests known =
        each_both (λ t. (readable texts).variable t.left) (λ t. (readable texts).variable t.right) tests
        (each_same (λ t. IsDrawnIn n0 n1 t.left) (λ t. (readable texts).variable t.left) (λ t p. sayable t.left p) tests found.lefts)
        (each_same (λ t. IsDrawnIn n0 n1 t.right ⊎ IsVariableOf bound t.right) (λ t. (readable texts).variable t.right) right tests found.rights)
      where
        right : (t : Test) → IsDrawnIn n0 n1 t.right ⊎ IsVariableOf bound t.right → (readable texts).variable t.right
        right t (inl p) = sayable t.right p
        right t (inr p) = subst (readable texts).variable p.2 (each_among (IsReadableBind texts) bound p.0 known p.1)

  pub drawn_at_most : (units : ℕ) → all_weight (trees es) ≤ units → DrawsAtMost units n0 n1
  drawn_at_most units enough = let d = all.drawn in let l = all.light in (omega arith, omega arith)

-- where nothing was found before
pub from_nothing : (es : List Tree) (bound : List Bind) (n0 : ℕ) (t0 : List Test) (b0 : List Bind) (n1 : ℕ) (tests : List Test) (binds : List Bind) (ps : List PatTree) → t0 ≡ [] → b0 ≡ []
    → LowersItems es bound n0 t0 b0 n1 tests binds ps → LowersItems es bound n0 [] [] n1 tests binds ps
from_nothing es bound n0 t0 b0 n1 tests binds ps p q all = subst (λ t. LowersItems es bound n0 t [] n1 tests binds ps) p (subst (λ b. LowersItems es bound n0 t0 b n1 tests binds ps) q all)
