-- That last calls stay last: in a body, and in the clauses of a `case` that leaves no new name bound.
use Rattle.std.proofs.Common.{◌≡◌, ◌≤◌, ◌==◌, ◌||◌, ℕ, Bool, true, false, List, [], ◌∷◌, ◌++◌, None, length, refl, sym, ap, ◌∙◌, subst, arith}
use Rattle.std.specs.Prelude.{is_some}
use Rattle.std.proofs.lemmas.Bool.Decides.{nat_tests}
use Rattle.ef_base.specs.declared.name.Name.{Name}
use Rattle.ef_base.specs.Texts.{Texts}
use Rattle.ef_core.specs.declared.env.Bind.{Bind}
use Rattle.ef_core.specs.Env.{held}
use Rattle.ef_core.specs.Everywhere.{Each}
use Rattle.ef_core.specs.Plain as core
use Rattle.ef_core.specs.Plain.{StepTree}
use Rattle.ef_core.specs.Tree.{CoreTree}
use Rattle.ef_forms.specs.declared.tables.FunctionName.{FunctionName}
use Rattle.ef_forms.specs.Plain.{ClauseTree, clauses, trees}
use Rattle.ef_forms.specs.Sure.{all_sure, sure}
use Rattle.ef_forms.specs.Tree.{Tree}
use Rattle.ef_forms.specs.Ways.{NameSet, all_names, union}
use Rattle.ef_meaning.specs.Cases.{names_of}
use Rattle.ef_lower.specs.Arms.{AreArms, ArmTree, FinishesAll, FinishesArm, IsArm}
use Rattle.ef_lower.specs.Exports.{GivesNames}
use Rattle.ef_lower.specs.LastCalls.{ClausesStayLast, KeepsLastCalls, LastStays, StaysLast}
use Rattle.ef_lower.specs.Lowers.{Finishes, LowersBody}
use Rattle.ef_lower.specs.Ready.{bound_names}
use Rattle.ef_lower.proofs.Bodies.{finishes}
use Rattle.ef_lower.proofs.Shared.{held_bound}
use Rattle.ef_lower.proofs.Sizes.{or_assoc, or_false}
use Rattle.ef_lower.proofs.Source.{same_set}

-- ---- names that are shared are new

settled : (before own all : Bool) → (before || own) ≡ (before || all) → (all ≡ true → before ≡ true) → own ≡ true → before ≡ true
settled true own all same known here = refl
settled false own all same known here = known (sym same ∙ here)

-- a list of new names that are all bound before is empty
pub none_new : (env bs : List Bind) → Each (λ b. held env b.name ≡ None) bs → (all : NameSet) → ((y : ℕ) → (bound_names env y || bound_names bs y) ≡ (bound_names env y || all y)) → ((y : ℕ) → all y ≡ true → bound_names env y ≡ true) → 1 ≤ length bs → ⊥
none_new env [] new all same known some = absurd (omega arith)
none_new env (b ∷ bs) new all same known some =
    let y = b.name.index in
    let own : (b.name.index == y || bound_names bs y) ≡ true = ap (λ t. t || bound_names bs y) same_number in
    let bound : bound_names env y ≡ true = settled (bound_names env y) (bound_names (b ∷ bs) y) (all y) (same y) (known y) own in
    let there : is_some (held env b.name) ≡ true = held_bound env b.name ∙ bound in
    let free : is_some (held env b.name) ≡ false = ap is_some new.0 in
    absurd (let wrong : true ≡ false = sym there ∙ free in cc)
  where
    same_number : (b.name.index == b.name.index) ≡ true
    same_number = grind (arith, nat_tests)

-- ---- bodies

last_behind : (ds : List Tree) (e : Tree) (v : CoreTree) (s t : NameSet) → ((y : ℕ) → t y ≡ (s y || all_sure (trees ds) y)) → StaysLast t e v → LastStays s (trees (ds ++ e ∷ [])) v
last_behind [] e v s t same stays = subst (λ u. StaysLast u e v) (same_set t s (λ y. same y ∙ or_false (s y))) stays
last_behind (d ∷ []) e v s t same stays = last_behind [] e v (union s (sure d)) t (λ y. same y ∙ sym (or_assoc (s y) (sure d y) (all_sure (trees []) y))) stays
last_behind (d ∷ f ∷ ds) e v s t same stays = last_behind (f ∷ ds) e v (union s (sure d)) t (λ y. same y ∙ sym (or_assoc (s y) (sure d y) (all_sure (trees (f ∷ ds)) y))) stays

-- nothing is given beside the value
alone : {value : CoreTree} {n m : ℕ} {old : List StepTree} {e : CoreTree} (own : List Bind) → own ≡ [] → GivesNames value n old own m e → Finishes old value e
alone {value} {n} {m} {old} {e} own none g =
    let h : GivesNames value n old [] m e = subst (λ l. GivesNames value n old l m e) none g in
    subst (λ l. Finishes l value e) h.stands.2 (subst (λ u. Finishes h.steps u e) h.stands.0 h.is)

no_names : (bs : List Bind) → names_of bs ≡ [] → bs ≡ []
no_names [] none = refl
no_names (b ∷ bs) none = absurd (cc)

module _ (texts : Texts) (defined : List FunctionName) where
  pub body_stays : {es : List Tree} {n0 n1 : ℕ} {env0 env1 : List Bind} {old ss : List StepTree} {v : CoreTree} → LowersBody texts defined es n0 env0 old ss n1 env1 v → LastStays (bound_names env0) (trees es) v
  body_stays {es} {n0} {n1} {env0} {env1} {old} {ss} {v} b =
      subst (λ l. LastStays (bound_names env0) (trees l) v) b.whole
      (last_behind b.front b.last v (bound_names env0) (bound_names b.env1) b.first_lowered.is.forms.names.named b.last_lowered.is.stays)

  -- a body that gives its value alone
  pub alone_stays : {es : List Tree} {n0 n1 : ℕ} {env0 env1 : List Bind} {old ss : List StepTree} {v e : CoreTree} → LowersBody texts defined es n0 env0 old ss n1 env1 v → Finishes ss v e → KeepsLastCalls (bound_names env0) (trees es) e
  alone_stays {es} {n0} {n1} {env0} {env1} {old} {ss} {v} {e} b is = (ss, v, finishes ss v e is, body_stays b)

  -- one that exports no names
  pub named_stays : {es : List Tree} {n0 n1 m : ℕ} {env0 env1 : List Bind} {old ss : List StepTree} {v e : CoreTree} {names : List Name} (own : List Bind) → LowersBody texts defined es n0 env0 old ss n1 env1 v → names ≡ names_of own → GivesNames v n1 ss own m e → names ≡ [] → KeepsLastCalls (bound_names env0) (trees es) e
  named_stays own b named g none = alone_stays b (alone own (no_names own (sym named ∙ none)) g)

  -- ---- clauses

  module _ (n : ℕ) (env : List Bind) where
    arm_stays : (c : ClauseTree) (a : ArmTree) (m : core.ClauseTree) → IsArm texts defined n env c a → FinishesArm [] a m → KeepsLastCalls (union (bound_names env) (all_names (trees c.patterns))) (trees c.body) m.body
    arm_stays c a m is ends =
        subst (λ s. KeepsLastCalls s (trees c.body) m.body) (same_set (bound_names (env ++ is.binds)) (union (bound_names env) (all_names (trees c.patterns))) is.is_pattern.names_all)
        (alone_stays is.is_body (alone ends.own (no_names ends.own ends.named) ends.gives))

    pub clauses_stay : (cs : List ClauseTree) (arms : List ArmTree) (ms later : List core.ClauseTree) → AreArms texts defined n env cs arms → FinishesAll [] arms ms → ClausesStayLast (bound_names env) (clauses cs) (core.clauses (ms ++ later))
    clauses_stay [] arms ms later are all = tt
    clauses_stay (c ∷ cs) [] ms later are all = absurd are
    clauses_stay (c ∷ cs) (a ∷ arms) [] later are all = absurd all
    clauses_stay (c ∷ cs) (a ∷ arms) (m ∷ ms) later are all = (arm_stays c a m are.0 all.0, clauses_stay cs arms ms later are.1 all.1)
