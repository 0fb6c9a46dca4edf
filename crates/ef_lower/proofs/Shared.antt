-- The names that all arms bind.
use Rattle.std.proofs.Common.{◌≡◌, ◌==◌, ◌||◌, ◌&&◌, ℕ, Bool, true, false, if◌then◌else◌, cond, List, [], ◌∷◌, Option, Some, None, refl, sym, ap, ◌∙◌, arith, eqb-true}
use Rattle.std.specs.Prelude.{is_some}
use Rattle.std.specs.List.{filter}
use Rattle.std.proofs.lemmas.Bool.Decides.{nat_tests}
use Rattle.ef_base.specs.declared.name.Name.{Name}
use Rattle.ef_base.specs.Texts.{Texts}
use Rattle.ef_core.specs.declared.env.Bind.{Bind}
use Rattle.ef_core.specs.declared.literal.CoreVar.{CoreVar}
use Rattle.ef_core.specs.Env.{NamesDiffer, held}
use Rattle.ef_core.specs.Everywhere.{Each}
use Rattle.ef_forms.specs.declared.tables.FunctionName.{FunctionName}
use Rattle.ef_forms.specs.Built.{AreSome}
use Rattle.ef_forms.specs.Plain.{ClauseTree, clauses, trees}
use Rattle.ef_forms.specs.Sure.{all_sure, clauses_sure}
use Rattle.ef_forms.specs.Ways.{NameSet, union, all_names}
use Rattle.ef_forms.proofs.Bools.{and_assoc, or_assoc, or_meet}
use Rattle.ef_lower.specs.Arms.{AreArms, ArmTree, BindsAll, IsArm, also_bound, bound_by_all, shared}
use Rattle.ef_lower.specs.Ready.{bound_names}
use Rattle.ef_lower.proofs.Bodies.{body_names}
use Rattle.ef_lower.proofs.Sizes.{bound_both}

-- ---- names that are left

pub held_bound : (env : List Bind) (x : Name) → is_some (held env x) ≡ bound_names env x.index
held_bound [] x = refl
held_bound (b ∷ bs) x = by (b.name.index == x.index) (held_bound bs x)
  where
    by : (t : Bool) → is_some (held bs x) ≡ bound_names bs x.index → is_some (if t then Some b.var else held bs x) ≡ (t || bound_names bs x.index)
    by true rest = refl
    by false rest = rest

meet : (s t b e : Bool) → (t ≡ true → s ≡ e) → ((s && t) || (b && e)) ≡ ((t || b) && e)
meet true true b true h = refl
meet true true b false h = absurd (let wrong : true ≡ false = h refl in cc)
meet true false b e h = refl
meet false true true true h = refl
meet false true false true h = absurd (let wrong : false ≡ true = h refl in cc)
meet false true true false h = refl
meet false true false false h = refl
meet false false b e h = refl

also_named : (env bs : List Bind) (y : ℕ) → bound_names (also_bound env bs) y ≡ (bound_names bs y && bound_names env y)
also_named env [] y = refl
also_named env (b ∷ bs) y =
    picked (is_some (held env b.name))
    ∙ ap (λ z. (is_some (held env b.name) && (b.name.index == y)) || z) (also_named env bs y)
    ∙ meet (is_some (held env b.name)) (b.name.index == y) (bound_names bs y) (bound_names env y) (λ same. held_bound env b.name ∙ ap (bound_names env) (eqb-true b.name.index y same))
  where
    picked : (s : Bool) → bound_names (cond s (b ∷ also_bound env bs) (also_bound env bs)) y ≡ ((s && (b.name.index == y)) || bound_names (also_bound env bs) y)
    picked true = refl
    picked false = refl

-- ---- what holds of those that are left

kept_each : (P : Bind → Type 0) (p : Bind → Bool) (bs : List Bind) → Each P bs → Each P (filter p bs)
kept_each P p [] all = tt
kept_each P p (b ∷ bs) all = by (p b) (kept_each P p bs all.1)
  where
    by : (t : Bool) → Each P (filter p bs) → Each P (cond t (b ∷ filter p bs) (filter p bs))
    by true rest = (all.0, rest)
    by false rest = rest

kept_none : (p : Bind → Bool) (bs : List Bind) (x : Name) → held bs x ≡ None → held (filter p bs) x ≡ None
kept_none p [] x none = refl
kept_none p (b ∷ bs) x none = by (p b) (b.name.index == x.index) refl (λ h. kept_none p bs x h)
  where
    other : (b.name.index == x.index) ≡ false → held bs x ≡ None
    other is = sym (ap (λ t. if t then Some b.var else held bs x) is) ∙ none

    by : (s t : Bool) → (b.name.index == x.index) ≡ t → (held bs x ≡ None → held (filter p bs) x ≡ None) → held (cond s (b ∷ filter p bs) (filter p bs)) x ≡ None
    by s true is rest = let there : Some b.var ≡ None = sym (ap (λ t. if t then Some b.var else held bs x) is) ∙ none in absurd cc
    by true false is rest = ap (λ t. if t then Some b.var else held (filter p bs) x) is ∙ rest (other is)
    by false false is rest = rest (other is)

kept_differ : (p : Bind → Bool) (bs : List Bind) → NamesDiffer bs → NamesDiffer (filter p bs)
kept_differ p [] differ = tt
kept_differ p (b ∷ bs) differ = by (p b) (kept_differ p bs differ.1)
  where
    by : (t : Bool) → NamesDiffer (filter p bs) → NamesDiffer (cond t (b ∷ filter p bs) (filter p bs))
    by true rest = (kept_none p bs b.name differ.0, rest)
    by false rest = rest

also_binds : (env bs : List Bind) → BindsAll env (also_bound env bs)
also_binds env [] = tt
also_binds env (b ∷ bs) = by (held env b.name) refl (also_binds env bs)
  where
    by : (o : Option CoreVar) → held env b.name ≡ o → BindsAll env (also_bound env bs) → BindsAll env (cond (is_some o) (b ∷ also_bound env bs) (also_bound env bs))
    by None is rest = rest
    by (Some v) is rest = ((v, is), rest)

own_bound : (bs : List Bind) → BindsAll bs bs
own_bound [] = tt
own_bound (b ∷ bs) = ((b.var, ap (λ t. if t then Some b.var else held bs b.name) same_number), each bs (own_bound bs))
  where
    same_number : (b.name.index == b.name.index) ≡ true
    same_number = grind (arith, nat_tests)

    one : (x : Name) (v : CoreVar) → held bs x ≡ Some v → (t : Bool) → (w : CoreVar) × ((if t then Some b.var else held bs x) ≡ Some w)
    one x v is true = (b.var, refl)
    one x v is false = (v, is)

    each : (xs : List Bind) → BindsAll bs xs → BindsAll (b ∷ bs) xs
    each [] all = tt
    each (x ∷ xs) all = (one x.name all.0.0 all.0.1 (b.name.index == x.name.index), each xs all.1)

-- ---- behind all arms

all_each : (P : Bind → Type 0) (arms : List ArmTree) (bs : List Bind) → Each P bs → Each P (bound_by_all arms bs)
all_each P [] bs all = all
all_each P (a ∷ arms) bs all = all_each P arms (also_bound a.binds bs) (kept_each P (λ b. is_some (held a.binds b.name)) bs all)

all_differ : (arms : List ArmTree) (bs : List Bind) → NamesDiffer bs → NamesDiffer (bound_by_all arms bs)
all_differ [] bs differ = differ
all_differ (a ∷ arms) bs differ = all_differ arms (also_bound a.binds bs) (kept_differ (λ b. is_some (held a.binds b.name)) bs differ)

all_bind : (arms : List ArmTree) (bs : List Bind) → Each (λ a. BindsAll a.binds (bound_by_all arms bs)) arms
all_bind [] bs = tt
all_bind (a ∷ arms) bs =
    (all_each (λ b. (v : CoreVar) × (held a.binds b.name ≡ Some v)) arms (also_bound a.binds bs) (also_binds a.binds bs), all_bind arms (also_bound a.binds bs))

pub shared_bound : (arms : List ArmTree) → Each (λ a. BindsAll a.binds (shared arms)) arms
shared_bound [] = tt
shared_bound (a ∷ arms) = (all_each (λ b. (v : CoreVar) × (held a.binds b.name ≡ Some v)) arms a.binds (own_bound a.binds), all_bind arms a.binds)

pub shared_differ : (arms : List ArmTree) → Each (λ a. NamesDiffer a.binds) arms → NamesDiffer (shared arms)
shared_differ [] all = tt
shared_differ (a ∷ arms) all = all_differ arms a.binds all.0

pub shared_new : (env : List Bind) (arms : List ArmTree) → Each (λ a. Each (λ b. held env b.name ≡ None) a.binds) arms → Each (λ b. held env b.name ≡ None) (shared arms)
shared_new env [] all = tt
shared_new env (a ∷ arms) all = all_each (λ b. held env b.name ≡ None) arms a.binds all.0

-- ---- they are the names that every clause binds

meet_both : (e b a s t : Bool) → (e || b) ≡ (e || s) → (e || a) ≡ (e || t) → (e || (b && a)) ≡ (e || (s && t))
meet_both e b a s t left right = sym (or_meet e b a) ∙ ap (λ z. z && (e || a)) left ∙ ap (λ z. (e || s) && z) right ∙ or_meet e s t

-- the names that a clause binds
abbrev clause_set : ClauseTree → NameSet
clause_set c = union (all_names (trees c.patterns)) (all_sure (trees c.body))

module _ (texts : Texts) (defined : List FunctionName) (n : ℕ) (env : List Bind) where
  arm_named : (c : ClauseTree) (a : ArmTree) → IsArm texts defined n env c a → (y : ℕ) → (bound_names env y || bound_names a.binds y) ≡ (bound_names env y || clause_set c y)
  arm_named c a is y =
      sym (bound_both env a.binds y)
      ∙ (body_names texts defined refl is.is_body).named y
      ∙ ap (λ z. z || all_sure (trees c.body) y) (is.is_pattern.names_all y)
      ∙ or_assoc (bound_names env y) (all_names (trees c.patterns) y) (all_sure (trees c.body) y)

  all_named : (cs : List ClauseTree) (arms : List ArmTree) (c : ClauseTree) (a : ArmTree) → AreArms texts defined n env (c ∷ cs) (a ∷ arms) → (bs : List Bind) (s : NameSet) (y : ℕ) → (bound_names env y || bound_names bs y) ≡ (bound_names env y || s y) →
      (bound_names env y || bound_names (bound_by_all (a ∷ arms) bs) y) ≡ (bound_names env y || (s y && clauses_sure (clauses (c ∷ cs)) y))
  all_named [] [] c a are bs s y so_far =
      ap (λ z. bound_names env y || z) (also_named a.binds bs y)
      ∙ meet_both (bound_names env y) (bound_names bs y) (bound_names a.binds y) (s y) (clause_set c y) so_far (arm_named c a are.0 y)
  all_named [] (b ∷ arms) c a are bs s y so_far = absurd are.1
  all_named (d ∷ cs) [] c a are bs s y so_far = absurd are.1
  all_named (d ∷ cs) (b ∷ arms) c a are bs s y so_far =
      all_named cs arms d b are.1 (also_bound a.binds bs) (λ z. s z && clause_set c z) y (
      ap (λ z. bound_names env y || z) (also_named a.binds bs y)
      ∙ meet_both (bound_names env y) (bound_names bs y) (bound_names a.binds y) (s y) (clause_set c y) so_far (arm_named c a are.0 y)
      )
      ∙ ap (λ z. bound_names env y || z) (and_assoc (s y) (clause_set c y) (clauses_sure (clauses (d ∷ cs)) y))

  pub shared_named : (cs : List ClauseTree) (arms : List ArmTree) → AreArms texts defined n env cs arms → AreSome (clauses cs) → (y : ℕ) → (bound_names env y || bound_names (shared arms) y) ≡ (bound_names env y || clauses_sure (clauses cs) y)
  shared_named [] arms are some y = absurd some
  shared_named (c ∷ cs) [] are some y = absurd are
  shared_named (c ∷ []) (a ∷ []) are some y = arm_named c a are.0 y
  shared_named (c ∷ []) (a ∷ b ∷ arms) are some y = absurd are.1
  shared_named (c ∷ d ∷ cs) (a ∷ []) are some y = absurd are.1
  shared_named (c ∷ d ∷ cs) (a ∷ b ∷ arms) are some y = all_named cs arms d b are.1 a.binds (clause_set c) y (arm_named c a are.0 y)
