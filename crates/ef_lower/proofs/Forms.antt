-- The forms of what trees are lowered to, put together.
use Rattle.std.proofs.Common.{◌≡◌, ◌<◌, ◌≤◌, ◌+◌, ◌*◌, ◌^◌, ◌||◌, ℕ, ℤ, true, false, length, length-append, List, [], ◌∷◌, ◌++◌, refl, sym, ap, ◌∙◌, subst, arith, append_assoc, append-nil}
use Rattle.ef_base.specs.declared.name.Name.{Name}
use Rattle.ef_base.specs.Texts.{Texts, HasName}
use Rattle.ef_core.specs.declared.env.Bind.{Bind}
use Rattle.ef_core.specs.declared.literal.CoreVar.{CoreVar}
use Rattle.ef_core.specs.declared.literal.CoreVar.TheVariants.{Numbered}
use Rattle.ef_core.specs.declared.literal.FName.{FName}
use Rattle.ef_core.specs.Conditions.{VariablesDiffer}
use Rattle.ef_core.specs.Depth.{depth, all_depth as core_all_depth, steps_depth}
use Rattle.ef_core.specs.Everywhere.{Each, AllHold, StepsHold}
use Rattle.ef_core.specs.Fresh.{most_variables}
use Rattle.ef_core.specs.LetForm.{IsSimple, AreSimple}
use Rattle.ef_core.specs.Normal.{IsNoRun}
use Rattle.ef_core.specs.Plain as core
use Rattle.ef_core.specs.Plain.{StepTree, steps}
use Rattle.ef_core.specs.Readable.{readable}
use Rattle.ef_core.specs.Scope.{AllInScope, InScope}
use Rattle.ef_core.specs.Tree as c
use Rattle.ef_core.specs.Tree.{CoreTree}
use Rattle.ef_core.specs.WellFormed.{AreSingle, IsInRange, IsSingle}
use Rattle.ef_lowpat.proofs.Depths.{some_depth}
use Rattle.ef_forms.specs.declared.tables.FunctionName.{FunctionName}
use Rattle.ef_forms.specs.Depth.{all_depth, depth as source_depth}
use Rattle.ef_forms.specs.Plain.{trees}
use Rattle.ef_forms.specs.Sure.{all_sure, sure}
use Rattle.ef_forms.specs.Tree.{Tree}
use Rattle.ef_forms.specs.Ways.{NameSet}
use Rattle.ef_forms.specs.Weight.{all_weight, weight}
use Rattle.ef_lowpat.specs.Budgets.{depth_per_level}
use Rattle.ef_meaning.proofs.Parts.{one_step}
use Rattle.ef_lower.specs.Lowers.{ArgumentForms, Binds, Finishes, IsArgument, IsLowered, IsLoweredStep, IsShallow, ValueForm, lowered}
use Rattle.ef_lower.specs.Ready.{IsReadableBind, bound_names}
use Rattle.ef_lower.specs.Scope.{HasFunctions, IsInScope}
use Rattle.ef_lower.proofs.Scopes.{both_in_scope, made_in_scope, nothing_in_scope, put_in_scope, value_in_scope}
use Rattle.ef_lower.proofs.Sizes.{depth_both, or_absorb, or_assoc, or_false, some_weight, sure_both, weight_both}

pub each_both : {A : Type 0} (P : A → Type 0) (xs ys : List A) → Each P xs → Each P ys → Each P (xs ++ ys)
each_both P [] ys left right = right
each_both P (x ∷ xs) ys left right = (left.0, each_both P xs ys left.1 right)

-- ---- leaves

pub int_lowered : (texts : Texts) (i : ℤ) → IsInRange i → IsLowered texts (c.lit (c.int i))
int_lowered texts i in_range = ((tt, ((tt, (tt, tt)), (tt, tt, tt))), (tt, ((tt, (in_range, tt)), tt)))

pub atom_lowered : (texts : Texts) (n : Name) → HasName texts n → IsLowered texts (c.lit (c.atom n))
atom_lowered texts n named = ((tt, ((tt, (tt, tt)), (tt, tt, tt))), (tt, ((tt, (tt, named)), tt)))

pub variable_lowered : (texts : Texts) (v : CoreVar) → (readable texts).variable v → IsLowered texts (c.var v)
variable_lowered texts v is = ((tt, ((tt, (tt, tt)), (tt, tt, tt))), (tt, (is, tt)))

pub fun_name_lowered : (texts : Texts) (f : FName) → HasName texts f.name → f.arity < 2 ^ 32 → IsLowered texts (c.fun_name f)
fun_name_lowered texts f named few = (tt, ((tt, (few, named)), (tt, tt, tt)))

pub numbered_readable : (texts : Texts) (n : ℕ) → n < most_variables → (readable texts).variable (Numbered n)
numbered_readable texts n small = (tt, (omega arith, tt))

-- ---- arguments

module _ (texts : Texts) (levels : ℕ) where
  pub simple_each : (vs : List CoreTree) → Each (IsArgument texts levels) vs → Each IsSimple vs
  simple_each [] all = tt
  simple_each (v ∷ vs) all = (all.0.simple, simple_each vs all.1)

  pub simple : (vs : List CoreTree) → Each (IsArgument texts levels) vs → AreSimple (core.trees vs)
  simple [] all = tt
  simple (v ∷ vs) all = (all.0.simple, simple vs all.1)

  pub one_single : (v : CoreTree) → IsSimple v → IsSingle v
  one_single (c.var v) is = tt
  one_single (c.lit l) is = tt
  one_single e is = absurd is

  pub single : (vs : List CoreTree) → Each (IsArgument texts levels) vs → AreSingle (core.trees vs)
  single [] all = tt
  single (v ∷ vs) all = (one_single v all.0.simple, single vs all.1)

  pub arguments_lowered : (vs : List CoreTree) → Each (IsArgument texts levels) vs → AllHold (lowered texts) (core.trees vs)
  arguments_lowered [] all = tt
  arguments_lowered (v ∷ vs) all = (all.0.lowered, arguments_lowered vs all.1)

  -- arguments are no deeper than their levels
  pub arguments_depth : (vs : List CoreTree) → Each (IsArgument texts levels) vs → core_all_depth (core.trees vs) ≤ levels
  arguments_depth [] all = omega arith
  arguments_depth (v ∷ vs) all = let one : depth v ≤ levels = all.0.shallow in let rest = arguments_depth vs all.1 in omega arith

-- what is shallow for few levels is so for many
pub steps_wider : (texts : Texts) (few many : ℕ) (ss : List StepTree) → few ≤ many → Each (IsLoweredStep texts few) ss → Each (IsLoweredStep texts many) ss
steps_wider texts few many [] le all = tt
steps_wider texts few many (s ∷ ss) le all =
    let one : depth s.value + 2 ≤ depth_per_level * few = all.0.shallow in (
      record { variables = all.0.variables; differ = all.0.differ; value = all.0.value; shallow = omega arith },
      steps_wider texts few many ss le all.1,
    )

arguments_wider : (texts : Texts) (few many : ℕ) (vs : List CoreTree) → few ≤ many → Each (IsArgument texts few) vs → Each (IsArgument texts many) vs
arguments_wider texts few many [] le all = tt
arguments_wider texts few many (v ∷ vs) le all =
    let one : depth v ≤ few = all.0.shallow in (
      record { simple = all.0.simple; lowered = all.0.lowered; shallow = omega arith },
      arguments_wider texts few many vs le all.1,
    )

-- ---- names

module _ (texts : Texts) where
  binds_as : (s t : NameSet) {env0 env1 : List Bind} → ((y : ℕ) → t y ≡ s y) → Binds texts env0 s env1 → Binds texts env0 t env1
  binds_as s t {env0} {env1} same b = record {
    more = b.more;
    grown = b.grown;
    named = λ y. b.named y ∙ ap (λ z. bound_names env0 y || z) (sym (same y));
    readable = b.readable;
  }

  binds_both : (es ds : List Tree) {env0 env1 env2 : List Bind} → Binds texts env0 (all_sure (trees es)) env1 → Binds texts env1 (all_sure (trees ds)) env2 → Binds texts env0 (all_sure (trees (es ++ ds))) env2
  binds_both es ds {env0} {env1} {env2} one two = record {
    more = one.more ++ two.more;
    grown = two.grown ∙ ap (λ l. l ++ two.more) one.grown ∙ append_assoc env0 one.more two.more;
    named = λ y. two.named y ∙ ap (λ b. b || all_sure (trees ds) y) (one.named y) ∙ or_assoc (bound_names env0 y) (all_sure (trees es) y) (all_sure (trees ds) y) ∙ ap (λ b. bound_names env0 y || b) (sym (sure_both es ds y));
    readable = two.readable;
  }

  binds_nothing : (s : NameSet) (env : List Bind) → Each (IsReadableBind texts) env → ((y : ℕ) → s y ≡ true → bound_names env y ≡ true) → Binds texts env s env
  binds_nothing s env readable within = record {
    more = [];
    grown = sym (append-nil env);
    named = λ y. or_absorb (bound_names env y) (s y) (within y);
    readable = readable;
  }

-- ---- trees, one behind another

module _ (texts : Texts) (defined : List FunctionName) where
  pub nothing_form : {n : ℕ} {env : List Bind} → Each (IsReadableBind texts) env → ArgumentForms texts defined [] n env [] n env []
  nothing_form {n} {env} readable = record {
    names = binds_nothing texts (all_sure (trees [])) env readable (λ y here. absurd (cc));
    number = refl;
    drawn = omega arith;
    enough = omega arith;
    steps = tt;
    arguments = tt;
    in_scope = nothing_in_scope texts defined env;
  }

  module _ {es ds : List Tree} {n m k : ℕ} {env0 env1 env2 : List Bind} {a b : List StepTree} {vs : List CoreTree} where
    pub arguments_both : {us : List CoreTree} → ArgumentForms texts defined es n env0 a m env1 vs → ArgumentForms texts defined ds m env1 b k env2 us → ArgumentForms texts defined (es ++ ds) n env0 (a ++ b) k env2 (vs ++ us)
    arguments_both {us} one two =
        let levels = all_depth (trees (es ++ ds)) in
        let first : all_depth (trees es) ≤ levels = let d = depth_both es ds in omega arith in
        let second : all_depth (trees ds) ≤ levels = let d = depth_both es ds in omega arith in
        record {
          names = binds_both texts es ds one.names two.names;
          number = length-append vs us ∙ ap (λ i. i + length us) one.number ∙ ap (λ i. length es + i) two.number ∙ sym (length-append es ds);
          drawn = let p = one.drawn in let q = two.drawn in omega arith;
          enough = let p = one.enough in let q = two.enough in let w = weight_both es ds in omega arith;
          steps = each_both (IsLoweredStep texts levels) a b (steps_wider texts (all_depth (trees es)) levels a first one.steps) (steps_wider texts (all_depth (trees ds)) levels b second two.steps);
          arguments = each_both (IsArgument texts levels) vs us (arguments_wider texts (all_depth (trees es)) levels vs first one.arguments) (arguments_wider texts (all_depth (trees ds)) levels us second two.arguments);
          in_scope = both_in_scope texts defined env0 env1 env2 a b vs us (simple_each texts (all_depth (trees es)) vs one.arguments) one.in_scope two.in_scope;
        }

    -- what goes before, and one value
    pub value_behind : {v : CoreTree} → ArgumentForms texts defined es n env0 a m env1 vs → ValueForm texts defined ds m env1 b k env2 v → ValueForm texts defined (es ++ ds) n env0 (a ++ b) k env2 v
    value_behind {v} one two =
        let levels = all_depth (trees (es ++ ds)) in
        let first : all_depth (trees es) ≤ levels = let d = depth_both es ds in omega arith in
        let second : all_depth (trees ds) ≤ levels = let d = depth_both es ds in omega arith in
        record {
          names = binds_both texts es ds one.names two.names;
          drawn = let p = one.drawn in let q = two.drawn in omega arith;
          enough = let p = one.enough in let q = two.enough in let w = weight_both es ds in omega arith;
          steps = each_both (IsLoweredStep texts levels) a b (steps_wider texts (all_depth (trees es)) levels a first one.steps) (steps_wider texts (all_depth (trees ds)) levels b second two.steps);
          lowered = two.lowered;
          no_run = two.no_run;
          shallow = let deep : depth v + 2 ≤ depth_per_level * all_depth (trees ds) = two.shallow in omega arith;
          argument = λ simple. let deep = two.argument simple in omega arith;
          in_scope = let all = both_in_scope texts defined env0 env1 env2 a b [] (v ∷ []) tt (λ xs fs variables functions. let before = one.in_scope xs fs variables functions in (before.0, before.1, tt)) two.in_scope in all;
        }

  module _ {n m : ℕ} {env0 env1 : List Bind} {a : List StepTree} {v : CoreTree} where
    -- a value that is an argument
    pub argument_form : (e : Tree) → ValueForm texts defined (e ∷ []) n env0 a m env1 v → IsSimple v → ArgumentForms texts defined (e ∷ []) n env0 a m env1 (v ∷ [])
    argument_form e one simple = record {
      names = one.names;
      number = refl;
      drawn = one.drawn;
      enough = let p = one.enough in omega arith;
      steps = one.steps;
      arguments = (record { simple = simple; lowered = one.lowered; shallow = one.argument simple }, tt);
      in_scope = one.in_scope;
    }

    -- a value in a step of its own
    pub put_form : (e : Tree) → ValueForm texts defined (e ∷ []) n env0 a m env1 v → m < most_variables → ArgumentForms texts defined (e ∷ []) n env0 (a ++ one_step (Numbered m) v) (m + 1) env1 (c.var (Numbered m) ∷ [])
    put_form e one small =
        let levels = all_depth (trees (e ∷ [])) in
        let deep : depth v + 2 ≤ depth_per_level * levels = one.shallow in
        let is = numbered_readable texts m small in
        let last : IsLoweredStep texts levels (record { vars = Numbered m ∷ []; value = v }) = record { variables = ((tt, (is, tt)), tt); differ = ((λ none. none), tt); value = one.lowered; shallow = deep } in
        record {
          names = one.names;
          number = refl;
          drawn = let p = one.drawn in omega arith;
          enough = let p = one.enough in omega arith;
          steps = each_both (IsLoweredStep texts levels) a (one_step (Numbered m) v) one.steps (last, tt);
          arguments = (record { simple = tt; lowered = variable_lowered texts (Numbered m) is; shallow = let some = some_depth e in omega arith }, tt);
          in_scope = put_in_scope texts defined env0 env1 a v (Numbered m) one.in_scope;
        }

  -- ---- values

  -- what needs no step
  pub leaf_form : (e : Tree) (v : CoreTree) {n : ℕ} {env : List Bind} → Each (IsReadableBind texts) env → ((y : ℕ) → sure e y ≡ true → bound_names env y ≡ true) → IsLowered texts v → IsNoRun v → depth v ≤ source_depth e → IsInScope texts defined env v → ValueForm texts defined (e ∷ []) n env [] n env v
  leaf_form e v {n} {env} readable within is no_run deep in_scope = record {
    names = binds_nothing texts (all_sure (trees (e ∷ []))) env readable (λ y here. within y (sym (or_false (sure e y)) ∙ here));
    drawn = omega arith;
    enough = let some = some_weight e in omega arith;
    steps = tt;
    lowered = is;
    no_run = no_run;
    shallow = let some = some_depth e in omega arith;
    argument = λ simple. omega arith;
    in_scope = value_in_scope texts defined env v in_scope;
  }

  -- a value that is made of arguments
  pub made_form : {es : List Tree} {n m : ℕ} {env0 env1 : List Bind} {a : List StepTree} {vs : List CoreTree} (e : Tree) (v : CoreTree) → ArgumentForms texts defined es n env0 a m env1 vs → all_weight (trees es) + 1 ≤ weight e → all_depth (trees es) ≤ source_depth e → ((y : ℕ) → sure e y ≡ all_sure (trees es) y) →
      IsLowered texts v → IsNoRun v → depth v ≤ source_depth e → ((xs : List CoreVar) (fs : List FName) → HasFunctions texts defined fs → AllInScope xs fs (core.trees vs) → InScope xs fs v) → ValueForm texts defined (e ∷ []) n env0 a m env1 v
  made_form {es} {n} {m} {env0} {env1} {a} {vs} e v all more deeper same is no_run deep made = record {
    names = binds_as texts (all_sure (trees es)) (all_sure (trees (e ∷ []))) (λ y. or_false (sure e y) ∙ same y) all.names;
    drawn = all.drawn;
    enough = let p = all.enough in omega arith;
    steps = steps_wider texts (all_depth (trees es)) (all_depth (trees (e ∷ []))) a (omega arith) all.steps;
    lowered = is;
    no_run = no_run;
    shallow = let some = some_depth e in omega arith;
    argument = λ simple. omega arith;
    in_scope = made_in_scope texts defined env0 env1 a vs v made all.in_scope;
  }

  -- the value of another tree, which is no less heavy and no less deep and has the same names
  pub form_as : {n m : ℕ} {env0 env1 : List Bind} {a : List StepTree} {v : CoreTree} (e d : Tree) → ValueForm texts defined (e ∷ []) n env0 a m env1 v → weight e ≤ weight d → source_depth e ≤ source_depth d → ((y : ℕ) → sure d y ≡ sure e y) → ValueForm texts defined (d ∷ []) n env0 a m env1 v
  form_as {n} {m} {env0} {env1} {a} {v} e d one heavier deeper same = record {
    names = binds_as texts (all_sure (trees (e ∷ []))) (all_sure (trees (d ∷ []))) (λ y. ap (λ b. b || false) (same y)) one.names;
    drawn = one.drawn;
    enough = let p = one.enough in omega arith;
    steps = steps_wider texts (all_depth (trees (e ∷ []))) (all_depth (trees (d ∷ []))) a (omega arith) one.steps;
    lowered = one.lowered;
    no_run = one.no_run;
    shallow = let deep : depth v + 2 ≤ depth_per_level * all_depth (trees (e ∷ [])) = one.shallow in omega arith;
    argument = λ simple. let deep = one.argument simple in omega arith;
    in_scope = one.in_scope;
  }

-- ---- the whole

module _ (texts : Texts) where
  steps_lowered : (d : ℕ) (ss : List StepTree) → Each (IsLoweredStep texts d) ss → StepsHold (lowered texts) (steps ss)
  steps_lowered d [] all = tt
  steps_lowered d (s ∷ ss) all = (all.0.variables, all.0.value, steps_lowered d ss all.1)

  steps_differ : (d : ℕ) (ss : List StepTree) (e : CoreTree) → Each (IsLoweredStep texts d) ss → VariablesDiffer (c.lets (steps ss) e)
  steps_differ d [] e all = tt
  steps_differ d (s ∷ ss) e all = (all.0.differ, steps_differ d ss e all.1)

  pub run_lowered : (d : ℕ) (ss : List StepTree) (v e : CoreTree) → Each (IsLoweredStep texts d) ss → IsLowered texts v → IsNoRun v → Finishes ss v e → IsLowered texts e
  run_lowered d [] v e all lowered no_run is = subst (IsLowered texts) (sym is) lowered
  run_lowered d (s ∷ ss) v e all lowered no_run is = subst (IsLowered texts) (sym is) (
    (tt, (((tt, no_run), (tt, tt)), (steps_differ d (s ∷ ss) v all, tt, tt))),
    steps_lowered d (s ∷ ss) all,
    lowered,
  )

  steps_shallow : (d : ℕ) (ss : List StepTree) → Each (IsLoweredStep texts d) ss → 1 ≤ d → steps_depth (steps ss) + 2 ≤ depth_per_level * d
  steps_shallow d [] all some = omega arith
  steps_shallow d (s ∷ ss) all some =
      let one : depth s.value + 2 ≤ depth_per_level * d = all.0.shallow in let rest = steps_shallow d ss all.1 some in omega arith

  pub run_shallow : (d : ℕ) (ss : List StepTree) (v e : CoreTree) → Each (IsLoweredStep texts d) ss → IsShallow d v → Finishes ss v e → depth e + 1 ≤ depth_per_level * d
  run_shallow d [] v e all deep is = let same = ap depth is in omega arith
  run_shallow d (s ∷ ss) v e all deep is = let same = ap depth is in let rest = steps_shallow d (s ∷ ss) all (omega arith) in omega arith
