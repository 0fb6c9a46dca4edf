-- The variables of patterns.
use Rattle.std.proofs.Common.{◌≡◌, ◌<◌, ◌≤◌, ◌+◌, ℕ, Bool, List, [], ◌∷◌, ◌++◌, refl, sym, ap, ◌∙◌, subst, length, drop, get_or}
use Rattle.std.specs.Prelude.{◌||◌, ◌&&◌, ◌==◌, Vec}
use Rattle.std.specs.declared.alloc.Global.{Global}
use Rattle.std.proofs.lemmas.List.{drop_all}
use Rattle.std.proofs.lemmas.List.Folds.{list_any-append}
use Rattle.ef_base.specs.declared.fault.Fault.{Fault}
use Rattle.ef_base.specs.Texts.{Texts}
use Rattle.ef_forms.specs.declared.expr.Expr.{Expr}
use Rattle.ef_forms.specs.declared.expr.Node.{Node}
use Rattle.ef_forms.specs.declared.expr.Clause.{Clause, out-Clause}
use Rattle.ef_forms.specs.OfTable.{TreesOf, GuardsOf, ClausesOf}
use Rattle.ef_forms.specs.Plain.{plain, plain_all, plain_guard, plain_clauses, plain_node}
use Rattle.ef_forms.specs.Tree.{Shape}
use Rattle.ef_forms.specs.Ways.{NameSet, bind, names, shape_names, all_names, guards_names, clauses_names, pattern_faults, pattern_shape_faults, patterns_faults, pattern_guards_faults, pattern_clauses_faults}
use Rattle.ef_forms.proofs.Bools.{or_assoc, or_false}
use Rattle.ef_scope.specs.declared.marks.Mark.TheVariants.{Safe}
use Rattle.ef_scope.specs.declared.state.State.{State}
use Rattle.ef_scope.specs.Marks.{is_at_least, mark_of}
use Rattle.ef_scope.specs.Trail.{Raises, Since, has}
use Rattle.ef_scope.specs.Walks.{Shows, Adds, Walks}
use Rattle.ef_scope.proofs.Adds.{adds_none, adds_then}
use Rattle.ef_scope.proofs.Lists.{next, next_of, tree_is}
use Rattle.ef_scope.proofs.Parts.{walks_bind}

pub has_pushed : (ns : List ℕ) (n m : ℕ) → has (ns ++ n ∷ []) m ≡ (has ns m || (n == m))
has_pushed ns n m = list_any-append (λ k. k == m) ns (n ∷ []) ∙ ap (λ z. has ns m || z) (or_false (n == m))

-- ---- nodes

pub pattern_adds : (texts : Texts) (e : Expr) (k : Node) (sh : Shape) (sets : List NameSet) (old new : List Fault) → e.node ≡ k → plain_node k ≡ sh
    → Adds (pattern_shape_faults texts e.place sh sets) old new → Adds (pattern_faults texts (plain e) sets) old new
pattern_adds texts e k sh sets old new is shape adds = subst (λ t. Adds (pattern_faults texts t sets) old new) (sym (tree_is e k sh is shape)) adds

pub pattern_names : (e : Expr) (k : Node) (sh : Shape) (m : ℕ) (b c : Bool) → e.node ≡ k → plain_node k ≡ sh → c ≡ (b || shape_names sh m) → c ≡ (b || names (plain e) m)
pattern_names e k sh m b c is shape h = h ∙ ap (λ t. b || names t m) (sym (tree_is e k sh is shape))

pub one_adds : (texts : Texts) (e f : Expr) (sets : List NameSet) (old new : List Fault) → e ≡ f → Adds (pattern_faults texts (plain e) sets) old new → Adds (pattern_faults texts (plain f) sets) old new
one_adds texts e f sets old new same adds = subst (λ g. Adds (pattern_faults texts (plain g) sets) old new) same adds

pub all_adds : (texts : Texts) (es fs : List Expr) (sets : List NameSet) (old new : List Fault) → es ≡ fs → Adds (patterns_faults texts (plain_all es) sets) old new → Adds (patterns_faults texts (plain_all fs) sets) old new
all_adds texts es fs sets old new same adds = subst (λ gs. Adds (patterns_faults texts (plain_all gs) sets) old new) same adds

pub clauses_add : (texts : Texts) (cs ds : List Clause) (sets : List NameSet) (old new : List Fault) → cs ≡ ds → Adds (pattern_clauses_faults texts (plain_clauses cs) sets) old new → Adds (pattern_clauses_faults texts (plain_clauses ds) sets) old new
clauses_add texts cs ds sets old new same adds = subst (λ gs. Adds (pattern_clauses_faults texts (plain_clauses gs) sets) old new) same adds

-- ---- lists of patterns

pub record PatternsLeft (texts : Texts) (es : List Expr) (i : ℕ) (s : State) (old found : List Fault) (before bound : List ℕ) : Type 0 where
  pub names : TreesOf texts (plain_all (drop i es))
  pub faults : (sets : List NameSet) → Shows sets s → (new : List Fault) → Adds (patterns_faults texts (plain_all (drop i es)) sets) found new → Adds (patterns_faults texts (plain_all es) sets) old new
  pub binds : (m : ℕ) → (has bound m || all_names (plain_all (drop i es)) m) ≡ (has before m || all_names (plain_all es) m)

pub patterns_none : (texts : Texts) (es : List Expr) (s : State) (found : List Fault) (bound : List ℕ) → TreesOf texts (plain_all es) → PatternsLeft texts es 0 s found found bound bound
patterns_none texts es s found bound names = record { names = names; faults = λ sets shows new left. left; binds = λ m. refl }

pub patterns_more : (texts : Texts) (es : List Expr) (i : ℕ) (e : Expr) (s : State) (old found found' : List Fault) (before bound bound' : List ℕ) → i < length es → e ≡ get_or es i e → PatternsLeft texts es i s old found before bound
    → ((sets : List NameSet) → Shows sets s → Adds (pattern_faults texts (plain e) sets) found found') → ((m : ℕ) → has bound' m ≡ (has bound m || names (plain e) m)) → PatternsLeft texts es (i + 1) s old found' before bound'
patterns_more texts es i e s old found found' before bound bound' small read was adds names_of =
    let at = next es i e small read in
    let rest = plain_all (drop (i + 1) es) in
    record {
      names = (subst (λ l. TreesOf texts (plain_all l)) at was.names).1;
      faults = λ sets shows new left. was.faults sets shows new (subst (λ l. Adds (patterns_faults texts (plain_all l) sets) found new) (sym at)
          (adds_then found found' new (pattern_faults texts (plain e) sets) (patterns_faults texts rest sets) (adds sets shows) left));
      binds = λ m. ap (λ z. z || all_names rest m) (names_of m) ∙ or_assoc (has bound m) (names (plain e) m) (all_names rest m) ∙ ap (λ l. has bound m || all_names (plain_all l) m) (sym at) ∙ was.binds m;
    }

module _ (texts : Texts) (es : List Expr) (i : ℕ) (s : State) (old found : List Fault) (before bound : List ℕ) (over : length es ≤ i) (was : PatternsLeft texts es i s old found before bound) where
  pub patterns_faults_end : (sets : List NameSet) → Shows sets s → Adds (patterns_faults texts (plain_all es) sets) old found
  patterns_faults_end sets shows = was.faults sets shows found (subst (λ l. Adds (patterns_faults texts (plain_all l) sets) found found) (sym (drop_all i es over)) (adds_none found))

  pub patterns_names_end : (m : ℕ) → has bound m ≡ (has before m || all_names (plain_all es) m)
  patterns_names_end m = sym (or_false (has bound m)) ∙ ap (λ l. has bound m || all_names (plain_all l) m) (sym (drop_all i es over)) ∙ was.binds m

-- ---- the tests of a guard, in what can't be a pattern

pub record TestsLeft (texts : Texts) (gs : List (Vec Expr Global)) (i : ℕ) (s : State) (old found : List Fault) (before bound : List ℕ) : Type 0 where
  pub names : GuardsOf texts (plain_guard (drop i gs))
  pub faults : (sets : List NameSet) → Shows sets s → (new : List Fault) → Adds (pattern_guards_faults texts (plain_guard (drop i gs)) sets) found new → Adds (pattern_guards_faults texts (plain_guard gs) sets) old new
  pub binds : (m : ℕ) → (has bound m || guards_names (plain_guard (drop i gs)) m) ≡ (has before m || guards_names (plain_guard gs) m)

pub tests_none : (texts : Texts) (gs : List (Vec Expr Global)) (s : State) (found : List Fault) (bound : List ℕ) → GuardsOf texts (plain_guard gs) → TestsLeft texts gs 0 s found found bound bound
tests_none texts gs s found bound names = record { names = names; faults = λ sets shows new left. left; binds = λ m. refl }

pub tests_more : (texts : Texts) (gs read_gs : List (Vec Expr Global)) (i : ℕ) (g : Vec Expr Global) (tests : List Expr) (s : State) (old found found' : List Fault) (before bound bound' : List ℕ) → read_gs ≡ gs → i < length read_gs → g ≡ get_or read_gs i g → tests ≡ g.items
    → TestsLeft texts gs i s old found before bound → ((sets : List NameSet) → Shows sets s → Adds (patterns_faults texts (plain_all tests) sets) found found')
    → ((m : ℕ) → has bound' m ≡ (has bound m || all_names (plain_all tests) m)) → TestsLeft texts gs (i + 1) s old found' before bound'
tests_more texts gs read_gs i g tests s old found found' before bound bound' whole small read is was adds names_of =
    let at = next_of gs read_gs i g whole small read in
    let rest = plain_guard (drop (i + 1) gs) in
    let es = plain_all g.items in
    record {
      names = (subst (λ l. GuardsOf texts (plain_guard l)) at was.names).1;
      faults = λ sets shows new left. was.faults sets shows new (subst (λ l. Adds (pattern_guards_faults texts (plain_guard l) sets) found new) (sym at)
          (adds_then found found' new (patterns_faults texts es sets) (pattern_guards_faults texts rest sets) (all_adds texts tests _ sets found found' is (adds sets shows)) left));
      binds = λ m. ap (λ z. z || guards_names rest m) (names_of m ∙ ap (λ l. has bound m || all_names (plain_all l) m) is) ∙ or_assoc (has bound m) (all_names es m) (guards_names rest m)
          ∙ ap (λ l. has bound m || guards_names (plain_guard l) m) (sym at) ∙ was.binds m;
    }

module _ (texts : Texts) (gs read_gs : List (Vec Expr Global)) (i : ℕ) (s : State) (old found : List Fault) (before bound : List ℕ) (whole : read_gs ≡ gs) (over : length read_gs ≤ i) (was : TestsLeft texts gs i s old found before bound) where
  none_left : drop i gs ≡ []
  none_left = drop_all i gs (subst (λ l. length l ≤ i) whole over)

  pub tests_faults_end : (sets : List NameSet) → Shows sets s → Adds (pattern_guards_faults texts (plain_guard gs) sets) old found
  tests_faults_end sets shows = was.faults sets shows found (subst (λ l. Adds (pattern_guards_faults texts (plain_guard l) sets) found found) (sym none_left) (adds_none found))

  pub tests_names_end : (m : ℕ) → has bound m ≡ (has before m || guards_names (plain_guard gs) m)
  tests_names_end m = sym (or_false (has bound m)) ∙ ap (λ l. has bound m || guards_names (plain_guard l) m) (sym none_left) ∙ was.binds m

-- ---- clauses, in what can't be a pattern

pub record ClausesLeft (texts : Texts) (cs : List Clause) (i : ℕ) (s : State) (old found : List Fault) (before bound : List ℕ) : Type 0 where
  pub names : ClausesOf texts (plain_clauses (drop i cs))
  pub faults : (sets : List NameSet) → Shows sets s → (new : List Fault) → Adds (pattern_clauses_faults texts (plain_clauses (drop i cs)) sets) found new → Adds (pattern_clauses_faults texts (plain_clauses cs) sets) old new
  pub binds : (m : ℕ) → (has bound m || clauses_names (plain_clauses (drop i cs)) m) ≡ (has before m || clauses_names (plain_clauses cs) m)

pub clauses_none : (texts : Texts) (cs : List Clause) (s : State) (found : List Fault) (bound : List ℕ) → ClausesOf texts (plain_clauses cs) → ClausesLeft texts cs 0 s found found bound bound
clauses_none texts cs s found bound names = record { names = names; faults = λ sets shows new left. left; binds = λ m. refl }

module _ (texts : Texts) (cs : List Clause) (i : ℕ) (c : Clause) (ps body : List Expr) (s : State) (old found first second found' : List Fault) (before bound one two bound' : List ℕ) where
  pub clauses_more : i < length cs → c ≡ get_or cs i c → ps ≡ (out-Clause c).patterns.items → body ≡ (out-Clause c).body.items → ClausesLeft texts cs i s old found before bound
      → ((sets : List NameSet) → Shows sets s → Adds (patterns_faults texts (plain_all ps) sets) found first) → ((m : ℕ) → has one m ≡ (has bound m || all_names (plain_all ps) m))
      → ((sets : List NameSet) → Shows sets s → Adds (pattern_guards_faults texts (plain_guard (out-Clause c).guard.items) sets) first second)
      → ((m : ℕ) → has two m ≡ (has one m || guards_names (plain_guard (out-Clause c).guard.items) m))
      → ((sets : List NameSet) → Shows sets s → Adds (patterns_faults texts (plain_all body) sets) second found') → ((m : ℕ) → has bound' m ≡ (has two m || all_names (plain_all body) m))
      → ClausesLeft texts cs (i + 1) s old found' before bound'
  clauses_more small read is is' was adds names_of adds_guard guard_of adds' names_of' =
      let at = next cs i c small read in
      let rest = plain_clauses (drop (i + 1) cs) in
      let patterns = plain_all (out-Clause c).patterns.items in
      let guard = plain_guard (out-Clause c).guard.items in
      let exprs = plain_all (out-Clause c).body.items in
      record {
        names = (subst (λ l. ClausesOf texts (plain_clauses l)) at was.names).3;
        faults = λ sets shows new left. was.faults sets shows new (subst (λ l. Adds (pattern_clauses_faults texts (plain_clauses l) sets) found new) (sym at)
            (adds_then found first new (patterns_faults texts patterns sets) (pattern_guards_faults texts guard sets ++ (patterns_faults texts exprs sets ++ pattern_clauses_faults texts rest sets))
            (all_adds texts ps _ sets found first is (adds sets shows))
            (adds_then first second new (pattern_guards_faults texts guard sets) (patterns_faults texts exprs sets ++ pattern_clauses_faults texts rest sets) (adds_guard sets shows)
            (adds_then second found' new (patterns_faults texts exprs sets) (pattern_clauses_faults texts rest sets) (all_adds texts body _ sets second found' is' (adds' sets shows)) left))));
        binds = λ m. ap (λ z. z || clauses_names rest m) (names_of' m ∙ ap (λ l. has two m || all_names (plain_all l) m) is' ∙ ap (λ z. z || all_names exprs m)
            (guard_of m ∙ ap (λ z. z || guards_names guard m) (names_of m ∙ ap (λ l. has bound m || all_names (plain_all l) m) is)))
            ∙ or_assoc ((has bound m || all_names patterns m) || guards_names guard m) (all_names exprs m) (clauses_names rest m)
            ∙ or_assoc (has bound m || all_names patterns m) (guards_names guard m) (all_names exprs m || clauses_names rest m)
            ∙ or_assoc (has bound m) (all_names patterns m) (guards_names guard m || (all_names exprs m || clauses_names rest m))
            ∙ ap (λ l. has bound m || clauses_names (plain_clauses l) m) (sym at) ∙ was.binds m;
      }

module _ (texts : Texts) (cs : List Clause) (i : ℕ) (s : State) (old found : List Fault) (before bound : List ℕ) (over : length cs ≤ i) (was : ClausesLeft texts cs i s old found before bound) where
  pub clauses_faults_end : (sets : List NameSet) → Shows sets s → Adds (pattern_clauses_faults texts (plain_clauses cs) sets) old found
  clauses_faults_end sets shows = was.faults sets shows found (subst (λ l. Adds (pattern_clauses_faults texts (plain_clauses l) sets) found found) (sym (drop_all i cs over)) (adds_none found))

  pub clauses_names_end : (m : ℕ) → has bound m ≡ (has before m || clauses_names (plain_clauses cs) m)
  clauses_names_end m = sym (or_false (has bound m)) ∙ ap (λ l. has bound m || clauses_names (plain_clauses l) m) (sym (drop_all i cs over)) ∙ was.binds m

-- ---- what a pattern binds

pub walks_pattern : (t : NameSet) (g : List NameSet → List Fault) (old new : State) (x y : List Fault) (before binds ns : List ℕ) → before ≡ [] → ns ≡ binds → ((sets : List NameSet) → Shows sets old → Adds (g sets) x y)
    → ((m : ℕ) → has binds m ≡ (has before m || t m)) → Raises (has ns) Safe old new → Since old new
    → Walks (bind t) g old new x y
walks_pattern t g old new x y before binds ns none read adds names_of marks since =
    walks_bind t g old new x y (λ m least. marks m least ∙ ap (λ l. is_at_least (mark_of old.marks m) least || (has l m && is_at_least Safe least)) read
    ∙ ap (λ b. is_at_least (mark_of old.marks m) least || (b && is_at_least Safe least)) (names_of m ∙ ap (λ l. has l m || t m) none)) since adds
