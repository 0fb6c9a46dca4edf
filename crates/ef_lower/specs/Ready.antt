-- Trees that can be lowered.
use Rattle.std.specs.Prelude.{ℕ, ◌≡◌, ◌≤◌, ◌+◌, ◌*◌, List, [], ◌∷◌, codes, length}
use Rattle.ef_base.specs.Texts.{Texts}
use Rattle.ef_core.specs.declared.env.Bind.{Bind}
use Rattle.ef_core.specs.Everywhere.{Each}
use Rattle.ef_core.specs.Fresh.{most_variables}
pub use Rattle.ef_core.specs.Lowered.{IsReadableBind}
use Rattle.ef_forms.specs.declared.tables.FunctionName.{FunctionName}
use Rattle.ef_forms.specs.Tree.{Tree, Trees}
use Rattle.ef_forms.specs.Built.{IsBuiltTree, AreBuilt, ArePatterns, IsNarrow, AreNarrow}
use Rattle.ef_forms.specs.OfTable.{TreeOf, TreesOf}
use Rattle.ef_forms.specs.Plain.{ClauseTree, trees}
use Rattle.ef_forms.specs.Ways.{NameSet, union, all_names, faults, all_faults, body_faults}
use Rattle.ef_lowpat.specs.Budgets.{variables_per_unit}
use Rattle.ef_meaning.specs.Lowers.{AreBelow}
pub use Rattle.ef_meaning.specs.Named.{bound_names}

-- the tree is built, its names are of the table, and its variables are among the bound names
pub record IsReady (texts : Texts) (defined : List FunctionName) (bound : NameSet) (e : Tree) : Type 0 where
  pub built : IsBuiltTree texts defined e
  pub narrow : IsNarrow e
  pub of_table : TreeOf texts e
  pub no_faults : faults texts e (bound ∷ []) ≡ []

-- the same of each of these
pub record AreReady (texts : Texts) (defined : List FunctionName) (bound : NameSet) (es : Trees) : Type 0 where
  pub built : AreBuilt texts defined es
  pub narrow : AreNarrow es
  pub of_table : TreesOf texts es
  pub no_faults : all_faults texts es (bound ∷ []) ≡ []

-- a clause of one pattern, whose body can be lowered with the names of the pattern
pub record IsReadyClause (texts : Texts) (defined : List FunctionName) (bound : NameSet) (c : ClauseTree) : Type 0 where
  pub unguarded : c.guard ≡ []
  pub one : length c.patterns ≡ 1
  pub patterns : ArePatterns (trees c.patterns)
  pub named : TreesOf texts (trees c.patterns)
  pub some : 1 ≤ length c.body
  pub built : AreBuilt texts defined (trees c.body)
  pub narrow : AreNarrow (trees c.body)
  pub of_table : TreesOf texts (trees c.body)
  pub no_faults : body_faults texts (trees c.body) (union bound (all_names (trees c.patterns)) ∷ []) ≡ []

-- the variables of the environment were drawn before, and there are as many left as this weight takes
pub record HasPlace (texts : Texts) (n : ℕ) (env : List Bind) (weight : ℕ) : Type 0 where
  pub readable : Each (IsReadableBind texts) env
  pub below : AreBelow n env
  pub enough : n + variables_per_unit * weight ≤ most_variables

-- the texts that are named in what trees are lowered to
abbrev pub lower_words : List (List ℕ)
lower_words = codes "erlang" ∷ codes "=:=" ∷ codes "true" ∷ codes "match_fail" ∷ codes "badmatch" ∷ codes "case_clause" ∷ []
