-- Core modules that the promise refuses: what they mean, computed.
use Rattle.std.specs.Prelude.{◌≡◌, ℕ, suc, codes, List, [], ◌∷◌, ◌++◌}
use Rattle.ef_base.specs.declared.name.Name.{Name}
use Rattle.ef_base.specs.Texts.{Texts, AllDiffer}
use Rattle.ef_core.specs.declared.literal.CoreVar.TheVariants.{Named, Numbered}
use Rattle.ef_core.specs.Layout.{text_of}
use Rattle.ef_core.specs.Reads.{Reads}
use Rattle.ef_core.specs.Plain as plain
use Rattle.ef_core.specs.Plain.{ClauseTree}
use Rattle.ef_core.specs.Tree as c
use Rattle.ef_core.specs.Tree.{PatTree, CoreModuleTree}
use Rattle.ef_meaning.specs.Value.{Value, Atom}
use Rattle.ef_meaning.specs.End.{Gives, Wrong}
use Rattle.ef_meaning.specs.Runs.{KeepsMeaning, core_run, shown}
use Rattle.ef_meaning.specs.Examples.{table, f_name, x_name, error_name, function_clause_name, numbered, identity, core_var, core_atom, core_function, core_with}
use Rattle.ef_meaning.specs.Matching.{core_clause, core_case, core_last, pat, always}
use Rattle.ef_meaning.specs.Rows.{on, seen}

-- f(X) -> X., by a clause that takes each value
abbrev pub right_clause : ClauseTree
right_clause = core_clause (pat 3 ∷ []) always (core_var 3)

abbrev pub by_cases : List ClauseTree → CoreModuleTree
by_cases cs = core_with (core_function f_name 1 (Numbered 0 ∷ []) (core_case (core_var 0) cs) ∷ [])

-- a clause of these patterns stands before the right one, or behind the last
abbrev pub before : List PatTree → CoreModuleTree
before ps = by_cases (core_clause ps always (core_var 0) ∷ right_clause ∷ core_last function_clause_name 4 5 ∷ [])

abbrev pub behind : List PatTree → CoreModuleTree
behind ps = by_cases (right_clause ∷ core_last function_clause_name 4 5 ∷ core_clause ps always (core_var 0) ∷ [])

-- it has no meaning on any value, and so does not keep the source
pub record IsRefused (m : CoreModuleTree) : Type 0 where
  pub wrong : (v : Value) (n : ℕ) → core_run table m (on v []) (suc n) ≡ Wrong
  pub keeps_nothing : KeepsMeaning table identity m → ⊥

-- ---- a table with two numbers of one text

abbrev pub repeating : Texts
repeating = table ++ codes "X" ∷ []

-- f/1 = fun (_0) -> let X = _0 in let X = 'error' in X, with a number of each variable
abbrev pub two_lets : Name → Name → CoreModuleTree
two_lets x y = core_with (core_function f_name 1 (Numbered 0 ∷ [])
    (c.lets (plain.steps (record { vars = Named x ∷ []; value = core_var 0 } ∷ record { vars = Named y ∷ []; value = core_atom error_name } ∷ [])) (c.var (Named x))) ∷ [])

abbrev pub two_numbers : CoreModuleTree
two_numbers = two_lets x_name (numbered 30)

abbrev pub one_number : CoreModuleTree
one_number = two_lets x_name x_name

-- one text says both modules; it is read as the first, which keeps the meaning of f(X) -> X., and means the second
pub record RepeatsText : Type 0 where
  pub read : Reads repeating (text_of repeating two_numbers) two_numbers
  pub same_text : text_of repeating two_numbers ≡ text_of repeating one_number
  pub kept : KeepsMeaning repeating identity two_numbers
  pub said : (v : Value) (n : ℕ) → shown (core_run repeating one_number (on v []) (suc n)) ≡ Gives (Atom (codes "error")) (seen [])
  pub refused : AllDiffer repeating → ⊥

pub record RefusedRows : Type 0 where
  -- case _0 of <_1,_2> when 'true' -> _0; <_3> when 'true' -> _3; ..
  pub clause_of_other_width_passed_over : IsRefused (before (pat 1 ∷ pat 2 ∷ []))
  pub clause_of_other_width_behind : IsRefused (behind (pat 1 ∷ pat 2 ∷ []))
  pub clause_without_patterns : IsRefused (before [])
  -- a binary as a pattern, and inside of one
  pub binary_passed_over : IsRefused (before (c.pat_bin c.no_pat_segments ∷ []))
  pub binary_inside : IsRefused (before (c.pat_tuple (plain.pats (pat 1 ∷ c.pat_bin c.no_pat_segments ∷ [])) ∷ []))
  pub later_table_repeats_a_text : RepeatsText
