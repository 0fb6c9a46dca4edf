-- The examples, computed.
use Rattle.std.proofs.Common.{◌≡◌, ℕ, zero, suc, inl, codes, [], ◌∷◌, refl, sym, ap, ◌∙◌, arith}
use Rattle.ef_meaning.specs.Value.{Value, Nil, Local}
use Rattle.ef_meaning.specs.End.{Gives, More, Wrong, and_then}
use Rattle.ef_meaning.specs.Called.{apply}
use Rattle.ef_meaning.specs.Source as source
use Rattle.ef_meaning.specs.Core as core
use Rattle.ef_core.specs.Tree.{CoreModuleTree}
use Rattle.ef_meaning.specs.Runs.{KeepsMeaning, core_run, shown, start}
use Rattle.ef_meaning.specs.Examples.{table, identity, endless, core_endless}
use Rattle.ef_meaning.specs.Refused.{IsRefused, RefusedRows}
use Rattle.ef_meaning.specs.Rows.{CaseRows, MatchRows, Rows, on, seen}
use Rattle.ef_meaning.proofs.TwoNumbers.{reads_two, two_numbers_keep}

abbrev w : source.Module
w = source.module_of table endless

abbrev cw : core.CoreModule
cw = core.module_of table core_endless

endless_on : (n : ℕ) (v : Value) (s : source.Source) → apply (source.side w) (source.levels w n) (Local (codes "f") 1) (v ∷ []) s ≡ More s
endless_on zero v s = refl
endless_on (suc n) v s = ap (λ e. source.value_only (source.beside ((record { index = 9 }, v) ∷ []) e)) (endless_on n v s)

core_endless_on : (n : ℕ) (v : Value) (s : core.Target) → apply (core.side cw) (core.levels cw n) (Local (codes "f") 1) (v ∷ []) s ≡ More s
core_endless_on zero v s = refl
core_endless_on (suc n) v s = ap (λ e. and_then (core.one_value e) core.single) (core_endless_on n v s)

pub rows_hold : Rows
rows_hold = record {
  parameter = λ v n. (refl, refl);
  answered = (refl, refl);
  raised = (refl, refl);
  waiting = (refl, refl);
  dropped = (refl, refl);
  goes_on = λ v n. (ap shown (endless_on n v (start (on v []) [])), ap shown (core_endless_on n v (start (on v []) (record { made = []; entries = [] }))));
  left_to_right = (refl, refl);
  items_left_to_right = (refl, refl);
  passed_over = (refl, refl);
  arriving = (refl, refl);
  called_back = (refl, refl);
  called_badly = (refl, refl);
  information = (refl, refl);
}

pub match_rows_hold : MatchRows
match_rows_hold = record {
  pair_at_front = refl;
  last_alone = refl;
  no_items = refl;
  no_list = refl;
  compared_across = refl;
  not_across = refl;
  same_parts = refl;
  other_parts = refl;
  no_parts = refl;
  compared_before = (refl, refl);
  bound_the_same = (refl, refl);
  compared_beside = (refl, refl);
  equal_twice = (refl, refl);
  other_twice = (refl, refl);
  no_tuple = (refl, refl);
  called_back = (refl, refl);
}

pub case_rows_hold : CaseRows
case_rows_hold = record {
  bound_by_pattern = (refl, refl);
  bound_by_body = (refl, refl);
  second_clause = (refl, refl);
  no_clause = (refl, refl);
  inner_name = (refl, refl);
  outer_name = (refl, refl);
  compared_equal = (refl, refl);
  compared_other = (refl, refl);
  evaluated_once = (refl, refl);
}

-- ---- what is refused

-- a module that is wrong at each bound above 0 does not end where the source does
keeps_nothing : (m : CoreModuleTree) (s : core.Target) → core_run table m (on Nil []) 0 ≡ More s → ((n : ℕ) → core_run table m (on Nil []) (suc n) ≡ Wrong) → KeepsMeaning table identity m → ⊥
keeps_nothing m s first wrong keeps = let reached = keeps.source_first (on Nil []) (record { exported = inl (inl (refl, refl)); proper = refl }) 1 in by reached.0 reached.1
  where
    by : (n : ℕ) → shown (core_run table m (on Nil []) n) ≡ Gives Nil (seen []) → ⊥
    by zero is = let bad = sym (ap shown first) ∙ is in absurd cc
    by (suc n) is = let bad = sym (ap shown (wrong n)) ∙ is in absurd cc

refused : (m : CoreModuleTree) (s : core.Target) → core_run table m (on Nil []) 0 ≡ More s → ((v : Value) (n : ℕ) → core_run table m (on v []) (suc n) ≡ Wrong) → IsRefused m
refused m s first wrong = record { wrong = wrong; keeps_nothing = keeps_nothing m s first (λ n. wrong Nil n) }

pub refused_rows_hold : RefusedRows
refused_rows_hold = record {
  clause_of_other_width_passed_over = refused _ _ refl (λ v n. refl);
  clause_of_other_width_behind = refused _ _ refl (λ v n. refl);
  clause_without_patterns = refused _ _ refl (λ v n. refl);
  binary_passed_over = refused _ _ refl (λ v n. refl);
  binary_inside = refused _ _ refl (λ v n. refl);
  later_table_repeats_a_text = record {
    read = reads_two;
    same_text = refl;
    kept = two_numbers_keep;
    said = λ v n. refl;
    refused = λ differ. let same : 9 ≡ 30 = differ 9 30 (codes "X") refl refl in absurd (omega arith);
  };
}
