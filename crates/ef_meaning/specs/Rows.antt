-- What small modules show, as examples of both meanings.
use Rattle.std.specs.Prelude.{◌≡◌, ℕ, suc, codes, pos, List, [], ◌∷◌}
use Rattle.ef_forms.specs.Tree.{ModuleTree}
use Rattle.ef_core.specs.Tree.{CoreModuleTree}
use Rattle.ef_meaning.specs.Value.{Value, Integer, Atom, Tuple, Local, Made, values_of, list_value, pair_value}
use Rattle.ef_meaning.specs.Exception.{Error, Exit, function_clause, badmatch, case_clause}
use Rattle.ef_meaning.specs.Outside.{Item, Answer, Raise, Arrive, TimeUp, CallBack, Returned, Excepted, Event, Called, GaveBack}
use Rattle.ef_meaning.specs.End.{End, Gives, Raises, Waits, More}
use Rattle.ef_meaning.specs.Runs.{Run, Shown, shown, source_run, core_run, KeepsMeaning}
use Rattle.ef_meaning.specs.Examples.{table, identity, core_identity, two_calls, core_two_calls, dropped_value, core_dropped_value, endless, core_endless, ordered, core_ordered, outside_call, core_outside_call}
use Rattle.ef_meaning.specs.Matching.{first_pair, across, taken_apart, named_value, core_named_value, same_twice, core_same_twice, bound_before, core_bound_before, bound_beside, core_bound_beside, two_answers, core_two_answers}
use Rattle.ef_meaning.specs.Branching.{unwrapped, core_unwrapped, tagged_value, core_tagged_value, nested_case, core_nested_case, bound_inside, core_bound_inside, same_answer, core_same_answer}

abbrev number : ℕ → Value
number n = Integer (pos n)

-- f/1 on a value, with these items
abbrev pub on : Value → List Item → Run
on v is = record { name = codes "f"; arguments = v ∷ []; own = 0; items = is }

-- f/0
abbrev pub on_nothing : List Item → Run
on_nothing is = record { name = codes "f"; arguments = []; own = 0; items = is }

abbrev pub seen : List Event → Shown
seen es = record { events = es; mailbox = [] }

-- both meanings end so at this bound
abbrev pub BothShow : ModuleTree → CoreModuleTree → Run → ℕ → End Value Shown → Type 0
BothShow m t r n e = (shown (source_run table m r n) ≡ e) × (shown (core_run table t r n) ≡ e)

-- g:h on a number, and g:i on a number and the atom a
abbrev called_h : ℕ → Event
called_h n = Called (codes "g") (codes "h") (number n ∷ [])

abbrev called_i : ℕ → Event
called_i n = Called (codes "g") (codes "i") (number n ∷ Atom (codes "a") ∷ [])

pub record Rows : Type 0 where
  -- on any value, that value
  pub parameter : (v : Value) (n : ℕ) → BothShow identity core_identity (on v []) (suc n) (Gives v (seen []))
  -- two calls, the second with the answer of the first
  pub answered : BothShow two_calls core_two_calls (on (number 5) (Answer (number 1) ∷ Answer (number 2) ∷ [])) 5 (Gives (number 2) (seen (called_h 5 ∷ called_i 1 ∷ [])))
  -- an exception ends the run
  pub raised : BothShow two_calls core_two_calls (on (number 5) (Raise Exit (Atom (codes "z")) ∷ [])) 5 (Raises Exit (Atom (codes "z")) (seen (called_h 5 ∷ [])))
  -- without items it waits
  pub waiting : BothShow two_calls core_two_calls (on (number 5) []) 5 (Waits (seen (called_h 5 ∷ [])))
  -- a call whose value is not used is made
  pub dropped : BothShow dropped_value core_dropped_value (on (number 5) (Answer (number 1) ∷ [])) 5 (Gives (number 5) (seen (called_h 5 ∷ [])))
  -- at every bound it goes on, and shows nothing
  pub goes_on : (v : Value) (n : ℕ) → BothShow endless core_endless (on v []) n (More (seen []))
  -- arguments are evaluated from left to right, and before the call; so are the items of a tuple
  pub left_to_right : BothShow ordered core_ordered (on (number 5) (Answer (number 1) ∷ Answer (number 2) ∷ Answer (number 3) ∷ [])) 5
      (Gives (number 3) (seen (Called (codes "i") (codes "j") [] ∷ Called (codes "l") (codes "m") [] ∷ Called (codes "g") (codes "h") (number 5 ∷ number 1 ∷ number 2 ∷ []) ∷ [])))
  pub items_left_to_right : BothShow two_answers core_two_answers (on_nothing (Answer (number 1) ∷ Answer (number 2) ∷ [])) 5
      (Gives (pair_value (number 1) (number 2)) (seen (Called (codes "g") (codes "a") [] ∷ Called (codes "g") (codes "b") [] ∷ [])))
  -- an answer that holds a fun which was not made is passed over, and so is the end of a time
  pub passed_over : BothShow outside_call core_outside_call (on (number 5) (Answer (Made 1 0) ∷ TimeUp ∷ Answer (number 2) ∷ [])) 5 (Gives (number 2) (seen (called_h 5 ∷ [])))
  -- a message that arrives in a call stands in the mailbox afterwards
  pub arriving : BothShow outside_call core_outside_call (on (number 5) (Arrive (number 7) ∷ Answer (number 2) ∷ [])) 5 (Gives (number 2) (record { events = called_h 5 ∷ []; mailbox = number 7 ∷ [] }))
  -- a call in which the outside applies f/1, which makes a call of its own
  pub called_back : BothShow outside_call core_outside_call (on (number 5) (CallBack (Local (codes "f") 1) (number 7 ∷ []) ∷ Answer (number 1) ∷ Answer (number 2) ∷ [])) 5
      (Gives (number 2) (seen (called_h 5 ∷ called_h 7 ∷ GaveBack (Returned (number 1)) ∷ [])))
  -- with another number of arguments
  pub called_badly : BothShow outside_call core_outside_call (on (number 5) (CallBack (Local (codes "f") 1) (number 7 ∷ number 8 ∷ []) ∷ Answer (number 2) ∷ [])) 5
      (Gives (number 2) (seen (called_h 5 ∷ GaveBack (Excepted Error (pair_value (Atom (codes "badarity")) (pair_value (Local (codes "f") 1) (list_value (number 7 ∷ number 8 ∷ []))))) ∷ [])))
  -- each module has `module_info`
  pub information : BothShow identity core_identity (record { name = codes "module_info"; arguments = []; own = 0; items = Answer (number 1) ∷ [] }) 5
      (Gives (number 1) (seen (Called (codes "erlang") (codes "get_module_info") (Atom (codes "m") ∷ []) ∷ [])))

-- the source ends so at this bound
abbrev pub SourceShows : ModuleTree → Run → ℕ → End Value Shown → Type 0
SourceShows m r n e = shown (source_run table m r n) ≡ e

-- f/2
abbrev pub on_both : Value → Value → Run
on_both u v = record { name = codes "f"; arguments = u ∷ v ∷ []; own = 0; items = [] }

pub record MatchRows : Type 0 where
  -- a name that stands twice compares, and clauses are tried in order
  pub pair_at_front : SourceShows first_pair (on (list_value (number 1 ∷ number 1 ∷ number 2 ∷ [])) []) 5 (Gives (pair_value (number 1) (list_value (number 2 ∷ []))) (seen []))
  pub last_alone : SourceShows first_pair (on (list_value (number 1 ∷ number 2 ∷ [])) []) 5 (Gives (number 2) (seen []))
  pub no_items : SourceShows first_pair (on (list_value []) []) 5 (Gives (Atom (codes "z")) (seen []))
  pub no_list : SourceShows first_pair (on (number 1) []) 5 (Raises Error function_clause (seen []))
  -- names are compared across the parameters
  pub compared_across : SourceShows across (on_both (pair_value (number 1) (pair_value (number 2) (number 1))) (number 2)) 5 (Gives (pair_value (number 1) (number 2)) (seen []))
  pub not_across : SourceShows across (on_both (pair_value (number 1) (pair_value (number 2) (number 3))) (number 2)) 5 (Raises Error function_clause (seen []))
  -- a match takes an answer apart, and binds for what comes later
  pub same_parts : SourceShows taken_apart (on (number 5) (Answer (pair_value (number 1) (number 1)) ∷ [])) 5 (Gives (pair_value (number 1) (number 1)) (seen (called_h 5 ∷ [])))
  pub other_parts : SourceShows taken_apart (on (number 5) (Answer (pair_value (number 1) (number 2)) ∷ [])) 5 (Raises Error (badmatch (number 2)) (seen (called_h 5 ∷ [])))
  pub no_parts : SourceShows taken_apart (on (number 5) (Answer (Atom (codes "a")) ∷ [])) 5 (Raises Error (badmatch (Atom (codes "a"))) (seen (called_h 5 ∷ [])))
  -- a name that is bound before, or by an element before, compares
  pub compared_before : BothShow bound_before core_bound_before (on (number 2) []) 5 (Raises Error (badmatch (number 1)) (seen []))
  pub bound_the_same : BothShow bound_before core_bound_before (on (number 1) []) 5 (Gives (pair_value (number 1) (number 1)) (seen []))
  pub compared_beside : BothShow bound_beside core_bound_beside (on_nothing []) 5 (Raises Error (badmatch (number 2)) (seen []))
  -- Core compares by a call that shows nothing
  pub equal_twice : BothShow same_twice core_same_twice (on (pair_value (number 1) (number 1)) []) 5 (Gives (number 1) (seen []))
  pub other_twice : BothShow same_twice core_same_twice (on (pair_value (number 1) (number 2)) []) 5 (Raises Error function_clause (seen []))
  pub no_tuple : BothShow same_twice core_same_twice (on (Atom (codes "x")) []) 5 (Raises Error function_clause (seen []))
  -- the outside applies the function that called it
  pub called_back : BothShow outside_call core_outside_call (on (Atom (codes "a")) (CallBack (Local (codes "f") 1) (number 2 ∷ []) ∷ Answer (Atom (codes "ok")) ∷ Answer (Atom (codes "done")) ∷ [])) 5
      (Gives (Atom (codes "done")) (seen (Called (codes "g") (codes "h") (Atom (codes "a") ∷ []) ∷ called_h 2 ∷ GaveBack (Returned (Atom (codes "ok"))) ∷ [])))

pub record CaseRows : Type 0 where
  -- a name that every clause binds is bound behind the case: by a pattern, or by a body
  pub bound_by_pattern : BothShow unwrapped core_unwrapped (on (pair_value (Atom (codes "ok")) (number 3)) []) 5 (Gives (number 3) (seen []))
  pub bound_by_body : BothShow unwrapped core_unwrapped (on (Atom (codes "a")) []) 5 (Gives (Atom (codes "a")) (seen []))
  pub second_clause : BothShow tagged_value core_tagged_value (on (pair_value (Atom (codes "error")) (number 2)) []) 5 (Gives (number 2) (seen []))
  -- where no clause matches
  pub no_clause : BothShow tagged_value core_tagged_value (on (Atom (codes "b")) []) 5 (Raises Error (case_clause (Atom (codes "b"))) (seen []))
  -- a case over a case: the names of the inner one are bound in the clauses of the outer one, and behind it
  pub inner_name : BothShow nested_case core_nested_case (on (number 1) []) 5 (Gives (pair_value (Atom (codes "a")) (Atom (codes "a"))) (seen []))
  pub outer_name : BothShow nested_case core_nested_case (on (number 5) []) 5 (Gives (pair_value (Atom (codes "b")) (number 0)) (seen []))
  -- a name that is bound by a case before compares
  pub compared_equal : BothShow bound_inside core_bound_inside (on (number 3) []) 5 (Gives (Atom (codes "a")) (seen []))
  pub compared_other : BothShow bound_inside core_bound_inside (on (Tuple (values_of (number 3 ∷ []))) []) 5 (Gives (Atom (codes "b")) (seen []))
  -- the value is evaluated once
  pub evaluated_once : BothShow same_answer core_same_answer (on (Atom (codes "a")) (Answer (Atom (codes "a")) ∷ [])) 5 (Gives (Atom (codes "same")) (seen (Called (codes "g") (codes "h") (Atom (codes "a") ∷ []) ∷ [])))

-- on every run the Core of these modules shows what their source does, and goes on where it does
pub record CoreKeeps : Type 0 where
  pub answered : KeepsMeaning table two_calls core_two_calls
  pub dropped : KeepsMeaning table dropped_value core_dropped_value
  pub left_to_right : KeepsMeaning table ordered core_ordered
  pub named : KeepsMeaning table named_value core_named_value
  pub tagged : KeepsMeaning table tagged_value core_tagged_value
