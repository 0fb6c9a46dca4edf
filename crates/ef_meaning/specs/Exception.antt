-- Exceptions: their classes, and the reasons of failures (Erlang Reference Manual, "Errors and Error Handling").
use Rattle.std.specs.Prelude.{codes, List}
use Rattle.ef_meaning.specs.Value.{Value, Atom, list_value, pair_value}

pub data Class : Type 0 where
  Error : Class
  Exit : Class
  Throw : Class

-- no clause of a function matches
abbrev pub function_clause : Value
function_clause = Atom (codes "function_clause")

-- a value that does not match the pattern of `=`
abbrev pub badmatch : Value → Value
badmatch v = pair_value (Atom (codes "badmatch")) v

-- no clause of a `case` matches
abbrev pub case_clause : Value → Value
case_clause v = pair_value (Atom (codes "case_clause")) v

-- the module or the function of a remote call is no atom
abbrev pub badarg : Value
badarg = Atom (codes "badarg")

-- what is applied is no fun
abbrev pub badfun : Value → Value
badfun f = pair_value (Atom (codes "badfun")) f

-- a fun is applied to another number of arguments
abbrev pub badarity : Value → List Value → Value
badarity f vs = pair_value (Atom (codes "badarity")) (pair_value f (list_value vs))
