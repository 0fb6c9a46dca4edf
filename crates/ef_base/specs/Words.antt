-- The fixed words: texts of atoms that have a meaning of their own.
use Rattle.std.specs.Prelude.{ℕ, List, [], ◌∷◌, ◌++◌, codes}

-- reasons of failures
abbrev pub failure_words : List (List ℕ)
failure_words =
    codes "badmatch" ∷ codes "case_clause" ∷ codes "if_clause" ∷ codes "function_clause" ∷ codes "try_clause" ∷
    codes "else_clause" ∷ codes "badfun" ∷ codes "badarity" ∷ codes "badarg" ∷ codes "bad_generator" ∷ codes "bad_filter" ∷
    codes "timeout_value" ∷ codes "badrecord" ∷ codes "badarith" ∷ []

-- classes of exceptions
abbrev pub class_words : List (List ℕ)
class_words =
    codes "error" ∷ codes "exit" ∷ codes "throw" ∷ []

-- atoms with a meaning
abbrev pub atom_words : List (List ℕ)
atom_words =
    codes "true" ∷ codes "false" ∷ codes "undefined" ∷ codes "infinity" ∷ codes "EXIT" ∷ codes "erlang" ∷ codes "module_info" ∷
    codes "get_module_info" ∷ codes "all" ∷ []

-- operators
abbrev pub operator_words : List (List ℕ)
operator_words =
    codes "+" ∷ codes "-" ∷ codes "*" ∷ codes "div" ∷ codes "rem" ∷ codes "band" ∷ codes "bor" ∷ codes "bxor" ∷ codes "bnot" ∷
    codes "bsl" ∷ codes "bsr" ∷ codes "==" ∷ codes "=:=" ∷ codes "/=" ∷ codes "=/=" ∷ codes "<" ∷ codes "=<" ∷ codes ">" ∷
    codes ">=" ∷ codes "not" ∷ codes "and" ∷ codes "or" ∷ codes "xor" ∷ codes "++" ∷ codes "--" ∷ codes "!" ∷ []

-- pure built-in functions, beside the classes
abbrev pub pure_words : List (List ℕ)
pure_words =
    codes "abs" ∷ codes "hd" ∷ codes "tl" ∷ codes "length" ∷ codes "element" ∷ codes "setelement" ∷ codes "tuple_size" ∷
    codes "byte_size" ∷ codes "bit_size" ∷ codes "size" ∷ codes "binary_part" ∷ codes "max" ∷ codes "min" ∷
    codes "tuple_to_list" ∷ codes "list_to_tuple" ∷ codes "self" ∷ codes "is_atom" ∷ codes "is_binary" ∷ codes "is_bitstring" ∷
    codes "is_boolean" ∷ codes "is_function" ∷ codes "is_integer" ∷ codes "is_list" ∷ codes "is_number" ∷ codes "is_pid" ∷
    codes "is_port" ∷ codes "is_reference" ∷ codes "is_tuple" ∷ codes "is_float" ∷ codes "is_map" ∷ codes "is_record" ∷ []

-- the other functions that are imported without being named, beside `error` and `exit`
abbrev pub imported_words : List (List ℕ)
imported_words =
    codes "alias" ∷ codes "apply" ∷ codes "atom_to_binary" ∷ codes "atom_to_list" ∷ codes "binary_to_atom" ∷
    codes "binary_to_existing_atom" ∷ codes "binary_to_integer" ∷ codes "binary_to_list" ∷ codes "binary_to_term" ∷
    codes "bitstring_to_list" ∷ codes "date" ∷ codes "demonitor" ∷ codes "erase" ∷ codes "garbage_collect" ∷ codes "get" ∷
    codes "get_keys" ∷ codes "group_leader" ∷ codes "halt" ∷ codes "integer_to_binary" ∷ codes "integer_to_list" ∷
    codes "iolist_size" ∷ codes "iolist_to_binary" ∷ codes "is_alive" ∷ codes "is_process_alive" ∷ codes "link" ∷
    codes "list_to_atom" ∷ codes "list_to_binary" ∷ codes "list_to_bitstring" ∷ codes "list_to_existing_atom" ∷
    codes "list_to_integer" ∷ codes "list_to_pid" ∷ codes "make_ref" ∷ codes "monitor" ∷ codes "node" ∷ codes "nodes" ∷
    codes "now" ∷ codes "open_port" ∷ codes "pid_to_list" ∷ codes "port_close" ∷ codes "port_command" ∷ codes "process_flag" ∷
    codes "process_info" ∷ codes "processes" ∷ codes "put" ∷ codes "ref_to_list" ∷ codes "register" ∷ codes "registered" ∷
    codes "spawn" ∷ codes "spawn_link" ∷ codes "spawn_monitor" ∷ codes "spawn_opt" ∷ codes "split_binary" ∷ codes "statistics" ∷
    codes "term_to_binary" ∷ codes "time" ∷ codes "unalias" ∷ codes "unlink" ∷ codes "unregister" ∷ codes "whereis" ∷ []

-- primitive operations of Core
abbrev pub primop_words : List (List ℕ)
primop_words =
    codes "match_fail" ∷ codes "raise" ∷ codes "build_stacktrace" ∷ codes "make_fun" ∷ []

-- types and flags of segments
abbrev pub segment_words : List (List ℕ)
segment_words =
    codes "integer" ∷ codes "binary" ∷ codes "utf8" ∷ codes "signed" ∷ codes "unsigned" ∷ codes "big" ∷ codes "little" ∷ []

abbrev pub fixed_words : List (List ℕ)
fixed_words =
    failure_words ++ class_words ++ atom_words ++ operator_words
    ++ pure_words ++ imported_words ++ primop_words ++ segment_words
