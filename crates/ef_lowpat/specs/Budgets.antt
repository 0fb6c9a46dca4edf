-- What lowering may use: so many variables for each unit of the source's weight, and so much depth for each of its levels.
use Rattle.std.specs.Prelude.{ℕ}

-- ---- variables for each unit

-- of patterns
abbrev pub variables_per_pattern : ℕ
variables_per_pattern = 50

-- of the pattern of a match: for its value, its guard, its last clause and its names too
abbrev pub variables_per_match : ℕ
variables_per_match = 100

-- of expressions and bodies
abbrev pub variables_per_unit : ℕ
variables_per_unit = 500

-- of clauses of functions: for their patterns, guards and bodies
abbrev pub variables_per_clause : ℕ
variables_per_clause = 600

-- of all clauses of a function: for its last clause too
abbrev pub variables_per_case : ℕ
variables_per_case = 999

-- of a function: for its parameters too
abbrev pub variables_per_function : ℕ
variables_per_function = 1000

-- ---- depth for each level

abbrev pub depth_per_level : ℕ
depth_per_level = 16
