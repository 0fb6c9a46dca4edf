-- What the words of the command line ask for.
use Rattle.std.specs.Prelude.{ℕ, ◌-◌, List, [], ◌∷◌, ◌++◌, Bool, true, false, if◌then◌else◌, ◌==◌, Option, None, Some, codes, take, drop, length}
use Rattle.std.specs.Str.{bytes_eq}
use Rattle.ef_front.specs.declared.job.Job.{Job}

-- a word that is not empty and no option; `-` alone is none
abbrev pub is_plain : List ℕ → Bool
is_plain [] = false
is_plain (c ∷ []) = true
is_plain (c ∷ d ∷ word) = if c == 45 then false else true

-- a path without a last `.erl`
abbrev pub stem_of : List ℕ → List ℕ
stem_of path =
    if bytes_eq (drop (length path - 4) path) (codes ".erl") then take (length path - 4) path else path

-- the output of a path
abbrev pub out_of : List ℕ → List ℕ
out_of path = stem_of path ++ codes ".core"

abbrev pub job_of_word : List ℕ → Option Job
job_of_word word = if is_plain word then Some (record { path = word; out = out_of word }) else None

-- exactly one plain word
abbrev pub job_of : List (List ℕ) → Option Job
job_of [] = None
job_of (word ∷ []) = job_of_word word
job_of (word ∷ other ∷ words) = None
