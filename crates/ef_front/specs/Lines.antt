-- The lines that are printed.
use Rattle.std.specs.Prelude.{ℕ, List, ◌++◌, codes}
use Rattle.std.specs.List.{flat_map}
use Rattle.std.specs.Fmt.{decimal}
use Rattle.ef_base.specs.declared.fault.Fault.{Fault}
use Rattle.ef_base.specs.FaultTable.{wording}

abbrev pub usage_line : List ℕ
usage_line = codes "usage: erlfront [-I dir] [-D name[=term]] [--lib app=dir] [-o out] [--check|--core|--gen] file\n"

abbrev pub memory_line : List ℕ
memory_line = codes "erlfront: out of memory\n"

abbrev pub write_line : List ℕ
write_line = codes "erlfront: write fault\n"

abbrev pub read_line : List ℕ → List ℕ
read_line path = codes "erlfront: " ++ path ++ codes ": read fault\n"

-- what the fault says, to the end of its line
abbrev pub text_of : Fault → List ℕ
text_of fault = codes ": " ++ (wording fault.code).before ++ fault.words ++ (wording fault.code).after ++ codes "\n"

-- the line of a fault in the file of this path
abbrev pub line_of : List ℕ → Fault → List ℕ
line_of path fault =
    path ++ codes ":" ++ decimal fault.place.line ++ codes ":" ++ decimal fault.place.column ++ codes ": E" ++ decimal fault.code
    ++ text_of fault

-- the lines of the faults, in order
abbrev pub image : List ℕ → List Fault → List ℕ
image path faults = flat_map (line_of path) faults
