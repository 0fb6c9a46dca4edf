-- Each fault by its name: its place, its code and its words.
use Rattle.std.specs.Prelude.{ℕ, List, []}
use Rattle.ef_base.specs.declared.fault.Fault.{Fault}
use Rattle.ef_base.specs.declared.fault.Place.{Place}
use Rattle.ef_base.specs.Positions.{first_position, place_at}
use Rattle.ef_base.specs.FaultTable as table

-- the start of the main file
abbrev pub start : Place
start = place_at 0 first_position

-- a fault without words
abbrev pub plain : Place → ℕ → Fault
plain place code = record { place = place; code = code; words = [] }

-- a fault that names something
abbrev pub naming : Place → ℕ → List ℕ → Fault
naming place code words = record { place = place; code = code; words = words }

abbrev pub syntax_error : Place → Fault
syntax_error place = plain place table.syntax_error

abbrev pub too_deep : Place → Fault
too_deep place = plain place table.too_deep

abbrev pub no_file : List ℕ → Fault
no_file path = record { place = start; code = table.no_file; words = path }

abbrev pub no_module : Fault
no_module = plain start table.no_module

abbrev pub not_built : Fault
not_built = plain start table.not_built

abbrev pub file_too_large : Fault
file_too_large = plain start table.file_too_large

abbrev pub unbound : Place → List ℕ → Fault
unbound place name = record { place = place; code = table.unbound; words = name }

abbrev pub unsafe : Place → List ℕ → Fault
unsafe place name = record { place = place; code = table.unsafe; words = name }
