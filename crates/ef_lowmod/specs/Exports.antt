-- The test of exported functions, by the number of the name.
use Rattle.std.specs.Prelude.{Bool, not, ◌&&◌, ◌==◌, nat_le}
use Rattle.ef_forms.specs.declared.tables.FunctionName.{FunctionName}
use Rattle.ef_lowmod.specs.declared.info.Fixed.{Fixed}

-- not `module_info/0` nor `module_info/1`
abbrev pub is_other_by : Fixed → FunctionName → Bool
is_other_by fixed f = not (f.name.index == fixed.module_info.index && nat_le f.arity 1)
