-- Small modules that meet the conditions, or break one by one part.
use Rattle.std.specs.Prelude.{ℕ, pos, [], ◌∷◌, codes}
use Rattle.ef_base.specs.Texts.{Texts}
use Rattle.ef_core.specs.declared.literal.CoreVar.TheVariants.{Numbered}
use Rattle.ef_core.specs.declared.literal.FName.{FName}
use Rattle.ef_core.specs.Tree.{CoreModuleTree, CoreTree, a_fun, apply, atom, bin, end, fun_name, int, lit, lit_list, more_lits, no_lits, no_segments, segment, var}

abbrev pub names : Texts
names = codes "f" ∷ codes "g" ∷ codes "integer" ∷ codes "unsigned" ∷ codes "big" ∷ []

-- the function of this name that takes nothing
abbrev pub constant : ℕ → FName
constant n = record { name = record { index = n }; arity = 0 }

-- `'f'/0 = fun () -> body`, alone in its module
abbrev pub module_of : CoreTree → CoreModuleTree
module_of body = record {
  name = record { index = 0 };
  exports = constant 0 ∷ [];
  attributes = [];
  defs = record { name = constant 0; params = []; body = body } ∷ [];
}

-- a function of two variables that gives the first
abbrev pub function_of : ℕ → ℕ → CoreTree
function_of i j = a_fun (Numbered i ∷ Numbered j ∷ []) (var (Numbered i))

abbrev pub call_of : ℕ → CoreTree
call_of n = apply (fun_name (constant n)) end

-- a binary of one segment, which has this unit
abbrev pub binary_of : ℕ → CoreTree
binary_of unit =
    bin (segment (lit (int (pos 1))) (lit (int (pos 8))) (pos unit) (record { index = 2 })
    (lit_list (more_lits (atom (record { index = 3 })) (more_lits (atom (record { index = 4 })) no_lits))) no_segments)
