-- The outline of a lowered module.
use Rattle.std.specs.Prelude.{◌≡◌, Bool, not, ◌&&◌, nat_le, bytes_eq, codes, List, [], ◌∷◌, ◌++◌, map, filter}
use Rattle.ef_base.specs.Texts.{Texts, text}
use Rattle.ef_core.specs.Tree.{DefTree, CoreModuleTree}
use Rattle.ef_forms.specs.declared.tables.FunctionName.{FunctionName}
use Rattle.ef_forms.specs.Tree.{ModuleTree}
use Rattle.ef_forms.specs.Built.{functions_in, exports_in}
use Rattle.ef_lowmod.specs.declared.info.Fixed.{Fixed}
use Rattle.ef_lowmod.specs.Info.{AreFixed, fname, info_def, item_def}

-- not `module_info/0` nor `module_info/1`
abbrev pub is_other : Texts → FunctionName → Bool
is_other all f = not (bytes_eq (text all f.name) (codes "module_info") && nat_le f.arity 1)

-- the name and the exports of the source, and its functions in order; behind both, `module_info/0` and `/1`
pub record Outline (all : Texts) (m : ModuleTree) (t : CoreModuleTree) : Type 0 where
  pub fixed : Fixed
  pub are_fixed : AreFixed all fixed
  pub name : t.name ≡ m.name
  pub exports : t.exports ≡ map (λ f. fname f.name f.arity) (filter (is_other all) (exports_in m.forms)) ++ (fname fixed.module_info 0 ∷ fname fixed.module_info 1 ∷ [])
  pub attributes : t.attributes ≡ []
  pub functions : List DefTree
  pub defs : t.defs ≡ functions ++ (info_def fixed m.name ∷ item_def fixed m.name ∷ [])
  pub in_order : map (λ (d : DefTree). d.name) functions ≡ map (λ f. fname f.name f.arity) (functions_in m.forms)
