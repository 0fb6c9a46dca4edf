-- The names that every module has, and the functions `module_info/0` and `/1`.
use Rattle.std.specs.Prelude.{ℕ, codes, [], ◌∷◌}
use Rattle.ef_base.specs.declared.name.Name.{Name}
use Rattle.ef_base.specs.Texts.{Texts, IsNameOf}
use Rattle.ef_core.specs.declared.literal.CoreVar.TheVariants.{Numbered}
use Rattle.ef_core.specs.declared.literal.FName.{FName}
use Rattle.ef_core.specs.Tree.{DefTree, atom, var, lit, call, end, more}
use Rattle.ef_lowmod.specs.declared.info.Fixed.{Fixed}

pub record AreFixed (all : Texts) (fixed : Fixed) : Type 0 where
  pub module_info : IsNameOf all fixed.module_info (codes "module_info")
  pub erlang : IsNameOf all fixed.erlang (codes "erlang")
  pub get_module_info : IsNameOf all fixed.get_module_info (codes "get_module_info")

abbrev pub fname : Name → ℕ → FName
fname n arity = record { name = n; arity = arity }

-- `module_info/0` of a module
abbrev pub info_def : Fixed → Name → DefTree
info_def fixed m = record {
  name = fname fixed.module_info 0;
  params = [];
  body = call (lit (atom fixed.erlang)) (lit (atom fixed.get_module_info)) (more (lit (atom m)) end);
}

-- `module_info/1` of a module
abbrev pub item_def : Fixed → Name → DefTree
item_def fixed m = record {
  name = fname fixed.module_info 1;
  params = Numbered 0 ∷ [];
  body = call (lit (atom fixed.erlang)) (lit (atom fixed.get_module_info)) (more (lit (atom m)) (more (var (Numbered 0)) end));
}
