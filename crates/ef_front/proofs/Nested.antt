-- A written module is no deeper than a text may be.
use Rattle.std.specs.Prelude.{◌*◌, ◌≤◌, ◌≡◌, List, [], ◌∷◌, ◌++◌, map, refl}
use Rattle.std.proofs.Common.{arith, ap, sym, subst}
use Rattle.ef_base.specs.Texts.{Texts}
use Rattle.ef_forms.specs.Built.{Each, functions_in}
use Rattle.ef_forms.specs.Depth.{function_depth}
use Rattle.ef_forms.specs.Tree.{FunctionTree, ModuleTree}
use Rattle.ef_core.specs.Depth.{depth, functions_depth, module_depth, terms_depth}
use Rattle.ef_core.specs.Plain.{plain_module}
use Rattle.ef_core.specs.Reads.{Reads, greatest_depth}
use Rattle.ef_core.specs.Tree.{DefTree, CoreModuleTree}
use Rattle.ef_core.proofs.Law.{reads}
use Rattle.ef_lowmod.specs.Form.{AreShallow, IsShallowFor}
use Rattle.ef_lowmod.specs.Info.{fname}
use Rattle.ef_lowmod.specs.Outline.{Outline}
use Rattle.ef_front.specs.declared.compiling.Lowered.{Lowered}
use Rattle.ef_front.specs.Compiles.{IsLoweredTo}
use Rattle.ef_front.specs.Compiled.{text_in}
use Rattle.ef_front.specs.Printed.{IsPrinted}
use Rattle.ef_front.specs.Source.{module_faults, most_depth}
use Rattle.ef_front.specs.Written.{IsWritten}
use Rattle.ef_front.proofs.Small.{all_small, each_of}

abbrev pub IsNested : FunctionTree → Type 0
IsNested f = function_depth f ≤ most_depth

module_nested : (names : Texts) (m : ModuleTree) → module_faults names m ≡ [] → Each IsNested (functions_in m.forms)
module_nested names m none = each_of (functions_in m.forms) (all_small names m.forms none) (λ f small. small.shallow)

-- ---- what is lowered

functions_shallow : (gs : List FunctionTree) (ds behind : List DefTree) → map (λ (d : DefTree). d.name) ds ≡ map (λ (f : FunctionTree). fname f.name f.arity) gs → AreShallow gs (ds ++ behind) → Each IsNested gs → functions_depth behind ≤ greatest_depth
    → functions_depth (ds ++ behind) ≤ greatest_depth
functions_shallow [] [] behind same shallow nested last = last
functions_shallow [] (d ∷ ds) behind same shallow nested last = cc
functions_shallow (g ∷ gs) [] behind same shallow nested last = cc
functions_shallow (g ∷ gs) (d ∷ ds) behind same shallow nested last =
    let here : depth d.body ≤ 16 * function_depth g = shallow.0 in
    let within : function_depth g ≤ 128 = nested.0 in
    let rest : map (λ (d : DefTree). d.name) ds ≡ map (λ (f : FunctionTree). fname f.name f.arity) gs = cc in
    let others : functions_depth (ds ++ behind) ≤ 2048 = functions_shallow gs ds behind rest shallow.1 nested.1 last in
    omega arith

module_shallow : (all : Texts) (m : ModuleTree) (t : CoreModuleTree) → Outline all m t → IsShallowFor m t → Each IsNested (functions_in m.forms) → module_depth t ≤ greatest_depth
module_shallow all m t is shallow nested =
    let defs : functions_depth t.defs ≤ 2048 =
    subst (λ ds. functions_depth ds ≤ 2048) (sym is.defs)
    (functions_shallow (functions_in m.forms) is.functions _ is.in_order (subst (AreShallow (functions_in m.forms)) is.defs shallow) nested (omega arith)) in
    let terms : terms_depth t.attributes ≡ 0 = ap terms_depth is.attributes in
    omega arith

-- what is lowered from a module without a fault is read back
read_back : (names : Texts) (m : ModuleTree) (l : Lowered) → module_faults names m ≡ [] → IsLoweredTo names m l → Reads l.names (text_in l) (plain_module l.«module»)
read_back names m l none is =
    reads l.names (plain_module l.«module») is.utf8 is.readable (module_shallow l.names m (plain_module l.«module») is.outline is.shallow (module_nested names m none))

pub written : (names : Texts) (m : ModuleTree) (l : Lowered) → module_faults names m ≡ [] → IsLoweredTo names m l → IsWritten l.names m (text_in l)
written names m l none is = record {
  core = plain_module l.«module»;
  read = read_back names m l none is;
  outline = is.outline;
  let_form = is.let_form;
  shallow = is.shallow;
  means = is.means;
}

pub printed : (names : Texts) (m : ModuleTree) (l : Lowered) → module_faults names m ≡ [] → IsLoweredTo names m l → IsPrinted (text_in l)
printed names m l none is = record {
  names = l.names;
  core = plain_module l.«module»;
  read = read_back names m l none is;
  is = refl;
}
