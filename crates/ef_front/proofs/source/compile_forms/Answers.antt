use Rattle.std.proofs.Common.{subst, IfOk}
use Rattle.ef_forms.specs.Plain.{plain_module}
use Rattle.ef_base.specs.Laws.{extends_same}
use Rattle.ef_module.specs.Modules.{lists, IsModule, AreModuleFaults}
use Rattle.ef_front.specs.declared.compiling.Compiled.TheVariants.{Faulty}
use Rattle.ef_front.specs.Compiles.{IsCompiledForms}
use Rattle.ef_front.proofs.Chain.{before_compiled, faulty_compiled, if_ok, module_compiled, module_narrow, module_whole}
use Rattle.ef_front.proofs.Taken.{empty_list, some_list}
use Rattle.ef_front.proofs.source.compile_forms.Goals as goal

pub compile_module-requires-clause-of_table : goal.compile_module-requires-clause-of_table
compile_module-requires-clause-of_table c = c.in-Ok.ensures.of_table c.module-read.new.names (extends_same c.module-read.new.names)

pub compile_module-requires-clause-narrow : goal.compile_module-requires-clause-narrow
compile_module-requires-clause-narrow c = λ built.
    let names = c.module-read.new.names in
    let is = subst (λ ts. IsModule names (plain_module c.in-Ok.«module») (lists ts)) c.deref.ensures.value (c.in-Ok.ensures.read names (extends_same names)) in
    module_narrow names (plain_module c.in-Ok.«module») (lists c.args.forms.items) is.reads built

pub compile_module-requires-clause-whole : goal.compile_module-requires-clause-whole
compile_module-requires-clause-whole c =
    let names = c.module-read.new.names in
    let is = subst (λ ts. IsModule names (plain_module c.in-Ok.«module») (lists ts)) c.deref.ensures.value (c.in-Ok.ensures.read names (extends_same names)) in
    module_whole names (plain_module c.in-Ok.«module») (lists c.args.forms.items) is.reads

pub returns-then-not-is_empty : goal.returns-then-not-is_empty
returns-then-not-is_empty c =
    let names = c.module-read.new.names in
    let is = subst (λ ts. IsModule names (plain_module c.in-Ok.«module») (lists ts)) c.deref.ensures.value (c.in-Ok.ensures.read names (extends_same names)) in
    subst (λ ns. IsCompiledForms ns (lists c.args.forms.items) c.args.found (Faulty c.args.found)) c.in-Ok.ensures.kept
    (before_compiled names (plain_module c.in-Ok.«module») (lists c.args.forms.items) c.args.found (some_list c.args.found c.is_empty.result c.is_empty.ensures c.if-not-is_empty.true) is)

pub returns-in-Ok : goal.returns-in-Ok
returns-in-Ok c =
    let names = c.module-read.new.names in
    let is = subst (λ ts. IsModule names (plain_module c.in-Ok.«module») (lists ts)) c.deref.ensures.value (c.in-Ok.ensures.read names (extends_same names)) in
    let none = empty_list c.args.found c.is_empty.result c.is_empty.ensures c.if-not-is_empty.false in
    subst (λ ns. IfOk c.compile_module.result (IsCompiledForms ns (lists c.args.forms.items) c.args.found)) c.in-Ok.ensures.kept
    (if_ok c.compile_module.result _ _ (λ r made. module_compiled names (plain_module c.in-Ok.«module») (lists c.args.forms.items) c.args.found r none is made) c.compile_module.ensures)

pub returns-in-Err-Faulty : goal.returns-in-Err-Faulty
returns-in-Err-Faulty c =
    let names = c.module-read.new.names in
    let refused = rw c.in-Err-Faulty.field-0-is at (c.in-Err-Faulty.ensures.refused names (extends_same names)) in
    let are = subst (λ ts. AreModuleFaults names (lists ts) c.in-Err-Faulty.faults) c.deref.ensures.value refused in
    let sum = rw c.in-Err-Faulty.field-0-is at c.in_ok-append-in-Err-Faulty.ensures in
    let new = c.append.new.self in
    subst (λ ns. IsCompiledForms ns (lists c.args.forms.items) c.args.found (Faulty new)) c.in-Err-Faulty.ensures.kept
    (faulty_compiled names (lists c.args.forms.items) c.args.found new c.in-Err-Faulty.faults c.requires.set are sum)
