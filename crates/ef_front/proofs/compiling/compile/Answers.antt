use Rattle.std.proofs.Common.{subst, arith}
use Rattle.ef_front.specs.Compiled.{IsCompiled, IsCompiledText}
use Rattle.ef_front.proofs.Found.{compiled_file, large_file}
use Rattle.ef_front.proofs.compiling.compile.Goals as goal

pub returns-in-Ok-clause-compiled : goal.returns-in-Ok-clause-compiled
returns-in-Ok-clause-compiled g c =
    let read = c.in-Ok.ensures in let result = c.in_ok-compile_text-in-Ok.field-0 in
    subst (λ path. IsCompiled (g.S.Sources.seen c.args.sources.now).files path result) c.as_text.ensures
    (compiled_file _ _ _ _ result c.new-source.ensures.items read.content read.kept
    (subst (λ source. IsCompiledText source result) c.deref.ensures.value c.in_ok-compile_text-in-Ok.ensures))

pub returns-in-Err-TooLarge-clause-compiled : goal.returns-in-Err-TooLarge-clause-compiled
returns-in-Err-TooLarge-clause-compiled g c =
    let are = c.in_ok-too_large-in-Err-TooLarge.ensures in
    let read = rw (c.in-Err-TooLarge.field-0-is, c.as_text.ensures) at c.in-Err-TooLarge.ensures.content in
    (large_file _ _ _ _ _ read are, λ none. grind (arith, are, none))
