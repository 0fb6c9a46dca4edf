use Rattle.std.proofs.Common.{◌∙◌, ap, sym}
use Rattle.std.specs.Option.{option_map}
use Rattle.ef_build.specs.Values.{clauses_of}
use Rattle.ef_parse.proofs.Answers as answer
use Rattle.ef_parse.proofs.spelled.clauses.Goals as goal

pub returns-in-Ok-None-clause-refused : goal.returns-in-Ok-None-clause-refused
returns-in-Ok-None-clause-refused c = λ all later.
    answer.clauses_unspelled all c.args.tokens.now c.syntax_error.result c.syntax_error.ensures
    (answer.no_clauses_of_function_at_all all c.args.tokens.now (rw c.in-Ok-None.field-0-is at (c.in-Ok-None.ensures all later)))

pub returns-in_default-clause-refused : goal.returns-in_default-clause-refused
returns-in_default-clause-refused c = λ all later.
    answer.clauses_unspelled all c.args.tokens.now c.syntax_error-in_default.result c.syntax_error-in_default.ensures
    (answer.no_clauses_of_function all c.args.tokens.now c.in-Ok-Some.single (rw c.in-Ok-Some.field-0-is at (c.in-Ok-Some.ensures all later)) (sym c.as_clauses.ensures ∙ ap (option_map clauses_of) c.in_default.is))

pub returns-then-single-clause-refused : goal.returns-then-single-clause-refused
returns-then-single-clause-refused c = λ all later.
    answer.clauses_deep all c.args.tokens.now c.too_deep.result c.too_deep.ensures
    (answer.clauses_of_function_too_deep all c.args.tokens.now c.in-Ok-Some.single (rw c.in-Ok-Some.field-0-is at (c.in-Ok-Some.ensures all later)) c.in-Some.group (sym c.as_clauses.ensures ∙ ap (option_map clauses_of) c.in-Some.is) c.if-single.true)

pub returns-clause-read : goal.returns-clause-read
returns-clause-read c = λ all later.
    answer.clauses_of_function all c.args.tokens.now c.in-Ok-Some.single (rw c.in-Ok-Some.field-0-is at (c.in-Ok-Some.ensures all later)) c.in-Some.group (sym c.as_clauses.ensures ∙ ap (option_map clauses_of) c.in-Some.is) c.if-single.false

pub returns-clause-of_table : goal.returns-clause-of_table
returns-clause-of_table c = λ all later.
    answer.clauses_of_table c.args.names.now all c.args.tokens.now _ c.requires later
    (answer.clauses_of_function all c.args.tokens.now c.in-Ok-Some.single (rw c.in-Ok-Some.field-0-is at (c.in-Ok-Some.ensures all later)) c.in-Some.group (sym c.as_clauses.ensures ∙ ap (option_map clauses_of) c.in-Some.is) c.if-single.false)
