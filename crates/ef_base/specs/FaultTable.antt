-- The table of faults: the code of each, and what is printed behind it. A code of this table stands nowhere else.
use Rattle.std.specs.Prelude.{ℕ, List, [], if◌then◌else◌, ◌==◌, codes}

-- ---- codes; those of scanning and of parsing have no words

abbrev pub not_utf8 : ℕ
not_utf8 = 101

abbrev pub illegal_character : ℕ
illegal_character = 102

abbrev pub unterminated : ℕ
unterminated = 103

abbrev pub illegal_escape : ℕ
illegal_escape = 104

abbrev pub atom_too_long : ℕ
atom_too_long = 105

abbrev pub illegal_base : ℕ
illegal_base = 106

abbrev pub illegal_number : ℕ
illegal_number = 107

abbrev pub lone_dollar : ℕ
lone_dollar = 108

abbrev pub no_full_stop : ℕ
no_full_stop = 110

abbrev pub latin : ℕ
latin = 112

abbrev pub float : ℕ
float = 501

abbrev pub integer_too_large : ℕ
integer_too_large = 504

abbrev pub sigil : ℕ
sigil = 506

abbrev pub triple_quotes : ℕ
triple_quotes = 507

abbrev pub syntax_error : ℕ
syntax_error = 301

abbrev pub too_deep : ℕ
too_deep = 608

-- of a file; the words of the first are the path, and the others have none
abbrev pub no_file : ℕ
no_file = 232

abbrev pub no_module : ℕ
no_module = 308

abbrev pub not_built : ℕ
not_built = 500

abbrev pub file_too_large : ℕ
file_too_large = 601

-- of a use of a variable, whose name is the words
abbrev pub unbound : ℕ
unbound = 451

abbrev pub unsafe : ℕ
unsafe = 452

-- of forms and of their heads; the words of a malformed attribute, and of one behind functions, are its name
abbrev pub head_mismatch : ℕ
head_mismatch = 302

abbrev pub malformed_module : ℕ
malformed_module = 303

abbrev pub malformed_export : ℕ
malformed_export = 304

abbrev pub malformed_import : ℕ
malformed_import = 305

abbrev pub malformed_record : ℕ
malformed_record = 306

abbrev pub malformed_attribute : ℕ
malformed_attribute = 307

abbrev pub second_module : ℕ
second_module = 309

abbrev pub form_before_module : ℕ
form_before_module = 310

abbrev pub after_functions : ℕ
after_functions = 311

abbrev pub fun_head_mismatch : ℕ
fun_head_mismatch = 312

abbrev pub too_many_functions : ℕ
too_many_functions = 606

abbrev pub too_many_arguments : ℕ
too_many_arguments = 607

abbrev pub function_too_large : ℕ
function_too_large = 609

-- of what is outside the profile, without words
abbrev pub float_operation : ℕ
float_operation = 502

abbrev pub map : ℕ
map = 503

abbrev pub zip_generator : ℕ
zip_generator = 505

abbrev pub strict_generator : ℕ
strict_generator = 508

abbrev pub map_function : ℕ
map_function = 509

abbrev pub utf_segment : ℕ
utf_segment = 510

abbrev pub size_expression : ℕ
size_expression = 511

abbrev pub not_in_profile : ℕ
not_in_profile = 512

-- of a use of a macro; the words are its name, or none
abbrev pub undefined_macro : ℕ
undefined_macro = 201

abbrev pub wrong_arguments : ℕ
wrong_arguments = 202

abbrev pub circular_macro : ℕ
circular_macro = 203

abbrev pub illegal_call : ℕ
illegal_call = 204

abbrev pub illegal_arguments : ℕ
illegal_arguments = 205

abbrev pub illegal_stringify : ℕ
illegal_stringify = 206

abbrev pub too_many_tokens : ℕ
too_many_tokens = 604

-- of a definition of a macro; the words are its name, or none
abbrev pub malformed_define : ℕ
malformed_define = 207

abbrev pub redefined : ℕ
redefined = 208

abbrev pub predefined : ℕ
predefined = 209

abbrev pub malformed_undef : ℕ
malformed_undef = 234

abbrev pub too_many_macros : ℕ
too_many_macros = 605

-- of a condition, without words
abbrev pub illegal_condition : ℕ
illegal_condition = 221

abbrev pub condition_fails : ℕ
condition_fails = 222

abbrev pub no_boolean : ℕ
no_boolean = 223

abbrev pub out_of_range : ℕ
out_of_range = 224

abbrev pub malformed_name_test : ℕ
malformed_name_test = 235

abbrev pub no_open_condition : ℕ
no_open_condition = 236

abbrev pub after_else : ℕ
after_else = 237

abbrev pub condition_not_closed : ℕ
condition_not_closed = 238

abbrev pub malformed_condition : ℕ
malformed_condition = 239

-- of the other directives; the words of the second are the text that was written
abbrev pub malformed_include : ℕ
malformed_include = 231

abbrev pub error_kept : ℕ
error_kept = 240

abbrev pub malformed_directive : ℕ
malformed_directive = 241

abbrev pub include_depth : ℕ
include_depth = 602

abbrev pub too_many_includes : ℕ
too_many_includes = 603

-- ---- texts

-- what a fault says, before its words and after them
pub record Wording : Type 0 where
  pub before : List ℕ
  pub after : List ℕ

-- of macros and directives
abbrev pub directive_wording : ℕ → Wording
directive_wording code =
    if code == undefined_macro then (record { before = codes "undefined macro "; after = [] })
    else if code == wrong_arguments then (record { before = codes "wrong arguments of macro "; after = [] })
    else if code == circular_macro then (record { before = codes "circular macro "; after = [] })
    else if code == illegal_call then (record { before = codes "illegal macro call"; after = [] })
    else if code == illegal_arguments then (record { before = codes "illegal arguments of macro "; after = [] })
    else if code == illegal_stringify then (record { before = codes "illegal stringify"; after = [] })
    else if code == too_many_tokens then (record { before = codes "too many tokens"; after = [] })
    else if code == malformed_define then (record { before = codes "malformed define"; after = [] })
    else if code == redefined then (record { before = codes "macro "; after = codes " redefined" })
    else if code == predefined then (record { before = codes "macro "; after = codes " is predefined" })
    else if code == malformed_undef then (record { before = codes "malformed undef"; after = [] })
    else if code == too_many_macros then (record { before = codes "too many macros"; after = [] })
    else if code == illegal_condition then (record { before = codes "illegal condition"; after = [] })
    else if code == condition_fails then (record { before = codes "condition fails"; after = [] })
    else if code == no_boolean then (record { before = codes "condition is no boolean"; after = [] })
    else if code == out_of_range then (record { before = codes "condition out of range"; after = [] })
    else if code == malformed_name_test then (record { before = codes "malformed condition"; after = [] })
    else if code == no_open_condition then (record { before = codes "no open condition"; after = [] })
    else if code == after_else then (record { before = codes "after else"; after = [] })
    else if code == condition_not_closed then (record { before = codes "condition not closed"; after = [] })
    else if code == malformed_condition then (record { before = codes "malformed condition"; after = [] })
    else if code == malformed_include then (record { before = codes "malformed include"; after = [] })
    else if code == error_kept then (record { before = codes "-error: "; after = [] })
    else if code == malformed_directive then (record { before = codes "malformed directive"; after = [] })
    else if code == include_depth then (record { before = codes "include depth"; after = [] })
    else if code == too_many_includes then (record { before = codes "too many includes"; after = [] })
    else record { before = []; after = [] }

abbrev pub wording : ℕ → Wording
wording code =
    if code == not_utf8 then (record { before = codes "not UTF-8"; after = [] })
    else if code == illegal_character then (record { before = codes "illegal character"; after = [] })
    else if code == unterminated then (record { before = codes "unterminated text"; after = [] })
    else if code == illegal_escape then (record { before = codes "illegal escape"; after = [] })
    else if code == atom_too_long then (record { before = codes "atom too long"; after = [] })
    else if code == illegal_base then (record { before = codes "illegal base"; after = [] })
    else if code == illegal_number then (record { before = codes "illegal number"; after = [] })
    else if code == lone_dollar then (record { before = codes "illegal character literal"; after = [] })
    else if code == no_full_stop then (record { before = codes "missing full stop"; after = [] })
    else if code == latin then (record { before = codes "latin-1 source"; after = [] })
    else if code == float then (record { before = codes "float"; after = [] })
    else if code == integer_too_large then (record { before = codes "integer too large"; after = [] })
    else if code == sigil then (record { before = codes "sigil"; after = [] })
    else if code == triple_quotes then (record { before = codes "triple-quoted string"; after = [] })
    else if code == syntax_error then (record { before = codes "syntax error"; after = [] })
    else if code == too_deep then (record { before = codes "nesting too deep"; after = [] })
    else if code == no_file then (record { before = codes "no file "; after = [] })
    else if code == no_module then (record { before = codes "no module attribute"; after = [] })
    else if code == not_built then (record { before = codes "not built"; after = [] })
    else if code == file_too_large then (record { before = codes "file too large"; after = [] })
    else if code == unbound then (record { before = codes "variable "; after = codes " is unbound" })
    else if code == unsafe then (record { before = codes "variable "; after = codes " is unsafe here" })
    else if code == head_mismatch then (record { before = codes "head mismatch"; after = [] })
    else if code == malformed_module then (record { before = codes "malformed attribute "; after = [] })
    else if code == malformed_export then (record { before = codes "malformed attribute "; after = [] })
    else if code == malformed_import then (record { before = codes "malformed attribute "; after = [] })
    else if code == malformed_record then (record { before = codes "malformed attribute "; after = [] })
    else if code == malformed_attribute then (record { before = codes "malformed attribute "; after = [] })
    else if code == second_module then (record { before = codes "second module attribute"; after = [] })
    else if code == form_before_module then (record { before = codes "form before module attribute"; after = [] })
    else if code == after_functions then (record { before = codes "attribute "; after = codes " after functions" })
    else if code == fun_head_mismatch then (record { before = codes "fun head mismatch"; after = [] })
    else if code == float_operation then (record { before = codes "float operation"; after = [] })
    else if code == map then (record { before = codes "map"; after = [] })
    else if code == zip_generator then (record { before = codes "zip generator"; after = [] })
    else if code == strict_generator then (record { before = codes "strict generator"; after = [] })
    else if code == map_function then (record { before = codes "map function"; after = [] })
    else if code == utf_segment then (record { before = codes "utf segment"; after = [] })
    else if code == size_expression then (record { before = codes "size expression"; after = [] })
    else if code == not_in_profile then (record { before = codes "not in this profile"; after = [] })
    else if code == too_many_functions then (record { before = codes "too many functions"; after = [] })
    else if code == function_too_large then (record { before = codes "function too large"; after = [] })
    else if code == too_many_arguments then (record { before = codes "too many arguments"; after = [] })
    else directive_wording code
