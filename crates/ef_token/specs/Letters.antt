-- Erlang's classes of characters, with the letters of Latin-1 (Reference Manual, character set and atoms).
use Rattle.std.specs.Prelude.{ℕ, ◌==◌, ◌||◌, Bool}
use Rattle.ef_base.specs.Characters.{is_within, is_digit, is_lower, is_upper, is_white}
pub use Rattle.ef_base.specs.Escaped.{is_quote}

-- a small letter, with which an unquoted atom begins: U+00F7 is none
abbrev pub begins_atom : ℕ → Bool
begins_atom c = is_lower c || is_within 223 246 c || is_within 248 255 c

-- a capital letter or `_`, with which a variable begins: U+00D7 is none
abbrev pub begins_variable : ℕ → Bool
begins_variable c = is_upper c || is_within 192 214 c || is_within 216 222 c

-- what both go on with: letters, digits, `_` and `@`
abbrev pub continues_name : ℕ → Bool
continues_name c = begins_atom c || begins_variable c || is_digit c || c == 64

-- white space, or the `%` of a comment
abbrev pub begins_gap : ℕ → Bool
begins_gap c = is_white c || c == 37

-- the printing characters of ASCII but the space
abbrev pub is_printing : ℕ → Bool
is_printing c = is_within 33 126 c
