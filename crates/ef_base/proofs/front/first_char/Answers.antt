use Rattle.std.proofs.Common.{rules, arith, length, ◌+◌, ◌≡◌, ◌++◌, ap, ◌∙◌, length-append}
use Rattle.std.specs.Prelude.{encode_utf8}
use Rattle.std.specs.Char.{len_utf8}
use Rattle.std.proofs.lemmas.Str.{chars_past_char, IsUtf8-past_char, length-encode, len_utf8_bounds}
use Rattle.ef_base.proofs.front.first_char.Goals as goal

pub returns-clause-some : goal.returns-clause-some
returns-clause-some c =
    let text = c.args.text.now in
    let rest = c.as_str.result.now in
    let d = c.in_ok-c.c in
    let e : c.args.text.now ≡ encode_utf8 c.in_ok-c.c ++ c.as_str.result.now = search rules in
    let n : length c.args.text.now ≡ length (encode_utf8 c.in_ok-c.c) + length c.as_str.result.now = ap length e ∙ length-append (encode_utf8 d) rest in
    let m : length (encode_utf8 c.in_ok-c.c) ≡ len_utf8 c.in_ok-c.c = length-encode d in
    let k = (len_utf8_bounds d).0 in
    (chars_past_char text rest d c.utf8.text e, omega arith, IsUtf8-past_char text rest d c.utf8.text e)
