use Rattle.std.proofs.Common.{◌≡◌, ◌++◌, ap, append_assoc, codes, List, ℕ, ◌∙◌, OnOk, Result, Ok, Err}
use Rattle.std.specs.Fmt.{decimal}
use Rattle.ef_front.specs.Lines.{text_of}
use Rattle.ef_front.proofs.listing.push_line.Goals as goal

-- one more part, and one more number behind some bytes
behind : (old p rest x y : List ℕ) → x ≡ old ++ p → y ≡ x ++ rest → y ≡ old ++ (p ++ rest)
behind old p rest x y x_is y_is = y_is ∙ ap (λ l. l ++ rest) x_is ∙ append_assoc old p rest

number : (old p k n x y : List ℕ) → x ≡ old ++ p → y ≡ x ++ k ++ n → y ≡ old ++ (p ++ k ++ n)
number old p k n x y x_is y_is = y_is ∙ ap (λ l. l ++ k ++ n) x_is ∙ ap (λ l. l ++ n) (append_assoc old p k) ∙ append_assoc old (p ++ k) n

-- whatever the last part is
joined : (old path line column code rest a b c d e : List ℕ) → a ≡ old ++ path → b ≡ a ++ codes ":" ++ line → c ≡ b ++ codes ":" ++ column → d ≡ c ++ codes ": E" ++ code → e ≡ d ++ rest
    → e ≡ old ++ (path ++ codes ":" ++ line ++ codes ":" ++ column ++ codes ": E" ++ code ++ rest)
joined old path line column code rest a b c d e a_is b_is c_is d_is e_is =
    let one = path ++ codes ":" ++ line in
    let two = one ++ codes ":" ++ column in
    let three = two ++ codes ": E" ++ code in
    behind old three rest d e (number old two (codes ": E") code c d (number old one (codes ":") column b c (number old path (codes ":") line a b a_is b_is) c_is) d_is) e_is

on_ok : {T E : Type 0} (r : Result T E) (P Q : Type 0) → (P → Q) → OnOk r P → OnOk r Q
on_ok (Ok x) P Q f p = f p
on_ok (Err x) P Q f p = p

pub returns : goal.returns
returns c =
    let fault = c.args.fault.now in
    on_ok c.push_text.result _ _
    (joined c.args.text.now.items c.args.path.now (decimal fault.place.line) (decimal fault.place.column) (decimal fault.code) (text_of fault)
    c.extend_from_slice.new.self.items c.push_number.new.text.items c.push_number-2.new.text.items c.push_number-3.new.text.items c.push_text.new.text.items
    c.in_ok-extend_from_slice.ensures.items c.in_ok-push_number.ensures c.in_ok-push_number-2.ensures
    (c.in_ok-push_number-3.ensures ∙ ap (λ n. c.push_number-2.new.text.items ++ codes ": E" ++ decimal n) c.from.ensures))
    c.push_text.ensures
