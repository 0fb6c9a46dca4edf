-- Texts of characters.
use Rattle.std.proofs.Common.{ℕ, ◌+◌, ◌<◌, ◌≡◌, List, [], ◌∷◌, ◌++◌, length, take, get_or, sym, ap, ◌∙◌, append-nil, chars, Bor}
use Rattle.std.specs.Prelude.{IsUtf8, encode_utf8, encode_utf8_all}
use Rattle.std.proofs.lemmas.List.{take_more}
use Rattle.std.proofs.lemmas.Str.{encodes-append, chars_from_encodes}
use Rattle.ef_base.specs.Texts.{Texts}
use Rattle.ef_token.specs.Lexeme as x
use Rattle.ef_token.specs.Lexeme.{Lexeme, IsKind}
use Rattle.ef_token.specs.declared.token.TokenKind.TheVariants as kind
use Rattle.ef_scan.specs.declared.verdict.Piece.TheVariants as piece
use Rattle.ef_scan.specs.Verdicts.{Holds}

-- one more character
pub text_more : (old new found : List ℕ) (n c : ℕ) → n < length found → c ≡ get_or found n 0 → old ≡ encode_utf8_all (take n found) → new ≡ old ++ encode_utf8 c
    → new ≡ encode_utf8_all (take (n + 1) found)
text_more old new found n c l e is more =
    more ∙ ap (λ t. t ++ encode_utf8 c) is ∙ ap (λ z. encode_utf8_all (take n found) ++ encode_utf8 z) e
    ∙ ap (λ t. encode_utf8_all (take n found) ++ t) (sym (append-nil (encode_utf8 (get_or found n 0)))) ∙ sym (encodes-append (take n found) (get_or found n 0 ∷ []))
    ∙ ap encode_utf8_all (sym (take_more found n 0 l))

-- a string whose characters are a text's
pub text_string : (all : Texts) (text : Bor (List ℕ)) (codes : List ℕ) (l : Lexeme) → IsUtf8 text.now → codes ≡ chars text.now → Holds (piece.Text text) l → IsKind all l (kind.Str codes)
text_string all text codes (x.string cs) u e h = e ∙ sym (chars_from_encodes cs text.now u (sym h))
text_string all text codes l u e h = absurd h
