-- Texts of ASCII, whose characters are their bytes, and texts of characters.
use Rattle.std.specs.Prelude.{ℕ, ◌≡◌, ◌&&◌, Bool, true, false, List, [], ◌∷◌, ◌++◌, encode_utf8_all, refl}
use Rattle.std.proofs.Common.{ap, ◌∙◌, arith}
use Rattle.std.proofs.lemmas.Bool.Decides.{nat_tests}
use Rattle.std.proofs.lemmas.Str.{encode_ascii}
use Rattle.std.proofs.Math.Utf8.{scalar, scalars, low_scalar}
use Rattle.ef_base.specs.Characters.{Each}
use Rattle.ef_base.proofs.Classes.{is_ascii, ascii_small, each_weaker}
use Rattle.ef_token.specs.Letters.{is_printing}

plain_is_ascii : (c : ℕ) → is_printing c ≡ true → is_ascii c ≡ true
plain_is_ascii c h = grind (arith, nat_tests)

pub plain_ascii : (cs : List ℕ) → Each is_printing cs → Each is_ascii cs
plain_ascii cs h = each_weaker is_printing is_ascii cs plain_is_ascii h

pub encodes_ascii : (cs : List ℕ) → Each is_ascii cs → encode_utf8_all cs ≡ cs
encodes_ascii [] h = refl
encodes_ascii (c ∷ cs) h = ap (λ t. t ++ encode_utf8_all cs) (encode_ascii c (ascii_small c h.0)) ∙ ap (λ t. c ∷ t) (encodes_ascii cs h.1)

-- ---- characters

pub ascii_scalar : (c : ℕ) → is_ascii c ≡ true → scalar c ≡ true
ascii_scalar c h = low_scalar c (omega (arith, ascii_small c h))

pub all_scalars : (cs : List ℕ) → Each scalar cs → scalars cs ≡ true
all_scalars [] h = refl
all_scalars (c ∷ cs) h = rw (h.0, all_scalars cs h.1) refl

both : (a b : Bool) → (a && b) ≡ true → (a ≡ true) × (b ≡ true)
both true b e = (refl, e)
both false b e = cc e

pub each_scalar : (cs : List ℕ) → scalars cs ≡ true → Each scalar cs
each_scalar [] h = tt
each_scalar (c ∷ cs) h = let k = both (scalar c) (scalars cs) h in (k.0, each_scalar cs k.1)
