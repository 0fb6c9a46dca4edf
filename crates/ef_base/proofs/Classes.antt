-- Texts of a class of characters.
use Rattle.std.specs.Prelude.{ℕ, ◌<◌, ◌≡◌, Bool, true, List, [], ◌∷◌, ◌++◌, nat_lt}
use Rattle.std.proofs.Common.{arith}
use Rattle.std.proofs.lemmas.Bool.Decides.{nat_tests}
use Rattle.ef_base.specs.Characters.{Each}

pub each_append : (p : ℕ → Bool) (cs ds : List ℕ) → Each p cs → Each p ds → Each p (cs ++ ds)
each_append p [] ds h k = k
each_append p (c ∷ cs) ds h k = (h.0, each_append p cs ds h.1 k)

pub each_behind : (p : ℕ → Bool) (cs ds : List ℕ) → Each p (cs ++ ds) → Each p ds
each_behind p [] ds h = h
each_behind p (c ∷ cs) ds h = each_behind p cs ds h.1

pub each_weaker : (p q : ℕ → Bool) (cs : List ℕ) → ((c : ℕ) → p c ≡ true → q c ≡ true) → Each p cs → Each q cs
each_weaker p q [] f h = tt
each_weaker p q (c ∷ cs) f h = (f c h.0, each_weaker p q cs f h.1)

abbrev pub is_ascii : ℕ → Bool
is_ascii c = nat_lt c 128

pub ascii_small : (c : ℕ) → is_ascii c ≡ true → c < 128
ascii_small c h = grind (arith, nat_tests)
