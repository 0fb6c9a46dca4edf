-- Bytes put one behind another.
use Rattle.std.specs.Prelude.{ℕ, ◌≡◌, List, [], ◌++◌, Result, Ok, Err, IfOk}
use Rattle.std.proofs.Common.{ap, ◌∙◌, append_assoc, append-nil, sym}
use Rattle.ef_token.specs.Spelling.{Keeps}

pub put_as : {T : Type 0} {E : Type 0} (r : Result T E) (old new a b : List ℕ) → a ≡ b → IfOk r (λ _. new ≡ old ++ a) → IfOk r (λ _. new ≡ old ++ b)
put_as (Ok x) old new a b e h = h ∙ ap (λ t. old ++ t) e
put_as (Err x) old new a b e h = tt

pub put_then : {T : Type 0} {E : Type 0} (r : Result T E) (old mid new a b : List ℕ) → mid ≡ old ++ a → IfOk r (λ _. new ≡ mid ++ b) → IfOk r (λ _. new ≡ old ++ (a ++ b))
put_then (Ok x) old mid new a b e h = h ∙ ap (λ t. t ++ b) e ∙ append_assoc old a b
put_then (Err x) old mid new a b e h = tt

pub keeps_all : (old : List ℕ) → Keeps old old
keeps_all old = record { more = []; is = sym (append-nil old) }

pub keeps_then : (old mid new : List ℕ) → Keeps old mid → Keeps mid new → Keeps old new
keeps_then old mid new first second =
    record { more = first.more ++ second.more; is = second.is ∙ ap (λ t. t ++ second.more) first.is ∙ append_assoc old first.more second.more }
