-- How gathered bytes are handed on.
use Rattle.std.proofs.Common.{◌≡◌, ◌≤◌, ◌+◌, ◌++◌, ℕ, List, [], ◌∷◌, zero, suc, length, take, drop, refl, sym, ap, ◌∙◌, arith, append-nil, append_assoc, length-append, Option, None, Some, Result, Ok, Err}
use Rattle.std.proofs.lemmas.Grind.{common_steps}
use Rattle.std.proofs.lemmas.List.{take-append-drop}
use Rattle.std.proofs.Math.Seq.{drop-nil, take-append_seam, take-length}
use Rattle.ef_io.specs.declared.sink.Failed.{Failed}
use Rattle.ef_io.specs.Sink.{SinkView, IsAppended, Stays, with_more}
use Rattle.ef_io.specs.Laws.{with_more-with_more}
use Rattle.ef_front.specs.Buffered.{buffered_view, HandsOn, HoldsNone, PutsThrough, PutsTold}

pub nothing_more : (told : Option (List ℕ)) → with_more told [] ≡ told
nothing_more None = refl
nothing_more (Some bytes) = ap Some (append-nil bytes)

-- the sink holds a further part of what is gathered, without a fault
pub record IsHandedSoFar (old new : SinkView) (pending : List ℕ) (from handed : ℕ) : Type 0 where
  pub written : with_more new.written (drop handed pending) ≡ with_more old.written (drop from pending)
  pub stays : Stays old new
  pub faults : new.faults ≡ old.faults

part_and_rest : (pending : List ℕ) (handed n : ℕ) → take n (drop handed pending) ++ drop (handed + n) pending ≡ drop handed pending
part_and_rest [] handed n = grind (arith, common_steps)
part_and_rest (x ∷ pending) zero n = let e : 0 + n ≡ n = omega arith in rw e (take-append-drop n (x ∷ pending))
part_and_rest (x ∷ pending) (suc handed) n =
    let e : suc handed + n ≡ suc (handed + n) = omega arith in
    rw e (part_and_rest pending handed n)

pub handed_more : (old mid new : SinkView) (pending piece : List ℕ) (from handed n : ℕ) → IsHandedSoFar old mid pending from handed → piece ≡ drop handed pending → IsAppended mid new (take n piece) → Stays mid new → new.faults ≡ mid.faults → IsHandedSoFar old new pending from (handed + n)
handed_more old mid new pending piece from handed n before is appended stays faults = record {
  written =
      let told : new.written ≡ with_more mid.written (take n (drop handed pending)) = appended.written ∙ ap (λ p. with_more mid.written (take n p)) is in
      ap (λ w. with_more w (drop (handed + n) pending)) told
      ∙ with_more-with_more mid.written (take n (drop handed pending)) (drop (handed + n) pending)
      ∙ ap (with_more mid.written) (part_and_rest pending handed n)
      ∙ before.written;
  stays = record { is_open = stays.is_open ∙ before.stays.is_open; created = stays.created ∙ before.stays.created };
  faults = faults ∙ before.faults;
}

-- what was gathered behind nothing
pub gathered : (old new : SinkView) (name name' : ℕ) (pending pending' : List ℕ) (handed handed' : ℕ) (text : List ℕ) → pending ≡ [] → IsAppended (buffered_view old name pending handed) (buffered_view new name' pending' handed') text → with_more new.written (drop handed' pending') ≡ with_more old.written text
gathered old new name name' pending pending' handed handed' text none appended =
    appended.written
    ∙ ap (λ p. with_more (with_more old.written (drop handed p)) text) none
    ∙ ap (λ p. with_more (with_more old.written p) text) (drop-nil handed)
    ∙ with_more-with_more old.written [] text

-- what is printed, and then handed on
pub handed_through : (old mid new : SinkView) (name name' : ℕ) (pending pending' pending'' : List ℕ) (handed handed' handed'' : ℕ) (text : List ℕ) (r : Result Unit Failed) → pending ≡ [] → IsAppended (buffered_view old name pending handed) (buffered_view mid name' pending' handed') text → HandsOn mid pending' handed' new pending'' handed'' r → PutsThrough old new (drop handed'' pending'') text r
handed_through old mid new name name' pending pending' pending'' handed handed' handed'' text (Ok _) none appended hands = hands.0 ∙ gathered old mid name name' pending pending' handed handed' text none appended
handed_through old mid new name name' pending pending' pending'' handed handed' handed'' text (Err _) none appended hands =
    (length text, omega arith, hands ∙ gathered old mid name name' pending pending' handed handed' text none appended ∙ ap (with_more old.written) (sym (take-length text)))

whole : (front rest text : List ℕ) (n : ℕ) → front ++ rest ≡ take n text → text ≡ front ++ (rest ++ drop n text)
whole front rest text n is = sym (take-append-drop n text) ∙ ap (λ t. t ++ drop n text) (sym is) ∙ append_assoc front rest (drop n text)

abbrev told_bytes : Option (List ℕ) → List ℕ
told_bytes None = []
told_bytes (Some bytes) = bytes

told_front : (old new : Option (List ℕ)) (rest text : List ℕ) (n : ℕ) → HoldsNone old → n ≤ length text → with_more new rest ≡ with_more old (take n text) → (k : ℕ) × (k ≤ length text) × (new ≡ with_more old (take k text))
told_front None None rest text n none le is = (n, le, refl)
told_front None (Some front) rest text n none le is = absurd (cc)
told_front (Some bytes) None rest text n none le is = absurd (cc)
told_front (Some bytes) (Some front) rest text n none le is =
    let same : front ++ rest ≡ take n text = ap told_bytes is ∙ ap (λ b. b ++ take n text) none in
    let all = whole front rest text n same in
    let long : length text ≡ length front + length (rest ++ drop n text) = ap length all ∙ length-append front (rest ++ drop n text) in (
      length front,
      omega arith,
      ap Some (sym (ap (λ b. b ++ take (length front) text) none ∙ ap (take (length front)) all ∙ take-append_seam front (rest ++ drop n text))),
    )

-- what an empty sink holds after a fault is a front part, whatever is left gathered
pub settled : (old new : SinkView) (rest text : List ℕ) (r : Result Unit Failed) → HoldsNone old.written → PutsThrough old new rest text r → PutsTold old new text r
settled old new rest text (Ok _) none put = put
settled old new rest text (Err _) none put = told_front old.written new.written rest text put.0 none put.1 put.2
