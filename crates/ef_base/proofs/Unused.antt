-- Of one text more than a table has, not all are held.
use Rattle.std.proofs.Common.{◌≡◌, ◌<◌, ◌≤◌, ◌+◌, ◌*◌, ◌^◌, ℕ, zero, suc, true, false, cond, List, [], ◌∷◌, ◌++◌, length, slice_get, Some, refl, sym, ap, ◌∙◌, arith, subst}
use Rattle.std.specs.Prelude.{codes, decimal}
use Rattle.std.specs.List.{All}
use Rattle.std.specs.Str.{bytes_eq, IsAscii}
use Rattle.std.proofs.lemmas.Fmt.{decimal_injective, length-decimal-le, IsAscii-decimal}
use Rattle.std.proofs.lemmas.Option.{slice_get_within, slice_get-get_or}
use Rattle.std.proofs.lemmas.Slice.Eq.{bytes_eq-Decides}
use Rattle.std.proofs.lemmas.Str.{IsAscii-append}
use Rattle.std.proofs.lemmas.Str.Ascii.{IsAscii-from_all}
use native.Mathlib.Decide.{dec_lt}
use Rattle.indexmap.proofs.IndexTableLemmas.Probe.{pigeonhole}
use Rattle.ef_base.specs.declared.name.Name.{Name}
use Rattle.ef_base.specs.Texts.{Texts, HasText, IsNameOf}

-- a text to be tried
abbrev pub numbered : ℕ → List ℕ
numbered n = codes "-" ++ decimal n

pub numbered_short : (n : ℕ) → n < 2 ^ 64 → length (numbered n) ≤ 40
numbered_short n small =
    let digits : length (decimal n) ≤ 20 = length-decimal-le 20 n (omega arith) (omega arith) small in
    omega arith

dash : All (λ b. b < 128) (codes "-")
dash zero d within = omega arith
dash (suc k) d within = absurd (omega arith)

pub numbered_ascii : (n : ℕ) → n < 2 ^ 64 → IsAscii (numbered n)
numbered_ascii n small = IsAscii-append (codes "-") (decimal n) (IsAscii-from_all (codes "-") dash) (IsAscii-decimal n small)

-- where the text stands first
abbrev place_of : Texts → List ℕ → ℕ
place_of [] text = zero
place_of (t ∷ texts) text = cond (bytes_eq t text) zero (suc (place_of texts text))

at_place : (texts : Texts) (text : List ℕ) (i : ℕ) → slice_get texts i ≡ Some text → slice_get texts (place_of texts text) ≡ Some text
at_place [] text i there = absurd (cc)
at_place (t ∷ texts) text i there =
    elim (bytes_eq t text) as (λ b. bytes_eq t text ≡ b → slice_get (t ∷ texts) (cond b zero (suc (place_of texts text))) ≡ Some text) [
      | true ↦ λ yes. ap Some ((bytes_eq-Decides t text).0 yes)
      | false ↦ λ other. behind i there other (λ k. at_place texts text k)
    ] refl
  where
    behind : (i : ℕ) → slice_get (t ∷ texts) i ≡ Some text → bytes_eq t text ≡ false → ((k : ℕ) → slice_get texts k ≡ Some text → slice_get texts (place_of texts text) ≡ Some text) → slice_get texts (place_of texts text) ≡ Some text
    behind zero there other rest =
        let same : t ≡ text = cc in
        let yes : bytes_eq t text ≡ true = (bytes_eq-Decides t text).1 same in
        absurd (cc)
    behind (suc k) there other rest = rest k there

pub not_all_held : (texts : Texts) (count : ℕ) → count ≡ length texts → count < 2 ^ 63 → ((k : ℕ) → count ≤ k → k < 2 * count + 1 → HasText texts (numbered k)) → ⊥
not_all_held texts count counted small held =
    let some : count + 1 ≤ length texts = pigeonhole (count + 1) (length texts) place into one in
    omega arith
  where
    place : ℕ → ℕ
    place i = place_of texts (numbered (count + i))

    found : (i : ℕ) → i < count + 1 → slice_get texts (place i) ≡ Some (numbered (count + i))
    found i few =
        let has = held (count + i) (omega arith) (omega arith) in
        at_place texts (numbered (count + i)) has.0.index (slice_get-get_or texts has.0.index [] has.1.within ∙ ap Some has.1.is)

    into : (i : ℕ) → i < count + 1 → place i < length texts
    into i few = slice_get_within texts (place i) (numbered (count + i)) (found i few)

    one : (i j : ℕ) → i < count + 1 → j < count + 1 → place i ≡ place j → i ≡ j
    one i j few_i few_j same =
        let texts_same : Some (numbered (count + i)) ≡ Some (numbered (count + j)) = sym (found i few_i) ∙ ap (slice_get texts) same ∙ found j few_j in
        let digits : decimal (count + i) ≡ decimal (count + j) = cc in
        let numbers : count + i ≡ count + j = decimal_injective (count + i) (count + j) (omega arith) (omega arith) digits in
        omega arith

pub held_more : (texts : Texts) (count i : ℕ) (name : Name) (text : List ℕ) → text ≡ numbered i → IsNameOf texts name text
    → ((k : ℕ) → count ≤ k → k < i → HasText texts (numbered k)) → (k : ℕ) → count ≤ k → k < i + 1 → HasText texts (numbered k)
held_more texts count i name text is here before k low high =
    elim (dec_lt k i) [
      | yes less ↦ before k low less
      | no last ↦ let same : k ≡ i = omega arith in (name, subst (IsNameOf texts name) (is ∙ ap numbered (sym same)) here)
    ]
