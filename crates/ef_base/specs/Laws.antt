-- Laws of tables of names and of sets of faults, for the crates above.
use Rattle.std.specs.Prelude.{ℕ, suc, ◌<◌, ◌≡◌, ◌≢◌, true, false, ◌||◌, List, [], ◌∷◌, ◌++◌, length, slice_get, Some, get_or, slice_index_or}
use Rattle.std.specs.List.{All, list_any}
use Rattle.std.specs.Str.{bytes_eq}
use Rattle.std.proofs.Common.{refl, ap, ◌∙◌, sym, arith, subst, append_assoc, append-nil, length-append}
use Rattle.std.proofs.lemmas.Option.{slice_get_within, slice_get-get_or, get_or_from_slice_get}
use Rattle.std.proofs.lemmas.List.{get_or_append_left}
use Rattle.std.proofs.lemmas.Slice.Eq.{bytes_eq-Decides}
use Rattle.ef_base.specs.declared.name.Name.{Name}
use Rattle.ef_base.specs.Texts.{Texts, AllDiffer, Extends, HasName, HasText, IsNameOf, IsFresh, text}

-- a table is a later one of itself
pub extends_same : (now : Texts) → Extends now now
extends_same now = record { more = []; is = append-nil now }

-- a later table of a later table
pub extends_later : {now mid all : Texts} → Extends now mid → Extends mid all → Extends now all
extends_later {now} {mid} {all} first second =
    record { more = first.more ++ second.more; is = sym (append_assoc now first.more second.more) ∙ ap (λ t. t ++ second.more) first.is ∙ second.is }

-- what stands at the number of a name stays there
pub named : (now all : Texts) (name : Name) (bytes : List ℕ) → slice_get now name.index ≡ Some bytes → Extends now all → IsNameOf all name bytes
named now all name bytes at later =
    let within : name.index < length now = slice_get_within now name.index bytes at in
    record {
      within = subst (λ t. name.index < length t) later.is (simp length-append (omega arith));
      is = ap (λ t. get_or t name.index []) (sym later.is) ∙ get_or_append_left now later.more [] name.index within ∙ get_or_from_slice_get now name.index bytes [] at;
    }

-- a name keeps its text in a later table
pub named_later : (now all : Texts) (name : Name) (bytes : List ℕ) → IsNameOf now name bytes → Extends now all → IsNameOf all name bytes
named_later now all name bytes is later =
    named now all name bytes (slice_get-get_or now name.index [] is.within ∙ ap Some is.is) later

-- a name of a table is one of a later table
pub has_later : (now all : Texts) (name : Name) → HasName now name → Extends now all → HasName all name
has_later now all name within later = subst (λ t. name.index < length t) later.is (simp length-append (omega arith))

-- equal texts have equal names
pub same_name : (all : Texts) (a b : Name) (bytes : List ℕ) → AllDiffer all → IsNameOf all a bytes → IsNameOf all b bytes → a ≡ b
same_name all a b bytes differ at_a at_b =
    let i : a.index ≡ b.index = differ a.index b.index bytes (slice_get-get_or all a.index [] at_a.within ∙ ap Some at_a.is) (slice_get-get_or all b.index [] at_b.within ∙ ap Some at_b.is) in
    ap (λ (n : ℕ). let name : Name = record { index = n } in name) i

-- a text of a table is one of a later table
pub text_stays : (now all : Texts) (bytes : List ℕ) → HasText now bytes → Extends now all → HasText all bytes
text_stays now all bytes has later = (has.0, named_later now all has.0 bytes has.1 later)

pub texts_stay : (now all : Texts) (words : List (List ℕ)) → All (HasText now) words → Extends now all → All (HasText all) words
texts_stay now all words has later k d within = text_stays now all (slice_index_or words k d) (has k d within) later

-- each of several texts, which a test finds among them
pub text_among : (texts : Texts) (words : List (List ℕ)) (word : List ℕ) → All (HasText texts) words → list_any (λ w. bytes_eq w word) words ≡ true → HasText texts word
text_among texts [] word all found = absurd (cc)
text_among texts (w ∷ words) word all found =
    elim (bytes_eq w word) as (λ b. bytes_eq w word ≡ b → (b || list_any (λ v. bytes_eq v word) words) ≡ true → HasText texts word) [
      | true ↦ λ yes _. subst (HasText texts) ((bytes_eq-Decides w word).0 yes) (all 0 w (omega arith))
      | false ↦ λ _ more. text_among texts words word (λ k d within. all (suc k) d (omega arith)) more
    ] refl found

-- a fresh name is none of the old table
pub fresh_differs : (old new : Texts) (name other : Name) → IsFresh old new name → Extends old new → HasName old other → other ≢ name
fresh_differs old new name other fresh later within same =
    let at : IsNameOf old other (text old other) = record { within = within; is = refl } in
    let is : text old other ≡ text new name = sym ((named_later old new other (text old other) at later).is) ∙ ap (text new) same in
    fresh.absent other.index (slice_get-get_or old other.index [] within ∙ ap Some is)
