-- The names of one text under two tables: those of the one become those of the other.
use Rattle.std.proofs.Common.{◌≡◌, ◌<◌, ◌+◌, ℕ, zero, suc, Bool, true, false, cond, if◌then◌else◌, Some, List, [], ◌∷◌, length, slice_get, get_or, bytes_eq, encode_utf8_all, refl, sym, ap, ap₂, ◌∙◌, map, ltb, arith}
use Rattle.std.specs.Prelude.{◌&&◌}
use Rattle.std.proofs.lemmas.Bool.{ltb-true, lt-ltb}
use Rattle.std.proofs.lemmas.Option.{slice_get-get_or, slice_get_within, get_or_from_slice_get}
use Rattle.std.proofs.lemmas.Slice.Eq.{bytes_eq-Decides}
use Rattle.ef_base.specs.Cut.{Placed}
use Rattle.ef_base.specs.Laws.{same_name}
use Rattle.ef_base.specs.Texts.{Texts, AllDiffer, HasName, IsNameOf, text}
use Rattle.ef_base.specs.declared.fault.Place.{Place}
use Rattle.ef_base.specs.declared.name.Name.{Name}
use Rattle.ef_token.specs.declared.token.Token.{Token}
use Rattle.ef_token.specs.declared.token.TokenKind.{TokenKind}
use Rattle.ef_token.specs.declared.token.TokenKind.TheVariants as kind
use Rattle.ef_token.specs.Lexeme.{Lexeme, IsKind, AreTokens, atom, variable, integer, character, string, word, symbol, full_stop}
use Rattle.ef_token.specs.Scans.{Scans, tokens}
use Rattle.ef_token.specs.TokenForm.{KindOf, TokensOf, AllTokensOf}
use Rattle.ef_token.proofs.OneScan.{AreAlike, two_scans}
use Rattle.ef_build.proofs.RenamedTokens.{renamed_kind, renamed_token}
use Rattle.ef_rows.proofs.Renamed.{Renames}

-- ---- the number of a text

-- the first one, and the length of a table that does not have the text
abbrev number_of : Texts → List ℕ → ℕ
number_of [] bytes = 0
number_of (t ∷ ts) bytes = if bytes_eq t bytes then 0 else suc (number_of ts bytes)

found : (texts : Texts) (bytes : List ℕ) (i : ℕ) → slice_get texts i ≡ Some bytes → slice_get texts (number_of texts bytes) ≡ Some bytes
found [] bytes i h = h
found (t ∷ ts) bytes i h = go (found ts bytes) (bytes_eq t bytes) refl i h
  where
    go : ((j : ℕ) → slice_get ts j ≡ Some bytes → slice_get ts (number_of ts bytes) ≡ Some bytes) → (same : Bool) → bytes_eq t bytes ≡ same → (i : ℕ) → slice_get (t ∷ ts) i ≡ Some bytes
        → slice_get (t ∷ ts) (if same then 0 else suc (number_of ts bytes)) ≡ Some bytes
    go behind true is i h = ap Some ((bytes_eq-Decides t bytes).0 is)
    go behind false is zero h =
        let yes : bytes_eq t bytes ≡ true = (bytes_eq-Decides t bytes).1 (cc h) in
        absurd (cc)
    go behind false is (suc i) h = behind i h

there : (texts : Texts) (bytes : List ℕ) → number_of texts bytes < length texts → slice_get texts (number_of texts bytes) ≡ Some bytes
there [] bytes h = absurd (omega (arith, h))
there (t ∷ ts) bytes h = go (there ts bytes) (bytes_eq t bytes) refl h
  where
    go : (number_of ts bytes < length ts → slice_get ts (number_of ts bytes) ≡ Some bytes) → (same : Bool) → bytes_eq t bytes ≡ same → (if same then 0 else suc (number_of ts bytes)) < length (t ∷ ts)
        → slice_get (t ∷ ts) (if same then 0 else suc (number_of ts bytes)) ≡ Some bytes
    go behind true is h = ap Some ((bytes_eq-Decides t bytes).0 is)
    go behind false is h = behind (omega (arith, h))

-- ---- the name in the first table for a name of the second

both_are : (p q : Bool) → (p && q) ≡ true → (p ≡ true) × (q ≡ true)
both_are true q e = (refl, e)
both_are false q e = absurd (cc)

abbrev name_at : ℕ → Name
name_at i = record { index = i }

module _ (a b : Texts) where
  abbrev has_place : Name → Bool
  has_place n = ltb n.index (length b) && ltb (number_of a (text b n)) (length a)

  -- a name whose text the first table does not have becomes none of its names
  abbrev pub renaming : Name → Name
  renaming n = record { index = cond (has_place n) (number_of a (text b n)) (length a + n.index) }

  here : (n : Name) → has_place n ≡ true → HasName b n × (number_of a (text b n) < length a)
  here n is = let both = both_are _ _ is in (ltb-true _ _ both.0, ltb-true _ _ both.1)

  keeps_as : (n : Name) (w : Bool) → has_place n ≡ w → cond w (number_of a (text b n)) (length a + n.index) < length a
      → get_or a (cond w (number_of a (text b n)) (length a + n.index)) [] ≡ text b n
  keeps_as n true is h = get_or_from_slice_get a (number_of a (text b n)) (text b n) [] (there a (text b n) h)
  keeps_as n false is h = absurd (omega (arith, h))

  some_left : (s t : List ℕ) → Some s ≡ Some t → s ≡ t
  some_left s t e = cc

  module _ (differ : AllDiffer b) where
    apart : (m n : Name) (v w : Bool) → has_place m ≡ v → has_place n ≡ w
        → cond v (number_of a (text b m)) (length a + m.index) ≡ cond w (number_of a (text b n)) (length a + n.index) → m ≡ n
    apart m n true true p q e =
        let one = here m p in
        let other = here n q in
        let same : text b m ≡ text b n =
        some_left (text b m) (text b n) (sym (there a (text b m) one.1) ∙ ap (slice_get a) e ∙ there a (text b n) other.1) in
        same_name b m n (text b m) differ (record { within = one.0; is = refl }) (record { within = other.0; is = sym same })
    apart m n true false p q e = absurd (omega (arith, e, (here m p).1))
    apart m n false true p q e = absurd (omega (arith, e, (here n q).1))
    apart m n false false p q e = ap name_at (omega (arith, e))

    pub renaming_renames : Renames a b renaming
    renaming_renames = record {
      injective = λ m n e. apart m n (has_place m) (has_place n) refl refl (ap (λ (z : Name). z.index) e);
      keeps = λ n h. keeps_as n (has_place n) refl h;
    }

  -- ---- tokens of the same lexemes

  -- those under the first table are those under the second, renamed
  abbrev pub IsRenamed : List Token → List Token → Type 0
  IsRenamed xs ys = (xs ≡ map (renamed_token renaming) ys) × TokensOf a xs

  pub record AreRenamed (forms_a forms_b : List (List Token)) : Type 0 where
    pub renamed : map (map (renamed_token renaming)) forms_b ≡ forms_a
    pub of_table : AllTokensOf a forms_a

  module _ (differ : AllDiffer a) where
    names_alike : (m n : Name) (bytes : List ℕ) → IsNameOf a m bytes → IsNameOf b n bytes → m ≡ renaming n
    names_alike m n bytes one two =
        let at : slice_get a (number_of a (text b n)) ≡ Some (text b n) =
        found a (text b n) m.index (slice_get-get_or a m.index [] one.within ∙ ap Some (one.is ∙ sym two.is)) in
        let within : number_of a (text b n) < length a = slice_get_within a (number_of a (text b n)) (text b n) at in
        let is : has_place n ≡ true = ap₂ (λ p q. p && q) (lt-ltb n.index (length b) two.within) (lt-ltb (number_of a (text b n)) (length a) within) in
        let name : IsNameOf a (name_at (number_of a (text b n))) bytes =
        record { within = within; is = get_or_from_slice_get a (number_of a (text b n)) (text b n) [] at ∙ two.is } in
        same_name a m (name_at (number_of a (text b n))) bytes differ one name ∙ ap (λ w. name_at (cond w (number_of a (text b n)) (length a + n.index))) (sym is)

    kinds_alike : (l : Lexeme) (x y : TokenKind) → IsKind a l x → IsKind b l y → (x ≡ renamed_kind renaming y) × KindOf a x
    kinds_alike (atom cs) (kind.Atom m) (kind.Atom n) h k = (ap kind.Atom (names_alike m n (encode_utf8_all cs) h.0 k.0), h.0.within)
    kinds_alike (atom cs) (kind.Atom m) _ h k = absurd k
    kinds_alike (atom cs) _ _ h k = absurd h
    kinds_alike (variable cs) (kind.Var m) (kind.Var n) h k = (ap kind.Var (names_alike m n (encode_utf8_all cs) h k), h.within)
    kinds_alike (variable cs) (kind.Var m) _ h k = absurd k
    kinds_alike (variable cs) _ _ h k = absurd h
    kinds_alike (integer n) (kind.Int i) (kind.Int j) h k = (ap kind.Int (h.0 ∙ sym k.0), tt)
    kinds_alike (integer n) (kind.Int i) _ h k = absurd k
    kinds_alike (integer n) _ _ h k = absurd h
    kinds_alike (character c) (kind.Char d) (kind.Char e) h k = (ap kind.Char (h ∙ sym k), tt)
    kinds_alike (character c) (kind.Char d) _ h k = absurd k
    kinds_alike (character c) _ _ h k = absurd h
    kinds_alike (string cs) (kind.Str ds) (kind.Str es) h k = (ap kind.Str (h ∙ sym k), tt)
    kinds_alike (string cs) (kind.Str ds) _ h k = absurd k
    kinds_alike (string cs) _ _ h k = absurd h
    kinds_alike (word w) (kind.Word u) (kind.Word v) h k = (ap kind.Word (h ∙ sym k), tt)
    kinds_alike (word w) (kind.Word u) _ h k = absurd k
    kinds_alike (word w) _ _ h k = absurd h
    kinds_alike (symbol s) (kind.Sym t) (kind.Sym u) h k = (ap kind.Sym (h ∙ sym k), tt)
    kinds_alike (symbol s) (kind.Sym t) _ h k = absurd k
    kinds_alike (symbol s) _ _ h k = absurd h
    kinds_alike full_stop kind.Dot kind.Dot h k = (refl, tt)
    kinds_alike full_stop kind.Dot _ h k = absurd k
    kinds_alike full_stop _ _ h k = absurd h

    pub tokens_alike : (file : ℕ) (ls : List (Placed Lexeme)) (xs ys : List Token) → AreTokens a file ls xs → AreTokens b file ls ys → IsRenamed xs ys
    tokens_alike file [] [] [] h k = (refl, tt)
    tokens_alike file [] [] (y ∷ ys) h k = absurd k
    tokens_alike file [] (x ∷ xs) ys h k = absurd h
    tokens_alike file (l ∷ ls) [] ys h k = absurd h
    tokens_alike file (l ∷ ls) (x ∷ xs) [] h k = absurd k
    tokens_alike file (l ∷ ls) (x ∷ xs) (y ∷ ys) h k =
        let kinds = kinds_alike l.lexeme x.kind y.kind h.1 k.1 in
        let rest = tokens_alike file ls xs ys h.2 k.2 in
        (ap₂ (λ (t : Token) ts. t ∷ ts) (ap₂ (λ (z : TokenKind) (p : Place). let t : Token = record { kind = z; place = p } in t) kinds.0 (h.0 ∙ sym k.0)) rest.0, (kinds.1, rest.1))

    all_renamed : (forms_a forms_b : List (List Token)) → AreAlike IsRenamed (map tokens forms_a) (map tokens forms_b) → AreRenamed forms_a forms_b
    all_renamed [] [] h = record { renamed = refl; of_table = tt }
    all_renamed [] (g ∷ gs) h = absurd h
    all_renamed (f ∷ fs) [] h = absurd h
    all_renamed (f ∷ fs) (g ∷ gs) h =
        let rest = all_renamed fs gs h.1 in
        record { renamed = ap₂ (λ x l. x ∷ l) (sym h.0.0) rest.renamed; of_table = (h.0.1, rest.of_table) }

    -- a text under both tables
    pub forms_alike : (file : ℕ) (source : List ℕ) (forms_a forms_b : List (List Token)) → Scans a file source (map tokens forms_a) → Scans b file source (map tokens forms_b) → AreRenamed forms_a forms_b
    forms_alike file source forms_a forms_b one two =
        all_renamed forms_a forms_b (two_scans a b file source IsRenamed (map tokens forms_a) (map tokens forms_b) (tokens_alike file) one two)
