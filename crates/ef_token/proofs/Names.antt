-- Names, character by character, and texts in quotes.
use Rattle.std.proofs.Common.{ℕ, ◌+◌, ◌<◌, ◌≡◌, true, List, [], ◌∷◌, ◌++◌, length, take, chars, get_or, refl, subst, sym, ap, ◌∙◌, append_assoc, append-nil}
use Rattle.std.specs.Prelude.{flat_map, IsUtf8, encode_utf8_all, Result, Ok, Err, IfOk}
use Rattle.std.proofs.Common.{inl, inr}
use Rattle.std.proofs.lemmas.List.{take_more}
use Rattle.std.proofs.lemmas.Str.{encodes-chars}
use Rattle.ef_base.specs.Characters.{Each}
use Rattle.ef_token.specs.Letters.{continues_name}
use Rattle.ef_token.specs.Spelling.{escaped, quoted, IsBare, IsSpelling}
use Rattle.std.specs.Prelude.{false, Option, Some, None, IfSome, IfNone, is_some, ◌≢◌}
use Rattle.std.proofs.lemmas.Str.{chars_from_encodes}
use Rattle.ef_base.specs.declared.name.Name.{Name}
use Rattle.ef_base.specs.Texts.{Texts, IsNameOf}
use Rattle.ef_base.specs.Characters.{BeginsAndGoesOn}
use Rattle.ef_token.specs.Letters.{begins_atom}
use Rattle.ef_token.specs.Lexeme.{Lexeme, atom, IsKind}
use Rattle.ef_token.specs.Spelling.{Spells}
use Rattle.ef_token.specs.Words.{word_text}
use Rattle.ef_token.specs.declared.token.TokenKind.{TokenKind}
use Rattle.ef_token.specs.declared.token.TokenKind.TheVariants as kind
use Rattle.ef_token.specs.declared.word.Word.{Word}
use Rattle.ef_token.proofs.Spellings.{word_facts}
use Rattle.ef_token.proofs.Plain.{encodes_ascii, plain_ascii}

-- the text is of a name's characters exactly where the rest is
pub record GoesOn (text rest : List ℕ) : Type 0 where
  pub on : Each continues_name rest → Each continues_name text
  pub back : Each continues_name text → Each continues_name rest

pub goes_none : (text : List ℕ) → GoesOn text text
goes_none text = record { on = λ h. h; back = λ h. h }

pub goes_more : (text rest more : List ℕ) (c : ℕ) → GoesOn text rest → rest ≡ c ∷ more → continues_name c ≡ true → GoesOn text more
goes_more text rest more c h e is = record {
  on = λ k. h.on (subst (Each continues_name) (sym e) (is, k));
  back = λ k. (subst (Each continues_name) e (h.back k)).1;
}

flat_map-append : (f : ℕ → List ℕ) (a b : List ℕ) → flat_map f (a ++ b) ≡ flat_map f a ++ flat_map f b
flat_map-append f [] b = refl
flat_map-append f (c ∷ a) b = ap (λ t. f c ++ t) (flat_map-append f a b) ∙ sym (append_assoc (f c) (flat_map f a) (flat_map f b))

-- one more character in quotes
pub more_escaped : (old new codes first : List ℕ) (quote n c : ℕ) → n < length codes → c ≡ get_or codes n 0 → old ≡ first ++ quote ∷ flat_map (escaped quote) (take n codes) → new ≡ old ++ escaped quote c
    → new ≡ first ++ quote ∷ flat_map (escaped quote) (take (n + 1) codes)
more_escaped old new codes first quote n c l e is more =
    let whole : flat_map (escaped quote) (take (n + 1) codes) ≡ flat_map (escaped quote) (take n codes) ++ escaped quote c =
    ap (flat_map (escaped quote)) (take_more codes n 0 l) ∙ flat_map-append (escaped quote) (take n codes) (get_or codes n 0 ∷ [])
    ∙ ap (λ t. flat_map (escaped quote) (take n codes) ++ t) (append-nil (escaped quote (get_or codes n 0)) ∙ ap (escaped quote) (sym e)) in
    more ∙ ap (λ t. t ++ escaped quote c) is ∙ append_assoc first (quote ∷ flat_map (escaped quote) (take n codes)) (escaped quote c) ∙ ap (λ t. first ++ quote ∷ t) (sym whole)

pub less_escaped : (old new rest more text first : List ℕ) (quote c : ℕ) → old ++ flat_map (escaped quote) rest ≡ first ++ quote ∷ flat_map (escaped quote) text → rest ≡ c ∷ more → new ≡ old ++ escaped quote c
    → new ++ flat_map (escaped quote) more ≡ first ++ quote ∷ flat_map (escaped quote) text
less_escaped old new rest more text first quote c is e added =
    ap (λ t. t ++ flat_map (escaped quote) more) added ∙ append_assoc old (escaped quote c) (flat_map (escaped quote) more)
    ∙ sym (ap (λ t. old ++ flat_map (escaped quote) t) e) ∙ is

-- the closing quote
pub all_quoted : {T : Type 0} {E : Type 0} (r : Result T E) (old new text first : List ℕ) → old ≡ first ++ 39 ∷ flat_map (escaped 39) text → (IsBare text → ⊥) → IfOk r (λ _. new ≡ old ++ 39 ∷ [])
    → IfOk r (λ _. (bytes : List ℕ) × IsSpelling (atom text) bytes × (new ≡ first ++ bytes))
all_quoted (Ok x) old new text first is never h =
    (quoted 39 text, inr (never, refl), h ∙ ap (λ t. t ++ 39 ∷ []) is ∙ append_assoc first (39 ∷ flat_map (escaped 39) text) (39 ∷ []))
all_quoted (Err x) old new text first is never h = tt

pub nothing_left : (old rest text first : List ℕ) → old ++ flat_map (escaped 39) rest ≡ first ++ 39 ∷ flat_map (escaped 39) text → rest ≡ [] → old ≡ first ++ 39 ∷ flat_map (escaped 39) text
nothing_left old rest text first is e = sym (ap (λ t. old ++ flat_map (escaped 39) t) e ∙ append-nil old) ∙ is

pub all_bare : {T : Type 0} {E : Type 0} (r : Result T E) (old new text : List ℕ) → IsUtf8 text → IsBare (chars text) → IfOk r (λ _. new ≡ old ++ text)
    → IfOk r (λ _. (bytes : List ℕ) × IsSpelling (atom (chars text)) bytes × (new ≡ old ++ bytes))
all_bare (Ok x) old new text u bare h = (text, inl (bare, sym (encodes-chars text u)), h)
all_bare (Err x) old new text u bare h = tt

pub all_string : {T : Type 0} {E : Type 0} (r : Result T E) (old new codes first : List ℕ) → old ≡ first ++ 34 ∷ flat_map (escaped 34) codes → IfOk r (λ _. new ≡ old ++ 34 ∷ []) → IfOk r (λ _. new ≡ first ++ quoted 34 codes)
all_string (Ok x) old new codes first is h = h ∙ ap (λ t. t ++ 34 ∷ []) is ∙ append_assoc first (34 ∷ flat_map (escaped 34) codes) (34 ∷ [])
all_string (Err x) old new codes first is h = tt

pub word_encodes : (w : Word) → encode_utf8_all (word_text w) ≡ word_text w
word_encodes w = encodes_ascii (word_text w) (plain_ascii (word_text w) (word_facts w).plain)

-- a text of the characters of a word is its bytes
pub word_bytes : (text : List ℕ) (w : Word) → IsUtf8 text → chars text ≡ word_text w → text ≡ word_text w
word_bytes text w u e = sym (encodes-chars text u) ∙ ap encode_utf8_all e ∙ word_encodes w

pub word_chars : (text : List ℕ) (w : Word) → IsUtf8 text → text ≡ word_text w → chars text ≡ word_text w
word_chars text w u e = sym (chars_from_encodes (word_text w) text u (word_encodes w ∙ sym e))

some_word : (r : Option Word) (P : Word → Type 0) → IfSome r P → is_some r ≡ true → (w : Word) × P w
some_word (Some w) P h e = (w, h)
some_word None P h e = cc e

no_word : (r : Option Word) (P : Type 0) → IfNone r P → is_some r ≡ false → P
no_word None P h e = h
no_word (Some w) P h e = cc e

-- whether an atom needs no quotes
pub bare_word : (text : List ℕ) (r : Option Word) → IsUtf8 text → IfSome r (λ w. text ≡ word_text w) → is_some r ≡ true → IsBare (chars text) → ⊥
bare_word text r u some e bare = let w = some_word r (λ w. text ≡ word_text w) some e in bare.1 w.0 (word_chars text w.0 u w.1)

pub bare_name : (text : List ℕ) (r : Option Word) → IsUtf8 text → IfNone r ((w : Word) → text ≢ word_text w) → is_some r ≡ false → BeginsAndGoesOn begins_atom continues_name (chars text) → IsBare (chars text)
bare_name text r u none e h = (h, λ w is. no_word r ((w : Word) → text ≢ word_text w) none e w (word_bytes text w u is))

pub spelled_atom : {T : Type 0} {E : Type 0} (all : Texts) (k : TokenKind) (name : Name) (text old new : List ℕ) (r : Result T E) → k ≡ kind.Atom name → IsNameOf all name text → IsUtf8 text
    → IfOk r (λ _. (bytes : List ℕ) × IsSpelling (atom (chars text)) bytes × (new ≡ old ++ bytes)) → IfOk r (λ _. Spells all k old new)
spelled_atom all k name text old new (Ok x) e is u h = λ l kind_is. go l (subst (IsKind all l) e kind_is)
  where
    go : (l : Lexeme) → IsKind all l (kind.Atom name) → (bytes : List ℕ) × IsSpelling l bytes × (new ≡ old ++ bytes)
    go (atom cs) h' =
        let same : cs ≡ chars text = chars_from_encodes cs text u (sym h'.0.is ∙ is.is) in
        (h.0, subst (λ ds. IsSpelling (atom ds) h.0) (sym same) h.1, h.2)
    go l h' = absurd h'
spelled_atom all k name text old new (Err x) e is u h = tt
