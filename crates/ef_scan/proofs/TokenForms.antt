-- Texts without faulty forms.
use Rattle.std.specs.Prelude.{ℕ, ◌≡◌, ◌≢◌, List, [], ◌∷◌, ◌++◌, map}
use Rattle.std.proofs.Common.{refl, sym, ap, ◌∙◌, subst, append_assoc}
use Rattle.ef_base.specs.Texts.{Texts}
use Rattle.ef_base.specs.Cut.{Placed}
use Rattle.ef_token.specs.Lexeme.{Lexeme, IsKind, AreTokens, full_stop}
use Rattle.ef_token.specs.Parts.{Part, lexeme, comment, fault, lexemes_of, with_lexeme}
use Rattle.ef_token.specs.TokenForm.{IsForm, AreForms}
use Rattle.ef_token.specs.declared.token.Token.{Token}
use Rattle.ef_token.specs.declared.token.ScannedForm.{ScannedForm}
use Rattle.ef_token.specs.declared.token.ScannedForm.TheVariants.{Tokens, Faulty}
use Rattle.ef_scan.specs.Scan.{Form, tokens, faulty, Forms, no_more, ended, broken, unended, FormsOf, latin, unicode, IsOpen, Scans, not_utf8, is_cut, AreOf, joined, IsOfTokens, AreTokenForms, TokenFormLaws}
use Rattle.ef_scan.proofs.Gathering.{lexemes_more, stop_kind, dot_lexeme}
use Rattle.ef_token.proofs.OneScan.{no_lexemes}

-- ---- one form

tokens_append : (all : Texts) (file : ℕ) (ls ms : List (Placed Lexeme)) (ts us : List Token) → AreTokens all file ls ts → AreTokens all file ms us → AreTokens all file (ls ++ ms) (ts ++ us)
tokens_append all file [] ms [] us h k = k
tokens_append all file [] ms (t ∷ ts) us h k = absurd h
tokens_append all file (l ∷ ls) ms [] us h k = absurd h
tokens_append all file (l ∷ ls) ms (t ∷ ts) us h k = (h.0, h.1, tokens_append all file ls ms ts us h.2 k)

-- no lexeme is a full stop
abbrev NoStop : List (Placed Lexeme) → Type 0
NoStop [] = Unit {0}
NoStop (l ∷ ls) = (l.lexeme ≢ full_stop) × NoStop ls

no_stop : (ps : List (Placed Part)) → IsOpen ps → NoStop (lexemes_of ps)
no_stop [] h = tt
no_stop (p ∷ ps) h = go (no_stop ps h.1) p.lexeme refl
  where
    go : NoStop (lexemes_of ps) → (k : Part) → p.lexeme ≡ k → NoStop (with_lexeme k p.at (lexemes_of ps))
    go n (lexeme l) e = (λ s. h.0.0 (e ∙ ap lexeme s), n)
    go n (comment cs) e = n
    go n (fault code) e = n

is_form : (all : Texts) (file : ℕ) (ls : List (Placed Lexeme)) (stop : Placed Lexeme) (ts : List Token) → NoStop ls → stop.lexeme ≡ full_stop → AreTokens all file (ls ++ stop ∷ []) ts → IsForm ts
is_form all file [] stop [] n e h = h
is_form all file [] stop (t ∷ []) n e h = stop_kind all t.kind (subst (λ l. IsKind all l t.kind) e h.1)
is_form all file [] stop (t ∷ u ∷ ts) n e h = absurd h.2
is_form all file (l ∷ ls) stop [] n e h = absurd h
is_form all file (l ∷ ls) stop (t ∷ []) n e h = absurd (more ls h.2)
  where
    more : (ls : List (Placed Lexeme)) → AreTokens all file (ls ++ stop ∷ []) [] → ⊥
    more [] k = k
    more (m ∷ ms) k = k
is_form all file (l ∷ ls) stop (t ∷ u ∷ ts) n e h =
    (λ d. n.0 (dot_lexeme all l.lexeme (subst (IsKind all l.lexeme) d h.1)), is_form all file ls stop (u ∷ ts) n.1 e h.2)

-- what an open form and its full stop give
pub form_ends : (all : Texts) (file : ℕ) (ps : List (Placed Part)) (dot : Placed Part) (ts : List Token) → IsOpen ps → dot.lexeme ≡ lexeme full_stop → AreTokens all file (lexemes_of (ps ++ dot ∷ [])) ts → IsForm ts
form_ends all file ps dot ts o d t =
    is_form all file (lexemes_of ps) (record { lexeme = full_stop; at = dot.at }) ts (no_stop ps o) refl
    (subst (λ ls. AreTokens all file ls ts) (lexemes_more ps (dot ∷ []) ∙ ap (λ k. lexemes_of ps ++ with_lexeme k dot.at []) d) t)

-- ---- all forms

of_forms : (all : Texts) (file : ℕ) (ps : List (Placed Part)) (fs : List Form) (forms : List (List Token)) → Forms all file ps fs → fs ≡ map tokens forms
    → AreTokens all file (lexemes_of ps) (joined forms) × AreForms forms
of_forms all file _ _ [] (no_more ps h) e = (subst (λ ls. AreTokens all file ls []) (sym (no_lexemes ps h)) tt, tt)
of_forms all file _ _ (form ∷ forms) (no_more ps h) e = cc e
of_forms all file _ _ [] (ended ps more dot ts fs o d t f) e = cc e
of_forms all file _ _ (form ∷ forms) (ended ps more dot ts fs o d t f) e =
    let same : ts ≡ form = token_of ts form (cc e) in
    let on = of_forms all file more fs forms f (cc e) in
    let parts : (ps ++ dot ∷ []) ++ more ≡ ps ++ dot ∷ more = append_assoc ps (dot ∷ []) more in
    let here : AreTokens all file (lexemes_of (ps ++ dot ∷ [])) form = subst (AreTokens all file (lexemes_of (ps ++ dot ∷ []))) same t in (
      subst (λ ls. AreTokens all file ls (form ++ joined forms)) (sym (lexemes_more (ps ++ dot ∷ []) more) ∙ ap lexemes_of parts)
          (tokens_append all file (lexemes_of (ps ++ dot ∷ [])) (lexemes_of more) form (joined forms) here on.0),
      (
        form_ends all file ps dot form o d here,
        on.1,
      ),
    )
  where
    token_of : (ts us : List Token) → tokens ts ≡ tokens us → ts ≡ us
    token_of ts us z = cc z
of_forms all file _ _ [] (broken ps more p code fs o d f) e = cc e
of_forms all file _ _ (form ∷ forms) (broken ps more p code fs o d f) e = cc e
of_forms all file _ _ [] (unended ps first ls o l) e = cc e
of_forms all file _ _ (form ∷ forms) (unended ps first ls o l) e = cc e

of_parts : (all : Texts) (file : ℕ) (ps : List (Placed Part)) (fs : List Form) (forms : List (List Token)) → FormsOf all file ps fs → fs ≡ map tokens forms
    → AreTokens all file (lexemes_of ps) (joined forms) × AreForms forms
of_parts all file _ _ [] (latin ps more p n c) e = cc e
of_parts all file _ _ (form ∷ forms) (latin ps more p n c) e = cc e
of_parts all file _ _ forms (unicode ps fs n f) e = of_forms all file ps fs forms f e

of_scans : (all : Texts) (file : ℕ) (text : List ℕ) (fs : List Form) (forms : List (List Token)) → Scans all file text fs → fs ≡ map tokens forms → IsOfTokens all file text forms
of_scans all file text _ [] (not_utf8 n h) e = cc e
of_scans all file text _ (form ∷ forms) (not_utf8 n h) e = cc e
of_scans all file text _ forms (is_cut ps fs u c f) e =
    let k = of_parts all file ps fs forms f e in
    record { utf8 = u; parts = ps; cut = c; tokens = k.0; ends = k.1 }

same_forms : (scanned : List ScannedForm) (fs : List Form) (forms : List (List Token)) → AreOf scanned fs → AreTokenForms scanned forms → fs ≡ map tokens forms
same_forms [] [] [] h k = refl
same_forms [] [] (form ∷ forms) h k = absurd k
same_forms [] (f ∷ fs) forms h k = absurd h
same_forms (Tokens ts ∷ scanned) [] forms h k = absurd h
same_forms (Tokens ts ∷ scanned) (tokens us ∷ fs) [] h k = absurd k
same_forms (Tokens ts ∷ scanned) (tokens us ∷ fs) (form ∷ forms) h k =
    let here : us ≡ form = sym h.0 ∙ k.0 in
    let there = same_forms scanned fs forms h.1 k.1 in
    λ i. tokens (here i) ∷ there i
same_forms (Tokens ts ∷ scanned) (faulty g ∷ fs) forms h k = absurd h
same_forms (Faulty f ∷ scanned) [] forms h k = absurd h
same_forms (Faulty f ∷ scanned) (g ∷ fs) [] h k = absurd k
same_forms (Faulty f ∷ scanned) (g ∷ fs) (form ∷ forms) h k = absurd k

pub token_forms : (text : List ℕ) → TokenFormLaws text
token_forms text = record {
  of_tokens = λ all file forms h. of_scans all file text (map tokens forms) forms h refl;
  scanned = λ all file scanned forms h k. subst (Scans all file text) (same_forms scanned h.0 forms h.1 k) h.2;
}
