-- What is gathered with one more part, and at the end.
use Rattle.std.proofs.Common.{ℕ, ◌≤◌, ◌≡◌, ◌≢◌, List, [], ◌∷◌, ◌++◌, refl, subst, sym, ap, ◌∙◌, append_assoc, append-nil, Vec, Global}
use Rattle.std.specs.Prelude.{Option, Some, None, Result, Ok, Err, IfOk, IsUtf8, chars, encode_utf8_all}
use Rattle.std.proofs.lemmas.Str.{chars_from_encodes}
use Rattle.ef_base.specs.declared.fault.Place.{Place}
use Rattle.ef_base.specs.declared.fault.Fault.{Fault}
use Rattle.ef_base.specs.Texts.{Texts}
use Rattle.ef_base.specs.Positions.{Position, place_at}
use Rattle.ef_base.specs.Cut.{Placed}
use Rattle.ef_token.specs.Lexeme as x
use Rattle.ef_token.specs.Lexeme.{Lexeme, IsKind, AreTokens, full_stop}
use Rattle.ef_token.specs.Parts.{Part, lexeme, comment, fault, lexemes_of, with_lexeme}
use Rattle.ef_token.specs.declared.token.TokenKind.{TokenKind}
use Rattle.ef_token.specs.declared.token.TokenKind.TheVariants as kind
use Rattle.ef_token.specs.declared.token.Token.{Token}
use Rattle.ef_token.specs.declared.token.ScannedForm.{ScannedForm}
use Rattle.ef_token.specs.declared.token.ScannedForm.TheVariants.{Tokens, Faulty}
use Rattle.ef_scan.specs.declared.gathered.Gathered.{Gathered}
use Rattle.ef_scan.specs.Scan.{Form, tokens, faulty, Forms, no_more, ended, broken, unended, FormsOf, latin, unicode, IsOpen, AreComments, HasCoding, IsCoding, NoCoding, AreOf, fault_at}
use Rattle.ef_scan.specs.Gathered.{IsLatin, Gathers, AreFormsOf}

-- ---- lists with one more

are_more : (done : List ScannedForm) (fs : List Form) (s : ScannedForm) (f : Form) → AreOf done fs → AreOf (s ∷ []) (f ∷ []) → AreOf (done ++ s ∷ []) (fs ++ f ∷ [])
are_more [] [] s f h k = k
are_more [] (g ∷ fs) s f h k = absurd h
are_more (Tokens ts ∷ done) [] s f h k = absurd h
are_more (Tokens ts ∷ done) (tokens us ∷ fs) s f h k = (h.0, are_more done fs s f h.1 k)
are_more (Tokens ts ∷ done) (faulty g ∷ fs) s f h k = absurd h
are_more (Faulty x ∷ done) [] s f h k = absurd h
are_more (Faulty x ∷ done) (tokens us ∷ fs) s f h k = absurd h
are_more (Faulty x ∷ done) (faulty g ∷ fs) s f h k = (h.0, are_more done fs s f h.1 k)

open_more : (ps : List (Placed Part)) (p : Placed Part) → IsOpen ps → (p.lexeme ≢ lexeme full_stop) → ((code : ℕ) → p.lexeme ≢ fault code) → IsOpen (ps ++ p ∷ [])
open_more [] p h n m = ((n, m), tt)
open_more (q ∷ ps) p h n m = (h.0, open_more ps p h.1 n m)

pub lexemes_more : (ps qs : List (Placed Part)) → lexemes_of (ps ++ qs) ≡ lexemes_of ps ++ lexemes_of qs
lexemes_more [] qs = refl
lexemes_more (p ∷ ps) qs = ap (λ t. with_lexeme p.lexeme p.at t) (lexemes_more ps qs) ∙ go p.lexeme
  where
    go : (k : Part) → with_lexeme k p.at (lexemes_of ps ++ lexemes_of qs) ≡ with_lexeme k p.at (lexemes_of ps) ++ lexemes_of qs
    go (lexeme l) = refl
    go (comment cs) = refl
    go (fault code) = refl

tokens_more : (all : Texts) (file : ℕ) (ls : List (Placed Lexeme)) (ts : List Token) (l : Placed Lexeme) (t : Token) → AreTokens all file ls ts → t.place ≡ place_at file l.at → IsKind all l.lexeme t.kind
    → AreTokens all file (ls ++ l ∷ []) (ts ++ t ∷ [])
tokens_more all file [] [] l t h p k = (p, k, tt)
tokens_more all file [] (u ∷ ts) l t h p k = absurd h
tokens_more all file (m ∷ ls) [] l t h p k = absurd h
tokens_more all file (m ∷ ls) (u ∷ ts) l t h p k = (h.0, h.1, tokens_more all file ls ts l t h.2 p k)

no_coding_more : (ps : List (Placed Part)) (p : Placed Part) → NoCoding ps → (IsCoding p → ⊥) → NoCoding (ps ++ p ∷ [])
no_coding_more [] p h n = (n, tt)
no_coding_more (q ∷ ps) p h n = (h.0, no_coding_more ps p h.1 n)

latin_more : (file : ℕ) (o : Option Place) (parts : List (Placed Part)) (p : Placed Part) → IsLatin file o parts → (IsCoding p → ⊥) → IsLatin file o (parts ++ p ∷ [])
latin_more file None parts p h n = no_coding_more parts p h n
latin_more file (Some place) parts p h n =
    (h.0, h.1 ++ p ∷ [], h.2, ap (λ t. t ++ p ∷ []) h.3 ∙ append_assoc h.0 (h.2 ∷ h.1) (p ∷ []), h.4, h.5, h.6)

latin_kept : (file : ℕ) (place : Place) (parts : List (Placed Part)) (p : Placed Part) → IsLatin file (Some place) parts → IsLatin file (Some place) (parts ++ p ∷ [])
latin_kept file place parts p h =
    (h.0, h.1 ++ p ∷ [], h.2, ap (λ t. t ++ p ∷ []) h.3 ∙ append_assoc h.0 (h.2 ∷ h.1) (p ∷ []), h.4, h.5, h.6)

-- a part with this lexeme
lexeme_part : (p : Placed Part) (l : Lexeme) → p.lexeme ≡ lexeme l → lexemes_of (p ∷ []) ≡ (record { lexeme = l; at = p.at }) ∷ []
lexeme_part p l e = ap (λ k. with_lexeme k p.at []) e

comment_part : (p : Placed Part) (cs : List ℕ) → p.lexeme ≡ comment cs → lexemes_of (p ∷ []) ≡ []
comment_part p cs e = ap (λ k. with_lexeme k p.at []) e

pub stop_kind : (all : Texts) (k : TokenKind) → IsKind all full_stop k → k ≡ kind.Dot
stop_kind all kind.Dot h = refl
stop_kind all k h = absurd h

pub dot_lexeme : (all : Texts) (l : Lexeme) → IsKind all l kind.Dot → l ≡ full_stop
dot_lexeme all x.full_stop h = refl
dot_lexeme all l h = absurd h

-- ---- one more part

pub gathers_none : (all : Texts) (file : ℕ) (g : Gathered) → g.done.items ≡ [] → g.open_form.items ≡ [] → g.latin ≡ None → Gathers all file g []
gathers_none all file g d o l = record {
  before = [];
  unended = [];
  forms = [];
  is = refl;
  are = subst (λ t. AreOf t []) (sym d) tt;
  on = λ more later h. h;
  is_open = tt;
  tokens = subst (AreTokens all file []) (sym o) tt;
  latin = subst (λ t. IsLatin file t []) (sym l) tt;
}

module _ (all : Texts) (file : ℕ) (old new : Gathered) (parts : List (Placed Part)) (p : Placed Part) (h : Gathers all file old parts) where
  pub gathers_lexeme : (l : Lexeme) (t : Token) → p.lexeme ≡ lexeme l → t.place ≡ place_at file p.at → IsKind all l t.kind → t.kind ≢ kind.Dot
      → new.done.items ≡ old.done.items → new.open_form.items ≡ old.open_form.items ++ t ∷ [] → new.latin ≡ old.latin → Gathers all file new (parts ++ p ∷ [])
  gathers_lexeme l t e place is n done opened same = record {
    before = h.before;
    unended = h.unended ++ p ∷ [];
    forms = h.forms;
    is = sym (append_assoc h.before h.unended (p ∷ [])) ∙ ap (λ t. t ++ p ∷ []) h.is;
    are = subst (λ t. AreOf t h.forms) (sym done) h.are;
    on = h.on;
    is_open =
        open_more h.unended p h.is_open
        (λ z. let s : l ≡ full_stop = cc (e, z) in n (stop_kind all t.kind (subst (λ m. IsKind all m t.kind) s is)))
        (λ code z. cc (sym e ∙ z));
    tokens =
        subst (λ ls. AreTokens all file ls new.open_form.items) (sym (lexemes_more h.unended (p ∷ []) ∙ ap (λ ls. lexemes_of h.unended ++ ls) (lexeme_part p l e)))
        (subst (AreTokens all file (lexemes_of h.unended ++ (record { lexeme = l; at = p.at }) ∷ [])) (sym opened)
        (tokens_more all file (lexemes_of h.unended) old.open_form.items (record { lexeme = l; at = p.at }) t h.tokens place is));
    latin = subst (λ o. IsLatin file o (parts ++ p ∷ [])) (sym same) (latin_more file old.latin parts p h.latin (λ c. cc (sym e ∙ c.2)));
  }

  pub gathers_form : (l : Lexeme) (t : Token) (s : ScannedForm) → p.lexeme ≡ lexeme l → t.place ≡ place_at file p.at → IsKind all l t.kind → t.kind ≡ kind.Dot
      → AreOf (s ∷ []) (tokens (old.open_form.items ++ t ∷ []) ∷ []) → new.done.items ≡ old.done.items ++ s ∷ [] → new.open_form.items ≡ [] → new.latin ≡ old.latin
      → Gathers all file new (parts ++ p ∷ [])
  gathers_form l t s e place is dot_is form done opened same = record {
    before = h.before ++ (h.unended ++ p ∷ []);
    unended = [];
    forms = h.forms ++ tokens (old.open_form.items ++ t ∷ []) ∷ [];
    is = append-nil (h.before ++ (h.unended ++ p ∷ [])) ∙ sym (append_assoc h.before h.unended (p ∷ [])) ∙ ap (λ t. t ++ p ∷ []) h.is;
    are = subst (λ d. AreOf d (h.forms ++ tokens (old.open_form.items ++ t ∷ []) ∷ [])) (sym done) (are_more old.done.items h.forms s (tokens (old.open_form.items ++ t ∷ [])) h.are form);
    on = λ more later k.
        subst (λ qs. Forms all file qs ((h.forms ++ tokens (old.open_form.items ++ t ∷ []) ∷ []) ++ later)) (regroup more)
        (subst (Forms all file (h.before ++ (h.unended ++ p ∷ more))) (sym (append_assoc h.forms (tokens (old.open_form.items ++ t ∷ []) ∷ []) later))
        (h.on (h.unended ++ p ∷ more) (tokens (old.open_form.items ++ t ∷ []) ∷ later) (ended h.unended more p (old.open_form.items ++ t ∷ []) later h.is_open stop all_tokens k)));
    is_open = tt;
    tokens = subst (AreTokens all file []) (sym opened) tt;
    latin = subst (λ o. IsLatin file o (parts ++ p ∷ [])) (sym same) (latin_more file old.latin parts p h.latin (λ c. cc (sym e ∙ c.2)));
  }
    where
      stop : p.lexeme ≡ lexeme full_stop
      stop = e ∙ ap lexeme (dot_lexeme all l (subst (IsKind all l) dot_is is))

      all_tokens : AreTokens all file (lexemes_of (h.unended ++ p ∷ [])) (old.open_form.items ++ t ∷ [])
      all_tokens =
          subst (λ ls. AreTokens all file ls (old.open_form.items ++ t ∷ [])) (sym (lexemes_more h.unended (p ∷ []) ∙ ap (λ ls. lexemes_of h.unended ++ ls) (lexeme_part p l e)))
          (tokens_more all file (lexemes_of h.unended) old.open_form.items (record { lexeme = l; at = p.at }) t h.tokens place is)

      regroup : (more : List (Placed Part)) → h.before ++ (h.unended ++ p ∷ more) ≡ (h.before ++ (h.unended ++ p ∷ [])) ++ more
      regroup more = ap (λ t. h.before ++ t) (sym (append_assoc h.unended (p ∷ []) more)) ∙ sym (append_assoc h.before (h.unended ++ p ∷ []) more)

  pub gathers_comment : (cs : List ℕ) → p.lexeme ≡ comment cs → new.done.items ≡ old.done.items → new.open_form.items ≡ old.open_form.items → IsLatin file new.latin (parts ++ p ∷ [])
      → Gathers all file new (parts ++ p ∷ [])
  gathers_comment cs e done opened latin_is = record {
    before = h.before;
    unended = h.unended ++ p ∷ [];
    forms = h.forms;
    is = sym (append_assoc h.before h.unended (p ∷ [])) ∙ ap (λ t. t ++ p ∷ []) h.is;
    are = subst (λ t. AreOf t h.forms) (sym done) h.are;
    on = h.on;
    is_open = open_more h.unended p h.is_open (λ z. cc (sym e ∙ z)) (λ code z. cc (sym e ∙ z));
    tokens =
        subst (λ ls. AreTokens all file ls new.open_form.items)
        (sym (lexemes_more h.unended (p ∷ []) ∙ ap (λ ls. lexemes_of h.unended ++ ls) (comment_part p cs e) ∙ append-nil (lexemes_of h.unended)))
        (subst (AreTokens all file (lexemes_of h.unended)) (sym opened) h.tokens);
    latin = latin_is;
  }

  pub gathers_fault : (code : ℕ) (s : ScannedForm) → p.lexeme ≡ fault code → AreOf (s ∷ []) (faulty (fault_at file p.at code) ∷ []) → new.done.items ≡ old.done.items ++ s ∷ []
      → new.open_form.items ≡ [] → new.latin ≡ old.latin → Gathers all file new (parts ++ p ∷ [])
  gathers_fault code s e form done opened same = record {
    before = h.before ++ (h.unended ++ p ∷ []);
    unended = [];
    forms = h.forms ++ faulty (fault_at file p.at code) ∷ [];
    is = append-nil (h.before ++ (h.unended ++ p ∷ [])) ∙ sym (append_assoc h.before h.unended (p ∷ [])) ∙ ap (λ t. t ++ p ∷ []) h.is;
    are = subst (λ d. AreOf d (h.forms ++ faulty (fault_at file p.at code) ∷ [])) (sym done) (are_more old.done.items h.forms s (faulty (fault_at file p.at code)) h.are form);
    on = λ more later k.
        subst (λ qs. Forms all file qs ((h.forms ++ faulty (fault_at file p.at code) ∷ []) ++ later)) (regroup more)
        (subst (Forms all file (h.before ++ (h.unended ++ p ∷ more))) (sym (append_assoc h.forms (faulty (fault_at file p.at code) ∷ []) later))
        (h.on (h.unended ++ p ∷ more) (faulty (fault_at file p.at code) ∷ later) (broken h.unended more p code later h.is_open e k)));
    is_open = tt;
    tokens = subst (AreTokens all file []) (sym opened) tt;
    latin = subst (λ o. IsLatin file o (parts ++ p ∷ [])) (sym same) (latin_more file old.latin parts p h.latin (λ c. cc (sym e ∙ c.2)));
  }
    where
      regroup : (more : List (Placed Part)) → h.before ++ (h.unended ++ p ∷ more) ≡ (h.before ++ (h.unended ++ p ∷ [])) ++ more
      regroup more = ap (λ t. h.before ++ t) (sym (append_assoc h.unended (p ∷ []) more)) ∙ sym (append_assoc h.before (h.unended ++ p ∷ []) more)

pub is_fault : (file : ℕ) (at : Position) (code : ℕ) (f : Fault) → f.place ≡ place_at file at → f.code ≡ code → f.words ≡ [] → f ≡ fault_at file at code
is_fault file at code f p c w =
    ap (λ (z : Place). let g : Fault = record { place = z; code = f.code; words = f.words } in g) p
    ∙ ap (λ (z : ℕ). let g : Fault = record { place = place_at file at; code = z; words = f.words } in g) c
    ∙ ap (λ (z : List ℕ). let g : Fault = record { place = place_at file at; code = code; words = z } in g) w

pub is_faulty : (file : ℕ) (at : Position) (code : ℕ) (s : ScannedForm) (f : Fault) → s ≡ Faulty f → f.place ≡ place_at file at → f.code ≡ code → f.words ≡ []
    → AreOf (s ∷ []) (faulty (fault_at file at code) ∷ [])
is_faulty file at code s f e p c w = subst (λ z. AreOf (z ∷ []) (faulty (fault_at file at code) ∷ [])) (sym e) (is_fault file at code f p c w, tt)

-- ---- the end

first_at : (file : ℕ) (all : Texts) (ls : List (Placed Lexeme)) (t : Token) (ts : List Token) → AreTokens all file ls (t ∷ ts) → (l : Placed Lexeme) × (more : List (Placed Lexeme)) × (ls ≡ l ∷ more) × (t.place ≡ place_at file l.at)
first_at file all [] t ts h = absurd h
first_at file all (l ∷ ls) t ts h = (l, ls, refl, h.0)

no_tokens : (file : ℕ) (all : Texts) (ls : List (Placed Lexeme)) → AreTokens all file ls [] → ls ≡ []
no_tokens file all [] h = refl
no_tokens file all (l ∷ ls) h = absurd h

only_comments : (ps : List (Placed Part)) → IsOpen ps → lexemes_of ps ≡ [] → AreComments ps
only_comments [] h e = tt
only_comments (p ∷ ps) h e = (of p.lexeme refl, only_comments ps h.1 (left p.lexeme e))
  where
    of : (k : Part) → p.lexeme ≡ k → (cs : List ℕ) × (p.lexeme ≡ comment cs)
    of (lexeme l) z = cc (sym (ap (λ k. with_lexeme k p.at (lexemes_of ps)) z) ∙ e)
    of (comment cs) z = (cs, z)
    of (fault code) z = absurd (h.0.1 code z)

    left : (k : Part) → with_lexeme k p.at (lexemes_of ps) ≡ [] → lexemes_of ps ≡ []
    left (lexeme l) z = cc z
    left (comment cs) z = z
    left (fault code) z = z

pub finish_latin : (all : Texts) (file : ℕ) (g : Gathered) (place : Place) (parts : List (Placed Part)) (scanned : List ScannedForm) (f : Fault) → g.latin ≡ Some place → Gathers all file g parts
    → scanned ≡ Faulty f ∷ [] → f.place ≡ place → f.code ≡ 112 → f.words ≡ [] → AreFormsOf all file parts scanned
finish_latin all file g place parts scanned f e h is p c w =
    let l : IsLatin file (Some place) parts = subst (λ o. IsLatin file o parts) e h.latin in (
      faulty (fault_at file l.2.at 112) ∷ [],
      subst (λ t. AreOf t (faulty (fault_at file l.2.at 112) ∷ [])) (sym is) (is_fault file l.2.at 112 f (p ∙ l.6) c w, tt),
      subst (λ t. FormsOf all file t (faulty (fault_at file l.2.at 112) ∷ [])) (sym l.3) (latin l.0 l.1 l.2 l.4 l.5),
    )

pub finish_none : (all : Texts) (file : ℕ) (g : Gathered) (parts : List (Placed Part)) → g.latin ≡ None → Gathers all file g parts → g.open_form.items ≡ [] → AreFormsOf all file parts g.done.items
finish_none all file g parts e h opened =
    let comments : AreComments h.unended = only_comments h.unended h.is_open (no_tokens file all (lexemes_of h.unended) (subst (AreTokens all file (lexemes_of h.unended)) opened h.tokens)) in (
      h.forms,
      h.are,
      unicode parts h.forms (subst (λ o. IsLatin file o parts) e h.latin)
          (subst (λ qs. Forms all file qs h.forms) h.is (subst (Forms all file (h.before ++ h.unended)) (append-nil h.forms) (h.on h.unended [] (no_more h.unended comments)))),
    )

pub finish_open : (all : Texts) (file : ℕ) (g : Gathered) (parts : List (Placed Part)) (place : Place) (t : Token) (ts : List Token) (scanned : List ScannedForm) (s : ScannedForm) (f : Fault)
    → g.latin ≡ None → Gathers all file g parts → g.open_form.items ≡ t ∷ ts → place ≡ t.place → scanned ≡ g.done.items ++ s ∷ [] → s ≡ Faulty f → f.place ≡ place → f.code ≡ 110 → f.words ≡ []
    → AreFormsOf all file parts scanned
finish_open all file g parts place t ts scanned s f e h opened at is form p c w =
    let first = first_at file all (lexemes_of h.unended) t ts (subst (AreTokens all file (lexemes_of h.unended)) opened h.tokens) in (
      h.forms ++ faulty (fault_at file first.0.at 110) ∷ [],
      subst (λ d. AreOf d (h.forms ++ faulty (fault_at file first.0.at 110) ∷ [])) (sym is)
          (are_more g.done.items h.forms s (faulty (fault_at file first.0.at 110)) h.are (is_faulty file first.0.at 110 s f form (p ∙ at ∙ first.3) c w)),
      unicode parts (h.forms ++ faulty (fault_at file first.0.at 110) ∷ []) (subst (λ o. IsLatin file o parts) e h.latin)
          (subst (λ qs. Forms all file qs (h.forms ++ faulty (fault_at file first.0.at 110) ∷ [])) h.is
          (h.on h.unended (faulty (fault_at file first.0.at 110) ∷ []) (unended h.unended first.0 first.1 h.is_open first.2))),
    )

pub all_latin : {E : Type 0} (g : Gathered) (place : Place) (r : Result (Vec ScannedForm Global) E) → g.latin ≡ Some place
    → IfOk r (λ forms. (f : Fault) × (forms.items ≡ Faulty f ∷ []) × (f.place ≡ place) × (f.code ≡ 112) × (f.words ≡ []))
    → IfOk r (λ forms. (all : Texts) (file : ℕ) (parts : List (Placed Part)) → Gathers all file g parts → AreFormsOf all file parts forms.items)
all_latin g place (Ok forms) e h = λ all file parts k. finish_latin all file g place parts forms.items h.0 e k h.1 h.2 h.3 h.4
all_latin g place (Err x) e h = tt

pub all_open : {E : Type 0} (g : Gathered) (place : Place) (s : ScannedForm) (r : Result (Vec ScannedForm Global) E) → g.latin ≡ None
    → (t : Token) × (ts : List Token) × (g.open_form.items ≡ t ∷ ts) × (place ≡ t.place) → (f : Fault) × (s ≡ Faulty f) × (f.place ≡ place) × (f.code ≡ 110) × (f.words ≡ [])
    → IfOk r (λ more. more.items ≡ g.done.items ++ s ∷ [])
    → IfOk r (λ forms. (all : Texts) (file : ℕ) (parts : List (Placed Part)) → Gathers all file g parts → AreFormsOf all file parts forms.items)
all_open g place s (Ok forms) e t f h = λ all file parts k. finish_open all file g parts place t.0 t.1 forms.items s f.0 e k t.2 t.3 h f.1 f.2 f.3 f.4
all_open g place s (Err x) e t f h = tt

-- ---- one more comment

pub latin_found : (file : ℕ) (parts : List (Placed Part)) (p : Placed Part) (place : Place) → IsLatin file None parts → IsCoding p → place ≡ place_at file p.at → IsLatin file (Some place) (parts ++ p ∷ [])
latin_found file parts p place h is e = (parts, [], p, refl, h, is, e)

pub latin_same : (file : ℕ) (o : Option Place) (parts : List (Placed Part)) (p : Placed Part) (place : Place) (cs text : List ℕ) → p.lexeme ≡ comment cs → chars text ≡ cs → place ≡ place_at file p.at
    → ((o ≡ None) × (place.line ≤ 2) × HasCoding (chars text) → ⊥) → IsLatin file o parts → IsLatin file o (parts ++ p ∷ [])
latin_same file (Some old) parts p place cs text e t at never h = latin_kept file old parts p h
latin_same file None parts p place cs text e t at never h =
    no_coding_more parts p h
    (λ is. never (
      refl,
      subst (λ (z : Place). z.line ≤ 2) (sym at) is.0,
      subst HasCoding (sym t) (subst HasCoding (same is.1 (sym is.2 ∙ e)) is.3),
    ))
  where
    same : (ds : List ℕ) → comment ds ≡ comment cs → ds ≡ cs
    same ds z = cc z

pub is_coding : (file : ℕ) (p : Placed Part) (place : Place) (cs text : List ℕ) → p.lexeme ≡ comment cs → chars text ≡ cs → place ≡ place_at file p.at → place.line ≤ 2 → HasCoding (chars text) → IsCoding p
is_coding file p place cs text e t at low h = (subst (λ (z : Place). z.line ≤ 2) at low, cs, e, subst HasCoding t h)

pub comment_chars : (cs text : List ℕ) → IsUtf8 text → text ≡ encode_utf8_all cs → chars text ≡ cs
comment_chars cs text u e = sym (chars_from_encodes cs text u (sym e))
