-- The faults and the tokens that are taken from scanned forms.
use Rattle.std.proofs.Common.{◌≡◌, ◌≢◌, ℕ, List, [], ◌∷◌, ◌++◌, Bool, true, false, length, refl, sym, ap, ap₂, ◌∙◌, subst, append-nil, arith, map}
use Rattle.std.specs.Prelude.{Vec, ◌==◌}
use Rattle.std.proofs.lemmas.Bool.{eqb-true}
use Rattle.std.specs.declared.alloc.Global.{Global}
use Rattle.std.specs.List.{flat_map}
use Rattle.std.proofs.lemmas.Grind.{flat_map-append}
use Rattle.std.specs.BTreeSet.{insert_key}
use Rattle.std.specs.declared.cmp.Ordering.TheVariants.{Less, Equal, Greater}
use Rattle.std.specs.Ordering.{match_ordering}
use Rattle.ef_base.specs.declared.fault.Fault.{Fault}
use Rattle.ef_base.specs.Faults.{set_of, insert_fault}
use Rattle.ef_base.specs.Order.{fault_cmp}
use Rattle.ef_base.specs.Texts.{Texts}
use Rattle.ef_base.specs.Cut.{Placed}
use Rattle.ef_base.proofs.FaultLaws.{set_of-push}
use Rattle.ef_token.specs.declared.token.TokenKind.{TokenKind}
use Rattle.ef_token.specs.declared.token.TokenKind.TheVariants as kind
use Rattle.ef_token.specs.declared.token.Token.{Token}
use Rattle.ef_token.specs.declared.token.ScannedForm.{ScannedForm}
use Rattle.ef_token.specs.declared.token.ScannedForm.TheVariants.{Tokens, Faulty as faulty_form}
use Rattle.ef_token.specs.Lexeme as x
use Rattle.ef_token.specs.Lexeme.{Lexeme, IsKind, AreTokens}
use Rattle.ef_token.specs.Parts.{Part, lexemes_of}
use Rattle.ef_token.specs.TokenForm.{KindOf, TokensOf, AllTokensOf, AreForms}
use Rattle.ef_scan.specs.Scan.{Form, tokens, faulty, Forms, no_more, ended, broken, unended, FormsOf, latin, unicode, Scans, not_utf8, is_cut, AreOf}
use Rattle.ef_scan.proofs.TokenForms.{form_ends}
use Rattle.ef_module.specs.Modules.{lists}
use Rattle.ef_front.specs.Source.{faults_in, tokens_in}
use Rattle.ef_front.specs.Compiles.{AreTaken, fault_of, tokens_of}

-- ---- empty lists

pub empty_list : {A : Type 0} (xs : List A) (b : Bool) → b ≡ (length xs == 0) → b ≡ true → xs ≡ []
empty_list [] b is sure = refl
empty_list (x ∷ xs) b is sure = let none : length (x ∷ xs) ≡ 0 = eqb-true (length (x ∷ xs)) 0 (sym is ∙ sure) in absurd (omega (arith, none))

pub some_list : {A : Type 0} (xs : List A) (b : Bool) → b ≡ (length xs == 0) → b ≡ false → xs ≢ []
some_list [] b is sure none = let bad : false ≡ true = sym sure ∙ is in cc
some_list (x ∷ xs) b is sure none = let bad : x ∷ xs ≡ [] = none in cc

insert_some : (f : Fault) (xs : List Fault) → insert_fault f xs ≡ [] → ⊥
insert_some f [] is = cc
insert_some f (y ∷ xs) is =
    elim (fault_cmp f y) as (λ c. match_ordering c (f ∷ y ∷ xs) (y ∷ xs) (y ∷ insert_key fault_cmp xs f) ≡ [] → ⊥) [ Less ↦ λ e. cc | Equal ↦ λ e. cc | Greater ↦ λ e. cc ] is

pub set_none : (xs : List Fault) → set_of xs ≡ [] → xs ≡ []
set_none [] is = refl
set_none (x ∷ xs) is = absurd (insert_some x (set_of xs) is)

-- ---- names of tokens

kinds_named : (all : Texts) (l : Lexeme) (k : TokenKind) → IsKind all l k → KindOf all k
kinds_named all (x.atom cs) (kind.Atom n) h = h.0.within
kinds_named all (x.variable cs) (kind.Var n) h = h.within
kinds_named all (x.integer n) (kind.Int i) h = tt
kinds_named all (x.character c) (kind.Char d) h = tt
kinds_named all (x.string cs) (kind.Str ds) h = tt
kinds_named all (x.word w) (kind.Word v) h = tt
kinds_named all (x.symbol s) (kind.Sym t) h = tt
kinds_named all x.full_stop kind.Dot h = tt
kinds_named all l k h = absurd h

tokens_named : (all : Texts) (file : ℕ) (ls : List (Placed Lexeme)) (ts : List Token) → AreTokens all file ls ts → TokensOf all ts
tokens_named all file [] [] h = tt
tokens_named all file [] (t ∷ ts) h = absurd h
tokens_named all file (l ∷ ls) [] h = absurd h
tokens_named all file (l ∷ ls) (t ∷ ts) h = (kinds_named all l.lexeme t.kind h.1, tokens_named all file ls ts h.2)

-- the forms of tokens end with their only full stops, and their names are of the table
abbrev AreReady : Texts → List Form → Type 0
AreReady all fs = AreForms (tokens_in fs) × AllTokensOf all (tokens_in fs)

forms_ready : (all : Texts) (file : ℕ) (ps : List (Placed Part)) (fs : List Form) → Forms all file ps fs → AreReady all fs
forms_ready all file _ _ (no_more ps h) = (tt, tt)
forms_ready all file _ _ (ended ps more dot ts fs o d t f) =
    let rest = forms_ready all file more fs f in
    ((form_ends all file ps dot ts o d t, rest.0), (tokens_named all file (lexemes_of (ps ++ dot ∷ [])) ts t, rest.1))
forms_ready all file _ _ (broken ps more p code fs o d f) = forms_ready all file more fs f
forms_ready all file _ _ (unended ps first ls o l) = (tt, tt)

parts_ready : (all : Texts) (file : ℕ) (ps : List (Placed Part)) (fs : List Form) → FormsOf all file ps fs → AreReady all fs
parts_ready all file _ _ (latin ps more p n c) = (tt, tt)
parts_ready all file _ _ (unicode ps fs n f) = forms_ready all file ps fs f

pub scan_ready : (all : Texts) (file : ℕ) (text : List ℕ) (fs : List Form) → Scans all file text fs → AreReady all fs
scan_ready all file text _ (not_utf8 n h) = (tt, tt)
scan_ready all file text _ (is_cut ps fs u c f) = parts_ready all file ps fs f

-- ---- one more form

pub lists_more : (vs : List (Vec Token Global)) (v : Vec Token Global) → lists (vs ++ v ∷ []) ≡ lists vs ++ v.items ∷ []
lists_more [] v = refl
lists_more (w ∷ vs) v = ap (λ (l : List (List Token)). w.items ∷ l) (lists_more vs v)

tokens_more : (before : List ScannedForm) (faults : List Fault) (vs : List (Vec Token Global)) (ts : Vec Token Global) → AreTaken before faults (lists vs) → AreTaken (before ++ Tokens ts ∷ []) faults (lists (vs ++ ts ∷ []))
tokens_more before faults vs ts h = record {
  faulty = h.faulty ∙ ap set_of (sym (append-nil (flat_map fault_of before)) ∙ sym (flat_map-append fault_of before (Tokens ts ∷ [])));
  whole = lists_more vs ts ∙ ap (λ l. l ++ ts.items ∷ []) h.whole ∙ sym (flat_map-append tokens_of before (Tokens ts ∷ []));
}

fault_more : (before : List ScannedForm) (faults : List Fault) (forms : List (List Token)) (fault : Fault) → AreTaken before faults forms → AreTaken (before ++ faulty_form fault ∷ []) (insert_fault fault faults) forms
fault_more before faults forms fault h = record {
  faulty = ap (insert_fault fault) h.faulty ∙ set_of-push (flat_map fault_of before) fault ∙ ap set_of (sym (flat_map-append fault_of before (faulty_form fault ∷ [])));
  whole = h.whole ∙ sym (append-nil (flat_map tokens_of before)) ∙ sym (flat_map-append tokens_of before (faulty_form fault ∷ []));
}

pub one_whole : (before : List ScannedForm) (faults : List Fault) (vs ws : List (Vec Token Global)) (form : ScannedForm) (ts : Vec Token Global) → form ≡ Tokens ts → ws ≡ vs ++ ts ∷ [] → AreTaken before faults (lists vs)
    → AreTaken (before ++ form ∷ []) faults (lists ws)
one_whole before faults vs ws form ts is longer h =
    subst (λ f. AreTaken (before ++ f ∷ []) faults (lists ws)) (sym is)
    (subst (λ us. AreTaken (before ++ Tokens ts ∷ []) faults (lists us)) (sym longer) (tokens_more before faults vs ts h))

pub one_faulty : (before : List ScannedForm) (faults new : List Fault) (forms : List (List Token)) (form : ScannedForm) (fault : Fault) → form ≡ faulty_form fault → new ≡ insert_fault fault faults → AreTaken before faults forms
    → AreTaken (before ++ form ∷ []) new forms
one_faulty before faults new forms form fault is more h =
    subst (λ f. AreTaken (before ++ f ∷ []) new forms) (sym is)
    (subst (λ l. AreTaken (before ++ faulty_form fault ∷ []) l forms) (sym more) (fault_more before faults forms fault h))

-- ---- all forms

pub faults_taken : (scanned : List ScannedForm) (forms : List Form) → AreOf scanned forms → flat_map fault_of scanned ≡ faults_in forms
faults_taken [] [] h = refl
faults_taken [] (form ∷ forms) h = absurd h
faults_taken (Tokens ts ∷ scanned) [] h = absurd h
faults_taken (Tokens ts ∷ scanned) (tokens us ∷ forms) h = faults_taken scanned forms h.1
faults_taken (Tokens ts ∷ scanned) (faulty g ∷ forms) h = absurd h
faults_taken (faulty_form f ∷ scanned) [] h = absurd h
faults_taken (faulty_form f ∷ scanned) (tokens us ∷ forms) h = absurd h
faults_taken (faulty_form f ∷ scanned) (faulty g ∷ forms) h = ap₂ (λ z l. z ∷ l) h.0 (faults_taken scanned forms h.1)

pub tokens_taken : (scanned : List ScannedForm) (forms : List Form) → AreOf scanned forms → flat_map tokens_of scanned ≡ tokens_in forms
tokens_taken [] [] h = refl
tokens_taken [] (form ∷ forms) h = absurd h
tokens_taken (Tokens ts ∷ scanned) [] h = absurd h
tokens_taken (Tokens ts ∷ scanned) (tokens us ∷ forms) h = ap₂ (λ z l. z ∷ l) h.0 (tokens_taken scanned forms h.1)
tokens_taken (Tokens ts ∷ scanned) (faulty g ∷ forms) h = absurd h
tokens_taken (faulty_form f ∷ scanned) [] h = absurd h
tokens_taken (faulty_form f ∷ scanned) (tokens us ∷ forms) h = absurd h
tokens_taken (faulty_form f ∷ scanned) (faulty g ∷ forms) h = tokens_taken scanned forms h.1

-- without a faulty form all are of tokens
pub all_tokens : (forms : List Form) → faults_in forms ≡ [] → map tokens (tokens_in forms) ≡ forms
all_tokens [] none = refl
all_tokens (tokens ts ∷ forms) none = ap (λ l. tokens ts ∷ l) (all_tokens forms none)
all_tokens (faulty f ∷ forms) none = let bad : f ∷ faults_in forms ≡ [] = none in cc
