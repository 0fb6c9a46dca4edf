-- What is spelled is scanned as the token that it was.
use Rattle.std.specs.Prelude.{ℕ, ◌^◌, ◌<◌, ◌≤◌, ◌≡◌, ◌≢◌, List, [], ◌∷◌, ◌++◌, length, codes, chars, encode_utf8_all, IsUtf8, Result, Ok, Err, IfOk, refl}
use Rattle.std.proofs.Common.{ap, ◌∙◌, sym, subst, inl, inr, append_assoc}
use Rattle.std.proofs.lemmas.Str.{encodes-append, chars-encodes, scalars-chars}
use Rattle.std.proofs.Math.Utf8.{scalar}
use Rattle.ef_base.specs.declared.name.Name.{Name}
use Rattle.ef_base.specs.Texts.{Texts, Extends, HasName, IsNameOf, text}
use Rattle.ef_base.specs.Laws.{named_later}
use Rattle.ef_base.specs.Characters.{Each}
use Rattle.ef_base.specs.Positions.{Position, first_position, position_after}
use Rattle.ef_base.specs.Cut.{Placed}
use Rattle.ef_base.proofs.CutLaws.{position_after-append}
use Rattle.ef_token.specs.Words.{sym_text}
use Rattle.ef_token.specs.declared.word.Sym.TheVariants as symbols
use Rattle.ef_token.specs.declared.token.TokenKind.{TokenKind}
use Rattle.ef_token.specs.declared.token.TokenKind.TheVariants as kind
use Rattle.ef_token.specs.declared.token.Token.{Token}
use Rattle.ef_token.specs.Lexeme as x
use Rattle.ef_token.specs.Lexeme.{Lexeme, IsLexeme, IsKind, AreTokens}
use Rattle.ef_token.specs.Parts.{Part, lexeme, comment, fault, Spelled, CutsInto, lexemes_of, with_lexeme}
use Rattle.ef_token.specs.TokenForm.{KindOf}
use Rattle.ef_token.specs.Spelling.{Spells}
use Rattle.ef_token.specs.Scans.{Form, tokens, Forms, no_more, ended, broken, unended, FormsOf, latin, unicode, Scans, not_utf8, is_cut}
use Rattle.ef_token.specs.ReadsBack.{HasKind, AreWith, IsDot, token_at, ReadsBack}
use Rattle.ef_base.proofs.Classes.{each_append, each_behind}
use Rattle.ef_token.proofs.Parting.{longest_lexeme}
use Rattle.ef_token.proofs.OneScan.{one_scan}
use Rattle.ef_token.proofs.Plain.{encodes_ascii, all_scalars, each_scalar}
use Rattle.ef_token.proofs.Standing.{Stands, stop_stands}
use Rattle.ef_token.proofs.Spelled.{behind, IsRead, IsMeant, read, before_end}

-- ---- a token that some text is scanned to is one of a lexeme of it

-- some text of characters has the lexeme
pub record IsFound (l : Lexeme) : Type 0 where
  pub front : List ℕ
  pub rest : List ℕ
  pub lexeme : IsLexeme l front rest
  pub each : Each scalar (front ++ rest)

abbrev AreFound : List (Placed Part) → Type 0
AreFound [] = Unit {0}
AreFound (p ∷ ps) = ((l : Lexeme) → p.lexeme ≡ lexeme l → IsFound l) × AreFound ps

cut_found : (at : Position) (txt : List ℕ) (ps : List (Placed Part)) → CutsInto at txt ps → Each scalar txt → AreFound ps
cut_found at txt [] c h = tt
cut_found at txt (p ∷ ps) c h =
    let here : Each scalar (c.1 ++ c.2) = each_behind scalar c.0 (c.1 ++ c.2) (subst (Each scalar) c.3 h) in (
      λ l e. record { front = c.1; rest = c.2; lexeme = (subst (λ q. Spelled q c.1 c.2) e c.6).0; each = here },
      cut_found (position_after p.at c.1) c.2 ps c.8 (each_behind scalar c.1 c.2 here),
    )

found_before : (ps qs : List (Placed Part)) → AreFound (ps ++ qs) → AreFound ps
found_before [] qs h = tt
found_before (p ∷ ps) qs h = (h.0, found_before ps qs h.1)

found_behind : (ps qs : List (Placed Part)) → AreFound (ps ++ qs) → AreFound qs
found_behind [] qs h = h
found_behind (p ∷ ps) qs h = found_behind ps qs h.1

module _ (all : Texts) (k : TokenKind) where
  -- a lexeme of this kind
  pub record IsOfKind : Type 0 where
    pub l : Lexeme
    pub is : IsKind all l k
    pub found : IsFound l

  kind_found : (file : ℕ) (ps : List (Placed Part)) (ts : List Token) → AreTokens all file (lexemes_of ps) ts → AreFound ps → HasKind k ts → IsOfKind
  kind_found file [] [] a f h = absurd h
  kind_found file [] (t ∷ ts) a f h = absurd a
  kind_found file (p ∷ ps) ts a f h = go (λ us b. kind_found file ps us b f.1) p.lexeme refl ts a h
    where
      go : ((us : List Token) → AreTokens all file (lexemes_of ps) us → HasKind k us → IsOfKind) → (q : Part) → p.lexeme ≡ q → (ts : List Token)
          → AreTokens all file (with_lexeme q p.at (lexemes_of ps)) ts → HasKind k ts → IsOfKind
      go on (lexeme l) e [] a h = absurd a
      go on (lexeme l) e (t ∷ ts) a (inl same) = record { l = l; is = subst (IsKind all l) same a.1; found = f.0 l e }
      go on (lexeme l) e (t ∷ ts) a (inr h) = on ts a.2 h
      go on (comment cs) e ts a h = on ts a h
      go on (fault code) e ts a h = on ts a h

  form_found : (file : ℕ) (ps : List (Placed Part)) (forms : List Form) → Forms all file ps forms → AreFound ps → AreWith k forms → IsOfKind
  form_found file _ _ (no_more ps c) f h = absurd h
  form_found file _ _ (ended ps more dot ts forms o d t later) f (inl h) =
      kind_found file (ps ++ dot ∷ []) ts t (found_before (ps ++ dot ∷ []) more (subst AreFound (sym (append_assoc ps (dot ∷ []) more)) f)) h
  form_found file _ _ (ended ps more dot ts forms o d t later) f (inr h) =
      form_found file more forms later (found_behind ps (dot ∷ more) f).1 h
  form_found file _ _ (broken ps more p code forms o d later) f h = form_found file more forms later (found_behind ps (p ∷ more) f).1 h
  form_found file _ _ (unended ps first ls o l) f h = absurd h

  of_forms : (file : ℕ) (ps : List (Placed Part)) (forms : List Form) → FormsOf all file ps forms → AreFound ps → AreWith k forms → IsOfKind
  of_forms file _ _ (latin ps more p n c) f h = absurd h
  of_forms file _ _ (unicode ps forms n fs) f h = form_found file ps forms fs f h

  of_scans : (file : ℕ) (txt : List ℕ) (forms : List Form) → Scans all file txt forms → AreWith k forms → IsOfKind
  of_scans file txt _ (not_utf8 n is) h = absurd h
  of_scans file txt _ (is_cut ps forms u c f) h =
      of_forms file ps forms f (cut_found first_position (chars txt) ps c (each_scalar (chars txt) (scalars-chars txt u))) h

-- ---- what is read so is scanned

both_are : (bytes more cs ds : List ℕ) → bytes ≡ encode_utf8_all cs → more ≡ encode_utf8_all ds → bytes ++ more ≡ encode_utf8_all (cs ++ ds)
both_are bytes more cs ds e f = ap (λ t. t ++ more) e ∙ ap (λ t. encode_utf8_all cs ++ t) f ∙ sym (encodes-append cs ds)

both_chars : (bytes more cs ds : List ℕ) → bytes ≡ encode_utf8_all cs → more ≡ encode_utf8_all ds → Each scalar cs → Each scalar ds → chars (bytes ++ more) ≡ cs ++ ds
both_chars bytes more cs ds e f h k = ap chars (both_are bytes more cs ds e f) ∙ chars-encodes (cs ++ ds) (all_scalars (cs ++ ds) (each_append scalar cs ds h k))

-- with a space and a full stop behind them
module _ (all : Texts) (file : ℕ) (l : Lexeme) (k : TokenKind) (bytes : List ℕ) (is : IsKind all l k) (not_stop : l ≢ x.full_stop) (h : IsRead l bytes) where
  abbrev stop_at : Position
  stop_at = position_after first_position (chars (bytes ++ codes " "))

  abbrev first : Placed Part
  first = record { lexeme = lexeme l; at = first_position }

  abbrev dot : Placed Part
  dot = record { lexeme = lexeme x.full_stop; at = stop_at }

  behind_are : codes " ." ≡ encode_utf8_all behind
  behind_are = sym (encodes_ascii behind (refl, (refl, tt)))

  whole : chars (bytes ++ codes " .") ≡ h.cs ++ behind
  whole = both_chars bytes (codes " .") h.cs behind h.are behind_are h.each (refl, (refl, tt))

  utf8 : IsUtf8 (bytes ++ codes " .")
  utf8 = (h.cs ++ behind, (all_scalars (h.cs ++ behind) (each_append scalar h.cs behind h.each (refl, (refl, tt))), sym (both_are bytes (codes " .") h.cs behind h.are behind_are)))

  stop_is : stop_at ≡ position_after (position_after first_position h.cs) (32 ∷ [])
  stop_is =
      ap (position_after first_position) (both_chars bytes (codes " ") h.cs (32 ∷ []) h.are (sym (encodes_ascii (32 ∷ []) (refl, tt))) h.each (refl, tt))
      ∙ position_after-append first_position h.cs (32 ∷ [])

  stop : Stands x.full_stop (46 ∷ []) []
  stop = stop_stands symbols.Period [] (λ t after e. before_end (46 ∷ []) (sym_text t) after e) refl tt

  cut : CutsInto first_position (h.cs ++ behind) (first ∷ dot ∷ [])
  cut = (
    [],
    h.cs,
    behind,
    refl,
    tt,
    refl,
    (h.stands.lexeme, h.stands.faultless),
    longest_lexeme l h.cs behind h.stands.lexeme h.stands.longest h.stands.faultless,
    (
      32 ∷ [],
      46 ∷ [],
      [],
      refl,
      (refl, tt),
      stop_is,
      (stop.lexeme, stop.faultless),
      longest_lexeme x.full_stop (46 ∷ []) [] stop.lexeme stop.longest stop.faultless,
      inl tt,
    ),
  )

  abbrev pub form : List Token
  form = token_at file first_position k ∷ token_at file stop_at kind.Dot ∷ []

  forms : Forms all file (first ∷ dot ∷ []) (tokens form ∷ [])
  forms = ended (first ∷ []) [] dot form [] ((λ e. not_stop (stops e), λ code e. cc e), tt) refl (refl, is, (refl, tt, tt)) (no_more [] tt)
    where
      stops : lexeme l ≡ lexeme x.full_stop → l ≡ x.full_stop
      stops e = cc e

  pub scanned : Scans all file (bytes ++ codes " .") (tokens form ∷ [])
  scanned =
      is_cut (first ∷ dot ∷ []) (tokens form ∷ []) utf8 (subst (λ t. CutsInto first_position t (first ∷ dot ∷ [])) (sym whole) cut)
      (unicode (first ∷ dot ∷ []) (tokens form ∷ []) (λ c. cc c.2, (λ c. cc c.2, tt)) forms)

-- ---- the law

meant : (all : Texts) (l : Lexeme) (k : TokenKind) → IsKind all l k → (IsDot k → ⊥) → IsMeant l
meant all (x.atom cs) (kind.Atom n) h never = record { short = λ ds e. subst (λ z. length z ≤ 255) (cc e) h.1; small = λ n e. cc e; no_period = λ e. cc e; no_stop = λ e. cc e }
meant all (x.variable cs) (kind.Var n) h never = record { short = λ ds e. cc e; small = λ n e. cc e; no_period = λ e. cc e; no_stop = λ e. cc e }
meant all (x.integer n) (kind.Int i) h never = record { short = λ ds e. cc e; small = λ m e. subst (λ z. z < 2 ^ 127) (cc e) h.1; no_period = λ e. cc e; no_stop = λ e. cc e }
meant all (x.character c) (kind.Char d) h never = record { short = λ ds e. cc e; small = λ n e. cc e; no_period = λ e. cc e; no_stop = λ e. cc e }
meant all (x.string cs) (kind.Str ds) h never = record { short = λ ds e. cc e; small = λ n e. cc e; no_period = λ e. cc e; no_stop = λ e. cc e }
meant all (x.word w) (kind.Word v) h never = record { short = λ ds e. cc e; small = λ n e. cc e; no_period = λ e. cc e; no_stop = λ e. cc e }
meant all (x.symbol s) (kind.Sym t) h never =
    record { short = λ ds e. cc e; small = λ n e. cc e; no_period = λ e. never (inr (ap kind.Sym (h ∙ cc e))); no_stop = λ e. cc e }
meant all x.full_stop kind.Dot h never = absurd (never (inl refl))
meant all (x.atom cs) k h never = absurd h
meant all (x.variable cs) k h never = absurd h
meant all (x.integer n) k h never = absurd h
meant all (x.character c) k h never = absurd h
meant all (x.string cs) k h never = absurd h
meant all (x.word w) k h never = absurd h
meant all (x.symbol s) k h never = absurd h
meant all x.full_stop k h never = absurd h

-- a name of a table has there the text that it has later
name_before : (now all : Texts) (n : Name) (bytes : List ℕ) → HasName now n → Extends now all → IsNameOf all n bytes → IsNameOf now n bytes
name_before now all n bytes has later h =
    record { within = has; is = sym (named_later now all n (text now n) (record { within = has; is = refl }) later).is ∙ h.is }

kind_before : (now all : Texts) (l : Lexeme) (k : TokenKind) → KindOf now k → Extends now all → IsKind all l k → IsKind now l k
kind_before now all (x.atom cs) (kind.Atom n) has later h = (name_before now all n (encode_utf8_all cs) has later h.0, h.1)
kind_before now all (x.variable cs) (kind.Var n) has later h = name_before now all n (encode_utf8_all cs) has later h
kind_before now all (x.integer n) (kind.Int i) has later h = h
kind_before now all (x.character c) (kind.Char d) has later h = h
kind_before now all (x.string cs) (kind.Str ds) has later h = h
kind_before now all (x.word w) (kind.Word v) has later h = h
kind_before now all (x.symbol s) (kind.Sym t) has later h = h
kind_before now all x.full_stop kind.Dot has later h = tt
kind_before now all (x.atom cs) k has later h = absurd h
kind_before now all (x.variable cs) k has later h = absurd h
kind_before now all (x.integer n) k has later h = absurd h
kind_before now all (x.character c) k has later h = absurd h
kind_before now all (x.string cs) k has later h = absurd h
kind_before now all (x.word w) k has later h = absurd h
kind_before now all (x.symbol s) k has later h = absurd h
kind_before now all x.full_stop k has later h = absurd h

reads_back : (now : Texts) (k : TokenKind) (old new : List ℕ) → KindOf now k → Spells now k old new → ReadsBack now k old new
reads_back now k old new has spells all later scanned_kind never =
    let of = of_scans all k scanned_kind.0 scanned_kind.1 scanned_kind.2 scanned_kind.3 scanned_kind.4 in
    let m = meant all of.l k of.is never in
    let s = spells of.l (kind_before now all of.l k has later of.is) in
    let is_read = read of.l of.found.front of.found.rest s.0 m of.found.lexeme of.found.each s.1 in
    (s.0, s.2, (λ file. scanned all file of.l k s.0 of.is m.no_stop is_read, one_scan (s.0 ++ codes " .")))

pub all_read_back : {T : Type 0} {E : Type 0} (r : Result T E) (now : Texts) (k : TokenKind) (old new : List ℕ) → KindOf now k → IfOk r (λ _. Spells now k old new) → IfOk r (λ _. ReadsBack now k old new)
all_read_back (Ok v) now k old new has h = reads_back now k old new has h
all_read_back (Err e) now k old new has h = tt
