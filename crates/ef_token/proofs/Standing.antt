-- A lexeme that stands at the front of a text: names, texts in quotes, characters and symbols.
use Rattle.std.specs.Prelude.{ℕ, ◌<◌, ◌≤◌, ◌==◌, ◌≡◌, ◌≢◌, ◌⊎◌, Bool, true, false, List, [], ◌∷◌, ◌++◌, length, map, Some, refl}
use Rattle.std.proofs.Common.{ap, ◌∙◌, sym, subst, arith, inl, inr, append_assoc, length-append}
use Rattle.std.proofs.lemmas.Bool.Decides.{nat_tests}
use Rattle.ef_base.specs.Characters.{Each, Stops, BeginsAndGoesOn}
use Rattle.ef_base.specs.Cut.{Longest}
use Rattle.ef_base.specs.Escape.{Written}
use Rattle.ef_base.proofs.Escapes.{one_written}
use Rattle.ef_token.specs.declared.word.Word.{Word}
use Rattle.ef_token.specs.declared.word.Sym.{Sym}
use Rattle.ef_token.specs.declared.word.Sym.TheVariants as symbols
use Rattle.ef_token.specs.Words.{word_text, sym_text}
use Rattle.ef_token.specs.Letters.{is_quote, begins_atom, begins_variable, continues_name}
use Rattle.ef_token.specs.Sorts.{sort, BeginsAs}
use Rattle.ef_token.specs.Lexeme as x
use Rattle.ef_token.specs.Lexeme.{Lexeme, IsLexeme, IsQuoted, Quoted, EndsForm}
use Rattle.ef_token.specs.ScanFaults.{Fails, IsFaultless, HasNone}
use Rattle.ef_token.proofs.Spellings.{word_facts, symbol_facts}
use Rattle.ef_token.proofs.Quoting.{one_quoted, not_written, written_begins}
use Rattle.ef_token.proofs.Lexemes.{Shape, bare, reserved, capital, sign, stop, quoted, text, dollar, shape_at, same_lexeme, begins_more}
use Rattle.ef_base.proofs.Classes.{each_behind}
use Rattle.ef_token.proofs.Faults.{FaultShape, open_atom, open_string, ill_atom, ill_string, ill_character, too_long, tilde, triple, fault_at, atom_sort}
use Rattle.ef_token.proofs.Faults as f
use Rattle.ef_token.proofs.Parting.{nothing_more}

-- the front is the lexeme, as the longest, and no fault begins there
pub record Stands (l : Lexeme) (front rest : List ℕ) : Type 0 where
  pub lexeme : IsLexeme l front rest
  pub longest : Longest IsLexeme front rest
  pub faultless : IsFaultless (front ++ rest)

-- the same for an atom which may be too long, by the sort of its first character
pub record AtomStands (cs front rest : List ℕ) : Type 0 where
  pub lexeme : IsLexeme (x.atom cs) front rest
  pub longest : Longest IsLexeme front rest
  pub sort : ℕ
  pub is_atom : (sort ≡ 0) ⊎ (sort ≡ 4)
  pub begins : BeginsAs sort (front ++ rest)
  pub others : (code : ℕ) → Fails code (front ++ rest) → 105 ≤ code

-- a fault of a long atom is none of another kind of text
pub no_atom_sort : {A : Type 0} (n m : ℕ) (cs front rest : List ℕ) → IsLexeme (x.atom cs) front rest → BeginsAs n front → n ≡ m → (m ≡ 0 → ⊥) → (m ≡ 4 → ⊥) → A
no_atom_sort {A} n m cs front rest h b z zero four = go (atom_sort n cs front rest h b)
  where
    go : (n ≡ 0) ⊎ (n ≡ 4) → A
    go (inl y) = absurd (zero (sym z ∙ y))
    go (inr y) = absurd (four (sym z ∙ y))

-- ---- names

goes_on : (c : ℕ) → begins_atom c ≡ true → continues_name c ≡ true
goes_on c h = rw h refl

goes_on_variable : (c : ℕ) → begins_variable c ≡ true → continues_name c ≡ true
goes_on_variable c h = grind (arith, nat_tests)

all_continue : (p : ℕ → Bool) (cs : List ℕ) → ((c : ℕ) → p c ≡ true → continues_name c ≡ true) → BeginsAndGoesOn p continues_name cs → Each continues_name cs
all_continue p [] g h = absurd h
all_continue p (c ∷ cs) g h = (g c h.0, h.1)

pub atom_continues : (cs : List ℕ) → BeginsAndGoesOn begins_atom continues_name cs → Each continues_name cs
atom_continues cs h = all_continue begins_atom cs goes_on h

pub variable_continues : (cs : List ℕ) → BeginsAndGoesOn begins_variable continues_name cs → Each continues_name cs
variable_continues cs h = all_continue begins_variable cs goes_on_variable h

-- all characters of a name are such
name_parts : (l : Lexeme) (front rest : List ℕ) (n : ℕ) → Shape l front rest n → n < 2 → Each continues_name front
name_parts _ _ _ _ (bare cs front rest e h k) z = subst (Each continues_name) (sym e) (atom_continues cs h)
name_parts _ _ _ _ (reserved w front rest e) z = subst (Each continues_name) (sym e) (word_facts w).parts
name_parts _ _ _ _ (capital cs front rest e h) z = subst (Each continues_name) (sym e) (variable_continues cs h)
name_parts l front rest n h z = absurd (omega (arith, z))

longest_name : (n : ℕ) (front rest : List ℕ) → n < 2 → BeginsAs n front → Stops continues_name rest → Longest IsLexeme front rest
longest_name n front rest low b s [] after other e k = refl
longest_name n front rest low b s (c ∷ more) after other e k =
    let parts = name_parts other (front ++ c ∷ more) after n (shape_at other (front ++ c ∷ more) after n k (begins_more n front (c ∷ more) b)) low in
    let yes : continues_name c ≡ true = (each_behind continues_name front (c ∷ more) parts).0 in
    let never : continues_name c ≡ false = subst (Stops continues_name) e s in cc

sort_0 : (c : ℕ) → sort c ≡ 0 → begins_atom c ≡ true
sort_0 c h = grind (arith, nat_tests)

sort_1 : (c : ℕ) → sort c ≡ 1 → begins_variable c ≡ true
sort_1 c h = grind (arith, nat_tests)

atom_begins : (front : List ℕ) → BeginsAs 0 front → Each continues_name front → BeginsAndGoesOn begins_atom continues_name front
atom_begins [] b h = b
atom_begins (c ∷ front) b h = (sort_0 c b, h.1)

variable_begins : (front : List ℕ) → BeginsAs 1 front → Each continues_name front → BeginsAndGoesOn begins_variable continues_name front
variable_begins [] b h = b
variable_begins (c ∷ front) b h = (sort_1 c b, h.1)

-- a fault that is no less than 105 behind such a character is that of a long atom
only_long : (code : ℕ) (txt : List ℕ) (n : ℕ) → FaultShape code txt n → (n ≡ 0) ⊎ (n ≡ 4) → 105 ≤ code
    → (cs front rest : List ℕ) × (txt ≡ front ++ rest) × IsLexeme (x.atom cs) front rest × Longest IsLexeme front rest × (255 < length cs)
only_long _ _ _ (too_long n txt cs front rest e b l h g k) z low = (cs, front, rest, e, h, g, k)
only_long code txt n h (inl z) low = absurd (omega (arith, z, low))
only_long code txt n h (inr z) low = absurd (omega (arith, z, low))

pub short_atom : (cs front rest : List ℕ) → AtomStands cs front rest → length cs ≤ 255 → Stands (x.atom cs) front rest
short_atom cs front rest h short = record {
  lexeme = h.lexeme;
  longest = h.longest;
  faultless = λ code fails.
      let k = only_long code (front ++ rest) h.sort (fault_at code (front ++ rest) h.sort fails h.begins) h.is_atom (h.others code fails) in
      let same : x.atom cs ≡ x.atom k.0 = (same_lexeme (x.atom cs) (x.atom k.0) front k.1 rest k.2 h.lexeme k.4 h.longest k.5 k.3).2 in
      let eq : cs ≡ k.0 = cc same in
      let l = ap length eq in
      omega (arith, k.6);
}

least_name : (code : ℕ) (txt : List ℕ) (n : ℕ) → FaultShape code txt n → n < 2 → code ≡ 105
least_name _ _ _ (too_long n txt cs front rest e b l h g k) z = refl
least_name code txt n h z = absurd (omega (arith, z))

-- the front is all that goes on as a name
module _ (front rest : List ℕ) (each : Each continues_name front) (stops : Stops continues_name rest) where
  low : BeginsAs 0 front → (code : ℕ) → Fails code (front ++ rest) → 105 ≤ code
  low b code fails = omega (arith, least_name code (front ++ rest) 0 (fault_at code (front ++ rest) 0 fails (begins_more 0 front rest b)) (omega arith))

  pub atom_stands : BeginsAs 0 front → ((w : Word) → front ≢ word_text w) → AtomStands front front rest
  atom_stands b never = record {
    lexeme = inl (refl, atom_begins front b each, never);
    longest = longest_name 0 front rest (omega arith) b stops;
    sort = 0;
    is_atom = inl refl;
    begins = begins_more 0 front rest b;
    others = low b;
  }

  pub word_stands : (w : Word) → front ≡ word_text w → Stands (x.word w) front rest
  word_stands w e = record {
    lexeme = e;
    longest = longest_name 0 front rest (omega arith) b stops;
    faultless = λ code fails. none (only_long code (front ++ rest) 0 (fault_at code (front ++ rest) 0 fails (begins_more 0 front rest b)) (inl refl) (low b code fails));
  }
    where
      b : BeginsAs 0 front
      b = subst (BeginsAs 0) (sym e) (word_facts w).begins

      none : (cs f r : List ℕ) × (front ++ rest ≡ f ++ r) × IsLexeme (x.atom cs) f r × Longest IsLexeme f r × (255 < length cs) → ⊥
      none k =
          let same : x.word w ≡ x.atom k.0 = (same_lexeme (x.word w) (x.atom k.0) front k.1 rest k.2 e k.4 (longest_name 0 front rest (omega arith) b stops) k.5 k.3).2 in
          cc same

  pub variable_stands : BeginsAs 1 front → Stands (x.variable front) front rest
  variable_stands b = record {
    lexeme = (refl, variable_begins front b each);
    longest = longest_name 1 front rest (omega arith) b stops;
    faultless = λ code fails. none code (front ++ rest) 1 (fault_at code (front ++ rest) 1 fails (begins_more 1 front rest b)) refl;
  }
    where
      none : (code : ℕ) (txt : List ℕ) (n : ℕ) → FaultShape code txt n → n ≡ 1 → ⊥
      none _ _ _ (too_long n txt cs f r e b l h g k) z = no_atom_sort n 1 cs f r h b z (λ y. omega arith) (λ y. omega arith)
      none code txt n h z = absurd (omega (arith, z))

-- ---- texts in quotes

quoted_shape : (l : Lexeme) (front rest : List ℕ) (n : ℕ) → Shape l front rest n → n ≡ 4 → (cs : List ℕ) × IsQuoted 39 cs front rest
quoted_shape _ _ _ _ (quoted cs front rest h) z = (cs, h)
quoted_shape l front rest n h z = absurd (omega (arith, z))

text_shape : (l : Lexeme) (front rest : List ℕ) (n : ℕ) → Shape l front rest n → n ≡ 5 → (cs : List ℕ) × IsQuoted 34 cs front rest
text_shape _ _ _ _ (text cs front rest h) z = (cs, h)
text_shape l front rest n h z = absurd (omega (arith, z))

longest_quoted : (quote n : ℕ) (cs inner rest : List ℕ) → is_quote quote ≡ true → BeginsAs n (quote ∷ inner) → Quoted quote (map Some cs) inner rest
    → ((l : Lexeme) (front rest : List ℕ) → Shape l front rest n → (ds : List ℕ) × IsQuoted quote ds front rest) → Longest IsLexeme (quote ∷ inner) rest
longest_quoted quote n cs inner rest q b h shape more after other e k =
    let s = shape other ((quote ∷ inner) ++ more) after (shape_at other ((quote ∷ inner) ++ more) after n k b) in
    let is : inner ++ more ≡ s.1.0 = cc s.1.1 in
    let whole : inner ++ rest ≡ s.1.0 ++ after = ap (λ t. inner ++ t) e ∙ sym (append_assoc inner more after) ∙ ap (λ t. t ++ after) is in
    let same : inner ≡ s.1.0 = (one_quoted quote (map Some cs) (map Some s.0) inner s.1.0 rest after q h s.1.2 whole).1 in
    nothing_more inner more (same ∙ sym is)

no_none : (cs : List ℕ) → HasNone (map Some cs) → ⊥
no_none [] h = h
no_none (c ∷ cs) h = no_none cs h

-- no fault of a text whose quotes close legally
module _ (quote : ℕ) (cs inner rest : List ℕ) (h : Quoted quote (map Some cs) inner rest) where
  not_open : (more : List ℕ) → quote ∷ (inner ++ rest) ≡ quote ∷ more → f.IsUnclosed quote more → ⊥
  not_open more e none = none (map Some cs) inner rest (cc e) h

  not_ill : (more : List ℕ) → is_quote quote ≡ true → quote ∷ (inner ++ rest) ≡ quote ∷ more → f.IsIllClosed quote more → ⊥
  not_ill more q e ill =
      let left : more ≡ inner ++ rest = cc e in
      let same : ill.0 ≡ map Some cs = (one_quoted quote ill.0 (map Some cs) ill.1 inner ill.2 rest q ill.4 h (sym ill.3 ∙ left)).0 in
      no_none cs (subst HasNone same ill.5)

least_quoted : (cs inner rest : List ℕ) → Quoted 39 (map Some cs) inner rest → (code : ℕ) (txt : List ℕ) (n : ℕ) → FaultShape code txt n → n ≡ 4 → txt ≡ 39 ∷ (inner ++ rest) → 105 ≤ code
least_quoted cs inner rest h _ _ _ (open_atom txt more e none) z is = absurd (not_open 39 cs inner rest h more (sym is ∙ e) none)
least_quoted cs inner rest h _ _ _ (ill_atom txt more e ill) z is = absurd (not_ill 39 cs inner rest h more refl (sym is ∙ e) ill)
least_quoted cs inner rest h _ _ _ (too_long n txt _ front behind e b l k g j) z is = omega arith
least_quoted cs inner rest h code txt n k z is = absurd (omega (arith, z))

pub quoted_stands : (cs inner rest : List ℕ) → Quoted 39 (map Some cs) inner rest → AtomStands cs (39 ∷ inner) rest
quoted_stands cs inner rest h = record {
  lexeme = inr (inner, refl, h);
  longest = longest_quoted 39 4 cs inner rest refl refl h (λ l front rest s. quoted_shape l front rest 4 s refl);
  sort = 4;
  is_atom = inr refl;
  begins = refl;
  others = λ code fails. least_quoted cs inner rest h code (39 ∷ (inner ++ rest)) 4 (fault_at code (39 ∷ (inner ++ rest)) 4 fails refl) refl refl;
}

no_string_fault : (cs inner rest : List ℕ) → Quoted 34 (map Some cs) inner rest → ((more : List ℕ) → inner ++ rest ≡ 34 ∷ 34 ∷ more → ⊥)
    → (code : ℕ) (txt : List ℕ) (n : ℕ) → FaultShape code txt n → n ≡ 5 → txt ≡ 34 ∷ (inner ++ rest) → ⊥
no_string_fault cs inner rest h never _ _ _ (open_string txt more e none) z is = not_open 34 cs inner rest h more (sym is ∙ e) none
no_string_fault cs inner rest h never _ _ _ (ill_string txt more e ill) z is = not_ill 34 cs inner rest h more refl (sym is ∙ e) ill
no_string_fault cs inner rest h never _ _ _ (triple txt more e) z is = never more (cc (sym is ∙ e))
no_string_fault cs inner rest h never _ _ _ (too_long n txt ds front behind e b l k g j) z is = no_atom_sort n 5 ds front behind k b z (λ y. omega arith) (λ y. omega arith)
no_string_fault cs inner rest h never code txt n k z is = absurd (omega (arith, z))

pub string_stands : (cs inner rest : List ℕ) → Quoted 34 (map Some cs) inner rest → ((more : List ℕ) → inner ++ rest ≡ 34 ∷ 34 ∷ more → ⊥) → Stands (x.string cs) (34 ∷ inner) rest
string_stands cs inner rest h never = record {
  lexeme = (inner, refl, h);
  longest = longest_quoted 34 5 cs inner rest refl refl h (λ l front rest s. text_shape l front rest 5 s refl);
  faultless = λ code fails. no_string_fault cs inner rest h never code (34 ∷ (inner ++ rest)) 5 (fault_at code (34 ∷ (inner ++ rest)) 5 fails refl) refl refl;
}

-- ---- characters

pub dollar_shape : (l : Lexeme) (front rest : List ℕ) (n : ℕ) → Shape l front rest n → n ≡ 6 → (c : ℕ) × (inner : List ℕ) × (front ≡ 36 ∷ inner) × Written (λ d. false) c inner rest
dollar_shape _ _ _ _ (dollar c inner front rest e h) z = (c, inner, e, h)
dollar_shape l front rest n h z = absurd (omega (arith, z))

longest_character : (c : ℕ) (inner rest : List ℕ) → Written (λ d. false) c inner rest → Longest IsLexeme (36 ∷ inner) rest
longest_character c inner rest w more after other e k =
    let s = dollar_shape other ((36 ∷ inner) ++ more) after 6 (shape_at other ((36 ∷ inner) ++ more) after 6 k refl) refl in
    let is : inner ++ more ≡ s.1 = cc s.2 in
    let whole : inner ++ rest ≡ s.1 ++ after = ap (λ t. inner ++ t) e ∙ sym (append_assoc inner more after) ∙ ap (λ t. t ++ after) is in
    let same : inner ≡ s.1 = (one_written (λ d. false) c s.0 inner s.1 rest after w s.3 whole).1 in
    nothing_more inner more (same ∙ sym is)

no_character_fault : (c : ℕ) (inner rest : List ℕ) → Written (λ d. false) c inner rest → (code : ℕ) (txt : List ℕ) (n : ℕ) → FaultShape code txt n → n ≡ 6 → txt ≡ 36 ∷ (inner ++ rest) → ⊥
no_character_fault c inner rest w _ _ _ (ill_character txt [] e bad) z is = bad
no_character_fault c inner rest w _ _ _ (ill_character txt (d ∷ more) e bad) z is = not_written (λ d. false) c d inner rest more w bad (cc (e, is))
no_character_fault c inner rest w _ _ _ (f.dollar txt e) z is =
    let b = written_begins (λ d. false) c inner rest w in
    let none : inner ++ rest ≡ [] = cc (e, is) in
    cc (subst (λ t. t ++ rest ≡ []) b.2 none)
no_character_fault c inner rest w _ _ _ (too_long n txt ds front behind e b l k g j) z is = no_atom_sort n 6 ds front behind k b z (λ y. omega arith) (λ y. omega arith)
no_character_fault c inner rest w code txt n k z is = absurd (omega (arith, z))

pub character_stands : (c : ℕ) (inner rest : List ℕ) → Written (λ d. false) c inner rest → Stands (x.character c) (36 ∷ inner) rest
character_stands c inner rest w = record {
  lexeme = (inner, refl, w);
  longest = longest_character c inner rest w;
  faultless = λ code fails. no_character_fault c inner rest w code (36 ∷ (inner ++ rest)) 6 (fault_at code (36 ∷ (inner ++ rest)) 6 fails refl) refl refl;
}

-- ---- symbols and the full stop

-- what a lexeme that begins as a symbol is
pub sign_shape : (l : Lexeme) (front rest : List ℕ) (n : ℕ) → Shape l front rest n → n ≡ 3 → (s : Sym) × (front ≡ sym_text s)
sign_shape _ _ _ _ (sign s front rest e h) z = (s, e)
sign_shape _ _ _ _ (stop front rest e h) z = (symbols.Period, e)
sign_shape l front rest n h z = absurd (omega (arith, z))

none_longer : (a more : List ℕ) → length (a ++ more) ≤ length a → more ≡ []
none_longer a [] h = refl
none_longer a (c ∷ more) h = absurd (omega (arith, length-append a (c ∷ more)))

pub no_sign_fault : (code : ℕ) (txt : List ℕ) (n : ℕ) → FaultShape code txt n → n ≡ 3 → ((more : List ℕ) → txt ≡ 126 ∷ more → ⊥) → ⊥
no_sign_fault _ _ _ (tilde txt more e) z never = never more e
no_sign_fault _ _ _ (too_long n txt cs front rest e b l h g k) z never = no_atom_sort n 3 cs front rest h b z (λ y. omega arith) (λ y. omega arith)
no_sign_fault code txt n h z never = absurd (omega (arith, z))

not_tilde : (a rest more : List ℕ) → BeginsAs 3 a → Stops (λ c. c == 126) a → a ++ rest ≡ 126 ∷ more → ⊥
not_tilde [] rest more b s e = b
not_tilde (c ∷ a) rest more b s e = let same : c ≡ 126 = cc e in let never : (126 == 126) ≡ false = subst (λ z. (z == 126) ≡ false) same s in cc never

-- no longer symbol stands here
abbrev pub IsLongestSign : Sym → List ℕ → Type 0
IsLongestSign s rest = (t : Sym) (after : List ℕ) → sym_text s ++ rest ≡ sym_text t ++ after → length (sym_text t) ≤ length (sym_text s)

module _ (s : Sym) (rest : List ℕ) (is : IsLongestSign s rest) where
  longest_sign : Longest IsLexeme (sym_text s) rest
  longest_sign more after other e k =
      let t = sign_shape other (sym_text s ++ more) after 3 (shape_at other (sym_text s ++ more) after 3 k (begins_more 3 (sym_text s) more (symbol_facts s).begins)) refl in
      let whole : sym_text s ++ rest ≡ sym_text t.0 ++ after = ap (λ r. sym_text s ++ r) e ∙ sym (append_assoc (sym_text s) more after) ∙ ap (λ r. r ++ after) t.1 in
      none_longer (sym_text s) more (omega (arith, ap length t.1, is t.0 after whole))

  sign_faultless : IsFaultless (sym_text s ++ rest)
  sign_faultless code fails =
      no_sign_fault code (sym_text s ++ rest) 3 (fault_at code (sym_text s ++ rest) 3 fails (begins_more 3 (sym_text s) rest (symbol_facts s).begins)) refl
      (λ more e. not_tilde (sym_text s) rest more (symbol_facts s).begins (symbol_facts s).no_tilde e)

  pub symbol_stands : (s ≡ symbols.Period → EndsForm rest → ⊥) → Stands (x.symbol s) (sym_text s) rest
  symbol_stands never = record { lexeme = (refl, never); longest = longest_sign; faultless = sign_faultless }

  pub stop_stands : s ≡ symbols.Period → EndsForm rest → Stands x.full_stop (sym_text s) rest
  stop_stands e ends = record { lexeme = (ap sym_text e, ends); longest = longest_sign; faultless = sign_faultless }
