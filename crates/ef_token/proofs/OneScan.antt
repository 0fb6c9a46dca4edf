-- What a text is scanned to under two tables, and that it is one list of forms under a table whose texts differ.
use Rattle.std.specs.Prelude.{ℕ, ◌≡◌, List, [], ◌∷◌, ◌++◌, length, take, chars, encode_utf8_all, IsUtf8}
use Rattle.std.specs.Str.{IsValidUpTo}
use Rattle.std.proofs.Common.{refl, sym, ap, ◌∙◌, subst, arith}
use Rattle.std.proofs.lemmas.List.{take_all}
use Rattle.std.proofs.lemmas.Str.{utf8_valid_len-IsValidUpTo}
use Rattle.ef_base.specs.declared.fault.Place.{Place}
use Rattle.ef_base.specs.Texts.{Texts, AllDiffer}
use Rattle.ef_base.specs.Laws.{same_name}
use Rattle.ef_base.specs.Positions.{first_position, position_after}
use Rattle.ef_base.specs.Cut.{Placed}
use Rattle.ef_token.specs.Lexeme as x
use Rattle.ef_token.specs.Lexeme.{Lexeme, IsKind, AreTokens, full_stop}
use Rattle.ef_token.specs.Parts.{Part, lexeme, fault, lexemes_of, with_lexeme}
use Rattle.ef_token.specs.declared.token.TokenKind.{TokenKind}
use Rattle.ef_token.specs.declared.token.TokenKind.TheVariants as kind
use Rattle.ef_token.specs.declared.token.Token.{Token}
use Rattle.ef_token.specs.Scans.{Form, tokens, faulty, Forms, no_more, ended, broken, unended, FormsOf, latin, unicode, IsOpen, AreComments, IsCoding, NoCoding, fault_at, not_utf8, is_cut, Scans, HasOneCut, HasOneScan}
use Rattle.ef_base.proofs.CutLaws.{one_cut}
use Rattle.ef_token.proofs.Parting.{cut_facts}

-- ---- tokens

same_kind : (all : Texts) (l : Lexeme) (k m : TokenKind) → AllDiffer all → IsKind all l k → IsKind all l m → k ≡ m
same_kind all (x.atom cs) (kind.Atom a) (kind.Atom b) differ h g = ap kind.Atom (same_name all a b (encode_utf8_all cs) differ h.0 g.0)
same_kind all (x.variable cs) (kind.Var a) (kind.Var b) differ h g = ap kind.Var (same_name all a b (encode_utf8_all cs) differ h g)
same_kind all (x.integer n) (kind.Int a) (kind.Int b) differ h g = ap kind.Int (h.0 ∙ sym g.0)
same_kind all (x.character c) (kind.Char a) (kind.Char b) differ h g = ap kind.Char (h ∙ sym g)
same_kind all (x.string cs) (kind.Str a) (kind.Str b) differ h g = ap kind.Str (h ∙ sym g)
same_kind all (x.word w) (kind.Word a) (kind.Word b) differ h g = ap kind.Word (h ∙ sym g)
same_kind all (x.symbol s) (kind.Sym a) (kind.Sym b) differ h g = ap kind.Sym (h ∙ sym g)
same_kind all x.full_stop kind.Dot kind.Dot differ h g = refl
same_kind all (x.atom cs) (kind.Atom a) m differ h g = absurd g
same_kind all (x.variable cs) (kind.Var a) m differ h g = absurd g
same_kind all (x.integer n) (kind.Int a) m differ h g = absurd g
same_kind all (x.character c) (kind.Char a) m differ h g = absurd g
same_kind all (x.string cs) (kind.Str a) m differ h g = absurd g
same_kind all (x.word w) (kind.Word a) m differ h g = absurd g
same_kind all (x.symbol s) (kind.Sym a) m differ h g = absurd g
same_kind all x.full_stop kind.Dot m differ h g = absurd g
same_kind all l k m differ h g = absurd h

same_token : (t u : Token) → t.kind ≡ u.kind → t.place ≡ u.place → t ≡ u
same_token t u e f =
    ap (λ (k : TokenKind). let v : Token = record { kind = k; place = t.place } in v) e ∙ ap (λ (p : Place). let v : Token = record { kind = u.kind; place = p } in v) f

same_tokens : (all : Texts) (file : ℕ) (ls : List (Placed Lexeme)) (ts us : List Token) → AllDiffer all → AreTokens all file ls ts → AreTokens all file ls us → ts ≡ us
same_tokens all file [] [] [] differ h g = refl
same_tokens all file [] [] (u ∷ us) differ h g = absurd g
same_tokens all file [] (t ∷ ts) us differ h g = absurd h
same_tokens all file (l ∷ ls) [] us differ h g = absurd h
same_tokens all file (l ∷ ls) (t ∷ ts) [] differ h g = absurd g
same_tokens all file (l ∷ ls) (t ∷ ts) (u ∷ us) differ h g =
    let here = same_token t u (same_kind all l.lexeme t.kind u.kind differ h.1 g.1) (h.0 ∙ sym g.0) in
    ap (λ v. v ∷ ts) here ∙ ap (λ vs. u ∷ vs) (same_tokens all file ls ts us differ h.2 g.2)

-- ---- forms

-- the part ends a form
abbrev Closes : Placed Part → Type 0
Closes p = IsOpen (p ∷ []) → ⊥

stop_closes : (p : Placed Part) → p.lexeme ≡ lexeme full_stop → Closes p
stop_closes p e h = h.0.0 e

fault_closes : (p : Placed Part) (code : ℕ) → p.lexeme ≡ fault code → Closes p
fault_closes p code e h = h.0.1 code e

not_open : (ps more : List (Placed Part)) (p : Placed Part) → Closes p → IsOpen (ps ++ p ∷ more) → ⊥
not_open [] more p c h = c (h.0, tt)
not_open (q ∷ ps) more p c h = not_open ps more p c h.1

not_comments : (ps more : List (Placed Part)) (p : Placed Part) → Closes p → AreComments (ps ++ p ∷ more) → ⊥
not_comments [] more p c h = c ((λ e. cc (sym e ∙ h.0.1), λ code e. cc (sym e ∙ h.0.1)), tt)
not_comments (q ∷ ps) more p c h = not_comments ps more p c h.1

pub no_lexemes : (ps : List (Placed Part)) → AreComments ps → lexemes_of ps ≡ []
no_lexemes [] h = refl
no_lexemes (p ∷ ps) h = ap (λ k. with_lexeme k p.at (lexemes_of ps)) h.0.1 ∙ no_lexemes ps h.1

record SameFirst (ps qs more rest : List (Placed Part)) (d e : Placed Part) : Type 0 where
  front : ps ≡ qs
  closing : d ≡ e
  behind : more ≡ rest

-- of two forms at the front of the same parts, both are one
same_first : (ps qs more rest : List (Placed Part)) (d e : Placed Part) → IsOpen ps → IsOpen qs → Closes d → Closes e → ps ++ d ∷ more ≡ qs ++ e ∷ rest → SameFirst ps qs more rest d e
same_first [] [] more rest d e h k c f z = record { front = refl; closing = cc z; behind = cc z }
same_first [] (q ∷ qs) more rest d e h k c f z = let same : d ≡ q = cc z in absurd (c (subst (λ p. IsOpen (p ∷ [])) (sym same) (k.0, tt)))
same_first (p ∷ ps) [] more rest d e h k c f z = let same : p ≡ e = cc z in absurd (f (subst (λ q. IsOpen (q ∷ [])) same (h.0, tt)))
same_first (p ∷ ps) (q ∷ qs) more rest d e h k c f z =
    let on = same_first ps qs more rest d e h.1 k.1 c f (cc z) in
    record { front = ap (λ v. v ∷ ps) (cc z) ∙ ap (λ vs. q ∷ vs) on.front; closing = on.closing; behind = on.behind }

-- the forms of one list under two tables: tokens that are related, and the same faults
abbrev pub AreAlike : (List Token → List Token → Type 0) → List Form → List Form → Type 0
AreAlike R [] [] = Unit {0}
AreAlike R (tokens ts ∷ fs) (tokens us ∷ gs) = R ts us × AreAlike R fs gs
AreAlike R (faulty f ∷ fs) (faulty g ∷ gs) = (f ≡ g) × AreAlike R fs gs
AreAlike R _ _ = ⊥

-- the tokens of the same lexemes under two tables are related
abbrev pub Relates : Texts → Texts → ℕ → (List Token → List Token → Type 0) → Type 0
Relates a b file R = (ls : List (Placed Lexeme)) (ts us : List Token) → AreTokens a file ls ts → AreTokens b file ls us → R ts us

two_forms : (a b : Texts) (file : ℕ) (R : List Token → List Token → Type 0) (ps qs : List (Placed Part)) (fs gs : List Form) → Relates a b file R → Forms a file ps fs → Forms b file qs gs → ps ≡ qs → AreAlike R fs gs
two_forms a b file R _ _ _ _ r (no_more ps h) (no_more qs k) e = tt
two_forms a b file R _ _ _ _ r (no_more ps h) (ended qs more dot ts fs o d t f) e = absurd (not_comments qs more dot (stop_closes dot d) (subst AreComments e h))
two_forms a b file R _ _ _ _ r (no_more ps h) (broken qs more p code fs o d f) e = absurd (not_comments qs more p (fault_closes p code d) (subst AreComments e h))
two_forms a b file R _ _ _ _ r (no_more ps h) (unended qs first ls o l) e = let none : [] ≡ first ∷ ls = sym (no_lexemes ps h) ∙ ap lexemes_of e ∙ l in cc
two_forms a b file R _ _ _ _ r (ended ps more dot ts fs o d t f) (no_more qs k) e = absurd (not_comments ps more dot (stop_closes dot d) (subst AreComments (sym e) k))
two_forms a b file R _ _ _ _ r (ended ps more dot ts fs o d t f) (ended qs rest stop us gs q c u g) e =
    let same = same_first ps qs more rest dot stop o q (stop_closes dot d) (stop_closes stop c) e in
    let parts : ps ++ dot ∷ [] ≡ qs ++ stop ∷ [] = λ i. same.front i ++ same.closing i ∷ [] in
    (r (lexemes_of (qs ++ stop ∷ [])) ts us (subst (λ vs. AreTokens a file (lexemes_of vs) ts) parts t) u, two_forms a b file R more rest fs gs r f g same.behind)
two_forms a b file R _ _ _ _ r (ended ps more dot ts fs o d t f) (broken qs rest p code gs q c g) e =
    let same = same_first ps qs more rest dot p o q (stop_closes dot d) (fault_closes p code c) e in
    let bad : lexeme full_stop ≡ fault code = sym d ∙ ap (λ (v : Placed Part). v.lexeme) same.closing ∙ c in cc
two_forms a b file R _ _ _ _ r (ended ps more dot ts fs o d t f) (unended qs first ls q l) e = absurd (not_open ps more dot (stop_closes dot d) (subst IsOpen (sym e) q))
two_forms a b file R _ _ _ _ r (broken ps more p code fs o d f) (no_more qs k) e = absurd (not_comments ps more p (fault_closes p code d) (subst AreComments (sym e) k))
two_forms a b file R _ _ _ _ r (broken ps more p code fs o d f) (ended qs rest stop us gs q c u g) e =
    let same = same_first ps qs more rest p stop o q (fault_closes p code d) (stop_closes stop c) e in
    let bad : fault code ≡ lexeme full_stop = sym d ∙ ap (λ (v : Placed Part). v.lexeme) same.closing ∙ c in cc
two_forms a b file R _ _ _ _ r (broken ps more p code fs o d f) (broken qs rest s other gs q c g) e =
    let same = same_first ps qs more rest p s o q (fault_closes p code d) (fault_closes s other c) e in
    let codes : code ≡ other = cc (sym d ∙ ap (λ (v : Placed Part). v.lexeme) same.closing ∙ c) in
    (λ i. fault_at file (same.closing i).at (codes i), two_forms a b file R more rest fs gs r f g same.behind)
two_forms a b file R _ _ _ _ r (broken ps more p code fs o d f) (unended qs first ls q l) e = absurd (not_open ps more p (fault_closes p code d) (subst IsOpen (sym e) q))
two_forms a b file R _ _ _ _ r (unended ps first ls o l) (no_more qs k) e = let none : [] ≡ first ∷ ls = sym (no_lexemes qs k) ∙ sym (ap lexemes_of e) ∙ l in cc
two_forms a b file R _ _ _ _ r (unended ps first ls o l) (ended qs rest stop us gs q c u g) e = absurd (not_open qs rest stop (stop_closes stop c) (subst IsOpen e o))
two_forms a b file R _ _ _ _ r (unended ps first ls o l) (broken qs rest s other gs q c g) e = absurd (not_open qs rest s (fault_closes s other c) (subst IsOpen e o))
two_forms a b file R _ _ _ _ r (unended ps first ls o l) (unended qs second ms q m) e =
    let same : first ≡ second = cc (sym l ∙ ap lexemes_of e ∙ m) in
    (ap (λ (v : Placed Lexeme). fault_at file v.at 110) same, tt)

-- ---- the first comment that names Latin-1

coding_in : (ps more : List (Placed Part)) (p : Placed Part) → IsCoding p → NoCoding (ps ++ p ∷ more) → ⊥
coding_in [] more p c h = h.0 c
coding_in (q ∷ ps) more p c h = coding_in ps more p c h.1

same_coding : (ps qs more rest : List (Placed Part)) (p q : Placed Part) → NoCoding ps → NoCoding qs → IsCoding p → IsCoding q → ps ++ p ∷ more ≡ qs ++ q ∷ rest → p ≡ q
same_coding [] [] more rest p q h k c d e = cc e
same_coding [] (r ∷ qs) more rest p q h k c d e = let same : p ≡ r = cc e in absurd (k.0 (subst IsCoding same c))
same_coding (r ∷ ps) [] more rest p q h k c d e = let same : r ≡ q = cc e in absurd (h.0 (subst IsCoding (sym same) d))
same_coding (r ∷ ps) (s ∷ qs) more rest p q h k c d e = same_coding ps qs more rest p q h.1 k.1 c d (cc e)

two_forms_of : (a b : Texts) (file : ℕ) (R : List Token → List Token → Type 0) (ps qs : List (Placed Part)) (fs gs : List Form) → Relates a b file R → FormsOf a file ps fs → FormsOf b file qs gs → ps ≡ qs → AreAlike R fs gs
two_forms_of a b file R _ _ _ _ r (latin ps more p n c) (latin qs rest q m d) e =
    (ap (λ (v : Placed Part). fault_at file v.at 112) (same_coding ps qs more rest p q n m c d e), tt)
two_forms_of a b file R _ _ _ _ r (latin ps more p n c) (unicode qs gs m g) e = absurd (coding_in ps more p c (subst NoCoding (sym e) m))
two_forms_of a b file R _ _ _ _ r (unicode ps fs n f) (latin qs rest q m d) e = absurd (coding_in qs rest q d (subst NoCoding e n))
two_forms_of a b file R _ _ _ _ r (unicode ps fs n f) (unicode qs gs m g) e = two_forms a b file R ps qs fs gs r f g e

-- ---- the whole

-- a text has one cut
pub one_way : (text : List ℕ) → HasOneCut text
one_way text ps qs h k = one_cut cut_facts first_position (chars text) ps qs h k

no_utf8 : (text : List ℕ) (n : ℕ) → IsValidUpTo text n → IsUtf8 text → ⊥
no_utf8 text n h u = h.longest (length text) h.short (subst IsUtf8 (sym (take_all (length text) text (omega arith))) u)

-- a text under two tables
pub two_scans : (a b : Texts) (file : ℕ) (text : List ℕ) (R : List Token → List Token → Type 0) (fs gs : List Form) → Relates a b file R → Scans a file text fs → Scans b file text gs → AreAlike R fs gs
two_scans a b file text R _ _ r (not_utf8 n h) (not_utf8 m k) =
    let same : n ≡ m = sym (utf8_valid_len-IsValidUpTo text n h) ∙ utf8_valid_len-IsValidUpTo text m k in
    (ap (λ (z : ℕ). fault_at file (position_after first_position (chars (take z text))) 101) same, tt)
two_scans a b file text R _ _ r (not_utf8 n h) (is_cut qs gs u c g) = absurd (no_utf8 text n h u)
two_scans a b file text R _ _ r (is_cut ps fs u c f) (not_utf8 m k) = absurd (no_utf8 text m k u)
two_scans a b file text R _ _ r (is_cut ps fs u c f) (is_cut qs gs v d g) = two_forms_of a b file R ps qs fs gs r f g (one_way text ps qs c d)

same_forms : (fs gs : List Form) → AreAlike (λ ts us. ts ≡ us) fs gs → fs ≡ gs
same_forms [] [] h = refl
same_forms [] (g ∷ gs) h = absurd h
same_forms (tokens ts ∷ fs) [] h = absurd h
same_forms (tokens ts ∷ fs) (tokens us ∷ gs) h = let there = same_forms fs gs h.1 in λ i. tokens (h.0 i) ∷ there i
same_forms (tokens ts ∷ fs) (faulty g ∷ gs) h = absurd h
same_forms (faulty f ∷ fs) [] h = absurd h
same_forms (faulty f ∷ fs) (tokens us ∷ gs) h = absurd h
same_forms (faulty f ∷ fs) (faulty g ∷ gs) h = let there = same_forms fs gs h.1 in λ i. faulty (h.0 i) ∷ there i

pub one_scan : (text : List ℕ) → HasOneScan text
one_scan text all file fs gs differ h k =
    same_forms fs gs (two_scans all all file text (λ ts us. ts ≡ us) fs gs (λ ls ts us t u. same_tokens all file ls ts us differ t u) h k)
