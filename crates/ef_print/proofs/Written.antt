-- One text, or one list of pieces, behind another.
use Rattle.std.proofs.Common.{◌≡◌, ◌≤◌, ◌+◌, ℕ, ℤ, List, [], ◌∷◌, ◌++◌, length, take, Option, Some, None, Result, Ok, Err, refl, rules, sym, ap, ◌∙◌, subst, arith, append_assoc, append-nil, length-append}
use Rattle.std.proofs.Math.Seq.{take-append-add}
use Rattle.std.proofs.lemmas.List.{take-append-le}
use Rattle.ef_core.specs.declared.layout.Last.{Last}
use Rattle.ef_core.specs.declared.layout.Last.TheVariants.{Start, Newline, Opening, Callable, Other}
use Rattle.ef_core.specs.Pieces.{Piece, Put, lay, ends, lay_piece, after_piece, plain_gap, gap, spelling, after}
use Rattle.ef_core.specs.Lexeme as x
use Rattle.ef_core.specs.declared.lexeme.Word.{Word}
use Rattle.ef_core.specs.Lexeme.{Lexeme, TheWord}
use Rattle.ef_io.specs.Count.{Rose}
use Rattle.ef_io.specs.declared.sink.Failed.{Failed}
use Rattle.ef_io.specs.Sink.{SinkView, IsAppended, Stays, Puts, HasWriteCause, FitsIn, with_more, plus}
use Rattle.ef_io.specs.Laws.{appended_twice}
use Rattle.ef_print.specs.Prints.{Wrote, Stopped, IsTooSmall, Appends, Printed, Prints, Ended, Finished}

-- ---- sequences

stays_both : (old mid new : SinkView) → Stays old mid → Stays mid new → Stays old new
stays_both old mid new a b = record { is_open = b.is_open ∙ a.is_open; created = b.created ∙ a.created }

wrote_both : (old mid new : SinkView) (a b : List ℕ) → Wrote old mid a → Wrote mid new b → Wrote old new (a ++ b)
wrote_both old mid new a b first second = record {
  appended = appended_twice old mid new a b first.appended second.appended;
  stays = stays_both old mid new first.stays second.stays;
  faults = second.faults ∙ first.faults;
}

less_room : (old new : Option ℕ) (a b : ℕ) → plus new a ≡ old → IsTooSmall new b → IsTooSmall old (a + b)
less_room None new a b e small = tt
less_room (Some old) None a b e small = absurd (cc)
less_room (Some old) (Some new) a b e small = λ le. small (let same : new + a ≡ old = some_same (new + a) old e in omega arith)
  where
    some_same : (m n : ℕ) → Some m ≡ Some n → m ≡ n
    some_same m n e = cc

more_room : (room : Option ℕ) (a b : ℕ) → IsTooSmall room a → IsTooSmall room (a + b)
more_room None a b small = tt
more_room (Some room) a b small = λ le. small (omega arith)

wrote_stopped : (old mid new : SinkView) (a b : List ℕ) → Wrote old mid a → Stopped mid new b → Stopped old new (a ++ b)
wrote_stopped old mid new a b first second = record {
  written = length a + second.written;
  within = let le = second.within in simp length-append (omega arith);
  appended = subst (IsAppended old new) (sym (take-append-add a b second.written)) (appended_twice old mid new a (take second.written b) first.appended second.appended);
  stays = stays_both old mid new first.stays second.stays;
  count = subst (λ n. n ≤ new.faults) first.faults second.count;
  rose = subst (λ n. Rose n new.faults) first.faults second.rose;
  room = subst (IsTooSmall old.room) (sym (length-append a b)) (less_room old.room mid.room (length a) (length b) first.appended.room second.room);
}

stopped_first : (old new : SinkView) (a b : List ℕ) → Stopped old new a → Stopped old new (a ++ b)
stopped_first old new a b first = record {
  written = first.written;
  within = let le = first.within in simp length-append (omega arith);
  appended = subst (IsAppended old new) (sym (take-append-le first.written a b first.within)) first.appended;
  stays = first.stays;
  count = first.count;
  rose = first.rose;
  room = subst (IsTooSmall old.room) (sym (length-append a b)) (more_room old.room (length a) (length b) first.room);
}

pub appends_then : (old mid new : SinkView) (r q t : Result Unit Failed) (a b : List ℕ) → Appends old r a mid q → Appends mid q b new t → Appends old r (a ++ b) new t
appends_then old mid new (Ok _) (Ok _) (Ok _) a b first second = wrote_both old mid new a b first second
appends_then old mid new (Ok _) (Ok _) (Err _) a b first second = wrote_stopped old mid new a b first second
appends_then old mid new (Ok _) (Err _) (Ok _) a b first second = absurd second
appends_then old mid new (Ok _) (Err _) (Err _) a b first second = subst (λ v. Stopped old v (a ++ b)) (sym second) (stopped_first old mid a b first)
appends_then old mid new (Err _) (Ok _) t a b first second = absurd first
appends_then old mid new (Err _) (Err _) (Ok _) a b first second = absurd second
appends_then old mid new (Err _) (Err _) (Err _) a b first second = second ∙ first

-- the same bytes, spelled otherwise
pub appends_as : (old new : SinkView) (r q : Result Unit Failed) (a b : List ℕ) → a ≡ b → Appends old r a new q → Appends old r b new q
appends_as old new r q a b same h = subst (λ bytes. Appends old r bytes new q) same h

lay-append : (last : Last) (ps qs : List Piece) → lay last (ps ++ qs) ≡ lay last ps ++ lay (ends last ps) qs
lay-append last [] qs = refl
lay-append last (p ∷ ps) qs =
    ap (λ t. lay_piece last p ++ t) (lay-append (after_piece last p) ps qs)
    ∙ sym (append_assoc (lay_piece last p) (lay (after_piece last p) ps) (lay (ends (after_piece last p) ps) qs))

ends-append : (last : Last) (ps qs : List Piece) → ends last (ps ++ qs) ≡ ends (ends last ps) qs
ends-append last [] qs = refl
ends-append last (p ∷ ps) qs = ends-append (after_piece last p) ps qs

printed_then : (old mid new : SinkView) (r q t : Result Last Failed) (ps qs : List Piece) → Printed old r ps mid q → Printed mid q qs new t → Printed old r (ps ++ qs) new t
printed_then old mid new (Ok last) (Ok next) (Ok end) ps qs first second =
    let behind : Wrote mid new (lay (ends last ps) qs) = subst (λ l. Wrote mid new (lay l qs)) first.1 second.0 in (
      subst (Wrote old new) (sym (lay-append last ps qs)) (wrote_both old mid new (lay last ps) (lay (ends last ps) qs) first.0 behind),
      second.1 ∙ ap (λ l. ends l qs) first.1 ∙ sym (ends-append last ps qs),
    )
printed_then old mid new (Ok last) (Ok next) (Err _) ps qs first second =
    let behind : Stopped mid new (lay (ends last ps) qs) = subst (λ l. Stopped mid new (lay l qs)) first.1 second in
    subst (Stopped old new) (sym (lay-append last ps qs)) (wrote_stopped old mid new (lay last ps) (lay (ends last ps) qs) first.0 behind)
printed_then old mid new (Ok last) (Err _) (Ok _) ps qs first second = absurd second
printed_then old mid new (Ok last) (Err _) (Err _) ps qs first second =
    subst (λ v. Stopped old v (lay last (ps ++ qs))) (sym second)
    (subst (Stopped old mid) (sym (lay-append last ps qs)) (stopped_first old mid (lay last ps) (lay (ends last ps) qs) first))
printed_then old mid new (Err _) (Ok _) t ps qs first second = absurd first
printed_then old mid new (Err _) (Err _) (Ok _) ps qs first second = absurd second
printed_then old mid new (Err _) (Err _) (Err _) ps qs first second = second ∙ first

-- one behind another
infixr 10 ◌▸◌
pub ◌▸◌ : {old mid new : SinkView} {r q t : Result Last Failed} {ps qs : List Piece} → Prints old r ps mid q → Prints mid q qs new t → Prints old r (ps ++ qs) new t
first ▸ second = record { as_told = printed_then _ _ _ _ _ _ _ _ first.as_told second.as_told }

-- the same pieces, spelled otherwise
pub prints_as : {old new : SinkView} {r q : Result Last Failed} {ps qs : List Piece} → ps ≡ qs → Prints old r ps new q → Prints old r qs new q
prints_as {old} {new} {r} {q} same h = subst (λ all. Prints old r all new q) same h

-- ---- a lexeme

lexeme_prints : (old new : SinkView) (last : Last) (l : Lexeme) (r : Result Unit Failed) (q : Result Last Failed) → Appends old (Ok tt) (gap last l ++ spelling l) new r → Ended r (after l) q → Printed old (Ok last) (Put l ∷ []) new q
lexeme_prints old new last l (Ok _) (Ok next) wrote ended =
    (subst (Wrote old new) (sym (append-nil (gap last l ++ spelling l))) wrote, ended)
lexeme_prints old new last l (Ok _) (Err _) wrote ended = absurd ended
lexeme_prints old new last l (Err _) (Ok _) wrote ended = absurd ended
lexeme_prints old new last l (Err _) (Err _) stopped ended =
    subst (Stopped old new) (sym (append-nil (gap last l ++ spelling l))) stopped

-- a gap, and the text of a lexeme
pub gap_and_text : (old mid new : SinkView) (so_far : Result Last Failed) (last : Last) (l : Lexeme) (space bytes : List ℕ) (q r : Result Unit Failed) (t : Result Last Failed) → so_far ≡ Ok last → space ≡ gap last l → bytes ≡ spelling l → Appends old (Ok tt) space mid q → Appends mid q bytes new r → Ended r (after l) t → Prints old so_far (Put l ∷ []) new t
gap_and_text old mid new so_far last l space bytes q r t was is_gap is_text first second ended =
    let both = appends_then old mid new (Ok tt) q r space bytes first second in
    let whole : Appends old (Ok tt) (gap last l ++ spelling l) new r = subst (λ b. Appends old (Ok tt) b new r) (λ i. is_gap i ++ is_text i) both in
    subst (λ s. Prints old s (Put l ∷ []) new t) (sym was) record { as_told = lexeme_prints old new last l r t whole ended }

pub word_gap : (last : Last) (w : Word) → plain_gap last ≡ gap last (TheWord w)
word_gap Start w = refl
word_gap Newline w = refl
word_gap Opening w = refl
word_gap Callable w = refl
word_gap Other w = refl

pub atom_gap : (last : Last) (cs : List ℕ) → plain_gap last ≡ gap last (x.Atom cs)
atom_gap Start cs = refl
atom_gap Newline cs = refl
atom_gap Opening cs = refl
atom_gap Callable cs = refl
atom_gap Other cs = refl

pub var_gap : (last : Last) (cs : List ℕ) → plain_gap last ≡ gap last (x.Var cs)
var_gap Start cs = refl
var_gap Newline cs = refl
var_gap Opening cs = refl
var_gap Callable cs = refl
var_gap Other cs = refl

pub int_gap : (last : Last) (n : ℤ) → plain_gap last ≡ gap last (x.Int n)
int_gap Start n = refl
int_gap Newline n = refl
int_gap Opening n = refl
int_gap Callable n = refl
int_gap Other n = refl

-- ---- nothing, and a line that begins

wrote_none : (v : SinkView) → Wrote v v []
wrote_none v = record {
  appended = record { written = nothing_more v.written; room = nothing_less v.room };
  stays = record { is_open = refl; created = refl };
  faults = refl;
} where
  nothing_more : (told : Option (List ℕ)) → told ≡ with_more told []
  nothing_more None = refl
  nothing_more (Some bytes) = ap Some (sym (append-nil bytes))

  nothing_less : (room : Option ℕ) → plus room 0 ≡ room
  nothing_less None = refl
  nothing_less (Some n) = ap Some (omega arith)

pub prints_none : (v : SinkView) (r : Result Last Failed) → Prints v r [] v r
prints_none v (Ok last) = record { as_told = (wrote_none v, refl) }
prints_none v (Err _) = record { as_told = refl }

pub appends_none : (v : SinkView) (r : Result Unit Failed) → Appends v r [] v r
appends_none v (Ok _) = wrote_none v
appends_none v (Err _) = refl

-- ---- what the whole text shows

is_small : (room : Option ℕ) (n : ℕ) (e : Failed) → IsTooSmall room n → FitsIn room n (let r : Result Unit Failed = Err e in r)
is_small None n e small = tt
is_small (Some room) n e small = λ le. absurd (small le)

ok_fits : (room : Option ℕ) (n : ℕ) (x : Unit) → FitsIn room n (let r : Result Unit Failed = Ok x in r)
ok_fits None n x = tt
ok_fits (Some room) n x = λ le. search rules

module _ (old new : SinkView) (bytes : List ℕ) where
  pub all_stays : (r : Result Unit Failed) → Appends old (Ok tt) bytes new r → Stays old new
  all_stays (Ok _) h = h.stays
  all_stays (Err _) h = h.stays

  pub all_puts : (r : Result Unit Failed) → Appends old (Ok tt) bytes new r → Puts old new bytes r
  all_puts (Ok _) h = h.appended
  all_puts (Err _) h = (h.written, h.within, h.appended)

  pub all_cause : (r : Result Unit Failed) → Appends old (Ok tt) bytes new r → HasWriteCause old new r
  all_cause (Ok _) h = h.faults
  all_cause (Err _) h = (h.count, h.rose)

  pub all_fits : (r : Result Unit Failed) → Appends old (Ok tt) bytes new r → FitsIn old.room (length bytes) r
  all_fits (Ok x) h = ok_fits old.room (length bytes) x
  all_fits (Err e) h = is_small old.room (length bytes) e h.room

-- the pieces, and then the end of the last line
pub text_printed : (old mid new : SinkView) (ps : List Piece) (q : Result Last Failed) (r t : Result Unit Failed) → Printed old (Ok Start) ps mid q → Finished q r → Appends mid r (10 ∷ []) new t → Appends old (Ok tt) (lay Start ps ++ 10 ∷ []) new t
text_printed old mid new ps (Ok _) (Ok _) t first same second = appends_then old mid new (Ok tt) (Ok tt) t (lay Start ps) (10 ∷ []) first.0 second
text_printed old mid new ps (Ok _) (Err _) t first same second = absurd same
text_printed old mid new ps (Err _) (Ok _) t first same second = absurd same
text_printed old mid new ps (Err e) (Err f) t first same second = appends_then old mid new (Ok tt) (Err f) t (lay Start ps) (10 ∷ []) first second
