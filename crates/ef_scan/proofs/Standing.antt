-- What stands at the front of a text, at cursors.
use Rattle.std.specs.Prelude.{ℕ, List, chars}
use Rattle.std.proofs.Common.{sym, subst}
use Rattle.ef_token.specs.Lexeme.{Lexeme}
use Rattle.ef_token.specs.ScanFaults.{Fails, IsFaultless}
use Rattle.ef_token.specs.Sorts.{BeginsAs}
use Rattle.ef_token.proofs.Standing.{Stands, AtomStands}
use Rattle.ef_token.proofs.Integers.{IntegerStands}
use Rattle.ef_scan.specs.declared.cursor.Cursor.{Cursor}
use Rattle.ef_scan.specs.Cursors.{IsBehind}
use Rattle.ef_scan.specs.Verdicts.{IsLexemeAt, IsAtomAt, IsIntegerAt}

module _ (first second : Cursor) where
  pub lexeme_at : (l : Lexeme) (front : List ℕ) → IsBehind first second front → Stands l front (chars second.rest.now) → IsLexemeAt first l second
  lexeme_at l front behind h = record {
    front = front;
    behind = behind;
    lexeme = h.lexeme;
    longest = h.longest;
    faultless = subst IsFaultless (sym behind.chars_are) h.faultless;
  }

  pub atom_at : (cs front : List ℕ) → IsBehind first second front → AtomStands cs front (chars second.rest.now) → IsAtomAt first cs second
  atom_at cs front behind h = record {
    front = front;
    behind = behind;
    lexeme = h.lexeme;
    longest = h.longest;
    sort = h.sort;
    is_atom = h.is_atom;
    begins = subst (BeginsAs h.sort) (sym behind.chars_are) h.begins;
    others = λ code fails. h.others code (subst (Fails code) behind.chars_are fails);
  }

  pub atom_stands_at : (cs : List ℕ) (h : IsAtomAt first cs second) → AtomStands cs h.front (chars second.rest.now)
  atom_stands_at cs h = record {
    lexeme = h.lexeme;
    longest = h.longest;
    sort = h.sort;
    is_atom = h.is_atom;
    begins = subst (BeginsAs h.sort) h.behind.chars_are h.begins;
    others = λ code fails. h.others code (subst (Fails code) (sym h.behind.chars_are) fails);
  }

  pub integer_at : (n : ℕ) (front : List ℕ) → IsBehind first second front → IntegerStands n front (chars second.rest.now) → IsIntegerAt first n second
  integer_at n front behind h = record {
    front = front;
    behind = behind;
    lexeme = h.lexeme;
    longest = h.longest;
    others = λ code fails. h.others code (subst (Fails code) behind.chars_are fails);
  }

  pub integer_stands_at : (n : ℕ) (h : IsIntegerAt first n second) → IntegerStands n h.front (chars second.rest.now)
  integer_stands_at n h = record {
    lexeme = h.lexeme;
    longest = h.longest;
    others = λ code fails. h.others code (subst (Fails code) (sym h.behind.chars_are) fails);
  }
