-- What bytes are read as.
use Rattle.std.specs.Prelude.{ℕ, List, map, chars, IsUtf8}
use Rattle.ef_base.specs.Cut.{Placed}
use Rattle.ef_base.specs.Texts.{Texts}
use Rattle.ef_core.specs.Conditions.{MeetsConditions}
use Rattle.ef_core.specs.Everywhere.{Each}
use Rattle.ef_core.specs.Grammar.{SpellsModule}
use Rattle.ef_core.specs.Lexeme as x
use Rattle.ef_core.specs.Lexeme.{Lexeme, CutsInto}
use Rattle.ef_core.specs.Tree.{CoreModuleTree}
use Rattle.ef_core.specs.WellFormed.{IsInRange}

-- the depth of a text is at most this
abbrev pub greatest_depth : ℕ
greatest_depth = 2048

-- an integer has 128 bits
abbrev pub HasRange : Lexeme → Type 0
HasRange (x.Int i) = IsInRange i
HasRange _ = Unit {0}

-- the bytes are UTF-8 and are cut into lexemes that spell the module, which meets the conditions
pub record Reads (names : Texts) (bytes : List ℕ) (m : CoreModuleTree) : Type 0 where
  pub utf8 : IsUtf8 bytes
  pub lexemes : List (Placed Lexeme)
  pub cut : CutsInto (chars bytes) lexemes
  pub in_range : Each HasRange (map (λ l. l.lexeme) lexemes)
  pub spelled : SpellsModule names greatest_depth m (map (λ l. l.lexeme) lexemes)
  pub conditions : MeetsConditions names m
