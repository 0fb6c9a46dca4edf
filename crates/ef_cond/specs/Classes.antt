-- The classes of tokens by number, and sets of them.
use Rattle.std.specs.Prelude.{ℕ, [], ◌∷◌}
use Rattle.ef_grammar.specs.Grammar.{set_of}

abbrev pub LeftParen : ℕ
LeftParen = 0

abbrev pub RightParen : ℕ
RightParen = 1

abbrev pub Int : ℕ
Int = 2

abbrev pub Atom : ℕ
Atom = 3

abbrev pub Plus : ℕ
Plus = 4

abbrev pub Minus : ℕ
Minus = 5

abbrev pub Not : ℕ
Not = 6

abbrev pub MulOp : ℕ
MulOp = 7

abbrev pub AddWord : ℕ
AddWord = 8

abbrev pub CmpOp : ℕ
CmpOp = 9

abbrev pub Andalso : ℕ
Andalso = 10

abbrev pub Orelse : ℕ
Orelse = 11

abbrev pub Other : ℕ
Other = 12

abbrev pub Nothing : ℕ
Nothing = 13

abbrev pub UnaryOp : ℕ
UnaryOp = set_of (Plus ∷ Minus ∷ Not ∷ [])

abbrev pub AddOp : ℕ
AddOp = set_of (Plus ∷ Minus ∷ AddWord ∷ [])
