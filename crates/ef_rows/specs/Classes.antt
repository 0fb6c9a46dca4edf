-- The classes of tokens by number, and sets of them.
use Rattle.std.specs.Prelude.{ℕ, [], ◌∷◌}
use Rattle.ef_grammar.specs.Grammar.{set_of}

abbrev pub LeftParen : ℕ
LeftParen = 0

abbrev pub RightParen : ℕ
RightParen = 1

abbrev pub LeftBracket : ℕ
LeftBracket = 2

abbrev pub RightBracket : ℕ
RightBracket = 3

abbrev pub LeftBrace : ℕ
LeftBrace = 4

abbrev pub RightBrace : ℕ
RightBrace = 5

abbrev pub LeftBits : ℕ
LeftBits = 6

abbrev pub RightBits : ℕ
RightBits = 7

abbrev pub Comma : ℕ
Comma = 8

abbrev pub Colon : ℕ
Colon = 9

abbrev pub ColonEnd : ℕ
ColonEnd = 10

abbrev pub DoubleColon : ℕ
DoubleColon = 11

abbrev pub Point : ℕ
Point = 12

abbrev pub Dot : ℕ
Dot = 13

abbrev pub Semi : ℕ
Semi = 14

abbrev pub SemiNamed : ℕ
SemiNamed = 15

abbrev pub Arrow : ℕ
Arrow = 16

abbrev pub Bar : ℕ
Bar = 17

abbrev pub DoubleBar : ℕ
DoubleBar = 18

abbrev pub Hash : ℕ
Hash = 19

abbrev pub Equals : ℕ
Equals = 20

abbrev pub Bang : ℕ
Bang = 21

abbrev pub MaybeMatch : ℕ
MaybeMatch = 22

abbrev pub ListArrow : ℕ
ListArrow = 23

abbrev pub BitsArrow : ℕ
BitsArrow = 24

abbrev pub CmpOp : ℕ
CmpOp = 25

abbrev pub ListOp : ℕ
ListOp = 26

abbrev pub Plus : ℕ
Plus = 27

abbrev pub Minus : ℕ
Minus = 28

abbrev pub AddWord : ℕ
AddWord = 29

abbrev pub Slash : ℕ
Slash = 30

abbrev pub MulWord : ℕ
MulWord = 31

abbrev pub Not : ℕ
Not = 32

abbrev pub Andalso : ℕ
Andalso = 33

abbrev pub Orelse : ℕ
Orelse = 34

abbrev pub Atom : ℕ
Atom = 35

abbrev pub Var : ℕ
Var = 36

abbrev pub Any : ℕ
Any = 37

abbrev pub Int : ℕ
Int = 38

abbrev pub Char : ℕ
Char = 39

abbrev pub Str : ℕ
Str = 40

abbrev pub After : ℕ
After = 41

abbrev pub Begin : ℕ
Begin = 42

abbrev pub Case : ℕ
Case = 43

abbrev pub Catch : ℕ
Catch = 44

abbrev pub CatchNamed : ℕ
CatchNamed = 45

abbrev pub Else : ℕ
Else = 46

abbrev pub End : ℕ
End = 47

abbrev pub Fun : ℕ
Fun = 48

abbrev pub If : ℕ
If = 49

abbrev pub Maybe : ℕ
Maybe = 50

abbrev pub Of : ℕ
Of = 51

abbrev pub Receive : ℕ
Receive = 52

abbrev pub Try : ℕ
Try = 53

abbrev pub When : ℕ
When = 54

abbrev pub Other : ℕ
Other = 55

abbrev pub Nothing : ℕ
Nothing = 56

abbrev pub AnyCatch : ℕ
AnyCatch = set_of (Catch ∷ CatchNamed ∷ [])

abbrev pub AnySemi : ℕ
AnySemi = set_of (Semi ∷ SemiNamed ∷ [])

abbrev pub AnyColon : ℕ
AnyColon = set_of (Colon ∷ ColonEnd ∷ [])

abbrev pub Variable : ℕ
Variable = set_of (Var ∷ Any ∷ [])

abbrev pub Name : ℕ
Name = set_of (Atom ∷ Var ∷ Any ∷ [])

abbrev pub Single : ℕ
Single = set_of (Atom ∷ Var ∷ Any ∷ Int ∷ Char ∷ [])

abbrev pub Sign : ℕ
Sign = set_of (Plus ∷ Minus ∷ [])

abbrev pub UnaryOp : ℕ
UnaryOp = set_of (Plus ∷ Minus ∷ Not ∷ [])

abbrev pub AddOp : ℕ
AddOp = set_of (Plus ∷ Minus ∷ AddWord ∷ [])

abbrev pub MulOp : ℕ
MulOp = set_of (Slash ∷ MulWord ∷ [])

abbrev pub LooseBare : ℕ
LooseBare = set_of (Colon ∷ ColonEnd ∷ DoubleColon ∷ Point ∷ Semi ∷ SemiNamed ∷ Arrow ∷ Bar ∷ DoubleBar ∷ Equals ∷ MaybeMatch ∷ Andalso ∷ Orelse ∷ After ∷ Else ∷ End ∷ Of ∷ When ∷ Other ∷ [])

abbrev pub LooseKept : ℕ
LooseKept = set_of (Hash ∷ Bang ∷ ListArrow ∷ BitsArrow ∷ CmpOp ∷ ListOp ∷ Plus ∷ Minus ∷ AddWord ∷ Slash ∷ MulWord ∷ Not ∷ Atom ∷ Var ∷ Any ∷ Int ∷ Char ∷ Str ∷ Begin ∷ Case ∷ Catch ∷ CatchNamed ∷ Fun ∷ If ∷ Maybe ∷ Receive ∷ Try ∷ [])
