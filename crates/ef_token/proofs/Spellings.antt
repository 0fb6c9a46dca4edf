-- What the spellings of reserved words and symbols tell.
use Rattle.std.specs.Prelude.{ℕ, ◌+◌, ◌*◌, ◌==◌, ◌≡◌, true, List, [], ◌∷◌, length, nat_le, Option, Some, None, if◌then◌else◌, refl}
use Rattle.std.proofs.Common.{ap}
use Rattle.ef_token.specs.declared.word.Word.{Word}
use Rattle.ef_token.specs.declared.word.Word.TheVariants as word
use Rattle.ef_token.specs.declared.word.Sym.{Sym}
use Rattle.ef_token.specs.declared.word.Sym.TheVariants as symbol
use Rattle.ef_token.specs.Words.{word_text, sym_text}
use Rattle.ef_base.specs.Characters.{Each, Stops}
use Rattle.ef_token.specs.Letters.{continues_name, is_printing}
pub use Rattle.ef_token.specs.Sorts.{sort, BeginsAs}

-- a text as one number, its characters as digits
abbrev pub packed : List ℕ → ℕ
packed [] = 0
packed (c ∷ cs) = c + 256 * packed cs

abbrev word_at : ℕ → Option Word
word_at n =
    if n == 491328398945 then Some word.After else (if n == 6581857 then Some word.And else (if n == 31370631742516833 then Some word.AndAlso else (if n == 1684955490 then Some word.Band else (if n == 474214786402 then Some word.Begin else (if n == 1953459810 then Some word.Bnot else (if n == 7499618 then Some word.Bor else (if n == 7107426 then Some word.Bsl else (if n == 7500642 then Some word.Bsr else (if n == 1919907938 then Some word.Bxor else (if n == 1702060387 then Some word.Case else (if n == 448345170275 then Some word.Catch else (if n == 1684959075 then Some word.Cond else (if n == 7760228 then Some word.Div else (if n == 1702063205 then Some word.Else else (if n == 6581861 then Some word.End else (if n == 7239014 then Some word.Fun else (if n == 26217 then Some word.If else (if n == 7628140 then Some word.Let else (if n == 435443818861 then Some word.Maybe else (if n == 7630702 then Some word.Not else (if n == 26223 then Some word.Of else (if n == 29295 then Some word.Or else (if n == 111546414232175 then Some word.OrElse else (if n == 28559167692432754 then Some word.Receive else (if n == 7169394 then Some word.Rem else (if n == 7959156 then Some word.Try else (if n == 1852139639 then Some word.When else (if n == 7499640 then Some word.Xor else (None)))))))))))))))))))))))))))))

abbrev symbol_at : ℕ → Option Sym
symbol_at n =
    if n == 40 then Some symbol.LeftParen else (if n == 41 then Some symbol.RightParen else (if n == 91 then Some symbol.LeftBracket else (if n == 93 then Some symbol.RightBracket else (if n == 123 then Some symbol.LeftBrace else (if n == 125 then Some symbol.RightBrace else (if n == 15420 then Some symbol.LeftBits else (if n == 15934 then Some symbol.RightBits else (if n == 44 then Some symbol.Comma else (if n == 59 then Some symbol.Semicolon else (if n == 46 then Some symbol.Period else (if n == 58 then Some symbol.Colon else (if n == 14906 then Some symbol.DoubleColon else (if n == 15917 then Some symbol.Arrow else (if n == 11580 then Some symbol.LeftArrow else (if n == 15676 then Some symbol.DoubleLeftArrow else (if n == 2964028 then Some symbol.StrictLeftArrow else (if n == 4012604 then Some symbol.StrictDoubleLeftArrow else (if n == 31868 then Some symbol.DoubleBar else (if n == 124 then Some symbol.Bar else (if n == 61 then Some symbol.Match else (if n == 15679 then Some symbol.MaybeMatch else (if n == 15677 then Some symbol.Equal else (if n == 15663 then Some symbol.NotEqual else (if n == 4012605 then Some symbol.Same else (if n == 4009789 then Some symbol.NotSame else (if n == 60 then Some symbol.Less else (if n == 62 then Some symbol.Greater else (if n == 15421 then Some symbol.AtMost else (if n == 15678 then Some symbol.AtLeast else (if n == 43 then Some symbol.Plus else (if n == 45 then Some symbol.Minus else (if n == 42 then Some symbol.Star else (if n == 47 then Some symbol.Slash else (if n == 11051 then Some symbol.Append else (if n == 11565 then Some symbol.Subtract else (if n == 33 then Some symbol.Send else (if n == 35 then Some symbol.Hash else (if n == 63 then Some symbol.Question else (if n == 15674 then Some symbol.Assign else (if n == 15933 then Some symbol.DoubleArrow else (if n == 11822 then Some symbol.DoublePeriod else (if n == 3026478 then Some symbol.Ellipsis else (if n == 9766 then Some symbol.DoubleAnd else (None))))))))))))))))))))))))))))))))))))))))))))

pub record WordFacts (w : Word) : Type 0 where
  pub at : word_at (packed (word_text w)) ≡ Some w
  pub begins : BeginsAs 0 (word_text w)
  pub parts : Each continues_name (word_text w)
  pub plain : Each is_printing (word_text w)

pub word_facts : (w : Word) → WordFacts w
word_facts word.After = record { at = refl; begins = refl; parts = (refl, (refl, (refl, (refl, (refl, tt))))); plain = (refl, (refl, (refl, (refl, (refl, tt))))) }
word_facts word.And = record { at = refl; begins = refl; parts = (refl, (refl, (refl, tt))); plain = (refl, (refl, (refl, tt))) }
word_facts word.AndAlso = record { at = refl; begins = refl; parts = (refl, (refl, (refl, (refl, (refl, (refl, (refl, tt))))))); plain = (refl, (refl, (refl, (refl, (refl, (refl, (refl, tt))))))) }
word_facts word.Band = record { at = refl; begins = refl; parts = (refl, (refl, (refl, (refl, tt)))); plain = (refl, (refl, (refl, (refl, tt)))) }
word_facts word.Begin = record { at = refl; begins = refl; parts = (refl, (refl, (refl, (refl, (refl, tt))))); plain = (refl, (refl, (refl, (refl, (refl, tt))))) }
word_facts word.Bnot = record { at = refl; begins = refl; parts = (refl, (refl, (refl, (refl, tt)))); plain = (refl, (refl, (refl, (refl, tt)))) }
word_facts word.Bor = record { at = refl; begins = refl; parts = (refl, (refl, (refl, tt))); plain = (refl, (refl, (refl, tt))) }
word_facts word.Bsl = record { at = refl; begins = refl; parts = (refl, (refl, (refl, tt))); plain = (refl, (refl, (refl, tt))) }
word_facts word.Bsr = record { at = refl; begins = refl; parts = (refl, (refl, (refl, tt))); plain = (refl, (refl, (refl, tt))) }
word_facts word.Bxor = record { at = refl; begins = refl; parts = (refl, (refl, (refl, (refl, tt)))); plain = (refl, (refl, (refl, (refl, tt)))) }
word_facts word.Case = record { at = refl; begins = refl; parts = (refl, (refl, (refl, (refl, tt)))); plain = (refl, (refl, (refl, (refl, tt)))) }
word_facts word.Catch = record { at = refl; begins = refl; parts = (refl, (refl, (refl, (refl, (refl, tt))))); plain = (refl, (refl, (refl, (refl, (refl, tt))))) }
word_facts word.Cond = record { at = refl; begins = refl; parts = (refl, (refl, (refl, (refl, tt)))); plain = (refl, (refl, (refl, (refl, tt)))) }
word_facts word.Div = record { at = refl; begins = refl; parts = (refl, (refl, (refl, tt))); plain = (refl, (refl, (refl, tt))) }
word_facts word.Else = record { at = refl; begins = refl; parts = (refl, (refl, (refl, (refl, tt)))); plain = (refl, (refl, (refl, (refl, tt)))) }
word_facts word.End = record { at = refl; begins = refl; parts = (refl, (refl, (refl, tt))); plain = (refl, (refl, (refl, tt))) }
word_facts word.Fun = record { at = refl; begins = refl; parts = (refl, (refl, (refl, tt))); plain = (refl, (refl, (refl, tt))) }
word_facts word.If = record { at = refl; begins = refl; parts = (refl, (refl, tt)); plain = (refl, (refl, tt)) }
word_facts word.Let = record { at = refl; begins = refl; parts = (refl, (refl, (refl, tt))); plain = (refl, (refl, (refl, tt))) }
word_facts word.Maybe = record { at = refl; begins = refl; parts = (refl, (refl, (refl, (refl, (refl, tt))))); plain = (refl, (refl, (refl, (refl, (refl, tt))))) }
word_facts word.Not = record { at = refl; begins = refl; parts = (refl, (refl, (refl, tt))); plain = (refl, (refl, (refl, tt))) }
word_facts word.Of = record { at = refl; begins = refl; parts = (refl, (refl, tt)); plain = (refl, (refl, tt)) }
word_facts word.Or = record { at = refl; begins = refl; parts = (refl, (refl, tt)); plain = (refl, (refl, tt)) }
word_facts word.OrElse = record { at = refl; begins = refl; parts = (refl, (refl, (refl, (refl, (refl, (refl, tt)))))); plain = (refl, (refl, (refl, (refl, (refl, (refl, tt)))))) }
word_facts word.Receive = record { at = refl; begins = refl; parts = (refl, (refl, (refl, (refl, (refl, (refl, (refl, tt))))))); plain = (refl, (refl, (refl, (refl, (refl, (refl, (refl, tt))))))) }
word_facts word.Rem = record { at = refl; begins = refl; parts = (refl, (refl, (refl, tt))); plain = (refl, (refl, (refl, tt))) }
word_facts word.Try = record { at = refl; begins = refl; parts = (refl, (refl, (refl, tt))); plain = (refl, (refl, (refl, tt))) }
word_facts word.When = record { at = refl; begins = refl; parts = (refl, (refl, (refl, (refl, tt)))); plain = (refl, (refl, (refl, (refl, tt)))) }
word_facts word.Xor = record { at = refl; begins = refl; parts = (refl, (refl, (refl, tt))); plain = (refl, (refl, (refl, tt))) }

pub record SymbolFacts (s : Sym) : Type 0 where
  pub at : symbol_at (packed (sym_text s)) ≡ Some s
  pub begins : BeginsAs 3 (sym_text s)
  pub plain : Each is_printing (sym_text s)
  pub no_tilde : Stops (λ c. c == 126) (sym_text s)
  pub short : nat_le (length (sym_text s)) 3 ≡ true

pub symbol_facts : (s : Sym) → SymbolFacts s
symbol_facts symbol.LeftParen = record { at = refl; begins = refl; plain = (refl, tt); no_tilde = refl; short = refl }
symbol_facts symbol.RightParen = record { at = refl; begins = refl; plain = (refl, tt); no_tilde = refl; short = refl }
symbol_facts symbol.LeftBracket = record { at = refl; begins = refl; plain = (refl, tt); no_tilde = refl; short = refl }
symbol_facts symbol.RightBracket = record { at = refl; begins = refl; plain = (refl, tt); no_tilde = refl; short = refl }
symbol_facts symbol.LeftBrace = record { at = refl; begins = refl; plain = (refl, tt); no_tilde = refl; short = refl }
symbol_facts symbol.RightBrace = record { at = refl; begins = refl; plain = (refl, tt); no_tilde = refl; short = refl }
symbol_facts symbol.LeftBits = record { at = refl; begins = refl; plain = (refl, (refl, tt)); no_tilde = refl; short = refl }
symbol_facts symbol.RightBits = record { at = refl; begins = refl; plain = (refl, (refl, tt)); no_tilde = refl; short = refl }
symbol_facts symbol.Comma = record { at = refl; begins = refl; plain = (refl, tt); no_tilde = refl; short = refl }
symbol_facts symbol.Semicolon = record { at = refl; begins = refl; plain = (refl, tt); no_tilde = refl; short = refl }
symbol_facts symbol.Period = record { at = refl; begins = refl; plain = (refl, tt); no_tilde = refl; short = refl }
symbol_facts symbol.Colon = record { at = refl; begins = refl; plain = (refl, tt); no_tilde = refl; short = refl }
symbol_facts symbol.DoubleColon = record { at = refl; begins = refl; plain = (refl, (refl, tt)); no_tilde = refl; short = refl }
symbol_facts symbol.Arrow = record { at = refl; begins = refl; plain = (refl, (refl, tt)); no_tilde = refl; short = refl }
symbol_facts symbol.LeftArrow = record { at = refl; begins = refl; plain = (refl, (refl, tt)); no_tilde = refl; short = refl }
symbol_facts symbol.DoubleLeftArrow = record { at = refl; begins = refl; plain = (refl, (refl, tt)); no_tilde = refl; short = refl }
symbol_facts symbol.StrictLeftArrow = record { at = refl; begins = refl; plain = (refl, (refl, (refl, tt))); no_tilde = refl; short = refl }
symbol_facts symbol.StrictDoubleLeftArrow = record { at = refl; begins = refl; plain = (refl, (refl, (refl, tt))); no_tilde = refl; short = refl }
symbol_facts symbol.DoubleBar = record { at = refl; begins = refl; plain = (refl, (refl, tt)); no_tilde = refl; short = refl }
symbol_facts symbol.Bar = record { at = refl; begins = refl; plain = (refl, tt); no_tilde = refl; short = refl }
symbol_facts symbol.Match = record { at = refl; begins = refl; plain = (refl, tt); no_tilde = refl; short = refl }
symbol_facts symbol.MaybeMatch = record { at = refl; begins = refl; plain = (refl, (refl, tt)); no_tilde = refl; short = refl }
symbol_facts symbol.Equal = record { at = refl; begins = refl; plain = (refl, (refl, tt)); no_tilde = refl; short = refl }
symbol_facts symbol.NotEqual = record { at = refl; begins = refl; plain = (refl, (refl, tt)); no_tilde = refl; short = refl }
symbol_facts symbol.Same = record { at = refl; begins = refl; plain = (refl, (refl, (refl, tt))); no_tilde = refl; short = refl }
symbol_facts symbol.NotSame = record { at = refl; begins = refl; plain = (refl, (refl, (refl, tt))); no_tilde = refl; short = refl }
symbol_facts symbol.Less = record { at = refl; begins = refl; plain = (refl, tt); no_tilde = refl; short = refl }
symbol_facts symbol.Greater = record { at = refl; begins = refl; plain = (refl, tt); no_tilde = refl; short = refl }
symbol_facts symbol.AtMost = record { at = refl; begins = refl; plain = (refl, (refl, tt)); no_tilde = refl; short = refl }
symbol_facts symbol.AtLeast = record { at = refl; begins = refl; plain = (refl, (refl, tt)); no_tilde = refl; short = refl }
symbol_facts symbol.Plus = record { at = refl; begins = refl; plain = (refl, tt); no_tilde = refl; short = refl }
symbol_facts symbol.Minus = record { at = refl; begins = refl; plain = (refl, tt); no_tilde = refl; short = refl }
symbol_facts symbol.Star = record { at = refl; begins = refl; plain = (refl, tt); no_tilde = refl; short = refl }
symbol_facts symbol.Slash = record { at = refl; begins = refl; plain = (refl, tt); no_tilde = refl; short = refl }
symbol_facts symbol.Append = record { at = refl; begins = refl; plain = (refl, (refl, tt)); no_tilde = refl; short = refl }
symbol_facts symbol.Subtract = record { at = refl; begins = refl; plain = (refl, (refl, tt)); no_tilde = refl; short = refl }
symbol_facts symbol.Send = record { at = refl; begins = refl; plain = (refl, tt); no_tilde = refl; short = refl }
symbol_facts symbol.Hash = record { at = refl; begins = refl; plain = (refl, tt); no_tilde = refl; short = refl }
symbol_facts symbol.Question = record { at = refl; begins = refl; plain = (refl, tt); no_tilde = refl; short = refl }
symbol_facts symbol.Assign = record { at = refl; begins = refl; plain = (refl, (refl, tt)); no_tilde = refl; short = refl }
symbol_facts symbol.DoubleArrow = record { at = refl; begins = refl; plain = (refl, (refl, tt)); no_tilde = refl; short = refl }
symbol_facts symbol.DoublePeriod = record { at = refl; begins = refl; plain = (refl, (refl, tt)); no_tilde = refl; short = refl }
symbol_facts symbol.Ellipsis = record { at = refl; begins = refl; plain = (refl, (refl, (refl, tt))); no_tilde = refl; short = refl }
symbol_facts symbol.DoubleAnd = record { at = refl; begins = refl; plain = (refl, (refl, tt)); no_tilde = refl; short = refl }

pub one_word : (w v : Word) → word_text w ≡ word_text v → w ≡ v
one_word w v e =
    let a = (word_facts w).at in
    let b = (word_facts v).at in
    let c = ap (λ t. word_at (packed t)) e in
    cc

pub one_symbol : (s t : Sym) → sym_text s ≡ sym_text t → s ≡ t
one_symbol s t e =
    let a = (symbol_facts s).at in
    let b = (symbol_facts t).at in
    let c = ap (λ t. symbol_at (packed t)) e in
    cc
