-- A symbol at the front of a text, by the text's first bytes.
use Rattle.std.proofs.Common.{ℕ, ◌≤◌, ◌≡◌, List, [], ◌∷◌, ◌++◌, length, drop, get_or, arith, refl, sym, ap, ◌∙◌}
use Rattle.std.specs.Prelude.{Option, Some, None, IfSome}
use Rattle.ef_token.specs.declared.word.Sym.{Sym}
use Rattle.ef_token.specs.Words.{sym_text}
use Rattle.ef_scan.specs.Symbols.{Fits}

begins_one : (text : List ℕ) → 1 ≤ length text → text ≡ (get_or text 0 0 ∷ []) ++ drop 1 text
begins_one [] l = absurd (omega arith)
begins_one (a ∷ text) l = refl

begins_two : (text : List ℕ) → 2 ≤ length text → text ≡ (get_or text 0 0 ∷ get_or text 1 0 ∷ []) ++ drop 2 text
begins_two [] l = absurd (omega arith)
begins_two (a ∷ []) l = absurd (omega arith)
begins_two (a ∷ b ∷ text) l = refl

begins_three : (text : List ℕ) → 3 ≤ length text → text ≡ (get_or text 0 0 ∷ get_or text 1 0 ∷ get_or text 2 0 ∷ []) ++ drop 3 text
begins_three [] l = absurd (omega arith)
begins_three (a ∷ []) l = absurd (omega arith)
begins_three (a ∷ b ∷ []) l = absurd (omega arith)
begins_three (a ∷ b ∷ c ∷ text) l = refl

fits : (text front : List ℕ) (n : ℕ) (r : Option Sym) → text ≡ front ++ drop n text → length front ≡ n → IfSome r (λ s. sym_text s ≡ front) → IfSome r (λ s. Fits s text × (length (sym_text s) ≡ n))
fits text front n (Some s) e l h = ((drop n text, e ∙ ap (λ t. t ++ drop n text) (sym h)), ap length h ∙ l)
fits text front n None e l h = tt

pub fits_one : (text : List ℕ) (r : Option Sym) → 1 ≤ length text → IfSome r (λ s. sym_text s ≡ get_or text 0 0 ∷ []) → IfSome r (λ s. Fits s text × (length (sym_text s) ≡ 1))
fits_one text r l h = fits text (get_or text 0 0 ∷ []) 1 r (begins_one text l) refl h

pub fits_two : (text : List ℕ) (r : Option Sym) → 2 ≤ length text → IfSome r (λ s. sym_text s ≡ get_or text 0 0 ∷ get_or text 1 0 ∷ []) → IfSome r (λ s. Fits s text × (length (sym_text s) ≡ 2))
fits_two text r l h = fits text (get_or text 0 0 ∷ get_or text 1 0 ∷ []) 2 r (begins_two text l) refl h

pub fits_three : (text : List ℕ) (r : Option Sym) → 3 ≤ length text → IfSome r (λ s. sym_text s ≡ get_or text 0 0 ∷ get_or text 1 0 ∷ get_or text 2 0 ∷ []) → IfSome r (λ s. Fits s text × (length (sym_text s) ≡ 3))
fits_three text r l h = fits text (get_or text 0 0 ∷ get_or text 1 0 ∷ get_or text 2 0 ∷ []) 3 r (begins_three text l) refl h
