-- What is written is read: the text of a readable module is read as this module.
use Rattle.std.specs.Prelude.{ℕ, max, ◌+◌, ◌<◌, ◌≤◌, ◌^◌, List, [], ◌∷◌, map}
use Rattle.std.proofs.Common.{sym, subst, arith, inl, inr}
use Rattle.ef_base.specs.Texts.{Texts, AllUtf8, HasName}
use Rattle.ef_core.specs.declared.literal.FName.{FName}
use Rattle.ef_core.specs.Depth.{depth, lit_depth, terms_depth, functions_depth, module_depth}
use Rattle.ef_core.specs.Everywhere.{Each, DefHolds, LitHolds}
use Rattle.ef_core.specs.Grammar.{SpellsModule}
use Rattle.ef_core.specs.Layout.{module_pieces, text_of}
use Rattle.ef_core.specs.Lexeme as x
use Rattle.ef_core.specs.Lexeme.{Lexeme, TheWord, Sym, IsTextOf}
use Rattle.ef_core.specs.OfTable.{AttributeOf, DefOf, FNameOf}
use Rattle.ef_core.specs.Pieces.{Piece, Break, Put, lexemes}
use Rattle.ef_core.specs.Readable.{readable, IsReadable, IsReadBack}
use Rattle.ef_core.specs.Reads.{greatest_depth, HasRange, Reads}
use Rattle.ef_core.specs.Scope.{IsAmong}
use Rattle.ef_core.specs.Tree.{AttributeTree, DefTree, CoreModuleTree}
use Rattle.ef_core.specs.WellFormed.{Matches}
use Rattle.ef_core.proofs.Ascii.{printed_text_cut}
use Rattle.ef_core.proofs.Good.{IsGood, good_module}
use Rattle.ef_core.proofs.Longest.{Good}
use Rattle.ef_core.proofs.Printed.{AllGood}
use Rattle.ef_core.proofs.Spells.{spells_module}

one_range : (l : Lexeme) → Good l → HasRange l
one_range (TheWord w) g = tt
one_range (x.Atom cs) g = tt
one_range (x.Var cs) g = tt
one_range (x.Int i) g = g
one_range (x.Char c) g = tt
one_range (x.Str cs) g = tt
one_range (Sym s) g = tt

in_range : (ps : List Piece) → AllGood ps → Each HasRange (lexemes ps)
in_range [] all = tt
in_range (Break ∷ ps) all = in_range ps all
in_range (Put l ∷ ps) all = (one_range l all.0, in_range ps all.1)

-- a defined function has a small arity
small_arity : (ds : List DefTree) (f : FName) → Each (λ d. Matches d.name d.params) ds → IsAmong (map (λ d. d.name) ds) f → f.arity < 2 ^ 32
small_arity [] f matches among = absurd among
small_arity (d ∷ ds) f matches (inl same) = subst (λ g. g.arity < 2 ^ 32) (sym same) matches.0.1
small_arity (d ∷ ds) f matches (inr among) = small_arity ds f matches.1 among

module _ (names : Texts) where
  exports_named : (ds : List DefTree) (fs : List FName) → Each (λ d. Matches d.name d.params) ds → Each (FNameOf names) fs → Each (IsAmong (map (λ d. d.name) ds)) fs
      → Each (λ f. HasName names f.name × (f.arity < 2 ^ 32)) fs
  exports_named ds [] matches named among = tt
  exports_named ds (f ∷ fs) matches named among = ((named.0, small_arity ds f matches among.0), exports_named ds fs matches named.1 among.1)

  terms : (as' : List AttributeTree) → Each (AttributeOf names) as' → Each (λ a. LitHolds (readable names) a.term) as' → Each (λ a. HasName names a.name × LitHolds (readable names) a.term) as'
  terms [] named holds = tt
  terms (a ∷ as') named holds = ((named.0.0, holds.0), terms as' named.1 holds.1)

  terms_fit : (as' : List AttributeTree) → Each (AttributeOf names) as' → Each (λ a. LitHolds (readable names) a.term) as' → terms_depth as' ≤ greatest_depth
      → Each (λ a. HasName names a.name × LitHolds (readable names) a.term × (1 + lit_depth a.term ≤ 1 + greatest_depth)) as'
  terms_fit [] named holds fits = tt
  terms_fit (a ∷ as') named holds fits =
      let here : max (lit_depth a.term) (terms_depth as') ≤ greatest_depth = fits in
      ((named.0.0, holds.0, omega arith), terms_fit as' named.1 holds.1 (omega arith))

  functions : (ds : List DefTree) → Each (DefOf names) ds → Each (λ d. Matches d.name d.params) ds → Each (DefHolds (readable names)) ds
      → Each (λ d. HasName names d.name.name × Matches d.name d.params × DefHolds (readable names) d) ds
  functions [] named matches holds = tt
  functions (d ∷ ds) named matches holds = ((named.0.0, matches.0, holds.0), functions ds named.1 matches.1 holds.1)

  functions_fit : (ds : List DefTree) → Each (DefOf names) ds → Each (λ d. Matches d.name d.params) ds → Each (DefHolds (readable names)) ds → functions_depth ds ≤ greatest_depth
      → Each (λ d. HasName names d.name.name × Matches d.name d.params × DefHolds (readable names) d × (1 + depth d.body ≤ 1 + greatest_depth)) ds
  functions_fit [] named matches holds fits = tt
  functions_fit (d ∷ ds) named matches holds fits =
      let here : max (depth d.body) (functions_depth ds) ≤ greatest_depth = fits in
      ((named.0.0, matches.0, holds.0, omega arith), functions_fit ds named.1 matches.1 holds.1 (omega arith))

  good_readable : (m : CoreModuleTree) → AllUtf8 names → IsReadable names m → IsGood (module_pieces names m)
  good_readable m utf8 is =
      good_module names utf8 m is.names_of.0 (exports_named m.defs m.exports is.parameters is.names_of.1 is.conditions.exports_defined)
      (terms m.attributes is.names_of.2 is.parts.terms) (functions m.defs is.names_of.3 is.parameters is.parts.defs)

  -- the text of good pieces that spell the module is read as the module
  reads_good : (m : CoreModuleTree) → IsGood (module_pieces names m) → IsReadable names m → module_depth m ≤ greatest_depth → Reads names (text_of names m) m
  reads_good m good is deep =
      let cut : IsTextOf (lexemes (module_pieces names m)) (text_of names m) = printed_text_cut (module_pieces names m) good.all in
      let spelled : SpellsModule names greatest_depth m (lexemes (module_pieces names m)) =
      spells_module names greatest_depth m is.names_of.0 (exports_named m.defs m.exports is.parameters is.names_of.1 is.conditions.exports_defined)
      (terms_fit m.attributes is.names_of.2 is.parts.terms (shallow (terms_depth m.attributes) (functions_depth m.defs) deep).0)
      (functions_fit m.defs is.names_of.3 is.parameters is.parts.defs (shallow (terms_depth m.attributes) (functions_depth m.defs) deep).1) in
      record {
        utf8 = cut.utf8;
        lexemes = cut.placed;
        cut = cut.cut;
        in_range = subst (Each HasRange) (sym cut.are) (in_range (module_pieces names m) good.all);
        spelled = subst (SpellsModule names greatest_depth m) (sym cut.are) spelled;
        conditions = is.conditions;
      }
    where
      shallow : (a b : ℕ) → max a b ≤ greatest_depth → (a ≤ greatest_depth) × (b ≤ greatest_depth)
      shallow a b h = (omega arith, omega arith)

  pub reads : (m : CoreModuleTree) → IsReadBack names m
  reads m utf8 is deep = reads_good m (good_readable m utf8 is) is deep
