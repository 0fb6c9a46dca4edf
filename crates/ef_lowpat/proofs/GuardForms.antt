-- Guards that are made of tests can be said, are in scope, and are not deep.
use Rattle.std.proofs.Common.{◌≡◌, ℕ, ◌+◌, ◌≤◌, List, [], ◌∷◌, length, map, inl, inr, refl, sym, ap, ◌∙◌, subst, arith}
use Rattle.ef_base.specs.Texts.{Texts}
use Rattle.ef_core.specs.declared.literal.CoreVar.{CoreVar}
use Rattle.ef_core.specs.declared.literal.CoreVar.TheVariants.{Numbered}
use Rattle.ef_core.specs.declared.literal.FName.{FName}
use Rattle.ef_core.specs.declared.lowered.Test.{Test}
use Rattle.ef_core.specs.Depth.{all_depth, depth}
use Rattle.ef_core.specs.Everywhere.{AllHold, Each}
use Rattle.ef_core.specs.Fresh.{most_variables}
use Rattle.ef_core.specs.LetForm.{AreSimple}
use Rattle.ef_core.specs.Lowered.{IsLowered, IsReadableTest, lowered}
use Rattle.ef_core.specs.Normal.{IsNoRun}
use Rattle.ef_core.specs.Plain.{trees}
use Rattle.ef_core.specs.Readable.{readable}
use Rattle.ef_core.specs.Scope.{AllInScope, InScope, IsAmong}
use Rattle.ef_core.specs.Tree.{CoreTree, tuple, var}
use Rattle.ef_core.specs.WellFormed.{AreSingle}
use Rattle.ef_core.proofs.HoldsLaws.{each_same}
use Rattle.ef_lowpat.specs.Guards.{HasTested, IsComparison, behind_sides}

-- ---- variables, and tuples of them

module _ (f : Test → CoreVar) where
  abbrev variables : List Test → List CoreTree
  variables tests = map (λ t. var (f t)) tests

  simple : (tests : List Test) → AreSimple (trees (variables tests))
  simple [] = tt
  simple (t ∷ ts) = (tt, simple ts)

  single : (tests : List Test) → AreSingle (trees (variables tests))
  single [] = tt
  single (t ∷ ts) = (tt, single ts)

  hold : (texts : Texts) (tests : List Test) → Each (λ t. (readable texts).variable (f t)) tests → AllHold (lowered texts) (trees (variables tests))
  hold texts [] all = tt
  hold texts (t ∷ ts) all = (((tt, ((tt, (tt, tt)), (tt, tt, tt))), (tt, (all.0, tt))), hold texts ts all.1)

  tuple_lowered : (texts : Texts) (t : Test) (ts : List Test) → Each (λ t. (readable texts).variable (f t)) (t ∷ ts) → IsLowered texts (tuple (trees (variables (t ∷ ts))))
  tuple_lowered texts t ts all = ((simple (t ∷ ts), (((λ h. h.0), (single (t ∷ ts), tt)), (tt, tt, tt))), hold texts (t ∷ ts) all)

  in_scope : (vs : List CoreVar) (fs : List FName) (tests : List Test) → Each (λ t. IsAmong vs (f t)) tests → AllInScope vs fs (trees (variables tests))
  in_scope vs fs [] all = tt
  in_scope vs fs (t ∷ ts) all = (all.0, in_scope vs fs ts all.1)

  shallow : (tests : List Test) → all_depth (trees (variables tests)) ≤ 1
  shallow [] = omega arith
  shallow (t ∷ ts) = let rest = shallow ts in omega arith

firsts : (P Q : Test → Type 0) (tests : List Test) → Each (λ t. P t × Q t) tests → Each P tests
firsts P Q [] all = tt
firsts P Q (t ∷ ts) all = (all.0.0, firsts P Q ts all.1)

seconds : (P Q : Test → Type 0) (tests : List Test) → Each (λ t. P t × Q t) tests → Each Q tests
seconds P Q [] all = tt
seconds P Q (t ∷ ts) all = (all.0.1, seconds P Q ts all.1)

-- ---- a comparison

module _ (texts : Texts) (x y : CoreVar) (e : CoreTree) (is : IsComparison texts x y e) where
  pub comparison_lowered : (readable texts).variable x → (readable texts).variable y → IsLowered texts e
  comparison_lowered p q = subst (IsLowered texts) (sym is.is) (
    ((tt, (tt, tt)), ((tt, ((tt, tt, (tt, (tt, tt))), tt)), (tt, tt, tt))),
    ((tt, ((tt, (tt, tt)), (tt, tt, tt))), (tt, ((tt, (tt, is.erlang_named.within)), tt))),
    ((tt, ((tt, (tt, tt)), (tt, tt, tt))), (tt, ((tt, (tt, is.same_named.within)), tt))),
    (((tt, ((tt, (tt, tt)), (tt, tt, tt))), (tt, (p, tt))), (((tt, ((tt, (tt, tt)), (tt, tt, tt))), (tt, (q, tt))), tt)),
  )

  pub comparison_in_scope : (vs : List CoreVar) (fs : List FName) → IsAmong vs x → IsAmong vs y → InScope vs fs e
  comparison_in_scope vs fs p q = subst (InScope vs fs) (sym is.is) (tt, tt, (p, (q, tt)))

  pub comparison_deep : depth e ≤ 2
  comparison_deep = let d = ap depth is.is in omega arith

-- ---- several tests

module _ (texts : Texts) (n : ℕ) (t : Test) (ts : List Test) (body e : CoreTree) (is : IsComparison texts (Numbered n) (Numbered (n + 1)) body) (made : e ≡ behind_sides (t ∷ ts) (Numbered n) (Numbered (n + 1)) body) where
  pub sides_lowered : n + 2 ≤ most_variables → Each (IsReadableTest texts) (t ∷ ts) → IsLowered texts e
  sides_lowered within all = subst (IsLowered texts) (sym made) (
    (tt, (((tt, subst IsNoRun (sym is.is) tt), (tt, tt)), ((((λ h. h), tt), (((λ h. h), tt), tt)), tt, tt))),
    (
      ((tt, (omega arith, tt)), tt),
      tuple_lowered (λ r. r.left) texts t ts (firsts (λ r. (readable texts).variable r.left) (λ r. (readable texts).variable r.right) (t ∷ ts) all),
      (((tt, (omega arith, tt)), tt), tuple_lowered (λ r. r.right) texts t ts (seconds (λ r. (readable texts).variable r.left) (λ r. (readable texts).variable r.right) (t ∷ ts) all), tt),
    ),
    comparison_lowered texts (Numbered n) (Numbered (n + 1)) body is (tt, (omega arith, tt)) (tt, (omega arith, tt)),
  )

  pub sides_in_scope : (vs : List CoreVar) (fs : List FName) → HasTested (t ∷ ts) vs → InScope vs fs e
  sides_in_scope vs fs all = subst (InScope vs fs) (sym made) (
    (
      in_scope (λ r. r.left) vs fs (t ∷ ts) (firsts (λ r. IsAmong vs r.left) (λ r. IsAmong vs r.right) (t ∷ ts) all),
      (
        in_scope (λ r. r.right) (Numbered n ∷ vs) fs (t ∷ ts)
            (each_same (λ r. IsAmong vs r.right) (λ r. IsAmong (Numbered n ∷ vs) r.right) (λ r p. inr p) (t ∷ ts) (seconds (λ r. IsAmong vs r.left) (λ r. IsAmong vs r.right) (t ∷ ts) all)),
        tt,
      ),
    ),
    comparison_in_scope texts (Numbered n) (Numbered (n + 1)) body is (Numbered (n + 1) ∷ Numbered n ∷ vs) fs (inr (inl refl)) (inl refl),
  )

  pub sides_shallow : depth e ≤ 3
  sides_shallow =
      let d = ap depth made in let b = comparison_deep texts (Numbered n) (Numbered (n + 1)) body is in
      let l = shallow (λ r. r.left) (t ∷ ts) in let r = shallow (λ r. r.right) (t ∷ ts) in omega arith

-- ---- the same, for variables that were drawn one after the other

pub record Behind (texts : Texts) (n : ℕ) (tests : List Test) (e : CoreTree) : Type 0 where
  pub body : CoreTree
  pub is : IsComparison texts (Numbered n) (Numbered (n + 1)) body
  pub made : e ≡ behind_sides tests (Numbered n) (Numbered (n + 1)) body

pub behind : (texts : Texts) (n m : ℕ) (tests : List Test) (left right : CoreVar) (body e : CoreTree) → left ≡ Numbered n → m ≡ n + 1 → right ≡ Numbered m → IsComparison texts left right body → e ≡ behind_sides tests left right body → Behind texts n tests e
behind texts n m tests left right body e p q r is made =
    let next : right ≡ Numbered (n + 1) = r ∙ ap Numbered q in record {
      body = body;
      is = subst (λ x. IsComparison texts (Numbered n) x body) next (subst (λ x. IsComparison texts x right body) p is);
      made = made ∙ (λ i. behind_sides tests (p i) (next i) body);
    }

module _ (texts : Texts) (n : ℕ) where
  pub behind_lowered : (tests : List Test) (e : CoreTree) → 1 ≤ length tests → Behind texts n tests e → n + 2 ≤ most_variables → Each (IsReadableTest texts) tests → IsLowered texts e
  behind_lowered [] e some b within all = absurd (omega arith)
  behind_lowered (t ∷ ts) e some b within all = sides_lowered texts n t ts b.body e b.is b.made within all

  pub behind_in_scope : (tests : List Test) (e : CoreTree) → 1 ≤ length tests → Behind texts n tests e → (vs : List CoreVar) (fs : List FName) → HasTested tests vs → InScope vs fs e
  behind_in_scope [] e some b vs fs all = absurd (omega arith)
  behind_in_scope (t ∷ ts) e some b vs fs all = sides_in_scope texts n t ts b.body e b.is b.made vs fs all

  pub behind_shallow : (tests : List Test) (e : CoreTree) → 1 ≤ length tests → Behind texts n tests e → depth e ≤ 3
  behind_shallow [] e some b = absurd (omega arith)
  behind_shallow (t ∷ ts) e some b = sides_shallow texts n t ts b.body e b.is b.made
