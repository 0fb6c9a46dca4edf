-- The parts of the rule for lowered trees, and what a lowered tree is in a later table.
use Rattle.std.proofs.Common.{◌≡◌, ◌<◌, ℕ, zero, suc, inl, inr, List, [], ◌∷◌, length, get_or, arith}
use Rattle.ef_base.specs.declared.name.Name.{Name}
use Rattle.ef_base.specs.Laws.{named_later}
use Rattle.ef_base.specs.Texts.{Extends, HasName, IsNameOf, Texts, text}
use Rattle.ef_core.proofs.HoldsLaws.{holds_map, pats_hold_map}
use Rattle.ef_core.proofs.ReadLater.{expr_later, pat_later, literal_later, variable_later, condition_later, pat_right_later}
use Rattle.ef_core.specs.Conditions.{conditions}
use Rattle.ef_core.specs.Everywhere.{Holds, PatsHold}
use Rattle.ef_core.specs.LetForm.{IsLetForm, let_form}
use Rattle.ef_core.specs.OfTable.{CoreOf, of_table}
use Rattle.ef_core.specs.Readable.{readable}
use Rattle.ef_core.specs.Tree.{CoreTree, PatTrees, atom, lit, var}
use Rattle.ef_core.specs.declared.literal.CoreVar.{CoreVar}
use Rattle.ef_core.specs.declared.literal.FName.{FName}
use Rattle.ef_forms.specs.declared.tables.FunctionName.{FunctionName}
use Rattle.ef_core.specs.Lowered.{IsLowered, lowered}
use Rattle.ef_lower.specs.Scope.{HasFunctions}

-- ---- atoms and variables

pub atom_lowered : (all : Texts) (n : Name) → HasName all n → IsLowered all (lit (atom n))
atom_lowered all n named = ((tt, ((tt, (tt, tt)), (tt, tt, tt))), (tt, ((tt, (tt, named)), tt)))

pub variable_lowered : (all : Texts) (v : CoreVar) → (readable all).variable v → IsLowered all (var v)
variable_lowered all v is = ((tt, ((tt, (tt, tt)), (tt, tt, tt))), (tt, (is, tt)))

-- ---- the parts

module _ (all : Texts) where
  pub lowered_readable : (e : CoreTree) → IsLowered all e → Holds (readable all) e
  lowered_readable = holds_map (lowered all) (readable all) (λ e is. is.1.0) (λ p is. is.1.0) (λ l is. is.1.0) (λ v is. is.1.0)

  pub lowered_conditions : (e : CoreTree) → IsLowered all e → Holds (conditions all) e
  lowered_conditions = holds_map (lowered all) (conditions all) (λ e is. is.1.1) (λ p is. is.1.1) (λ l is. is.1.1) (λ v is. is.1.1)

  pub lowered_let_form : (e : CoreTree) → IsLowered all e → IsLetForm e
  lowered_let_form = holds_map (lowered all) let_form (λ e is. is.0) (λ p is. is.0) (λ l is. is.0) (λ v is. is.0)

  pub lowered_of_table : (e : CoreTree) → IsLowered all e → CoreOf all e
  lowered_of_table = holds_map (lowered all) (of_table all) (λ e is. is.1.0.1.1) (λ p is. is.1.0.1.1) (λ l is. is.1.0.1.1) (λ v is. is.1.0.1.1)

-- ---- later tables

-- a name with a text is one of the table
pub text_within : (texts : Texts) (i w : ℕ) (ws : List ℕ) → get_or texts i [] ≡ w ∷ ws → i < length texts
text_within [] i w ws is = absurd (cc)
text_within (t ∷ texts) zero w ws is = omega arith
text_within (t ∷ texts) (suc i) w ws is = let rest = text_within texts i w ws is in omega arith

module _ (now all : Texts) (later : Extends now all) where
  pub word_later : (n : Name) (w : ℕ) (ws : List ℕ) → text now n ≡ w ∷ ws → text all n ≡ w ∷ ws
  word_later n w ws is =
      let here : IsNameOf now n (w ∷ ws) = record { within = text_within now n.index w ws is; is = is } in
      (named_later now all n (w ∷ ws) here later).is

  -- the whole

  pub lowered_later : (e : CoreTree) → IsLowered now e → IsLowered all e
  lowered_later = holds_map (lowered now) (lowered all)
      (λ e is. (is.0, (expr_later now all later e is.1.0, condition_later now all later e is.1.1)))
      (λ p is. (is.0, (pat_later now all later p is.1.0, pat_right_later now all later p is.1.1)))
      (λ l is. (is.0, (literal_later now all later l is.1.0, is.1.1)))
      (λ v is. (is.0, (variable_later now all later v is.1.0, is.1.1)))

  pub pats_lowered_later : (ps : PatTrees) → PatsHold (lowered now) ps → PatsHold (lowered all) ps
  pats_lowered_later = pats_hold_map (lowered now) (lowered all)
      (λ e is. (is.0, (expr_later now all later e is.1.0, condition_later now all later e is.1.1)))
      (λ p is. (is.0, (pat_later now all later p is.1.0, pat_right_later now all later p is.1.1)))
      (λ l is. (is.0, (literal_later now all later l is.1.0, is.1.1)))
      (λ v is. (is.0, (variable_later now all later v is.1.0, is.1.1)))

  -- what is defined in a table is so in a later one
  pub has_earlier : (functions : List FunctionName) (fs : List FName) → HasFunctions all functions fs → HasFunctions now functions fs
  has_earlier functions fs has f (inl among) = has f (inl among)
  has_earlier functions fs has f (inr info) = has f (inr (word_later f.name _ _ info.0, info.1))
