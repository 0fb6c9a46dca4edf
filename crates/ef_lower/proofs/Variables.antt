-- The variables of a step, and those that patterns bind.
use Rattle.std.proofs.Common.{◌≡◌, ◌≤◌, ◌+◌, ◌||◌, ◌==◌, ◌⊎◌, ℕ, inl, inr, List, [], ◌∷◌, ◌++◌, length, None, refl, sym, ap, ◌∙◌, subst, arith}
use Rattle.ef_base.specs.declared.name.Name.{Name}
use Rattle.ef_base.specs.Texts.{Texts}
use Rattle.ef_core.specs.declared.env.Bind.{Bind}
use Rattle.ef_core.specs.declared.literal.CoreVar.{CoreVar}
use Rattle.ef_core.specs.declared.literal.CoreVar.TheVariants.{Numbered}
use Rattle.ef_core.specs.declared.lowered.Test.{Test}
use Rattle.ef_core.specs.Env.{held}
use Rattle.ef_core.specs.Everywhere.{Each}
use Rattle.ef_core.specs.Fresh.{most_variables}
use Rattle.ef_core.specs.Lowered.{IsReadableBind, lowered}
use Rattle.ef_core.specs.Scope.{IsAmong}
use Rattle.ef_core.proofs.Held.{held_back}
use Rattle.ef_meaning.specs.Cases.{AreHeld, names_of}
use Rattle.ef_meaning.specs.Lowers.{env_from, params_from}
use Rattle.ef_lowpat.specs.Guards.{HasTested}
use Rattle.ef_lowpat.specs.Lowers.{IsVariableOf}
use Rattle.ef_lower.specs.Ready.{bound_names}
use Rattle.ef_lower.specs.Scope.{HasVariables}
use Rattle.ef_lower.proofs.Forms.{numbered_readable}
use Rattle.ef_lower.proofs.Scopes.{among_first, among_more}

-- names that are new, and differ
pub names_held : (env binds bs : List Bind) → AreHeld binds bs → Each (λ b. held env b.name ≡ None) bs → AreHeld (env ++ binds) bs
names_held env binds [] are new = tt
names_held env binds (b ∷ bs) are new = (held_back env binds b.name new.0 ∙ are.0, names_held env binds bs are.1 new.1)

-- ---- variables from a number on

pub params_readable : (texts : Texts) (n : ℕ) (xs : List Name) → n + length xs ≤ most_variables → Each (lowered texts).variable (params_from n xs)
params_readable texts n [] le = tt
params_readable texts n (x ∷ xs) le = ((tt, (numbered_readable texts n (omega arith), tt)), params_readable texts (n + 1) xs (omega arith))

pub params_among : (n : ℕ) (xs : List Name) (us : List CoreVar) → ((v : CoreVar) → IsAmong (params_from n xs) v → IsAmong us v) → HasVariables (env_from n xs) us
params_among n [] us up = tt
params_among n (x ∷ xs) us up = (up (Numbered n) (inl refl), params_among (n + 1) xs us (λ v is. up v (inr is)))

pub env_readable : (texts : Texts) (n : ℕ) (xs : List Name) → n + length xs ≤ most_variables → Each (IsReadableBind texts) (env_from n xs)
env_readable texts n [] le = tt
env_readable texts n (x ∷ xs) le = (numbered_readable texts n (omega arith), env_readable texts (n + 1) xs (omega arith))

pub named_same : (n : ℕ) (bs : List Bind) (y : ℕ) → bound_names (env_from n (names_of bs)) y ≡ bound_names bs y
named_same n [] y = refl
named_same n (b ∷ bs) y = ap (λ z. (b.name.index == y) || z) (named_same (n + 1) bs y)

pub names_count : (bs : List Bind) → length (names_of bs) ≡ length bs
names_count [] = refl
names_count (b ∷ bs) = let rest = names_count bs in omega arith

-- ---- what is known behind patterns

pub each_at : {A : Type 0} (P : A → Type 0) (xs : List A) (x : A) → Each P xs → IsAmong xs x → P x
each_at P [] x all is = absurd is
each_at P (y ∷ ys) x all (inl same) = subst P (sym same) all.0
each_at P (y ∷ ys) x all (inr is) = each_at P ys x all.1 is

-- what holds of these holds of those behind others
pub among_each : {A : Type 0} (f : A → CoreVar) (us vs : List CoreVar) (xs : List A) → Each (λ x. IsAmong us (f x)) xs → Each (λ x. IsAmong (us ++ vs) (f x)) xs
among_each f us vs [] all = tt
among_each f us vs (x ∷ xs) all = (among_first us vs (f x) all.0, among_each f us vs xs all.1)

pub tests_known : (env : List Bind) (us vs : List CoreVar) (ts : List Test) → HasVariables env vs → Each (λ x. IsAmong us x.left) ts → Each (λ x. IsAmong us x.right ⊎ IsVariableOf env x.right) ts → HasTested ts (us ++ vs)
tests_known env us vs [] has lefts rights = tt
tests_known env us vs (x ∷ ts) has lefts rights = ((among_first us vs x.left lefts.0, right rights.0), tests_known env us vs ts has lefts.1 rights.1)
  where
    right : IsAmong us x.right ⊎ IsVariableOf env x.right → IsAmong (us ++ vs) x.right
    right (inl is) = among_first us vs x.right is
    right (inr is) = among_more us vs x.right (subst (IsAmong vs) is.2 (each_at (λ b. IsAmong vs b.var) env is.0 has is.1))
