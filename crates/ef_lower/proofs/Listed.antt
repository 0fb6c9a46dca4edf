-- Variables of a list, as values and as patterns.
use Rattle.std.proofs.Common.{◌≡◌, ◌≤◌, inl, inr, List, [], ◌∷◌, map, refl, ap, arith}
use Rattle.ef_base.specs.Texts.{Texts}
use Rattle.ef_core.specs.declared.literal.CoreVar.{CoreVar}
use Rattle.ef_core.specs.declared.literal.FName.{FName}
use Rattle.ef_core.specs.Depth.{all_depth, pats_depth}
use Rattle.ef_core.specs.Everywhere.{AllHold, Each, PatsHold}
use Rattle.ef_core.specs.LetForm.{AreSimple}
use Rattle.ef_core.specs.Lowered.{lowered}
use Rattle.ef_core.specs.Plain.{pats, trees}
use Rattle.ef_core.specs.Readable.{readable}
use Rattle.ef_core.specs.Scope.{AllInScope, IsAmong, SizesInScope, pats_vars}
use Rattle.ef_core.specs.Tree as c
use Rattle.ef_core.specs.Tree.{PatTrees}
use Rattle.ef_core.specs.WellFormed.{AreSingle}
use Rattle.ef_meaning.specs.Cases.{variables}
use Rattle.ef_lower.proofs.Forms.{variable_lowered}

-- ---- variables as values

pub variables_simple : (ys : List CoreVar) → AreSimple (trees (variables ys))
variables_simple [] = tt
variables_simple (y ∷ ys) = (tt, variables_simple ys)

pub variables_single : (ys : List CoreVar) → AreSingle (trees (variables ys))
variables_single [] = tt
variables_single (y ∷ ys) = (tt, variables_single ys)

pub variables_lowered : (all : Texts) (ys : List CoreVar) → Each (readable all).variable ys → AllHold (lowered all) (trees (variables ys))
variables_lowered all [] is = tt
variables_lowered all (y ∷ ys) is = (variable_lowered all y is.0, variables_lowered all ys is.1)

pub variables_in_scope : (us : List CoreVar) (fs : List FName) (ys : List CoreVar) → Each (IsAmong us) ys → AllInScope us fs (trees (variables ys))
variables_in_scope us fs [] are = tt
variables_in_scope us fs (y ∷ ys) are = (are.0, variables_in_scope us fs ys are.1)

pub variables_depth : (ys : List CoreVar) → all_depth (trees (variables ys)) ≤ 1
variables_depth [] = omega arith
variables_depth (y ∷ ys) = let rest = variables_depth ys in omega arith

-- each is one of these
among_here : (us : List CoreVar) (u : CoreVar) (ys : List CoreVar) → Each (IsAmong us) ys → Each (IsAmong (u ∷ us)) ys
among_here us u [] are = tt
among_here us u (y ∷ ys) are = (inr are.0, among_here us u ys are.1)

pub among_themselves : (ys : List CoreVar) → Each (IsAmong ys) ys
among_themselves [] = tt
among_themselves (y ∷ ys) = (inl refl, among_here ys y ys (among_themselves ys))

-- ---- variables as patterns

abbrev pub patterns : List CoreVar → PatTrees
patterns ys = pats (map (λ y. c.pat_var y) ys)

pub patterns_vars : (ys : List CoreVar) → pats_vars (patterns ys) ≡ ys
patterns_vars [] = refl
patterns_vars (y ∷ ys) = ap (λ vs. y ∷ vs) (patterns_vars ys)

pub patterns_lowered : (all : Texts) (ys : List CoreVar) → Each (readable all).variable ys → PatsHold (lowered all) (patterns ys)
patterns_lowered all [] is = tt
patterns_lowered all (y ∷ ys) is = (((tt, ((tt, (tt, tt)), tt)), (tt, (is.0, tt))), patterns_lowered all ys is.1)

pub patterns_sizes : (us : List CoreVar) (fs : List FName) (ys : List CoreVar) → SizesInScope us fs (patterns ys)
patterns_sizes us fs [] = tt
patterns_sizes us fs (y ∷ ys) = (tt, patterns_sizes us fs ys)

pub patterns_depth : (ys : List CoreVar) → pats_depth (patterns ys) ≤ 1
patterns_depth [] = omega arith
patterns_depth (y ∷ ys) = let rest = patterns_depth ys in omega arith
