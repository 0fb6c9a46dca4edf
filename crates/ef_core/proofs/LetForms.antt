-- Variables and literals are in let form, as are lists of them.
use Rattle.std.specs.Prelude.{ℕ, ◌+◌, ◌<◌, ◌≡◌, ◌↔◌, List, [], ◌∷◌, get_or, length}
use Rattle.std.proofs.Common.{drop, subst}
use Rattle.ef_core.proofs.Lists.{drop_at}
use Rattle.ef_core.specs.declared.tree.CoreDef.{CoreDef}
use Rattle.ef_core.specs.declared.tree.CorePatSegment.{CorePatSegment}
use Rattle.ef_core.specs.declared.tree.LetStep.{LetStep}
use Rattle.ef_core.specs.Plain.{plain, plain_defs, plain_lit, plain_pat, plain_pat_segments, plain_steps}
use Rattle.ef_core.specs.declared.literal.CoreVar.{CoreVar}
use Rattle.ef_core.specs.Everywhere.{AllHold, DefsHold, Each, LitHolds, LitsHold, PatHolds, PatSegmentsHold, SegmentsHold, StepsHold}
use Rattle.ef_core.specs.LetForm.{AreSimple, AreSimpleSegments, HaveSimpleSizes, IsLetForm, IsSimple, let_form}
use Rattle.ef_core.specs.Tree.{CoreTree, CoreTrees, CoreSegments, LitTree, LitTrees, atom, end, int, lit, lit_list, lit_list_to, lit_tuple, more, more_lits, no_lits, no_segments, segment, var}

pub each_variable : (vs : List CoreVar) → Each let_form.variable vs
each_variable [] = tt
each_variable (v ∷ vs) = (tt, each_variable vs)

mutual
  pub literal_is_let_form : (l : LitTree) → LitHolds let_form l
  literal_is_let_form (int i) = tt
  literal_is_let_form (atom n) = tt
  literal_is_let_form (lit_list ls) = (tt, literals_are_let_form ls)
  literal_is_let_form (lit_list_to ls l) = (tt, literals_are_let_form ls, literal_is_let_form l)
  literal_is_let_form (lit_tuple ls) = (tt, literals_are_let_form ls)

  literals_are_let_form : (ls : LitTrees) → LitsHold let_form ls
  literals_are_let_form no_lits = tt
  literals_are_let_form (more_lits l ls) = (literal_is_let_form l, literals_are_let_form ls)

pub simple_is_let_form : (e : CoreTree) → IsSimple e → IsLetForm e
simple_is_let_form (var v) simple = (tt, tt)
simple_is_let_form (lit l) simple = (tt, literal_is_let_form l)
simple_is_let_form _ simple = absurd simple

pub all_simple_are_let_form : (es : CoreTrees) → AreSimple es → AllHold let_form es
all_simple_are_let_form end simple = tt
all_simple_are_let_form (more e es) simple = (simple_is_let_form e simple.0, all_simple_are_let_form es simple.1)

pub simple_segments_are_let_form : (ss : CoreSegments) → AreSimpleSegments ss → SegmentsHold let_form ss
simple_segments_are_let_form no_segments simple = tt
simple_segments_are_let_form (segment e size unit kind flags ss) simple =
    (simple_is_let_form e simple.0, simple_is_let_form size simple.1, literal_is_let_form flags, simple_segments_are_let_form ss simple.2)

pub ruleset simple_laws = (each_variable, literal_is_let_form, simple_is_let_form, all_simple_are_let_form, simple_segments_are_let_form)

-- ---- one more of a list

pub step_passed : (P : Type 0) (ss : List LetStep) (i : ℕ) (s : LetStep) → i < length ss → s ≡ get_or ss i s → IsLetForm (plain s.value) →
    (StepsHold let_form (plain_steps (drop i ss)) ↔ P) → StepsHold let_form (plain_steps (drop (i + 1) ss)) ↔ P
step_passed P ss i s small read is same =
    let here = subst (λ rest. StepsHold let_form (plain_steps rest) ↔ P) (drop_at ss i s small read) same in
    (λ rest. here.0 (each_variable s.vars.items, is, rest), λ all. (here.1 all).2)

pub def_passed : (P : Type 0) (ds : List CoreDef) (i : ℕ) (d : CoreDef) → i < length ds → d ≡ get_or ds i d → IsLetForm (plain d.body) →
    (DefsHold let_form (plain_defs (drop i ds)) ↔ P) → DefsHold let_form (plain_defs (drop (i + 1) ds)) ↔ P
def_passed P ds i d small read is same =
    let here = subst (λ rest. DefsHold let_form (plain_defs rest) ↔ P) (drop_at ds i d small read) same in
    (λ rest. here.0 (each_variable d.params.items, is, rest), λ all. (here.1 all).2)

pub segment_passed : (P : Type 0) (ss : List CorePatSegment) (i : ℕ) (s : CorePatSegment) → i < length ss → s ≡ get_or ss i s → IsSimple (plain s.size) → PatHolds let_form (plain_pat s.value) →
    ((HaveSimpleSizes (plain_pat_segments (drop i ss)) × PatSegmentsHold let_form (plain_pat_segments (drop i ss))) ↔ P) →
    (HaveSimpleSizes (plain_pat_segments (drop (i + 1) ss)) × PatSegmentsHold let_form (plain_pat_segments (drop (i + 1) ss))) ↔ P
segment_passed P ss i s small read simple is same =
    let here = subst (λ rest. (HaveSimpleSizes (plain_pat_segments rest) × PatSegmentsHold let_form (plain_pat_segments rest)) ↔ P) (drop_at ss i s small read) same in
    let size = simple_is_let_form (plain s.size) simple in
    (λ rest. here.0 ((simple, rest.0), (is, size, literal_is_let_form (plain_lit s.flags), rest.1)), λ all. ((here.1 all).0.1, (here.1 all).1.3))
