-- Patterns are lowered: leaves, nodes, and one pattern after another.
use Rattle.std.proofs.Common.{◌≡◌, ℕ, ℤ, suc, ◌+◌, ◌≤◌, ◌<◌, ◌==◌, inl, inr, Bool, true, false, List, [], ◌∷◌, ◌++◌, Option, Some, None, max, refl, sym, ap, ◌∙◌, subst, arith, append_assoc, append-nil, length-append}
use Rattle.std.specs.Prelude.{◌||◌}
use Rattle.std.proofs.lemmas.Bool.{and_from, and_parts}
use Rattle.std.proofs.Math.Bool.{or_assoc}
use Rattle.ef_base.specs.declared.name.Name.{Name}
use Rattle.ef_base.specs.declared.fault.Place.{Place}
use Rattle.ef_base.specs.Texts.{Texts}
use Rattle.ef_core.specs.declared.env.Bind.{Bind}
use Rattle.ef_core.specs.declared.literal.CoreVar.{CoreVar}
use Rattle.ef_core.specs.declared.literal.CoreVar.TheVariants.{Numbered}
use Rattle.ef_core.specs.declared.literal.FName.{FName}
use Rattle.ef_core.specs.declared.lowered.Test.{Test}
use Rattle.ef_core.specs.Depth.{lit_depth, lits_depth, pat_depth, pats_depth}
use Rattle.ef_core.specs.Env.{bind, held}
use Rattle.ef_core.specs.Everywhere.{LitsHold, PatHolds, PatsHold}
use Rattle.ef_core.specs.Fresh.{most_variables, variables_from}
use Rattle.ef_core.specs.Lowered.{lowered}
use Rattle.ef_core.specs.Normal.{NormalPat}
use Rattle.ef_core.specs.Plain.{pats}
use Rattle.ef_core.specs.Scope.{SizeInScope, SizesInScope, pat_vars, pats_vars}
use Rattle.ef_core.specs.Tree as to
use Rattle.ef_core.specs.Tree.{LitTree, LitTrees, PatTree, PatTrees, no_lits, more_lits, no_pats, more_pats}
use Rattle.ef_core.specs.WellFormed.{AreSomePats, IsInRange}
use Rattle.ef_forms.specs.Depth.{all_depth, depth}
use Rattle.ef_forms.specs.OfTable.{TreeOf, TreesOf}
use Rattle.ef_forms.specs.Plain.{trees}
use Rattle.ef_forms.specs.Tree as from
use Rattle.ef_forms.specs.Tree.{Tree, end, more, tree}
use Rattle.ef_forms.specs.Ways.{all_names, names}
use Rattle.ef_forms.specs.Weight.{all_weight, weight}
use Rattle.ef_meaning.specs.Core.{are_built, is_built}
use Rattle.ef_meaning.specs.Lowers.{AreBelow}
use Rattle.ef_meaning.specs.Named.{bound_names}
use Rattle.ef_lowpat.specs.Lowers.{LowersItems, LowersPattern, LowersTo, Notes}
use Rattle.ef_lowpat.specs.Matching.{KeepsPattern}
use Rattle.ef_lowpat.specs.Nodes.{Finishes, FinishesTo, Says, lit_pats}
use Rattle.ef_lowpat.proofs.Found.{found_name, found_none, found_test, names_append, names_held, or_false, row_append}
use Rattle.ef_lowpat.proofs.Items.{items_more, list_keeps, list_to_keeps, no_items_keep, said_keeps, tuple_keeps}
use Rattle.ef_lowpat.proofs.Leaves.{any_keeps, atom_keeps, bound_keeps, int_keeps, name_keeps}

-- the same, for trees and numbers that are the same
pub lowers_as : (e f : Tree) (bound : List Bind) (n0 : ℕ) (t0 : List Test) (b0 : List Bind) (n1 m1 : ℕ) (t1 : List Test) (b1 : List Bind) (p q : PatTree) → e ≡ f → n1 ≡ m1 → p ≡ q → LowersPattern f bound n0 t0 b0 m1 t1 b1 q → LowersPattern e bound n0 t0 b0 n1 t1 b1 p
lowers_as e f bound n0 t0 b0 n1 m1 t1 b1 p q is count same one =
    subst (λ x. LowersPattern x bound n0 t0 b0 n1 t1 b1 p) (sym is) (subst (λ n. LowersPattern f bound n0 t0 b0 n t1 b1 p) (sym count) (subst (λ x. LowersPattern f bound n0 t0 b0 m1 t1 b1 x) (sym same) one))

pub items_as : (es ds : List Tree) (bound : List Bind) (n0 : ℕ) (t0 : List Test) (b0 : List Bind) (n1 : ℕ) (t1 : List Test) (b1 : List Bind) (ps qs : List PatTree) → es ≡ ds → ps ≡ qs → LowersItems ds bound n0 t0 b0 n1 t1 b1 qs → LowersItems es bound n0 t0 b0 n1 t1 b1 ps
items_as es ds bound n0 t0 b0 n1 t1 b1 ps qs is same all =
    subst (λ x. LowersItems x bound n0 t0 b0 n1 t1 b1 ps) (sym is) (subst (λ x. LowersItems ds bound n0 t0 b0 n1 t1 b1 x) (sym same) all)

module _ (bound : List Bind) (n0 : ℕ) (t0 : List Test) (b0 : List Bind) where
  -- ---- leaves

  leaf_lowers : (e : Tree) (l : LitTree) → KeepsPattern e n0 (bound ++ b0) (to.pat_lit l) [] n0 [] → ((y : ℕ) → false ≡ names e y) → lit_depth l ≤ depth e → ((texts : Texts) → TreeOf texts e → PatHolds (lowered texts) (to.pat_lit l))
      → LowersPattern e bound n0 t0 b0 n0 t0 b0 (to.pat_lit l)
  leaf_lowers e l keeps unnamed shallow low = record {
    tests = [];
    binds = [];
    tests_added = sym (append-nil t0);
    binds_added = sym (append-nil b0);
    keeps = keeps;
    named = λ y. or_false (bound_names (bound ++ b0) y) ∙ ap (λ t. bound_names (bound ++ b0) y || t) (unnamed y);
    found = λ first le f. f;
    count = 0;
    drawn = omega arith;
    light = omega arith;
    variables = refl;
    shallow = shallow;
    lowered = low;
    built = refl;
    sizes = λ vs fs. tt;
  }

  pub int_lowers : (p : Place) (i : ℤ) → AreBelow n0 (bound ++ b0) → IsInRange i → LowersPattern (tree p (from.int i)) bound n0 t0 b0 n0 t0 b0 (to.pat_lit (to.int i))
  int_lowers p i below range = leaf_lowers _ _ (int_keeps n0 (bound ++ b0) p i below) (λ y. refl) (omega arith) (λ texts of. ((tt, ((tt, (tt, tt)), tt)), (tt, ((tt, (range, tt)), tt))))

  pub atom_lowers : (p : Place) (n : Name) → AreBelow n0 (bound ++ b0) → LowersPattern (tree p (from.atom n)) bound n0 t0 b0 n0 t0 b0 (to.pat_lit (to.atom n))
  atom_lowers p n below = leaf_lowers _ _ (atom_keeps n0 (bound ++ b0) p n below) (λ y. refl) (omega arith) (λ texts of. ((tt, ((tt, (tt, tt)), tt)), (tt, ((tt, (tt, of)), tt))))

  variable_low : n0 < most_variables → (texts : Texts) → PatHolds (lowered texts) (to.pat_var (Numbered n0))
  variable_low range texts = ((tt, ((tt, (tt, tt)), tt)), (tt, ((tt, (omega arith, tt)), tt)))

  pub any_lowers : (p : Place) → AreBelow n0 (bound ++ b0) → n0 < most_variables → LowersPattern (tree p from.any) bound n0 t0 b0 (n0 + 1) t0 b0 (to.pat_var (Numbered n0))
  any_lowers p below range = record {
    tests = [];
    binds = [];
    tests_added = sym (append-nil t0);
    binds_added = sym (append-nil b0);
    keeps = any_keeps n0 (bound ++ b0) p below;
    named = λ y. or_false (bound_names (bound ++ b0) y);
    found = λ first le f. found_none bound first n0 t0 b0 le f;
    count = 1;
    drawn = refl;
    light = omega arith;
    variables = refl;
    shallow = omega arith;
    lowered = λ texts of. variable_low range texts;
    built = refl;
    sizes = λ vs fs. tt;
  }

  pub bound_lowers : (p : Place) (x : Name) (z : CoreVar) → AreBelow n0 (bound ++ b0) → n0 < most_variables → held (bound ++ b0) x ≡ Some z
      → LowersPattern (tree p (from.var x)) bound n0 t0 b0 (n0 + 1) (t0 ++ record { left = Numbered n0; right = z } ∷ []) b0 (to.pat_var (Numbered n0))
  bound_lowers p x z below range is = record {
    tests = record { left = Numbered n0; right = z } ∷ [];
    binds = [];
    tests_added = refl;
    binds_added = sym (append-nil b0);
    keeps = bound_keeps n0 (bound ++ b0) p x z below is;
    named = λ y. names_held (bound ++ b0) x z y is;
    found = λ first le f. found_test bound first n0 t0 b0 x z is le f;
    count = 1;
    drawn = refl;
    light = omega arith;
    variables = refl;
    shallow = omega arith;
    lowered = λ texts of. variable_low range texts;
    built = refl;
    sizes = λ vs fs. tt;
  }

  pub name_lowers : (p : Place) (x : Name) → AreBelow n0 (bound ++ b0) → n0 < most_variables → held (bound ++ b0) x ≡ None
      → LowersPattern (tree p (from.var x)) bound n0 t0 b0 (n0 + 1) t0 (b0 ++ bind x (Numbered n0) ∷ []) (to.pat_var (Numbered n0))
  name_lowers p x below range free = record {
    tests = [];
    binds = bind x (Numbered n0) ∷ [];
    tests_added = sym (append-nil t0);
    binds_added = refl;
    keeps = name_keeps n0 (bound ++ b0) p x below free;
    named = λ y.
        ap (λ l. bound_names l y) (sym (append_assoc bound b0 (bind x (Numbered n0) ∷ []))) ∙ names_append (bound ++ b0) (bind x (Numbered n0) ∷ []) y
        ∙ ap (λ t. bound_names (bound ++ b0) y || t) (sym (or_false (x.index == y)));
    found = λ first le f. found_name bound first n0 t0 b0 x free le f;
    count = 1;
    drawn = refl;
    light = omega arith;
    variables = refl;
    shallow = omega arith;
    lowered = λ texts of. variable_low range texts;
    built = refl;
    sizes = λ vs fs. tt;
  }

  -- the variable of a name, by what is held
  pub noted_lowers : (p : Place) (x : Name) (t1 : List Test) (b1 : List Bind) → AreBelow n0 (bound ++ b0) → n0 < most_variables → Notes (held (bound ++ b0) x) x (Numbered n0) t0 b0 t1 b1
      → LowersPattern (tree p (from.var x)) bound n0 t0 b0 (n0 + 1) t1 b1 (to.pat_var (Numbered n0))
  noted_lowers p x t1 b1 below range notes = by (held (bound ++ b0) x) refl notes
    where
      by : (o : Option CoreVar) → held (bound ++ b0) x ≡ o → Notes o x (Numbered n0) t0 b0 t1 b1 → LowersPattern (tree p (from.var x)) bound n0 t0 b0 (n0 + 1) t1 b1 (to.pat_var (Numbered n0))
      by (Some z) is n =
          subst (λ t. LowersPattern (tree p (from.var x)) bound n0 t0 b0 (n0 + 1) t b1 (to.pat_var (Numbered n0))) (sym n.0)
          (subst (λ b. LowersPattern (tree p (from.var x)) bound n0 t0 b0 (n0 + 1) (t0 ++ record { left = Numbered n0; right = z } ∷ []) b (to.pat_var (Numbered n0))) (sym n.1) (bound_lowers p x z below range is))
      by None is n =
          subst (λ t. LowersPattern (tree p (from.var x)) bound n0 t0 b0 (n0 + 1) t b1 (to.pat_var (Numbered n0))) (sym n.0)
          (subst (λ b. LowersPattern (tree p (from.var x)) bound n0 t0 b0 (n0 + 1) t0 b (to.pat_var (Numbered n0))) (sym n.1) (name_lowers p x below range is))

  pub none_lower : AreBelow n0 (bound ++ b0) → LowersItems [] bound n0 t0 b0 n0 t0 b0 []
  none_lower below = record {
    tests = [];
    binds = [];
    tests_added = sym (append-nil t0);
    binds_added = sym (append-nil b0);
    keeps = no_items_keep n0 (bound ++ b0) below;
    named = λ y. or_false (bound_names (bound ++ b0) y);
    found = λ first le f. f;
    number = refl;
    count = 0;
    drawn = omega arith;
    light = omega arith;
    variables = refl;
    shallow = omega arith;
    lowered = λ texts of. tt;
    built = refl;
    sizes = λ vs fs. tt;
  }

-- ---- one more

names_more : (es : List Tree) (e : Tree) (y : ℕ) → all_names (trees (es ++ e ∷ [])) y ≡ (all_names (trees es) y || names e y)
names_more [] e y = sym (by (names e y))
  where
    by : (b : Bool) → (false || b) ≡ (b || false)
    by true = refl
    by false = refl
names_more (x ∷ es) e y = ap (λ t. names x y || t) (names_more es e y) ∙ sym (or_assoc (names x y) (all_names (trees es) y) (names e y))

weight_more : (es : List Tree) (e : Tree) → all_weight (trees (es ++ e ∷ [])) ≡ all_weight (trees es) + weight e
weight_more [] e = omega arith
weight_more (x ∷ es) e = let rest = weight_more es e in omega arith

depth_more : (es : List Tree) (e : Tree) → all_depth (trees (es ++ e ∷ [])) ≡ max (all_depth (trees es)) (depth e)
depth_more [] e = omega arith
depth_more (x ∷ es) e = let rest = depth_more es e in omega arith

pats_depth_more : (ps : List PatTree) (p : PatTree) → pats_depth (pats (ps ++ p ∷ [])) ≡ max (pats_depth (pats ps)) (pat_depth p)
pats_depth_more [] p = omega arith
pats_depth_more (q ∷ ps) p = let rest = pats_depth_more ps p in omega arith

vars_more : (ps : List PatTree) (p : PatTree) → pats_vars (pats (ps ++ p ∷ [])) ≡ pats_vars (pats ps) ++ pat_vars p
vars_more [] p = append-nil (pat_vars p)
vars_more (q ∷ ps) p = ap (λ l. pat_vars q ++ l) (vars_more ps p) ∙ sym (append_assoc (pat_vars q) (pats_vars (pats ps)) (pat_vars p))

module _ (texts : Texts) where
  of_front : (es : List Tree) (e : Tree) → TreesOf texts (trees (es ++ e ∷ [])) → TreesOf texts (trees es) × TreeOf texts e
  of_front [] e of = (tt, of.0)
  of_front (x ∷ es) e of = let rest = of_front es e of.1 in ((of.0, rest.0), rest.1)

  hold_more : (ps : List PatTree) (p : PatTree) → PatsHold (lowered texts) (pats ps) → PatHolds (lowered texts) p → PatsHold (lowered texts) (pats (ps ++ p ∷ []))
  hold_more [] p all one = (one, tt)
  hold_more (q ∷ ps) p all one = (all.0, hold_more ps p all.1 one)

built_more : (ps : List PatTree) (p : PatTree) → are_built (pats ps) ≡ true → is_built p ≡ true → are_built (pats (ps ++ p ∷ [])) ≡ true
built_more [] p all one = and_from (is_built p) true one refl
built_more (q ∷ ps) p all one =
    let parts = and_parts (is_built q) (are_built (pats ps)) all in
    and_from (is_built q) (are_built (pats (ps ++ p ∷ []))) parts.0 (built_more ps p parts.1 one)

sizes_more : (vs : List CoreVar) (fs : List FName) (ps : List PatTree) (p : PatTree) → SizesInScope vs fs (pats ps) → SizeInScope vs fs p → SizesInScope vs fs (pats (ps ++ p ∷ []))
sizes_more vs fs [] p all one = (one, tt)
sizes_more vs fs (q ∷ ps) p all one = (all.0, sizes_more vs fs ps p all.1 one)

module _ (bound : List Bind) (n0 : ℕ) (t0 : List Test) (b0 : List Bind) where
  -- what is known in the environment behind
  known_behind : (binds b1 : List Bind) → b1 ≡ b0 ++ binds → bound ++ b1 ≡ (bound ++ b0) ++ binds
  known_behind binds b1 is = ap (λ l. bound ++ l) is ∙ sym (append_assoc bound b0 binds)

  pub more_lower : (es : List Tree) (e : Tree) (n1 : ℕ) (t1 : List Test) (b1 : List Bind) (ps : List PatTree) (n2 : ℕ) (t2 : List Test) (b2 : List Bind) (p : PatTree)
      → LowersItems es bound n0 t0 b0 n1 t1 b1 ps → LowersPattern e bound n1 t1 b1 n2 t2 b2 p → LowersItems (es ++ e ∷ []) bound n0 t0 b0 n2 t2 b2 (ps ++ p ∷ [])
  more_lower es e n1 t1 b1 ps n2 t2 b2 p all one = record {
    tests = all.tests ++ one.tests;
    binds = all.binds ++ one.binds;
    tests_added = one.tests_added ∙ ap (λ l. l ++ one.tests) all.tests_added ∙ append_assoc t0 all.tests one.tests;
    binds_added = one.binds_added ∙ ap (λ l. l ++ one.binds) all.binds_added ∙ append_assoc b0 all.binds one.binds;
    keeps = items_more es e n0 (bound ++ b0) ps p all.tests n1 all.binds one.tests n2 one.binds all.keeps
        (subst (λ env. KeepsPattern e n1 env p one.tests n2 one.binds) (known_behind all.binds b1 all.binds_added) one.keeps);
    named = λ y.
        one.named y ∙ ap (λ t. t || names e y) (all.named y) ∙ or_assoc (bound_names (bound ++ b0) y) (all_names (trees es) y) (names e y)
        ∙ ap (λ t. bound_names (bound ++ b0) y || t) (sym (names_more es e y));
    found = λ first le f. one.found first (let a = all.drawn in omega arith) (all.found first le f);
    number = length-append ps (p ∷ []) ∙ ap (λ n. n + 1) all.number ∙ sym (length-append es (e ∷ []));
    count = all.count + one.count;
    drawn = let a = all.drawn in let b = one.drawn in omega arith;
    light = let a = all.light in let b = one.light in let w = weight_more es e in omega arith;
    variables =
        vars_more ps p ∙ (λ i. all.variables i ++ one.variables i) ∙ ap (λ n. variables_from n0 all.count ++ variables_from n one.count) all.drawn
        ∙ row_append n0 all.count one.count;
    shallow = let a = all.shallow in let b = one.shallow in let d = depth_more es e in let c = pats_depth_more ps p in omega arith;
    lowered = λ texts of. let parts = of_front texts es e of in hold_more texts ps p (all.lowered texts parts.0) (one.lowered texts parts.1);
    built = built_more ps p all.built one.built;
    sizes = λ vs fs. sizes_more vs fs ps p (all.sizes vs fs) (one.sizes vs fs);
  }

-- ---- nodes

-- the parts of a node are lowered
abbrev pub PartsHold : Texts → PatTree → Type 0
PartsHold texts (to.pat_tuple ps) = PatsHold (lowered texts) ps
PartsHold texts (to.pat_list ps) = PatsHold (lowered texts) ps
PartsHold texts (to.pat_list_to ps p) = AreSomePats ps × PatsHold (lowered texts) ps × PatHolds (lowered texts) p
PartsHold texts _ = ⊥

module _ (texts : Texts) where
  node_holds : (p : PatTree) → NormalPat p → PartsHold texts p → PatHolds (lowered texts) p
  node_holds (to.pat_tuple ps) normal parts = ((tt, ((normal, (tt, tt)), tt)), parts)
  node_holds (to.pat_list ps) normal parts = ((tt, ((normal, (tt, tt)), tt)), parts)
  node_holds (to.pat_list_to ps p) normal parts = ((tt, ((normal, (parts.0, tt)), tt)), parts.1, parts.2)
  node_holds (to.pat_var x) normal parts = absurd parts
  node_holds (to.pat_lit l) normal parts = absurd parts
  node_holds (to.alias x p) normal parts = absurd parts
  node_holds (to.pat_bin ss) normal parts = absurd parts

  lits_hold : (ls : LitTrees) → PatsHold (lowered texts) (lit_pats ls) → LitsHold (lowered texts) ls
  lits_hold no_lits h = tt
  lits_hold (more_lits l ls) h = (h.0.1, lits_hold ls h.1)

  some_lits : (l : LitTree) (ls : LitTrees) → AreSomePats (lit_pats ls) → (lowered texts).literal (to.lit_list_to ls l)
  some_lits l no_lits h = absurd h
  some_lits l (more_lits k ls) h = (tt, ((tt, (tt, tt)), tt))

  said_holds : (p : PatTree) (l : LitTree) → Says p l → PartsHold texts p → PatHolds (lowered texts) (to.pat_lit l)
  said_holds (to.pat_tuple ps) (to.lit_tuple ls) is parts = ((tt, ((tt, (tt, tt)), tt)), ((tt, ((tt, (tt, tt)), tt)), lits_hold ls (subst (PatsHold (lowered texts)) is parts)))
  said_holds (to.pat_list ps) (to.lit_list ls) is parts = ((tt, ((tt, (tt, tt)), tt)), ((tt, ((tt, (tt, tt)), tt)), lits_hold ls (subst (PatsHold (lowered texts)) is parts)))
  said_holds (to.pat_list_to ps p) (to.lit_list_to ls l) is parts =
      ((tt, ((tt, (tt, tt)), tt)), (some_lits l ls (subst AreSomePats is.0 parts.0), lits_hold ls (subst (PatsHold (lowered texts)) is.0 parts.1), (subst (PatHolds (lowered texts)) is.1 parts.2).1))
  said_holds (to.pat_var x) l is parts = absurd parts
  said_holds (to.pat_lit k) l is parts = absurd parts
  said_holds (to.alias x p) l is parts = absurd parts
  said_holds (to.pat_bin ss) l is parts = absurd parts
  said_holds (to.pat_tuple ps) _ is parts = absurd is
  said_holds (to.pat_list ps) _ is parts = absurd is
  said_holds (to.pat_list_to ps p) _ is parts = absurd is

lits_deep : (ls : LitTrees) → pats_depth (lit_pats ls) ≡ lits_depth ls
lits_deep no_lits = refl
lits_deep (more_lits l ls) = ap (max (lit_depth l)) (lits_deep ls)

no_vars : (ls : LitTrees) → pats_vars (lit_pats ls) ≡ []
no_vars no_lits = refl
no_vars (more_lits l ls) = no_vars ls

said_deep : (p : PatTree) (l : LitTree) → Says p l → pat_depth p ≡ lit_depth l
said_deep (to.pat_tuple ps) (to.lit_tuple ls) is = ap (λ q. suc (pats_depth q)) is ∙ ap (λ n. suc n) (lits_deep ls)
said_deep (to.pat_list ps) (to.lit_list ls) is = ap (λ q. suc (pats_depth q)) is ∙ ap (λ n. suc n) (lits_deep ls)
said_deep (to.pat_list_to ps p) (to.lit_list_to ls l) is = (λ i. suc (max (pats_depth (is.0 i)) (pat_depth (is.1 i)))) ∙ ap (λ n. suc (max n (lit_depth l))) (lits_deep ls)
said_deep (to.pat_var x) l is = absurd is
said_deep (to.pat_lit k) l is = absurd is
said_deep (to.alias x p) l is = absurd is
said_deep (to.pat_bin ss) l is = absurd is
said_deep (to.pat_tuple ps) _ is = absurd is
said_deep (to.pat_list ps) _ is = absurd is
said_deep (to.pat_list_to ps p) _ is = absurd is

said_vars : (p : PatTree) (l : LitTree) → Says p l → pat_vars p ≡ []
said_vars (to.pat_tuple ps) (to.lit_tuple ls) is = ap pats_vars is ∙ no_vars ls
said_vars (to.pat_list ps) (to.lit_list ls) is = ap pats_vars is ∙ no_vars ls
said_vars (to.pat_list_to ps p) (to.lit_list_to ls l) is = (λ i. pats_vars (is.0 i) ++ pat_vars (is.1 i)) ∙ ap (λ vs. vs ++ []) (no_vars ls)
said_vars (to.pat_var x) l is = absurd is
said_vars (to.pat_lit k) l is = absurd is
said_vars (to.alias x p) l is = absurd is
said_vars (to.pat_bin ss) l is = absurd is
said_vars (to.pat_tuple ps) _ is = absurd is
said_vars (to.pat_list ps) _ is = absurd is
said_vars (to.pat_list_to ps p) _ is = absurd is

module _ (e : Tree) (bound : List Bind) (n0 : ℕ) (t0 : List Test) (b0 : List Bind) (n1 : ℕ) (t1 : List Test) (b1 : List Bind) where
  -- a node, or the literal that it says
  pub finish_lowers : (node p : PatTree) → Finishes node p → LowersTo PartsHold e bound n0 t0 b0 n1 t1 b1 node → LowersPattern e bound n0 t0 b0 n1 t1 b1 p
  finish_lowers node p (inl says) one = subst (LowersPattern e bound n0 t0 b0 n1 t1 b1) (sym says.2) (record {
    tests = one.tests;
    binds = one.binds;
    tests_added = one.tests_added;
    binds_added = one.binds_added;
    keeps = said_keeps e n0 (bound ++ b0) node says.0 one.tests n1 one.binds says.1 one.keeps;
    named = one.named;
    found = one.found;
    count = one.count;
    drawn = one.drawn;
    light = one.light;
    variables = sym (said_vars node says.0 says.1) ∙ one.variables;
    shallow = let d = said_deep node says.0 says.1 in let s = one.shallow in omega arith;
    lowered = λ texts of. said_holds texts node says.0 says.1 (one.lowered texts of);
    built = refl;
    sizes = λ vs fs. tt;
  })
  finish_lowers node p (inr normal) one = subst (LowersPattern e bound n0 t0 b0 n1 t1 b1) (sym normal.1) (record {
    tests = one.tests;
    binds = one.binds;
    tests_added = one.tests_added;
    binds_added = one.binds_added;
    keeps = one.keeps;
    named = one.named;
    found = one.found;
    count = one.count;
    drawn = one.drawn;
    light = one.light;
    variables = one.variables;
    shallow = one.shallow;
    lowered = λ texts of. node_holds texts node normal.0 (one.lowered texts of);
    built = one.built;
    sizes = one.sizes;
  })

module _ (pl : Place) (bound : List Bind) (n0 : ℕ) (t0 : List Test) (b0 : List Bind) (es : List Tree) (n1 : ℕ) (t1 : List Test) (b1 : List Bind) (ps : List PatTree) (all : LowersItems es bound n0 t0 b0 n1 t1 b1 ps) where
  pub tuple_lowers : (p : PatTree) → Finishes (to.pat_tuple (pats ps)) p → LowersPattern (tree pl (from.tuple (trees es))) bound n0 t0 b0 n1 t1 b1 p
  tuple_lowers p done = finish_lowers _ bound n0 t0 b0 n1 t1 b1 (to.pat_tuple (pats ps)) p done (record {
    tests = all.tests;
    binds = all.binds;
    tests_added = all.tests_added;
    binds_added = all.binds_added;
    keeps = tuple_keeps pl es n0 (bound ++ b0) ps all.tests n1 all.binds all.keeps;
    named = all.named;
    found = all.found;
    count = all.count;
    drawn = all.drawn;
    light = let l = all.light in omega arith;
    variables = all.variables;
    shallow = let s = all.shallow in omega arith;
    lowered = all.lowered;
    built = all.built;
    sizes = all.sizes;
  })

  pub list_lowers : (p : PatTree) → Finishes (to.pat_list (pats ps)) p → LowersPattern (tree pl (from.list (trees es))) bound n0 t0 b0 n1 t1 b1 p
  list_lowers p done = finish_lowers _ bound n0 t0 b0 n1 t1 b1 (to.pat_list (pats ps)) p done (record {
    tests = all.tests;
    binds = all.binds;
    tests_added = all.tests_added;
    binds_added = all.binds_added;
    keeps = list_keeps pl es n0 (bound ++ b0) ps all.tests n1 all.binds all.keeps;
    named = all.named;
    found = all.found;
    count = all.count;
    drawn = all.drawn;
    light = let l = all.light in omega arith;
    variables = all.variables;
    shallow = let s = all.shallow in omega arith;
    lowered = all.lowered;
    built = all.built;
    sizes = all.sizes;
  })

  -- the items are there, and then the tail
  list_and_tail : (e : Tree) (n2 : ℕ) (t2 : List Test) (b2 : List Bind) (q : PatTree) → LowersPattern e bound n1 t1 b1 n2 t2 b2 q → AreSomePats (pats ps)
      → LowersTo PartsHold (tree pl (from.list_to (trees es) e)) bound n0 t0 b0 n2 t2 b2 (to.pat_list_to (pats ps) q)
  list_and_tail e n2 t2 b2 q one some = record {
    tests = all.tests ++ one.tests;
    binds = all.binds ++ one.binds;
    tests_added = one.tests_added ∙ ap (λ l. l ++ one.tests) all.tests_added ∙ append_assoc t0 all.tests one.tests;
    binds_added = one.binds_added ∙ ap (λ l. l ++ one.binds) all.binds_added ∙ append_assoc b0 all.binds one.binds;
    keeps = list_to_keeps pl es e n0 (bound ++ b0) ps q all.tests n1 all.binds one.tests n2 one.binds all.keeps
        (subst (λ env. KeepsPattern e n1 env q one.tests n2 one.binds) (known_behind bound n0 t0 b0 all.binds b1 all.binds_added) one.keeps);
    named = λ y. one.named y ∙ ap (λ t. t || names e y) (all.named y) ∙ or_assoc (bound_names (bound ++ b0) y) (all_names (trees es) y) (names e y);
    found = λ first le f. one.found first (let a = all.drawn in omega arith) (all.found first le f);
    count = all.count + one.count;
    drawn = let a = all.drawn in let b = one.drawn in omega arith;
    light = let a = all.light in let b = one.light in omega arith;
    variables =
        (λ i. all.variables i ++ one.variables i) ∙ ap (λ n. variables_from n0 all.count ++ variables_from n one.count) all.drawn
        ∙ row_append n0 all.count one.count;
    shallow = let a = all.shallow in let b = one.shallow in omega arith;
    lowered = λ texts of. (some, all.lowered texts of.0, one.lowered texts of.1);
    built = and_from (are_built (pats ps)) (is_built q) all.built one.built;
    sizes = λ vs fs. (all.sizes vs fs, one.sizes vs fs);
  }

pub list_to_lowers : (pl : Place) (bound : List Bind) (n0 : ℕ) (t0 : List Test) (b0 : List Bind) (es : List Tree) (n1 : ℕ) (t1 : List Test) (b1 : List Bind) (ps : List PatTree) → LowersItems es bound n0 t0 b0 n1 t1 b1 ps
    → (e : Tree) (n2 : ℕ) (t2 : List Test) (b2 : List Bind) (q : PatTree) → LowersPattern e bound n1 t1 b1 n2 t2 b2 q → (p : PatTree) → FinishesTo (pats ps) q p → LowersPattern (tree pl (from.list_to (trees es) e)) bound n0 t0 b0 n2 t2 b2 p
list_to_lowers pl bound n0 t0 b0 es n1 t1 b1 (x ∷ ps) all e n2 t2 b2 q one p done =
    finish_lowers _ bound n0 t0 b0 n2 t2 b2 (to.pat_list_to (pats (x ∷ ps)) q) p done (list_and_tail pl bound n0 t0 b0 es n1 t1 b1 (x ∷ ps) all e n2 t2 b2 q one tt)
list_to_lowers pl bound n0 t0 b0 es n1 t1 b1 [] all e n2 t2 b2 q one p done =
    let both = list_to_keeps pl es e n0 (bound ++ b0) [] q all.tests n1 all.binds one.tests n2 one.binds all.keeps
    (subst (λ env. KeepsPattern e n1 env q one.tests n2 one.binds) (known_behind bound n0 t0 b0 all.binds b1 all.binds_added) one.keeps) in
    subst (LowersPattern (tree pl (from.list_to (trees es) e)) bound n0 t0 b0 n2 t2 b2) (sym done) (record {
      tests = all.tests ++ one.tests;
      binds = all.binds ++ one.binds;
      tests_added = one.tests_added ∙ ap (λ l. l ++ one.tests) all.tests_added ∙ append_assoc t0 all.tests one.tests;
      binds_added = one.binds_added ∙ ap (λ l. l ++ one.binds) all.binds_added ∙ append_assoc b0 all.binds one.binds;
      keeps = record { drawn = both.drawn; below = both.below; tests_below = both.tests_below; agree = both.agree; decided = both.decided; keeps = both.keeps };
      named = λ y. one.named y ∙ ap (λ t. t || names e y) (all.named y) ∙ or_assoc (bound_names (bound ++ b0) y) (all_names (trees es) y) (names e y);
      found = λ first le f. one.found first (let a = all.drawn in omega arith) (all.found first le f);
      count = all.count + one.count;
      drawn = let a = all.drawn in let b = one.drawn in omega arith;
      light = let a = all.light in let b = one.light in omega arith;
      variables =
          (λ i. all.variables i ++ one.variables i) ∙ ap (λ n. variables_from n0 all.count ++ variables_from n one.count) all.drawn
          ∙ row_append n0 all.count one.count;
      shallow = let b = one.shallow in omega arith;
      lowered = λ texts of. one.lowered texts of.1;
      built = one.built;
      sizes = λ vs fs. one.sizes vs fs;
    })

-- the variables of all names that are known afterwards are below the last
pub items_below : (es : List Tree) (bound : List Bind) (n0 : ℕ) (t0 : List Test) (b0 : List Bind) (n1 : ℕ) (t1 : List Test) (b1 : List Bind) (ps : List PatTree) → LowersItems es bound n0 t0 b0 n1 t1 b1 ps → AreBelow n1 (bound ++ b1)
items_below es bound n0 t0 b0 n1 t1 b1 ps all = subst (AreBelow n1) (sym (known_behind bound n0 t0 b0 all.binds b1 all.binds_added)) all.keeps.below
