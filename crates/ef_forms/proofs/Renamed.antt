-- Trees under other names, and that a tree that stays the same where other names than those of a table change has only those.
use Rattle.std.proofs.Common.{◌≡◌, ◌+◌, Bool, true, false, cond, List, [], ◌∷◌, Option, Some, None, refl, ap, map, length, ltb, arith}
use Rattle.std.specs.Prelude.{IfSome}
use Rattle.std.specs.Option.{option_map}
use Rattle.std.proofs.lemmas.Bool.{ltb-true, ltb-false, lt-ltb}
use Rattle.ef_base.specs.declared.name.Name.{Name}
use Rattle.ef_base.specs.Texts.{Texts, HasName}
use Rattle.ef_forms.specs.declared.expr.ClassPart.{ClassPart}
use Rattle.ef_forms.specs.declared.expr.ClassPart.TheVariants as class
use Rattle.ef_forms.specs.declared.expr.TypeWord.{TypeWord}
use Rattle.ef_forms.specs.declared.form.FunctionRef.{FunctionRef}
use Rattle.ef_forms.specs.declared.tables.FunctionName.{FunctionName}
use Rattle.ef_forms.specs.Tree.{Tree, Shape, Trees, Guards, Clauses, MaybeClauses, MaybeTrees, Catches, Segments, Fields, Steps, Qualifiers, FieldTree, RecordTree, FunctionTree, FormTree, PlacedTree, ModuleTree, tree, int, character, string, atom, var, any, list, list_to, tuple, binary, unary, operation, and_also, or_else, matching, catching, call, remote, record_new, record_update, record_field, record_index, block, if_of, case_of, receive_of, receive_after, try_of, maybe, list_comp, bin_comp, fun_local, fun_remote, fun_of, named_fun, end, more, no_guard, or_guard, no_clauses, clause, left_out, these, absent, present, no_catches, catches, no_segments, segment, sized, no_fields, field, no_steps, step, step_to, no_qualifiers, list_from, bits_from, filter, module_name, export, import, record_of, attribute, dropped, export_all, function}
use Rattle.ef_forms.specs.Plain.{ClauseTree, trees, guards, clauses}
use Rattle.ef_forms.specs.OfTable.{ClassOf, WordsOf, TreeOf, ShapeOf, TreesOf, GuardsOf, ClausesOf, MaybeClausesOf, MaybeTreesOf, CatchesOf, SegmentsOf, FieldsOf, StepsOf, QualifiersOf, FunctionOf, ReferencesOf, FieldTreesOf, RecordOf, FormOf, FormsOf, ModuleOf}

module _ (r : Name → Name) where
  abbrev pub renamed_class : ClassPart → ClassPart
  renamed_class class.LeftOut = class.LeftOut
  renamed_class (class.Atom n) = class.Atom (r n)
  renamed_class (class.Var n) = class.Var (r n)
  renamed_class class.Any = class.Any

  abbrev pub renamed_word : TypeWord → TypeWord
  renamed_word w = record { name = r w.name; number = w.number }

  abbrev mutual
    pub renamed_tree : Tree → Tree
    renamed_tree (tree p e) = tree p (renamed_shape e)

    pub renamed_shape : Shape → Shape
    renamed_shape (int i) = int i
    renamed_shape (character c) = character c
    renamed_shape (string cs) = string cs
    renamed_shape (atom n) = atom (r n)
    renamed_shape (var n) = var (r n)
    renamed_shape any = any
    renamed_shape (list es) = list (renamed_all es)
    renamed_shape (list_to es e) = list_to (renamed_all es) (renamed_tree e)
    renamed_shape (tuple es) = tuple (renamed_all es)
    renamed_shape (binary ss) = binary (renamed_segments ss)
    renamed_shape (unary o e) = unary o (renamed_tree e)
    renamed_shape (operation o e f) = operation o (renamed_tree e) (renamed_tree f)
    renamed_shape (and_also e f) = and_also (renamed_tree e) (renamed_tree f)
    renamed_shape (or_else e f) = or_else (renamed_tree e) (renamed_tree f)
    renamed_shape (matching p e) = matching (renamed_tree p) (renamed_tree e)
    renamed_shape (catching e) = catching (renamed_tree e)
    renamed_shape (call f es) = call (renamed_tree f) (renamed_all es)
    renamed_shape (remote m f es) = remote (renamed_tree m) (renamed_tree f) (renamed_all es)
    renamed_shape (record_new n fs) = record_new (r n) (renamed_fields fs)
    renamed_shape (record_update e n fs) = record_update (renamed_tree e) (r n) (renamed_fields fs)
    renamed_shape (record_field e n f) = record_field (renamed_tree e) (r n) (r f)
    renamed_shape (record_index n f) = record_index (r n) (r f)
    renamed_shape (block es) = block (renamed_all es)
    renamed_shape (if_of cs) = if_of (renamed_clauses cs)
    renamed_shape (case_of e cs) = case_of (renamed_tree e) (renamed_clauses cs)
    renamed_shape (receive_of cs) = receive_of (renamed_clauses cs)
    renamed_shape (receive_after cs e es) = receive_after (renamed_clauses cs) (renamed_tree e) (renamed_all es)
    renamed_shape (try_of es cs ks after) = try_of (renamed_all es) (renamed_maybe_clauses cs) (renamed_catches ks) (renamed_maybe_trees after)
    renamed_shape (maybe ss cs) = maybe (renamed_steps ss) (renamed_maybe_clauses cs)
    renamed_shape (list_comp e qs) = list_comp (renamed_tree e) (renamed_qualifiers qs)
    renamed_shape (bin_comp e qs) = bin_comp (renamed_tree e) (renamed_qualifiers qs)
    renamed_shape (fun_local n a) = fun_local (r n) a
    renamed_shape (fun_remote m f a) = fun_remote (renamed_tree m) (renamed_tree f) (renamed_tree a)
    renamed_shape (fun_of cs) = fun_of (renamed_clauses cs)
    renamed_shape (named_fun n cs) = named_fun (r n) (renamed_clauses cs)

    pub renamed_all : Trees → Trees
    renamed_all end = end
    renamed_all (more e es) = more (renamed_tree e) (renamed_all es)

    pub renamed_guards : Guards → Guards
    renamed_guards no_guard = no_guard
    renamed_guards (or_guard es gs) = or_guard (renamed_all es) (renamed_guards gs)

    pub renamed_clauses : Clauses → Clauses
    renamed_clauses no_clauses = no_clauses
    renamed_clauses (clause p ps g body cs) = clause p (renamed_all ps) (renamed_guards g) (renamed_all body) (renamed_clauses cs)

    pub renamed_maybe_clauses : MaybeClauses → MaybeClauses
    renamed_maybe_clauses left_out = left_out
    renamed_maybe_clauses (these cs) = these (renamed_clauses cs)

    pub renamed_maybe_trees : MaybeTrees → MaybeTrees
    renamed_maybe_trees absent = absent
    renamed_maybe_trees (present es) = present (renamed_all es)

    pub renamed_catches : Catches → Catches
    renamed_catches no_catches = no_catches
    renamed_catches (catches p class e trace g body ks) = catches p (renamed_class class) (renamed_tree e) (option_map r trace) (renamed_guards g) (renamed_all body) (renamed_catches ks)

    pub renamed_segments : Segments → Segments
    renamed_segments no_segments = no_segments
    renamed_segments (segment p e ws ss) = segment p (renamed_tree e) (map renamed_word ws) (renamed_segments ss)
    renamed_segments (sized p e n ws ss) = sized p (renamed_tree e) (renamed_tree n) (map renamed_word ws) (renamed_segments ss)

    pub renamed_fields : Fields → Fields
    renamed_fields no_fields = no_fields
    renamed_fields (field p n e fs) = field p (option_map r n) (renamed_tree e) (renamed_fields fs)

    pub renamed_steps : Steps → Steps
    renamed_steps no_steps = no_steps
    renamed_steps (step e ss) = step (renamed_tree e) (renamed_steps ss)
    renamed_steps (step_to p e ss) = step_to (renamed_tree p) (renamed_tree e) (renamed_steps ss)

    pub renamed_qualifiers : Qualifiers → Qualifiers
    renamed_qualifiers no_qualifiers = no_qualifiers
    renamed_qualifiers (list_from p e strict qs) = list_from (renamed_tree p) (renamed_tree e) strict (renamed_qualifiers qs)
    renamed_qualifiers (bits_from p e strict qs) = bits_from (renamed_tree p) (renamed_tree e) strict (renamed_qualifiers qs)
    renamed_qualifiers (filter e qs) = filter (renamed_tree e) (renamed_qualifiers qs)

  abbrev pub renamed_function : FunctionTree → FunctionTree
  renamed_function f = record { place = f.place; name = r f.name; arity = f.arity; clauses = renamed_clauses f.clauses }

  abbrev pub renamed_reference : FunctionRef → FunctionRef
  renamed_reference f = record { place = f.place; name = r f.name; arity = f.arity }

  abbrev pub renamed_key : FunctionName → FunctionName
  renamed_key f = record { name = r f.name; arity = f.arity }

  abbrev pub renamed_field_tree : FieldTree → FieldTree
  renamed_field_tree f = record { place = f.place; name = r f.name; default = option_map renamed_tree f.default }

  abbrev pub renamed_record : RecordTree → RecordTree
  renamed_record d = record { place = d.place; name = r d.name; fields = map renamed_field_tree d.fields }

  abbrev pub renamed_form : FormTree → FormTree
  renamed_form (module_name n) = module_name (r n)
  renamed_form (export fs) = export (map renamed_reference fs)
  renamed_form (import m fs) = import (r m) (map renamed_reference fs)
  renamed_form (record_of d) = record_of (renamed_record d)
  renamed_form (attribute n e) = attribute (r n) (renamed_tree e)
  renamed_form dropped = dropped
  renamed_form export_all = export_all
  renamed_form (function f) = function (renamed_function f)

  abbrev pub renamed_placed : PlacedTree → PlacedTree
  renamed_placed f = record { place = f.place; form = renamed_form f.form }

  abbrev pub renamed_module : ModuleTree → ModuleTree
  renamed_module m = record { name = r m.name; forms = map renamed_placed m.forms }

  -- ---- lists

  abbrev pub renamed_tests : List (List Tree) → List (List Tree)
  renamed_tests gs = map (λ es. map renamed_tree es) gs

  -- one clause
  abbrev pub renamed_clause : ClauseTree → ClauseTree
  renamed_clause c = record { place = c.place; patterns = map renamed_tree c.patterns; guard = renamed_tests c.guard; body = map renamed_tree c.body }

  pub trees_stay : (es : List Tree) → trees (map renamed_tree es) ≡ renamed_all (trees es)
  trees_stay [] = refl
  trees_stay (e ∷ es) = ap (more (renamed_tree e)) (trees_stay es)

  pub guards_stay : (gs : List (List Tree)) → guards (renamed_tests gs) ≡ renamed_guards (guards gs)
  guards_stay [] = refl
  guards_stay (es ∷ gs) = rw (trees_stay es, guards_stay gs) refl

  pub clauses_stay : (cs : List ClauseTree) → clauses (map renamed_clause cs) ≡ renamed_clauses (clauses cs)
  clauses_stay [] = refl
  clauses_stay (c ∷ cs) = rw (trees_stay c.patterns, guards_stay c.guard, trees_stay c.body, clauses_stay cs) refl

-- ---- what stays the same, where only the names of the table do

module _ (all : Texts) (r : Name → Name) (own : (n : Name) → r n ≡ n → HasName all n) where
  own_if : (n : Option Name) → option_map r n ≡ n → IfSome n (HasName all)
  own_if None e = tt
  own_if (Some n) e = own n (cc)

  own_class : (k : ClassPart) → renamed_class r k ≡ k → ClassOf all k
  own_class class.LeftOut e = tt
  own_class (class.Atom n) e = own n (cc)
  own_class (class.Var n) e = own n (cc)
  own_class class.Any e = tt

  own_words : (ws : List TypeWord) → map (renamed_word r) ws ≡ ws → WordsOf all ws
  own_words [] e = tt
  own_words (w ∷ ws) e = (own w.name (ap (λ z. z.name) (let h : renamed_word r w ≡ w = cc in h)), own_words ws (cc))

  mutual
    pub own_tree : (e : Tree) → renamed_tree r e ≡ e → TreeOf all e
    own_tree (tree p e) q = own_shape e (cc)

    pub own_shape : (e : Shape) → renamed_shape r e ≡ e → ShapeOf all e
    own_shape (int i) q = tt
    own_shape (character c) q = tt
    own_shape (string cs) q = tt
    own_shape (atom n) q = own n (cc)
    own_shape (var n) q = own n (cc)
    own_shape any q = tt
    own_shape (list es) q = own_trees es (cc)
    own_shape (list_to es e) q = (own_trees es (cc), own_tree e (cc))
    own_shape (tuple es) q = own_trees es (cc)
    own_shape (binary ss) q = own_segments ss (cc)
    own_shape (unary o e) q = own_tree e (cc)
    own_shape (operation o e f) q = (own_tree e (cc), own_tree f (cc))
    own_shape (and_also e f) q = (own_tree e (cc), own_tree f (cc))
    own_shape (or_else e f) q = (own_tree e (cc), own_tree f (cc))
    own_shape (matching e f) q = (own_tree e (cc), own_tree f (cc))
    own_shape (catching e) q = own_tree e (cc)
    own_shape (call f es) q = (own_tree f (cc), own_trees es (cc))
    own_shape (remote m f es) q = (own_tree m (cc), own_tree f (cc), own_trees es (cc))
    own_shape (record_new n fs) q = (own n (cc), own_fields fs (cc))
    own_shape (record_update e n fs) q = (own_tree e (cc), own n (cc), own_fields fs (cc))
    own_shape (record_field e n f) q = (own_tree e (cc), own n (cc), own f (cc))
    own_shape (record_index n f) q = (own n (cc), own f (cc))
    own_shape (block es) q = own_trees es (cc)
    own_shape (if_of cs) q = own_clauses cs (cc)
    own_shape (case_of e cs) q = (own_tree e (cc), own_clauses cs (cc))
    own_shape (receive_of cs) q = own_clauses cs (cc)
    own_shape (receive_after cs e es) q = (own_clauses cs (cc), own_tree e (cc), own_trees es (cc))
    own_shape (try_of es cs ks after) q = (own_trees es (cc), own_maybe_clauses cs (cc), own_catches ks (cc), own_maybe_trees after (cc))
    own_shape (maybe ss cs) q = (own_steps ss (cc), own_maybe_clauses cs (cc))
    own_shape (list_comp e qs) q = (own_tree e (cc), own_qualifiers qs (cc))
    own_shape (bin_comp e qs) q = (own_tree e (cc), own_qualifiers qs (cc))
    own_shape (fun_local n a) q = own n (cc)
    own_shape (fun_remote m f a) q = (own_tree m (cc), own_tree f (cc), own_tree a (cc))
    own_shape (fun_of cs) q = own_clauses cs (cc)
    own_shape (named_fun n cs) q = (own n (cc), own_clauses cs (cc))

    pub own_trees : (es : Trees) → renamed_all r es ≡ es → TreesOf all es
    own_trees end q = tt
    own_trees (more e es) q = (own_tree e (cc), own_trees es (cc))

    pub own_guards : (gs : Guards) → renamed_guards r gs ≡ gs → GuardsOf all gs
    own_guards no_guard q = tt
    own_guards (or_guard es gs) q = (own_trees es (cc), own_guards gs (cc))

    pub own_clauses : (cs : Clauses) → renamed_clauses r cs ≡ cs → ClausesOf all cs
    own_clauses no_clauses q = tt
    own_clauses (clause p ps g body cs) q = (own_trees ps (cc), own_guards g (cc), own_trees body (cc), own_clauses cs (cc))

    pub own_maybe_clauses : (cs : MaybeClauses) → renamed_maybe_clauses r cs ≡ cs → MaybeClausesOf all cs
    own_maybe_clauses left_out q = tt
    own_maybe_clauses (these cs) q = own_clauses cs (cc)

    pub own_maybe_trees : (es : MaybeTrees) → renamed_maybe_trees r es ≡ es → MaybeTreesOf all es
    own_maybe_trees absent q = tt
    own_maybe_trees (present es) q = own_trees es (cc)

    pub own_catches : (ks : Catches) → renamed_catches r ks ≡ ks → CatchesOf all ks
    own_catches no_catches q = tt
    own_catches (catches p class e trace g body ks) q = (own_class class (cc), own_tree e (cc), own_if trace (cc), own_guards g (cc), own_trees body (cc), own_catches ks (cc))

    pub own_segments : (ss : Segments) → renamed_segments r ss ≡ ss → SegmentsOf all ss
    own_segments no_segments q = tt
    own_segments (segment p e ws ss) q = (own_tree e (cc), own_words ws (cc), own_segments ss (cc))
    own_segments (sized p e n ws ss) q = (own_tree e (cc), own_tree n (cc), own_words ws (cc), own_segments ss (cc))

    pub own_fields : (fs : Fields) → renamed_fields r fs ≡ fs → FieldsOf all fs
    own_fields no_fields q = tt
    own_fields (field p n e fs) q = (own_if n (cc), own_tree e (cc), own_fields fs (cc))

    pub own_steps : (ss : Steps) → renamed_steps r ss ≡ ss → StepsOf all ss
    own_steps no_steps q = tt
    own_steps (step e ss) q = (own_tree e (cc), own_steps ss (cc))
    own_steps (step_to p e ss) q = (own_tree p (cc), own_tree e (cc), own_steps ss (cc))

    pub own_qualifiers : (qs : Qualifiers) → renamed_qualifiers r qs ≡ qs → QualifiersOf all qs
    own_qualifiers no_qualifiers q = tt
    own_qualifiers (list_from p e strict qs) q = (own_tree p (cc), own_tree e (cc), own_qualifiers qs (cc))
    own_qualifiers (bits_from p e strict qs) q = (own_tree p (cc), own_tree e (cc), own_qualifiers qs (cc))
    own_qualifiers (filter e qs) q = (own_tree e (cc), own_qualifiers qs (cc))

  pub own_function : (f : FunctionTree) → renamed_function r f ≡ f → FunctionOf all f
  own_function f q = (own f.name (ap (λ z. z.name) q), own_clauses f.clauses (ap (λ z. z.clauses) q))

  pub own_references : (fs : List FunctionRef) → map (renamed_reference r) fs ≡ fs → ReferencesOf all fs
  own_references [] q = tt
  own_references (f ∷ fs) q = (own f.name (ap (λ z. z.name) (let h : renamed_reference r f ≡ f = cc in h)), own_references fs (cc))

  own_default : (e : Option Tree) → option_map (renamed_tree r) e ≡ e → IfSome e (TreeOf all)
  own_default None q = tt
  own_default (Some e) q = own_tree e (cc)

  pub own_field_trees : (fs : List FieldTree) → map (renamed_field_tree r) fs ≡ fs → FieldTreesOf all fs
  own_field_trees [] q = tt
  own_field_trees (f ∷ fs) q =
      let h : renamed_field_tree r f ≡ f = cc in
      (own f.name (ap (λ z. z.name) h), own_default f.default (ap (λ z. z.default) h), own_field_trees fs (cc))

  pub own_record : (d : RecordTree) → renamed_record r d ≡ d → RecordOf all d
  own_record d q = (own d.name (ap (λ z. z.name) q), own_field_trees d.fields (ap (λ z. z.fields) q))

  pub own_form : (f : FormTree) → renamed_form r f ≡ f → FormOf all f
  own_form (module_name n) q = own n (cc)
  own_form (export fs) q = own_references fs (cc)
  own_form (import m fs) q = (own m (cc), own_references fs (cc))
  own_form (record_of d) q = own_record d (cc)
  own_form (attribute n e) q = (own n (cc), own_tree e (cc))
  own_form dropped q = tt
  own_form export_all q = tt
  own_form (function f) q = own_function f (cc)

  pub own_forms : (fs : List PlacedTree) → map (renamed_placed r) fs ≡ fs → FormsOf all fs
  own_forms [] q = tt
  own_forms (f ∷ fs) q = (own_form f.form (ap (λ z. z.form) (let h : renamed_placed r f ≡ f = cc in h)), own_forms fs (cc))

  pub own_module : (m : ModuleTree) → renamed_module r m ≡ m → ModuleOf all m
  own_module m q = (own m.name (ap (λ z. z.name) q), own_forms m.forms (ap (λ z. z.forms) q))

-- ---- the next number for a name that is not of the table

abbrev pub Injective : (Name → Name) → Type 0
Injective r = (m n : Name) → r m ≡ r n → m ≡ n

module _ (all : Texts) where
  abbrev pub shift : Name → Name
  shift n = cond (ltb n.index (length all)) n (record { index = n.index + 1 })

  shift_own_as : (n : Name) (b : Bool) → ltb n.index (length all) ≡ b → cond b n (record { index = n.index + 1 }) ≡ n → HasName all n
  shift_own_as n true is e = ltb-true _ _ is
  shift_own_as n false is e = absurd (let h : n.index + 1 ≡ n.index = ap (λ z. z.index) e in omega (arith, h))

  pub shift_own : (n : Name) → shift n ≡ n → HasName all n
  shift_own n e = shift_own_as n (ltb n.index (length all)) refl e

  pub own_shift : (n : Name) → HasName all n → shift n ≡ n
  own_shift n has = ap (λ b. cond b n (record { index = n.index + 1 })) (lt-ltb n.index (length all) has)

  shift_apart : (m n : Name) (b c : Bool) → ltb m.index (length all) ≡ b → ltb n.index (length all) ≡ c
      → cond b m (record { index = m.index + 1 }) ≡ cond c n (record { index = n.index + 1 }) → m.index ≡ n.index
  shift_apart m n true true p q e = ap (λ z. z.index) e
  shift_apart m n true false p q e = absurd (let h : m.index ≡ n.index + 1 = ap (λ z. z.index) e in omega (arith, h, ltb-true _ _ p, ltb-false _ _ q))
  shift_apart m n false true p q e = absurd (let h : m.index + 1 ≡ n.index = ap (λ z. z.index) e in omega (arith, h, ltb-false _ _ p, ltb-true _ _ q))
  shift_apart m n false false p q e = let h : m.index + 1 ≡ n.index + 1 = ap (λ z. z.index) e in omega (arith, h)

  pub shift_injective : Injective shift
  shift_injective m n e = ap (λ i. record { index = i }) (shift_apart m n (ltb m.index (length all)) (ltb n.index (length all)) refl refl e)

  pub tree_of_table : (e : Tree) → renamed_tree shift e ≡ e → TreeOf all e
  tree_of_table = own_tree all shift shift_own

  pub trees_of_table : (es : Trees) → renamed_all shift es ≡ es → TreesOf all es
  trees_of_table = own_trees all shift shift_own

  pub clauses_of_table : (cs : Clauses) → renamed_clauses shift cs ≡ cs → ClausesOf all cs
  clauses_of_table = own_clauses all shift shift_own

  pub function_of_table : (f : FunctionTree) → renamed_function shift f ≡ f → FunctionOf all f
  function_of_table = own_function all shift shift_own

  pub form_of_table : (f : FormTree) → renamed_form shift f ≡ f → FormOf all f
  form_of_table = own_form all shift shift_own

  pub forms_of_table : (fs : List PlacedTree) → map (renamed_placed shift) fs ≡ fs → FormsOf all fs
  forms_of_table = own_forms all shift shift_own

  pub module_of_table : (m : ModuleTree) → renamed_module shift m ≡ m → ModuleOf all m
  module_of_table = own_module all shift shift_own
