-- The functions and exports among forms.
use Rattle.std.proofs.Common.{◌≡◌, ◌<◌, ◌+◌, ℕ, zero, suc, Bool, true, false, not, ◌&&◌, ◌==◌, List, [], ◌∷◌, ◌++◌, length, get_or, map, take, refl, sym, ap, ◌∙◌, subst, arith, add-one, append_assoc, cond, eqb-true, eq-eqb}
use Rattle.std.specs.Prelude.{bytes_eq, codes, filter, nat_le}
use Rattle.std.proofs.lemmas.List.{map-append}
use Rattle.std.proofs.lemmas.Slice.Eq.{bytes_eq-Decides}
use Rattle.ef_base.specs.declared.fault.Place.{Place}
use Rattle.ef_base.specs.declared.name.Name.{Name}
use Rattle.ef_base.specs.Laws.{has_later, named_later, same_name}
use Rattle.ef_base.specs.Texts.{AllDiffer, Extends, HasName, IsNameOf, Texts, text}
use Rattle.ef_core.specs.declared.literal.FName.{FName}
use Rattle.ef_core.specs.declared.tree.CoreDef.{CoreDef}
use Rattle.ef_core.specs.Conditions.{defined}
use Rattle.ef_core.specs.OfTable as core
use Rattle.ef_core.specs.OfTable.{AttributeOf, CoreModuleOf, DefOf, FNameOf}
use Rattle.ef_core.specs.Plain.{plain_def}
use Rattle.ef_core.specs.Tree.{CoreModuleTree, DefTree}
use Rattle.ef_forms.specs.declared.form.FunctionRef.{FunctionRef}
use Rattle.ef_forms.specs.declared.form.PlacedForm.{PlacedForm}
use Rattle.ef_forms.specs.declared.tables.FunctionName.{FunctionName}
use Rattle.ef_forms.specs.Built.{Each, IsBuiltFunction, exports_in, functions_in, name_of}
use Rattle.ef_forms.specs.OfTable.{FormOf, FormsOf, FunctionOf, ReferencesOf}
use Rattle.ef_forms.specs.Plain.{plain_placed}
use Rattle.ef_forms.specs.Tree.{FormTree, FunctionTree, ModuleTree, PlacedTree, export, function}
use Rattle.ef_lowmod.specs.declared.info.Fixed.{Fixed}
use Rattle.ef_lowmod.specs.Exports.{is_other_by}
use Rattle.ef_lowmod.specs.Function.{AreLowered, HasNoFault, IsLight, IsLoweredForm, IsNarrowFunction, IsReadyFunction, IsWhole}
use Rattle.ef_lowmod.specs.Info.{fname, info_def, item_def}
use Rattle.ef_lowmod.specs.Outline.{is_other}
use Rattle.ef_lowmod.specs.Whole.{IsLoweredModule}
use Rattle.ef_lowmod.proofs.Later.{clauses_later, each_def, functions_later}

-- ---- lists

each_left : {A : Type 0} (P : A → Type 0) (xs ys : List A) → Each P (xs ++ ys) → Each P xs
each_left P [] ys all = tt
each_left P (x ∷ xs) ys all = (all.0, each_left P xs ys all.1)

each_right : {A : Type 0} (P : A → Type 0) (xs ys : List A) → Each P (xs ++ ys) → Each P ys
each_right P [] ys all = all
each_right P (x ∷ xs) ys all = each_right P xs ys all.1

each_both : {A : Type 0} (P : A → Type 0) (xs ys : List A) → Each P xs → Each P ys → Each P (xs ++ ys)
each_both P [] ys left right = right
each_both P (x ∷ xs) ys left right = (left.0, each_both P xs ys left.1 right)

-- ---- functions among forms

one_by_one : (p : Place) (form : FormTree) (fs : List PlacedTree) → functions_in (record { place = p; form = form } ∷ fs) ≡ functions_in (record { place = p; form = form } ∷ []) ++ functions_in fs
one_by_one p (function g) fs = refl
one_by_one p _ fs = refl

split_forms : (f : PlacedTree) (fs : List PlacedTree) → functions_in (f ∷ fs) ≡ functions_in (f ∷ []) ++ functions_in fs
split_forms f fs = one_by_one f.place f.form fs

pub form_at : (P : FunctionTree → Type 0) (forms : List PlacedForm) (i : ℕ) (x : PlacedForm) → Each P (functions_in (map plain_placed forms)) → i < length forms → x ≡ get_or forms i x → Each P (functions_in (plain_placed x ∷ []))
form_at P [] i x all small read = absurd (omega arith)
form_at P (y ∷ forms) zero x all small read =
    subst (λ z. Each P (functions_in (plain_placed z ∷ []))) (sym read)
    (each_left P (functions_in (plain_placed y ∷ [])) (functions_in (map plain_placed forms)) (subst (Each P) (split_forms (plain_placed y) (map plain_placed forms)) all))
form_at P (y ∷ forms) (suc i) x all small read =
    form_at P forms i x (each_right P (functions_in (plain_placed y ∷ [])) (functions_in (map plain_placed forms)) (subst (Each P) (split_forms (plain_placed y) (map plain_placed forms)) all)) (omega arith) read

pub next_form : (forms : List PlacedForm) (i : ℕ) (x : PlacedForm) → i < length forms → x ≡ get_or forms i x → functions_in (map plain_placed (take (suc i) forms)) ≡ functions_in (map plain_placed (take i forms)) ++ functions_in (plain_placed x ∷ [])
next_form [] i x small read = absurd (omega arith)
next_form (y ∷ forms) zero x small read = ap (λ z. functions_in (plain_placed z ∷ [])) (sym read)
next_form (y ∷ forms) (suc i) x small read =
    split_forms (plain_placed y) (map plain_placed (take (suc i) forms))
    ∙ ap (λ t. functions_in (plain_placed y ∷ []) ++ t) (next_form forms i x (omega arith) read)
    ∙ sym (append_assoc (functions_in (plain_placed y ∷ [])) (functions_in (map plain_placed (take i forms))) (functions_in (plain_placed x ∷ [])))
    ∙ ap (λ t. t ++ functions_in (plain_placed x ∷ [])) (sym (split_forms (plain_placed y) (map plain_placed (take i forms))))

lowered_both : (all : Texts) (names : List FName) (fs gs : List FunctionTree) (ds es : List DefTree) → AreLowered all names fs ds → AreLowered all names gs es → AreLowered all names (fs ++ gs) (ds ++ es)
lowered_both all names [] gs [] es left right = right
lowered_both all names [] gs (d ∷ ds) es left right = absurd left
lowered_both all names (f ∷ fs) gs [] es left right = absurd left
lowered_both all names (f ∷ fs) gs (d ∷ ds) es left right = (left.0, lowered_both all names fs gs ds es left.1 right)

-- one more form
pub form_lowered : (now all : Texts) (names : List FName) (forms : List PlacedForm) (i : ℕ) (x : PlacedForm) (ds new : List DefTree) → Extends now all → AreLowered now names (functions_in (map plain_placed (take i forms))) ds → i < length forms → x ≡ get_or forms i x → IsLoweredForm all names (plain_placed x) ds new → AreLowered all names (functions_in (map plain_placed (take (i + 1) forms))) new
form_lowered now all names forms i x ds new later before small read one =
    subst (AreLowered all names (functions_in (map plain_placed (take (i + 1) forms)))) (sym one.is)
    (subst (λ fs. AreLowered all names fs (ds ++ one.added)) (sym (ap (λ n. functions_in (map plain_placed (take n forms))) (add-one i) ∙ next_form forms i x small read))
    (lowered_both all names (functions_in (map plain_placed (take i forms))) (functions_in (plain_placed x ∷ [])) ds one.added (functions_later now all later names (functions_in (map plain_placed (take i forms))) ds before) one.lowered))

-- ---- functions that can be lowered

function_first : (texts : Texts) (p : Place) (form : FormTree) → FormOf texts form → Each (FunctionOf texts) (functions_in (record { place = p; form = form } ∷ []))
function_first texts p (function g) is = (is, tt)
function_first texts p _ is = tt

functions_of_table : (texts : Texts) (forms : List PlacedTree) → FormsOf texts forms → Each (FunctionOf texts) (functions_in forms)
functions_of_table texts [] is = tt
functions_of_table texts (f ∷ forms) is =
    subst (Each (FunctionOf texts)) (sym (split_forms f forms))
    (each_both (FunctionOf texts) (functions_in (f ∷ [])) (functions_in forms) (function_first texts f.place f.form is.0) (functions_of_table texts forms is.1))

functions_of_later : (now all : Texts) → Extends now all → (fs : List FunctionTree) → Each (FunctionOf now) fs → Each (FunctionOf all) fs
functions_of_later now all later [] is = tt
functions_of_later now all later (f ∷ fs) is =
    ((has_later now all f.name is.0.0 later, clauses_later now all later f.clauses is.0.1), functions_of_later now all later fs is.1)

all_ready : (all : Texts) (defined : List FunctionName) (fs : List FunctionTree) → Each (IsBuiltFunction all defined) fs → Each IsNarrowFunction fs → Each IsWhole fs → Each IsLight fs → Each (FunctionOf all) fs → Each (HasNoFault all) fs → Each (IsReadyFunction all defined) fs
all_ready all defined [] built narrow whole light of_table no_fault = tt
all_ready all defined (f ∷ fs) built narrow whole light of_table no_fault = (
  record {
    name = of_table.0.0;
    some = whole.0;
    clauses = record { built = built.0.1; narrow = narrow.0; of_table = of_table.0.1; no_fault = no_fault.0 };
    light = light.0;
  },
  all_ready all defined fs built.1 narrow.1 whole.1 light.1 of_table.1 no_fault.1,
)

pub ready_functions : (now all : Texts) (defined : List FunctionName) (forms : List PlacedTree) → Extends now all → FormsOf now forms → Each (IsBuiltFunction all defined) (functions_in forms) → Each IsNarrowFunction (functions_in forms) → Each IsWhole (functions_in forms) → Each IsLight (functions_in forms) → Each (HasNoFault all) (functions_in forms) → Each (IsReadyFunction all defined) (functions_in forms)
ready_functions now all defined forms later of_table built narrow whole light no_fault =
    all_ready all defined (functions_in forms) built narrow whole light (functions_of_later now all later (functions_in forms) (functions_of_table now forms of_table)) no_fault

-- ---- exports

references_named : (texts : Texts) (refs : List FunctionRef) → ReferencesOf texts refs → Each (λ f. HasName texts f.name) (map name_of refs)
references_named texts [] is = tt
references_named texts (r ∷ refs) is = (is.0, references_named texts refs is.1)

exports_first : (texts : Texts) (p : Place) (form : FormTree) (forms : List PlacedTree) → FormOf texts form → Each (λ f. HasName texts f.name) (exports_in forms) → Each (λ f. HasName texts f.name) (exports_in (record { place = p; form = form } ∷ forms))
exports_first texts p (export refs) forms is rest =
    each_both (λ (f : FunctionName). HasName texts f.name) (map name_of refs) (exports_in forms) (references_named texts refs is) rest
exports_first texts p _ forms is rest = rest

pub exports_named : (texts : Texts) (forms : List PlacedTree) → FormsOf texts forms → Each (λ f. HasName texts f.name) (exports_in forms)
exports_named texts [] is = tt
exports_named texts (f ∷ forms) is = exports_first texts f.place f.form forms is.0 (exports_named texts forms is.1)

-- names of the table are the same where their texts are
same_test : (now all : Texts) (n m : Name) (bytes : List ℕ) → AllDiffer now → Extends now all → HasName now n → IsNameOf now m bytes → (n.index == m.index) ≡ bytes_eq (text all n) bytes
same_test now all n m bytes differ later within is = by (n.index == m.index) refl (bytes_eq (text all n) bytes) refl
  where
    here : IsNameOf now n (text now n)
    here = record { within = within; is = refl }

    kept : text all n ≡ text now n
    kept = (named_later now all n (text now n) here later).is

    by : (a : Bool) → (n.index == m.index) ≡ a → (b : Bool) → bytes_eq (text all n) bytes ≡ b → (n.index == m.index) ≡ bytes_eq (text all n) bytes
    by true p true q = p ∙ sym q
    by false p false q = p ∙ sym q
    by true p false q =
        let index : n.index ≡ m.index = eqb-true n.index m.index p in
        let same : text all n ≡ bytes = kept ∙ ap (λ k. get_or now k []) index ∙ is.is in
        absurd (let yes : bytes_eq (text all n) bytes ≡ true = (bytes_eq-Decides (text all n) bytes).1 same in cc)
    by false p true q =
        let same : text now n ≡ bytes = sym kept ∙ (bytes_eq-Decides (text all n) bytes).0 q in
        let name : n ≡ m = same_name now n m bytes differ (record { within = within; is = same }) is in
        absurd (let yes : (n.index == m.index) ≡ true = eq-eqb n.index m.index (ap (λ (z : Name). z.index) name) in cc)

pub others_same : (before now all : Texts) (fixed : Fixed) (fs : List FunctionName) → Extends before now → AllDiffer now → Extends now all → IsNameOf now fixed.module_info (codes "module_info") → Each (λ f. HasName before f.name) fs → filter (is_other_by fixed) fs ≡ filter (is_other all) fs
others_same before now all fixed [] kept differ later is named = refl
others_same before now all fixed (f ∷ fs) kept differ later is named =
    let test : is_other_by fixed f ≡ is_other all f = ap (λ t. not (t && nat_le f.arity 1)) (same_test now all f.name fixed.module_info (codes "module_info") differ later (has_later before now f.name named.0 kept) is) in
    let rest = others_same before now all fixed fs kept differ later is named.1 in
    λ i. cond (test i) (f ∷ rest i) (rest i)

pub names_later : (before all : Texts) (fs : List FunctionName) → Extends before all → Each (λ f. HasName before f.name) fs → Each (λ f. HasName all f.name) fs
names_later before all [] later named = tt
names_later before all (f ∷ fs) later named = (has_later before all f.name named.0 later, names_later before all fs later named.1)

-- ---- the whole

pub two_more : (xs ys zs : List CoreDef) (a b : CoreDef) (d e : DefTree) → ys ≡ xs ++ a ∷ [] → zs ≡ ys ++ b ∷ [] → plain_def a ≡ d → plain_def b ≡ e → map plain_def zs ≡ map plain_def xs ++ (d ∷ e ∷ [])
two_more xs ys zs a b d e first second is_d is_e =
    ap (map plain_def) (second ∙ ap (λ l. l ++ b ∷ []) first ∙ append_assoc xs (a ∷ []) (b ∷ []))
    ∙ map-append plain_def xs (a ∷ b ∷ []) ∙ (λ i. map plain_def xs ++ (is_d i ∷ is_e i ∷ []))

exported_named : (all : Texts) (p : FunctionName → Bool) (fs : List FunctionName) (m : Name) → Each (λ f. HasName all f.name) fs → HasName all m → core.Each (FNameOf all) (map (λ f. fname f.name f.arity) (filter p fs) ++ (fname m 0 ∷ fname m 1 ∷ []))
exported_named all p [] m named is = (is, (is, tt))
exported_named all p (f ∷ fs) m named is = by (p f) refl (exported_named all p fs m named.1 is)
  where
    by : (kept : Bool) → p f ≡ kept → core.Each (FNameOf all) (map (λ g. fname g.name g.arity) (filter p fs) ++ (fname m 0 ∷ fname m 1 ∷ [])) → core.Each (FNameOf all) (map (λ g. fname g.name g.arity) (cond (p f) (f ∷ filter p fs) (filter p fs)) ++ (fname m 0 ∷ fname m 1 ∷ []))
    by true same rest = subst (λ t. core.Each (FNameOf all) (map (λ g. fname g.name g.arity) (cond t (f ∷ filter p fs) (filter p fs)) ++ (fname m 0 ∷ fname m 1 ∷ []))) (sym same) (named.0, rest)
    by false same rest = subst (λ t. core.Each (FNameOf all) (map (λ g. fname g.name g.arity) (cond t (f ∷ filter p fs) (filter p fs)) ++ (fname m 0 ∷ fname m 1 ∷ []))) (sym same) rest

defs_named : (all : Texts) (ds es : List DefTree) → core.Each (DefOf all) ds → core.Each (DefOf all) es → core.Each (DefOf all) (ds ++ es)
defs_named all [] es left right = right
defs_named all (d ∷ ds) es left right = (left.0, defs_named all ds es left.1 right)

-- all names of a lowered module are of the table
pub module_named : (all : Texts) (m : ModuleTree) (t : CoreModuleTree) → IsLoweredModule all m t → HasName all m.name → Each (λ f. HasName all f.name) (exports_in m.forms) → CoreModuleOf all t
module_named all m t whole named exported =
    let outline = whole.outline in
    let info = outline.are_fixed.module_info.within in
    let erlang = outline.are_fixed.erlang.within in
    let get = outline.are_fixed.get_module_info.within in (
      subst (HasName all) (sym outline.name) named,
      subst (core.Each (FNameOf all)) (sym outline.exports) (exported_named all (is_other all) (exports_in m.forms) outline.fixed.module_info exported info),
      subst (core.Each (AttributeOf all)) (sym outline.attributes) tt,
      subst (core.Each (DefOf all)) (sym outline.defs)
          (defs_named all outline.functions (info_def outline.fixed m.name ∷ item_def outline.fixed m.name ∷ []) (each_def all (defined all t) (functions_in m.forms) outline.functions whole.functions)
          ((info, (tt, (tt, (tt, erlang), (tt, get), ((tt, named), tt)))), ((info, ((tt, tt), (tt, (tt, erlang), (tt, get), ((tt, named), ((tt, tt), tt))))), tt))),
    )
