-- A lowered module is one that a text says.
use Rattle.std.proofs.Common.{◌≡◌, ◌≤◌, ◌⊎◌, ℕ, zero, suc, Bool, true, false, not, ◌&&◌, inl, inr, List, [], ◌∷◌, ◌++◌, map, refl, sym, ap, ◌∙◌, subst, arith, cond}
use Rattle.std.specs.Prelude.{bytes_eq, codes, filter, nat_le}
use Rattle.std.proofs.lemmas.Bool.{le-leb}
use Rattle.std.proofs.lemmas.List.{map-append}
use Rattle.std.proofs.lemmas.Slice.Eq.{bytes_eq-Decides}
use Rattle.ef_base.specs.declared.name.Name.{Name}
use Rattle.ef_base.specs.Laws.{same_name}
use Rattle.ef_base.specs.Texts.{AllDiffer, HasName, IsNameOf, Texts, text}
use Rattle.ef_core.specs.declared.literal.CoreVar.TheVariants.{Numbered}
use Rattle.ef_core.specs.declared.literal.FName.{FName}
use Rattle.ef_core.proofs.HoldsLaws.{each_same}
use Rattle.ef_core.specs.Conditions.{MeetsConditions, NoneTwice, conditions, defined}
use Rattle.ef_core.specs.Everywhere.{AllHold, DefHolds, Each, LitHolds}
use Rattle.ef_core.specs.LetForm.{AreSimple, IsLetForm}
use Rattle.ef_core.specs.Lowered.{IsLowered, lowered}
use Rattle.ef_core.specs.OfTable.{CoreModuleOf}
use Rattle.ef_core.specs.Readable.{IsReadable, readable}
use Rattle.ef_core.specs.Scope.{InScope, IsAmong}
use Rattle.ef_core.specs.Tree.{AttributeTree, CoreModuleTree, CoreTrees, DefTree, atom, call, end, lit, more, var}
use Rattle.ef_core.specs.WellFormed.{AreSingle, Matches}
use Rattle.ef_forms.specs.declared.tables.FunctionName.{FunctionName}
use Rattle.ef_forms.specs.Built as forms
use Rattle.ef_forms.specs.Built.{IsBuilt, IsBuiltFunction, IsDefined, IsDistinct, IsModuleInfo, defined_in, exports_in, functions_in, key_of}
use Rattle.ef_forms.specs.Tree.{FunctionTree, ModuleTree}
use Rattle.ef_lower.proofs.Scopes.{among_more}
use Rattle.ef_lower.specs.Scope.{HasFunctions, core_name}
use Rattle.ef_lower.proofs.Numbered.{numbered_readable, numbered_differ}
use Rattle.ef_lowmod.specs.declared.info.Fixed.{Fixed}
use Rattle.ef_lowmod.specs.Function.{AreLowered, IsLoweredFunction}
use Rattle.ef_lowmod.specs.Info.{AreFixed, fname, info_def, item_def}
use Rattle.ef_lowmod.specs.Form.{AreShallow, HasLetForm, IsShallowFor}
use Rattle.ef_lowmod.specs.Outline.{Outline, is_other}
use Rattle.ef_lowmod.specs.Whole.{IsLoweredModule}
use Rattle.ef_lowmod.proofs.Lowered.{atom_lowered, lowered_conditions, lowered_let_form, lowered_readable, text_within, variable_lowered}

-- ---- lists

each_join : {A : Type 0} (P : A → Type 0) (xs ys : List A) → Each P xs → Each P ys → Each P (xs ++ ys)
each_join P [] ys left right = right
each_join P (x ∷ xs) ys left right = (left.0, each_join P xs ys left.1 right)

among_front : {A : Type 0} (xs ys : List A) (x : A) → IsAmong xs x → IsAmong (xs ++ ys) x
among_front [] ys x is = absurd is
among_front (z ∷ xs) ys x (inl same) = inl same
among_front (z ∷ xs) ys x (inr is) = inr (among_front xs ys x is)

among_split : {A : Type 0} (xs ys : List A) (x : A) → IsAmong (xs ++ ys) x → IsAmong xs x ⊎ IsAmong ys x
among_split [] ys x is = inr is
among_split (z ∷ xs) ys x (inl same) = inl (inl same)
among_split (z ∷ xs) ys x (inr is) = elim (among_split xs ys x is) [ inl left ↦ inl (inr left) | inr right ↦ inr right ]

-- ---- names of functions

same_core : (f g : FunctionName) → core_name f ≡ core_name g → g ≡ f
same_core f g same = λ i. record { name = (sym same i).name; arity = (sym same i).arity }

core_among : (f : FunctionName) (ks : List FunctionName) → forms.IsAmong f ks → IsAmong (map core_name ks) (core_name f)
core_among f [] is = absurd is
core_among f (k ∷ ks) (inl same) = inl (ap core_name (sym same))
core_among f (k ∷ ks) (inr is) = inr (core_among f ks is)

key_among : (f : FunctionName) (ks : List FunctionName) → IsAmong (map core_name ks) (core_name f) → forms.IsAmong f ks
key_among f [] is = absurd is
key_among f (k ∷ ks) (inl same) = inl (same_core f k same)
key_among f (k ∷ ks) (inr is) = inr (key_among f ks is)

lowered_names : (all : Texts) (fs : List FName) (gs : List FunctionTree) (ds : List DefTree) → AreLowered all fs gs ds → map (λ (d : DefTree). d.name) ds ≡ map core_name (map key_of gs)
lowered_names all fs [] [] is = refl
lowered_names all fs [] (d ∷ ds) is = absurd is
lowered_names all fs (g ∷ gs) [] is = absurd is
lowered_names all fs (g ∷ gs) (d ∷ ds) is = λ i. is.0.name i ∷ lowered_names all fs gs ds is.1 i

-- in the order of the source
pub lowered_in_order : (all : Texts) (fs : List FName) (gs : List FunctionTree) (ds : List DefTree) → AreLowered all fs gs ds → map (λ (d : DefTree). d.name) ds ≡ map (λ (f : FunctionTree). fname f.name f.arity) gs
lowered_in_order all fs [] [] is = refl
lowered_in_order all fs [] (d ∷ ds) is = absurd is
lowered_in_order all fs (g ∷ gs) [] is = absurd is
lowered_in_order all fs (g ∷ gs) (d ∷ ds) is = λ i. is.0.name i ∷ lowered_in_order all fs gs ds is.1 i

lowered_shallow : (all : Texts) (fs : List FName) (gs : List FunctionTree) (ds behind : List DefTree) → AreLowered all fs gs ds → AreShallow gs (ds ++ behind)
lowered_shallow all fs [] [] behind is = tt
lowered_shallow all fs [] (d ∷ ds) behind is = absurd is
lowered_shallow all fs (g ∷ gs) [] behind is = absurd is
lowered_shallow all fs (g ∷ gs) (d ∷ ds) behind is = (is.0.shallow, lowered_shallow all fs gs ds behind is.1)

-- no function of the source is one of the two
no_info : (all : Texts) (functions : List FunctionName) (gs : List FunctionTree) → forms.Each (IsBuiltFunction all functions) gs → Each (λ k. IsModuleInfo all k → ⊥) (map key_of gs)
no_info all functions [] built = tt
no_info all functions (g ∷ gs) built = (built.0.0, no_info all functions gs built.1)

abbrev infos : Fixed → List FName
infos fixed = fname fixed.module_info 0 ∷ fname fixed.module_info 1 ∷ []

module _ (all : Texts) (fixed : Fixed) (are_fixed : AreFixed all fixed) where
  is_info : (k : FunctionName) (arity : ℕ) → arity ≤ 1 → core_name k ≡ fname fixed.module_info arity → IsModuleInfo all k
  is_info k arity le same =
      let index : k.name.index ≡ fixed.module_info.index = ap (λ (f : FName). f.name.index) same in
      let number : k.arity ≡ arity = ap (λ (f : FName). f.arity) same in
      (ap (λ (n : Name). text all n) (ap (λ (f : FName). f.name) same) ∙ are_fixed.module_info.is, omega arith)

  among_infos : (k : FunctionName) → IsAmong (infos fixed) (core_name k) → IsModuleInfo all k
  among_infos k (inl same) = is_info k 0 (omega arith) same
  among_infos k (inr (inl same)) = is_info k 1 (omega arith) same
  among_infos k (inr (inr none)) = absurd none

  infos_differ : NoneTwice (infos fixed)
  infos_differ = (
    (λ is. elim is [
      | inl same ↦ let number : 0 ≡ 1 = ap (λ (f : FName). f.arity) same in absurd (omega arith)
      | inr none ↦ none
    ]),
    ((λ none. none), tt),
  )

  names_differ : (ks : List FunctionName) → IsDistinct ks → Each (λ k. IsModuleInfo all k → ⊥) ks → NoneTwice (map core_name ks ++ infos fixed)
  names_differ [] distinct none = infos_differ
  names_differ (k ∷ ks) distinct none = (
    (λ is. elim (among_split (map core_name ks) (infos fixed) (core_name k) is) [
      | inl left ↦ distinct.0 (key_among k ks left)
      | inr right ↦ none.0 (among_infos k right)
    ]),
    names_differ ks distinct.1 none.1,
  )

  info_among : (n : Name) (arity : ℕ) → n ≡ fixed.module_info → arity ≤ 1 → IsAmong (infos fixed) (fname n arity)
  info_among n zero same le = inl (ap (λ (m : Name). fname m 0) same)
  info_among n (suc zero) same le = inr (inl (ap (λ (m : Name). fname m 1) same))
  info_among n (suc (suc k)) same le = absurd (omega arith)

  -- the names of the functions and of the two are what the source may call
  has_functions : (ks : List FunctionName) → AllDiffer all → HasFunctions all ks (map core_name ks ++ infos fixed)
  has_functions ks differ f (inl among) = among_front (map core_name ks) (infos fixed) (core_name f) (core_among f ks among)
  has_functions ks differ f (inr info) =
      let within : HasName all f.name = text_within all f.name.index _ _ info.0 in
      let is : IsNameOf all f.name (codes "module_info") = record { within = within; is = info.0 } in
      among_more (map core_name ks) (infos fixed) (core_name f)
      (info_among f.name f.arity (same_name all f.name fixed.module_info (codes "module_info") differ is are_fixed.module_info) info.1)

  -- ---- exports

  is_no_other : (f : FunctionName) → IsModuleInfo all f → is_other all f ≡ false
  is_no_other f info =
      let name : bytes_eq (text all f.name) (codes "module_info") ≡ true = (bytes_eq-Decides (text all f.name) (codes "module_info")).1 info.0 in
      let few : nat_le f.arity 1 ≡ true = le-leb f.arity 1 info.1 in
      λ i. not (name i && few i)

  exports_are_defined : (ks fs : List FunctionName) → forms.Each (IsDefined all ks) fs → Each (IsAmong (map core_name ks ++ infos fixed)) (map (λ f. fname f.name f.arity) (filter (is_other all) fs) ++ infos fixed)
  exports_are_defined ks [] are = (among_more (map core_name ks) (infos fixed) _ (inl refl), (among_more (map core_name ks) (infos fixed) _ (inr (inl refl)), tt))
  exports_are_defined ks (f ∷ fs) are = by (is_other all f) refl (exports_are_defined ks fs are.1)
    where
      rest : Bool → List FName
      rest kept = map (λ g. fname g.name g.arity) (cond kept (f ∷ filter (is_other all) fs) (filter (is_other all) fs)) ++ infos fixed

      by : (kept : Bool) → is_other all f ≡ kept → Each (IsAmong (map core_name ks ++ infos fixed)) (rest false) → Each (IsAmong (map core_name ks ++ infos fixed)) (rest (is_other all f))
      by true same others =
          let here : IsAmong (map core_name ks ++ infos fixed) (core_name f) = elim are.0 [
            | inl among ↦ among_front (map core_name ks) (infos fixed) (core_name f) (core_among f ks among)
            | inr info ↦ absurd (let other : is_other all f ≡ false = is_no_other f info in cc)
          ] in
          subst (λ t. Each (IsAmong (map core_name ks ++ infos fixed)) (rest t)) (sym same) (here, others)
      by false same others = subst (λ t. Each (IsAmong (map core_name ks ++ infos fixed)) (rest t)) (sym same) others

-- ---- functions

record IsReadableDef (all : Texts) (fs : List FName) (d : DefTree) : Type 0 where
  pub params : Each (readable all).variable d.params
  pub differ : NoneTwice d.params
  pub matches : Matches d.name d.params
  pub body : IsLowered all d.body
  pub in_scope : InScope d.params fs d.body

function_readable : (all : Texts) (fs : List FName) (g : FunctionTree) (d : DefTree) → IsLoweredFunction all fs g d → IsReadableDef all fs d
function_readable all fs g d is = record {
  params = subst (Each (readable all).variable) (sym is.parameters) (numbered_readable all 0 g.arity (let few = is.matches.1 in let same = ap (λ (f : FName). f.arity) is.name in omega arith));
  differ = subst NoneTwice (sym is.parameters) (numbered_differ 0 g.arity);
  matches = is.matches;
  body = is.body;
  in_scope = is.in_scope;
}

functions_readable : (all : Texts) (fs : List FName) (gs : List FunctionTree) (ds : List DefTree) → AreLowered all fs gs ds → Each (IsReadableDef all fs) ds
functions_readable all fs [] [] is = tt
functions_readable all fs [] (d ∷ ds) is = absurd is
functions_readable all fs (g ∷ gs) [] is = absurd is
functions_readable all fs (g ∷ gs) (d ∷ ds) is = (function_readable all fs g d is.0, functions_readable all fs gs ds is.1)

-- a call of `erlang:get_module_info`
call_lowered : (all : Texts) (fixed : Fixed) → AreFixed all fixed → (es : CoreTrees) → AreSimple es → AreSingle es → AllHold (lowered all) es → IsLowered all (call (lit (atom fixed.erlang)) (lit (atom fixed.get_module_info)) es)
call_lowered all fixed are_fixed es simple single hold = (
  (simple, ((tt, ((tt, tt, single), tt)), (tt, tt, tt))),
  atom_lowered all fixed.erlang are_fixed.erlang.within,
  atom_lowered all fixed.get_module_info are_fixed.get_module_info.within,
  hold,
)

info_readable : (all : Texts) (fs : List FName) (fixed : Fixed) (m : Name) → AreFixed all fixed → HasName all m → IsReadableDef all fs (info_def fixed m)
info_readable all fs fixed m are_fixed named = record {
  params = tt;
  differ = tt;
  matches = (refl, omega arith);
  body = call_lowered all fixed are_fixed (more (lit (atom m)) end) (tt, tt) (tt, tt) (atom_lowered all m named, tt);
  in_scope = (tt, tt, (tt, tt));
}

item_readable : (all : Texts) (fs : List FName) (fixed : Fixed) (m : Name) → AreFixed all fixed → HasName all m → IsReadableDef all fs (item_def fixed m)
item_readable all fs fixed m are_fixed named = record {
  params = (first, tt);
  differ = ((λ none. none), tt);
  matches = (refl, omega arith);
  body = call_lowered all fixed are_fixed (more (lit (atom m)) (more (var (Numbered 0)) end)) (tt, (tt, tt)) (tt, (tt, tt)) (atom_lowered all m named, (variable_lowered all (Numbered 0) first, tt));
  in_scope = (tt, tt, (tt, (inl refl, tt)));
}
  where
    first : (readable all).variable (Numbered 0)
    first = (tt, (omega arith, tt))

-- ---- the module

module _ (all : Texts) (m : ModuleTree) (t : CoreModuleTree) (whole : IsLoweredModule all m t) where
  abbrev outline : Outline all m t
  outline = whole.outline

  abbrev names : List FName
  names = map core_name (defined_in m.forms) ++ infos outline.fixed

  defined_are : defined all t ≡ names
  defined_are =
      let both : List DefTree = info_def outline.fixed m.name ∷ item_def outline.fixed m.name ∷ [] in
      ap (map (λ (d : DefTree). d.name)) outline.defs
      ∙ map-append (λ (d : DefTree). d.name) outline.functions both
      ∙ ap (λ l. l ++ infos outline.fixed) (lowered_names all (defined all t) (functions_in m.forms) outline.functions whole.functions)

  defs_readable : HasName all m.name → Each (IsReadableDef all (defined all t)) t.defs
  defs_readable named =
      let both : List DefTree = info_def outline.fixed m.name ∷ item_def outline.fixed m.name ∷ [] in
      subst (Each (IsReadableDef all (defined all t))) (sym outline.defs)
      (each_join (IsReadableDef all (defined all t)) outline.functions both
      (functions_readable all (defined all t) (functions_in m.forms) outline.functions whole.functions)
      (info_readable all (defined all t) outline.fixed m.name outline.are_fixed named, (item_readable all (defined all t) outline.fixed m.name outline.are_fixed named, tt)))

  meets : IsBuilt all m → Each (IsReadableDef all (defined all t)) t.defs → MeetsConditions all t
  meets built defs = record {
    parts = record {
      terms = subst (Each (λ (a : AttributeTree). LitHolds (conditions all) a.term)) (sym outline.attributes) tt;
      defs = each_same (IsReadableDef all (defined all t)) (DefHolds (conditions all))
          (λ d is. (each_same (readable all).variable (conditions all).variable (λ v here. tt) d.params is.params, lowered_conditions all d.body is.body)) t.defs defs;
    };
    parameters_differ = each_same (IsReadableDef all (defined all t)) (λ d. NoneTwice d.params) (λ d is. is.differ) t.defs defs;
    functions_differ = subst NoneTwice (sym defined_are)
        (names_differ all outline.fixed outline.are_fixed (defined_in m.forms) built.functions (no_info all (defined_in m.forms) (functions_in m.forms) built.bodies));
    exports_defined =
        subst (Each (IsAmong (defined all t))) (sym outline.exports)
        (subst (λ fs. Each (IsAmong fs) (map (λ f. fname f.name f.arity) (filter (is_other all) (exports_in m.forms)) ++ infos outline.fixed)) (sym defined_are)
        (exports_are_defined all outline.fixed outline.are_fixed (defined_in m.forms) (exports_in m.forms) built.exported));
    in_scope = each_same (IsReadableDef all (defined all t)) (λ d. InScope d.params (defined all t) d.body) (λ d is. is.in_scope) t.defs defs;
  }

  pub module_readable : IsBuilt all m → HasName all m.name → CoreModuleOf all t → IsReadable all t
  module_readable built named of_table =
      let defs : Each (IsReadableDef all (defined all t)) t.defs = defs_readable named in
      record {
        parts = record {
          terms = subst (Each (λ (a : AttributeTree). LitHolds (readable all) a.term)) (sym outline.attributes) tt;
          defs = each_same (IsReadableDef all (defined all t)) (DefHolds (readable all)) (λ d is. (is.params, lowered_readable all d.body is.body)) t.defs defs;
        };
        names_of = of_table;
        parameters = each_same (IsReadableDef all (defined all t)) (λ d. Matches d.name d.params) (λ d is. is.matches) t.defs defs;
        conditions = meets built defs;
      }

  pub module_let_form : HasName all m.name → HasLetForm t
  module_let_form named =
      each_same (IsReadableDef all (defined all t)) (λ d. IsLetForm d.body) (λ d is. lowered_let_form all d.body is.body) t.defs (defs_readable named)

  pub module_shallow : IsShallowFor m t
  module_shallow = subst (AreShallow (functions_in m.forms)) (sym outline.defs) (lowered_shallow all (defined all t) (functions_in m.forms) outline.functions _ whole.functions)

-- the functions are in scope of one another, where they are so wherever the names that the source may call are
pub lowered_together : (all : Texts) (fixed : Fixed) (m : Name) (ks : List FunctionName) (gs : List FunctionTree) (ds defs : List DefTree) → AreFixed all fixed → AllDiffer all → ks ≡ map key_of gs → defs ≡ ds ++ (info_def fixed m ∷ item_def fixed m ∷ []) → ((fs : List FName) → HasFunctions all ks fs → AreLowered all fs gs ds) → AreLowered all (map (λ (d : DefTree). d.name) defs) gs ds
lowered_together all fixed m ks gs ds defs are_fixed differ keys are lowered =
    let both : List DefTree = info_def fixed m ∷ item_def fixed m ∷ [] in
    let wide : AreLowered all (map core_name ks ++ infos fixed) gs ds = lowered _ (has_functions all fixed are_fixed ks differ) in
    let same : map (λ (d : DefTree). d.name) defs ≡ map core_name ks ++ infos fixed =
    ap (map (λ (d : DefTree). d.name)) are
    ∙ map-append (λ (d : DefTree). d.name) ds both
    ∙ ap (λ l. l ++ infos fixed) (lowered_names all _ gs ds wide ∙ ap (map core_name) (sym keys)) in
    subst (λ fs. AreLowered all fs gs ds) (sym same) wide
