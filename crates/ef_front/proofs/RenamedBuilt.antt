-- A module that is built is built under other names of the same texts.
use Rattle.std.proofs.Common.{◌≡◌, ◌≤◌, ◌+◌, inl, inr, ℕ, List, [], ◌∷◌, ◌++◌, refl, sym, ap, ap₂, ◌∙◌, subst, subst₂, map}
use Rattle.std.proofs.lemmas.List.{map-append}
use Rattle.ef_base.specs.declared.name.Name.{Name}
use Rattle.ef_base.specs.Texts.{Texts, HasName}
use Rattle.ef_forms.specs.declared.form.FunctionRef.{FunctionRef}
use Rattle.ef_forms.specs.declared.tables.FunctionName.{FunctionName}
use Rattle.ef_forms.specs.Tree.{Tree, Shape, Trees, Clauses, FunctionTree, FormTree, PlacedTree, ModuleTree, tree, int, atom, var, any, list, list_to, tuple, matching, call, remote, case_of, end, more, no_guard, or_guard, no_clauses, clause, module_name, export, dropped, function, count}
use Rattle.ef_forms.specs.Built.{Each, IsAmong, IsDistinct, IsDefined, IsModuleInfo, IsCallOf, IsForeignModule, IsAtom, IsPattern, IsPatternShape, ArePatterns, IsBuiltTree, IsBuiltShape, AreBuilt, AreBuiltClauses, AreSome, IsBuiltFunction, IsBuiltForm, AreBuiltForms, export_count_of, export_count_in, IsBuilt, name_of, key_of, functions_of, functions_in, exports_of, exports_in, defined_in}
use Rattle.ef_forms.specs.OfTable.{TreeOf, ShapeOf, TreesOf, ClausesOf, FunctionOf, ReferencesOf, FormOf, FormsOf}
use Rattle.ef_forms.proofs.Renamed.{renamed_tree, renamed_shape, renamed_all, renamed_clauses, renamed_function, renamed_reference, renamed_key, renamed_form, renamed_placed, renamed_module}
use Rattle.ef_forms.proofs.RenamedNodes.{count_stays}
use Rattle.ef_rows.proofs.Renamed.{Renames}

-- ---- lists

among_map : {A B : Type 0} (f : A → B) (x : A) (xs : List A) → IsAmong x xs → IsAmong (f x) (map f xs)
among_map f x [] h = absurd h
among_map f x (y ∷ ys) (inl e) = inl (ap f e)
among_map f x (y ∷ ys) (inr h) = inr (among_map f x ys h)

among_back : {A B : Type 0} (f : A → B) (x : A) (xs : List A) → ((y z : A) → f y ≡ f z → y ≡ z) → IsAmong (f x) (map f xs) → IsAmong x xs
among_back f x [] inj h = absurd h
among_back f x (y ∷ ys) inj (inl e) = inl (inj y x e)
among_back f x (y ∷ ys) inj (inr h) = inr (among_back f x ys inj h)

distinct_map : {A B : Type 0} (f : A → B) (xs : List A) → ((y z : A) → f y ≡ f z → y ≡ z) → IsDistinct xs → IsDistinct (map f xs)
distinct_map f [] inj h = tt
distinct_map f (x ∷ xs) inj h = (λ among. h.0 (among_back f x xs inj among), distinct_map f xs inj h.1)

each_append : {A : Type 0} (P : A → Type 0) (xs ys : List A) → Each P xs → Each P ys → Each P (xs ++ ys)
each_append P [] ys h k = k
each_append P (x ∷ xs) ys h k = (h.0, each_append P xs ys h.1 k)

-- ---- what a renamed module defines and exports

module _ (r : Name → Name) where
  functions_of_renamed : (f : FormTree) → functions_of (renamed_form r f) ≡ map (renamed_function r) (functions_of f)
  functions_of_renamed (function g) = refl
  functions_of_renamed _ = refl

  pub functions_renamed : (fs : List PlacedTree) → functions_in (map (renamed_placed r) fs) ≡ map (renamed_function r) (functions_in fs)
  functions_renamed [] = refl
  functions_renamed (f ∷ fs) =
      ap₂ (λ gs hs. gs ++ hs) (functions_of_renamed f.form) (functions_renamed fs) ∙ sym (map-append (renamed_function r) (functions_of f.form) (functions_in fs))

  keys_renamed : (gs : List FunctionTree) → map key_of (map (renamed_function r) gs) ≡ map (renamed_key r) (map key_of gs)
  keys_renamed [] = refl
  keys_renamed (g ∷ gs) = ap (λ ks. renamed_key r (key_of g) ∷ ks) (keys_renamed gs)

  defined_renamed : (fs : List PlacedTree) → defined_in (map (renamed_placed r) fs) ≡ map (renamed_key r) (defined_in fs)
  defined_renamed fs = ap (map key_of) (functions_renamed fs) ∙ keys_renamed (functions_in fs)

  names_renamed : (fs : List FunctionRef) → map name_of (map (renamed_reference r) fs) ≡ map (renamed_key r) (map name_of fs)
  names_renamed [] = refl
  names_renamed (f ∷ fs) = ap (λ ks. renamed_key r (name_of f) ∷ ks) (names_renamed fs)

  exports_of_renamed : (f : FormTree) → exports_of (renamed_form r f) ≡ map (renamed_key r) (exports_of f)
  exports_of_renamed (export fs) = names_renamed fs
  exports_of_renamed _ = refl

  exports_renamed : (fs : List PlacedTree) → exports_in (map (renamed_placed r) fs) ≡ map (renamed_key r) (exports_in fs)
  exports_renamed [] = refl
  exports_renamed (f ∷ fs) =
      ap₂ (λ gs hs. gs ++ hs) (exports_of_renamed f.form) (exports_renamed fs) ∙ sym (map-append (renamed_key r) (exports_of f.form) (exports_in fs))

  -- ---- the kinds of its forms

  form_renamed : (f : FormTree) → IsBuiltForm f → IsBuiltForm (renamed_form r f)
  form_renamed (module_name n) h = tt
  form_renamed (export fs) h = tt
  form_renamed dropped h = tt
  form_renamed (function g) h = tt
  form_renamed _ h = absurd h

  forms_renamed : (fs : List PlacedTree) → AreBuiltForms fs → AreBuiltForms (map (renamed_placed r) fs)
  forms_renamed [] h = tt
  forms_renamed (f ∷ fs) h = (form_renamed f.form h.0, forms_renamed fs h.1)

  count_of_renamed : (f : FormTree) → export_count_of (renamed_form r f) ≡ export_count_of f
  count_of_renamed (export fs) = refl
  count_of_renamed _ = refl

  count_renamed : (fs : List PlacedTree) → export_count_in (map (renamed_placed r) fs) ≡ export_count_in fs
  count_renamed [] = refl
  count_renamed (f ∷ fs) = ap₂ (λ n m. n + m) (count_of_renamed f.form) (count_renamed fs)

-- ---- tables

module _ (a b : Texts) (r : Name → Name) (renames : Renames a b r) where
  keys_injective : (f g : FunctionName) → renamed_key r f ≡ renamed_key r g → f ≡ g
  keys_injective f g e =
      ap₂ (λ (n : Name) (i : ℕ). let h : FunctionName = record { name = n; arity = i } in h)
      (renames.injective f.name g.name (ap (λ (h : FunctionName). h.name) e)) (ap (λ (h : FunctionName). h.arity) e)

  -- their names are of the first table
  abbrev IsKey : FunctionName → Type 0
  IsKey f = HasName a (r f.name)

  abbrev IsOfTable : FunctionTree → Type 0
  IsOfTable f = FunctionOf a (renamed_function r f)

  functions_of_form : (f : FormTree) → FormOf a (renamed_form r f) → Each IsOfTable (functions_of f)
  functions_of_form (function g) h = (h, tt)
  functions_of_form _ h = tt

  all_functions : (fs : List PlacedTree) → FormsOf a (map (renamed_placed r) fs) → Each IsOfTable (functions_in fs)
  all_functions [] h = tt
  all_functions (f ∷ fs) h = each_append IsOfTable (functions_of f.form) (functions_in fs) (functions_of_form f.form h.0) (all_functions fs h.1)

  names_of : (fs : List FunctionRef) → ReferencesOf a (map (renamed_reference r) fs) → Each IsKey (map name_of fs)
  names_of [] h = tt
  names_of (f ∷ fs) h = (h.0, names_of fs h.1)

  exports_of_form : (f : FormTree) → FormOf a (renamed_form r f) → Each IsKey (exports_of f)
  exports_of_form (export fs) h = names_of fs h
  exports_of_form _ h = tt

  all_exports : (fs : List PlacedTree) → FormsOf a (map (renamed_placed r) fs) → Each IsKey (exports_in fs)
  all_exports [] h = tt
  all_exports (f ∷ fs) h = each_append IsKey (exports_of f.form) (exports_in fs) (exports_of_form f.form h.0) (all_exports fs h.1)

  is_info : (f : FunctionName) → IsKey f → IsModuleInfo b f → IsModuleInfo a (renamed_key r f)
  is_info f k h = (renames.keeps f.name k ∙ h.0, h.1)

  was_info : (f : FunctionName) → IsKey f → IsModuleInfo a (renamed_key r f) → IsModuleInfo b f
  was_info f k h = (sym (renames.keeps f.name k) ∙ h.0, h.1)

  is_defined : (defined : List FunctionName) (f : FunctionName) → IsKey f → IsDefined b defined f → IsDefined a (map (renamed_key r) defined) (renamed_key r f)
  is_defined defined f k (inl h) = inl (among_map (renamed_key r) f defined h)
  is_defined defined f k (inr h) = inr (is_info f k h)

  each_defined : (defined fs : List FunctionName) → Each IsKey fs → Each (IsDefined b defined) fs → Each (IsDefined a (map (renamed_key r) defined)) (map (renamed_key r) fs)
  each_defined defined [] ks h = tt
  each_defined defined (f ∷ fs) ks h = (is_defined defined f ks.0 h.0, each_defined defined fs ks.1 h.1)

  call_of : (defined : List FunctionName) (f : Tree) (n : ℕ) → TreeOf a (renamed_tree r f) → IsCallOf b defined f n → IsCallOf a (map (renamed_key r) defined) (renamed_tree r f) n
  call_of defined (tree p (atom m)) n k h = is_defined defined (record { name = m; arity = n }) k h
  call_of defined (tree p _) n k h = absurd h

  foreign : (f : Tree) → TreeOf a (renamed_tree r f) → IsForeignModule b f → IsForeignModule a (renamed_tree r f)
  foreign (tree p (atom m)) k h = λ e. h (sym (renames.keeps m k) ∙ e)
  foreign (tree p _) k h = absurd h

  is_atom : (f : Tree) → IsAtom f → IsAtom (renamed_tree r f)
  is_atom (tree p (atom m)) h = tt
  is_atom (tree p _) h = absurd h

  mutual
    pattern : (e : Tree) → IsPattern e → IsPattern (renamed_tree r e)
    pattern (tree p e) h = pattern_shape e h

    pattern_shape : (e : Shape) → IsPatternShape e → IsPatternShape (renamed_shape r e)
    pattern_shape (int i) h = tt
    pattern_shape (atom n) h = tt
    pattern_shape (var n) h = tt
    pattern_shape any h = tt
    pattern_shape (list es) h = patterns es h
    pattern_shape (list_to es e) h = (patterns es h.0, pattern e h.1)
    pattern_shape (tuple es) h = patterns es h
    pattern_shape _ h = absurd h

    patterns : (es : Trees) → ArePatterns es → ArePatterns (renamed_all r es)
    patterns end h = tt
    patterns (more e es) h = (pattern e h.0, patterns es h.1)

  some_renamed : (cs : Clauses) → AreSome cs → AreSome (renamed_clauses r cs)
  some_renamed no_clauses h = absurd h
  some_renamed (clause p ps g body cs) h = tt

  module _ (defined : List FunctionName) where
    mutual
      built : (e : Tree) → TreeOf a (renamed_tree r e) → IsBuiltTree b defined e → IsBuiltTree a (map (renamed_key r) defined) (renamed_tree r e)
      built (tree p e) k h = built_shape e k h

      built_shape : (e : Shape) → ShapeOf a (renamed_shape r e) → IsBuiltShape b defined e → IsBuiltShape a (map (renamed_key r) defined) (renamed_shape r e)
      built_shape (int i) k h = tt
      built_shape (atom n) k h = tt
      built_shape (var n) k h = tt
      built_shape any k h = tt
      built_shape (list es) k h = built_all es k h
      built_shape (list_to es e) k h = (built_all es k.0 h.0, built e k.1 h.1)
      built_shape (tuple es) k h = built_all es k h
      built_shape (matching p e) k h = (pattern p h.0, built e k.1 h.1)
      built_shape (call f es) k h =
          (subst (IsCallOf a (map (renamed_key r) defined) (renamed_tree r f)) (sym (count_stays r es)) (call_of defined f (count es) k.0 h.0), built_all es k.1 h.1)
      built_shape (remote m f es) k h = (foreign m k.0 h.0, is_atom f h.1, built_all es k.2 h.2)
      built_shape (case_of e cs) k h = (built e k.0 h.0, some_renamed cs h.1, built_clauses 1 cs k.1 h.2)
      built_shape _ k h = absurd h

      built_all : (es : Trees) → TreesOf a (renamed_all r es) → AreBuilt b defined es → AreBuilt a (map (renamed_key r) defined) (renamed_all r es)
      built_all end k h = tt
      built_all (more e es) k h = (built e k.0 h.0, built_all es k.1 h.1)

      built_clauses : (arity : ℕ) (cs : Clauses) → ClausesOf a (renamed_clauses r cs) → AreBuiltClauses b defined arity cs
          → AreBuiltClauses a (map (renamed_key r) defined) arity (renamed_clauses r cs)
      built_clauses arity no_clauses k h = tt
      built_clauses arity (clause p ps (or_guard es gs) body cs) k h = absurd h
      built_clauses arity (clause p ps no_guard body cs) k h =
          (count_stays r ps ∙ h.0, patterns ps h.1, subst (λ n. 1 ≤ n) (sym (count_stays r body)) h.2, built_all body k.2 h.3, built_clauses arity cs k.3 h.4)

    built_functions : (fs : List FunctionTree) → Each IsOfTable fs → Each (IsBuiltFunction b defined) fs → Each (IsBuiltFunction a (map (renamed_key r) defined)) (map (renamed_function r) fs)
    built_functions [] k h = tt
    built_functions (f ∷ fs) k h =
        ((λ info. h.0.0 (was_info (key_of f) k.0.0 info), built_clauses f.arity f.clauses k.0.1 h.0.1), built_functions fs k.1 h.1)

  pub built_module : (m : ModuleTree) → FormsOf a (map (renamed_placed r) m.forms) → IsBuilt b m → IsBuilt a (renamed_module r m)
  built_module m k h =
      let defined = defined_renamed r m.forms in
      let exported = exports_renamed r m.forms in
      record {
        forms = forms_renamed r m.forms h.forms;
        one_export = count_renamed r m.forms ∙ h.one_export;
        functions = subst IsDistinct (sym defined) (distinct_map (renamed_key r) (defined_in m.forms) keys_injective h.functions);
        exports = subst IsDistinct (sym exported) (distinct_map (renamed_key r) (exports_in m.forms) keys_injective h.exports);
        exported = subst₂ (λ ds es. Each (IsDefined a ds) es) (sym defined) (sym exported) (each_defined (defined_in m.forms) (exports_in m.forms) (all_exports m.forms k) h.exported);
        bodies = subst₂ (λ ds fs. Each (IsBuiltFunction a ds) fs) (sym defined) (sym (functions_renamed r m.forms))
            (built_functions (defined_in m.forms) (functions_in m.forms) (all_functions m.forms k) h.bodies);
      }
