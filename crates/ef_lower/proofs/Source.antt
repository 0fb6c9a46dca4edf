-- What is ready in the parts of trees.
use Rattle.std.proofs.Common.{◌≡◌, ◌<◌, ◌≤◌, ◌+◌, ◌-◌, ℕ, zero, suc, true, false, ◌||◌, List, [], ◌∷◌, ◌++◌, length, map, get_or, drop, take, Option, Some, None, Vec, Box, refl, sym, ap, ◌∙◌, subst, arith, length-take-le}
use Rattle.std.proofs.lemmas.List.{take_all}
use Rattle.std.specs.List.{flat_map}
use Rattle.std.specs.declared.alloc.Global.{Global}
use Rattle.ef_base.specs.declared.name.Name.{Name}
use Rattle.ef_base.specs.declared.fault.Place.{Place}
use Rattle.ef_base.specs.Texts.{Texts, HasName}
use Rattle.ef_core.specs.declared.env.Bind.{Bind}
use Rattle.ef_core.specs.Everywhere.{Each}
use Rattle.ef_core.proofs.Lists.{drop_at}
use Rattle.ef_forms.specs.declared.expr.Clause.{Clause}
use Rattle.ef_forms.specs.declared.expr.Expr.{Expr}
use Rattle.ef_forms.specs.declared.expr.Node.{Node}
use Rattle.ef_forms.specs.declared.expr.Node.TheVariants as node
use Rattle.ef_forms.specs.declared.tables.FunctionName.{FunctionName}
use Rattle.ef_forms.specs.Built.{AreBuilt, AreBuiltClauses, AreNarrow, AreNarrowClauses, IsAtom, IsBuiltTree, IsCallOf, IsDefined, IsForeignModule, IsNarrow}
use Rattle.ef_forms.specs.OfTable.{ClausesOf, TreeOf, TreesOf}
use Rattle.ef_forms.specs.Plain.{guards, plain, plain_all, plain_clause, plain_clauses, plain_node, trees}
use Rattle.ef_forms.specs.Sure.{sure}
use Rattle.ef_forms.specs.Tree.{Shape, Tree, Trees, Clauses, tree, atom, var, list, list_to, tuple, matching, call, remote, case_of, clause, count}
use Rattle.ef_forms.specs.Ways.{NameSet, union, all_names, all_faults, body_faults, clauses_faults, faults, pattern_faults, patterns_faults, ways}
use Rattle.ef_forms.specs.Weight.{all_weight, clauses_weight, weight}
use Rattle.ef_forms.proofs.Plain.{plain_expr}
use Rattle.ef_forms.proofs.Shapes.{plain_list, plain_list_to}
use Rattle.ef_lowpat.proofs.Takes.{take_next}
use Rattle.ef_lower.specs.LastCalls.{IsWithin}
use Rattle.ef_lower.specs.Lowers.{Binds}
use Rattle.ef_lower.specs.Ready.{AreReady, IsReady, IsReadyClause, bound_names}
use Rattle.ef_lower.proofs.Faults.{Safer, from_left, nothing_left, nothing_right, safer_clauses, safer_faults, safer_more, safer_same, safer_ways, used_bound}
use Rattle.ef_lower.proofs.Sizes.{counted, or_false}

-- ---- more names

pub grown_within : {texts : Texts} {env0 env1 : List Bind} (s : NameSet) → Binds texts env0 s env1 → IsWithin (bound_names env0) (bound_names env1)
grown_within {texts} {env0} {env1} s b y here = b.named y ∙ from_left (bound_names env0 y) (s y) here

-- sets of the same names
pub same_set : (s t : NameSet) → ((y : ℕ) → s y ≡ t y) → s ≡ t
same_set s t same = λ i y. same y i

-- ---- trees of expressions

pub expr_is : (e : Expr) (n : Node) (s : Shape) → e.node ≡ n → plain_node n ≡ s → plain e ≡ tree e.place s
expr_is e n s is same = plain_expr e ∙ ap (λ m. tree e.place (plain_node m)) is ∙ ap (tree e.place) same

-- the name of an atom of the table
pub atom_named : (texts : Texts) (e : Tree) (p : Place) (n : Name) → TreeOf texts e → e ≡ tree p (atom n) → HasName texts n
atom_named texts e p n of_table is = subst (TreeOf texts) is of_table

module _ (texts : Texts) (defined : List FunctionName) where
  pub ready_as : {s : NameSet} {e f : Tree} → e ≡ f → IsReady texts defined s e → IsReady texts defined s f
  ready_as {s} same ready = subst (IsReady texts defined s) same ready

  pub ready_more : {s : NameSet} (t : NameSet) {e : Tree} → IsWithin s t → IsReady texts defined s e → IsReady texts defined t e
  ready_more {s} t {e} within ready = record { built = ready.built; narrow = ready.narrow; of_table = ready.of_table; no_faults = safer_faults texts e (t ∷ []) (s ∷ []) (safer_more s t within) ready.no_faults }

  -- ---- parts

  pub call_target : (f : Tree) (arity : ℕ) → IsCallOf texts defined f arity → IsAtom f
  call_target (tree p (atom n)) arity is = tt
  call_target (tree p _) arity is = absurd is

  pub remote_module : (m : Tree) → IsForeignModule texts m → IsAtom m
  remote_module (tree p (atom n)) foreign = tt
  remote_module (tree p _) foreign = absurd foreign

  module _ {s : NameSet} where
    pub var_bound : (p : Place) (n : Name) → IsReady texts defined s (tree p (var n)) → s n.index ≡ true
    var_bound p n ready = used_bound texts p n s ready.no_faults

    pub tuple_items : (p : Place) (es : Trees) → IsReady texts defined s (tree p (tuple es)) → AreReady texts defined s es
    tuple_items p es ready = record { built = ready.built; narrow = ready.narrow; of_table = ready.of_table; no_faults = ready.no_faults }

    pub list_items : (p : Place) (es : Trees) → IsReady texts defined s (tree p (list es)) → AreReady texts defined s es
    list_items p es ready = record { built = ready.built; narrow = ready.narrow; of_table = ready.of_table; no_faults = ready.no_faults }

    pub list_to_items : (p : Place) (es : Trees) (e : Tree) → IsReady texts defined s (tree p (list_to es e)) → AreReady texts defined s es
    list_to_items p es e ready = record {
      built = ready.built.0;
      narrow = ready.narrow.0;
      of_table = ready.of_table.0;
      no_faults = nothing_left (all_faults texts es (s ∷ [])) (faults texts e (s ∷ [])) ready.no_faults;
    }

    pub list_to_tail : (p : Place) (es : Trees) (e : Tree) → IsReady texts defined s (tree p (list_to es e)) → IsReady texts defined s e
    list_to_tail p es e ready = record {
      built = ready.built.1;
      narrow = ready.narrow.1;
      of_table = ready.of_table.1;
      no_faults = nothing_right (all_faults texts es (s ∷ [])) (faults texts e (s ∷ [])) ready.no_faults;
    }

    -- the items, with or without a tail; they are less heavy
    pub items_ready : (e : Expr) (items : Vec Expr Global) (tail : Option (Box Expr Global)) → e.node ≡ node.List items tail → IsReady texts defined s (plain e) → AreReady texts defined s (plain_all items.items) × (all_weight (plain_all items.items) + 1 ≤ weight (plain e))
    items_ready e items None is ready =
        let same = expr_is e _ _ is (plain_list items) in
        let weighs = ap weight same in
        (list_items e.place (plain_all items.items) (ready_as same ready), omega arith)
    items_ready e items (Some tail) is ready =
        let same = expr_is e _ _ is (plain_list_to items tail) in
        let weighs = ap weight same in
        (list_to_items e.place (plain_all items.items) (plain tail.value) (ready_as same ready), omega arith)

    pub match_right : (p : Place) (q e : Tree) → IsReady texts defined s (tree p (matching q e)) → IsReady texts defined s e
    match_right p q e ready = record {
      built = ready.built.1;
      narrow = ready.narrow.1;
      of_table = ready.of_table.1;
      no_faults = nothing_left (faults texts e (s ∷ [])) (pattern_faults texts q (flat_map (ways e) (s ∷ []))) ready.no_faults;
    }

    pub case_argument : (p : Place) (e : Tree) (cs : Clauses) → IsReady texts defined s (tree p (case_of e cs)) → IsReady texts defined s e
    case_argument p e cs ready = record {
      built = ready.built.0;
      narrow = ready.narrow.0;
      of_table = ready.of_table.0;
      no_faults = nothing_left (faults texts e (s ∷ [])) (clauses_faults texts cs (flat_map (ways e) (s ∷ []))) ready.no_faults;
    }

    pub call_args : (p : Place) (f : Tree) (es : Trees) → IsReady texts defined s (tree p (call f es)) → AreReady texts defined s es
    call_args p f es ready = record {
      built = ready.built.1;
      narrow = ready.narrow.2;
      of_table = ready.of_table.1;
      no_faults = nothing_right (faults texts f (s ∷ [])) (all_faults texts es (s ∷ [])) ready.no_faults;
    }

    pub remote_args : (p : Place) (m f : Tree) (es : Trees) → IsReady texts defined s (tree p (remote m f es)) → AreReady texts defined s es
    remote_args p m f es ready = record {
      built = ready.built.2;
      narrow = ready.narrow.3;
      of_table = ready.of_table.2;
      no_faults = nothing_right (faults texts f (s ∷ [])) (all_faults texts es (s ∷ [])) (nothing_right (faults texts m (s ∷ [])) (faults texts f (s ∷ []) ++ all_faults texts es (s ∷ [])) ready.no_faults);
    }

    pub call_defined : (p q : Place) (f : Tree) (es : Trees) (n : Name) (arity : ℕ) → IsReady texts defined s (tree p (call f es)) → f ≡ tree q (atom n) → arity ≡ count es → IsDefined texts defined (record { name = n; arity = arity })
    call_defined p q f es n arity ready is number =
        subst (λ a. IsDefined texts defined (record { name = n; arity = a })) (sym number) (subst (λ g. IsCallOf texts defined g (count es)) is ready.built.0)

    pub ready_at : (es : List Expr) (i : ℕ) (e : Expr) → AreReady texts defined s (plain_all es) → i < length es → e ≡ get_or es i e → IsReady texts defined s (plain e)
    ready_at [] i e all small read = absurd (omega arith)
    ready_at (y ∷ es) zero e all small read = subst (λ z. IsReady texts defined s (plain z)) (sym read) (record {
      built = all.built.0;
      narrow = all.narrow.0;
      of_table = all.of_table.0;
      no_faults = nothing_left (faults texts (plain y) (s ∷ [])) (all_faults texts (plain_all es) (s ∷ [])) all.no_faults;
    })
    ready_at (y ∷ es) (suc i) e all small read =
        let rest : AreReady texts defined s (plain_all es) = record {
          built = all.built.1;
          narrow = all.narrow.1;
          of_table = all.of_table.1;
          no_faults = nothing_right (faults texts (plain y) (s ∷ [])) (all_faults texts (plain_all es) (s ∷ [])) all.no_faults;
        } in
        ready_at es i e rest (omega arith) read

-- ---- clauses

module _ (texts : Texts) (defined : List FunctionName) where
  -- clauses that start with these names
  pub record AreReadyClauses (s : NameSet) (cs : Clauses) : Type 0 where
    pub built : AreBuiltClauses texts defined 1 cs
    pub narrow : AreNarrowClauses cs
    pub of_table : ClausesOf texts cs
    pub no_faults : clauses_faults texts cs (s ∷ []) ≡ []

  -- those of a case start behind its argument
  pub case_clauses : {s : NameSet} (t : NameSet) (p : Place) (e : Tree) (cs : Clauses) → ((y : ℕ) → t y ≡ (s y || (sure e y || false))) → IsReady texts defined s (tree p (case_of e cs)) → AreReadyClauses t cs
  case_clauses {s} t p e cs named ready = record {
    built = ready.built.2;
    narrow = ready.narrow.1;
    of_table = ready.of_table.1;
    no_faults =
        let is = same_set t (union s (sure e)) (λ y. named y ∙ ap (λ b. s y || b) (or_false (sure e y))) in
        subst (λ u. clauses_faults texts cs (u ∷ []) ≡ []) (sym is)
        (safer_clauses texts cs (union s (sure e) ∷ []) (flat_map (ways e) (s ∷ [])) (safer_ways s (s ∷ []) (safer_same s) e)
        (nothing_right (faults texts e (s ∷ [])) (clauses_faults texts cs (flat_map (ways e) (s ∷ []))) ready.no_faults));
  }

  -- one of them
  first_ready : (s : NameSet) (p : Place) (ps : List Tree) (gs : List (List Tree)) (body : List Tree) (rest : Clauses) → AreReadyClauses s (clause p (trees ps) (guards gs) (trees body) rest) → IsReadyClause texts defined s (record { place = p; patterns = ps; guard = gs; body = body }) × AreReadyClauses s rest
  first_ready s p ps [] body rest are =
      let behind = nothing_right (patterns_faults texts (trees ps) (s ∷ [])) (body_faults texts (trees body) (union s (all_names (trees ps)) ∷ []) ++ clauses_faults texts rest (s ∷ [])) are.no_faults in (
        record {
          unguarded = refl;
          one = sym (counted ps) ∙ are.built.0;
          patterns = are.built.1;
          named = are.of_table.0;
          some = let number = counted body in let filled : 1 ≤ count (trees body) = are.built.2 in omega arith;
          built = are.built.3;
          narrow = are.narrow.3;
          of_table = are.of_table.2;
          no_faults = nothing_left (body_faults texts (trees body) (union s (all_names (trees ps)) ∷ [])) (clauses_faults texts rest (s ∷ [])) behind;
        },
        record {
          built = are.built.4;
          narrow = are.narrow.4;
          of_table = are.of_table.3;
          no_faults = nothing_right (body_faults texts (trees body) (union s (all_names (trees ps)) ∷ [])) (clauses_faults texts rest (s ∷ [])) behind;
        },
      )
  first_ready s p ps (es ∷ gs) body rest are = absurd are.built

  pub each_ready : (s : NameSet) (cs : List Clause) → AreReadyClauses s (plain_clauses cs) → Each (λ c. IsReadyClause texts defined s (plain_clause c)) cs
  each_ready s [] are = tt
  each_ready s (c ∷ cs) are =
      let k = plain_clause c in
      let parts = first_ready s k.place k.patterns k.guard k.body (plain_clauses cs) are in
      (parts.0, each_ready s cs parts.1)

pub each_get : {A : Type 0} (P : A → Type 0) (xs : List A) (i : ℕ) (x : A) → Each P xs → i < length xs → x ≡ get_or xs i x → P x
each_get P [] i x all small read = absurd (omega arith)
each_get P (y ∷ xs) zero x all small read = subst P (sym read) all.0
each_get P (y ∷ xs) (suc i) x all small read = each_get P xs i x all.1 (omega arith) read

pub clause_within : (cs : List Clause) (i : ℕ) (c : Clause) → i < length cs → c ≡ get_or cs i c → clauses_weight (plain_clauses (c ∷ [])) ≤ clauses_weight (plain_clauses cs)
clause_within [] i c small read = absurd (omega arith)
clause_within (d ∷ cs) zero c small read = let same = ap (λ k. clauses_weight (plain_clauses (k ∷ []))) read in omega arith
clause_within (d ∷ cs) (suc i) c small read = let rest = clause_within cs i c (omega arith) read in omega arith

-- ---- bodies

module _ (texts : Texts) (defined : List FunctionName) where
  parts_at : (es : List Expr) (i : ℕ) (e : Expr) → AreBuilt texts defined (plain_all es) → AreNarrow (plain_all es) → TreesOf texts (plain_all es) → i < length es → e ≡ get_or es i e → IsBuiltTree texts defined (plain e) × IsNarrow (plain e) × TreeOf texts (plain e)
  parts_at [] i e built narrow of_table small read = absurd (omega arith)
  parts_at (y ∷ es) zero e built narrow of_table small read =
      (subst (λ z. IsBuiltTree texts defined (plain z)) (sym read) built.0, subst (λ z. IsNarrow (plain z)) (sym read) narrow.0, subst (λ z. TreeOf texts (plain z)) (sym read) of_table.0)
  parts_at (y ∷ es) (suc i) e built narrow of_table small read = parts_at es i e built.1 narrow.1 of_table.1 (omega arith) read

  -- what is left of a body from an expression on has no faults, where these are bound at most
  pub record IsLeft (es : List Expr) (i : ℕ) (bound : NameSet) : Type 0 where
    pub sets : List NameSet
    pub no_faults : body_faults texts (plain_all (drop i es)) sets ≡ []
    pub safer : Safer (bound ∷ []) sets

  pub all_left : (es : List Expr) (bound : NameSet) → body_faults texts (plain_all es) (bound ∷ []) ≡ [] → IsLeft es 0 bound
  all_left es bound none = record { sets = bound ∷ []; no_faults = none; safer = safer_same bound }

  module _ (es : List Expr) (i : ℕ) (e : Expr) (bound : NameSet) (left : IsLeft es i bound) (small : i < length es) (read : e ≡ get_or es i e) where
    split : faults texts (plain e) left.sets ++ body_faults texts (plain_all (drop (i + 1) es)) (flat_map (ways (plain e)) left.sets) ≡ []
    split = sym (ap (λ l. body_faults texts (plain_all l) left.sets) (drop_at es i e small read)) ∙ left.no_faults

    pub ready_left : AreBuilt texts defined (plain_all es) → AreNarrow (plain_all es) → TreesOf texts (plain_all es) → IsReady texts defined bound (plain e)
    ready_left built narrow of_table =
        let parts = parts_at es i e built narrow of_table small read in
        record {
          built = parts.0;
          narrow = parts.1;
          of_table = parts.2;
          no_faults = safer_faults texts (plain e) (bound ∷ []) left.sets left.safer (nothing_left (faults texts (plain e) left.sets) (body_faults texts (plain_all (drop (i + 1) es)) (flat_map (ways (plain e)) left.sets)) split);
        }

    pub next_left : (next : NameSet) → ((y : ℕ) → next y ≡ (bound y || (sure (plain e) y || false))) → IsLeft es (i + 1) next
    next_left next named = record {
      sets = flat_map (ways (plain e)) left.sets;
      no_faults = nothing_right (faults texts (plain e) left.sets) (body_faults texts (plain_all (drop (i + 1) es)) (flat_map (ways (plain e)) left.sets)) split;
      safer =
          let is = same_set next (union bound (sure (plain e))) (λ y. named y ∙ ap (λ b. bound y || b) (or_false (sure (plain e) y))) in
          subst (λ u. Safer (u ∷ []) (flat_map (ways (plain e)) left.sets)) (sym is) (safer_ways bound left.sets left.safer (plain e));
    }

-- ---- elements of a front part

-- an element of a front part is one of the whole
pub taken : {A : Type 0} (n : ℕ) (xs : List A) (i : ℕ) (x : A) → i < length (take n xs) → x ≡ get_or (take n xs) i x → (i < length xs) × (x ≡ get_or xs i x)
taken zero xs i x small read = absurd (let none : length (take 0 xs) ≡ 0 = taken_none xs in omega arith)
  where
    taken_none : {A : Type 0} (xs : List A) → length (take 0 xs) ≡ 0
    taken_none [] = refl
    taken_none (x ∷ xs) = refl
taken (suc n) [] i x small read = absurd (omega arith)
taken (suc n) (y ∷ xs) zero x small read = (omega arith, read)
taken (suc n) (y ∷ xs) (suc i) x small read =
    let rest = taken n xs i x (omega arith) read in
    (omega (arith, rest.0), rest.1)

pub last_place : {A : Type 0} (xs : List A) (i : ℕ) → 1 ≤ length xs → length (take (length xs - 1) xs) ≤ i → i ≤ length (take (length xs - 1) xs) → i ≡ length xs - 1
last_place xs i some over within =
    let front : length (take (length xs - 1) xs) ≡ length xs - 1 = length-take-le (length xs - 1) xs (omega arith) in
    omega arith

-- all but the last, and the last
pub take_last : {A B : Type 0} (f : A → B) (xs : List A) (i : ℕ) (x : A) → i + 1 ≡ length xs → x ≡ get_or xs i x → map f (take i xs) ++ f x ∷ [] ≡ map f xs
take_last f xs i x all read = sym (take_next f xs i x (omega arith) read) ∙ ap (map f) (take_all (i + 1) xs (omega arith))
