-- Names that get variables, one after another.
use Rattle.std.proofs.Common.{◌≡◌, ◌<◌, ◌+◌, ◌==◌, ℕ, zero, suc, Bool, true, false, if◌then◌else◌, List, [], ◌∷◌, ◌++◌, length, get_or, map, take, Some, None, refl, sym, ap, ◌∙◌, subst, arith, append_assoc}
use Rattle.std.proofs.lemmas.List.{map-append, take_more}
use Rattle.ef_base.specs.declared.name.Name.{Name}
use Rattle.ef_core.specs.declared.env.Bind.{Bind}
use Rattle.ef_core.specs.declared.literal.CoreVar.{CoreVar}
use Rattle.ef_core.specs.declared.literal.CoreVar.TheVariants.{Numbered}
use Rattle.ef_core.specs.declared.tree.CoreExpr.{CoreExpr}
use Rattle.ef_core.specs.Env.{NamesDiffer, bind, held}
use Rattle.ef_core.specs.Everywhere.{Each}
use Rattle.ef_core.specs.Plain.{plain}
use Rattle.ef_core.specs.Tree.{CoreTree, var}
use Rattle.ef_core.proofs.Held.{held_back, held_before}
use Rattle.ef_meaning.specs.Cases.{AreHeld, names_of}
use Rattle.ef_meaning.specs.Lowers.{env_from, params_from}
use Rattle.ef_lower.specs.Exports.{held_variables}

-- the variable of one more name behind other values
pub variables_push : (values new : List CoreExpr) (first : List CoreTree) (bs : List Bind) (i : ℕ) (d : Bind) (e : CoreExpr) → i < length bs → new ≡ values ++ e ∷ [] → plain e ≡ var (get_or bs i d).var → map plain values ≡ first ++ held_variables (take i bs) → map plain new ≡ first ++ held_variables (take (i + 1) bs)
variables_push values new first bs i d e small pushed is so_far =
    ap (map plain) pushed
    ∙ map-append plain values (e ∷ [])
    ∙ ap (λ l. l ++ plain e ∷ []) so_far
    ∙ append_assoc first (held_variables (take i bs)) (plain e ∷ [])
    ∙ ap (λ t. first ++ (held_variables (take i bs) ++ t ∷ [])) is
    ∙ ap (λ l. first ++ l) (sym (map-append (λ (b : Bind). var b.var) (take i bs) (get_or bs i d ∷ [])) ∙ ap held_variables (sym (take_more bs i d small)))

-- ---- variables from a number on

params_more : (n : ℕ) (xs : List Name) (x : Name) → params_from n (xs ++ x ∷ []) ≡ params_from n xs ++ Numbered (n + length xs) ∷ []
params_more n [] x = ap (λ k. Numbered k ∷ []) (let same : n ≡ n + 0 = omega arith in same)
params_more n (y ∷ xs) x = ap (λ l. Numbered n ∷ l) (params_more (n + 1) xs x ∙ ap (λ k. params_from (n + 1) xs ++ Numbered k ∷ []) (let same : n + 1 + length xs ≡ n + length (y ∷ xs) = omega arith in same))

env_more : (n : ℕ) (xs : List Name) (x : Name) → env_from n (xs ++ x ∷ []) ≡ env_from n xs ++ bind x (Numbered (n + length xs)) ∷ []
env_more n [] x = ap (λ k. bind x (Numbered k) ∷ []) (let same : n ≡ n + 0 = omega arith in same)
env_more n (y ∷ xs) x = ap (λ l. bind y (Numbered n) ∷ l) (env_more (n + 1) xs x ∙ ap (λ k. env_from (n + 1) xs ++ bind x (Numbered k) ∷ []) (let same : n + 1 + length xs ≡ n + length (y ∷ xs) = omega arith in same))

taken_count : (bs : List Bind) (i : ℕ) → i < length bs → length (names_of (take i bs)) ≡ i
taken_count [] i small = absurd (omega arith)
taken_count (b ∷ bs) zero small = refl
taken_count (b ∷ bs) (suc i) small = let rest = taken_count bs i (omega arith) in omega arith

names_next : (bs : List Bind) (i : ℕ) (d : Bind) → i < length bs → names_of (take (i + 1) bs) ≡ names_of (take i bs) ++ (get_or bs i d).name ∷ []
names_next bs i d small = ap names_of (take_more bs i d small) ∙ map-append (λ (b : Bind). b.name) (take i bs) (get_or bs i d ∷ [])

module _ (bs : List Bind) (i n m : ℕ) (v : CoreVar) (small : i < length bs) (number : m ≡ n + i) (is : v ≡ Numbered m) where
  next_var : v ≡ Numbered (n + length (names_of (take i bs)))
  next_var = is ∙ ap Numbered (number ∙ ap (λ k. n + k) (sym (taken_count bs i small)))

  pub params_push : (vs first new : List CoreVar) → new ≡ vs ++ v ∷ [] → vs ≡ first ++ params_from n (names_of (take i bs)) → new ≡ first ++ params_from n (names_of (take (i + 1) bs))
  params_push vs first new pushed so_far =
      let d = bind (record { index = 0 }) v in
      pushed ∙ ap (λ l. l ++ v ∷ []) so_far ∙ ap (λ u. first ++ params_from n (names_of (take i bs)) ++ u ∷ []) next_var
      ∙ append_assoc first (params_from n (names_of (take i bs))) (Numbered (n + length (names_of (take i bs))) ∷ [])
      ∙ ap (λ l. first ++ l) (sym (params_more n (names_of (take i bs)) (get_or bs i d).name) ∙ ap (params_from n) (sym (names_next bs i d small)))

  pub env_push : (d : Bind) (env first new : List Bind) → new ≡ env ++ bind (get_or bs i d).name v ∷ [] → env ≡ first ++ env_from n (names_of (take i bs)) → new ≡ first ++ env_from n (names_of (take (i + 1) bs))
  env_push d env first new pushed so_far =
      pushed ∙ ap (λ l. l ++ bind (get_or bs i d).name v ∷ []) so_far ∙ ap (λ u. first ++ env_from n (names_of (take i bs)) ++ bind (get_or bs i d).name u ∷ []) next_var
      ∙ append_assoc first (env_from n (names_of (take i bs))) (bind (get_or bs i d).name (Numbered (n + length (names_of (take i bs)))) ∷ [])
      ∙ ap (λ l. first ++ l) (sym (env_more n (names_of (take i bs)) (get_or bs i d).name) ∙ ap (env_from n) (sym (names_next bs i d small)))

-- ---- a name that is new

renamed_none : (bs : List Bind) (n : ℕ) (x : Name) → held bs x ≡ None → held (env_from n (names_of bs)) x ≡ None
renamed_none [] n x none = refl
renamed_none (b ∷ bs) n x none = by (b.name.index == x.index) none (λ h. renamed_none bs (n + 1) x h)
  where
    by : (t : Bool) → (if t then Some b.var else held bs x) ≡ None → (held bs x ≡ None → held (env_from (n + 1) (names_of bs)) x ≡ None) → (if t then Some (Numbered n) else held (env_from (n + 1) (names_of bs)) x) ≡ None
    by true h rest = absurd cc
    by false h rest = rest h

new_at : (env bs : List Bind) (i : ℕ) (d : Bind) → Each (λ b. held env b.name ≡ None) bs → i < length bs → held env (get_or bs i d).name ≡ None
new_at env [] i d new small = absurd (omega arith)
new_at env (b ∷ bs) zero d new small = new.0
new_at env (b ∷ bs) (suc i) d new small = new_at env bs i d new.1 (omega arith)

pub not_yet : (env first bs : List Bind) (i n : ℕ) (d : Bind) → NamesDiffer bs → Each (λ b. held first b.name ≡ None) bs → i < length bs → env ≡ first ++ env_from n (names_of (take i bs)) → held env (get_or bs i d).name ≡ None
not_yet env first bs i n d differ new small is =
    ap (λ l. held l (get_or bs i d).name) is
    ∙ held_back first (env_from n (names_of (take i bs))) (get_or bs i d).name (new_at first bs i d new small)
    ∙ renamed_none (take i bs) n (get_or bs i d).name (held_before bs i d differ small)

-- ---- names with variables of their own

pub bound_next : (env first new bs : List Bind) (i : ℕ) (d : Bind) → i < length bs → new ≡ env ++ bind (get_or bs i d).name (get_or bs i d).var ∷ [] → env ≡ first ++ take i bs → new ≡ first ++ take (i + 1) bs
bound_next env first new bs i d small pushed so_far =
    pushed ∙ ap (λ l. l ++ get_or bs i d ∷ []) so_far ∙ append_assoc first (take i bs) (get_or bs i d ∷ []) ∙ ap (λ l. first ++ l) (sym (take_more bs i d small))

pub not_bound_yet : (env first bs : List Bind) (i : ℕ) (d : Bind) → NamesDiffer bs → Each (λ b. held first b.name ≡ None) bs → i < length bs → env ≡ first ++ take i bs → held env (get_or bs i d).name ≡ None
not_bound_yet env first bs i d differ new small is =
    ap (λ l. held l (get_or bs i d).name) is ∙ held_back first (take i bs) (get_or bs i d).name (new_at first bs i d new small) ∙ held_before bs i d differ small

-- the same names, with other variables
pub own_named : (bs own new : List Bind) (i : ℕ) (d : Bind) (v : CoreVar) → i < length bs → new ≡ own ++ bind (get_or bs i d).name v ∷ [] → names_of own ≡ names_of (take i bs) → names_of new ≡ names_of (take (i + 1) bs)
own_named bs own new i d v small pushed so_far =
    ap names_of pushed ∙ map-append (λ (b : Bind). b.name) own (bind (get_or bs i d).name v ∷ []) ∙ ap (λ l. l ++ (get_or bs i d).name ∷ []) so_far ∙ sym (names_next bs i d small)

pub own_held : (env own new : List Bind) (x : Name) (v : CoreVar) → new ≡ own ++ bind x v ∷ [] → AreHeld env own → held env x ≡ Some v → AreHeld env new
own_held env own new x v pushed are is = subst (AreHeld env) (sym pushed) (behind own are)
  where
    behind : (bs : List Bind) → AreHeld env bs → AreHeld env (bs ++ bind x v ∷ [])
    behind [] all = (is, tt)
    behind (b ∷ bs) all = (all.0, behind bs all.1)
