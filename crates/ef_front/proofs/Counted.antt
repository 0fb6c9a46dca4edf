-- Sizes that are counted part by part.
use Rattle.std.proofs.Common.{◌≡◌, ◌≤◌, ◌<◌, ◌+◌, ◌^◌, ℕ, suc, min, max, List, [], ◌∷◌, length, drop, get_or, add-one, refl, sym, ap, ap₂, ◌∙◌, subst, arith, Bool, true, false, nat_lt, ◌||◌, ◌-◌}
use Rattle.std.specs.Prelude.{Vec}
use Rattle.std.specs.declared.alloc.Global.{Global}
use Rattle.std.proofs.Math.Seq.{drop-cons}
use Rattle.std.proofs.lemmas.Bool.{ltb-true, ltb-false, lt-ltb, le-ltb}
use Rattle.std.proofs.lemmas.List.{drop_all}
use Rattle.ef_forms.specs.declared.expr.Clause.{Clause, out-Clause}
use Rattle.ef_forms.specs.declared.expr.Expr.{Expr}
use Rattle.ef_forms.specs.Depth.{depth, all_depth, guards_depth, clauses_depth, function_depth}
use Rattle.ef_forms.specs.Plain.{plain, plain_all, plain_guard, plain_clauses}
use Rattle.ef_forms.specs.Weight.{weight, all_weight, guards_weight, clauses_weight, function_weight}
use Rattle.ef_front.specs.declared.sizes.Size.{Size}
use Rattle.ef_forms.specs.Tree.{FunctionTree}
use Rattle.ef_front.specs.Sizes.{is_too_large, joined, size}
use Rattle.ef_front.specs.Source.{most_depth, most_weight}

same_size : (s t : Size) → s.depth ≡ t.depth → s.weight ≡ t.weight → s ≡ t
same_size s t d w = ap (λ n. let u : Size = record { depth = n; weight = s.weight } in u) d ∙ ap (λ n. let u : Size = record { depth = t.depth; weight = n } in u) w

-- of two parts
pub both : (d e w v : ℕ) → joined (size d w) (size e v) ≡ size (max d e) (w + v)
both d e w v = same_size _ _ (omega arith) (omega arith)

together : (s t u : Size) → joined (joined s t) u ≡ joined s (joined t u)
together s t u = same_size _ _ (omega arith) (omega arith)

-- what is left of the parts goes to what was counted
pub record IsLeft (so_far left whole : Size) : Type 0 where
  pub most : so_far.weight ≤ 2 ^ 22 + 1
  pub sum : joined so_far left ≡ whole

start : (s : Size) (d w : ℕ) → s ≡ size 0 0 → IsLeft s (size d w) (size d w)
start s d w none = subst (λ t. IsLeft t (size d w) (size d w)) (sym none) (record { most = omega arith; sum = same_size _ _ (omega arith) (omega arith) })

more : (so_far whole : Size) (d e w v : ℕ) → IsLeft so_far (size (max d e) (w + v)) whole → IsLeft (joined so_far (size d w)) (size e v) whole
more so_far whole d e w v is = record { most = omega arith; sum = together so_far (size d w) (size e v) ∙ ap (joined so_far) (both d e w v) ∙ is.sum }

ended : (so_far whole : Size) → IsLeft so_far (size 0 0) whole → so_far ≡ whole
ended so_far whole is = same_size so_far (joined so_far (size 0 0)) (omega arith) (omega (arith, is.most)) ∙ is.sum

next : {A : Type 0} (xs : List A) (i : ℕ) (x : A) → i < length xs → x ≡ get_or xs i x → drop i xs ≡ x ∷ drop (i + 1) xs
next xs i x small read = rw add-one (drop-cons xs i x small ∙ ap (λ z. z ∷ drop (suc i) xs) (sym read))

abbrev size_of_all : List Expr → Size
size_of_all es = size (all_depth (plain_all es)) (all_weight (plain_all es))

abbrev size_of_guard : List (Vec Expr Global) → Size
size_of_guard gs = size (guards_depth (plain_guard gs)) (guards_weight (plain_guard gs))

abbrev size_of_clauses : List Clause → Size
size_of_clauses cs = size (clauses_depth (plain_clauses cs)) (clauses_weight (plain_clauses cs))

-- ---- expressions

abbrev pub all_left : List Expr → ℕ → Size → Type 0
all_left es i so_far = IsLeft so_far (size_of_all (drop i es)) (size_of_all es)

pub all_start : (es : List Expr) (s : Size) → s ≡ size 0 0 → all_left es 0 s
all_start es s none = start s (all_depth (plain_all es)) (all_weight (plain_all es)) none

pub all_more : (es : List Expr) (i : ℕ) (e : Expr) (so_far s new : Size) → i < length es → e ≡ get_or es i e → s ≡ size (depth (plain e)) (weight (plain e)) → new ≡ joined so_far s → all_left es i so_far → all_left es (i + 1) new
all_more es i e so_far s new small read here sum is =
    subst (all_left es (i + 1)) (sym (sum ∙ ap (joined so_far) here))
    (more so_far (size_of_all es) (depth (plain e)) (all_depth (plain_all (drop (i + 1) es))) (weight (plain e)) (all_weight (plain_all (drop (i + 1) es)))
    (subst (λ l. IsLeft so_far (size_of_all l) (size_of_all es)) (next es i e small read) is))

pub all_end : (es : List Expr) (i : ℕ) (so_far : Size) → length es ≤ i → all_left es i so_far → so_far ≡ size_of_all es
all_end es i so_far done is = ended so_far (size_of_all es) (subst (λ l. IsLeft so_far (size_of_all l) (size_of_all es)) (drop_all i es done) is)

-- ---- guards

abbrev pub guard_left : List (Vec Expr Global) → ℕ → Size → Type 0
guard_left gs i so_far = IsLeft so_far (size_of_guard (drop i gs)) (size_of_guard gs)

pub guard_start : (gs : List (Vec Expr Global)) (s : Size) → s ≡ size 0 0 → guard_left gs 0 s
guard_start gs s none = start s (guards_depth (plain_guard gs)) (guards_weight (plain_guard gs)) none

pub guard_more : (gs : List (Vec Expr Global)) (i : ℕ) (g : Vec Expr Global) (so_far s new : Size) → i < length gs → g ≡ get_or gs i g → s ≡ size (all_depth (plain_all g.items)) (all_weight (plain_all g.items)) → new ≡ joined so_far s → guard_left gs i so_far → guard_left gs (i + 1) new
guard_more gs i g so_far s new small read here sum is =
    subst (guard_left gs (i + 1)) (sym (sum ∙ ap (joined so_far) here))
    (more so_far (size_of_guard gs) (all_depth (plain_all g.items)) (guards_depth (plain_guard (drop (i + 1) gs))) (all_weight (plain_all g.items)) (guards_weight (plain_guard (drop (i + 1) gs)))
    (subst (λ l. IsLeft so_far (size_of_guard l) (size_of_guard gs)) (next gs i g small read) is))

pub guard_end : (gs : List (Vec Expr Global)) (i : ℕ) (so_far : Size) → length gs ≤ i → guard_left gs i so_far → so_far ≡ size_of_guard gs
guard_end gs i so_far done is = ended so_far (size_of_guard gs) (subst (λ l. IsLeft so_far (size_of_guard l) (size_of_guard gs)) (drop_all i gs done) is)

-- ---- clauses

pub clause_counted : (c : Clause) → joined (joined (size_of_all (out-Clause c).patterns.items) (size_of_guard (out-Clause c).guard.items)) (size_of_all (out-Clause c).body.items) ≡ size_of_clauses (c ∷ [])
clause_counted c =
    ap (λ s. joined s (size_of_all (out-Clause c).body.items)) (both _ _ _ _) ∙ both _ _ _ _ ∙ same_size _ _ (omega arith) (omega arith)

abbrev pub clauses_left : List Clause → ℕ → Size → Type 0
clauses_left cs i so_far = IsLeft so_far (size_of_clauses (drop i cs)) (size_of_clauses cs)

pub clauses_start : (cs : List Clause) (s : Size) → s ≡ size 0 0 → clauses_left cs 0 s
clauses_start cs s none = start s (clauses_depth (plain_clauses cs)) (clauses_weight (plain_clauses cs)) none

-- a clause and those behind it
one_more : (c : Clause) (cs : List Clause) → joined (size_of_clauses (c ∷ [])) (size_of_clauses cs) ≡ size_of_clauses (c ∷ cs)
one_more c cs = both _ _ _ _ ∙ same_size _ _ (omega arith) (omega arith)

pub clauses_more : (cs : List Clause) (i : ℕ) (c : Clause) (so_far s new : Size) → i < length cs → c ≡ get_or cs i c → s ≡ size_of_clauses (c ∷ []) → new ≡ joined so_far s → clauses_left cs i so_far → clauses_left cs (i + 1) new
clauses_more cs i c so_far s new small read own sum is =
    let here : IsLeft so_far (size_of_clauses (c ∷ drop (i + 1) cs)) (size_of_clauses cs) = subst (λ l. IsLeft so_far (size_of_clauses l) (size_of_clauses cs)) (next cs i c small read) is in
    subst (clauses_left cs (i + 1)) (sym (sum ∙ ap (joined so_far) own))
    (record { most = omega arith; sum = together so_far (size_of_clauses (c ∷ [])) (size_of_clauses (drop (i + 1) cs)) ∙ ap (joined so_far) (one_more c (drop (i + 1) cs)) ∙ here.sum })

pub clauses_end : (cs : List Clause) (i : ℕ) (so_far : Size) → length cs ≤ i → clauses_left cs i so_far → so_far ≡ size_of_clauses cs
clauses_end cs i so_far done is = ended so_far (size_of_clauses cs) (subst (λ l. IsLeft so_far (size_of_clauses l) (size_of_clauses cs)) (drop_all i cs done) is)

-- ---- functions

over_same : (most cap n : ℕ) → most < cap → nat_lt most (min n cap) ≡ nat_lt most n
over_same most cap n small = go (nat_lt most n) refl
  where
    go : (b : Bool) → nat_lt most n ≡ b → nat_lt most (min n cap) ≡ b
    go true is = let over = ltb-true most n is in lt-ltb most (min n cap) (omega (arith, over, small))
    go false is = let under = ltb-false most n is in le-ltb most (min n cap) (omega (arith, under))

pub too_large : (f : FunctionTree) (s : Size) → s ≡ size (function_depth f) (function_weight f) → (nat_lt most_depth s.depth || nat_lt most_weight s.weight) ≡ is_too_large f
too_large f s is =
    ap (λ (t : Size). nat_lt most_depth t.depth || nat_lt most_weight t.weight) is
    ∙ ap₂ (λ a b. a || b) (over_same most_depth (2 ^ 32 - 1) (function_depth f) (omega arith)) (over_same most_weight (2 ^ 22 + 1) (function_weight f) (omega arith))
