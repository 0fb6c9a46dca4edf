-- The source is never without meaning where each name is bound and each function that is called is defined.
use Rattle.std.proofs.Common.{◌≡◌, ◌≢◌, ℕ, zero, suc, ◌≤◌, ◌&&◌, ◌||◌, ◌==◌, Bool, true, false, if◌then◌else◌, codes, bytes_eq, List, [], ◌∷◌, length, Option, Some, None, refl, sym, ap, ◌∙◌, subst, arith}
use Rattle.std.specs.Prelude.{slice_get}
use Rattle.std.proofs.lemmas.Bool.{and_from}
use Rattle.std.proofs.lemmas.Bool.Decides.{nat_tests}
use Rattle.ef_base.specs.declared.name.Name.{Name}
use Rattle.ef_base.specs.Texts.{text}
use Rattle.ef_forms.specs.Tree.{Tree, Shape, Trees, Clauses, tree, int, atom, var, list, list_to, tuple, matching, call, remote, case_of, end, more, no_guard, or_guard, no_clauses, clause, count}
use Rattle.ef_forms.specs.Ways.{NameSet, no_names, union, common, names, all_names}
use Rattle.ef_forms.specs.Sure.{sure, shape_sure, all_sure, clauses_sure}
use Rattle.ef_meaning.specs.Value.{Value, Atom, Local, External, Made, some, values_of}
use Rattle.ef_meaning.specs.Exception.{Class, Error, function_clause, case_clause}
use Rattle.ef_meaning.specs.Lookup.{FunctionKey, find, keys, nth}
use Rattle.ef_meaning.specs.Proper.{Known, is_proper, are_proper, has_function, is_the_arity}
use Rattle.ef_meaning.specs.Outside.{Item, Answer, Raise, Arrive, TimeUp, CallBack, Returned, Excepted, Called, GaveBack, with_items, arrived, shows}
use Rattle.ef_meaning.specs.End.{End, Gives, Raises, Waits, More, Wrong, and_then, and_either}
use Rattle.ef_meaning.specs.Called as called
use Rattle.ef_meaning.specs.Called.{Apply, is_applicable, fits, takes, taken, outside_call, answered, apply}
use Rattle.ef_meaning.specs.Pure.{pure}
use Rattle.ef_meaning.specs.Match.{Bindings, value_of, match_all}
use Rattle.ef_meaning.specs.Match as source_match
use Rattle.ef_meaning.specs.Source as source
use Rattle.ef_meaning.specs.Source.{Function, Body, by_clauses, information, Source, Levels, Module, applied, of_arity, arities, side, beside, eval, eval_shape, eval_all, eval_body, pick, run_body, levels, target, named, matched, chosen, are_wide}
use Rattle.ef_meaning.proofs.CalledLaws.{back}
use Rattle.ef_meaning.proofs.Covers.{IsBoundTo, Covers, Follows, nothing, follows_refl, follows_trans, still, covers_union, common_left, common_right, kept_follows, tree_follows, all_follows}

counts_same : (m n : ℕ) → m ≡ n → (m == n) ≡ true
counts_same m n p = grind (arith, nat_tests)

-- ---- what is safe

abbrev pub IsFound : Module → List ℕ → ℕ → Type 0
IsFound w f a = (g : Function) × (find f a w.functions ≡ Some g)

-- under these names
module _ (w : Module) where
  abbrev mutual
    pub IsSafe : NameSet → Tree → Type 0
    IsSafe s (tree p e) = IsSafeShape s e

    pub IsSafeShape : NameSet → Shape → Type 0
    IsSafeShape s (int i) = Unit {0}
    IsSafeShape s (atom n) = Unit {0}
    IsSafeShape s (var n) = s n.index ≡ true
    IsSafeShape s (list es) = AreSafe s es
    IsSafeShape s (list_to es e) = AreSafe s es × IsSafe s e
    IsSafeShape s (tuple es) = AreSafe s es
    IsSafeShape s (matching p e) = IsSafe s e
    IsSafeShape s (call f es) = IsSafeTarget f (count es) × AreSafe s es
    IsSafeShape s (remote m f es) = IsSafe s m × IsSafe s f × AreSafe s es
    IsSafeShape s (case_of e cs) = IsSafe s e × AreSafeClauses 1 (union s (sure e)) cs
    IsSafeShape s _ = ⊥

    -- only functions of the module are called
    pub IsSafeTarget : Tree → ℕ → Type 0
    IsSafeTarget (tree p (atom n)) a = IsFound w (text w.texts n) a
    IsSafeTarget _ a = ⊥

    pub AreSafe : NameSet → Trees → Type 0
    AreSafe s end = Unit {0}
    AreSafe s (more e es) = IsSafe s e × AreSafe s es

    -- each expression of a body, under the names of those before it too
    pub AreSafeInTurn : NameSet → Trees → Type 0
    AreSafeInTurn s end = Unit {0}
    AreSafeInTurn s (more e es) = IsSafe s e × AreSafeInTurn (union s (sure e)) es

    -- each with so many patterns
    pub AreSafeClauses : ℕ → NameSet → Clauses → Type 0
    AreSafeClauses a s no_clauses = Unit {0}
    AreSafeClauses a s (clause p ps g body cs) = (g ≡ no_guard) × (1 ≤ count body) × AreSafeInTurn (union s (all_names ps)) body × AreSafeClauses a s cs × (count ps ≡ a)

safe_wide : (w : Module) (a : ℕ) (s : NameSet) (cs : Clauses) → AreSafeClauses w a s cs → are_wide a cs ≡ true
safe_wide w a s no_clauses safe = refl
safe_wide w a s (clause p ps g body cs) safe = and_from (count ps == a) (are_wide a cs) (counts_same (count ps) a safe.4) (safe_wide w a s cs safe.3)

-- of so many parameters, under names that are bound in what it saves
abbrev pub IsSafeBody : Module → ℕ → Body → Type 0
IsSafeBody w a (by_clauses cs saved) = (s : NameSet) × Covers s saved × AreSafeClauses w a s cs
IsSafeBody w a information = Unit {0}

abbrev pub AreSafeFunctions : Module → List Function → Type 0
AreSafeFunctions w [] = Unit {0}
AreSafeFunctions w (f ∷ fs) = IsSafeBody w f.arity f.body × AreSafeFunctions w fs

-- each function of the module is safe
pub record IsSafeModule (w : Module) : Type 0 where
  pub each : (f : List ℕ) (a : ℕ) (g : Function) → find f a w.functions ≡ Some g → IsSafeBody w a g.body

-- ---- ends that have a meaning, and leave made funs that are safe

abbrev pub Fine : {A : Type 0} → Module → (A → Type 0) → End A Source → Type 0
Fine w P (Gives a s) = P a × AreSafeFunctions w s.store
Fine w P (Raises c v s) = AreSafeFunctions w s.store
Fine w P (Waits s) = Unit {0}
Fine w P (More s) = Unit {0}
Fine w P Wrong = ⊥

abbrev pub Any : Value → Type 0
Any v = Unit {0}

pub then_fine : {A B : Type 0} (w : Module) (P : A → Type 0) (R : B → Type 0) (e : End A Source) (go : A → Source → End B Source) → Fine w P e → ((a : A) (s : Source) → P a → AreSafeFunctions w s.store → Fine w R (go a s)) → Fine w R (and_then e go)
then_fine w P R (Gives a s) go p k = k a s p.0 p.1
then_fine w P R (Raises c v s) go p k = p
then_fine w P R (Waits s) go p k = tt
then_fine w P R (More s) go p k = tt
then_fine w P R Wrong go p k = p

either_fine : (w : Module) (e : End Value Source) (go : Value → Source → End Value Source) (bad : Class → Value → Source → End Value Source) → Fine w Any e → ((a : Value) (s : Source) → AreSafeFunctions w s.store → Fine w Any (go a s)) → ((c : Class) (v : Value) (s : Source) → AreSafeFunctions w s.store → Fine w Any (bad c v s)) → Fine w Any (and_either e go bad)
either_fine w (Gives a s) go bad p k l = k a s p.1
either_fine w (Raises c v s) go bad p k l = l c v s p
either_fine w (Waits s) go bad p k l = tt
either_fine w (More s) go bad p k l = tt
either_fine w Wrong go bad p k l = p

-- a weaker condition on answers
pub weaken_fine : {A : Type 0} (w : Module) (P R : A → Type 0) (e : End A Source) → ((a : A) → P a → R a) → Fine w P e → Fine w R e
weaken_fine w P R (Gives a t) h p = (h a p.0, p.1)
weaken_fine w P R (Raises c v t) h p = p
weaken_fine w P R (Waits t) h p = p
weaken_fine w P R (More t) h p = p
weaken_fine w P R Wrong h p = p

-- ---- applications

outside_fine : (w : Module) (calls : Source → End Value Source) → ((s : Source) → AreSafeFunctions w s.store → Fine w Any (calls s)) → (m f : List ℕ) (vs : List Value) (s : Source) → AreSafeFunctions w s.store → Fine w Any (outside_call calls m f vs s)
outside_fine w calls k m f vs s all = by (pure m f vs)
  where
    by : (o : Option Value) → Fine w Any (called.called o (λ t. calls (shows (Called m f vs) t)) s)
    by None = k (shows (Called m f vs) s) all
    by (Some v) = (tt, all)

-- a fun that stands for a function which is safe
abbrev IsReadyFun : Module → Value → Source → Type 0
IsReadyFun w (Local f a) s = (g : Function) × (find f a w.functions ≡ Some g) × IsSafeBody w a g.body
IsReadyFun w (Made k a) s = (g : Function) × (of_arity a (nth s.store k) ≡ Some g) × IsSafeBody w a g.body
IsReadyFun w _ s = Unit {0}

abbrev pub LevelsFine : Module → Levels → Type 0
LevelsFine w [] = Unit {0}
LevelsFine w (l ∷ ls) = ((f : Function) (vs : List Value) (s : Source) → IsSafeBody w (length vs) f.body → AreSafeFunctions w s.store → Fine w Any (l f vs s)) × LevelsFine w ls

some_applied : (w : Module) (o : Option Function) (g : Function) (ls : Levels) (vs : List Value) (s : Source) → LevelsFine w ls → o ≡ Some g → IsSafeBody w (length vs) g.body → AreSafeFunctions w s.store → Fine w Any (applied o ls vs s)
some_applied w o g [] vs s fine is safe all = subst (λ p. Fine w Any (applied p [] vs s)) (sym is) tt
some_applied w o g (l ∷ ls) vs s fine is safe all = subst (λ p. Fine w Any (applied p (l ∷ ls) vs s)) (sym is) (fine.0 g vs s safe all)

same_count : (m n : ℕ) → (m == n) ≡ true → m ≡ n
same_count m n p = grind (arith, nat_tests)

-- what is done with so many arguments
counted_fine : (w : Module) (m n : ℕ) (e f : End Value Source) → (m ≡ n → Fine w Any e) → Fine w Any f → Fine w Any (if m == n then e else f)
counted_fine w m n e f p q = by (m == n) refl
  where
    by : (t : Bool) → (m == n) ≡ t → Fine w Any (if t then e else f)
    by true same = p (same_count m n same)
    by false same = q

fun_fine : (w : Module) (ls : Levels) → LevelsFine w ls → ((s : Source) → AreSafeFunctions w s.store → Fine w Any (answered (side w) ls s)) → (f : Value) (vs : List Value) (s : Source) → IsReadyFun w f s → AreSafeFunctions w s.store → Fine w Any (apply (side w) ls f vs s)
fun_fine w ls fine calls (Local f a) vs s ready all = counted_fine w (length vs) a _ _ (λ e. some_applied w (find f a w.functions) ready.0 ls vs s fine ready.1 (subst (λ n. IsSafeBody w n ready.0.body) (sym e) ready.2) all) all
fun_fine w ls fine calls (Made k a) vs s ready all = counted_fine w (length vs) a _ _ (λ e. some_applied w (of_arity a (nth s.store k)) ready.0 ls vs s fine ready.1 (subst (λ n. IsSafeBody w n ready.0.body) (sym e) ready.2) all) all
fun_fine w ls fine calls (External m f a) vs s ready all = counted_fine w (length vs) a _ _ (λ e. outside_fine w (answered (side w) ls) calls m f vs s all) all
fun_fine w ls fine calls _ vs s ready all = all

-- ---- proper funs are ready

proper_local : (f : List ℕ) (a : ℕ) (gs : List (FunctionKey × Function)) → has_function (keys gs) f a ≡ true → (g : Function) × (find f a gs ≡ Some g)
proper_local f a [] p = absurd cc
proper_local f a (g ∷ gs) p = by (bytes_eq g.0.name f && g.0.arity == a) (λ e. proper_local f a gs e) p
  where
    by : (t : Bool) → (has_function (keys gs) f a ≡ true → (h : Function) × (find f a gs ≡ Some h)) → (t || has_function (keys gs) f a) ≡ true → (h : Function) × ((if t then Some g.1 else find f a gs) ≡ Some h)
    by true k e = (g.1, refl)
    by false k e = k e

module _ (w : Module) where
  made_slice : (a : ℕ) (fs : List Function) (k : ℕ) → AreSafeFunctions w fs → is_the_arity (slice_get (arities fs) k) a ≡ true → (g : Function) × (of_arity a (slice_get fs k) ≡ Some g) × IsSafeBody w a g.body
  made_slice a [] k all p = absurd cc
  made_slice a (f ∷ fs) zero all p = (f, ap (λ t. if t then Some f else None) p, subst (λ n. IsSafeBody w n f.body) (same_count f.arity a p) all.0)
  made_slice a (f ∷ fs) (suc k) all p = made_slice a fs k all.1 p

  proper_made : (a : ℕ) (fs : List Function) (k : ℕ) → AreSafeFunctions w fs → is_the_arity (nth (arities fs) k) a ≡ true → (g : Function) × (of_arity a (nth fs k) ≡ Some g) × IsSafeBody w a g.body
  proper_made a fs zero all p = absurd cc
  proper_made a fs (suc k) all p = made_slice a fs k all p

  proper_ready : IsSafeModule w → (f : Value) (s : Source) → AreSafeFunctions w s.store → is_proper ((side w).known s.store) f ≡ true → IsReadyFun w f s
  proper_ready safe (Local f a) s all p = let g = proper_local f a w.functions p in (g.0, g.1, safe.each f a g.0 g.1)
  proper_ready safe (Made k a) s all p = proper_made a s.store k all p
  proper_ready safe _ s all p = tt

  -- ---- calls

  module _ (safe : IsSafeModule w) where
    both_left : (a b : Bool) → (a && b) ≡ true → a ≡ true
    both_left true b p = refl
    both_left false b p = absurd cc

    both_right : (a b : Bool) → (a && b) ≡ true → b ≡ true
    both_right true b p = p
    both_right false b p = absurd cc

    -- what an item does, where the next ones are fine
    item_fine : (go : Apply (List Function)) (next : Source → End Value Source) (i : Item) (s : Source) → AreSafeFunctions w s.store →
        ((f : Value) (vs : List Value) (t : Source) → IsReadyFun w f t → AreSafeFunctions w t.store → Fine w Any (go f vs t)) → ((t : Source) → t.store ≡ s.store → Fine w Any (next t)) →
        fits ((side w).known s.store) i ≡ true → Fine w Any (takes go next i s)
    item_fine go next (Answer v) s all k l p = (tt, all)
    item_fine go next (Raise c v) s all k l p = all
    item_fine go next (Arrive v) s all k l p = l (arrived v s) refl
    item_fine go next TimeUp s all k l p = l s refl
    item_fine go next (CallBack f vs) s all k l p =
        let known : Known = (side w).known s.store in
        k f vs s (proper_ready safe f s all (both_left (is_proper known f) (are_proper known (values_of vs)) (both_right (is_applicable f) (are_proper known (some f (values_of vs))) p))) all

    when_fine : (t : Bool) (e f : End Value Source) → (t ≡ true → Fine w Any e) → Fine w Any f → Fine w Any (if t then e else f)
    when_fine true e f p q = p refl
    when_fine false e f p q = q

    taken_fine : (go : Apply (List Function)) (is : List Item) (s : Source) (fs : List Function) → s.store ≡ fs → AreSafeFunctions w fs →
        ((f : Value) (vs : List Value) (t : Source) → IsReadyFun w f t → AreSafeFunctions w t.store → Fine w Any (go f vs t)) → Fine w Any (taken ((side w).known fs) go is s)
    taken_fine go [] s fs same all k = tt
    taken_fine go (i ∷ is) s fs same all k =
        when_fine (fits ((side w).known fs) i) _ _
        (λ p. item_fine go (λ x. taken ((side w).known fs) go is x) i (with_items is s) (subst (AreSafeFunctions w) (sym same) all) k (λ t e. taken_fine go is t fs (e ∙ same) all k)
        (subst (λ z. fits ((side w).known z) i ≡ true) (sym same) p))
        (taken_fine go is s fs same all k)

    pub answered_fine : (ls : Levels) → LevelsFine w ls → (s : Source) → AreSafeFunctions w s.store → Fine w Any (answered (side w) ls s)
    answered_fine [] fine s all = taken_fine (λ f vs t. More t) s.outside.items s s.store refl all (λ f vs t ready q. tt)
    answered_fine (l ∷ ls) fine s all = taken_fine (back (side w) ls) s.outside.items s s.store refl all
        (λ f vs t ready q. either_fine w (apply (side w) ls f vs t) _ _ (fun_fine w ls fine.1 (answered_fine ls fine.1) f vs t ready q)
        (λ v u r. answered_fine ls fine.1 (shows (GaveBack (Returned v)) u) r)
        (λ c v u r. answered_fine ls fine.1 (shows (GaveBack (Excepted c v)) u) r))

    pub remote_fine : (ls : Levels) → LevelsFine w ls → (m f : Value) (vs : List Value) (s : Source) → AreSafeFunctions w s.store → Fine w Any (called.remote (side w) ls m f vs s)
    remote_fine ls fine (Atom m) (Atom f) vs s all = outside_fine w (answered (side w) ls) (answered_fine ls fine) m f vs s all
    remote_fine ls fine _ _ vs s all = all

    pub local_fine : (ls : Levels) → LevelsFine w ls → (f : List ℕ) (a : ℕ) (g : Function) → find f a w.functions ≡ Some g → (vs : List Value) (s : Source) → AreSafeFunctions w s.store → Fine w Any (apply (side w) ls (Local f a) vs s)
    local_fine ls fine f a g is vs s all = fun_fine w ls fine (answered_fine ls fine) (Local f a) vs s (g, is, safe.each f a g is) all

    -- ---- expressions

    -- what was bound stays so, and these names are bound too
    abbrev Binds : Bindings → NameSet → (Value × Bindings) → Type 0
    Binds b t a = Follows b t a.1

    abbrev BindAll : Bindings → NameSet → (List Value × Bindings) → Type 0
    BindAll b t a = Follows b t a.1

    beside_fine : (b c : Bindings) (t : NameSet) (e : End Value Source) → Follows b t c → Fine w Any e → Fine w (Binds b t) (beside c e)
    beside_fine b c t e follows p = then_fine w Any (Binds b t) e (λ v u. Gives (v, c) u) p (λ v u q all. (follows, all))

    named_fine : (n : Name) (o : Option Value) (b : Bindings) (s : Source) → AreSafeFunctions w s.store → value_of n b ≡ o → IsBoundTo n b → Fine w (Binds b (λ y. n.index == y)) (named o b s)
    named_fine n None b s all is p = absurd cc
    named_fine n (Some v) b s all is p = (follows_refl b n p, all)

    matched_fine : (p : Tree) (o : Option Bindings) (v : Value) (b : Bindings) (s : Source) → AreSafeFunctions w s.store → source_match.matches w.texts p v b ≡ o → Fine w (Binds b (names p)) (matched o v s)
    matched_fine p None v b s all is = all
    matched_fine p (Some c) v b s all is = (tree_follows w.texts p v b c is, all)

    -- the body of a clause that matches, or what is done where it does not
    chosen_fine : (ps : Trees) (set : NameSet) (o : Option Bindings) (vs : List Value) (b : Bindings) (body : Bindings → source.Answer) (others : source.Answer) → match_all w.texts ps vs b ≡ o →
        ((c : Bindings) → match_all w.texts ps vs b ≡ Some c → Fine w (Binds c set) (body c)) → Fine w (Binds b (union (all_names ps) set)) others → Fine w (Binds b (union (all_names ps) set)) (chosen o body others)
    chosen_fine ps set None vs b body others e k l = l
    chosen_fine ps set (Some c) vs b body others e k l = weaken_fine w (Binds c set) (Binds b (union (all_names ps) set)) (body c) (λ r p. follows_trans (all_follows w.texts ps (values_of vs) b c e) p) (k c e)

    -- clauses with as many patterns as values
    wide_fine : (P : (Value × Bindings) → Type 0) (a : ℕ) (s : NameSet) (cs : Clauses) → AreSafeClauses w a s cs → (e : source.Answer) → Fine w P e → Fine w P (if are_wide a cs then e else Wrong)
    wide_fine P a s cs safe e k = subst (λ t. Fine w P (if t then e else Wrong)) (sym (safe_wide w a s cs safe)) k

    -- the names that both bind
    chosen_common : (ps : Trees) (set other : NameSet) (o : Option Bindings) (vs : List Value) (b : Bindings) (body : Bindings → source.Answer) (others : source.Answer) → match_all w.texts ps vs b ≡ o →
        ((c : Bindings) → match_all w.texts ps vs b ≡ Some c → Fine w (Binds c set) (body c)) → Fine w (Binds b other) others → Fine w (Binds b (common (union (all_names ps) set) other)) (chosen o body others)
    chosen_common ps set other None vs b body others e k l = weaken_fine w (Binds b other) (Binds b (common (union (all_names ps) set) other)) others (λ r p. common_right b r.1 (union (all_names ps) set) other p) l
    chosen_common ps set other (Some c) vs b body others e k l = weaken_fine w (Binds c set) (Binds b (common (union (all_names ps) set) other)) (body c)
        (λ r p. common_left b r.1 (union (all_names ps) set) other (follows_trans (all_follows w.texts ps (values_of vs) b c e) p)) (k c e)

    mutual
      eval_fine : (σ : NameSet) (e : Tree) (ls : Levels) (b : Bindings) (s : Source) → LevelsFine w ls → AreSafeFunctions w s.store → Covers σ b → IsSafe w σ e → Fine w (Binds b (sure e)) (eval w e ls b s)
      eval_fine σ (tree p e) ls b s fine all covers is = shape_fine σ e ls b s fine all covers is

      shape_fine : (σ : NameSet) (e : Shape) (ls : Levels) (b : Bindings) (s : Source) → LevelsFine w ls → AreSafeFunctions w s.store → Covers σ b → IsSafeShape w σ e → Fine w (Binds b (shape_sure e)) (eval_shape w e ls b s)
      shape_fine σ (int i) ls b s fine all covers is = (nothing b, all)
      shape_fine σ (atom n) ls b s fine all covers is = (nothing b, all)
      shape_fine σ (var n) ls b s fine all covers is = named_fine n (value_of n b) b s all refl (covers n is)
      shape_fine σ (list es) ls b s fine all covers is = then_fine w (BindAll b (all_sure es)) (Binds b (all_sure es)) (eval_all w es ls b s) _ (all_fine σ es ls b s fine all covers is) (λ a t p q. (p, q))
      shape_fine σ (list_to es e) ls b s fine all covers is = then_fine w (BindAll b (all_sure es)) (Binds b (union (all_sure es) (sure e))) (eval_all w es ls b s) _ (all_fine σ es ls b s fine all covers is.0) (λ a t p q.
          then_fine w (Binds a.1 (sure e)) (Binds b (union (all_sure es) (sure e))) (eval w e ls a.1 t) _ (eval_fine σ e ls a.1 t fine q (still σ b (all_sure es) a.1 covers p) is.1) (λ d u r z. (follows_trans p r, z)))
      shape_fine σ (tuple es) ls b s fine all covers is = then_fine w (BindAll b (all_sure es)) (Binds b (all_sure es)) (eval_all w es ls b s) _ (all_fine σ es ls b s fine all covers is) (λ a t p q. (p, q))
      shape_fine σ (matching p e) ls b s fine all covers is = then_fine w (Binds b (sure e)) (Binds b (union (sure e) (names p))) (eval w e ls b s) _ (eval_fine σ e ls b s fine all covers is) (λ a t q r.
          weaken_fine w (Binds a.1 (names p)) (Binds b (union (sure e) (names p))) _ (λ d z. follows_trans q z) (matched_fine p _ a.0 a.1 t r refl))
      shape_fine σ (call (tree p (atom n)) es) ls b s fine all covers is =
          subst (λ o. Fine w (Binds b (union no_names (all_sure es))) (and_then (target o (text w.texts n) (count es) b s) (λ g t. and_then (eval_all w es ls g.1 t) (λ a u. beside a.1 (apply (side w) ls g.0 a.0 u))))) (sym is.0.1)
          (then_fine w (BindAll b (all_sure es)) (Binds b (union no_names (all_sure es))) (eval_all w es ls b s) _ (all_fine σ es ls b s fine all covers is.1)
          (λ a u i o. beside_fine b a.1 _ _ (follows_trans (nothing b) i) (local_fine ls fine (text w.texts n) (count es) is.0.0 is.0.1 a.0 u o)))
      shape_fine σ (call (tree p _) es) ls b s fine all covers is = absurd is.0
      shape_fine σ (remote m f es) ls b s fine all covers is =
          let last = union (sure m) (union (sure f) (all_sure es)) in
          then_fine w (Binds b (sure m)) (Binds b last) (eval w m ls b s) _ (eval_fine σ m ls b s fine all covers is.0) (λ g t p q.
          let first = still σ b (sure m) g.1 covers p in
          then_fine w (Binds g.1 (sure f)) (Binds b last) (eval w f ls g.1 t) _ (eval_fine σ f ls g.1 t fine q first is.1) (λ h u r z.
          then_fine w (BindAll h.1 (all_sure es)) (Binds b last) (eval_all w es ls h.1 u) _ (all_fine σ es ls h.1 u fine z (still σ g.1 (sure f) h.1 first r) is.2) (λ a x i o.
          beside_fine b a.1 last _ (follows_trans p (follows_trans r i)) (remote_fine ls fine g.0 h.0 a.0 x o))))
      shape_fine σ (case_of e cs) ls b s fine all covers is =
          let last = union (sure e) (clauses_sure cs) in
          then_fine w (Binds b (sure e)) (Binds b last) (eval w e ls b s) _ (eval_fine σ e ls b s fine all covers is.0) (λ a t p q.
          then_fine w (Binds a.1 (clauses_sure cs)) (Binds b last) (if are_wide 1 cs then pick w cs (a.0 ∷ []) ls a.1 (λ u. u) (λ u. Raises Error (case_clause a.0) u) t else Wrong) _
          (wide_fine (Binds a.1 (clauses_sure cs)) 1 (union σ (sure e)) cs is.1 _ (pick_fine 1 (union σ (sure e)) cs (a.0 ∷ []) ls a.1 (case_clause a.0) t fine q (covers_union σ (sure e) b a.1 covers p) is.1))
          (λ r u i z. (follows_trans p (kept_follows (clauses_sure cs) a.1 r.1 i), z)))
      shape_fine σ _ ls b s fine all covers is = absurd is

      all_fine : (σ : NameSet) (es : Trees) (ls : Levels) (b : Bindings) (s : Source) → LevelsFine w ls → AreSafeFunctions w s.store → Covers σ b → AreSafe w σ es → Fine w (BindAll b (all_sure es)) (eval_all w es ls b s)
      all_fine σ end ls b s fine all covers is = (nothing b, all)
      all_fine σ (more e es) ls b s fine all covers is = then_fine w (Binds b (sure e)) (BindAll b (union (sure e) (all_sure es))) (eval w e ls b s) _ (eval_fine σ e ls b s fine all covers is.0) (λ a t p q.
          then_fine w (BindAll a.1 (all_sure es)) (BindAll b (union (sure e) (all_sure es))) (eval_all w es ls a.1 t) _ (all_fine σ es ls a.1 t fine q (still σ b (sure e) a.1 covers p) is.1) (λ d u r z. (follows_trans p r, z)))

      body_fine : (σ : NameSet) (es : Trees) (ls : Levels) (b : Bindings) (s : Source) → LevelsFine w ls → AreSafeFunctions w s.store → Covers σ b → 1 ≤ count es → AreSafeInTurn w σ es → Fine w (Binds b (all_sure es)) (eval_body w es ls b s)
      body_fine σ end ls b s fine all covers full is = absurd (omega arith)
      body_fine σ (more e end) ls b s fine all covers full is = weaken_fine w (Binds b (sure e)) (Binds b (union (sure e) no_names)) (eval w e ls b s) (λ a p. follows_trans p (nothing a.1)) (eval_fine σ e ls b s fine all covers is.0)
      body_fine σ (more e (more d es)) ls b s fine all covers full is = then_fine w (Binds b (sure e)) (Binds b (all_sure (more e (more d es)))) (eval w e ls b s) _ (eval_fine σ e ls b s fine all covers is.0) (λ a t p q.
          weaken_fine w (Binds a.1 (all_sure (more d es))) (Binds b (all_sure (more e (more d es)))) _ (λ r z. follows_trans p z)
          (body_fine (union σ (sure e)) (more d es) ls a.1 t fine q (covers_union σ (sure e) b a.1 covers p) (omega arith) is.1))

      -- the first clause that matches; where none does, an error
      pick_fine : (a : ℕ) (σ : NameSet) (cs : Clauses) (vs : List Value) (ls : Levels) (b : Bindings) (reason : Value) (s : Source) → LevelsFine w ls → AreSafeFunctions w s.store → Covers σ b → AreSafeClauses w a σ cs →
          Fine w (Binds b (clauses_sure cs)) (pick w cs vs ls b (λ t. t) (λ t. Raises Error reason t) s)
      pick_fine a σ no_clauses vs ls b reason s fine all covers is = all
      pick_fine a σ (clause p ps (or_guard es gs) body cs) vs ls b reason s fine all covers is = absurd cc
      pick_fine a σ (clause p ps no_guard body no_clauses) vs ls b reason s fine all covers is =
          chosen_fine ps (all_sure body) (match_all w.texts ps vs b) vs b (λ c. eval_body w body ls c s) (Raises Error reason s) refl
          (λ c e. body_fine (union σ (all_names ps)) body ls c s fine all (covers_union σ (all_names ps) b c covers (all_follows w.texts ps (values_of vs) b c e)) is.1 is.2) all
      pick_fine a σ (clause p ps no_guard body (clause q qs h d cs)) vs ls b reason s fine all covers is =
          chosen_common ps (all_sure body) (clauses_sure (clause q qs h d cs)) (match_all w.texts ps vs b) vs b (λ c. eval_body w body ls c s) (pick w (clause q qs h d cs) vs ls b (λ t. t) (λ t. Raises Error reason t) s) refl
          (λ c e. body_fine (union σ (all_names ps)) body ls c s fine all (covers_union σ (all_names ps) b c covers (all_follows w.texts ps (values_of vs) b c e)) is.1 is.2)
          (pick_fine a σ (clause q qs h d cs) vs ls b reason s fine all covers is.3)

    -- ---- functions

    run_fine : (ls : Levels) (f : Body) (vs : List Value) (s : Source) → LevelsFine w ls → AreSafeFunctions w s.store → IsSafeBody w (length vs) f → Fine w Any (run_body w ls f vs s)
    run_fine ls (by_clauses cs saved) vs s fine all is = then_fine w (Binds saved (clauses_sure cs)) Any (if are_wide (length vs) cs then pick w cs vs ls saved (λ t. t) (λ t. Raises Error function_clause t) s else Wrong) _
        (wide_fine (Binds saved (clauses_sure cs)) (length vs) is.0 cs is.2 _ (pick_fine (length vs) is.0 cs vs ls saved function_clause s fine all is.1 is.2)) (λ a t p q. (tt, q))
    run_fine ls information vs s fine all is = remote_fine ls fine (Atom (codes "erlang")) (Atom (codes "get_module_info")) (Atom w.name ∷ vs) s all

    pub levels_fine : (n : ℕ) → LevelsFine w (levels w n)
    levels_fine zero = tt
    levels_fine (suc n) = (λ f vs s is all. run_fine (levels w n) f.body vs s (levels_fine n) all is, levels_fine n)

pub fine_meant : (w : Module) (e : End Value Source) → Fine w Any e → e ≢ Wrong
fine_meant w e p is = subst (λ x. Fine w Any x) is p
