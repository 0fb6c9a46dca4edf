-- Core: events only grow, and a larger bound keeps an end and extends the events of what goes on.
use Rattle.std.proofs.Common.{ℕ, zero, suc, ◌≤◌, codes, bytes_eq, List, [], ◌∷◌, length, Option, Some, None, refl, sym, ap, subst, arith}
use Rattle.ef_base.specs.Texts.{Texts, text}
use Rattle.ef_core.specs.declared.literal.FName.{FName}
use Rattle.ef_core.specs.Tree as tree
use Rattle.ef_core.specs.Tree.{CoreTree, CoreTrees, CoreSteps, CoreClauses, var, lit, fun_name, value_list, list, list_to, lets, case_of, call, primop, end, more, done, step, no_clauses, clause}
use Rattle.ef_meaning.specs.Value.{Value, Atom}
use Rattle.ef_meaning.specs.Lookup.{find}
use Rattle.ef_meaning.specs.Outside.{Event}
use Rattle.ef_meaning.specs.End.{End, Gives, Raises, Waits, More, Wrong, and_then}
use Rattle.ef_meaning.specs.Keeps.{Ahead, Extends}
use Rattle.ef_meaning.specs.Core.{Vars, Funs, Code, Target, Answer, Levels, CoreModule, value_at, entry_of, single, one_value, applied, code_of, side, match_all, all_can_match, unchanged, decided, guarded, chosen, match_fail, primitive, held_value, bind, given, function_value, eval, pick, eval_all, eval_steps, run_body, levels, core}
use Rattle.ef_meaning.proofs.Ends.{OnlyAdds, begins_refl, ahead_trans, extends_refl, if_ahead, if_extends, then_ahead, then_extends}
use Rattle.ef_meaning.proofs.CalledLaws.{SideGrows, SideBelow, apply_ahead, apply_extends, remote_ahead, remote_extends}

-- ---- events only grow

abbrev pub Grow : Levels → Type 0
Grow [] = Unit {0}
Grow (l ∷ ls) = ((f : Code) (vs : List Value) (s : Target) → Ahead s.outside.events (l f vs s)) × Grow ls

pub applied_ahead : (o : Option Code) (ls : Levels) (vs : List Value) (s : Target) → Grow ls → Ahead s.outside.events (applied o ls vs s)
applied_ahead None ls vs s g = tt
applied_ahead (Some f) [] vs s g = begins_refl s.outside.events
applied_ahead (Some f) (l ∷ ls) vs s g = g.0 f vs s

pub single_ahead : (vs : List Value) (s : Target) → Ahead s.outside.events (single vs s)
single_ahead [] s = tt
single_ahead (v ∷ []) s = begins_refl s.outside.events
single_ahead (v ∷ u ∷ vs) s = tt

pub single_after : (xs : List Event) (e : Answer) → Ahead xs e → Ahead xs (and_then e single)
single_after xs e p = then_ahead xs e single p single_ahead

one_ahead : (xs : List Event) (e : End Value Target) → Ahead xs e → Ahead xs (one_value e)
one_ahead xs e p = then_ahead xs e _ p (λ v t. begins_refl t.outside.events)

pub side_grows : (w : CoreModule) (ls : Levels) → Grow ls → SideGrows (side w) ls
side_grows w [] g = λ f vs s. single_after s.outside.events (applied (code_of w f s) [] vs s) (applied_ahead (code_of w f s) [] vs s g)
side_grows w (l ∷ ls) g = (λ f vs s. single_after s.outside.events (applied (code_of w f s) (l ∷ ls) vs s) (applied_ahead (code_of w f s) (l ∷ ls) vs s g), side_grows w ls g.1)

held_ahead : (o : Option Value) (s : Target) → Ahead s.outside.events (held_value o s)
held_ahead None s = tt
held_ahead (Some v) s = begins_refl s.outside.events

pub given_ahead : (o : Option Vars) (s : Target) → Ahead s.outside.events (given o s)
given_ahead None s = tt
given_ahead (Some c) s = begins_refl s.outside.events

function_ahead : (all : Texts) (f : FName) (o : Option ℕ) (p : Option Code) (s : Target) → Ahead s.outside.events (function_value all f o p s)
function_ahead all f None (Some g) s = begins_refl s.outside.events
function_ahead all f None None s = tt
function_ahead all f (Some k) None s = tt
function_ahead all f (Some k) (Some g) s = tt

-- ---- guards and primitive operations

decided_ahead : (xs : List Event) (vs : List Value) (e f : Answer) → Ahead xs e → Ahead xs f → Ahead xs (decided vs e f)
decided_ahead xs (Atom a ∷ []) e f p q = if_ahead xs (bytes_eq a (codes "true")) _ _ p (if_ahead xs (bytes_eq a (codes "false")) _ _ q tt)
decided_ahead xs _ e f p q = tt

guarded_ahead : (xs : List Event) (s : Target) (e : Answer) (body others : Target → Answer) → Ahead xs e → ((t : Target) → Ahead t.outside.events (body t)) → ((t : Target) → Ahead t.outside.events (others t)) → Ahead xs (guarded s e body others)
guarded_ahead xs s (Gives vs t) body others p q r = if_ahead xs (unchanged s t) _ _ (decided_ahead xs vs (body t) (others t) (ahead_trans xs _ (body t) p (q t)) (ahead_trans xs _ (others t) p (r t))) tt
guarded_ahead xs s (Raises k v t) body others p q r = tt
guarded_ahead xs s (Waits t) body others p q r = tt
guarded_ahead xs s (More t) body others p q r = p
guarded_ahead xs s Wrong body others p q r = tt

chosen_ahead : (o : Option Vars) (s : Target) (body : Vars → Answer) (others : Answer) → ((c : Vars) → Ahead s.outside.events (body c)) → Ahead s.outside.events others → Ahead s.outside.events (chosen o body others)
chosen_ahead None s body others p q = q
chosen_ahead (Some c) s body others p q = p c

fail_ahead : (vs : List Value) (s : Target) → Ahead s.outside.events (match_fail vs s)
fail_ahead [] s = tt
fail_ahead (v ∷ []) s = begins_refl s.outside.events
fail_ahead (v ∷ u ∷ vs) s = tt

primitive_ahead : (f : List ℕ) (vs : List Value) (s : Target) → Ahead s.outside.events (primitive f vs s)
primitive_ahead f vs s = if_ahead s.outside.events (bytes_eq f (codes "match_fail")) _ _ (fail_ahead vs s) tt

module _ (w : CoreModule) where
  mutual
    pub eval_ahead : (e : CoreTree) (ls : Levels) (c : Vars) (fs : Funs) (s : Target) → Grow ls → Ahead s.outside.events (eval w e ls c fs s)
    eval_ahead (var x) ls c fs s g = held_ahead (value_at x c) s
    eval_ahead (lit l) ls c fs s g = begins_refl s.outside.events
    eval_ahead (fun_name f) ls c fs s g = function_ahead w.texts f (entry_of f fs) (find (text w.texts f.name) f.arity w.functions) s
    eval_ahead (value_list es) ls c fs s g = all_ahead es ls c fs s g
    eval_ahead (tree.tuple es) ls c fs s g = then_ahead _ (eval_all w es ls c fs s) _ (all_ahead es ls c fs s g) (λ vs t. begins_refl t.outside.events)
    eval_ahead (list es) ls c fs s g = then_ahead _ (eval_all w es ls c fs s) _ (all_ahead es ls c fs s g) (λ vs t. begins_refl t.outside.events)
    eval_ahead (list_to es e) ls c fs s g = then_ahead _ (eval_all w es ls c fs s) _ (all_ahead es ls c fs s g) (λ vs t.
        then_ahead _ (and_then (eval w e ls c fs t) single) _ (single_after _ (eval w e ls c fs t) (eval_ahead e ls c fs t g)) (λ v u. begins_refl u.outside.events))
    eval_ahead (case_of e cs) ls c fs s g = then_ahead _ (eval w e ls c fs s) _ (eval_ahead e ls c fs s g) (λ vs t. if_ahead _ (all_can_match (length vs) cs) _ _ (pick_ahead cs vs ls c fs (λ u. u) (λ u. Wrong) t g (λ u. begins_refl u.outside.events) (λ u. tt)) tt)
    eval_ahead (primop f es) ls c fs s g = then_ahead _ (eval_all w es ls c fs s) _ (all_ahead es ls c fs s g) (λ vs t. primitive_ahead (text w.texts f) vs t)
    eval_ahead (lets ss e) ls c fs s g = then_ahead _ (eval_steps w ss ls c fs s) _ (steps_ahead ss ls c fs s g) (λ d t. eval_ahead e ls d fs t g)
    eval_ahead (tree.apply f es) ls c fs s g = then_ahead _ (and_then (eval w f ls c fs s) single) _ (single_after _ (eval w f ls c fs s) (eval_ahead f ls c fs s g)) (λ h t.
        then_ahead _ (eval_all w es ls c fs t) _ (all_ahead es ls c fs t g) (λ vs u. one_ahead _ _ (apply_ahead (side w) ls (side_grows w ls g) h vs u)))
    eval_ahead (call m f es) ls c fs s g = then_ahead _ (and_then (eval w m ls c fs s) single) _ (single_after _ (eval w m ls c fs s) (eval_ahead m ls c fs s g)) (λ h t.
        then_ahead _ (and_then (eval w f ls c fs t) single) _ (single_after _ (eval w f ls c fs t) (eval_ahead f ls c fs t g)) (λ i u.
        then_ahead _ (eval_all w es ls c fs u) _ (all_ahead es ls c fs u g) (λ vs x. one_ahead _ _ (remote_ahead (side w) ls h i vs x (side_grows w ls g)))))
    eval_ahead _ ls c fs s g = tt

    pub pick_ahead : (cs : CoreClauses) (vs : List Value) (ls : Levels) (c : Vars) (fs : Funs) (took : Target → Target) (others : Target → Answer) (s : Target) → Grow ls → OnlyAdds took → ((t : Target) → Ahead t.outside.events (others t)) →
        Ahead s.outside.events (pick w cs vs ls c fs took others s)
    pick_ahead no_clauses vs ls c fs took others s g p q = q s
    pick_ahead (clause ps h e cs) vs ls c fs took others s g p q = chosen_ahead (match_all w.texts ps vs c) s _ _
        (λ d. guarded_ahead _ s (eval w h ls d fs s) _ _ (eval_ahead h ls d fs s g) (λ t. ahead_trans _ _ (eval w e ls d fs (took t)) (p t) (eval_ahead e ls d fs (took t) g)) (λ t. pick_ahead cs vs ls c fs took others t g p q))
        (pick_ahead cs vs ls c fs took others s g p q)

    pub all_ahead : (es : CoreTrees) (ls : Levels) (c : Vars) (fs : Funs) (s : Target) → Grow ls → Ahead s.outside.events (eval_all w es ls c fs s)
    all_ahead end ls c fs s g = begins_refl s.outside.events
    all_ahead (more e es) ls c fs s g = then_ahead _ (and_then (eval w e ls c fs s) single) _ (single_after _ (eval w e ls c fs s) (eval_ahead e ls c fs s g)) (λ v t.
        then_ahead _ (eval_all w es ls c fs t) _ (all_ahead es ls c fs t g) (λ vs u. begins_refl u.outside.events))

    pub steps_ahead : (ss : CoreSteps) (ls : Levels) (c : Vars) (fs : Funs) (s : Target) → Grow ls → Ahead s.outside.events (eval_steps w ss ls c fs s)
    steps_ahead done ls c fs s g = begins_refl s.outside.events
    steps_ahead (step xs e ss) ls c fs s g = then_ahead _ (and_then (eval w e ls c fs s) (λ vs t. given (bind xs vs c) t)) _
        (then_ahead _ (eval w e ls c fs s) _ (eval_ahead e ls c fs s g) (λ vs t. given_ahead (bind xs vs c) t)) (λ d t. steps_ahead ss ls d fs t g)

  run_ahead : (ls : Levels) (e : CoreTree) (fs : Funs) (o : Option Vars) (s : Target) → Grow ls → Ahead s.outside.events (run_body w ls e fs o s)
  run_ahead ls e fs None s g = tt
  run_ahead ls e fs (Some c) s g = eval_ahead e ls c fs s g

  pub levels_grow : (n : ℕ) → Grow (levels w n)
  levels_grow zero = tt
  levels_grow (suc n) = (λ f vs s. run_ahead (levels w n) f.body f.funs (bind f.params vs f.vars) s (levels_grow n), levels_grow n)

  pub core_ahead : (n : ℕ) (e : CoreTree) (c : Vars) (fs : Funs) (s : Target) → Ahead s.outside.events (core w n e c fs s)
  core_ahead n e c fs s = eval_ahead e (levels w n) c fs s (levels_grow n)

-- ---- a larger bound

abbrev pub Below : Levels → Levels → Type 0
Below [] ks = Unit {0}
Below (l ∷ ls) [] = ⊥
Below (l ∷ ls) (k ∷ ks) = ((f : Code) (vs : List Value) (s : Target) → Extends (l f vs s) (k f vs s)) × Below ls ks

pub applied_extends : (o : Option Code) (ls ks : Levels) (vs : List Value) (s : Target) → Below ls ks → Grow ks → Extends (applied o ls vs s) (applied o ks vs s)
applied_extends None ls ks vs s p g = refl
applied_extends (Some f) [] ks vs s p g = applied_ahead (Some f) ks vs s g
applied_extends (Some f) (l ∷ ls) [] vs s p g = absurd p
applied_extends (Some f) (l ∷ ls) (k ∷ ks) vs s p g = p.0 f vs s

single_extends : (e f : Answer) → Extends e f → Extends (and_then e single) (and_then f single)
single_extends e f p = then_extends e f single single p (λ vs t. extends_refl (single vs t)) single_ahead

one_extends : (e f : End Value Target) → Extends e f → Extends (one_value e) (one_value f)
one_extends e f p = then_extends e f _ _ p (λ v t. refl) (λ v t. begins_refl t.outside.events)

pub side_below : (w : CoreModule) (ls ks : Levels) → Below ls ks → Grow ks → SideBelow (side w) ls ks
side_below w [] ks p g = λ f vs s. single_extends (applied (code_of w f s) [] vs s) (applied (code_of w f s) ks vs s) (applied_extends (code_of w f s) [] ks vs s p g)
side_below w (l ∷ ls) [] p g = absurd p
side_below w (l ∷ ls) (k ∷ ks) p g = (λ f vs s. single_extends (applied (code_of w f s) (l ∷ ls) vs s) (applied (code_of w f s) (k ∷ ks) vs s) (applied_extends (code_of w f s) (l ∷ ls) (k ∷ ks) vs s p g), side_below w ls ks p.1 g.1)

decided_extends : (vs : List Value) (e f g h : Answer) → Extends e g → Extends f h → Extends (decided vs e f) (decided vs g h)
decided_extends (Atom a ∷ []) e f g h p q = if_extends (bytes_eq a (codes "true")) _ _ _ _ p (if_extends (bytes_eq a (codes "false")) _ _ _ _ q refl)
decided_extends _ e f g h p q = refl

-- both ways go on from the state behind the guard
guarded_extends : (s : Target) (e f : Answer) (body others next rest : Target → Answer) → Extends e f → ((t : Target) → Extends (body t) (next t)) → ((t : Target) → Extends (others t) (rest t)) →
    ((t : Target) → Ahead t.outside.events (next t)) → ((t : Target) → Ahead t.outside.events (rest t)) → Extends (guarded s e body others) (guarded s f next rest)
guarded_extends s (Gives vs t) f body others next rest p q r h k = subst (λ g. Extends (guarded s (Gives vs t) body others) (guarded s g next rest)) (sym p)
    (if_extends (unchanged s t) _ _ _ _ (decided_extends vs (body t) (others t) (next t) (rest t) (q t) (r t)) refl)
guarded_extends s (Raises c v t) f body others next rest p q r h k = ap (λ g. guarded s g next rest) p
guarded_extends s (Waits t) f body others next rest p q r h k = ap (λ g. guarded s g next rest) p
guarded_extends s (More t) f body others next rest p q r h k = guarded_ahead t.outside.events s f next rest p h k
guarded_extends s Wrong f body others next rest p q r h k = ap (λ g. guarded s g next rest) p

chosen_extends : (o : Option Vars) (body next : Vars → Answer) (others rest : Answer) → ((c : Vars) → Extends (body c) (next c)) → Extends others rest → Extends (chosen o body others) (chosen o next rest)
chosen_extends None body next others rest p q = q
chosen_extends (Some c) body next others rest p q = p c

module _ (w : CoreModule) where
  mutual
    pub eval_extends : (e : CoreTree) (ls ks : Levels) (c : Vars) (fs : Funs) (s : Target) → Below ls ks → Grow ks → Extends (eval w e ls c fs s) (eval w e ks c fs s)
    eval_extends (var x) ls ks c fs s p g = extends_refl (held_value (value_at x c) s)
    eval_extends (lit l) ls ks c fs s p g = refl
    eval_extends (fun_name f) ls ks c fs s p g = extends_refl (function_value w.texts f (entry_of f fs) (find (text w.texts f.name) f.arity w.functions) s)
    eval_extends (value_list es) ls ks c fs s p g = all_extends es ls ks c fs s p g
    eval_extends (tree.tuple es) ls ks c fs s p g = then_extends (eval_all w es ls c fs s) (eval_all w es ks c fs s) _ _ (all_extends es ls ks c fs s p g) (λ vs t. refl) (λ vs t. begins_refl t.outside.events)
    eval_extends (list es) ls ks c fs s p g = then_extends (eval_all w es ls c fs s) (eval_all w es ks c fs s) _ _ (all_extends es ls ks c fs s p g) (λ vs t. refl) (λ vs t. begins_refl t.outside.events)
    eval_extends (list_to es e) ls ks c fs s p g = then_extends (eval_all w es ls c fs s) (eval_all w es ks c fs s) _ _ (all_extends es ls ks c fs s p g)
        (λ vs t. then_extends (and_then (eval w e ls c fs t) single) (and_then (eval w e ks c fs t) single) _ _ (single_extends (eval w e ls c fs t) (eval w e ks c fs t) (eval_extends e ls ks c fs t p g)) (λ v u. refl) (λ v u. begins_refl u.outside.events))
        (λ vs t. then_ahead _ (and_then (eval w e ks c fs t) single) _ (single_after _ (eval w e ks c fs t) (eval_ahead w e ks c fs t g)) (λ v u. begins_refl u.outside.events))
    eval_extends (case_of e cs) ls ks c fs s p g = then_extends (eval w e ls c fs s) (eval w e ks c fs s) _ _ (eval_extends e ls ks c fs s p g)
        (λ vs t. if_extends (all_can_match (length vs) cs) _ _ _ _ (pick_extends cs vs ls ks c fs (λ u. u) (λ u. Wrong) (λ u. Wrong) t p g (λ u. begins_refl u.outside.events) (λ u. refl) (λ u. tt)) refl)
        (λ vs t. if_ahead _ (all_can_match (length vs) cs) _ _ (pick_ahead w cs vs ks c fs (λ u. u) (λ u. Wrong) t g (λ u. begins_refl u.outside.events) (λ u. tt)) tt)
    eval_extends (primop f es) ls ks c fs s p g = then_extends (eval_all w es ls c fs s) (eval_all w es ks c fs s) _ _ (all_extends es ls ks c fs s p g)
        (λ vs t. extends_refl (primitive (text w.texts f) vs t)) (λ vs t. primitive_ahead (text w.texts f) vs t)
    eval_extends (lets ss e) ls ks c fs s p g = then_extends (eval_steps w ss ls c fs s) (eval_steps w ss ks c fs s) _ _ (steps_extends ss ls ks c fs s p g) (λ d t. eval_extends e ls ks d fs t p g) (λ d t. eval_ahead w e ks d fs t g)
    eval_extends (tree.apply f es) ls ks c fs s p g =
        then_extends (and_then (eval w f ls c fs s) single) (and_then (eval w f ks c fs s) single) _ _ (single_extends (eval w f ls c fs s) (eval w f ks c fs s) (eval_extends f ls ks c fs s p g))
        (λ h t. then_extends (eval_all w es ls c fs t) (eval_all w es ks c fs t) _ _ (all_extends es ls ks c fs t p g)
        (λ vs u. one_extends _ _ (apply_extends (side w) ls ks (side_below w ls ks p g) (side_grows w ks g) h vs u))
        (λ vs u. one_ahead _ _ (apply_ahead (side w) ks (side_grows w ks g) h vs u)))
        (λ h t. then_ahead _ (eval_all w es ks c fs t) _ (all_ahead w es ks c fs t g) (λ vs u. one_ahead _ _ (apply_ahead (side w) ks (side_grows w ks g) h vs u)))
    eval_extends (call m f es) ls ks c fs s p g =
        let last = λ (h i : Value) (u : Target). then_ahead _ (eval_all w es ks c fs u) _ (all_ahead w es ks c fs u g) (λ vs x. one_ahead _ _ (remote_ahead (side w) ks h i vs x (side_grows w ks g))) in
        then_extends (and_then (eval w m ls c fs s) single) (and_then (eval w m ks c fs s) single) _ _ (single_extends (eval w m ls c fs s) (eval w m ks c fs s) (eval_extends m ls ks c fs s p g))
        (λ h t. then_extends (and_then (eval w f ls c fs t) single) (and_then (eval w f ks c fs t) single) _ _ (single_extends (eval w f ls c fs t) (eval w f ks c fs t) (eval_extends f ls ks c fs t p g))
        (λ i u. then_extends (eval_all w es ls c fs u) (eval_all w es ks c fs u) _ _ (all_extends es ls ks c fs u p g)
        (λ vs x. one_extends _ _ (remote_extends (side w) ls ks h i vs x (side_below w ls ks p g) (side_grows w ks g)))
        (λ vs x. one_ahead _ _ (remote_ahead (side w) ks h i vs x (side_grows w ks g))))
        (λ i u. last h i u))
        (λ h t. then_ahead _ (and_then (eval w f ks c fs t) single) _ (single_after _ (eval w f ks c fs t) (eval_ahead w f ks c fs t g)) (λ i u. last h i u))
    eval_extends _ ls ks c fs s p g = refl

    pub pick_extends : (cs : CoreClauses) (vs : List Value) (ls ks : Levels) (c : Vars) (fs : Funs) (took : Target → Target) (others rest : Target → Answer) (s : Target) → Below ls ks → Grow ks → OnlyAdds took →
        ((t : Target) → Extends (others t) (rest t)) → ((t : Target) → Ahead t.outside.events (rest t)) → Extends (pick w cs vs ls c fs took others s) (pick w cs vs ks c fs took rest s)
    pick_extends no_clauses vs ls ks c fs took others rest s p g o q r = q s
    pick_extends (clause ps h e cs) vs ls ks c fs took others rest s p g o q r = chosen_extends (match_all w.texts ps vs c) _ _ _ _
        (λ d. guarded_extends s (eval w h ls d fs s) (eval w h ks d fs s) _ _ _ _ (eval_extends h ls ks d fs s p g)
        (λ t. eval_extends e ls ks d fs (took t) p g) (λ t. pick_extends cs vs ls ks c fs took others rest t p g o q r)
        (λ t. ahead_trans _ _ (eval w e ks d fs (took t)) (o t) (eval_ahead w e ks d fs (took t) g)) (λ t. pick_ahead w cs vs ks c fs took rest t g o r))
        (pick_extends cs vs ls ks c fs took others rest s p g o q r)

    pub all_extends : (es : CoreTrees) (ls ks : Levels) (c : Vars) (fs : Funs) (s : Target) → Below ls ks → Grow ks → Extends (eval_all w es ls c fs s) (eval_all w es ks c fs s)
    all_extends end ls ks c fs s p g = refl
    all_extends (more e es) ls ks c fs s p g =
        then_extends (and_then (eval w e ls c fs s) single) (and_then (eval w e ks c fs s) single) _ _ (single_extends (eval w e ls c fs s) (eval w e ks c fs s) (eval_extends e ls ks c fs s p g))
        (λ v t. then_extends (eval_all w es ls c fs t) (eval_all w es ks c fs t) _ _ (all_extends es ls ks c fs t p g) (λ vs u. refl) (λ vs u. begins_refl u.outside.events))
        (λ v t. then_ahead _ (eval_all w es ks c fs t) _ (all_ahead w es ks c fs t g) (λ vs u. begins_refl u.outside.events))

    pub steps_extends : (ss : CoreSteps) (ls ks : Levels) (c : Vars) (fs : Funs) (s : Target) → Below ls ks → Grow ks → Extends (eval_steps w ss ls c fs s) (eval_steps w ss ks c fs s)
    steps_extends done ls ks c fs s p g = refl
    steps_extends (step xs e ss) ls ks c fs s p g =
        then_extends (and_then (eval w e ls c fs s) (λ vs t. given (bind xs vs c) t)) (and_then (eval w e ks c fs s) (λ vs t. given (bind xs vs c) t)) _ _
        (then_extends (eval w e ls c fs s) (eval w e ks c fs s) _ _ (eval_extends e ls ks c fs s p g) (λ vs t. extends_refl (given (bind xs vs c) t)) (λ vs t. given_ahead (bind xs vs c) t))
        (λ d t. steps_extends ss ls ks d fs t p g) (λ d t. steps_ahead w ss ks d fs t g)

  pub run_extends : (ls ks : Levels) (e : CoreTree) (fs : Funs) (o : Option Vars) (s : Target) → Below ls ks → Grow ks → Extends (run_body w ls e fs o s) (run_body w ks e fs o s)
  run_extends ls ks e fs None s p g = refl
  run_extends ls ks e fs (Some c) s p g = eval_extends e ls ks c fs s p g

  pub levels_below : (m n : ℕ) → m ≤ n → Below (levels w m) (levels w n)
  levels_below zero n le = tt
  levels_below (suc m) zero le = absurd (omega arith)
  levels_below (suc m) (suc n) le =
      let rest : m ≤ n = omega arith in
      (λ f vs s. run_extends (levels w m) (levels w n) f.body f.funs (bind f.params vs f.vars) s (levels_below m n rest) (levels_grow w n), levels_below m n rest)

  pub core_extends : (m n : ℕ) → m ≤ n → (e : CoreTree) (c : Vars) (fs : Funs) (s : Target) → Extends (core w m e c fs s) (core w n e c fs s)
  core_extends m n le e c fs s = eval_extends e (levels w m) (levels w n) c fs s (levels_below m n le) (levels_grow w n)
