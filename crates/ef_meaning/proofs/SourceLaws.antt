-- The source: events only grow, and a larger bound keeps an end and extends the events of what goes on.
use Rattle.std.proofs.Common.{ℕ, zero, suc, ◌≤◌, if◌then◌else◌, codes, List, [], ◌∷◌, length, Option, Some, None, refl, arith}
use Rattle.ef_base.specs.Texts.{text}
use Rattle.ef_meaning.specs.Lookup.{find}
use Rattle.ef_forms.specs.Tree.{Tree, Shape, Trees, Guards, Clauses, tree, int, atom, var, list, list_to, tuple, matching, call, remote, case_of, end, more, no_guard, or_guard, no_clauses, clause, count}
use Rattle.ef_meaning.specs.Value.{Value, Atom}
use Rattle.ef_meaning.specs.Exception.{Error, function_clause, case_clause}
use Rattle.ef_meaning.specs.End.{End, Raises, Wrong}
use Rattle.ef_meaning.specs.Called.{apply}
use Rattle.ef_meaning.specs.Keeps.{Ahead, Extends}
use Rattle.ef_meaning.specs.Match.{Bindings, value_of, matches, match_all}
use Rattle.ef_meaning.specs.Source.{Function, Body, by_clauses, information, Source, Answer, Levels, Module, applied, function_of, side, named, matched, target, beside, chosen, are_wide, guarded, eval, eval_shape, eval_target, eval_all, eval_body, pick, run_body, levels, source}
use Rattle.ef_meaning.proofs.Ends.{OnlyAdds, begins_refl, ahead_trans, extends_refl, if_ahead, if_extends, then_ahead, then_extends}
use Rattle.ef_meaning.proofs.CalledLaws.{SideGrows, SideBelow, apply_ahead, apply_extends, remote_ahead, remote_extends}

-- ---- events only grow

abbrev pub Grow : Levels → Type 0
Grow [] = Unit {0}
Grow (l ∷ ls) = ((f : Function) (vs : List Value) (s : Source) → Ahead s.outside.events (l f vs s)) × Grow ls

pub applied_ahead : (o : Option Function) (ls : Levels) (vs : List Value) (s : Source) → Grow ls → Ahead s.outside.events (applied o ls vs s)
applied_ahead None ls vs s g = tt
applied_ahead (Some f) [] vs s g = begins_refl s.outside.events
applied_ahead (Some f) (l ∷ ls) vs s g = g.0 f vs s

pub side_grows : (w : Module) (ls : Levels) → Grow ls → SideGrows (side w) ls
side_grows w [] g = λ f vs s. applied_ahead (function_of w f s) [] vs s g
side_grows w (l ∷ ls) g = (λ f vs s. applied_ahead (function_of w f s) (l ∷ ls) vs s g, side_grows w ls g.1)

named_ahead : (o : Option Value) (b : Bindings) (s : Source) → Ahead s.outside.events (named o b s)
named_ahead None b s = tt
named_ahead (Some v) b s = begins_refl s.outside.events

pub matched_ahead : (o : Option Bindings) (v : Value) (s : Source) → Ahead s.outside.events (matched o v s)
matched_ahead None v s = begins_refl s.outside.events
matched_ahead (Some b) v s = begins_refl s.outside.events

found_ahead : (o : Option Function) (f : List ℕ) (arity : ℕ) (b : Bindings) (s : Source) → Ahead s.outside.events (target o f arity b s)
found_ahead None f arity b s = tt
found_ahead (Some g) f arity b s = begins_refl s.outside.events

beside_ahead : (b : Bindings) (e : End Value Source) (s : Source) → Ahead s.outside.events e → Ahead s.outside.events (beside b e)
beside_ahead b e s p = then_ahead s.outside.events e _ p (λ v t. begins_refl t.outside.events)

guarded_ahead : (g : Guards) (e : Answer) (s : Source) → Ahead s.outside.events e → Ahead s.outside.events (guarded g e)
guarded_ahead no_guard e s p = p
guarded_ahead (or_guard es gs) e s p = tt

chosen_ahead : (o : Option Bindings) (s : Source) (body : Bindings → Answer) (others : Answer) → ((b : Bindings) → Ahead s.outside.events (body b)) → Ahead s.outside.events others → Ahead s.outside.events (chosen o body others)
chosen_ahead None s body others p q = q
chosen_ahead (Some b) s body others p q = p b

module _ (w : Module) where
  mutual
    pub eval_ahead : (e : Tree) (ls : Levels) (b : Bindings) (s : Source) → Grow ls → Ahead s.outside.events (eval w e ls b s)
    eval_ahead (tree p e) ls b s g = shape_ahead e ls b s g

    shape_ahead : (e : Shape) (ls : Levels) (b : Bindings) (s : Source) → Grow ls → Ahead s.outside.events (eval_shape w e ls b s)
    shape_ahead (int i) ls b s g = begins_refl s.outside.events
    shape_ahead (atom n) ls b s g = begins_refl s.outside.events
    shape_ahead (var n) ls b s g = named_ahead (value_of n b) b s
    shape_ahead (list es) ls b s g = then_ahead _ (eval_all w es ls b s) _ (all_ahead es ls b s g) (λ a t. begins_refl t.outside.events)
    shape_ahead (list_to es e) ls b s g = then_ahead _ (eval_all w es ls b s) _ (all_ahead es ls b s g) (λ a t. then_ahead _ (eval w e ls a.1 t) _ (eval_ahead e ls a.1 t g) (λ d u. begins_refl u.outside.events))
    shape_ahead (tuple es) ls b s g = then_ahead _ (eval_all w es ls b s) _ (all_ahead es ls b s g) (λ a t. begins_refl t.outside.events)
    shape_ahead (matching p e) ls b s g = then_ahead _ (eval w e ls b s) _ (eval_ahead e ls b s g) (λ a t. matched_ahead (matches w.texts p a.0 a.1) a.0 t)
    shape_ahead (call f es) ls b s g = then_ahead _ (eval_target w f (count es) ls b s) _ (target_ahead f (count es) ls b s g) (λ h t.
        then_ahead _ (eval_all w es ls h.1 t) _ (all_ahead es ls h.1 t g) (λ a u. beside_ahead a.1 _ u (apply_ahead (side w) ls (side_grows w ls g) h.0 a.0 u)))
    shape_ahead (remote m f es) ls b s g = then_ahead _ (eval w m ls b s) _ (eval_ahead m ls b s g) (λ h t. then_ahead _ (eval w f ls h.1 t) _ (eval_ahead f ls h.1 t g) (λ k u.
        then_ahead _ (eval_all w es ls k.1 u) _ (all_ahead es ls k.1 u g) (λ a x. beside_ahead a.1 _ x (remote_ahead (side w) ls h.0 k.0 a.0 x (side_grows w ls g)))))
    shape_ahead (case_of e cs) ls b s g = then_ahead _ (eval w e ls b s) _ (eval_ahead e ls b s g) (λ a t.
        then_ahead _ (if are_wide 1 cs then pick w cs (a.0 ∷ []) ls a.1 (λ u. u) (λ u. Raises Error (case_clause a.0) u) t else Wrong) _
        (if_ahead _ (are_wide 1 cs) _ _ (pick_ahead cs (a.0 ∷ []) ls a.1 (λ u. u) (λ u. Raises Error (case_clause a.0) u) t g (λ u. begins_refl u.outside.events) (λ u. begins_refl u.outside.events)) tt) (λ r u. begins_refl u.outside.events))
    shape_ahead _ ls b s g = tt

    target_ahead : (e : Tree) (arity : ℕ) (ls : Levels) (b : Bindings) (s : Source) → Grow ls → Ahead s.outside.events (eval_target w e arity ls b s)
    target_ahead (tree p (atom n)) arity ls b s g = found_ahead (find (text w.texts n) arity w.functions) (text w.texts n) arity b s
    target_ahead (tree p e) arity ls b s g = shape_ahead e ls b s g

    pub all_ahead : (es : Trees) (ls : Levels) (b : Bindings) (s : Source) → Grow ls → Ahead s.outside.events (eval_all w es ls b s)
    all_ahead end ls b s g = begins_refl s.outside.events
    all_ahead (more e es) ls b s g = then_ahead _ (eval w e ls b s) _ (eval_ahead e ls b s g) (λ a t. then_ahead _ (eval_all w es ls a.1 t) _ (all_ahead es ls a.1 t g) (λ c u. begins_refl u.outside.events))

    pub body_ahead : (es : Trees) (ls : Levels) (b : Bindings) (s : Source) → Grow ls → Ahead s.outside.events (eval_body w es ls b s)
    body_ahead end ls b s g = tt
    body_ahead (more e end) ls b s g = eval_ahead e ls b s g
    body_ahead (more e (more d es)) ls b s g = then_ahead _ (eval w e ls b s) _ (eval_ahead e ls b s g) (λ a t. body_ahead (more d es) ls a.1 t g)

    pub pick_ahead : (cs : Clauses) (vs : List Value) (ls : Levels) (b : Bindings) (took : Source → Source) (others : Source → Answer) (s : Source) → Grow ls → OnlyAdds took → ((t : Source) → Ahead t.outside.events (others t)) →
        Ahead s.outside.events (pick w cs vs ls b took others s)
    pick_ahead no_clauses vs ls b took others s g p q = q s
    pick_ahead (clause r ps h body cs) vs ls b took others s g p q = chosen_ahead (match_all w.texts ps vs b) s _ _
        (λ c. guarded_ahead h (eval_body w body ls c (took s)) s (ahead_trans _ _ (eval_body w body ls c (took s)) (p s) (body_ahead body ls c (took s) g))) (pick_ahead cs vs ls b took others s g p q)

  -- the clauses of a `case`
  pub case_ahead : (cs : Clauses) (v : Value) (ls : Levels) (b : Bindings) (s : Source) → Grow ls → Ahead s.outside.events (if are_wide 1 cs then pick w cs (v ∷ []) ls b (λ u. u) (λ u. Raises Error (case_clause v) u) s else Wrong)
  case_ahead cs v ls b s g = if_ahead _ (are_wide 1 cs) _ _ (pick_ahead cs (v ∷ []) ls b (λ u. u) (λ u. Raises Error (case_clause v) u) s g (λ t. begins_refl t.outside.events) (λ t. begins_refl t.outside.events)) tt

  run_ahead : (ls : Levels) (f : Body) (vs : List Value) (s : Source) → Grow ls → Ahead s.outside.events (run_body w ls f vs s)
  run_ahead ls (by_clauses cs saved) vs s g = then_ahead _ (if are_wide (length vs) cs then pick w cs vs ls saved (λ t. t) (λ t. Raises Error function_clause t) s else Wrong) _
      (if_ahead _ (are_wide (length vs) cs) _ _ (pick_ahead cs vs ls saved (λ t. t) (λ t. Raises Error function_clause t) s g (λ t. begins_refl t.outside.events) (λ t. begins_refl t.outside.events)) tt) (λ a t. begins_refl t.outside.events)
  run_ahead ls information vs s g = remote_ahead (side w) ls (Atom (codes "erlang")) (Atom (codes "get_module_info")) (Atom w.name ∷ vs) s (side_grows w ls g)

  pub levels_grow : (n : ℕ) → Grow (levels w n)
  levels_grow zero = tt
  levels_grow (suc n) = (λ f vs s. run_ahead (levels w n) f.body vs s (levels_grow n), levels_grow n)

  pub source_ahead : (n : ℕ) (e : Tree) (b : Bindings) (s : Source) → Ahead s.outside.events (source w n e b s)
  source_ahead n e b s = eval_ahead e (levels w n) b s (levels_grow n)

-- ---- a larger bound

abbrev pub Below : Levels → Levels → Type 0
Below [] ks = Unit {0}
Below (l ∷ ls) [] = ⊥
Below (l ∷ ls) (k ∷ ks) = ((f : Function) (vs : List Value) (s : Source) → Extends (l f vs s) (k f vs s)) × Below ls ks

applied_extends : (o : Option Function) (ls ks : Levels) (vs : List Value) (s : Source) → Below ls ks → Grow ks → Extends (applied o ls vs s) (applied o ks vs s)
applied_extends None ls ks vs s p g = refl
applied_extends (Some f) [] ks vs s p g = applied_ahead (Some f) ks vs s g
applied_extends (Some f) (l ∷ ls) [] vs s p g = absurd p
applied_extends (Some f) (l ∷ ls) (k ∷ ks) vs s p g = p.0 f vs s

side_below : (w : Module) (ls ks : Levels) → Below ls ks → Grow ks → SideBelow (side w) ls ks
side_below w [] ks p g = λ f vs s. applied_extends (function_of w f s) [] ks vs s p g
side_below w (l ∷ ls) [] p g = absurd p
side_below w (l ∷ ls) (k ∷ ks) p g = (λ f vs s. applied_extends (function_of w f s) (l ∷ ls) (k ∷ ks) vs s p g, side_below w ls ks p.1 g.1)

beside_extends : (b : Bindings) (e f : End Value Source) → Extends e f → Extends (beside b e) (beside b f)
beside_extends b e f p = then_extends e f _ _ p (λ v t. refl) (λ v t. begins_refl t.outside.events)

guarded_extends : (g : Guards) (e f : Answer) → Extends e f → Extends (guarded g e) (guarded g f)
guarded_extends no_guard e f p = p
guarded_extends (or_guard es gs) e f p = refl

chosen_extends : (o : Option Bindings) (body other : Bindings → Answer) (others rest : Answer) → ((b : Bindings) → Extends (body b) (other b)) → Extends others rest → Extends (chosen o body others) (chosen o other rest)
chosen_extends None body other others rest p q = q
chosen_extends (Some b) body other others rest p q = p b

module _ (w : Module) where
  mutual
    eval_extends : (e : Tree) (ls ks : Levels) (b : Bindings) (s : Source) → Below ls ks → Grow ks → Extends (eval w e ls b s) (eval w e ks b s)
    eval_extends (tree p e) ls ks b s q g = shape_extends e ls ks b s q g

    shape_extends : (e : Shape) (ls ks : Levels) (b : Bindings) (s : Source) → Below ls ks → Grow ks → Extends (eval_shape w e ls b s) (eval_shape w e ks b s)
    shape_extends (int i) ls ks b s p g = refl
    shape_extends (atom n) ls ks b s p g = refl
    shape_extends (var n) ls ks b s p g = extends_refl (named (value_of n b) b s)
    shape_extends (list es) ls ks b s p g = then_extends (eval_all w es ls b s) (eval_all w es ks b s) _ _ (all_extends es ls ks b s p g) (λ a t. refl) (λ a t. begins_refl t.outside.events)
    shape_extends (list_to es e) ls ks b s p g = then_extends (eval_all w es ls b s) (eval_all w es ks b s) _ _ (all_extends es ls ks b s p g)
        (λ a t. then_extends (eval w e ls a.1 t) (eval w e ks a.1 t) _ _ (eval_extends e ls ks a.1 t p g) (λ d u. refl) (λ d u. begins_refl u.outside.events))
        (λ a t. then_ahead _ (eval w e ks a.1 t) _ (eval_ahead w e ks a.1 t g) (λ d u. begins_refl u.outside.events))
    shape_extends (tuple es) ls ks b s p g = then_extends (eval_all w es ls b s) (eval_all w es ks b s) _ _ (all_extends es ls ks b s p g) (λ a t. refl) (λ a t. begins_refl t.outside.events)
    shape_extends (matching q e) ls ks b s p g = then_extends (eval w e ls b s) (eval w e ks b s) _ _ (eval_extends e ls ks b s p g)
        (λ a t. extends_refl (matched (matches w.texts q a.0 a.1) a.0 t)) (λ a t. matched_ahead (matches w.texts q a.0 a.1) a.0 t)
    shape_extends (call f es) ls ks b s p g = then_extends (eval_target w f (count es) ls b s) (eval_target w f (count es) ks b s) _ _ (target_extends f (count es) ls ks b s p g)
        (λ h t. then_extends (eval_all w es ls h.1 t) (eval_all w es ks h.1 t) _ _ (all_extends es ls ks h.1 t p g)
        (λ a u. beside_extends a.1 _ _ (apply_extends (side w) ls ks (side_below w ls ks p g) (side_grows w ks g) h.0 a.0 u))
        (λ a u. beside_ahead a.1 _ u (apply_ahead (side w) ks (side_grows w ks g) h.0 a.0 u)))
        (λ h t. then_ahead _ (eval_all w es ks h.1 t) _ (all_ahead w es ks h.1 t g) (λ a u. beside_ahead a.1 _ u (apply_ahead (side w) ks (side_grows w ks g) h.0 a.0 u)))
    shape_extends (case_of e cs) ls ks b s p g = then_extends (eval w e ls b s) (eval w e ks b s) _ _ (eval_extends e ls ks b s p g)
        (λ a t. then_extends (if are_wide 1 cs then pick w cs (a.0 ∷ []) ls a.1 (λ u. u) (λ u. Raises Error (case_clause a.0) u) t else Wrong) (if are_wide 1 cs then pick w cs (a.0 ∷ []) ks a.1 (λ u. u) (λ u. Raises Error (case_clause a.0) u) t else Wrong) _ _
        (if_extends (are_wide 1 cs) _ _ _ _ (pick_extends cs (a.0 ∷ []) ls ks a.1 (λ u. u) (λ u. Raises Error (case_clause a.0) u) (λ u. Raises Error (case_clause a.0) u) t p g (λ u. refl)) refl) (λ r u. refl) (λ r u. begins_refl u.outside.events))
        (λ a t. then_ahead _ (if are_wide 1 cs then pick w cs (a.0 ∷ []) ks a.1 (λ u. u) (λ u. Raises Error (case_clause a.0) u) t else Wrong) _ (case_ahead w cs a.0 ks a.1 t g) (λ r u. begins_refl u.outside.events))
    shape_extends (remote m f es) ls ks b s p g =
        let last = λ (h i : Value × Bindings) (u : Source). then_ahead _ (eval_all w es ks i.1 u) _ (all_ahead w es ks i.1 u g) (λ a x. beside_ahead a.1 _ x (remote_ahead (side w) ks h.0 i.0 a.0 x (side_grows w ks g))) in
        then_extends (eval w m ls b s) (eval w m ks b s) _ _ (eval_extends m ls ks b s p g)
        (λ h t. then_extends (eval w f ls h.1 t) (eval w f ks h.1 t) _ _ (eval_extends f ls ks h.1 t p g)
        (λ i u. then_extends (eval_all w es ls i.1 u) (eval_all w es ks i.1 u) _ _ (all_extends es ls ks i.1 u p g)
        (λ a x. beside_extends a.1 _ _ (remote_extends (side w) ls ks h.0 i.0 a.0 x (side_below w ls ks p g) (side_grows w ks g)))
        (λ a x. beside_ahead a.1 _ x (remote_ahead (side w) ks h.0 i.0 a.0 x (side_grows w ks g))))
        (λ i u. last h i u))
        (λ h t. then_ahead _ (eval w f ks h.1 t) _ (eval_ahead w f ks h.1 t g) (λ i u. last h i u))
    shape_extends _ ls ks b s p g = refl

    target_extends : (e : Tree) (arity : ℕ) (ls ks : Levels) (b : Bindings) (s : Source) → Below ls ks → Grow ks → Extends (eval_target w e arity ls b s) (eval_target w e arity ks b s)
    target_extends (tree p (atom n)) arity ls ks b s q g = extends_refl (target (find (text w.texts n) arity w.functions) (text w.texts n) arity b s)
    target_extends (tree p e) arity ls ks b s q g = shape_extends e ls ks b s q g

    all_extends : (es : Trees) (ls ks : Levels) (b : Bindings) (s : Source) → Below ls ks → Grow ks → Extends (eval_all w es ls b s) (eval_all w es ks b s)
    all_extends end ls ks b s p g = refl
    all_extends (more e es) ls ks b s p g = then_extends (eval w e ls b s) (eval w e ks b s) _ _ (eval_extends e ls ks b s p g)
        (λ a t. then_extends (eval_all w es ls a.1 t) (eval_all w es ks a.1 t) _ _ (all_extends es ls ks a.1 t p g) (λ c u. refl) (λ c u. begins_refl u.outside.events))
        (λ a t. then_ahead _ (eval_all w es ks a.1 t) _ (all_ahead w es ks a.1 t g) (λ c u. begins_refl u.outside.events))

    body_extends : (es : Trees) (ls ks : Levels) (b : Bindings) (s : Source) → Below ls ks → Grow ks → Extends (eval_body w es ls b s) (eval_body w es ks b s)
    body_extends end ls ks b s p g = refl
    body_extends (more e end) ls ks b s p g = eval_extends e ls ks b s p g
    body_extends (more e (more d es)) ls ks b s p g = then_extends (eval w e ls b s) (eval w e ks b s) _ _ (eval_extends e ls ks b s p g)
        (λ a t. body_extends (more d es) ls ks a.1 t p g) (λ a t. body_ahead w (more d es) ks a.1 t g)

    pub pick_extends : (cs : Clauses) (vs : List Value) (ls ks : Levels) (b : Bindings) (took : Source → Source) (others rest : Source → Answer) (s : Source) → Below ls ks → Grow ks → ((t : Source) → Extends (others t) (rest t)) →
        Extends (pick w cs vs ls b took others s) (pick w cs vs ks b took rest s)
    pick_extends no_clauses vs ls ks b took others rest s p g q = q s
    pick_extends (clause r ps h body cs) vs ls ks b took others rest s p g q = chosen_extends (match_all w.texts ps vs b) _ _ _ _
        (λ c. guarded_extends h (eval_body w body ls c (took s)) (eval_body w body ks c (took s)) (body_extends body ls ks c (took s) p g)) (pick_extends cs vs ls ks b took others rest s p g q)

  run_extends : (ls ks : Levels) (f : Body) (vs : List Value) (s : Source) → Below ls ks → Grow ks → Extends (run_body w ls f vs s) (run_body w ks f vs s)
  run_extends ls ks (by_clauses cs saved) vs s p g = then_extends _ _ _ _ (if_extends (are_wide (length vs) cs) _ _ _ _ (pick_extends cs vs ls ks saved (λ t. t) (λ t. Raises Error function_clause t) (λ t. Raises Error function_clause t) s p g (λ t. refl)) refl) (λ a t. refl) (λ a t. begins_refl t.outside.events)
  run_extends ls ks information vs s p g = remote_extends (side w) ls ks (Atom (codes "erlang")) (Atom (codes "get_module_info")) (Atom w.name ∷ vs) s (side_below w ls ks p g) (side_grows w ks g)

  levels_below : (m n : ℕ) → m ≤ n → Below (levels w m) (levels w n)
  levels_below zero n le = tt
  levels_below (suc m) zero le = absurd (omega arith)
  levels_below (suc m) (suc n) le =
      let rest : m ≤ n = omega arith in
      (λ f vs s. run_extends (levels w m) (levels w n) f.body vs s (levels_below m n rest) (levels_grow w n), levels_below m n rest)

  pub source_extends : (m n : ℕ) → m ≤ n → (e : Tree) (b : Bindings) (s : Source) → Extends (source w m e b s) (source w n e b s)
  source_extends m n le e b s = eval_extends e (levels w m) (levels w n) b s (levels_below m n le) (levels_grow w n)

  pub source_steady : (m n : ℕ) → m ≤ n → (f : Value) (vs : List Value) (s : Source) → Extends (apply (side w) (levels w m) f vs s) (apply (side w) (levels w n) f vs s)
  source_steady m n le f vs s = apply_extends (side w) (levels w m) (levels w n) (side_below w (levels w m) (levels w n) (levels_below m n le) (levels_grow w n)) (side_grows w (levels w n) (levels_grow w n)) f vs s
