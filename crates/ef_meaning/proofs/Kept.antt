-- A Core module whose functions keep the meaning of those of a source module keeps its meaning.
use Rattle.std.proofs.Common.{◌≡◌, ◌≢◌, ℕ, ◌&&◌, ◌==◌, inl, inr, Bool, true, false, if◌then◌else◌, codes, bytes_eq, List, [], ◌∷◌, ◌++◌, length, map, Option, Some, None, refl, sym, ap, ◌∙◌, subst, arith}
use Rattle.std.proofs.lemmas.Bool.Decides.{nat_tests}
use Rattle.ef_base.specs.declared.name.Name.{Name}
use Rattle.ef_base.specs.Texts.{Texts, Extends, text}
use Rattle.ef_base.specs.Laws.{extends_same}
use Rattle.ef_core.specs.declared.literal.CoreVar.{CoreVar}
use Rattle.ef_core.specs.declared.literal.CoreVar.TheVariants.{Numbered}
use Rattle.ef_core.specs.Plain as plain
use Rattle.ef_core.specs.Tree as c
use Rattle.ef_core.specs.Tree.{CoreTree, DefTree, CoreModuleTree}
use Rattle.ef_forms.specs.Tree.{FunctionTree, ModuleTree}
use Rattle.ef_forms.specs.Built.{IsBuilt, functions_in}
use Rattle.ef_meaning.specs.Value.{Value, Atom, Local}
use Rattle.ef_meaning.specs.Lookup.{FunctionKey, find, keys}
use Rattle.ef_meaning.specs.Outside.{Event, State}
use Rattle.ef_meaning.specs.End.{End, Gives, Raises, Waits, More, Wrong}
use Rattle.ef_meaning.specs.Called.{apply, remote}
use Rattle.ef_meaning.specs.Keeps.{Ahead, SameEnd, Reached, Equals, Keeps}
use Rattle.ef_meaning.specs.Source as source
use Rattle.ef_meaning.specs.Source.{Source, Function, by_clauses, information, module_info}
use Rattle.ef_meaning.specs.Core as core
use Rattle.ef_meaning.specs.Core.{CoreModule, Code, Target, one_value}
use Rattle.ef_meaning.specs.Bound.{IsBoundModule}
use Rattle.ef_meaning.specs.Runs.{Run, ShowsOn, Agrees, Follows, KeepsMeaning, shown, start, source_run}
use Rattle.ef_meaning.specs.Lowers.{Entry, Includes, Bodies, Related, Alike, CallsKept, Worlds, KeepsDefinition, KeepDefinitions, IsInformation, KeepsFunctions}
use Rattle.ef_meaning.proofs.Parts.{includes_left, includes_right, bodies_both}
use Rattle.ef_meaning.proofs.Simulate.{keeps_same}
use Rattle.ef_meaning.proofs.Remote.{remote_steady, remote_keeps}
use Rattle.ef_meaning.proofs.Calls.{one_keeps}
use Rattle.ef_meaning.proofs.Whole.{FunctionsKept, BothKept, all_kept}
use Rattle.ef_meaning.proofs.Meant.{runs_meant}
use Rattle.ef_meaning.proofs.Later.{function_later}

-- ---- what is kept in a table is kept in a later one

pub definitions_later : (now all : Texts) (fs : List FunctionTree) (ds : List DefTree) → Extends now all → KeepDefinitions now fs ds → KeepDefinitions all fs ds
definitions_later now all [] [] later k = tt
definitions_later now all [] (d ∷ ds) later k = absurd k
definitions_later now all (f ∷ fs) [] later k = absurd k
definitions_later now all (f ∷ fs) (d ∷ ds) later k =
    (record { name = k.0.name; arity = k.0.arity; parameters = k.0.parameters; keeps = function_later now all later (by_clauses f.clauses []) d.params d.body k.0.keeps }, definitions_later now all fs ds later k.1)

-- ---- entries

abbrev all_made : (now : Texts) (fs : List FunctionTree) (ds : List DefTree) → KeepDefinitions now fs ds → List Entry
all_made now [] [] k = []
all_made now [] (d ∷ ds) k = absurd k
all_made now (f ∷ fs) [] k = absurd k
all_made now (f ∷ fs) (d ∷ ds) k = k.0.keeps.made ++ all_made now fs ds k.1

all_bodies : (now : Texts) (fs : List FunctionTree) (ds : List DefTree) (k : KeepDefinitions now fs ds) → Bodies now (all_made now fs ds k)
all_bodies now [] [] k w cw world all inc n calls = tt
all_bodies now [] (d ∷ ds) k w cw world all inc n calls = absurd k
all_bodies now (f ∷ fs) [] k w cw world all inc n calls = absurd k
all_bodies now (f ∷ fs) (d ∷ ds) k w cw world all inc n calls = bodies_both now k.0.keeps.made (all_made now fs ds k.1) k.0.keeps.bodies (all_bodies now fs ds k.1) w cw world all inc n calls

includes_more : (xs all : List Entry) (y : Entry) → Includes xs all → Includes xs (y ∷ all)
includes_more [] all y p = tt
includes_more (x ∷ xs) all y p = (inr p.0, includes_more xs all y p.1)

includes_refl : (xs : List Entry) → Includes xs xs
includes_refl [] = tt
includes_refl (x ∷ xs) = (inl refl, includes_more xs xs x (includes_refl xs))

-- ---- functions of the same names

module _ (all : Texts) (m : ModuleTree) (ds : List DefTree) (d0 d1 : DefTree) (k : KeepDefinitions all (functions_in m.forms) ds) (i0 : IsInformation all m.name [] d0) (i1 : IsInformation all m.name (Numbered 0 ∷ []) d1) where
  abbrev w : source.Module
  w = source.module_of all m

  abbrev cw : CoreModule
  cw = record { texts = all; functions = map (core.defined all) (ds ++ (d0 ∷ d1 ∷ [])) }

  same_keys : (fs : List FunctionTree) (es : List DefTree) → KeepDefinitions all fs es → keys (map (core.defined all) (es ++ (d0 ∷ d1 ∷ []))) ≡ keys (map (source.defined all) fs ++ (module_info 0 ∷ module_info 1 ∷ []))
  same_keys [] [] h = λ i. record { name = i0.name_text i; arity = i0.arity i } ∷ record { name = i1.name_text i; arity = i1.arity i } ∷ []
  same_keys [] (e ∷ es) h = absurd h
  same_keys (f ∷ fs) [] h = absurd h
  same_keys (f ∷ fs) (e ∷ es) h = λ i. record { name = text all (h.0.name i); arity = h.0.arity i } ∷ same_keys fs es h.1 i

  world : Worlds all w cw
  world = record { begins = extends_same all; texts = refl; functions = same_keys (functions_in m.forms) ds k }

  abbrev made : List Entry
  made = all_made all (functions_in m.forms) ds k

  -- what `module_info` calls
  abbrev info_tree : Name → Name → List CoreVar → CoreTree
  info_tree e g params = c.call (c.lit (c.atom e)) (c.lit (c.atom g)) (plain.trees (c.lit (c.atom m.name) ∷ map (λ x. c.var x) params))

  abbrev RunsAs : List CoreVar → Type 0
  RunsAs params = (e g : Name) (vs : List Value) (ls : core.Levels) (t : Target) → length vs ≡ length params →
      core.run_body cw ls (info_tree e g params) [] (core.bind params vs []) t ≡ one_value (remote (core.side cw) ls (Atom (text all e)) (Atom (text all g)) (Atom w.name ∷ vs) t)

  no_params : RunsAs []
  no_params e g [] ls t len = refl
  no_params e g (v ∷ vs) ls t len = absurd cc

  one_param : RunsAs (Numbered 0 ∷ [])
  one_param e g [] ls t len = absurd cc
  one_param e g (v ∷ []) ls t len = refl
  one_param e g (u ∷ v ∷ vs) ls t len = absurd (omega arith)

  information_kept : (params : List CoreVar) (d : DefTree) → IsInformation all m.name params d → RunsAs params → FunctionsKept w cw made d.name.arity (record { arity = length params; body = information }) (core.defined all d).1
  information_kept params d i run = record {
    parameters = ap (λ (l : List CoreVar). length l) i.parameters ∙ sym i.arity;
    kept = λ n calls en vs s t same len.
        let E = Atom (codes "erlang") in
        let G = Atom (codes "get_module_info") in
        keeps_same _ (Related cw made en) n _ (remote (source.side w) (source.levels w n) E G (Atom w.name ∷ vs) s) _ (λ j. one_value (remote (core.side cw) (core.levels cw j) E G (Atom w.name ∷ vs) t)) refl
        (λ x j. (ap (λ b. core.run_body cw (core.levels cw j) b [] (core.bind d.params vs []) t) i.body
        ∙ ap (λ ps. core.run_body cw (core.levels cw j) (info_tree i.erlang i.get_module_info params) [] (core.bind ps vs []) t) i.parameters
        ∙ run i.erlang i.get_module_info vs (core.levels cw j) t (len ∙ ap (λ (l : List CoreVar). length l) i.parameters)
        ∙ ap (λ z. one_value (remote (core.side cw) (core.levels cw j) (Atom z) (Atom (text all i.get_module_info)) (Atom w.name ∷ vs) t)) i.erlang_text
        ∙ ap (λ z. one_value (remote (core.side cw) (core.levels cw j) E (Atom z) (Atom w.name ∷ vs) t)) i.get_module_info_text) x)
        (one_keeps cw made en n (remote (source.side w) (source.levels w n) E G (Atom w.name ∷ vs) s) (λ j. remote (core.side cw) (core.levels cw j) E G (Atom w.name ∷ vs) t) (remote_steady cw E G (Atom w.name ∷ vs) t).extends
        (remote_keeps w cw world.functions made en n (λ j lt. calls j (omega arith)) (codes "erlang") (codes "get_module_info") (Atom w.name ∷ vs) s t same));
  }

  definition_kept : (f : FunctionTree) (d : DefTree) (h : KeepsDefinition all f d) → Includes h.keeps.made made → FunctionsKept w cw made f.arity (source.defined all f).1 (core.defined all d).1
  definition_kept f d h inc = record { parameters = h.parameters; kept = λ n calls. h.keeps.keeps w cw world made inc n calls }

  -- one function of each, and those behind it
  next_pair : (f : List ℕ) (a : ℕ) (p q : FunctionKey) (x : Function) (y : Code) (o : Option Function) (r : Option Code) → q ≡ p → FunctionsKept w cw made p.arity x y → BothKept w cw made a o r →
      BothKept w cw made a (if bytes_eq p.name f && p.arity == a then Some x else o) (if bytes_eq q.name f && q.arity == a then Some y else r)
  next_pair f a p q x y o r same kept rest =
      subst (λ z. BothKept w cw made a (if bytes_eq p.name f && p.arity == a then Some x else o) (if bytes_eq z.name f && z.arity == a then Some y else r)) (sym same) (by (bytes_eq p.name f) (p.arity == a) refl)
    where
      by : (t u : Bool) → (p.arity == a) ≡ u → BothKept w cw made a (if t && u then Some x else o) (if t && u then Some y else r)
      by true true e = let is : p.arity ≡ a = grind (arith, nat_tests) in subst (λ z. FunctionsKept w cw made z x y) is kept
      by true false e = rest
      by false u e = rest

  pairs : (f : List ℕ) (a : ℕ) (fs : List FunctionTree) (es : List DefTree) (h : KeepDefinitions all fs es) → Includes (all_made all fs es h) made →
      BothKept w cw made a (find f a (map (source.defined all) fs ++ (module_info 0 ∷ module_info 1 ∷ []))) (find f a (map (core.defined all) (es ++ (d0 ∷ d1 ∷ []))))
  pairs f a [] [] h inc =
      next_pair f a (module_info 0).0 (core.defined all d0).0 (module_info 0).1 (core.defined all d0).1 _ _ (λ i. record { name = i0.name_text i; arity = i0.arity i })
      (subst (λ z. FunctionsKept w cw made z (module_info 0).1 (core.defined all d0).1) i0.arity (information_kept [] d0 i0 no_params))
      (next_pair f a (module_info 1).0 (core.defined all d1).0 (module_info 1).1 (core.defined all d1).1 None None (λ i. record { name = i1.name_text i; arity = i1.arity i })
      (subst (λ z. FunctionsKept w cw made z (module_info 1).1 (core.defined all d1).1) i1.arity (information_kept (Numbered 0 ∷ []) d1 i1 one_param)) tt)
  pairs f a [] (e ∷ es) h inc = absurd h
  pairs f a (g ∷ fs) [] h inc = absurd h
  pairs f a (g ∷ fs) (e ∷ es) h inc =
      next_pair f a (source.defined all g).0 (core.defined all e).0 (source.defined all g).1 (core.defined all e).1 _ _ (λ i. record { name = text all (h.0.name i); arity = h.0.arity i })
      (definition_kept g e h.0 (includes_left h.0.keeps.made (all_made all fs es h.1) made inc))
      (pairs f a fs es h.1 (includes_right h.0.keeps.made (all_made all fs es h.1) made inc))

  calls_kept : (n : ℕ) → CallsKept w cw made n
  calls_kept n = all_kept all w cw world made (λ f a. pairs f a (functions_in m.forms) ds k (includes_refl made)) (λ j calls. all_bodies all (functions_in m.forms) ds k w cw world made (includes_refl made) j calls) n

  abbrev S : Run → ℕ → End Value Source
  S r n = source_run all m r n

  abbrev C : Run → ℕ → End Value Target
  C r n = apply (core.side cw) (core.levels cw n) (Local r.name (length r.arguments)) r.arguments (start r (record { made = []; entries = [] }))

  run_kept : (r : Run) (n : ℕ) → Keeps Alike (Related cw made []) n (S r n) (C r)
  run_kept r n = (calls_kept n).each [] (Local r.name (length r.arguments)) r.arguments (start r []) (start r (record { made = []; entries = [] })) (record { outside = refl; entered = ([], refl); funs = tt })

  -- ---- what is shown

  same_shown : (e : End Value Source) (f : End Value Target) → e ≢ Wrong → SameEnd Alike (Related cw made []) e f → shown f ≡ shown e
  same_shown (Gives a s) (Gives b t) meant p = λ i. Gives (sym p.0 i) (record { events = (sym p.1.outside i).events; mailbox = (sym p.1.outside i).mailbox })
  same_shown (Raises x a s) (Raises y b t) meant p = λ i. Raises (sym p.0 i) (sym p.1 i) (record { events = (sym p.2.outside i).events; mailbox = (sym p.2.outside i).mailbox })
  same_shown (Waits s) (Waits t) meant p = λ i. Waits (record { events = (sym p.outside i).events; mailbox = (sym p.outside i).mailbox })
  same_shown Wrong f meant p = absurd (meant refl)
  same_shown (Gives a s) (Raises y b t) meant p = absurd p
  same_shown (Gives a s) (Waits t) meant p = absurd p
  same_shown (Gives a s) (More t) meant p = absurd p
  same_shown (Gives a s) Wrong meant p = absurd p
  same_shown (Raises x a s) (Gives b t) meant p = absurd p
  same_shown (Raises x a s) (Waits t) meant p = absurd p
  same_shown (Raises x a s) (More t) meant p = absurd p
  same_shown (Raises x a s) Wrong meant p = absurd p
  same_shown (Waits s) (Gives b t) meant p = absurd p
  same_shown (Waits s) (Raises y b t) meant p = absurd p
  same_shown (Waits s) (More t) meant p = absurd p
  same_shown (Waits s) Wrong meant p = absurd p
  same_shown (More s) (Gives b t) meant p = absurd p
  same_shown (More s) (Raises y b t) meant p = absurd p
  same_shown (More s) (Waits t) meant p = absurd p
  same_shown (More s) (More t) meant p = absurd p
  same_shown (More s) Wrong meant p = absurd p

  never_wrong : (e : End Value Source) → e ≢ Wrong → Equals Alike (Related cw made []) e Wrong → ⊥
  never_wrong (Gives a s) meant p = p
  never_wrong (Raises x a s) meant p = p
  never_wrong (Waits s) meant p = p
  never_wrong (More s) meant p = p
  never_wrong Wrong meant p = meant refl

pub shows_on : {A F : Type 0} (xs : List Event) (f : End A (State F)) → f ≢ Wrong → Ahead xs f → ShowsOn xs (shown f)
shows_on xs (Gives a s) meant p = p
shows_on xs (Raises x a s) meant p = p
shows_on xs (Waits s) meant p = p
shows_on xs (More s) meant p = p
shows_on xs Wrong meant p = absurd (meant refl)

module _ (all : Texts) (m : ModuleTree) (ds : List DefTree) (d0 d1 : DefTree) (k : KeepDefinitions all (functions_in m.forms) ds) (i0 : IsInformation all m.name [] d0) (i1 : IsInformation all m.name (Numbered 0 ∷ []) d1) where
  abbrev R : Source → Target → Type 0
  R = Related (cw all m ds d0 d1 k i0 i1) (made all m ds d0 d1 k i0 i1) []

  abbrev Ends : Run → ℕ → End Value Source
  Ends r n = S all m ds d0 d1 k i0 i1 r n

  abbrev Cores : Run → ℕ → End Value Target
  Cores r n = C all m ds d0 d1 k i0 i1 r n

  module _ (r : Run) (meant : (n : ℕ) → Ends r n ≢ Wrong) where
    core_meant : (n : ℕ) → Cores r n ≢ Wrong
    core_meant n is = never_wrong all m ds d0 d1 k i0 i1 (Ends r n) (meant n) (subst (λ f. Equals Alike R (Ends r n) f) is (run_kept all m ds d0 d1 k i0 i1 r n).equal)

    source_first : Follows (λ n. shown (Ends r n)) (λ n. shown (Cores r n))
    source_first n = by (Ends r n) (meant n) (run_kept all m ds d0 d1 k i0 i1 r n).reached
      where
        by : (e : End Value Source) → e ≢ Wrong → Reached Alike R e (Cores r) → (j : ℕ) × Agrees (shown e) (shown (Cores r j))
        by (Gives a s) h p = (p.0, same_shown all m ds d0 d1 k i0 i1 (Gives a s) (Cores r p.0) h p.1)
        by (Raises x a s) h p = (p.0, same_shown all m ds d0 d1 k i0 i1 (Raises x a s) (Cores r p.0) h p.1)
        by (Waits s) h p = (p.0, same_shown all m ds d0 d1 k i0 i1 (Waits s) (Cores r p.0) h p.1)
        by (More s) h p = (p.0, shows_on s.outside.events (Cores r p.0) (core_meant p.0) p.1)
        by Wrong h p = absurd (h refl)

    core_first : Follows (λ n. shown (Cores r n)) (λ n. shown (Ends r n))
    core_first n = (n, by (Cores r n) (core_meant n) (run_kept all m ds d0 d1 k i0 i1 r n).equal)
      where
        by : (f : End Value Target) → f ≢ Wrong → Equals Alike R (Ends r n) f → Agrees (shown f) (shown (Ends r n))
        by (More t) h p = shows_on t.outside.events (Ends r n) (meant n) p
        by (Gives b t) h p = sym (same_shown all m ds d0 d1 k i0 i1 (Ends r n) (Gives b t) (meant n) p)
        by (Raises y b t) h p = sym (same_shown all m ds d0 d1 k i0 i1 (Ends r n) (Raises y b t) (meant n) p)
        by (Waits t) h p = sym (same_shown all m ds d0 d1 k i0 i1 (Ends r n) (Waits t) (meant n) p)
        by Wrong h p = absurd (h refl)

pub module_keeps : (all : Texts) (m : ModuleTree) (t : CoreModuleTree) → KeepsFunctions all m t → IsBuilt all m → IsBoundModule all m → KeepsMeaning all m t
module_keeps all m t k built bound =
    let same : record { texts = all; functions = map (core.defined all) (k.functions ++ (k.information ∷ k.item ∷ [])) } ≡ core.module_of all t = λ i. record { texts = all; functions = map (core.defined all) (sym k.definitions i) } in
    record {
      meant = λ r run n. runs_meant all m built bound r run n;
      source_first = λ r run. subst (λ (cw : CoreModule). Follows (λ n. shown (source_run all m r n)) (λ n. shown (apply (core.side cw) (core.levels cw n) (Local r.name (length r.arguments)) r.arguments (start r (record { made = []; entries = [] }))))) same
          (source_first all m k.functions k.information k.item k.keep k.is_information k.is_item r (runs_meant all m built bound r run));
      core_first = λ r run. subst (λ (cw : CoreModule). Follows (λ n. shown (apply (core.side cw) (core.levels cw n) (Local r.name (length r.arguments)) r.arguments (start r (record { made = []; entries = [] })))) (λ n. shown (source_run all m r n))) same
          (core_first all m k.functions k.information k.item k.keep k.is_information k.is_item r (runs_meant all m built bound r run));
    }
