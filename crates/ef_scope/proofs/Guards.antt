-- The tests of a guard, from left to right; behind the last the changes are taken back.
use Rattle.std.proofs.Common.{◌≡◌, ◌<◌, ◌≤◌, ◌+◌, ℕ, List, ◌++◌, sym, subst, length, drop, get_or}
use Rattle.std.specs.Prelude.{Vec}
use Rattle.std.specs.List.{flat_map}
use Rattle.std.specs.declared.alloc.Global.{Global}
use Rattle.std.proofs.lemmas.List.{drop_all}
use Rattle.ef_base.specs.declared.fault.Fault.{Fault}
use Rattle.ef_base.specs.Texts.{Texts}
use Rattle.ef_forms.specs.declared.expr.Expr.{Expr}
use Rattle.ef_forms.specs.OfTable.{GuardsOf}
use Rattle.ef_forms.specs.Plain.{plain_all, plain_guard}
use Rattle.ef_forms.specs.Ways.{NameSet, Way, stay, body_ways, body_faults, guards_faults}
use Rattle.ef_scope.specs.declared.state.State.{State}
use Rattle.ef_scope.specs.Trail.{GoesBack, Since}
use Rattle.ef_scope.specs.Walks.{Shows, Adds, Walks}
use Rattle.ef_scope.proofs.Adds.{adds_none, adds_then}
use Rattle.ef_scope.proofs.Lists.{next_of}
use Rattle.ef_scope.proofs.Parts.{back_to, flat_stay, shows_same, since_same}
use Rattle.ef_scope.proofs.TrailLaws.{since_none, since_then}

-- the state shows some ways that lead on to the rest of the tests
pub record OnWay (texts : Texts) (gs : List (Vec Expr Global)) (i : ℕ) (sets : List NameSet) (s : State) (old found : List Fault) : Type 0 where
  pub now : List NameSet
  pub shows : Shows now s
  pub faults : (new : List Fault) → Adds (guards_faults texts (plain_guard (drop i gs)) now) found new → Adds (guards_faults texts (plain_guard gs) sets) old new

pub record GuardLeft (texts : Texts) (gs : List (Vec Expr Global)) (i : ℕ) (origin s : State) (old found : List Fault) : Type 0 where
  pub names : GuardsOf texts (plain_guard (drop i gs))
  pub since : Since origin s
  pub on_way : (sets : List NameSet) → Shows sets origin → OnWay texts gs i sets s old found

pub guard_none : (texts : Texts) (gs : List (Vec Expr Global)) (s : State) (found : List Fault) → GuardsOf texts (plain_guard gs) → GuardLeft texts gs 0 s s found found
guard_none texts gs s found names = record {
  names = names;
  since = since_none s;
  on_way = λ sets shows. record { now = sets; shows = shows; faults = λ new left. left };
}

pub guard_more : (texts : Texts) (gs read_gs : List (Vec Expr Global)) (i : ℕ) (g : Vec Expr Global) (tests : List Expr) (origin s t : State) (old found found' : List Fault) → read_gs ≡ gs → i < length read_gs → g ≡ get_or read_gs i g → tests ≡ g.items
    → GuardLeft texts gs i origin s old found → Walks (body_ways (plain_all tests)) (body_faults texts (plain_all tests)) s t found found' → GuardLeft texts gs (i + 1) origin t old found'
guard_more texts gs read_gs i g tests origin s t old found found' whole small read is before walks =
    let at = next_of gs read_gs i g whole small read in
    let es = plain_all g.items in
    let rest = plain_guard (drop (i + 1) gs) in
    let walks' : Walks (body_ways es) (body_faults texts es) s t found found' = subst (λ l. Walks (body_ways (plain_all l)) (body_faults texts (plain_all l)) s t found found') is walks in
    record {
      names = (subst (λ l. GuardsOf texts (plain_guard l)) at before.names).1;
      since = since_then origin s t before.since walks'.since;
      on_way = λ sets shows.
          let was = before.on_way sets shows in
          record {
            now = flat_map (body_ways es) was.now;
            shows = walks'.ways was.now was.shows;
            faults = λ new left. was.faults new (subst (λ l. Adds (guards_faults texts (plain_guard l) was.now) found new) (sym at)
                (adds_then found found' new (body_faults texts es was.now) (guards_faults texts rest (flat_map (body_ways es) was.now)) (walks'.faults was.now was.shows) left));
          };
    }

pub guard_end : (texts : Texts) (gs read_gs : List (Vec Expr Global)) (i : ℕ) (origin s new : State) (start : ℕ) (old found : List Fault) → read_gs ≡ gs → length read_gs ≤ i → start ≡ length origin.trail.items → GuardLeft texts gs i origin s old found
    → GoesBack start s new → Walks stay (guards_faults texts (plain_guard gs)) origin new old found
guard_end texts gs read_gs i origin s new start old found whole over is before back =
    let none = drop_all i gs (subst (λ l. length l ≤ i) whole over) in
    let same = back_to origin s new start before.since is back in
    record {
      ways = λ sets shows. subst (λ l. Shows l new) (sym (flat_stay sets)) (shows_same new origin sets same shows);
      faults = λ sets shows.
          let was = before.on_way sets shows in
          was.faults found (subst (λ l. Adds (guards_faults texts (plain_guard l) was.now) found found) (sym none) (adds_none found));
      since = since_same new origin new same (since_none new);
    }

-- what leaves the ways as they are, and what follows it
pub stay_then : (g : List NameSet → List Fault) (f : Way) (h : List NameSet → List Fault) (a b c : State) (x y z : List Fault) → Walks stay g a b x y → Walks f h b c y z → Walks f (λ s. g s ++ h s) a c x z
stay_then g f h a b c x y z p q =
    let shown : (sets : List NameSet) → Shows sets a → Shows sets b = λ sets shows. subst (λ l. Shows l b) (flat_stay sets) (p.ways sets shows) in
    record {
      ways = λ sets shows. q.ways sets (shown sets shows);
      faults = λ sets shows. adds_then x y z (g sets) (h sets) (p.faults sets shows) (q.faults sets (shown sets shows));
      since = since_then a b c p.since q.since;
    }
