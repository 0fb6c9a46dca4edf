-- A body goes on from one expression to the next.
use Rattle.std.proofs.Common.{◌≡◌, ◌<◌, ◌≤◌, ◌+◌, ℕ, List, refl, sym, ap, ◌∙◌, subst, length, drop, get_or}
use Rattle.std.specs.List.{flat_map}
use Rattle.std.proofs.lemmas.List.{drop_all}
use Rattle.ef_base.specs.declared.fault.Fault.{Fault}
use Rattle.ef_base.specs.Texts.{Texts}
use Rattle.ef_forms.specs.declared.expr.Expr.{Expr}
use Rattle.ef_forms.specs.OfTable.{TreesOf}
use Rattle.ef_forms.specs.Plain.{plain, plain_all}
use Rattle.ef_forms.specs.Ways.{NameSet, ways, body_ways, faults, body_faults}
use Rattle.ef_scope.specs.declared.state.State.{State}
use Rattle.ef_scope.specs.Trail.{Since}
use Rattle.ef_scope.specs.Walks.{Shows, Adds, Walks}
use Rattle.ef_scope.proofs.Adds.{adds_none, adds_then}
use Rattle.ef_scope.proofs.Lists.{next}
use Rattle.ef_scope.proofs.Parts.{flat_before, flat_stay}
use Rattle.ef_scope.proofs.TrailLaws.{since_none, since_then}

-- the state shows some ways that the rest leads on to the ways behind the whole
pub record OnWay (texts : Texts) (es : List Expr) (i : ℕ) (sets : List NameSet) (s : State) (old found : List Fault) : Type 0 where
  pub now : List NameSet
  pub shows : Shows now s
  pub leads : flat_map (body_ways (plain_all (drop i es))) now ≡ flat_map (body_ways (plain_all es)) sets
  pub faults : (new : List Fault) → Adds (body_faults texts (plain_all (drop i es)) now) found new → Adds (body_faults texts (plain_all es) sets) old new

pub record BodyLeft (texts : Texts) (es : List Expr) (i : ℕ) (origin s : State) (old found : List Fault) : Type 0 where
  pub names : TreesOf texts (plain_all (drop i es))
  pub since : Since origin s
  pub on_way : (sets : List NameSet) → Shows sets origin → OnWay texts es i sets s old found

pub body_none : (texts : Texts) (es : List Expr) (s : State) (found : List Fault) → TreesOf texts (plain_all es) → BodyLeft texts es 0 s s found found
body_none texts es s found names = record {
  names = names;
  since = since_none s;
  on_way = λ sets shows. record { now = sets; shows = shows; leads = refl; faults = λ new left. left };
}

pub body_more : (texts : Texts) (es : List Expr) (i : ℕ) (e : Expr) (origin s t : State) (old found found' : List Fault) → i < length es → e ≡ get_or es i e → BodyLeft texts es i origin s old found
    → Walks (ways (plain e)) (faults texts (plain e)) s t found found' → BodyLeft texts es (i + 1) origin t old found'
body_more texts es i e origin s t old found found' small read before walks =
    let at = next es i e small read in
    let rest = plain_all (drop (i + 1) es) in
    record {
      names = (subst (λ l. TreesOf texts (plain_all l)) at before.names).1;
      since = since_then origin s t before.since walks.since;
      on_way = λ sets shows.
          let was = before.on_way sets shows in
          record {
            now = flat_map (ways (plain e)) was.now;
            shows = walks.ways was.now was.shows;
            leads = sym (flat_before (ways (plain e)) (body_ways rest) was.now) ∙ ap (λ l. flat_map (body_ways (plain_all l)) was.now) (sym at) ∙ was.leads;
            faults = λ new left. was.faults new (subst (λ l. Adds (body_faults texts (plain_all l) was.now) found new) (sym at)
                (adds_then found found' new (faults texts (plain e) was.now) (body_faults texts rest (flat_map (ways (plain e)) was.now)) (walks.faults was.now was.shows) left));
          };
    }

pub body_end : (texts : Texts) (es : List Expr) (i : ℕ) (origin s : State) (old found : List Fault) → length es ≤ i → BodyLeft texts es i origin s old found
    → Walks (body_ways (plain_all es)) (body_faults texts (plain_all es)) origin s old found
body_end texts es i origin s old found over before =
    let none = drop_all i es over in
    record {
      ways = λ sets shows.
          let was = before.on_way sets shows in
          subst (λ l. Shows l s) (sym (flat_stay was.now) ∙ ap (λ l. flat_map (body_ways (plain_all l)) was.now) (sym none) ∙ was.leads) was.shows;
      faults = λ sets shows.
          let was = before.on_way sets shows in
          was.faults found (subst (λ l. Adds (body_faults texts (plain_all l) was.now) found found) (sym none) (adds_none found));
      since = before.since;
    }
