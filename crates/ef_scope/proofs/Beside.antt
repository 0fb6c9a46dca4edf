-- Parts that do not see each other's names: what each binds is set aside, and bound behind the last.
use Rattle.std.proofs.Common.{◌≡◌, ◌<◌, ◌≤◌, ◌+◌, ℕ, true, false, List, [], ◌++◌, sym, ap, ◌∙◌, subst, length, drop, get_or}
use Rattle.std.specs.Prelude.{◌||◌, ◌&&◌}
use Rattle.std.proofs.lemmas.List.{drop_all}
use Rattle.ef_base.specs.declared.fault.Fault.{Fault}
use Rattle.ef_base.specs.Texts.{Texts}
use Rattle.ef_forms.specs.declared.expr.Expr.{Expr}
use Rattle.ef_forms.specs.OfTable.{TreesOf}
use Rattle.ef_forms.specs.Plain.{plain, plain_all}
use Rattle.ef_forms.specs.Sure.{sure, all_sure}
use Rattle.ef_forms.specs.Ways.{NameSet, Way, beside, ways, side_by_side, faults, all_faults}
use Rattle.ef_forms.proofs.Bools.{or_false}
use Rattle.ef_forms.proofs.Growth.{Grows, grows_beside}
use Rattle.ef_forms.proofs.Grows.{may, all_may, grows_ways, grows_side}
use Rattle.ef_scope.specs.declared.marks.Mark.TheVariants.{Unsafe, Safe}
use Rattle.ef_scope.specs.declared.state.State.{State}
use Rattle.ef_scope.specs.declared.state.Aside.{Aside}
use Rattle.ef_scope.specs.Marks.{is_at_least}
use Rattle.ef_scope.specs.Trail.{Gathers, GoesBack, Puts, Since, changed, has}
use Rattle.ef_scope.specs.Walks.{Shows, Adds, Walks}
use Rattle.ef_scope.proofs.Adds.{adds_none, adds_then}
use Rattle.ef_scope.proofs.Lists.{next}
use Rattle.ef_scope.proofs.Parts.{Same, back_to, bound, noted, safe, safe_is_bound, shows_grown, shows_same, since_same, walked_all, walked_some}
use Rattle.ef_scope.proofs.Joins.{beside_step, noted_step, put_all, put_some, two_parts, within_step}
use Rattle.ef_scope.proofs.TrailLaws.{since_none, since_then}

-- what is set aside as bound on all ways is bound on some
abbrev pub Within : State → Aside → Type 0
Within origin aside = (m : ℕ) → has aside.all.items m ≡ true → (bound origin m || has aside.some.items m) ≡ true

pub none_within : (origin : State) (aside : Aside) → aside.all.items ≡ [] → Within origin aside
none_within origin aside none m h = let wrong : false ≡ true = sym (ap (λ l. has l m) none) ∙ h in cc

-- the changes since a state are set aside
module _ (origin s : State) (start : ℕ) (aside aside' : Aside) (since : Since origin s) (is : start ≡ length origin.trail.items)
    (some : Gathers start Unsafe s aside.some.items aside'.some.items) where
  pub noted_some : (m : ℕ) → (bound origin m || has aside'.some.items m) ≡ ((bound origin m || has aside.some.items m) || bound s m)
  noted_some m = ap (λ z. bound origin m || z) (some m) ∙ noted_step (bound origin m) (has aside.some.items m) (changed (drop start s.trail.items) m && bound s m) (bound s m) (noted origin s start Unsafe m since is)

  module _ (all : Gathers start Safe s aside.all.items aside'.all.items) where
    pub noted_all : (m : ℕ) → (safe origin m || has aside'.all.items m) ≡ ((safe origin m || has aside.all.items m) || safe s m)
    noted_all m = ap (λ z. safe origin m || z) (all m) ∙ noted_step (safe origin m) (has aside.all.items m) (changed (drop start s.trail.items) m && safe s m) (safe s m) (noted origin s start Safe m since is)

    pub noted_within : Within origin aside → Within origin aside'
    noted_within within m h =
        within_step (bound origin m) (has aside.some.items m) (has aside'.some.items m) (has aside.all.items m) (has aside'.all.items m) (changed (drop start s.trail.items) m) (bound s m) (safe s m)
        (some m) (all m) (safe_is_bound s m) (within m) h

-- ---- the elements of a list

pub record BesideLeft (texts : Texts) (es : List Expr) (i : ℕ) (origin s : State) (aside : Aside) (old found : List Fault) : Type 0 where
  pub names : TreesOf texts (plain_all (drop i es))
  pub since : Since origin s
  pub some : (m : ℕ) → ((bound s m || has aside.some.items m) || all_may (plain_all (drop i es)) m) ≡ (bound origin m || all_may (plain_all es) m)
  pub all : (m : ℕ) → ((safe s m || has aside.all.items m) || all_sure (plain_all (drop i es)) m) ≡ (safe origin m || all_sure (plain_all es) m)
  pub within : Within origin aside
  pub faults : (sets : List NameSet) → Shows sets origin → (new : List Fault) → Adds (all_faults texts (plain_all (drop i es)) sets) found new → Adds (all_faults texts (plain_all es) sets) old new

pub beside_none : (texts : Texts) (es : List Expr) (s : State) (aside : Aside) (found : List Fault) → TreesOf texts (plain_all es) → aside.some.items ≡ [] → aside.all.items ≡ []
    → BesideLeft texts es 0 s s aside found found
beside_none texts es s aside found names some all = record {
  names = names;
  since = since_none s;
  some = λ m. ap (λ z. (bound s m || z) || all_may (plain_all es) m) (ap (λ l. has l m) some) ∙ ap (λ z. z || all_may (plain_all es) m) (or_false (bound s m));
  all = λ m. ap (λ z. (safe s m || z) || all_sure (plain_all es) m) (ap (λ l. has l m) all) ∙ ap (λ z. z || all_sure (plain_all es) m) (or_false (safe s m));
  within = none_within s aside all;
  faults = λ sets shows new rest. rest;
}

module _ (texts : Texts) (es : List Expr) (i : ℕ) (e : Expr) (origin s s' t : State) (start : ℕ) (aside aside' : Aside) (old found found' : List Fault) where
  pub beside_more : i < length es → e ≡ get_or es i e → start ≡ length origin.trail.items → BesideLeft texts es i origin s aside old found
      → GoesBack start s s'
      → Gathers start Unsafe s aside.some.items aside'.some.items
      → Gathers start Safe s aside.all.items aside'.all.items
      → Walks (ways (plain e)) (faults texts (plain e)) s' t found found' → BesideLeft texts es (i + 1) origin t aside' old found'
  beside_more small read is before back some all walks =
      let at = next es i e small read in
      let rest = plain_all (drop (i + 1) es) in
      let same : Same s' origin = back_to origin s s' start before.since is back in
      record {
        names = (subst (λ l. TreesOf texts (plain_all l)) at before.names).1;
        since = since_same s' origin t same walks.since;
        some = λ m.
            ap (λ z. (z || has aside'.some.items m) || all_may rest m) (walked_some _ _ _ (grows_ways (plain e)) _ s' t _ _ walks m ∙ ap (λ k. is_at_least k Unsafe || may (plain e) m) (same.marks m))
            ∙ beside_step (bound origin m) (bound s m) (has aside.some.items m) (has aside'.some.items m) (may (plain e) m) (all_may rest m) (all_may (plain_all es) m)
            (noted_some origin s start aside aside' before.since is some m) (ap (λ l. (bound s m || has aside.some.items m) || all_may (plain_all l) m) (sym at) ∙ before.some m);
        all = λ m.
            ap (λ z. (z || has aside'.all.items m) || all_sure rest m) (walked_all _ _ _ (grows_ways (plain e)) _ s' t _ _ walks m ∙ ap (λ k. is_at_least k Safe || sure (plain e) m) (same.marks m))
            ∙ beside_step (safe origin m) (safe s m) (has aside.all.items m) (has aside'.all.items m) (sure (plain e) m) (all_sure rest m) (all_sure (plain_all es) m)
            (noted_all origin s start aside aside' before.since is some all m) (ap (λ l. (safe s m || has aside.all.items m) || all_sure (plain_all l) m) (sym at) ∙ before.all m);
        within = noted_within origin s start aside aside' before.since is some all before.within;
        faults = λ sets shows new left. before.faults sets shows new (subst (λ l. Adds (all_faults texts (plain_all l) sets) found new) (sym at)
            (adds_then found found' new (faults texts (plain e) sets) (all_faults texts rest sets) (walks.faults sets (shows_same s' origin sets same shows)) left));
      }

pub beside_end : (texts : Texts) (es : List Expr) (i : ℕ) (origin s new : State) (aside : Aside) (old found : List Fault) → length es ≤ i → BesideLeft texts es i origin s aside old found
    → Puts aside s new → Since s new → Walks (side_by_side (plain_all es)) (all_faults texts (plain_all es)) origin new old found
beside_end texts es i origin s new aside old found over before puts since =
    let none = drop_all i es over in
    record {
      ways = λ sets shows. shows_grown _ _ _ (grows_side (plain_all es)) sets origin new shows
          (λ m. puts m Unsafe ∙ put_some (bound origin m) (bound s m) (has aside.some.items m) (has aside.all.items m) (all_may (plain_all es) m) (before.within m)
          (ap (λ l. (bound s m || has aside.some.items m) || all_may (plain_all l) m) (sym none) ∙ before.some m))
          (λ m. puts m Safe ∙ put_all (safe origin m) (safe s m) (has aside.some.items m) (has aside.all.items m) (all_sure (plain_all es) m)
          (ap (λ l. (safe s m || has aside.all.items m) || all_sure (plain_all l) m) (sym none) ∙ before.all m));
      faults = λ sets shows. before.faults sets shows found (subst (λ l. Adds (all_faults texts (plain_all l) sets) found found) (sym none) (adds_none found));
      since = since_then origin s new before.since since;
    }

-- ---- two parts

module _ (f g : Way) (F G : List NameSet → List Fault) (mf Mf mg Mg : NameSet) (p : Grows f mf Mf) (q : Grows g mg Mg) (origin s s' t new : State) (start : ℕ) (aside aside' : Aside) (x y z : List Fault) where
  pub walks_beside : start ≡ length origin.trail.items → aside.some.items ≡ [] → aside.all.items ≡ [] → Walks f F origin s x y
      → GoesBack start s s'
      → Gathers start Unsafe s aside.some.items aside'.some.items
      → Gathers start Safe s aside.all.items aside'.all.items
      → Walks g G s' t y z → Puts aside' t new → Since t new → Walks (beside f g) (λ sets. F sets ++ G sets) origin new x z
  walks_beside is no_some no_all first back some all second puts since =
      let same : Same s' origin = back_to origin s s' start first.since is back in
      let within = noted_within origin s start aside aside' first.since is some all (none_within origin aside no_all) in
      record {
        ways = λ sets shows. shows_grown _ _ _ (grows_beside f g mf Mf mg Mg p q) sets origin new shows
            (λ m. puts m Unsafe ∙ put_some (bound origin m) (bound t m) (has aside'.some.items m) (has aside'.all.items m) (mf m || mg m) (within m)
            (ap (λ b. (b || has aside'.some.items m) || false) (walked_some g mg Mg q G s' t y z second m ∙ ap (λ k. is_at_least k Unsafe || mg m) (same.marks m))
            ∙ beside_step (bound origin m) (bound s m) (has aside.some.items m) (has aside'.some.items m) (mg m) false (mf m || mg m) (noted_some origin s start aside aside' first.since is some m)
            (ap (λ b. (b || has aside.some.items m) || (mg m || false)) (walked_some f mf Mf p F origin s x y first m) ∙ ap (λ b. ((bound origin m || mf m) || b) || (mg m || false)) (ap (λ l. has l m) no_some) ∙ two_parts (bound origin m) (mf m) (mg m))))
            (λ m. puts m Safe ∙ put_all (safe origin m) (safe t m) (has aside'.some.items m) (has aside'.all.items m) (Mf m || Mg m)
            (ap (λ b. (b || has aside'.all.items m) || false) (walked_all g mg Mg q G s' t y z second m ∙ ap (λ k. is_at_least k Safe || Mg m) (same.marks m))
            ∙ beside_step (safe origin m) (safe s m) (has aside.all.items m) (has aside'.all.items m) (Mg m) false (Mf m || Mg m) (noted_all origin s start aside aside' first.since is some all m)
            (ap (λ b. (b || has aside.all.items m) || (Mg m || false)) (walked_all f mf Mf p F origin s x y first m) ∙ ap (λ b. ((safe origin m || Mf m) || b) || (Mg m || false)) (ap (λ l. has l m) no_all) ∙ two_parts (safe origin m) (Mf m) (Mg m))));
        faults = λ sets shows. adds_then x y z (F sets) (G sets) (first.faults sets shows) (second.faults sets (shows_same s' origin sets same shows));
        since = since_then origin t new (since_same s' origin t same second.since) since;
      }
