-- The one value that tokens make, by what the parser of the rows answers.
use Rattle.std.proofs.Common.{◌≡◌, Bool, List, [], ◌∷◌, ℕ, refl, sym, ap, ◌∙◌, subst, Option, Some, None}
use Rattle.ef_base.specs.declared.fault.Fault.{Fault}
use Rattle.ef_base.specs.declared.name.Name.{Name}
use Rattle.ef_base.specs.Texts.{Texts, Extends}
use Rattle.ef_token.specs.declared.token.Token.{Token}
use Rattle.ef_token.specs.TokenForm.{TokensOf}
use Rattle.ef_grammar.specs.Answers.{IsOutcome, Spells}
use Rattle.ef_grammar.specs.declared.machine.Outcome.TheVariants as outcome_is
use Rattle.ef_build.specs.Stack.{nothing}
use Rattle.ef_build.specs.declared.stack.Read as rust
use Rattle.ef_build.specs.Values.{Value, Read, value, shown}
use Rattle.ef_rows.specs.declared.single.Start.{Start}
use Rattle.ef_rows.specs.declared.single.Single.{Single}
use Rattle.ef_rows.specs.Erlang.{grammar}
use Rattle.ef_rows.specs.Makes.{IsSingle, IsTaken, Makes, rule_of}
use Rattle.ef_rows.proofs.Later.{SameTokens, makes, later, backwards}

abbrev with_values : List Value → List Fault → Option Name → Bool → Read
with_values vs faults trace deep = record { values = vs; faults = faults; trace = trace; deep = deep }

-- under the table itself
pub single_now : (now : Texts) (n : Start) (ts : List Token) (r : rust.Read) → IsOutcome (grammar now) shown (rule_of n) nothing ts (outcome_is.Read r)
    → (made : Option Single) → IsTaken (shown r) made → IsSingle now n ts made
single_now now n ts r o (Some s) h = (
  ((shown r).trace, subst (λ (w : Read). Spells (grammar now) (rule_of n) nothing ts w) whole o.0),
  λ v faults deep m. same v faults deep m.0 (sym (o.1 (with_values (v ∷ []) faults m.0 deep) m.1)),
)
  where
    whole : shown r ≡ with_values (value s.value ∷ []) s.faults.items (shown r).trace s.deep
    whole = rw (h.0, h.1, h.2) refl

    same : (v : Value) (faults : List Fault) (deep : Bool) (t : Option Name) → shown r ≡ with_values (v ∷ []) faults t deep → (v ≡ value s.value) × (faults ≡ s.faults.items) × (deep ≡ s.deep)
    same v faults deep t e = (
      cc (sym (ap (λ (w : Read). w.values) e) ∙ h.0),
      sym (ap (λ (w : Read). w.faults) e) ∙ h.1,
      sym (ap (λ (w : Read). w.deep) e) ∙ h.2,
    )
single_now now n ts r o None h = λ v faults deep m. h v (ap (λ (w : Read). w.values) (sym (o.1 (with_values (v ∷ []) faults m.0 deep) m.1)))

pub none_now : (now : Texts) (n : Start) (ts : List Token) (at : ℕ) → IsOutcome (grammar now) shown (rule_of n) nothing ts (outcome_is.Refused at) → IsSingle now n ts None
none_now now n ts at o v faults deep m = o.5 (with_values (v ∷ []) faults m.0 deep) m.1

-- and under each later one
pub single_later : (now all : Texts) (n : Start) (ts : List Token) (made : Option Single) → TokensOf now ts → Extends now all → IsSingle now n ts made → IsSingle all n ts made
single_later now all n ts (Some s) named e h =
    let same : SameTokens now all ts = later now all ts named e in (
      makes now all n ts (value s.value) s.faults.items s.deep same h.0,
      λ v faults deep m. h.1 v faults deep (makes all now n ts v faults deep (backwards now all ts same) m),
    )
single_later now all n ts None named e h =
    λ v faults deep m. h v faults deep (makes all now n ts v faults deep (backwards now all ts (later now all ts named e)) m)
