-- What tokens make by the rows of the grammar.
use Rattle.std.specs.Prelude.{◌≡◌, Bool, List, [], ◌∷◌, Option, Some, None}
use Rattle.ef_base.specs.declared.fault.Fault.{Fault}
use Rattle.ef_base.specs.declared.name.Name.{Name}
use Rattle.ef_base.specs.Texts.{Texts}
use Rattle.ef_token.specs.declared.token.Token.{Token}
use Rattle.ef_grammar.specs.Answers.{Spells}
use Rattle.ef_build.specs.Stack.{nothing}
use Rattle.ef_build.specs.Values.{Value, Read, value}
use Rattle.ef_rows.specs.declared.rows.RuleName.{RuleName}
use Rattle.ef_rows.specs.declared.rows.RuleName.TheVariants as rule
use Rattle.ef_rows.specs.declared.single.Start.{Start}
use Rattle.ef_rows.specs.declared.single.Start.TheVariants as start_is
use Rattle.ef_rows.specs.declared.single.Single.{Single}
use Rattle.ef_rows.specs.Erlang.{grammar}

-- the rule that whole inputs of a kind begin with
abbrev pub rule_of : Start → RuleName
rule_of start_is.Expression = rule.Expression
rule_of start_is.Clauses = rule.Function
rule_of start_is.Function = rule.FormFunction
rule_of start_is.Module = rule.FormModule
rule_of start_is.Export = rule.FormExport
rule_of start_is.Import = rule.FormImport
rule_of start_is.Record = rule.FormRecord
rule_of start_is.Dropped = rule.FormDropped
rule_of start_is.Other = rule.FormOther

-- All the tokens make this value and no other beside it, with these faults of heads, and with something too deep in it or
-- nothing.
abbrev pub Makes : Texts → Start → List Token → Value → List Fault → Bool → Type 0
Makes all n ts v faults deep =
    (trace : Option Name) × Spells (grammar all) (rule_of n) nothing ts (record { values = v ∷ []; faults = faults; trace = trace; deep = deep })

-- the one value that the tokens make, or that they make none
abbrev pub IsSingle : Texts → Start → List Token → Option Single → Type 0
IsSingle all n ts (Some s) =
    Makes all n ts (value s.value) s.faults.items s.deep
    × ((v : Value) (faults : List Fault) (deep : Bool) → Makes all n ts v faults deep → (v ≡ value s.value) × (faults ≡ s.faults.items) × (deep ≡ s.deep))
IsSingle all n ts None = (v : Value) (faults : List Fault) (deep : Bool) → Makes all n ts v faults deep → ⊥

-- one value is on the stack
abbrev pub IsTaken : Read → Option Single → Type 0
IsTaken r (Some s) = (r.values ≡ value s.value ∷ []) × (r.faults ≡ s.faults.items) × (r.deep ≡ s.deep)
IsTaken r None = (v : Value) → r.values ≡ v ∷ [] → ⊥
