-- What is said of a condition.
use Rattle.std.specs.Prelude.{◌≡◌, ◌⊎◌, ℕ, Bool, true, false, List, [], ◌∷◌}
use Rattle.ef_base.specs.FaultTable.{too_deep}
use Rattle.ef_base.specs.Texts.{Texts}
use Rattle.ef_token.specs.declared.token.Token.{Token}
use Rattle.ef_grammar.specs.Answers.{Spells}
use Rattle.ef_cond.specs.declared.rows.RuleName.TheVariants as rule
use Rattle.ef_cond.specs.declared.evaluate.Verdict.{Verdict}
use Rattle.ef_cond.specs.declared.evaluate.Verdict.TheVariants.{Holds, Faulty}
use Rattle.ef_cond.specs.Actions.{nothing}
use Rattle.ef_cond.specs.Condition.{grammar}
use Rattle.ef_base.specs.FaultTable as fault
use Rattle.ef_cond.specs.Values.{Value, Read, truth, fails, operand}

-- All the tokens spell a condition that has this value, with something in it that is nested too deep or with nothing.
abbrev pub Makes : Texts → List Token → Value → Bool → Type 0
Makes all ts v deep =
    (nest : ℕ) × Spells (grammar all) rule.Orelse nothing ts (record { items = operand (record { value = v; nest = nest }) ∷ []; deep = deep })

-- it is nested too deep; else its truth, or its first fault; else it has another value
abbrev pub verdict : Value → Bool → Verdict
verdict v true = Faulty too_deep
verdict (truth b) false = Holds b
verdict (fails code) false = Faulty code
verdict v false = Faulty fault.no_boolean

-- the tokens spell one condition, of which this is said
pub record IsJudged (all : Texts) (ts : List Token) (said : Verdict) : Type 0 where
  pub value : Value
  pub deep : Bool
  pub made : Makes all ts value deep
  pub alone : (v : Value) (d : Bool) → Makes all ts v d → (v ≡ value) × (d ≡ deep)
  pub is : said ≡ verdict value deep

-- or they spell none
pub record IsUnspelled (all : Texts) (ts : List Token) (said : Verdict) : Type 0 where
  pub none : (v : Value) (d : Bool) → Makes all ts v d → ⊥
  pub is : said ≡ Faulty fault.illegal_condition

abbrev pub IsVerdict : Texts → List Token → Verdict → Type 0
IsVerdict all ts said = IsJudged all ts said ⊎ IsUnspelled all ts said

-- one operand is on the stack, of which this is said
abbrev pub IsSaid : Read → Verdict → Type 0
IsSaid r said =
    ((v : Value) × (nest : ℕ) × (r.items ≡ operand (record { value = v; nest = nest }) ∷ []) × (said ≡ verdict v r.deep))
    ⊎ (((v : Value) (nest : ℕ) → r.items ≡ operand (record { value = v; nest = nest }) ∷ [] → ⊥) × (said ≡ Faulty fault.illegal_condition))
