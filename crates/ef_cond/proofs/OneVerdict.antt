-- What is said of a condition, by what the parser of the rows answers.
use Rattle.std.proofs.Common.{◌≡◌, inl, inr, ℕ, Bool, List, [], ◌∷◌, refl, sym, ap, ◌∙◌, subst}
use Rattle.ef_base.specs.Texts.{Texts, Extends}
use Rattle.ef_token.specs.declared.token.Token.{Token}
use Rattle.ef_token.specs.TokenForm.{TokensOf}
use Rattle.ef_grammar.specs.Answers.{IsOutcome, Spells}
use Rattle.ef_grammar.specs.declared.machine.Outcome.TheVariants as outcome_is
use Rattle.ef_cond.specs.declared.rows.RuleName.TheVariants as rule
use Rattle.ef_cond.specs.declared.stack.Read as rust
use Rattle.ef_cond.specs.declared.evaluate.Verdict.{Verdict}
use Rattle.ef_cond.specs.declared.evaluate.Verdict.TheVariants.{Faulty}
use Rattle.ef_cond.specs.Actions.{nothing}
use Rattle.ef_cond.specs.Condition.{grammar}
use Rattle.ef_base.specs.FaultTable as fault
use Rattle.ef_cond.specs.Values.{Value, Operand, Read, operand, shown}
use Rattle.ef_cond.specs.Verdict.{IsSaid, IsVerdict}
use Rattle.ef_cond.proofs.Alike.{SameTokens, makes, later, backwards}

-- this value alone
abbrev alone : Value → ℕ → Bool → Read
alone v nest deep = record { items = operand (record { value = v; nest = nest }) ∷ []; deep = deep }

one : (x y : Operand) → operand x ∷ [] ≡ operand y ∷ [] → x ≡ y
one x y e = cc

-- under the table itself
pub said_now : (now : Texts) (ts : List Token) (r : rust.Read) → IsOutcome (grammar now) shown rule.Orelse nothing ts (outcome_is.Read r)
    → (said : Verdict) → IsSaid (shown r) said → IsVerdict now ts said
said_now now ts r o said (inl h) = inl (record {
  value = h.0;
  deep = (shown r).deep;
  made = (h.1, subst (λ (w : Read). Spells (grammar now) rule.Orelse nothing ts w) whole o.0);
  alone = λ v d m. same v d m.0 (sym (o.1 (alone v m.0 d) m.1));
  is = h.3;
})
  where
    whole : shown r ≡ alone h.0 h.1 (shown r).deep
    whole = rw h.2 refl

    same : (v : Value) (d : Bool) (nest : ℕ) → shown r ≡ alone v nest d → (v ≡ h.0) × (d ≡ (shown r).deep)
    same v d nest e = (
      ap (λ (x : Operand). x.value) (one (record { value = v; nest = nest }) (record { value = h.0; nest = h.1 }) (sym (ap (λ (w : Read). w.items) e) ∙ h.2)),
      sym (ap (λ (w : Read). w.deep) e),
    )
said_now now ts r o said (inr h) = inr (record {
  none = λ v d m. h.0 v m.0 (ap (λ (w : Read). w.items) (sym (o.1 (alone v m.0 d) m.1)));
  is = h.1;
})

pub none_now : (now : Texts) (ts : List Token) (at : ℕ) → IsOutcome (grammar now) shown rule.Orelse nothing ts (outcome_is.Refused at) → IsVerdict now ts (Faulty fault.illegal_condition)
none_now now ts at o = inr (record { none = λ v d m. o.5 (alone v m.0 d) m.1; is = refl })

-- and under each table where the tokens are alike
pub verdict_alike : (a b : Texts) (ts us : List Token) (said : Verdict) → SameTokens a b ts us → IsVerdict a ts said → IsVerdict b us said
verdict_alike a b ts us said same (inl j) = inl (record {
  value = j.value;
  deep = j.deep;
  made = makes a b ts us j.value j.deep same j.made;
  alone = λ v d m. j.alone v d (makes b a us ts v d (backwards a b ts us same) m);
  is = j.is;
})
verdict_alike a b ts us said same (inr j) = inr (record {
  none = λ v d m. j.none v d (makes b a us ts v d (backwards a b ts us same) m);
  is = j.is;
})

pub said_later : (now all : Texts) (ts : List Token) (said : Verdict) → TokensOf now ts → Extends now all → IsVerdict now ts said → IsVerdict all ts said
said_later now all ts said named e = verdict_alike now all ts ts said (later now all ts named e)
