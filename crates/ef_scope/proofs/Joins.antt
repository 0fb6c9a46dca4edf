-- Tests of a name before and behind parts of the walk.
use Rattle.std.proofs.Common.{◌≡◌, Bool, true, false, arith}
use Rattle.std.specs.Prelude.{◌||◌, ◌&&◌}

-- ---- side by side: `old` before all parts, `now` behind the last of them, `aside` of those before it

pub beside_step : (old now aside aside' own rest all : Bool) → (old || aside') ≡ ((old || aside) || now) → ((now || aside) || (own || rest)) ≡ (old || all) → (((old || own) || aside') || rest) ≡ (old || all)
beside_step old now aside aside' own rest all h k = grind arith

pub put_some : (old now some every all : Bool) → (every ≡ true → (old || some) ≡ true) → ((now || some) || false) ≡ (old || all) → ((now || every) || (some && true)) ≡ (old || all)
put_some old now some every all h k = grind arith

pub put_all : (old now some every all : Bool) → ((now || every) || false) ≡ (old || all) → ((now || every) || (some && false)) ≡ (old || all)
put_all old now some every all k = grind arith

-- ---- clauses: all start from `old`

pub first_some : (old now aside' own rest : Bool) → (old || aside') ≡ ((old || false) || now) → now ≡ (old || (own || false)) → ((old || aside') || rest) ≡ (old || (own || rest))
first_some old now aside' own rest h k = grind arith

pub choice_some : (old now aside aside' own rest all : Bool) → (old || aside') ≡ ((old || aside) || now) → now ≡ (old || (own || false)) → ((old || aside) || (own || rest)) ≡ (old || all) → ((old || aside') || rest) ≡ (old || all)
choice_some old now aside aside' own rest all h k l = grind arith

pub first_all : (old now aside' own rest : Bool) → (old || aside') ≡ ((old || false) || now) → now ≡ (old || own) → ((old || aside') && (old || rest)) ≡ (old || (own && rest))
first_all old now aside' own rest h k = grind arith

pub choice_all : (old now aside aside' own rest all : Bool) → aside' ≡ (aside && now) → now ≡ (old || own) → ((old || aside) && (old || (own && rest))) ≡ (old || all) → ((old || aside') && (old || rest)) ≡ (old || all)
choice_all old now aside aside' own rest all h k l = grind arith

pub joined_all : (old some every all : Bool) → ((old || every) && (old || true)) ≡ (old || all) → ((old || every) || (some && false)) ≡ (old || all)
joined_all old some every all k = grind arith

-- ---- what is noted of the changes of a part

pub noted_step : (old aside changed now : Bool) → (old || changed) ≡ (old || now) → (old || (aside || changed)) ≡ ((old || aside) || now)
noted_step old aside changed now h = grind arith

pub within_step : (old some some' every every' changed now now_every : Bool) → some' ≡ (some || (changed && now)) → every' ≡ (every || (changed && now_every)) → (now_every ≡ true → now ≡ true)
    → (every ≡ true → (old || some) ≡ true) → every' ≡ true → (old || some') ≡ true
within_step old some some' every every' changed now now_every h k l within is = grind arith

pub within_choice : (old some some' every every' added now_every : Bool) → some' ≡ (some || added) → every' ≡ (every && now_every) → (every ≡ true → (old || some) ≡ true) → every' ≡ true → (old || some') ≡ true
within_choice old some some' every every' added now_every h k within is = grind arith

pub two_parts : (old one other : Bool) → (((old || one) || false) || (other || false)) ≡ (old || (one || other))
two_parts old one other = grind arith
