-- How many brackets are open in a type.
use Rattle.std.proofs.Common.{◌≡◌, ℕ, suc, ◌≤◌, ◌-◌, ◌+◌, ap, arith, Bool, true, false, Option, Some, None, cond}
use Rattle.std.specs.Prelude.{◌&&◌, ◌||◌, nat_eq}
use Rattle.ef_token.specs.declared.token.TokenKind.{TokenKind}
use Rattle.ef_module.specs.Refused.{depth_of, behind, opens, closes, is_comma, begins_type}

within : (depth : ℕ) (a b c : Bool) → depth_of (cond a None (Some (cond b (suc depth) (cond c (depth - 1) depth)))) ≤ suc depth
within depth true b c = omega arith
within depth false true c = omega arith
within depth false false true = omega arith
within depth false false false = omega arith

begun : (a : Bool) → depth_of (cond a (Some 0) None) ≤ 1
begun true = omega arith
begun false = omega arith

-- a token opens one bracket at most
pub one_more : (typed : Bool) (o : Option ℕ) (k : TokenKind) → depth_of (behind typed o k) ≤ suc (depth_of o)
one_more typed (Some d) k = within d (nat_eq d 0 && (is_comma k || closes k)) (opens k) (closes k)
one_more typed None k = begun (typed && begins_type k)

-- the depth behind a token, and the tokens that are left, are together no more than all tokens
pub fits_next : (typed : Bool) (o next : Option ℕ) (k : TokenKind) (n rest all : ℕ) → next ≡ behind typed o k → n ≡ suc rest → depth_of o + n ≤ all → depth_of next + rest ≤ all
fits_next typed o next k n rest all is more fits =
    let step : depth_of (behind typed o k) ≤ suc (depth_of o) = one_more typed o k in
    let same : depth_of next ≡ depth_of (behind typed o k) = ap depth_of is in
    omega (arith, step, same, more, fits)
