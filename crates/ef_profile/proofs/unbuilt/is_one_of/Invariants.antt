use Rattle.std.proofs.Common.{◌≡◌, ℕ, List, drop, map, Bor}
use Rattle.ef_profile.specs.Unbuilt.{is_function_of}
use Rattle.ef_profile.proofs.unbuilt.is_one_of.Given as goal

abbrev pub invariant-loop-text : goal.invariant-loop-text
invariant-loop-text l =
    is_function_of (map (λ (e : Bor (List ℕ) × ℕ). (e.0.now, e.1)) (drop l.text-index l.functions)) l.name l.arity ≡ is_function_of (map (λ (e : Bor (List ℕ) × ℕ). (e.0.now, e.1)) l.functions) l.name l.arity
