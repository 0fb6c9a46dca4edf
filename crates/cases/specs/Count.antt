-- How many cases passed and how many failed.
use Rattle.std.specs.Prelude.{ℕ, ◌+◌, ◌-◌, ◌^◌, ◌≡◌, ◌⊎◌, min}

-- one more, up to the greatest number of 64 bits
abbrev pub one_more : ℕ → ℕ
one_more n = min (n + 1) (2 ^ 64 - 1)

-- one of two counts has one more, and the other stays
abbrev pub OneRises : (passed failed passed_after failed_after : ℕ) → Type 0
OneRises passed failed passed_after failed_after =
    ((passed_after ≡ one_more passed) × (failed_after ≡ failed)) ⊎ ((passed_after ≡ passed) × (failed_after ≡ one_more failed))
