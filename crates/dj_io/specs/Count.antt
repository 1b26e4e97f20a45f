-- Counts of faults, as a u64 keeps them: they never fall, and stay at their greatest value once there.
use Rattle.std.specs.Prelude.{◌≡◌, ℕ, ◌+◌, ◌-◌, ◌^◌, ◌≤◌, min}

-- the greatest count
abbrev pub greatest_count : ℕ
greatest_count = 2 ^ 64 - 1

-- a count with one more
abbrev pub one_more : ℕ → ℕ
one_more count = min (count + 1) greatest_count

-- a count after some calls: it is no less, and stays at the greatest
pub record Follows (before now : ℕ) : Type 0 where
  pub no_less : before ≤ now
  pub stays : before ≡ greatest_count → now ≡ greatest_count

-- a count that rose, or stands at the greatest, where no further fault can be seen
pub record Rises (before now : ℕ) : Type 0 where
  pub no_less : before ≤ now
  pub raised : one_more before ≤ now
