-- The least of the pairs of numbers for which something holds.
use Rattle.std.specs.Prelude.{◌≡◌, ◌⊎◌, ℕ, ◌<◌, ◌≤◌}

-- it holds of the pair, and of none that is less by the first number, and then by the second
pub record IsLeastPair (P : ℕ → ℕ → Type 0) (first second : ℕ) : Type 0 where
  pub is : P first second
  pub least : (p q : ℕ) → P p q → (first < p) ⊎ ((first ≡ p) × (second ≤ q))
