-- The least place at which something stands.
use Rattle.std.specs.Prelude.{ℕ, ◌≤◌, List, Contains, Option, None, Some, IfSome, min}
use Rattle.std.specs.Option.{IsSomeAnd}

-- it stands at the place that is found and nowhere before, and nowhere where none is found
pub record IsLeastPlace (P : ℕ → Type 0) (found : Option ℕ) : Type 0 where
  pub stands : IfSome found P
  pub least : (at : ℕ) → P at → IsSomeAnd found (λ place. place ≤ at)

-- at this place of one of the things
abbrev pub Among : {X : Type 0} → (X → ℕ → Type 0) → List X → ℕ → Type 0
Among {X} P things at = (x : X) × Contains things x × P x at

-- the lesser of two places, and the only one
abbrev pub first_place : Option ℕ → Option ℕ → Option ℕ
first_place None b = b
first_place (Some a) None = Some a
first_place (Some a) (Some b) = Some (min a b)
