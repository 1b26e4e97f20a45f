-- Configurations by numbers.
use Rattle.std.specs.Prelude.{ℕ, zero, suc, ◌/◌, ◌%◌, ◌==◌, [], ◌∷◌}
use Rattle.dj_calculus.specs.Configurations.{Configuration}

-- The configuration of n features with this number: they are chosen as the binary digits of the number are 1, the last digit telling of the
-- first feature.
abbrev pub choice_of : ℕ → ℕ → Configuration
choice_of zero number = []
choice_of (suc n) number = (number % 2 == 1) ∷ choice_of n (number / 2)
