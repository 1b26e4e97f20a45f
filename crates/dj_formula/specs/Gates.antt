-- Gates: how many operands each has, and which feature.
use Rattle.std.specs.Prelude.{◌≡◌, ℕ, ◌<◌}
use Rattle.dj_formula.specs.declared.formula.Gate.{Gate}
use Rattle.dj_formula.specs.declared.formula.Gate.TheVariants.{Constant, Feature, Not, And, Or, Implies, Same}

abbrev pub operands : Gate → ℕ
operands (Constant b) = 0
operands (Feature f) = 0
operands Not = 1
operands And = 2
operands Or = 2
operands Implies = 2
operands Same = 2

-- the feature of the gate, if it is one, has a number below n
abbrev pub IsBelow : ℕ → Gate → Type 0
IsBelow n gate = (feature : ℕ) → gate ≡ Feature feature → feature < n
