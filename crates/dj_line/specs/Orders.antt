-- Orders by the numbers of deltas.
use Rattle.std.specs.Prelude.{ℕ, Bool, List, slice_get}
use Rattle.std.specs.List.{filter_map}
use Rattle.dj_tree.specs.Trees.{Delta, Source}
use Rattle.dj_calculus.specs.Configurations.{Configuration, chosen}
use Rattle.dj_calculus.specs.Formulas.{value}
use Rattle.dj_line.specs.Placing.{condition_of}

-- the deltas of these numbers
abbrev pub plain_order : Source → List ℕ → List Delta
plain_order source numbers = filter_map (slice_get source.deltas) numbers

-- the condition of the delta of this number holds
abbrev pub is_active : Source → Configuration → ℕ → Bool
is_active source c delta = value (chosen source c) (condition_of source delta)
