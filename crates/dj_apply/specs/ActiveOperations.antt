-- The operations of active deltas, by the numbers of deltas.
use Rattle.std.specs.Prelude.{◌≡◌, ℕ, List, filter}
use Rattle.std.specs.List.{flat_map}
use Rattle.dj_tree.specs.Trees as plain
use Rattle.dj_tree.specs.Trees.{Delta, Operation}
use Rattle.dj_tree.specs.Plain.{plain_source}
use Rattle.dj_tree.specs.WellFormed.{IsWellFormed}
use Rattle.dj_tree.specs.declared.source.Source.{Source}
use Rattle.dj_calculus.specs.Accepted.{IsAccepted}
use Rattle.dj_calculus.specs.Configurations.{Configuration}
use Rattle.dj_calculus.specs.Expressions.{HasExpressions}
use Rattle.dj_line.specs.Orders.{plain_order, is_active}

-- those of these deltas that are active
abbrev pub active_deltas : plain.Source → Configuration → List ℕ → List Delta
active_deltas source c numbers = plain_order source (filter (is_active source c) numbers)

-- the operations of those of these deltas that are active, delta by delta
abbrev pub active_operations : plain.Source → Configuration → List ℕ → List Operation
active_operations source c numbers = flat_map (λ d. d.operations) (plain_order source (filter (is_active source c) numbers))

-- the source of an accepted line, which is this one as plain trees
pub record IsSourceOf (line : plain.Source) (source : Source) : Type 0 where
  pub is : plain_source source ≡ line
  pub formed : IsWellFormed source
  pub accepted : IsAccepted line
  pub expressions : HasExpressions line
