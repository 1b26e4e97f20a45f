use Rattle.std.proofs.Common.{◌≡◌, take}
use Rattle.sat_solver.specs.Stores.{greatest_in}
use Rattle.sat_solver.proofs.store.greatest.Given as goal

abbrev pub invariant-loop-lit : goal.invariant-loop-lit
invariant-loop-lit l = l.greatest ≡ greatest_in (take l.lit-index l.lits)
