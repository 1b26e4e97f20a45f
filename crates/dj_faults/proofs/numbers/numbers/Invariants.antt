use Rattle.std.proofs.Common.{◌≡◌, ℕ, take, nat_eq}
use Rattle.indexmap.specs.IndexSet.{contains}
use Rattle.dj_faults.specs.Numbers.{is_met}
use Rattle.dj_faults.proofs.numbers.numbers.Given as goal

abbrev pub invariant-loop-spot : goal.invariant-loop-spot
invariant-loop-spot l = (n : ℕ) → contains nat_eq l.met n ≡ is_met (take l.spot-index l.spots) n
