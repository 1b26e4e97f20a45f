use Rattle.std.proofs.Common.{◌≡◌, ℕ, take, nat_eq}
use Rattle.indexmap.specs.IndexSet.{contains}
use Rattle.dj_faults.specs.LeastPlace.{IsLeastPlace}
use Rattle.dj_faults.specs.Numbers.{is_met, Again}
use Rattle.dj_faults.proofs.numbers.repeated.Given as goal

abbrev pub invariant-loop-spot : goal.invariant-loop-spot
invariant-loop-spot l = record {
  met : (n : ℕ) → contains nat_eq l.met n ≡ is_met (take l.spot-index l.spots) n;
  least : IsLeastPlace (Again l.spots l.spot-index) l.least;
}
