use Rattle.std.proofs.Common.{ℕ, take, nat_eq}
use Rattle.std.specs.List.{find}
use Rattle.indexmap.specs.IndexMap.{get}
use Rattle.dj_faults.specs.Chains.{comes_after_name, IsNumberOf}
use Rattle.dj_faults.proofs.parts.followers_of.Given as goal

abbrev pub invariant-loop-number : goal.invariant-loop-number
invariant-loop-number l = (n : ℕ) → IsNumberOf l.parts l.number (find (comes_after_name n) (take l.number l.parts)) (get nat_eq l.followers n)
