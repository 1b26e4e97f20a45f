use Rattle.std.proofs.Common.{◌≡◌, fold, take}
use Rattle.dj_faults.specs.LeastPlace.{first_place}
use Rattle.dj_faults.proofs.least.least_of.Given as goal

abbrev pub invariant-loop-place : goal.invariant-loop-place
invariant-loop-place l = l.least ≡ fold first_place l.fn.own (take l.place-index l.places)
