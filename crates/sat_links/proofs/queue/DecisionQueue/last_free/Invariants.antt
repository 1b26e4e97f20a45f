use Rattle.std.proofs.Common.{◌∷◌}
use Rattle.sat_links.specs.Rings.{ring_of}
use Rattle.sat_links.proofs.WalkLemmas.{Seen, place_of}
use Rattle.sat_links.proofs.queue.DecisionQueue.last_free.Given as goal

-- the variables after the one looked at have values
abbrev pub invariant-back : goal.invariant-back
invariant-back l = Seen l.values (ring_of l.self-inside.ring.next.items) l.at

abbrev pub decreases-back : goal.decreases-back
decreases-back l = place_of l.at (0 ∷ ring_of l.self-inside.ring.next.items)
