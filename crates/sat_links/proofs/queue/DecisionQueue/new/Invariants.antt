use Rattle.std.proofs.Common.{◌≡◌, ◌∷◌}
use Rattle.std.specs.List.{range_with_len}
use Rattle.sat_links.proofs.queue.DecisionQueue.new.Given as goal

abbrev pub invariant-loop-var : goal.invariant-loop-var
invariant-loop-var l = (l.previous.items ≡ l.vars ∷ range_with_len 0 l.var) × (l.next.items ≡ range_with_len 1 l.var)
