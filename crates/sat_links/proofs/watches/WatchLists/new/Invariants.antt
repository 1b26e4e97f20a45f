use Rattle.std.proofs.Common.{◌≡◌, ◌*◌, replicate, None}
use Rattle.sat_links.proofs.watches.WatchLists.new.Given as goal

abbrev pub invariant-loop : goal.invariant-loop
invariant-loop l = l.heads.items ≡ replicate (2 * l.counter) None
