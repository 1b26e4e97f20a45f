use Rattle.std.proofs.Common.{◌≡◌, slice_get}
use Rattle.sat_links.specs.Watches.{watches_of}
use Rattle.sat_links.proofs.tests.watches.watch_at.Given as goal

abbrev pub invariant-loop : goal.invariant-loop
invariant-loop l = l.watch ≡ slice_get (watches_of l.lists l.fn.lit) l.counter
