use Rattle.std.proofs.Common.{◌≡◌, ◌+◌, drop}
use Rattle.dj_io.specs.Contents.{place_of}
use Rattle.dj_io.proofs.source.place.Given as goal

-- no file so far has the path
abbrev pub invariant-loop-i : goal.invariant-loop-i
invariant-loop-i l = place_of l.files l.path ≡ l.i + place_of (drop l.i l.files) l.path
