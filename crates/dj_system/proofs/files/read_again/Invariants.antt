-- Reads that were interrupted took nothing.
use Rattle.std.specs.Io.KnownBytes.{Keeps}
use Rattle.dj_system.proofs.files.read_again.Given as goal

abbrev pub invariant-loop : goal.invariant-loop
invariant-loop g l = Keeps (g.F.Read.remaining l.initial.file) (g.F.Read.remaining l.file)
