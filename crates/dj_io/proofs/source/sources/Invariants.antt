use Rattle.std.proofs.Common.{◌≡◌, map, string_bytes}
use Rattle.dj_io.proofs.source.sources.Given as goal

-- a source for each file so far
abbrev pub invariant-loop-path : goal.invariant-loop-path
invariant-loop-path l = l.made.items ≡ map (λ file. (string_bytes file.0, file.1.items)) l.yielded
