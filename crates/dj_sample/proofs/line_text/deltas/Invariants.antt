use Rattle.std.proofs.Common.{◌≡◌, string_bytes}
use Rattle.dj_sample.specs.Samples.{for_each, deltas as deltas_of}
use Rattle.dj_sample.proofs.line_text.deltas.Given as goal

abbrev pub invariant-loop-i : goal.invariant-loop-i
invariant-loop-i l = string_bytes l.text ≡ for_each l.i deltas_of
