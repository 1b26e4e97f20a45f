use Rattle.std.proofs.Common.{◌≡◌, string_bytes}
use Rattle.dj_sample.specs.Samples.{for_each, feature as feature_of}
use Rattle.dj_sample.proofs.line_text.features.Given as goal

abbrev pub invariant-loop-i : goal.invariant-loop-i
invariant-loop-i l = string_bytes l.text ≡ for_each l.i feature_of
