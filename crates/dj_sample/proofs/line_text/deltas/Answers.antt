use Rattle.std.proofs.Common.{string_bytes, refl, ◌∙◌}
use Rattle.dj_sample.specs.Samples.{deltas as deltas_of}
use Rattle.dj_sample.proofs.Sections.{next}
use Rattle.dj_sample.proofs.line_text.deltas.Goals as goal

pub loop-i-preserved : goal.loop-i-preserved
loop-i-preserved c =
    next deltas_of c.loop-i.i _ (string_bytes c.loop-i.text) c.deref.result.now (string_bytes c.push_str.new.self) c.loop-i.invariant refl (c.deref.ensures ∙ c.in_ok-next.ensures) c.in_ok-push_str.ensures.bytes
