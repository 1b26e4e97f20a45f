use Rattle.std.proofs.Common.{ap, length, arith}
use Rattle.std.proofs.lemmas.Slice.Zip.{length-zip}
use Rattle.gate_encoder.proofs.gates.Gates.assert.Goals as goal

pub push-requires : goal.push-requires
push-requires g c = λ k d within.
    let v = c.self.inside.written in
    let here = c.requires k d within in
    (here.0, omega (arith, here.1, ap (λ w. length w.keys) c.self.view_is, length-zip c.self.inside.keys.keys v.items, v.ok.0, v.ok.1, v.small))
