use Rattle.std.proofs.Common.{refl, length}
use Rattle.std.proofs.lemmas.Option.{slice_get_read}
use Rattle.dj_line.proofs.Filling.{keys_next}
use Rattle.dj_line.proofs.tables.delta_names.Goals as goal

pub loop-delta-preserved : goal.loop-delta-preserved
loop-delta-preserved c =
    keys_next (λ d. d.spot.name.0) c.args.deltas.now c.loop-delta.delta-index c.delta-item.result c.loop-delta.names.keys _ c.requires
    (slice_get_read c.args.deltas.now (length c.args.deltas.now) c.loop-delta.delta-index c.delta-item.result refl c.loop-delta-test.true c.delta-item.is) c.loop-delta.invariant c.in_ok-insert.ensures.keys
