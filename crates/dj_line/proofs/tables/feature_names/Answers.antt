use Rattle.std.proofs.lemmas.Option.{slice_get-get_or}
use Rattle.dj_line.proofs.Filling.{keys_next}
use Rattle.dj_line.proofs.tables.feature_names.Goals as goal

pub loop-feature-preserved : goal.loop-feature-preserved
loop-feature-preserved c =
    keys_next (λ f. f.name.0) c.args.features.now c.loop-feature.feature-index _ c.loop-feature.names.keys _ c.requires (slice_get-get_or c.args.features.now c.loop-feature.feature-index _ c.loop-feature-test.true) c.loop-feature.invariant c.in_ok-insert.ensures.keys
