use Rattle.dj_calculus.proofs.RuleLemmas.{sound_table}
use Rattle.dj_calculus.proofs.laws.well_typed_breaks_nothing.Goals as goal

pub returns : goal.returns
returns c = λ t no_object typed i stands. sound_table t no_object typed i.rule i.at stands.breaks
