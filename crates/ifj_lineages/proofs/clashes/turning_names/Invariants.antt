use Rattle.ifj_lineages.proofs.Turning.{AreNames}
use Rattle.ifj_lineages.proofs.clashes.turning_names.Given as goal

abbrev pub invariant-loop-method : goal.invariant-loop-method
invariant-loop-method l = AreNames l.table l.class l.names.items l.method-index
