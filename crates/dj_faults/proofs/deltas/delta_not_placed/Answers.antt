use Rattle.std.proofs.Common.{rules}
use Rattle.std.proofs.lemmas.Result.{IfOk-weaker}
use Rattle.dj_faults.proofs.ListFaults.{least_not_placed}
use Rattle.dj_faults.proofs.deltas.delta_not_placed.Goals as goal

pub returns : goal.returns
returns c = IfOk-weaker c.unknown.result _ _ (λ o is. least_not_placed c.args.source.now c.requires _ _ o (search rules) (search rules) is) c.unknown.ensures
