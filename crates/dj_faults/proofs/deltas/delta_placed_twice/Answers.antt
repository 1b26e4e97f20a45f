use Rattle.std.proofs.Common.{rules}
use Rattle.std.proofs.lemmas.Result.{IfOk-weaker}
use Rattle.dj_faults.proofs.ListFaults.{least_placed_twice}
use Rattle.dj_faults.proofs.deltas.delta_placed_twice.Goals as goal

pub returns : goal.returns
returns c = IfOk-weaker c.repeated.result _ _ (λ o is. least_placed_twice c.args.source.now c.requires _ o (search rules) is) c.repeated.ensures
