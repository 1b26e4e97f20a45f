use Rattle.std.proofs.Common.{rules}
use Rattle.std.proofs.lemmas.Result.{IfOk-weaker}
use Rattle.dj_faults.proofs.ListFaults.{least_repeated_delta}
use Rattle.dj_faults.proofs.deltas.repeated_delta.Goals as goal

pub returns : goal.returns
returns c = IfOk-weaker c.repeated.result _ _ (λ o is. least_repeated_delta c.args.source.now c.requires _ o (search rules) is) c.repeated.ensures
