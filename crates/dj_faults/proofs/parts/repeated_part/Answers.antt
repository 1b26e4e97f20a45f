use Rattle.std.proofs.Common.{rules}
use Rattle.std.proofs.lemmas.Result.{IfOk-weaker}
use Rattle.dj_faults.proofs.ListFaults.{least_repeated_part}
use Rattle.dj_faults.proofs.parts.repeated_part.Goals as goal

pub returns : goal.returns
returns c = IfOk-weaker c.repeated.result _ _ (λ o is. least_repeated_part c.args.source.now c.requires _ o (search rules) is) c.repeated.ensures
