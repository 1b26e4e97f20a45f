use Rattle.std.proofs.Common.{rules}
use Rattle.std.proofs.lemmas.Result.{IfOk-weaker}
use Rattle.dj_faults.proofs.ListFaults.{least_unknown_part}
use Rattle.dj_faults.proofs.parts.unknown_part.Goals as goal

pub returns : goal.returns
returns c = IfOk-weaker c.unknown.result _ _ (λ o is. least_unknown_part c.args.source.now c.requires _ _ o (search rules) (search rules) is) c.unknown.ensures
