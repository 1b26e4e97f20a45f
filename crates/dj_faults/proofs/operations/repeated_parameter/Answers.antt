use Rattle.std.proofs.Common.{rules}
use Rattle.std.proofs.lemmas.Result.{IfOk-weaker}
use Rattle.dj_faults.proofs.InsideLemmas.{least_fields}
use Rattle.dj_faults.proofs.operations.repeated_parameter.Goals as goal

pub returns : goal.returns
returns c = IfOk-weaker c.repeated.result _ _ (λ o is. least_fields c.args.source.now c.requires.sound c.args.method.now.parameters _ o c.requires.method.parameters (search rules) is) c.repeated.ensures
