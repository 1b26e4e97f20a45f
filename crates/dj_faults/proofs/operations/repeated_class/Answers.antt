use Rattle.std.proofs.Common.{rules}
use Rattle.std.proofs.lemmas.Result.{IfOk-weaker}
use Rattle.dj_faults.proofs.OperationFaults.{least_classes}
use Rattle.dj_faults.proofs.operations.repeated_class.Goals as goal

pub returns : goal.returns
returns c = IfOk-weaker c.repeated.result _ _ (λ o is. least_classes c.args.source.now c.requires.sound c.args.operations.now _ o c.requires.operations (search rules) is) c.repeated.ensures
