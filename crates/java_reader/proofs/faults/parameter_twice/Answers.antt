use Rattle.std.proofs.lemmas.Result.{IfOk-weaker}
use Rattle.java_reader.proofs.FaultLemmas.{least_parameters}
use Rattle.java_reader.proofs.faults.parameter_twice.Goals as goal

pub returns : goal.returns
returns c =
    let s = c.args.source.now in
    IfOk-weaker c.repeated_name.result _ _ (λ o is. least_parameters s.names s.exprs c.args.method.now c.as_slice.result.now o c.as_slice.ensures is) c.repeated_name.ensures
