use Rattle.std.proofs.Common.{rules}
use Rattle.java_reader.proofs.FaultLemmas.{least_members}
use Rattle.java_reader.proofs.faults.member_twice.Goals as goal

pub returns : goal.returns
returns c =
    let s = c.args.source.now in
    rw c.earlier.ensures
    (least_members s.names s.exprs c.args.class.now _ _ c.in_ok-field.field c.in_ok-method.method (search rules) (search rules) c.in_ok-field.ensures c.in_ok-method.ensures)
