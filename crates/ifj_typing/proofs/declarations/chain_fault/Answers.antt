use Rattle.ifj_typing.specs.Declarations.{UnknownSuperclass, CircularSuperclasses}
use Rattle.ifj_typing.proofs.Leasts.{least_of_both}
use Rattle.ifj_typing.proofs.declarations.chain_fault.Goals as goal

pub returns : goal.returns
returns c =
    let t = c.args.table.now in
    least_of_both (UnknownSuperclass t c.args.class.now) (CircularSuperclasses t c.args.class.now) c.parent_fault-parent.result c.circle_fault-circle.result c.lesser.result c.parent_fault-parent.ensures c.circle_fault-circle.ensures c.lesser.ensures
