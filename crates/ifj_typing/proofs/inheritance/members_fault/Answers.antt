use Rattle.ifj_typing.specs.Declarations.{HiddenFields, OverridesDiffer}
use Rattle.ifj_typing.proofs.Leasts.{least_of_both}
use Rattle.ifj_typing.proofs.inheritance.members_fault.Goals as goal

pub returns : goal.returns
returns c =
    let t = c.args.table.now in
    least_of_both (HiddenFields t c.args.class.now) (OverridesDiffer t c.args.class.now) c.fields_fault-fields.result c.methods_fault-methods.result c.lesser.result c.fields_fault-fields.ensures c.methods_fault-methods.ensures c.lesser.ensures
