use Rattle.ifj_typing.specs.Declarations.{UnknownFieldTypes, UnknownInSignatures}
use Rattle.ifj_typing.proofs.Leasts.{least_of_both}
use Rattle.ifj_typing.proofs.declarations.class_types_fault.Goals as goal

pub returns : goal.returns
returns c =
    let t = c.args.table.now in
    least_of_both (UnknownFieldTypes t c.args.class.now) (UnknownInSignatures t c.args.class.now) c.fields_fault-fields.result c.signatures_fault-methods.result c.lesser.result c.fields_fault-fields.ensures c.signatures_fault-methods.ensures c.lesser.ensures
