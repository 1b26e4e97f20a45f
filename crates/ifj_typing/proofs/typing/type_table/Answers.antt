use Rattle.ifj_typing.proofs.Layers.{typed_or_not}
use Rattle.ifj_typing.proofs.typing.type_table.Goals as goal

pub returns-in-Ok-None-clause-typed : goal.returns-in-Ok-None-clause-typed
returns-in-Ok-None-clause-typed c = (typed_or_not c.args.table.now).1 (rw c.in-Ok-None.field-0-is at c.in-Ok-None.ensures)

pub returns-in-Ok-Some-clause-untyped : goal.returns-in-Ok-Some-clause-untyped
returns-in-Ok-Some-clause-untyped c = λ typed.
    (typed_or_not c.args.table.now).0 typed c.in-Ok-Some.instance (rw c.in-Ok-Some.field-0-is at c.in-Ok-Some.ensures).is
