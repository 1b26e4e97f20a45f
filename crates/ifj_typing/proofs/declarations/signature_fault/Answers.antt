use Rattle.std.proofs.Common.{List, subst}
use Rattle.dj_tree.specs.declared.declarations.Spot.{Spot}
use Rattle.ifj_typing.specs.Declarations.{UnknownType, UnknownAmong}
use Rattle.ifj_typing.specs.Least.{IsLeastOf}
use Rattle.ifj_typing.proofs.Leasts.{least_of_both}
use Rattle.ifj_typing.proofs.declarations.signature_fault.Goals as goal

pub returns : goal.returns
returns c =
    let t = c.args.table.now in
    least_of_both (UnknownType t c.args.method.now.result) (UnknownAmong t c.args.method.now.parameters) c.type_fault-result.result c.types_fault-parameters.result c.lesser.result c.type_fault-result.ensures
    (subst (λ (kinds : List Spot). IsLeastOf (UnknownAmong t kinds) c.types_fault-parameters.result) c.as_slice.ensures c.types_fault-parameters.ensures) c.lesser.ensures
