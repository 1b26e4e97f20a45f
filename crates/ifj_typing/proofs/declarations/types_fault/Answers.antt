use Rattle.std.proofs.Common.{◌≡◌, ◌<◌, length, arith}
use Rattle.ifj_typing.specs.Declarations.{UnknownType}
use Rattle.ifj_typing.proofs.Leasts.{index_next, all_elements}
use Rattle.ifj_typing.proofs.declarations.types_fault.Goals as goal

pub loop-kind-preserved : goal.loop-kind-preserved
loop-kind-preserved c =
    let low : c.loop-kind.kind-index < length c.args.kinds.now = omega (arith) in
    index_next (UnknownType c.args.table.now) c.args.kinds.now c.loop-kind.kind-index _ c.loop-kind.least c.type_fault.result c.lesser-least.result low c.loop-kind.invariant c.type_fault.ensures c.lesser-least.ensures

pub returns : goal.returns
returns c =
    let end : c.loop-kind.kind-index ≡ length c.args.kinds.now = omega (arith) in
    all_elements (UnknownType c.args.table.now) c.args.kinds.now c.loop-kind.kind-index c.loop-kind.least end c.loop-kind.invariant
