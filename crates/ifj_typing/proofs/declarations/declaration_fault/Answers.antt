use Rattle.ifj_typing.specs.Declarations.{BreaksChain, BreaksTypes}
use Rattle.ifj_typing.proofs.Leasts.{least_of_both}
use Rattle.ifj_typing.proofs.declarations.declaration_fault.Goals as goal

pub returns : goal.returns
returns c =
    let t = c.args.table.now in
    least_of_both (BreaksChain t c.args.class.now) (BreaksTypes t c.args.class.now) c.chain_fault-chain.result c.class_types_fault-types.result c.lesser.result c.chain_fault-chain.ensures c.class_types_fault-types.ensures c.lesser.ensures
