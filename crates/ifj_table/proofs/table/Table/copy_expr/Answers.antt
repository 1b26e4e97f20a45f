use Rattle.std.proofs.Common.{◌≡◌, ◌+◌, ◌<◌, ◌≤◌, length, sym, ap, ◌∙◌, arith}
use Rattle.dj_names.proofs.Extending.{extends_transitive}
use Rattle.dj_tree.proofs.Growing.{keeps_transitive}
use Rattle.ifj_table.proofs.Copying.{copied_start, copied_enough, copied_next, copied_few, copied_kept, copied_all}
use Rattle.ifj_table.proofs.table.Table.copy_expr.Goals as goal

pub copy_node-requires-clause-enough : goal.copy_node-requires-clause-enough
copy_node-requires-clause-enough c = copied_enough c.args.from.now c.args.exprs.now c.args.root.0 c.loop-number.number c.args.self.now.names c.loop-number.self.names c.args.self.now.exprs c.loop-number.self.exprs c.loop-number.own.0 c.loop-number.invariant.0 c.get.result.now c.loop-number-test.true c.get.ensures.node

pub copy_node-requires-clause-room : goal.copy_node-requires-clause-room
copy_node-requires-clause-room c =
    let few = copied_few c.args.from.now c.args.exprs.now c.args.root.0 c.loop-number.number c.args.self.now.names c.loop-number.self.names c.args.self.now.exprs c.loop-number.self.exprs c.loop-number.own.0 c.loop-number.invariant.0 in
    omega (arith, few.0, few.3 (omega (arith, c.loop-number-test.true)), c.requires.room)

pub copy_node-requires-clause-space : goal.copy_node-requires-clause-space
copy_node-requires-clause-space c =
    let few = copied_few c.args.from.now c.args.exprs.now c.args.root.0 c.loop-number.number c.args.self.now.names c.loop-number.self.names c.args.self.now.exprs c.loop-number.self.exprs c.loop-number.own.0 c.loop-number.invariant.0 in
    omega (arith, few.1, few.3 (omega (arith, c.loop-number-test.true)), c.requires.space)

pub returns-in_err-own-clause-few_names : goal.returns-in_err-own-clause-few_names
returns-in_err-own-clause-few_names c =
    let few = copied_few c.args.from.now c.args.exprs.now c.args.root.0 c.loop-number.number c.args.self.now.names c.loop-number.self.names c.args.self.now.exprs c.loop-number.self.exprs c.loop-number.own.0 c.loop-number.invariant.0 in
    omega (arith, few.0, few.3 (omega (arith, c.loop-number-test.true)), c.copy_node.ensures.few)

pub returns-in_err-own-clause-few_nodes : goal.returns-in_err-own-clause-few_nodes
returns-in_err-own-clause-few_nodes c =
    let few = copied_few c.args.from.now c.args.exprs.now c.args.root.0 c.loop-number.number c.args.self.now.names c.loop-number.self.names c.args.self.now.exprs c.loop-number.self.exprs c.loop-number.own.0 c.loop-number.invariant.0 in
    omega (arith, few.1, few.2, ap length c.in_err-own.ensures.err)

pub loop-number-preserved : goal.loop-number-preserved
loop-number-preserved c = (
  copied_next c.args.from.now c.args.exprs.now c.args.root.0 c.loop-number.number c.args.self.now.names c.loop-number.self.names c.args.self.now.exprs c.loop-number.self.exprs c.loop-number.own.0 c.loop-number.invariant.0 c.get.result.now c.copy_node.new.self.names c.copy_node.new.self.exprs c.in_ok-own.own.0 c.loop-number-test.true c.get.ensures.node c.copy_node.ensures.numbers c.copy_node.ensures.few c.in_ok-own.ensures.number c.in_ok-own.ensures.node,
  c.copy_node.ensures.table ∙ c.loop-number.invariant.1,
  c.copy_node.ensures.classes ∙ c.loop-number.invariant.2,
)

pub returns-clause-tree : goal.returns-clause-tree
returns-clause-tree c = (copied_all c.args.from.now c.args.exprs.now c.args.root.0 c.loop-number.number c.args.self.now.names c.loop-number.self.names c.args.self.now.exprs c.loop-number.self.exprs c.loop-number.own.0 c.loop-number.invariant.0 (omega (arith, c.loop-number-test.false, c.loop-number.invariant.0.below))).0

pub returns-clause-own : goal.returns-clause-own
returns-clause-own c = (copied_all c.args.from.now c.args.exprs.now c.args.root.0 c.loop-number.number c.args.self.now.names c.loop-number.self.names c.args.self.now.exprs c.loop-number.self.exprs c.loop-number.own.0 c.loop-number.invariant.0 (omega (arith, c.loop-number-test.false, c.loop-number.invariant.0.below))).1

pub returns-clause-few_names : goal.returns-clause-few_names
returns-clause-few_names c =
    let few = copied_few c.args.from.now c.args.exprs.now c.args.root.0 c.loop-number.number c.args.self.now.names c.loop-number.self.names c.args.self.now.exprs c.loop-number.self.exprs c.loop-number.own.0 c.loop-number.invariant.0 in
    omega (arith, few.0, few.2)

pub returns-clause-few_nodes : goal.returns-clause-few_nodes
returns-clause-few_nodes c =
    let few = copied_few c.args.from.now c.args.exprs.now c.args.root.0 c.loop-number.number c.args.self.now.names c.loop-number.self.names c.args.self.now.exprs c.loop-number.self.exprs c.loop-number.own.0 c.loop-number.invariant.0 in
    omega (arith, few.1, few.2)
