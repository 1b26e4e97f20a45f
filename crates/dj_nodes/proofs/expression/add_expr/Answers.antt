use Rattle.std.proofs.Common.{◌≡◌, ◌<◌, take, length, sym, ap, ◌∙◌, subst, arith, length-take}
use Rattle.std.proofs.lemmas.List.{take_all}
use Rattle.std.specs.Str.{IsUtf8}
use Rattle.dj_expr_reader.specs.Marks.{expr_of}
use Rattle.dj_expr_reader.specs.View.{plain_marks}
use Rattle.dj_nodes.specs.PostOrder.{IsExprOrder}
use Rattle.dj_nodes.specs.Texts.{ExprTexts}
use Rattle.dj_nodes.proofs.Forms.{expr_size}
use Rattle.dj_tree.proofs.Filling.{at_index}
use Rattle.dj_nodes.proofs.ExprLoop.{ExprFilled, expr_text, expr_enough, expr_next, expr_all, expr_few}
use Rattle.dj_nodes.proofs.expression.add_expr.Goals as goal

pub add_node-requires-clause-text : goal.add_node-requires-clause-text
add_node-requires-clause-text c =
    let same = c.marks-mark-items.ensures.marks in
    let inside : c.loop-mark.mark-index < length c.marks-mark-items.result.now = omega arith in
    expr_text IsUtf8 c.args.bytes.now c.marks-mark-items.result.now c.loop-mark.mark-index _ (subst IsExprOrder (sym same) c.marks-mark-items.ensures.order)
    (subst (λ xs. ExprTexts IsUtf8 (expr_of (plain_marks c.args.bytes.now xs))) (sym same) c.requires.texts) (at_index c.marks-mark-items.result.now c.loop-mark.mark-index _ inside)

pub add_node-requires-clause-enough : goal.add_node-requires-clause-enough
add_node-requires-clause-enough c =
    let same = c.marks-mark-items.ensures.marks in
    let inside : c.loop-mark.mark-index < length c.marks-mark-items.result.now = omega arith in
    expr_enough c.args.bytes.now c.marks-mark-items.result.now c.loop-mark.mark-index _ c.args.names.now c.loop-mark.names c.args.exprs.now c.loop-mark.exprs c.loop-mark.root.0
    (subst IsExprOrder (sym same) c.marks-mark-items.ensures.order) (at_index c.marks-mark-items.result.now c.loop-mark.mark-index _ inside) c.loop-mark.invariant

pub loop-mark-preserved : goal.loop-mark-preserved
loop-mark-preserved c =
    let inside : c.loop-mark.mark-index < length c.marks-mark-items.result.now = omega arith in
    expr_next c.args.bytes.now c.marks-mark-items.result.now c.loop-mark.mark-index _ c.args.names.now c.loop-mark.names c.add_node.new.names c.args.exprs.now c.loop-mark.exprs
    c.add_node.new.exprs c.loop-mark.root.0 c.in_ok-root.root.0 inside c.loop-mark.invariant c.add_node.ensures.numbers c.add_node.ensures.few c.in_ok-root.ensures.number c.in_ok-root.ensures.node

pub returns-clause-tree : goal.returns-clause-tree
returns-clause-tree c =
    let same = c.marks-mark-items.ensures.marks in
    let done : take c.loop-mark.mark-index c.marks-mark-items.result.now ≡ c.args.nodes.now = take_all c.loop-mark.mark-index c.marks-mark-items.result.now (omega arith) ∙ same in
    (expr_all c.args.bytes.now c.args.nodes.now c.args.names.now c.loop-mark.names c.args.exprs.now c.loop-mark.exprs c.loop-mark.root.0 c.marks-mark-items.ensures.order
    (subst (λ xs. ExprFilled c.args.bytes.now xs c.args.names.now c.loop-mark.names c.args.exprs.now c.loop-mark.exprs c.loop-mark.root.0) done c.loop-mark.invariant)).0

pub add_node-requires-clause-room : goal.add_node-requires-clause-room
add_node-requires-clause-room c =
    let size_is = expr_size c.args.bytes.now c.args.nodes.now c.marks-mark-items.ensures.order in
    let many : length c.marks-mark-items.result.now ≡ length c.args.nodes.now = ap length c.marks-mark-items.ensures.marks in
    let done = length-take c.loop-mark.mark-index c.marks-mark-items.result.now in
    omega (arith, c.loop-mark.invariant.few)

pub add_node-requires-clause-space : goal.add_node-requires-clause-space
add_node-requires-clause-space c =
    let size_is = expr_size c.args.bytes.now c.args.nodes.now c.marks-mark-items.ensures.order in
    let many : length c.marks-mark-items.result.now ≡ length c.args.nodes.now = ap length c.marks-mark-items.ensures.marks in
    let done = length-take c.loop-mark.mark-index c.marks-mark-items.result.now in
    let nodes_are = expr_few c.args.bytes.now (take c.loop-mark.mark-index c.marks-mark-items.result.now) c.args.names.now c.loop-mark.names c.args.exprs.now c.loop-mark.exprs c.loop-mark.root.0 c.loop-mark.invariant in
    omega (arith, nodes_are)

pub returns-clause-few_names : goal.returns-clause-few_names
returns-clause-few_names c =
    let size_is = expr_size c.args.bytes.now c.args.nodes.now c.marks-mark-items.ensures.order in
    let many : length c.marks-mark-items.result.now ≡ length c.args.nodes.now = ap length c.marks-mark-items.ensures.marks in
    let done = length-take c.loop-mark.mark-index c.marks-mark-items.result.now in
    omega (arith, c.loop-mark.invariant.few)

pub returns-clause-few_nodes : goal.returns-clause-few_nodes
returns-clause-few_nodes c =
    let size_is = expr_size c.args.bytes.now c.args.nodes.now c.marks-mark-items.ensures.order in
    let many : length c.marks-mark-items.result.now ≡ length c.args.nodes.now = ap length c.marks-mark-items.ensures.marks in
    let done = length-take c.loop-mark.mark-index c.marks-mark-items.result.now in
    let nodes_are = expr_few c.args.bytes.now (take c.loop-mark.mark-index c.marks-mark-items.result.now) c.args.names.now c.loop-mark.names c.args.exprs.now c.loop-mark.exprs c.loop-mark.root.0 c.loop-mark.invariant in
    omega (arith, nodes_are)
