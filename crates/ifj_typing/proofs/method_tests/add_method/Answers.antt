use Rattle.std.proofs.Common.{◌≡◌, ◌≤◌, None, map, length, sym, ap, ◌∙◌, subst, arith}
use Rattle.std.proofs.lemmas.List.{length-map}
use Rattle.arena_walk.specs.Tree.{size}
use Rattle.dj_tree.specs.Plain.{plain_field, plain_expr}
use Rattle.dj_tree.proofs.Growing.{kept_spot, expr_nodes_later}
use Rattle.ifj_table.specs.Lookups.{own_method}
use Rattle.ifj_table.specs.Tables.{plain_table}
use Rattle.ifj_typing.proofs.Expressions.{arena_expression, arena_size}
use Rattle.ifj_typing.proofs.method_tests.add_method.Goals as goal

pub add_method-requires-clause-absent : goal.add_method-requires-clause-absent
add_method-requires-clause-absent c =
    let text = ap (λ z. z.text) (kept_spot c.spot_of-2.new.names c.parameters_of.new.names c.in_ok-spot.spot c.parameters_of.ensures.numbers c.in_ok-spot.ensures.known) ∙ c.in_ok-spot.ensures.says in
    subst (λ k. own_method (plain_table c.args.table.now) c.args.row.class.now k ≡ None) (sym text) c.requires.absent

pub add_method-requires-clause-nodes_known : goal.add_method-requires-clause-nodes_known
add_method-requires-clause-nodes_known c =
    let exprs = c.args.code.exprs in
    expr_nodes_later c.spot_of-2.new.names c.parameters_of.new.names exprs c.parameters_of.ensures.numbers
    (expr_nodes_later c.spot_of.new.names c.spot_of-2.new.names exprs c.spot_of-2.ensures.numbers (expr_nodes_later c.args.code.names c.spot_of.new.names exprs c.spot_of.ensures.numbers c.requires.code.known))

pub add_method-requires-clause-expression : goal.add_method-requires-clause-expression
add_method-requires-clause-expression c = arena_expression c.parameters_of.new.names c.args.code.exprs c.args.code.root.0 c.requires.code.there c.first-first.ensures.whole

pub add_method-requires-clause-room : goal.add_method-requires-clause-room
add_method-requires-clause-room c =
    let names = c.parameters_of.new.names in
    let few : size (plain_expr names c.args.code.exprs c.args.code.root.0) ≤ 20 =
    omega (arith, arena_size names c.args.code.exprs c.args.code.root.0 c.requires.code.there c.first-first.ensures.whole, c.requires.code.there, c.requires.code.few_nodes) in
    let one : length (map (plain_field names) c.in_ok-parameters.parameters) ≤ 1 = omega (arith, length-map c.in_ok-parameters.parameters (plain_field names), c.in_ok-parameters.ensures.short) in
    omega (arith, few, one, c.requires.room)

pub add_method-requires-clause-space : goal.add_method-requires-clause-space
add_method-requires-clause-space c =
    let names = c.parameters_of.new.names in
    let few : size (plain_expr names c.args.code.exprs c.args.code.root.0) ≤ 20 =
    omega (arith, arena_size names c.args.code.exprs c.args.code.root.0 c.requires.code.there c.first-first.ensures.whole, c.requires.code.there, c.requires.code.few_nodes) in
    omega (arith, few, c.requires.space)

pub returns-clause-few_names : goal.returns-clause-few_names
returns-clause-few_names c =
    let names = c.parameters_of.new.names in
    let few : size (plain_expr names c.args.code.exprs c.args.code.root.0) ≤ 20 =
    omega (arith, arena_size names c.args.code.exprs c.args.code.root.0 c.requires.code.there c.first-first.ensures.whole, c.requires.code.there, c.requires.code.few_nodes) in
    let one : length (map (plain_field names) c.in_ok-parameters.parameters) ≤ 1 = omega (arith, length-map c.in_ok-parameters.parameters (plain_field names), c.in_ok-parameters.ensures.short) in
    omega (arith, few, one, c.add_method.ensures.few_names)

pub returns-clause-few_nodes : goal.returns-clause-few_nodes
returns-clause-few_nodes c =
    let names = c.parameters_of.new.names in
    let few : size (plain_expr names c.args.code.exprs c.args.code.root.0) ≤ 20 =
    omega (arith, arena_size names c.args.code.exprs c.args.code.root.0 c.requires.code.there c.first-first.ensures.whole, c.requires.code.there, c.requires.code.few_nodes) in
    omega (arith, few, c.add_method.ensures.few_nodes)
