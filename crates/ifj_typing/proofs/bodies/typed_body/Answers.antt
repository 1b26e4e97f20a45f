use Rattle.std.proofs.Common.{◌≡◌, List, Some, sym, subst}
use Rattle.arena_walk.specs.Forest.{tree_at}
use Rattle.arena_walk.proofs.Visitors.{each_root}
use Rattle.dj_tree.specs.Arities.{expr_arity}
use Rattle.dj_tree.specs.WellFormed.{IsExprNode}
use Rattle.dj_tree.specs.declared.expression.ExprNode.{ExprNode}
use Rattle.ifj_table.specs.Tables.{table_names, table_nodes}
use Rattle.ifj_table.proofs.TableLemmas.{all_at}
use Rattle.ifj_typing.specs.Scopes.{IsScope}
use Rattle.ifj_typing.specs.declared.scope.Scope.{Scope}
use Rattle.ifj_typing.proofs.Walked.{walked_grown}
use Rattle.ifj_typing.proofs.bodies.typed_body.Goals as goal

pub walk-requires-clause-admitted : goal.walk-requires-clause-admitted
walk-requires-clause-admitted c = λ tree is.
    let names = table_names c.args.table.now in
    let nodes = subst (λ (ns : List ExprNode). tree_at expr_arity ns c.args.body.now.root.0 ≡ Some tree) c.exprs.ensures is in
    each_root (λ n. IsScope (record { table = c.args.table; lineages = c.args.lineages; class = c.args.class; method = c.args.method; body = c.args.body; parameters = c.args.parameters }) × IsExprNode names n) expr_arity (table_nodes c.args.table.now) c.args.body.now.root.0 tree
    (λ k n here. (record { has_lineages = c.requires.lineages; named = c.requires.class; has_method = c.requires.method; has_body = c.requires.body; has_types = c.requires.parameters }, all_at (IsExprNode names) (table_nodes c.args.table.now) k n c.requires.nodes here)) nodes

pub returns-in-Ok : goal.returns-in-Ok
returns-in-Ok c =
    let scope : Scope = record { table = c.args.table; lineages = c.args.lineages; class = c.args.class; method = c.args.method; body = c.args.body; parameters = c.args.parameters } in
    walked_grown scope c.walk.new.visitor (table_nodes c.args.table.now) c.args.body.now.root.0 c.in-Ok.root c.walk.ensures.grew c.requires.body.root
    (λ tree is. c.in-Ok.ensures.ok tree (subst (λ (ns : List ExprNode). tree_at expr_arity ns c.args.body.now.root.0 ≡ Some tree) (sym c.exprs.ensures) is))
