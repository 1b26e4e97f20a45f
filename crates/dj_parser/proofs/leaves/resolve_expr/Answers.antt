use Rattle.std.proofs.Common.{arith}
use Rattle.dj_declarations.specs.View.{expr_view}
use Rattle.dj_parser.specs.Growth.{Grew}
use Rattle.dj_parser.specs.declared.tables.Tables.{Tables}
use Rattle.dj_parser.specs.Said.{said_expr, expr_text}
use Rattle.dj_tree.proofs.Growing.{formula_nodes_later, keeps_reflexive}
use Rattle.dj_parser.proofs.Growing.{expr_stays}
use Rattle.dj_parser.proofs.NodeTexts.{said_size, expr_texts}
use Rattle.dj_parser.proofs.leaves.resolve_expr.Goals as goal

pub add_expr-requires : goal.add_expr-requires
add_expr-requires c =
    let tree = expr_view c.args.bytes.now c.args.nodes.now in
    record {
      texts = expr_texts tree c.requires.utf8;
      room = omega (arith, c.requires.names, said_size expr_text tree);
      space = omega (arith, c.requires.exprs, said_size expr_text tree);
    }

pub returns : goal.returns
returns c =
    let tree = expr_view c.args.bytes.now c.args.nodes.now in
    let names = c.in_ok-root.ensures.names_grow in
    let old = c.args.tables.now in
    let new : Tables = record { names = c.add_expr.new.names; formulas = old.formulas; exprs = c.add_expr.new.exprs } in
    let grew : Grew old new (said_expr tree) =
    record {
      known = record { formulas = formula_nodes_later _ _ _ names c.requires.known.formulas; exprs = c.in_ok-root.ensures.known c.requires.known.exprs };
      names = names;
      formulas = keeps_reflexive old.formulas;
      exprs = c.in_ok-root.ensures.nodes_grow;
      few_names = omega (arith, c.in_ok-root.ensures.few_names, said_size expr_text tree);
      few_formulas = omega arith;
      few_exprs = omega (arith, c.in_ok-root.ensures.few_nodes, said_size expr_text tree);
    } in
    record {
      grew = grew;
      stands = λ later texts grown. expr_stays new later texts grew.known grown (record { same = c.in_ok-root.ensures.tree; well = c.in_ok-root.ensures.there });
    }
