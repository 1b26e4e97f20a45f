use Rattle.std.proofs.Common.{arith}
use Rattle.dj_declarations.specs.View.{formula_view}
use Rattle.dj_parser.specs.Growth.{Grew}
use Rattle.dj_parser.specs.declared.tables.Tables.{Tables}
use Rattle.dj_parser.specs.Said.{said_formula, formula_text}
use Rattle.dj_tree.proofs.Growing.{expr_nodes_later, keeps_reflexive}
use Rattle.dj_parser.proofs.Growing.{formula_stays}
use Rattle.dj_parser.proofs.NodeTexts.{said_size, formula_texts}
use Rattle.dj_parser.proofs.leaves.resolve_formula.Goals as goal

pub add_formula-requires : goal.add_formula-requires
add_formula-requires c =
    let tree = formula_view c.args.bytes.now c.args.nodes.now in
    record {
      texts = formula_texts tree c.requires.utf8;
      room = omega (arith, c.requires.names, said_size formula_text tree);
      space = omega (arith, c.requires.formulas, said_size formula_text tree);
    }

pub returns : goal.returns
returns c =
    let tree = formula_view c.args.bytes.now c.args.nodes.now in
    let names = c.in_ok-root.ensures.names_grow in
    let old = c.args.tables.now in
    let new : Tables = record { names = c.add_formula.new.names; exprs = old.exprs; formulas = c.add_formula.new.formulas } in
    let grew : Grew old new (said_formula tree) =
    record {
      known = record { exprs = expr_nodes_later _ _ _ names c.requires.known.exprs; formulas = c.in_ok-root.ensures.known c.requires.known.formulas };
      names = names;
      exprs = keeps_reflexive old.exprs;
      formulas = c.in_ok-root.ensures.nodes_grow;
      few_names = omega (arith, c.in_ok-root.ensures.few_names, said_size formula_text tree);
      few_exprs = omega arith;
      few_formulas = omega (arith, c.in_ok-root.ensures.few_nodes, said_size formula_text tree);
    } in
    record {
      grew = grew;
      stands = λ later texts grown. formula_stays new later texts grew.known grown (record { same = c.in_ok-root.ensures.tree; well = c.in_ok-root.ensures.there });
    }
