use Rattle.std.proofs.Common.{[], arith}
use Rattle.std.specs.Str.{IsUtf8}
use Rattle.std.proofs.lemmas.List.Elements.{All-head}
use Rattle.dj_declarations.specs.View.{spot_at}
use Rattle.dj_parser.specs.Growth.{Grew}
use Rattle.dj_parser.specs.declared.tables.Tables.{Tables}
use Rattle.dj_parser.specs.Said.{said_spot}
use Rattle.dj_tree.proofs.Growing.{formula_nodes_later, expr_nodes_later, keeps_reflexive}
use Rattle.dj_parser.proofs.Growing.{spot_stays}
use Rattle.dj_parser.proofs.leaves.resolve_spot.Goals as goal

pub add_spot-requires : goal.add_spot-requires
add_spot-requires c = record {
  text = All-head IsUtf8 _ [] c.requires.utf8;
  room = omega (arith, c.requires.names);
}

pub returns : goal.returns
returns c =
    let names = c.in_ok-spot.ensures.numbers in
    let old = c.args.tables.now in
    let new : Tables = record { names = c.add_spot.new.names; formulas = old.formulas; exprs = old.exprs } in
    let grew : Grew old new (said_spot (spot_at c.args.bytes.now c.args.token)) =
    record {
      known = record { formulas = formula_nodes_later _ _ _ names c.requires.known.formulas; exprs = expr_nodes_later _ _ _ names c.requires.known.exprs };
      names = names;
      formulas = keeps_reflexive old.formulas;
      exprs = keeps_reflexive old.exprs;
      few_names = c.in_ok-spot.ensures.few;
      few_formulas = omega arith;
      few_exprs = omega arith;
    } in
    record {
      grew = grew;
      stands = λ later texts grown. spot_stays new later texts grew.known grown (record { same = c.in_ok-spot.ensures.spot; well = c.in_ok-spot.ensures.known });
    }
