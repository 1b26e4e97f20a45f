use Rattle.std.proofs.Common.{◌∙◌, length, ap, arith}
use Rattle.std.proofs.lemmas.List.{length-map}
use Rattle.dj_tree.specs.Plain.{plain_source, plain_spot}
use Rattle.dj_line.specs.declared.tables.Placing.{Placing}
use Rattle.dj_line.proofs.AcceptedLines.{few_features}
use Rattle.dj_line.proofs.LineOf.{parts_of}
use Rattle.dj_line.proofs.acceptance.finished.Goals as goal

pub formula_of-requires-clause-few : goal.formula_of-requires-clause-few
formula_of-requires-clause-few c = let s = c.args.source in omega (arith, few_features (plain_source s) c.requires.accepted, length-map s.features (plain_spot s.names))

pub conditions-requires-clause-few : goal.conditions-requires-clause-few
conditions-requires-clause-few c = let s = c.args.source in omega (arith, few_features (plain_source s) c.requires.accepted, length-map s.features (plain_spot s.names))

pub invariant_of-result : goal.invariant_of-result
invariant_of-result c =
    record {
      well_formed = c.requires.well_formed;
      accepted = c.requires.accepted;
      laid = ∣ c.requires.laid ∣₁;
      distinct = c.requires.distinct;
      tables = record {
        features_are = c.requires.features;
        deltas_are = c.requires.deltas;
        few_deltas = c.requires.few;
        items_are = c.requires.items;
        as_many_parts = ap length c.in_ok-part_numbers.ensures ∙ length-map c.args.placings.now (λ (p : Placing). p.part) ∙ c.requires.count;
        parts_are = parts_of c.args.source c.args.placings.now c.in_ok-part_numbers.part_numbers.items c.in_ok-part_numbers.ensures c.requires.placed;
        valid_is = c.in_ok-valid.ensures;
        as_many_conditions = c.in_ok-conditions.ensures.count ∙ c.requires.count;
        conditions_are = c.in_ok-conditions.ensures.stand;
      };
    }
