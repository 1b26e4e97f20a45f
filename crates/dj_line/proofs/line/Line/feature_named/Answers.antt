use Rattle.std.proofs.Common.{length, ap, arith}
use Rattle.std.proofs.lemmas.List.{length-map}
use Rattle.dj_tree.specs.Plain.{plain_spot}
use Rattle.dj_line.specs.Lines.{plain_line}
use Rattle.dj_line.proofs.AcceptedLines.{few_features}
use Rattle.dj_line.proofs.line.Line.feature_named.Goals as goal

pub number_named-requires : goal.number_named-requires
number_named-requires c =
    let line = c.args.self.now in
    omega (arith, ap length line.tables.features_are, length-map line.source.features (λ f. f.name.0), length-map line.source.features (plain_spot line.source.names), few_features (plain_line line) line.accepted)

pub returns : goal.returns
returns c = let line = c.args.self.now in c.number_named.ensures line.source.features line.tables.features_are line.well_formed.features
