use Rattle.std.proofs.Common.{◌≡◌, ◌∙◌, List, false, map, length, ap, subst, arith}
use Rattle.std.specs.Prelude.{MatchOption}
use Rattle.std.proofs.lemmas.List.{length-map}
use Rattle.dj_tree.specs.Trees as plain
use Rattle.dj_calculus.specs.Configurations.{is_named}
use Rattle.dj_line.specs.Naming.{IsNamedAt}
use Rattle.dj_line.proofs.DeltaNames.{delta_spots, delta_keys, spots_known}
use Rattle.dj_line.proofs.line.Line.delta_named.Goals as goal

pub number_named-requires : goal.number_named-requires
number_named-requires c =
    let line = c.args.self.now in
    omega (arith, ap length line.tables.deltas_are, length-map line.source.deltas (λ d. d.spot.name.0), line.tables.few_deltas)

pub returns : goal.returns
returns c =
    let line = c.args.self.now in
    let spots = map (λ d. d.spot) line.source.deltas in
    let P : List plain.Spot → Type 0 = λ names. MatchOption c.number_named.result (is_named names c.args.text.now ≡ false) (λ number. IsNamedAt names number c.args.text.now) in
    subst P (delta_spots line.source.names line.source.exprs line.source.deltas)
    (c.number_named.ensures spots (line.tables.deltas_are ∙ delta_keys line.source.deltas) (spots_known line.source.names line.source.exprs line.source.deltas line.well_formed.deltas))
