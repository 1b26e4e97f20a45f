use Rattle.std.proofs.Common.{◌∙◌, ap, map}
use Rattle.dj_tree.specs.Plain.{plain_spot}
use Rattle.dj_names.proofs.Extending.{extends_transitive}
use Rattle.ifj_flatten.proofs.Headings.{kinds_later, spots_later}
use Rattle.ifj_flatten.proofs.versions.make_heading.Goals as goal

pub returns-clause-kinds : goal.returns-clause-kinds
returns-clause-kinds c =
    let names = c.own_parameters.new.made.names in
    let later = c.place.new.self.names in
    let grown = extends_transitive names c.spot.new.self.names later c.in_ok-result.ensures.grown c.in_ok-spot.ensures.grown in
    kinds_later names later c.in_ok-parameters.parameters.items grown c.in_ok-parameters.ensures.known ∙ c.in_ok-parameters.ensures.kinds ∙ ap (map (plain_spot c.args.from.now)) c.as_slice.ensures

pub returns-clause-spots : goal.returns-clause-spots
returns-clause-spots c =
    let names = c.own_parameters.new.made.names in
    let later = c.place.new.self.names in
    let grown = extends_transitive names c.spot.new.self.names later c.in_ok-result.ensures.grown c.in_ok-spot.ensures.grown in
    spots_later names later c.in_ok-parameters.parameters.items grown c.in_ok-parameters.ensures.known ∙ c.in_ok-parameters.ensures.spots
