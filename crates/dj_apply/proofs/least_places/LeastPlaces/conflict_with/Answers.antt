use Rattle.std.proofs.Common.{sym, subst, refl}
use Rattle.dj_calculus.specs.Things as calculus
use Rattle.dj_apply.specs.Least.{IsLeastBy, Among}
use Rattle.dj_apply.specs.Overlaps.{IsNoLater, Clash}
use Rattle.dj_apply.specs.Touched.{plain_thing}
use Rattle.dj_apply.proofs.KeptLemmas.{pair_against, none_against}
use Rattle.dj_apply.proofs.least_places.LeastPlaces.conflict_with.Goals as goal

pub returns-in_err-first : goal.returns-in_err-first
returns-in_err-first c = λ names things known keeps.
    subst (IsLeastBy IsNoLater (Among (λ (a : calculus.Thing). Clash a (plain_thing names c.args.thing)) things)) (sym c.from_residual.ensures)
    (none_against (plain_thing names c.args.thing) things c.place_against.result c.in_err-first.was (c.place_against.ensures names things known keeps))

pub returns : goal.returns
returns c = λ names things known keeps.
    pair_against (plain_thing names c.args.thing) things c.place_against.result c.in_ok-first.first _ c.in_ok-first.was refl (c.place_against.ensures names things known keeps)
