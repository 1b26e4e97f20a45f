use Rattle.std.proofs.Common.{None, Some, refl, ap, ◌∙◌}
use Rattle.std.specs.Bool.{if◌then◌else◌}
use Rattle.dj_calculus.specs.Conflicts.{conflict}
use Rattle.dj_apply.specs.Touched.{plain_thing}
use Rattle.dj_apply.specs.Overlaps.{IsNoLater}
use Rattle.dj_apply.specs.declared.overlaps.Thing.{Thing}
use Rattle.dj_apply.proofs.LeastLemmas.{least_test}
use Rattle.dj_apply.proofs.OverlapLemmas.{no_later_itself}
use Rattle.dj_apply.proofs.overlaps.clash.Goals as goal

pub returns : goal.returns
returns c = λ names distinct one other.
    let places : Thing = record { first = c.args.one.at; second = c.args.other.at } in
    least_test IsNoLater (conflict (plain_thing names c.args.one) (plain_thing names c.args.other)) places c.pair_if.result
    (c.pair_if.ensures ∙ ap (λ b. if b then Some places else None) (c.conflicts.ensures names distinct one other)) (no_later_itself places) (λ e. (e, refl)) (λ y h. h)
