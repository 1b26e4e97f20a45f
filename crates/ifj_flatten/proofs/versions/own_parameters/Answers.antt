use Rattle.std.proofs.Common.{◌∙◌, arith}
use Rattle.ifj_flatten.proofs.Headings.{own_next}
use Rattle.ifj_flatten.proofs.versions.own_parameters.Goals as goal

pub parameters-preserved : goal.parameters-preserved
parameters-preserved c = (
  own_next c.args.from.now c.args.made.now.names c.parameters.made.names c.spot.new.self.names c.spot-in-parameters.new.self.names c.args.kinds.now c.args.spots.now c.parameters.at _ _ c.parameters.own.items c.push.new.self.items
      (record { kind = c.in_ok-kind.kind; spot = c.in_ok-spot.spot }) c.parameters-test.true (omega (arith, c.parameters-test.true, c.requires.same)) c.parameters.invariant.0 c.in_ok-kind.ensures.grown c.in_ok-spot.ensures.grown
      c.in_ok-kind.ensures.known c.in_ok-spot.ensures.known c.in_ok-kind.ensures.means c.in_ok-spot.ensures.means c.in_ok-push.ensures.items,
  c.spot-in-parameters.ensures.exprs ∙ c.spot.ensures.exprs ∙ c.parameters.invariant.1,
)
