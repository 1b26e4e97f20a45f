use Rattle.std.proofs.Common.{◌≡◌, ◌∙◌, arith}
use Rattle.ifj_table.proofs.OwnNames.{owned_next}
use Rattle.ifj_table.proofs.table.Table.own_parameters.Goals as goal

pub loop-parameter-preserved : goal.loop-parameter-preserved
loop-parameter-preserved c = (
  owned_next c.args.from.now c.args.self.now.names c.loop-parameter.self.names c.own_spot.new.self.names c.own_spot-in-loop-parameter.new.self.names c.loop-parameter.types.items c.loop-parameter.names.items
      c.in_ok-own_spot.field-0 c.in_ok-own_spot-2.field-0 c.own_spot.ensures.numbers c.own_spot-in-loop-parameter.ensures.numbers c.own_spot.ensures.few c.own_spot-in-loop-parameter.ensures.few
      c.in_ok-own_spot.ensures.own c.in_ok-own_spot-2.ensures.own c.args.parameters.now c.loop-parameter.parameter-index _ c.push.new.self.items c.push-in-loop-parameter.new.self.items (omega arith) c.loop-parameter.invariant.0
      c.in_ok-push.ensures.items c.in_ok-push-2.ensures.items c.in_ok-own_spot.ensures.means c.in_ok-own_spot-2.ensures.means,
  c.own_spot-in-loop-parameter.ensures.table ∙ c.own_spot.ensures.table ∙ c.loop-parameter.invariant.1,
  c.own_spot-in-loop-parameter.ensures.classes ∙ c.own_spot.ensures.classes ∙ c.loop-parameter.invariant.2,
  c.own_spot-in-loop-parameter.ensures.nodes ∙ c.own_spot.ensures.nodes ∙ c.loop-parameter.invariant.3,
)
