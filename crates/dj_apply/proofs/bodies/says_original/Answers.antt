use Rattle.std.proofs.Common.{sym, ◌∙◌}
use Rattle.dj_apply.proofs.BodyNodes.{none_yet, one_is, none_more, none_at_all}
use Rattle.dj_apply.proofs.bodies.says_original.Goals as goal

pub loop-number-init : goal.loop-number-init
loop-number-init c =
    let first = c.first-first.ensures.tree in
    (first.0, (first.1, none_yet c.args.source.now.names c.args.source.now.exprs c.args.body.0 first.0 first.1 c.first-first.result.0 first.2 first.3))

pub returns-then-is_original : goal.returns-then-is_original
returns-then-is_original c =
    let so_far = c.loop-number.invariant in
    one_is c.args.source.now.names c.args.source.now.exprs c.args.body.0 so_far.0 so_far.1.0 c.loop-number.number c.get.result.now so_far.1.1 c.loop-number-test.true c.get.ensures.node
    (sym c.if-is_original.true ∙ c.is_original.ensures c.args.source.now.names)

pub loop-number-preserved : goal.loop-number-preserved
loop-number-preserved c =
    let so_far = c.loop-number.invariant in (
      so_far.0,
      (
        so_far.1.0,
        none_more c.args.source.now.names c.args.source.now.exprs c.args.body.0 so_far.0 so_far.1.0 c.loop-number.number c.get.result.now so_far.1.1 c.loop-number-test.true c.get.ensures.node
            (sym c.if-is_original.false ∙ c.is_original.ensures c.args.source.now.names),
      ),
    )

pub returns : goal.returns
returns c =
    let so_far = c.loop-number.invariant in
    none_at_all c.args.source.now.names c.args.source.now.exprs c.args.body.0 so_far.0 so_far.1.0 c.loop-number.number so_far.1.1 c.loop-number-test.false
