use Rattle.std.proofs.Common.{◌≡◌, ◌∙◌, unwrap_or, slice_get, rules}
use Rattle.arena_walk.proofs.Visitors.{outs_fold}
use Rattle.arena_walk.proofs.tests.LeftmostVisitFan.node.Goals as goal

pub returns-clause-ok : goal.returns-clause-ok
returns-clause-ok c = λ kids stand _.
    let here : c.unwrap_or.result ≡ unwrap_or (slice_get c.args.children.now 0) c.args.node.now.value = search rules in
    here ∙ outs_fold (λ fan outs. unwrap_or (slice_get outs 0) fan.value) c.args.node.now kids c.args.children.now stand
