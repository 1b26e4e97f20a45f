use Rattle.std.proofs.Common.{◌≡◌, ◌*◌, None, replicate, ap, ◌∙◌, arith}
use Rattle.sat_links.proofs.MoveLemmas.{two_more, linked_none}
use Rattle.sat_links.proofs.watches.WatchLists.new.Goals as goal

pub loop-preserved : goal.loop-preserved
loop-preserved c = two_more c.loop.counter c.loop.heads.items c.push.new.self.items c.push-in-loop.new.self.items c.loop.invariant c.in_ok-push.ensures.items c.in_ok-push-2.ensures.items

pub invariant_of-result : goal.invariant_of-result
invariant_of-result c =
    let whole : c.loop.counter ≡ c.args.vars = omega arith in
    (linked_none (2 * c.args.vars) c.loop.heads.items c.new-next.result.items (c.loop.invariant ∙ ap (λ n. replicate (2 * n) None) whole) c.new-next.ensures.items).linked

pub returns : goal.returns
returns c =
    let whole : c.loop.counter ≡ c.args.vars = omega arith in
    (linked_none (2 * c.args.vars) c.loop.heads.items c.new-next.result.items (c.loop.invariant ∙ ap (λ n. replicate (2 * n) None) whole) c.new-next.ensures.items).is
