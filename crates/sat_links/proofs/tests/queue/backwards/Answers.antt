use Rattle.std.proofs.Common.{ap, ◌∙◌, sym, length}
use Rattle.sat_links.proofs.Facts.{queue_length}
use Rattle.sat_links.proofs.tests.queue.backwards.Goals as goal

pub last_free-requires : goal.last_free-requires
last_free-requires g c = ap length c.deref.ensures.value ∙ c.loop.invariant ∙ sym (queue_length c.args.vars c.args.queue.now c.requires)
