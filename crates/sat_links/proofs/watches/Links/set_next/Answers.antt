use Rattle.sat_links.proofs.LinkLemmas.{relinked}
use Rattle.sat_links.proofs.watches.Links.set_next.Goals as goal

pub returns-clause-next : goal.returns-clause-next
returns-clause-next c = relinked c.args.self.now.next.items c.index_mut.result.now c.set_slot.new.links c.args.watch c.args.next c.requires.clause c.index_mut.ensures.value c.set_slot.ensures.here c.set_slot.ensures.others
