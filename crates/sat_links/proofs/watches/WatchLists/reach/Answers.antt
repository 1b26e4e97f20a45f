use Rattle.std.proofs.Common.{◌*◌, arith}
use Rattle.sat_links.proofs.MoveLemmas.{reaches}
use Rattle.sat_links.proofs.watches.WatchLists.reach.Goals as goal

pub invariant_of-self-2 : goal.invariant_of-self-2
invariant_of-self-2 c = (reaches (2 * c.args.vars) _ c.self.inside.links.heads.items c.resize.new.self.items c.self.inside.links.next.items c.args.self.now c.self.invariant c.self.view_is c.requires.more (omega (arith, c.self.inside.links.heads.ok.0)) c.in_ok-resize.ensures.items).linked

pub returns-clause-ok : goal.returns-clause-ok
returns-clause-ok c = (reaches (2 * c.args.vars) _ c.self.inside.links.heads.items c.resize.new.self.items c.self.inside.links.next.items c.args.self.now c.self.invariant c.self.view_is c.requires.more (omega (arith, c.self.inside.links.heads.ok.0)) c.in_ok-resize.ensures.items).is
