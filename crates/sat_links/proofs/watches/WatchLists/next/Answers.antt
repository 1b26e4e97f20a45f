use Rattle.std.proofs.Common.{◌+◌, Contains, slice_get, ap, add-one, ◌∙◌, sym, subst}
use Rattle.sat_links.specs.Watches.{joined, place_of, watches_of}
use Rattle.sat_links.proofs.MoveLemmas.{after_is, watch_below}
use Rattle.sat_links.proofs.watches.WatchLists.next.Goals as goal

pub next-requires-clause-clause : goal.next-requires-clause-clause
next-requires-clause-clause c =
    (watch_below c.self.inside.links.heads.items c.self.inside.links.next.items c.args.watch c.self.invariant (subst (λ lists. Contains (joined lists) c.args.watch) (sym c.self.view_is) c.requires)).0

pub next-requires-clause-slot : goal.next-requires-clause-slot
next-requires-clause-slot c =
    (watch_below c.self.inside.links.heads.items c.self.inside.links.next.items c.args.watch c.self.invariant (subst (λ lists. Contains (joined lists) c.args.watch) (sym c.self.view_is) c.requires)).1

pub returns : goal.returns
returns c = λ lit k at.
    let same = ap (λ lists. watches_of lists lit) c.self.view_is in
    c.next.ensures
    ∙ after_is c.self.inside.links.next.items _ _ k c.args.watch (c.self.invariant.lead (place_of lit)) (ap (λ list. slice_get list k) same ∙ at)
    ∙ ap (slice_get _) (sym (add-one k))
    ∙ ap (λ list. slice_get list (k + 1)) same
