use Rattle.std.proofs.Common.{arith}
use Rattle.sat_links.specs.Watches.{place_of}
use Rattle.sat_links.proofs.Facts.{places_differ}
use Rattle.sat_links.proofs.MoveLemmas.{stands_below, cut_count, moved_from}
use Rattle.sat_links.proofs.watches.WatchLists.rewatch.Goals as goal

pub cut-requires-clause-before : goal.cut-requires-clause-before
cut-requires-clause-before c = (stands_below _ _ _ (place_of c.args.lit) c.args.before c.args.watch c.self.invariant c.self.view_is c.requires.place).0

pub cut-requires-clause-clause : goal.cut-requires-clause-clause
cut-requires-clause-clause c = (stands_below _ _ _ (place_of c.args.lit) c.args.before c.args.watch c.self.invariant c.self.view_is c.requires.place).1.0

pub cut-requires-clause-slot : goal.cut-requires-clause-slot
cut-requires-clause-slot c = (stands_below _ _ _ (place_of c.args.lit) c.args.before c.args.watch c.self.invariant c.self.view_is c.requires.place).1.1

pub put_first-requires-clause-clause : goal.put_first-requires-clause-clause
put_first-requires-clause-clause c =
    omega (arith, (stands_below _ _ _ (place_of c.args.lit) c.args.before c.args.watch c.self.invariant c.self.view_is c.requires.place).1.0, cut_count _ _ _ _ (place_of c.args.lit) c.args.before c.args.watch c.cut.ensures)

pub put_first-requires-clause-slot : goal.put_first-requires-clause-slot
put_first-requires-clause-slot c = (stands_below _ _ _ (place_of c.args.lit) c.args.before c.args.watch c.self.invariant c.self.view_is c.requires.place).1.1

pub invariant_of-self : goal.invariant_of-self
invariant_of-self c =
    let differ = places_differ c.args.lit c.args.to c.requires.lit.0 c.requires.to.0 c.requires.different in
    let done = moved_from _ _ _ _ _ _ _ (place_of c.args.lit) (place_of c.args.to) c.args.before c.args.watch c.self.invariant c.self.view_is c.requires.lit.1 c.requires.to.1 differ c.requires.place c.cut.ensures c.put_first.ensures.heads c.put_first.ensures.next in
    done.linked

pub returns-clause-left : goal.returns-clause-left
returns-clause-left c =
    let differ = places_differ c.args.lit c.args.to c.requires.lit.0 c.requires.to.0 c.requires.different in
    let done = moved_from _ _ _ _ _ _ _ (place_of c.args.lit) (place_of c.args.to) c.args.before c.args.watch c.self.invariant c.self.view_is c.requires.lit.1 c.requires.to.1 differ c.requires.place c.cut.ensures c.put_first.ensures.heads c.put_first.ensures.next in
    done.lists.first

pub returns-clause-front : goal.returns-clause-front
returns-clause-front c =
    let differ = places_differ c.args.lit c.args.to c.requires.lit.0 c.requires.to.0 c.requires.different in
    let done = moved_from _ _ _ _ _ _ _ (place_of c.args.lit) (place_of c.args.to) c.args.before c.args.watch c.self.invariant c.self.view_is c.requires.lit.1 c.requires.to.1 differ c.requires.place c.cut.ensures c.put_first.ensures.heads c.put_first.ensures.next in
    done.lists.second

pub returns-clause-others : goal.returns-clause-others
returns-clause-others c = λ other low differs_lit differs_to.
    let differ = places_differ c.args.lit c.args.to c.requires.lit.0 c.requires.to.0 c.requires.different in
    let done = moved_from _ _ _ _ _ _ _ (place_of c.args.lit) (place_of c.args.to) c.args.before c.args.watch c.self.invariant c.self.view_is c.requires.lit.1 c.requires.to.1 differ c.requires.place c.cut.ensures c.put_first.ensures.heads c.put_first.ensures.next in
    done.lists.others (place_of other) (places_differ other c.args.lit low c.requires.lit.0 differs_lit) (places_differ other c.args.to low c.requires.to.0 differs_to)

pub returns-clause-literals : goal.returns-clause-literals
returns-clause-literals c =
    let differ = places_differ c.args.lit c.args.to c.requires.lit.0 c.requires.to.0 c.requires.different in
    let done = moved_from _ _ _ _ _ _ _ (place_of c.args.lit) (place_of c.args.to) c.args.before c.args.watch c.self.invariant c.self.view_is c.requires.lit.1 c.requires.to.1 differ c.requires.place c.cut.ensures c.put_first.ensures.heads c.put_first.ensures.next in
    done.lists.count

pub returns-clause-same_watches : goal.returns-clause-same_watches
returns-clause-same_watches c =
    let differ = places_differ c.args.lit c.args.to c.requires.lit.0 c.requires.to.0 c.requires.different in
    let done = moved_from _ _ _ _ _ _ _ (place_of c.args.lit) (place_of c.args.to) c.args.before c.args.watch c.self.invariant c.self.view_is c.requires.lit.1 c.requires.to.1 differ c.requires.place c.cut.ensures c.put_first.ensures.heads c.put_first.ensures.next in
    done.same_watches
