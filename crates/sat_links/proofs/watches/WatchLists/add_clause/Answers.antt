use Rattle.std.proofs.Common.{arith}
use Rattle.sat_links.specs.Watches.{place_of}
use Rattle.sat_links.proofs.Facts.{places_differ}
use Rattle.sat_links.proofs.MoveLemmas.{added_from}
use Rattle.sat_links.proofs.watches.WatchLists.add_clause.Goals as goal

pub invariant_of-self-2 : goal.invariant_of-self-2
invariant_of-self-2 c =
    let differ = places_differ c.args.first c.args.second c.requires.first.0 c.requires.second.0 c.requires.different in
    let done = added_from _ _ _ _ _ _ _ _ _ (place_of c.args.first) (place_of c.args.second) c.len-clause.result c.self.invariant c.self.view_is c.requires.first.1 c.requires.second.1 differ (omega (arith, c.len-clause.ensures, c.self.inside.links.next.ok.0)) c.in_ok-push.ensures.items c.put_first.ensures.heads c.put_first.ensures.next c.put_first-2.ensures.heads c.put_first-2.ensures.next in
    done.linked

pub returns-clause-first : goal.returns-clause-first
returns-clause-first c =
    let differ = places_differ c.args.first c.args.second c.requires.first.0 c.requires.second.0 c.requires.different in
    let done = added_from _ _ _ _ _ _ _ _ _ (place_of c.args.first) (place_of c.args.second) c.len-clause.result c.self.invariant c.self.view_is c.requires.first.1 c.requires.second.1 differ (omega (arith, c.len-clause.ensures, c.self.inside.links.next.ok.0)) c.in_ok-push.ensures.items c.put_first.ensures.heads c.put_first.ensures.next c.put_first-2.ensures.heads c.put_first-2.ensures.next in
    done.lists.first

pub returns-clause-second : goal.returns-clause-second
returns-clause-second c =
    let differ = places_differ c.args.first c.args.second c.requires.first.0 c.requires.second.0 c.requires.different in
    let done = added_from _ _ _ _ _ _ _ _ _ (place_of c.args.first) (place_of c.args.second) c.len-clause.result c.self.invariant c.self.view_is c.requires.first.1 c.requires.second.1 differ (omega (arith, c.len-clause.ensures, c.self.inside.links.next.ok.0)) c.in_ok-push.ensures.items c.put_first.ensures.heads c.put_first.ensures.next c.put_first-2.ensures.heads c.put_first-2.ensures.next in
    done.lists.second

pub returns-clause-others : goal.returns-clause-others
returns-clause-others c = λ other low differs_first differs_second.
    let differ = places_differ c.args.first c.args.second c.requires.first.0 c.requires.second.0 c.requires.different in
    let done = added_from _ _ _ _ _ _ _ _ _ (place_of c.args.first) (place_of c.args.second) c.len-clause.result c.self.invariant c.self.view_is c.requires.first.1 c.requires.second.1 differ (omega (arith, c.len-clause.ensures, c.self.inside.links.next.ok.0)) c.in_ok-push.ensures.items c.put_first.ensures.heads c.put_first.ensures.next c.put_first-2.ensures.heads c.put_first-2.ensures.next in
    done.lists.others (place_of other) (places_differ other c.args.first low c.requires.first.0 differs_first) (places_differ other c.args.second low c.requires.second.0 differs_second)

pub returns-clause-literals : goal.returns-clause-literals
returns-clause-literals c =
    let differ = places_differ c.args.first c.args.second c.requires.first.0 c.requires.second.0 c.requires.different in
    let done = added_from _ _ _ _ _ _ _ _ _ (place_of c.args.first) (place_of c.args.second) c.len-clause.result c.self.invariant c.self.view_is c.requires.first.1 c.requires.second.1 differ (omega (arith, c.len-clause.ensures, c.self.inside.links.next.ok.0)) c.in_ok-push.ensures.items c.put_first.ensures.heads c.put_first.ensures.next c.put_first-2.ensures.heads c.put_first-2.ensures.next in
    done.lists.count

pub returns-clause-each_once : goal.returns-clause-each_once
returns-clause-each_once c =
    let differ = places_differ c.args.first c.args.second c.requires.first.0 c.requires.second.0 c.requires.different in
    let done = added_from _ _ _ _ _ _ _ _ _ (place_of c.args.first) (place_of c.args.second) c.len-clause.result c.self.invariant c.self.view_is c.requires.first.1 c.requires.second.1 differ (omega (arith, c.len-clause.ensures, c.self.inside.links.next.ok.0)) c.in_ok-push.ensures.items c.put_first.ensures.heads c.put_first.ensures.next c.put_first-2.ensures.heads c.put_first-2.ensures.next in
    done.watches
