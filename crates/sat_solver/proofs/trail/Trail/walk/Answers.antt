use Rattle.std.proofs.Common.{◌<◌, Some, not, refl, sym, subst, ◌∙◌}
use Rattle.sat_links.specs.Watches.{IsListed, watches_of, place_of}
use Rattle.sat_links.proofs.Facts.{joined_has}
use Rattle.sat_solver.specs.Stores.{StoreState}
use Rattle.sat_solver.specs.Entries.{IsFalseIn, IsConflict}
use Rattle.sat_solver.specs.Pairing.{GoesOn, IsDone}
use Rattle.sat_solver.proofs.EntryLemmas.{value_kept}
use Rattle.sat_solver.proofs.PairingLemmas.{has_list}
use Rattle.sat_solver.proofs.WalkLemmas.{Walking, left_from, stands_at, walking_starts, walking_ends, walking_stays, walking_moves, stays_smaller, moves_smaller, goes_refl, goes_trans}
use Rattle.sat_solver.proofs.trail.Trail.walk.Goals as goal
use Rattle.sat_solver.proofs.trail.Trail.walk.Goals.{In-Some, After-visit}

pub first-at-requires : goal.first-at-requires
first-at-requires c = has_list c.args.self.now c.args.store.now c.args.lit c.requires.paired c.requires.falsified

pub watches-init : goal.watches-init
watches-init c = record {
  goes_on = goes_refl c.args.self.now c.args.store.now c.requires.paired;
  worked = refl;
  falsified = c.requires.falsified;
  walking = walking_starts c.args.self.now c.args.store.now c.args.lit c.first-at.result c.first-at.ensures;
}

-- the walk is at a watch
at_watch : (c : In-Some) → Walking c.watches.self c.watches.store c.args.lit c.watches.before (Some c.in-Some.watch)
at_watch c = subst (Walking c.watches.self c.watches.store c.args.lit c.watches.before) c.in-Some.is c.watches.invariant.walking

listed : (c : In-Some) → IsListed c.watches.store.lists c.args.lit
listed c = has_list c.watches.self c.watches.store c.args.lit c.watches.invariant.goes_on.paired c.watches.invariant.falsified

pub next-at-requires : goal.next-at-requires
next-at-requires c =
    let walking = at_watch (goal.at.next-at-requires c).In-Some in
    joined_has c.watches.store.lists (place_of c.args.lit) walking.place c.in-Some.watch (sym walking.next)

pub visit-requires-clause-watches : goal.visit-requires-clause-watches
visit-requires-clause-watches c =
    let body = (goal.at.visit-requires-clause-watches c).In-Some in
    let walking = at_watch body in
    c.watches.invariant.goes_on.paired.watching.listed c.args.lit c.in-Some.watch walking.place (listed body) (sym walking.next)

pub visit-requires-clause-place : goal.visit-requires-clause-place
visit-requires-clause-place c = stands_at (watches_of c.watches.store.lists c.args.lit) c.watches.before c.in-Some.watch (at_watch (goal.at.visit-requires-clause-place c).In-Some).place (sym (at_watch (goal.at.visit-requires-clause-place c).In-Some).next) (at_watch (goal.at.visit-requires-clause-place c).In-Some).previous

goes : (c : After-visit) → GoesOn c.args.self.now c.args.store.now c.visit.new.self c.visit.new.store
goes c = goes_trans c.args.self.now c.watches.self c.visit.new.self c.args.store.now c.watches.store c.visit.new.store c.watches.invariant.goes_on c.visit.ensures.goes_on

still_false : (c : After-visit) → IsFalseIn c.visit.new.self.entries c.args.lit
still_false c =
    subst (λ es. IsFalseIn es c.args.lit) (sym c.visit.ensures.goes_on.extends.prefix) (value_kept c.watches.self.entries c.visit.ensures.goes_on.extends.added c.args.lit.var (not c.args.lit.positive) c.watches.invariant.falsified)

pub watches-smaller-in-Stays : goal.watches-smaller-in-Stays
watches-smaller-in-Stays c =
    let body = (goal.at.watches-smaller-in-Stays c).In-Some in
    let more = c.visit.ensures.goes_on in
    let less = stays_smaller c.watches.self c.visit.new.self more.extends.added more.extends.prefix more.level c.watches.store c.watches.invariant.goes_on.paired.watching c.args.lit c.watches.before c.in-Some.watch c.next-at.result (listed body) (at_watch body) c.next-at.ensures in
    let at : left_from (watches_of c.watches.store.lists c.args.lit) c.next-at.result < left_from (watches_of c.watches.store.lists c.args.lit) c.watches.at = subst (λ o. left_from (watches_of c.watches.store.lists c.args.lit) c.next-at.result < left_from (watches_of c.watches.store.lists c.args.lit) o) (sym c.in-Some.is) less in
    subst (λ (s : StoreState). left_from (watches_of s.lists c.args.lit) c.next-at.result < left_from (watches_of c.watches.store.lists c.args.lit) c.watches.at) (sym c.in-Stays.ensures.visit.0) at

pub watches-preserved-in-Stays : goal.watches-preserved-in-Stays
watches-preserved-in-Stays c =
    let body = (goal.at.watches-preserved-in-Stays c).In-Some in
    let after = (goal.at.watches-preserved-in-Stays c).After-visit in
    let more = c.visit.ensures.goes_on in
    let same = c.in-Stays.ensures.visit.0 in
    let done : IsDone c.visit.new.self c.watches.store.pairs c.in-Some.watch = subst (λ (s : StoreState). IsDone c.visit.new.self s.pairs c.in-Some.watch) same c.in-Stays.ensures.visit.1 in
    let walking : Walking c.visit.new.self c.watches.store c.args.lit (Some c.in-Some.watch) c.next-at.result = walking_stays c.watches.self c.visit.new.self more.extends.added more.extends.prefix more.level c.watches.store c.watches.invariant.goes_on.paired.watching c.args.lit c.watches.before c.in-Some.watch c.next-at.result (listed body) (at_watch body) c.next-at.ensures done in
    record {
      goes_on = goes after;
      worked = c.visit.ensures.worked ∙ c.watches.invariant.worked;
      falsified = still_false after;
      walking = subst (λ s. Walking c.visit.new.self s c.args.lit (Some c.in-Some.watch) c.next-at.result) (sym same) walking;
    }

pub watches-smaller : goal.watches-smaller
watches-smaller c =
    let body = (goal.at.watches-smaller c).In-Some in
    let more = c.visit.ensures.goes_on in
    let less = moves_smaller c.watches.self c.visit.new.self more.extends.added more.extends.prefix more.level c.watches.store c.watches.invariant.goes_on.paired.watching c.args.lit c.watches.before c.in-Some.watch c.next-at.result (listed body) (at_watch body) c.next-at.ensures c.visit.new.store c.in-Moves.ensures.visit more.paired.watching in
    subst (λ o. left_from (watches_of c.visit.new.store.lists c.args.lit) c.next-at.result < left_from (watches_of c.watches.store.lists c.args.lit) o) (sym c.in-Some.is) less

pub watches-preserved : goal.watches-preserved
watches-preserved c =
    let body = (goal.at.watches-preserved c).In-Some in
    let after = (goal.at.watches-preserved c).After-visit in
    let more = c.visit.ensures.goes_on in
    record {
      goes_on = goes after;
      worked = c.visit.ensures.worked ∙ c.watches.invariant.worked;
      falsified = still_false after;
      walking = walking_moves c.watches.self c.visit.new.self more.extends.added more.extends.prefix more.level c.watches.store c.watches.invariant.goes_on.paired.watching c.args.lit c.watches.before c.in-Some.watch c.next-at.result (listed body) (at_watch body) c.next-at.ensures c.visit.new.store c.in-Moves.ensures.visit more.paired.watching;
    }

pub returns-in-Conflict-clause-goes_on : goal.returns-in-Conflict-clause-goes_on
returns-in-Conflict-clause-goes_on c = goes (goal.at.returns-in-Conflict-clause-goes_on c).After-visit

pub returns-in-Conflict-clause-conflict : goal.returns-in-Conflict-clause-conflict
returns-in-Conflict-clause-conflict c = subst (λ cs. IsConflict c.visit.new.self.entries cs c.in-Conflict.place) c.watches.invariant.goes_on.clauses c.in-Conflict.ensures.visit

pub returns-clause-done : goal.returns-clause-done
returns-clause-done c = walking_ends c.watches.self c.watches.store c.args.lit c.watches.before c.watches.at c.in_default.is c.watches.invariant.walking
