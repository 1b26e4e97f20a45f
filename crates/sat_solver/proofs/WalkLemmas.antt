-- A walk over the watches of a literal.
use Rattle.std.proofs.Common.{◌≡◌, ◌≢◌, ℕ, zero, suc, ◌+◌, ◌-◌, ◌<◌, ◌≤◌, Bool, true, false, cond, eqb, List, [], ◌∷◌, ◌++◌, Option, None, Some, length, slice_get, refl, sym, ap, subst, ◌∙◌, inl, inr, ◌⊎◌, arith}
use Rattle.std.proofs.lemmas.Bool.{cases_lt}
use Rattle.std.proofs.lemmas.Option.{same_Some, slice_get_within}
use Rattle.sat_clauses.specs.declared.literal.Lit.{Lit}
use Rattle.sat_links.specs.declared.watches.Watch.{Watch}
use Rattle.sat_links.specs.Watches.{watches_of, without, same_watch, StandsAfter, Follows, IsListed, place_of}
use Rattle.sat_links.proofs.Facts.{Lost, lost, once, one_watch, watch_itself}
use Rattle.sat_solver.specs.declared.entry.Entry.{Entry}
use Rattle.sat_solver.specs.declared.pair.Pair.{Pair}
use Rattle.sat_solver.specs.Stores.{StoreState}
use Rattle.sat_solver.specs.Watching.{watched, guard, Watches, IsWatching}
use Rattle.sat_solver.specs.Entries.{Extends}
use Rattle.sat_solver.specs.Trails.{TrailState}
use Rattle.sat_solver.specs.Pairing.{IsMade, IsHeld, HoldsFirst, IsDone, AllDone, GoesOn, Paired, Leaves}
use Rattle.sat_solver.proofs.PairingLemmas.{made_more, held_more}
use Rattle.sat_solver.proofs.ExtendLemmas.{extends_none, extends_join}
use Rattle.sat_solver.proofs.WatchingLemmas.{slot_cases, guard_other}

-- the watch before a place of a list, if there is one
abbrev IsBefore : List Watch → ℕ → Option Watch → Type 0
IsBefore list zero before = before ≡ None
IsBefore list (suc k) before = (watch : Watch) × (before ≡ Some watch) × (slice_get list k ≡ Some watch)

-- how many watches are left of a list from one on
pub left_from : List Watch → Option Watch → ℕ
left_from [] at = 0
left_from (x ∷ xs) None = 0
left_from (x ∷ xs) (Some w) = cond (same_watch w x) (suc (length xs)) (left_from xs (Some w))

-- the watches before a place of a literal's list are done
pub record Walking (trail : TrailState) (store : StoreState) (lit : Lit) (before at : Option Watch) : Type 0 where
  pub place : ℕ
  pub next : at ≡ slice_get (watches_of store.lists lit) place
  pub previous : IsBefore (watches_of store.lists lit) place before
  pub done : (k : ℕ) (watch : Watch) → k < place → slice_get (watches_of store.lists lit) k ≡ Some watch → IsDone trail store.pairs watch

pub past_end : {X : Type 0} (xs : List X) (k : ℕ) → None ≡ slice_get xs k → length xs ≤ k
past_end [] k e = omega arith
past_end (x ∷ xs) zero e = cc
past_end (x ∷ xs) (suc k) e = let rest = past_end xs k e in omega arith

none_left : (list : List Watch) → left_from list None ≡ 0
unfolding left_from
none_left [] = refl
none_left (x ∷ xs) = refl

left_at : (list : List Watch) → ((i j : ℕ) (w : Watch) → slice_get list i ≡ Some w → slice_get list j ≡ Some w → i ≡ j) → (k : ℕ) (w : Watch) → slice_get list k ≡ Some w → left_from list (Some w) ≡ length list - k
unfolding left_from
left_at [] one k w at = cc
left_at (x ∷ xs) one zero w at = let same : x ≡ w = same_Some x w at in ap (λ b. cond b (suc (length xs)) (left_from xs (Some w))) (ap (same_watch w) same ∙ watch_itself w) ∙ omega arith
left_at (x ∷ xs) one (suc k) w at = by (same_watch w x) refl (left_at xs (λ i j v p q. let e = one (suc i) (suc j) v p q in omega arith) k w at)
  where
    by : (b : Bool) → same_watch w x ≡ b → left_from xs (Some w) ≡ length xs - k → cond b (suc (length xs)) (left_from xs (Some w)) ≡ suc (length xs) - suc k
    by true e rest = let clash = one (suc k) 0 w at (ap (λ v. Some v) (sym (one_watch w x e))) in absurd (omega arith)
    by false e rest = omega arith

left_get : (list : List Watch) → ((i j : ℕ) (w : Watch) → slice_get list i ≡ Some w → slice_get list j ≡ Some w → i ≡ j) → (k : ℕ) → left_from list (slice_get list k) ≡ length list - k
left_get list one k = by (slice_get list k) refl
  where
    by : (o : Option Watch) → slice_get list k ≡ o → left_from list o ≡ length list - k
    by None e = none_left list ∙ (let past = past_end list k (sym e) in omega arith)
    by (Some w) e = left_at list one k w e

-- a true literal stays true
pub done_later : (old new : TrailState) (added : List Entry) (pairs : List Pair) (watch : Watch) → new.entries ≡ old.entries ++ added → new.level ≡ old.level → IsDone old pairs watch → IsDone new pairs watch
done_later old new added pairs watch more level done = λ pair at.
    subst (λ n. IsMade new.entries (guard pair watch.slot) n) (sym level) (subst (λ es. IsMade es (guard pair watch.slot) old.level) (sym more) (made_more old.entries added (guard pair watch.slot) old.level (done pair at)))

-- a watch at a place stands right after the one before it
pub stands_at : (list : List Watch) (before : Option Watch) (watch : Watch) (place : ℕ) → slice_get list place ≡ Some watch → IsBefore list place before → StandsAfter list before watch
stands_at list before watch zero at is = subst (λ b. StandsAfter list b watch) (sym is) at
stands_at list before watch (suc k) at is = subst (λ b. StandsAfter list b watch) (sym is.1) (k, is.2, (let e : k + 1 ≡ suc k = omega arith in ap (slice_get list) e ∙ at))

-- a step that stays, and one that moves the watch
module _ (trail now : TrailState) (added : List Entry) (more : now.entries ≡ trail.entries ++ added) (level : now.level ≡ trail.level) (store : StoreState) (watching : IsWatching store) (lit : Lit) (before : Option Watch) (watch : Watch) (next : Option Watch)
    (listed : IsListed store.lists lit) (walking : Walking trail store lit before (Some watch)) (follows : Follows store.lists watch next) where
  here : slice_get (watches_of store.lists lit) walking.place ≡ Some watch
  here = sym walking.next

  next_is : next ≡ slice_get (watches_of store.lists lit) (walking.place + 1)
  next_is = follows lit walking.place here

  one : (i j : ℕ) (w : Watch) → slice_get (watches_of store.lists lit) i ≡ Some w → slice_get (watches_of store.lists lit) j ≡ Some w → i ≡ j
  one = once (length store.pairs) store.lists (place_of lit) watching.numbers

  watches_here : Watches store.pairs lit watch
  watches_here = watching.listed lit watch walking.place listed here

  pub walking_stays : IsDone now store.pairs watch → Walking now store lit (Some watch) next
  walking_stays done = record {
    place = suc walking.place;
    next = next_is ∙ ap (slice_get (watches_of store.lists lit)) (omega arith);
    previous = (watch, refl, here);
    done = λ k w h at. by k w at (cases_lt k walking.place) h;
  }
    where
      by : (k : ℕ) (w : Watch) → slice_get (watches_of store.lists lit) k ≡ Some w → (k < walking.place) ⊎ (walking.place ≤ k) → k < suc walking.place → IsDone now store.pairs w
      by k w at (inl below) h = done_later trail now added store.pairs w more level (walking.done k w below at)
      by k w at (inr past) h =
          let same_place : k ≡ walking.place = omega arith in
          let same : watch ≡ w = same_Some watch w (sym here ∙ ap (slice_get (watches_of store.lists lit)) (sym same_place) ∙ at) in
          subst (IsDone now store.pairs) same done

  pub stays_smaller : left_from (watches_of store.lists lit) next < left_from (watches_of store.lists lit) (Some watch)
  stays_smaller =
      let within = slice_get_within (watches_of store.lists lit) walking.place watch here in
      let before_is : left_from (watches_of store.lists lit) (Some watch) ≡ length (watches_of store.lists lit) - walking.place = left_at (watches_of store.lists lit) one walking.place watch here in
      let after_is : left_from (watches_of store.lists lit) next ≡ length (watches_of store.lists lit) - (walking.place + 1) = ap (left_from (watches_of store.lists lit)) next_is ∙ left_get (watches_of store.lists lit) one (walking.place + 1) in
      omega arith

  module _ (store_now : StoreState) (leaves : Leaves store store_now lit watch) (watching_now : IsWatching store_now) where
    lost_here : Lost (watches_of store.lists lit) (without watch (watches_of store.lists lit)) walking.place
    lost_here = lost (length store.pairs) store.lists (place_of lit) walking.place watch watching.numbers here

    -- another watch of the list is of another clause
    apart : (k : ℕ) (w : Watch) → k < walking.place → slice_get (watches_of store.lists lit) k ≡ Some w → w.clause ≢ watch.clause
    apart k w below at = λ e.
        let is = watching.listed lit w k listed at in
        let there = watches_here in
        let same : is.pair ≡ there.pair = same_Some is.pair there.pair (sym is.found ∙ ap (slice_get store.pairs) e ∙ there.found) in
        let pair_of = watching.paired watch.clause there.pair there.found in
        elim (slot_cases watch.slot w.slot there.slot is.slot) [
          | inl slots ↦ (let equal : w ≡ watch = (λ j. record { clause = e j; slot = sym slots j }) in let clash = one k walking.place watch (at ∙ ap (λ v. Some v) equal) here in omega arith)
          | inr other ↦ both_one there.pair watch.slot pair_of.differ there.is (sym (guard_other there.pair watch.slot w.slot other) ∙ ap (λ p. watched p w.slot) (sym same) ∙ is.is)
        ]
      where
        both_one : (pair : Pair) (slot : ℕ) → pair.first ≢ pair.second → watched pair slot ≡ lit → guard pair slot ≡ lit → ⊥
        both_one pair slot differ p q = by (eqb slot 0) p q
          where
            by : (b : Bool) → cond b pair.first pair.second ≡ lit → cond b pair.second pair.first ≡ lit → ⊥
            by true p q = differ (p ∙ sym q)
            by false p q = differ (q ∙ sym p)

    left_list : (k : ℕ) → slice_get (watches_of store_now.lists lit) k ≡ slice_get (without watch (watches_of store.lists lit)) k
    left_list k = ap (λ ls. slice_get ls k) leaves.list

    pub walking_moves : Walking now store_now lit before next
    walking_moves = record {
      place = walking.place;
      next = next_is ∙ ap (slice_get (watches_of store.lists lit)) (omega arith) ∙ sym (lost_here.behind walking.place (omega arith)) ∙ sym (left_list walking.place);
      previous = previous walking.place (λ j h. lost_here.before j h) walking.previous;
      done = λ k w h at.
          let was : slice_get (watches_of store.lists lit) k ≡ Some w = sym (lost_here.before k h) ∙ sym (left_list k) ∙ at in
          let old = done_later trail now added store.pairs w more level (walking.done k w h was) in
          (λ pair found. old pair (sym (leaves.pairs w.clause (apart k w h was)) ∙ found));
    }
      where
        previous : (place : ℕ) → ((j : ℕ) → j < place → slice_get (without watch (watches_of store.lists lit)) j ≡ slice_get (watches_of store.lists lit) j) → IsBefore (watches_of store.lists lit) place before → IsBefore (watches_of store_now.lists lit) place before
        previous zero same is = is
        previous (suc k) same is = (is.0, is.1, left_list k ∙ same k (omega arith) ∙ is.2)

    pub moves_smaller : left_from (watches_of store_now.lists lit) next < left_from (watches_of store.lists lit) (Some watch)
    unfolding walking_moves
    moves_smaller =
        let within = slice_get_within (watches_of store.lists lit) walking.place watch here in
        let before_is : left_from (watches_of store.lists lit) (Some watch) ≡ length (watches_of store.lists lit) - walking.place = left_at (watches_of store.lists lit) one walking.place watch here in
        let one_now : (i j : ℕ) (w : Watch) → slice_get (watches_of store_now.lists lit) i ≡ Some w → slice_get (watches_of store_now.lists lit) j ≡ Some w → i ≡ j = once (length store_now.pairs) store_now.lists (place_of lit) watching_now.numbers in
        let after_is : left_from (watches_of store_now.lists lit) next ≡ length (watches_of store_now.lists lit) - walking.place = ap (left_from (watches_of store_now.lists lit)) walking_moves.next ∙ left_get (watches_of store_now.lists lit) one_now walking.place in
        let fewer : suc (length (watches_of store_now.lists lit)) ≡ length (watches_of store.lists lit) = ap (λ ls. suc (length ls)) leaves.list ∙ lost_here.count in
        omega arith

pub walking_starts : (trail : TrailState) (store : StoreState) (lit : Lit) (at : Option Watch) → at ≡ slice_get (watches_of store.lists lit) 0 → Walking trail store lit None at
walking_starts trail store lit at e = record { place = 0; next = e; previous = refl; done = λ k w h _. absurd (omega arith) }

pub walking_ends : (trail : TrailState) (store : StoreState) (lit : Lit) (before at : Option Watch) → at ≡ None → Walking trail store lit before at → AllDone trail store lit
walking_ends trail store lit before at none walking = λ k w there. walking.done k w (omega (arith, slice_get_within (watches_of store.lists lit) k w there, past_end (watches_of store.lists lit) walking.place (sym none ∙ walking.next))) there

-- trails that go on
pub goes_refl : (trail : TrailState) (store : StoreState) → Paired trail store → GoesOn trail store trail store
goes_refl trail store paired = record {
  extends = extends_none store.clauses trail.level trail.entries;
  level = refl;
  vars = refl;
  worked = omega arith;
  clauses = refl;
  short = refl;
  paired = paired;
}

pub goes_trans : (a b c : TrailState) (s t u : StoreState) → GoesOn a s b t → GoesOn b t c u → GoesOn a s c u
goes_trans a b c s t u first second = record {
  extends = extends_join s.clauses a.level a.entries b.entries c.entries first.extends (subst (λ n. Extends s.clauses n b.entries c.entries) first.level (subst (λ cs. Extends cs b.level b.entries c.entries) first.clauses second.extends));
  level = second.level ∙ first.level;
  vars = second.vars ∙ first.vars;
  worked = omega (arith, first.worked, second.worked);
  clauses = second.clauses ∙ first.clauses;
  short = second.short ∙ first.short;
  paired = second.paired;
}

-- what was held stays so
pub holds_on : (a b : TrailState) (s t : StoreState) (count : ℕ) → GoesOn a s b t → HoldsFirst count a.entries s a.level → HoldsFirst count b.entries t b.level
holds_on a b s t count goes holds = λ k place h at.
    let held = holds k place h (ap (λ ss. slice_get ss k) (sym goes.short) ∙ at) in
    subst (λ n. IsHeld b.entries t.clauses n place) (sym goes.level) (subst (λ cs. IsHeld b.entries cs a.level place) (sym goes.clauses) (subst (λ es. IsHeld es s.clauses a.level place) (sym goes.extends.prefix) (held_more a.entries goes.extends.added s.clauses a.level place held)))
