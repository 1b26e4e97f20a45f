-- What queues of variables and lists of watches tell. Crates above may cite these.
use Rattle.std.proofs.Common.{◌≡◌, ◌≢◌, ℕ, ◌+◌, ◌-◌, ◌*◌, ◌<◌, ◌≤◌, zero, suc, Bool, true, false, not, cond, List, [], ◌∷◌, ◌++◌, length, get_or, replicate, take, drop, slice_get, All, Contains, Some, refl, sym, ap, ◌∙◌, subst, arith}
use Rattle.std.proofs.lemmas.Bool.{false≢true}
use Rattle.std.proofs.lemmas.List.Elements.{Contains-append_left, Contains-append_right}
use Rattle.std.proofs.lemmas.List.FromFn.{length-range_with_len, get_or-range_with_len}
use Rattle.std.proofs.lemmas.List.Sorted.{length_permutation, All-permutation, Contains-permutation}
use Rattle.sat_clauses.specs.declared.literal.Lit.{Lit}
use Rattle.sat_links.specs.declared.watches.Watch.{Watch}
use Rattle.sat_links.specs.Queues.{variables, IsQueue}
use Rattle.sat_links.specs.Watches.{place_of, IsListed, joined, slots_of, HasClauses, same_watch, without}
use Rattle.sat_links.proofs.ApartLemmas.{Misses, Apart}
use Rattle.sat_links.proofs.WatchLemmas.{IsBelow, slots_below, length-slots_of, permuted_apart, apart_each, other_watch, same_itself, one_watch as tells}

-- a queue's length, and which variables it has
in_range : (vars : ℕ) → All (λ var. (1 ≤ var) × (var ≤ vars)) (variables vars)
in_range vars = λ k d within.
    let below : k < vars = subst (λ n. k < n) (length-range_with_len 1 vars) within in
    rw (get_or-range_with_len 1 vars k d below) (omega arith, omega arith)

pub queue_length : (vars : ℕ) (queue : List ℕ) → IsQueue vars queue → length queue ≡ vars
queue_length vars queue is = length_permutation (variables vars) queue is ∙ length-range_with_len 1 vars

pub queue_in_range : (vars : ℕ) (queue : List ℕ) → IsQueue vars queue → All (λ var. (1 ≤ var) × (var ≤ vars)) queue
queue_in_range vars queue is = All-permutation (λ var. (1 ≤ var) × (var ≤ vars)) (variables vars) queue is (in_range vars)

pub queue_has : (vars : ℕ) (queue : List ℕ) (var : ℕ) → IsQueue vars queue → 1 ≤ var → var ≤ vars → Contains queue var
queue_has vars queue var is low high = Contains-permutation (variables vars) queue var is (var - 1, rw (length-range_with_len 1 vars) (omega arith), get_or-range_with_len 1 vars (var - 1) var (omega arith) ∙ omega arith)

-- literals with lists, and the places of their lists
places : (v u : ℕ) (s t : Bool) → 1 ≤ v → 1 ≤ u → 2 * (v - 1) + cond s 0 1 ≡ 2 * (u - 1) + cond t 0 1 → (v ≡ u) × (s ≡ t)
places v u true true low high e = (omega arith, refl)
places v u true false low high e = absurd (omega arith)
places v u false true low high e = absurd (omega arith)
places v u false false low high e = (omega arith, refl)

pub places_differ : (a b : Lit) → 1 ≤ a.var → 1 ≤ b.var → a ≢ b → place_of a ≢ place_of b
places_differ a b low high differs e = let same = places a.var b.var a.positive b.positive low high e in differs (λ j. record { var = same.0 j; positive = same.1 j })

place_within : (vars v : ℕ) (s : Bool) → 1 ≤ v → v ≤ vars → 2 * (v - 1) + cond s 0 1 < 2 * vars
place_within vars v true low high = omega arith
place_within vars v false low high = omega arith

pub is_listed : (vars : ℕ) (lists : List (List Watch)) (lit : Lit) → length lists ≡ 2 * vars → 1 ≤ lit.var → lit.var ≤ vars → IsListed lists lit
is_listed vars lists lit count low high = (low, subst (λ n. place_of lit < n) (sym count) (place_within vars lit.var lit.positive low high))

-- the watches of clauses, and a list without one of its watches
pub watches_below : (clauses : ℕ) (lists : List (List Watch)) → HasClauses clauses lists → All (λ w. (w.clause < clauses) × (w.slot < 2)) (joined lists)
watches_below clauses lists watches = All-permutation (IsBelow clauses) (slots_of clauses) (joined lists) watches (slots_below clauses)

split_at : (list : List Watch) (k : ℕ) (w : Watch) → slice_get list k ≡ Some w → list ≡ take k list ++ w ∷ drop (suc k) list
split_at [] k w at = cc
split_at (x ∷ xs) zero w at = let same : x ≡ w = cc in ap (λ y. y ∷ xs) same
split_at (x ∷ xs) (suc k) w at = ap (λ l. x ∷ l) (split_at xs k w at)

-- the lists joined have the watches of each
contains_got : (list : List Watch) (k : ℕ) (w : Watch) → slice_get list k ≡ Some w → Contains list w
contains_got [] k w at = cc
contains_got (x ∷ xs) zero w at = let same : x ≡ w = cc in (0, omega arith, same)
contains_got (x ∷ xs) (suc k) w at = let rest = contains_got xs k w at in (suc rest.0, omega (arith, rest.1), rest.2)

pub joined_has : (lists : List (List Watch)) (place k : ℕ) (w : Watch) → slice_get (get_or lists place []) k ≡ Some w → Contains (joined lists) w
joined_has [] place k w at = cc
joined_has (list ∷ lists) zero k w at = Contains-append_left list (joined lists) w (contains_got list k w at)
joined_has (list ∷ lists) (suc place) k w at = Contains-append_right list (joined lists) w (joined_has lists place k w at)

-- lists have the slots of one number of clauses
pub one_count : (a b : ℕ) (lists : List (List Watch)) → HasClauses a lists → HasClauses b lists → a ≡ b
one_count a b lists first second =
    omega (arith, length-slots_of a, length-slots_of b, length_permutation (slots_of a) (joined lists) first, length_permutation (slots_of b) (joined lists) second)

-- the test of two watches tells whether they are one
pub one_watch : (a b : Watch) → same_watch a b ≡ true → a ≡ b
one_watch a b e = tells a b e

pub watch_itself : (a : Watch) → same_watch a a ≡ true
watch_itself a = same_itself a

-- each watch stands once in a list
missed : (x : Watch) (ys : List Watch) (k : ℕ) → Misses x ys → slice_get ys k ≡ Some x → ⊥
missed x [] k misses at = cc
missed x (y ∷ ys) zero misses at = let same : y ≡ x = cc in misses.0 (sym same)
missed x (y ∷ ys) (suc k) misses at = missed x ys k misses.1 at

stands_once : (list : List Watch) → Apart list → (i j : ℕ) (w : Watch) → slice_get list i ≡ Some w → slice_get list j ≡ Some w → i ≡ j
stands_once [] apart i j w p q = cc
stands_once (x ∷ xs) apart zero zero w p q = refl
stands_once (x ∷ xs) apart zero (suc j) w p q = let same : x ≡ w = cc in absurd (missed x xs j apart.0 (q ∙ ap Some (sym same)))
stands_once (x ∷ xs) apart (suc i) zero w p q = let same : x ≡ w = cc in absurd (missed x xs i apart.0 (p ∙ ap Some (sym same)))
stands_once (x ∷ xs) apart (suc i) (suc j) w p q = ap suc (stands_once xs apart.1 i j w p q)

pub once : (clauses : ℕ) (lists : List (List Watch)) (place : ℕ) → HasClauses clauses lists → (i j : ℕ) (w : Watch) → slice_get (get_or lists place []) i ≡ Some w → slice_get (get_or lists place []) j ≡ Some w → i ≡ j
once clauses lists place watches = stands_once (get_or lists place []) (apart_each lists place (permuted_apart clauses (joined lists) watches))

-- a list without one of its watches: those before it stay at their places, and those behind it move up
pub record Lost (list left : List Watch) (k : ℕ) : Type 0 where
  pub before : (j : ℕ) → j < k → slice_get left j ≡ slice_get list j
  pub behind : (j : ℕ) → k ≤ j → slice_get left j ≡ slice_get list (suc j)
  pub count : suc (length left) ≡ length list

abbrev StandsOnce : List Watch → Type 0
StandsOnce list = (i j : ℕ) (w : Watch) → slice_get list i ≡ Some w → slice_get list j ≡ Some w → i ≡ j

missing : (list : List Watch) (w : Watch) → ((j : ℕ) → slice_get list j ≢ Some w) → without w list ≡ list
missing [] w none = refl
missing (x ∷ xs) w none = rw (other_watch w x (λ e. none 0 (ap Some (sym e)))) (ap (λ l. x ∷ l) (missing xs w (λ j. none (suc j))))

lost_at : (list : List Watch) (w : Watch) (k : ℕ) → StandsOnce list → slice_get list k ≡ Some w → Lost list (without w list) k
lost_at [] w k once at = cc
lost_at (x ∷ xs) w zero once at =
    let same : x ≡ w = cc in
    let gone : without w (x ∷ xs) ≡ xs = rw (ap (same_watch w) same ∙ same_itself w) (missing xs w (λ j there. let e = once (suc j) 0 w there at in omega arith)) in
    subst (λ left. Lost (x ∷ xs) left 0) (sym gone) (record { before = λ j h. absurd (omega arith); behind = λ j h. refl; count = refl })
lost_at (x ∷ xs) w (suc k) once at =
    let rest = lost_at xs w k (λ i j v p q. let e = once (suc i) (suc j) v p q in omega arith) at in
    let kept : without w (x ∷ xs) ≡ x ∷ without w xs = rw (other_watch w x (λ e. let clash = once (suc k) 0 w at (ap Some (sym e)) in omega arith)) refl in
    subst (λ left. Lost (x ∷ xs) left (suc k)) (sym kept) (more rest)
  where
    more : {left : List Watch} → Lost xs left k → Lost (x ∷ xs) (x ∷ left) (suc k)
    more {left} lost = record { before = before; behind = behind; count = ap suc lost.count }
      where
        before : (j : ℕ) → j < suc k → slice_get (x ∷ left) j ≡ slice_get (x ∷ xs) j
        before zero h = refl
        before (suc j) h = lost.before j (omega arith)

        behind : (j : ℕ) → suc k ≤ j → slice_get (x ∷ left) j ≡ slice_get (x ∷ xs) (suc j)
        behind zero h = absurd (omega arith)
        behind (suc j) h = lost.behind j (omega arith)

pub lost : (clauses : ℕ) (lists : List (List Watch)) (place k : ℕ) (w : Watch) → HasClauses clauses lists → slice_get (get_or lists place []) k ≡ Some w → Lost (get_or lists place []) (without w (get_or lists place [])) k
lost clauses lists place k w watches at = lost_at (get_or lists place []) w k (once clauses lists place watches) at

-- a watch of a list stands in it without another one, and the other way round
pub stays_without : (list : List Watch) (out w : Watch) (k : ℕ) → out ≢ w → slice_get list k ≡ Some w → (j : ℕ) × (slice_get (without out list) j ≡ Some w)
stays_without [] out w k differs at = cc
stays_without (x ∷ xs) out w zero differs at = let same : x ≡ w = cc in (0, rw (other_watch out x (λ e. differs (e ∙ same))) at)
stays_without (x ∷ xs) out w (suc k) differs at = by (same_watch out x) (stays_without xs out w k differs at)
  where
    by : (b : Bool) → (j : ℕ) × (slice_get (without out xs) j ≡ Some w) → (j : ℕ) × (slice_get (cond (not b) (x ∷ without out xs) (without out xs)) j ≡ Some w)
    by true there = there
    by false there = (suc there.0, there.1)

pub was_with : (list : List Watch) (out w : Watch) (k : ℕ) → slice_get (without out list) k ≡ Some w → (out ≢ w) × ((j : ℕ) × (slice_get list j ≡ Some w))
was_with [] out w k at = cc
was_with (x ∷ xs) out w k at = by (same_watch out x) refl (was_with xs out w) k at
  where
    by : (b : Bool) → same_watch out x ≡ b → ((k : ℕ) → slice_get (without out xs) k ≡ Some w → (out ≢ w) × ((j : ℕ) × (slice_get xs j ≡ Some w))) → (k : ℕ) → slice_get (cond (not b) (x ∷ without out xs) (without out xs)) k ≡ Some w → (out ≢ w) × ((j : ℕ) × (slice_get (x ∷ xs) j ≡ Some w))
    by true e rest_of k at = let rest = rest_of k at in (rest.0, (suc rest.1.0, rest.1.1))
    by false e rest_of zero at = let same : x ≡ w = cc in (λ eq. false≢true (sym e ∙ ap (same_watch out) (same ∙ sym eq) ∙ same_itself out), (0, at))
    by false e rest_of (suc k) at = let rest = rest_of k at in (rest.0, (suc rest.1.0, rest.1.1))

-- lists without watches, and such lists at the end of others
pub no_watches : (count place : ℕ) → get_or (replicate {A = List Watch} count []) place [] ≡ []
no_watches zero place = refl
no_watches (suc count) zero = refl
no_watches (suc count) (suc place) = no_watches count place

pub joined_none : (count : ℕ) → joined (replicate {A = List Watch} count []) ≡ []
joined_none zero = refl
joined_none (suc count) = joined_none count

pub more_lists : (count : ℕ) (lists : List (List Watch)) (place : ℕ) → get_or (lists ++ replicate count []) place [] ≡ get_or lists place []
more_lists count [] place = no_watches count place
more_lists count (l ∷ ls) zero = refl
more_lists count (l ∷ ls) (suc place) = more_lists count ls place

pub joined_more : (count : ℕ) (lists : List (List Watch)) → joined (lists ++ replicate count []) ≡ joined lists
joined_more count [] = joined_none count
joined_more count (l ∷ ls) = ap (λ rest. l ++ rest) (joined_more count ls)
