-- A walk back along a ring, past variables that have values.
use Rattle.std.proofs.Common.{◌≡◌, ◌≢◌, ℕ, zero, suc, ◌+◌, ◌<◌, ◌≤◌, Bool, false, not, cond, eqb, List, [], ◌∷◌, ◌++◌, length, get_or, slice_get, All, Contains, Option, None, Some, IsSome, refl, sym, ap, ◌∙◌, subst, arith}
use Rattle.std.specs.Option.{is_some}
use Rattle.std.proofs.lemmas.Bool.{eq-eqb, ne_eqb}
use Rattle.std.proofs.lemmas.List.{append_assoc, get_or_at, get_or_read, length-append, append-nil}
use Rattle.std.proofs.lemmas.List.Elements.{All-nil, All-cons, All-contains}
use Rattle.sat_links.specs.Queues.{IsQueue, value_of, HasValue, IsLastFree}
use Rattle.sat_links.specs.Rings.{ring_of, Leads, IsRing}
use Rattle.sat_links.proofs.ApartLemmas.{Misses, Apart, Misses-parts}
use Rattle.sat_links.proofs.PathLemmas.{last_or, differs_from_last, Leads-parts, previous_is}
use Rattle.sat_links.proofs.Facts.{queue_length, queue_in_range}
use Rattle.sat_links.proofs.RingLemmas.{queue_apart, Placed, placed}

-- how many numbers of a list stand before a number
pub place_of : ℕ → List ℕ → ℕ
place_of at [] = zero
place_of at (x ∷ xs) = cond (eqb x at) zero (suc (place_of at xs))

place_of_last : (none : ℕ) (xs ys : List ℕ) → Apart (none ∷ (xs ++ ys)) → place_of (last_or none xs) (none ∷ (xs ++ ys)) ≡ length xs
unfolding place_of
place_of_last none [] ys apart = rw (eq-eqb none none refl) refl
place_of_last none (x ∷ xs) ys apart =
    let parts = Misses-parts none (x ∷ xs) ys apart.0 in
    rw (ne_eqb none (last_or x xs) (differs_from_last none x xs parts.0.0 parts.0.1)) (ap suc (place_of_last x xs ys apart.1))

-- the variables after the last one of a front have values; no variable is left in front where that number is 0
pub record Seen (values : List (Option Bool)) (queue : List ℕ) (at : ℕ) : Type 0 where
  pub front : List ℕ
  pub back : List ℕ
  pub place : queue ≡ front ++ back
  pub at_last : at ≡ last_or 0 front
  pub valued : All (HasValue values) back

-- a variable of the queue after which all have values
pub record Reached (values : List (Option Bool)) (queue : List ℕ) (at : ℕ) : Type 0 where
  pub before : List ℕ
  pub after : List ℕ
  pub place : queue ≡ before ++ at ∷ after
  pub valued : All (HasValue values) after

pub seen_none : (values : List (Option Bool)) (previous next : List ℕ) (at : ℕ) → IsRing previous next → at ≡ get_or previous 0 at → Seen values (ring_of next) at
seen_none values previous next at ring at_is =
    let within : 0 < length previous = omega (arith, ring.all_before) in
    record {
      front = ring_of next;
      back = [];
      place = sym (append-nil (ring_of next));
      at_last = get_or_read previous 0 at within at_is 0 ∙ previous_is previous next 0 (ring_of next) 0 ring.ring;
      valued = All-nil (HasValue values);
    }

ends : (x : ℕ) (xs : List ℕ) → (before : List ℕ) × (x ∷ xs ≡ before ++ last_or x xs ∷ [])
ends x [] = ([], refl)
ends x (y ∷ ys) = let rest = ends y ys in (x ∷ rest.0, ap (λ l. x ∷ l) rest.1)

reached_by : (values : List (Option Bool)) (queue front back : List ℕ) (at : ℕ) → queue ≡ front ++ back → at ≡ last_or 0 front → All (HasValue values) back → at ≢ 0 → Reached values queue at
reached_by values queue [] back at place at_last valued some = absurd (some at_last)
reached_by values queue (x ∷ xs) back at place at_last valued some =
    let split = ends x xs in
    record {
      before = split.0;
      after = back;
      place = place ∙ ap (λ l. l ++ back) split.1 ∙ append_assoc split.0 (last_or x xs ∷ []) back ∙ ap (λ y. split.0 ++ y ∷ back) (sym at_last);
      valued = valued;
    }

pub reached : (values : List (Option Bool)) (queue : List ℕ) (at : ℕ) → Seen values queue at → at ≢ 0 → Reached values queue at
reached values queue at seen some = reached_by values queue seen.front seen.back at seen.place seen.at_last seen.valued some

contains_middle : (before after : List ℕ) (at : ℕ) → Contains (before ++ at ∷ after) at
contains_middle before after at = (length before, omega (arith, length-append before (at ∷ after)), get_or_at before at after at (length before) refl)

pub reached_contains : (values : List (Option Bool)) (queue : List ℕ) (at : ℕ) → Reached values queue at → Contains queue at
reached_contains values queue at r = subst (λ q. Contains q at) (sym r.place) (contains_middle r.before r.after at)

pub reached_within : (values : List (Option Bool)) (previous next : List ℕ) (at : ℕ) → IsRing previous next → Reached values (ring_of next) at → (1 ≤ at) × (at ≤ length (ring_of next)) × (at < length previous)
reached_within values previous next at ring r =
    let both = All-contains (λ var. (1 ≤ var) × (var ≤ ring.vars)) (ring_of next) at (queue_in_range ring.vars (ring_of next) ring.queue) (reached_contains values (ring_of next) at r) in
    let count = queue_length ring.vars (ring_of next) ring.queue in
    (both.0, omega (arith, both.1, count), omega (arith, both.1, ring.all_before))

pub reached_free : (values : List (Option Bool)) (queue : List ℕ) (at : ℕ) → Reached values queue at → value_of values at ≡ None → IsLastFree values queue at
reached_free values queue at r free = record { before = r.before; after = r.after; place = r.place; free = free; valued = r.valued }

-- the next variable back
reached_front : (values : List (Option Bool)) (previous next : List ℕ) (at back : ℕ) → IsRing previous next → (r : Reached values (ring_of next) at) → back ≡ get_or previous at back → back ≡ last_or 0 r.before
reached_front values previous next at back ring r back_is =
    let within = reached_within values previous next at ring r in
    let way : Leads previous next 0 (r.before ++ at ∷ r.after) 0 = subst (λ l. Leads previous next 0 l 0) r.place ring.ring in
    get_or_read previous at back within.2 back_is 0 ∙ previous_is previous next 0 r.before at (Leads-parts previous next 0 r.before at r.after 0 way).0

pub seen_more : (values : List (Option Bool)) (previous next : List ℕ) (at back : ℕ) → IsRing previous next → Reached values (ring_of next) at → HasValue values at → back ≡ get_or previous at back → Seen values (ring_of next) back
seen_more values previous next at back ring r has back_is = record {
  front = r.before;
  back = at ∷ r.after;
  place = r.place;
  at_last = reached_front values previous next at back ring r back_is;
  valued = All-cons (HasValue values) at r.after has r.valued;
}

pub place_falls : (values : List (Option Bool)) (previous next : List ℕ) (at back : ℕ) → IsRing previous next → Reached values (ring_of next) at → back ≡ get_or previous at back → place_of back (0 ∷ ring_of next) < place_of at (0 ∷ ring_of next)
place_falls values previous next at back ring r back_is =
    let apart : Apart (0 ∷ (r.before ++ at ∷ r.after)) = subst (λ q. Apart (0 ∷ q)) r.place (queue_apart ring.vars (ring_of next) ring.queue) in
    let front = reached_front values previous next at back ring r back_is in
    let here : place_of back (0 ∷ ring_of next) ≡ length r.before = rw (r.place, front) (place_of_last 0 r.before (at ∷ r.after) apart) in
    let same : r.before ++ at ∷ r.after ≡ (r.before ++ at ∷ []) ++ r.after = sym (append_assoc r.before (at ∷ []) r.after) in
    let there : place_of at (0 ∷ ring_of next) ≡ length (r.before ++ at ∷ []) =
    ap (λ q. place_of at (0 ∷ q)) (r.place ∙ same) ∙ ap (λ x. place_of x (0 ∷ ((r.before ++ at ∷ []) ++ r.after))) (sym (last_of_push 0 r.before at)) ∙ place_of_last 0 (r.before ++ at ∷ []) r.after (subst (λ q. Apart (0 ∷ q)) same apart) in
    omega (arith, here, there, length-append r.before (at ∷ []))
  where
    last_of_push : (none : ℕ) (xs : List ℕ) (x : ℕ) → last_or none (xs ++ x ∷ []) ≡ x
    last_of_push none [] x = refl
    last_of_push none (y ∷ xs) x = last_of_push y xs x

-- back at 0 all have values
all_by : (values : List (Option Bool)) (vars : ℕ) (queue front back : List ℕ) → IsQueue vars queue → queue ≡ front ++ back → 0 ≡ last_or 0 front → All (HasValue values) back → All (HasValue values) queue
all_by values vars queue [] back is place at_last valued = subst (All (HasValue values)) (sym place) valued
all_by values vars queue (x ∷ xs) back is place at_last valued =
    let misses : Misses 0 ((x ∷ xs) ++ back) = subst (Misses 0) place (queue_apart vars queue is).0 in
    let front = Misses-parts 0 (x ∷ xs) back misses in
    absurd (differs_from_last 0 x xs front.0.0 front.0.1 at_last)

pub seen_all : (values : List (Option Bool)) (previous next : List ℕ) (at : ℕ) → IsRing previous next → Seen values (ring_of next) at → at ≡ 0 → All (HasValue values) (ring_of next)
seen_all values previous next at ring seen end = all_by values ring.vars (ring_of next) seen.front seen.back ring.queue seen.place (sym end ∙ seen.at_last) seen.valued

-- what a test of a value tells
pub none_from_test : (value : Option Bool) → is_some value ≡ false → value ≡ None
none_from_test None e = refl
none_from_test (Some b) e = cc

pub has_from_test : (value : Option Bool) (none : Bool) → is_some value ≡ not none → none ≡ false → IsSome value
has_from_test value none is e = is ∙ ap not e

-- what the links tell of the number before a variable
got_middle : (front : List ℕ) (x : ℕ) (rest : List ℕ) → slice_get (front ++ x ∷ rest) (length front) ≡ Some x
got_middle [] x rest = refl
got_middle (y ∷ ys) x rest = got_middle ys x rest

got_after : (front : List ℕ) (x y : ℕ) (rest : List ℕ) (k : ℕ) → k ≡ length front + 1 → slice_get (front ++ x ∷ y ∷ rest) k ≡ Some y
got_after front x y rest zero e = absurd (omega arith)
got_after [] x y rest (suc zero) e = refl
got_after [] x y rest (suc (suc k)) e = absurd (omega arith)
got_after (z ∷ zs) x y rest (suc k) e = got_after zs x y rest k (omega arith)

module _ (previous next : List ℕ) (at back : ℕ) (ring : IsRing previous next) (contains : Contains (ring_of next) at) (back_is : back ≡ get_or previous at back) where
  around : Placed (ring_of next) at
  around = placed (ring_of next) at contains

  front_is : back ≡ last_or 0 around.before
  front_is =
      let both = All-contains (λ var. (1 ≤ var) × (var ≤ ring.vars)) (ring_of next) at (queue_in_range ring.vars (ring_of next) ring.queue) contains in
      let way : Leads previous next 0 (around.before ++ at ∷ around.after) 0 = subst (λ l. Leads previous next 0 l 0) around.place ring.ring in
      get_or_read previous at back (omega (arith, both.1, ring.all_before)) back_is 0 ∙ previous_is previous next 0 around.before at (Leads-parts previous next 0 around.before at around.after 0 way).0

  pub is_first : back ≡ 0 → slice_get (ring_of next) 0 ≡ Some at
  is_first none = by around.before around.place front_is
    where
      by : (front : List ℕ) → ring_of next ≡ front ++ at ∷ around.after → back ≡ last_or 0 front → slice_get (ring_of next) 0 ≡ Some at
      by [] place last = ap (λ q. slice_get q 0) place
      by (x ∷ xs) place last =
          let misses : Misses 0 ((x ∷ xs) ++ at ∷ around.after) = subst (Misses 0) place (queue_apart ring.vars (ring_of next) ring.queue).0 in
          let front = Misses-parts 0 (x ∷ xs) (at ∷ around.after) misses in
          absurd (differs_from_last 0 x xs front.0.0 front.0.1 (sym none ∙ last))

  pub follows_it : back ≢ 0 → (k : ℕ) × (slice_get (ring_of next) k ≡ Some back) × (slice_get (ring_of next) (k + 1) ≡ Some at)
  follows_it some = by around.before around.place front_is
    where
      by : (front : List ℕ) → ring_of next ≡ front ++ at ∷ around.after → back ≡ last_or 0 front → (k : ℕ) × (slice_get (ring_of next) k ≡ Some back) × (slice_get (ring_of next) (k + 1) ≡ Some at)
      by [] place last = absurd (some last)
      by (x ∷ xs) place last =
          let split = ends x xs in
          let whole : ring_of next ≡ split.0 ++ back ∷ at ∷ around.after = place ∙ ap (λ l. l ++ at ∷ around.after) split.1 ∙ append_assoc split.0 (last_or x xs ∷ []) (at ∷ around.after) ∙ ap (λ y. split.0 ++ y ∷ at ∷ around.after) (sym last) in
          (length split.0, ap (λ q. slice_get q (length split.0)) whole ∙ got_middle split.0 back (at ∷ around.after), ap (λ q. slice_get q (length split.0 + 1)) whole ∙ got_after split.0 back at around.after (length split.0 + 1) refl)
