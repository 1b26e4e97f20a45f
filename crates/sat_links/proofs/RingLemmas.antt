-- Rings: their queues, and a variable of theirs that moves to the end.
use Rattle.std.proofs.Common.{◌≡◌, ℕ, zero, suc, ◌+◌, ◌-◌, ◌<◌, ◌≤◌, false, eqb, List, [], ◌∷◌, ◌++◌, length, get_or, set, All, Contains, refl, sym, ap, ◌∙◌, subst, add-one, arith}
use Rattle.std.specs.List.{IsDistinct, range_with_len}
use Rattle.std.specs.List.Sorted.{IsPermutation}
use Rattle.std.proofs.lemmas.Bool.{eqb-false, eq-eqb, ne_eqb}
use Rattle.std.proofs.lemmas.List.{map-id, length-set, length_push, get_or_read, get_or_append_left, get_or_push}
use Rattle.std.proofs.lemmas.List.Elements.{All-head, All-tail, All-weaker, All-append, All-contains}
use Rattle.std.proofs.lemmas.List.FromFn.{length-range_with_len, get_or-range_with_len, map-range_with_len_more}
use Rattle.std.proofs.lemmas.List.Sorted.{IsPermutation-trans, IsPermutation-middle, IsPermutation-append_comm, IsPermutation-refl}
use Rattle.std.proofs.lemmas.Map.Keys.{IsDistinct-from_apart, IsDistinct-IsPermutation}
use Rattle.sat_links.specs.Queues.{variables, IsQueue, moved_to_end}
use Rattle.sat_links.specs.Rings.{following, ring_of, Leads, IsRing}
use Rattle.sat_links.proofs.Facts.{queue_length, queue_in_range}
use Rattle.sat_links.proofs.ApartLemmas.{Misses, Apart, Misses-parts, Misses-append, Apart-middle, apart_from_distinct, without_middle, All-parts, eqb_flips}
use Rattle.sat_links.proofs.PathLemmas.{first_or, last_or, cut, add_last, next_is, previous_is, following_is, Leads-parts}

-- a queue's variables differ
IsDistinct-variables : (vars : ℕ) → IsDistinct eqb (variables vars)
IsDistinct-variables vars = IsDistinct-from_apart eqb (variables vars) (λ i j d below within. apart i j d below (subst (λ n. j < n) (length-range_with_len 1 vars) within))
  where
    apart : (i j d : ℕ) → i < j → j < vars → eqb (get_or (variables vars) i d) (get_or (variables vars) j d) ≡ false
    apart i j d below within = rw (get_or-range_with_len 1 vars i d (omega arith), get_or-range_with_len 1 vars j d within) (ne_eqb (1 + i) (1 + j) (λ e. omega arith))

misses_0 : (vars : ℕ) (xs : List ℕ) → All (λ var. (1 ≤ var) × (var ≤ vars)) xs → Misses 0 xs
misses_0 vars [] all = tt
misses_0 vars (x ∷ xs) all = ((λ e. omega (arith, All-head (λ var. (1 ≤ var) × (var ≤ vars)) x xs all)), misses_0 vars xs (All-tail (λ var. (1 ≤ var) × (var ≤ vars)) x xs all))

pub queue_apart : (vars : ℕ) (queue : List ℕ) → IsQueue vars queue → Apart (0 ∷ queue)
queue_apart vars queue is = (misses_0 vars queue (queue_in_range vars queue is), apart_from_distinct eqb eqb-false queue (IsDistinct-IsPermutation eqb eqb_flips (variables vars) queue is (IsDistinct-variables vars)))

-- a list with a number at its place
pub record Placed (queue : List ℕ) (v : ℕ) : Type 0 where
  pub before : List ℕ
  pub after : List ℕ
  pub place : queue ≡ before ++ v ∷ after

placed_at : (queue : List ℕ) (k v : ℕ) → k < length queue → get_or queue k v ≡ v → Placed queue v
placed_at [] k v within is = absurd (omega arith)
placed_at (x ∷ xs) zero v within is = record { before = []; after = xs; place = ap (λ y. y ∷ xs) is }
placed_at (x ∷ xs) (suc k) v within is =
    let rest = placed_at xs k v (omega arith) is in
    record { before = x ∷ rest.before; after = rest.after; place = ap (λ l. x ∷ l) rest.place }

pub placed : (queue : List ℕ) (v : ℕ) → Contains queue v → Placed queue v
placed queue v contains = placed_at queue contains.0 v contains.1 contains.2

pub moved_is : (xs ys : List ℕ) (v : ℕ) → Apart (xs ++ v ∷ ys) → moved_to_end v (xs ++ v ∷ ys) ≡ (xs ++ ys) ++ v ∷ []
moved_is xs ys v apart = let parts = Apart-middle xs ys v apart in ap (λ l. l ++ v ∷ []) (without_middle (λ x. eqb x v) v (eq-eqb v v refl) (λ x differs. ne_eqb x v (λ e. differs (sym e))) xs ys parts.0 parts.1)

moved_permutes : (xs ys : List ℕ) (v : ℕ) → IsPermutation (xs ++ v ∷ ys) ((xs ++ ys) ++ v ∷ [])
moved_permutes xs ys v =
    IsPermutation-trans (xs ++ v ∷ ys) (v ∷ (xs ++ ys)) ((xs ++ ys) ++ v ∷ []) (IsPermutation-middle xs v ys) (IsPermutation-append_comm (v ∷ []) (xs ++ ys))

-- a bound of a list's numbers bounds its first and last one
pub first_below : (xs : List ℕ) (n : ℕ) → 0 < n → All (λ x. x < n) xs → first_or 0 xs < n
first_below [] n above all = above
first_below (x ∷ xs) n above all = All-head (λ y. y < n) x xs all

pub last_below : (none : ℕ) (xs : List ℕ) (n : ℕ) → none < n → All (λ x. x < n) xs → last_or none xs < n
last_below none [] n above all = above
last_below none (x ∷ xs) n above all = last_below x xs n (All-head (λ y. y < n) x xs all) (All-tail (λ y. y < n) x xs all)

-- a variable of a ring between those before and after it, and the ring without it
pub record Cut (previous next : List ℕ) (v before after : ℕ) : Type 0 where
  pub front : List ℕ
  pub back : List ℕ
  pub place : ring_of next ≡ front ++ v ∷ back
  pub apart : Apart (front ++ v ∷ back)
  pub in_previous : v < length previous
  pub in_next : v < length next
  pub before_in : before < length next
  pub after_in : after < length previous
  pub way : Leads (set previous after before) (set next before after) 0 (front ++ back) 0
  pub left : Apart (0 ∷ (front ++ back))
  pub misses : Misses v (0 ∷ (front ++ back))
  pub last : get_or (set previous after before) 0 0 ≡ last_or 0 (front ++ back)
  pub last_in : last_or 0 (front ++ back) < length next

below_of_queue : (vars : ℕ) (queue : List ℕ) → IsQueue vars queue → All (λ x. x < vars + 1) queue
below_of_queue vars queue is = All-weaker (λ var. (1 ≤ var) × (var ≤ vars)) (λ x. x < vars + 1) (λ x both. omega (arith, both.1)) queue (queue_in_range vars queue is)

pub cut_here : (previous next : List ℕ) (v before after : ℕ) → IsRing previous next → Contains (ring_of next) v → get_or previous v 0 ≡ before → get_or next v 0 ≡ after → Cut previous next v before after
cut_here previous next v before after ring contains before_is after_is =
    let at = placed (ring_of next) v contains in
    let front = at.before in
    let back = at.after in
    let queue : IsQueue ring.vars (front ++ v ∷ back) = subst (IsQueue ring.vars) at.place ring.queue in
    let way : Leads previous next 0 (front ++ v ∷ back) 0 = subst (λ l. Leads previous next 0 l 0) at.place ring.ring in
    let apart : Apart (0 ∷ (front ++ v ∷ back)) = queue_apart ring.vars (front ++ v ∷ back) queue in
    let parts = Leads-parts previous next 0 front v back 0 way in
    let below : All (λ x. x < ring.vars + 1) (front ++ v ∷ back) = below_of_queue ring.vars (front ++ v ∷ back) queue in
    let halves = All-parts (λ x. x < ring.vars + 1) front (v ∷ back) below in
    let is_before : last_or 0 front ≡ before = sym (previous_is previous next 0 front v parts.0) ∙ before_is in
    let is_after : first_or 0 back ≡ after = sym (next_is previous next v back 0 parts.1) ∙ after_is in
    let here : v < ring.vars + 1 = All-head (λ x. x < ring.vars + 1) v back halves.1 in
    let before_in : last_or 0 front < length next = subst (λ n. last_or 0 front < n) (sym ring.all_after) (last_below 0 front (ring.vars + 1) (omega arith) halves.0) in
    let after_in : first_or 0 back < length previous =
    subst (λ n. first_or 0 back < n) (sym ring.all_before) (first_below back (ring.vars + 1) (omega arith) (All-tail (λ x. x < ring.vars + 1) v back halves.1)) in
    let both = Misses-parts 0 front (v ∷ back) apart.0 in
    let middle = Apart-middle front back v apart.1 in
    let cut_way : Leads (set previous after before) (set next before after) 0 (front ++ back) 0 = rw (← is_before, ← is_after) (cut previous next front back v way apart before_in after_in) in
    record {
      front = front;
      back = back;
      place = at.place;
      apart = apart.1;
      in_previous = subst (λ n. v < n) (sym ring.all_before) here;
      in_next = subst (λ n. v < n) (sym ring.all_after) here;
      before_in = subst (λ x. x < length next) is_before before_in;
      after_in = subst (λ x. x < length previous) is_after after_in;
      way = cut_way;
      left = (Misses-append 0 front back both.0 both.1.1, middle.2);
      misses = ((λ e. both.1.0 (sym e)), Misses-append v front back middle.0 middle.1);
      last = previous_is (set previous after before) (set next before after) 0 (front ++ back) 0 cut_way;
      last_in = subst (λ n. last_or 0 (front ++ back) < n) (sym ring.all_after) (last_below 0 (front ++ back) (ring.vars + 1) (omega arith) (All-append (λ x. x < ring.vars + 1) front back halves.0 (All-tail (λ x. x < ring.vars + 1) v back halves.1)));
    }

-- the ring with the variable linked in at its end
pub record Linked (vars : ℕ) (previous next : List ℕ) (queue : List ℕ) : Type 0 where
  pub ring : IsRing previous next
  pub each_once : IsQueue vars (ring_of next)
  pub is : ring_of next ≡ queue

pub linked_last : (previous next : List ℕ) (v before after last : ℕ) → IsRing previous next → Cut previous next v before after → get_or (set previous after before) 0 0 ≡ last
    → (vars : ℕ) → vars ≡ length (ring_of next) → Linked vars (set (set (set previous after before) v last) 0 v) (set (set (set next before after) last v) v 0) (moved_to_end v (ring_of next))
linked_last previous next v before after last ring c last_is vars vars_is =
    let queue = (c.front ++ c.back) ++ v ∷ [] in
    let previous3 = set (set (set previous after before) v last) 0 v in
    let next3 = set (set (set next before after) last v) v 0 in
    let is_last : last_or 0 (c.front ++ c.back) ≡ last = sym c.last ∙ last_is in
    let same_previous : length (set previous after before) ≡ length previous = length-set previous after before in
    let same_next : length (set next before after) ≡ length next = length-set next before after in
    let way : Leads previous3 next3 0 queue 0 =
    rw (← is_last) (add_last (set previous after before) (set next before after) (c.front ++ c.back) v c.way c.left c.misses (subst (λ n. last_or 0 (c.front ++ c.back) < n) (sym same_next) c.last_in) (subst (λ n. v < n) (sym same_next) c.in_next) (omega (arith, ring.all_before)) (subst (λ n. v < n) (sym same_previous) c.in_previous)) in
    let moves : IsQueue ring.vars queue = IsPermutation-trans (variables ring.vars) (c.front ++ v ∷ c.back) queue (subst (IsQueue ring.vars) c.place ring.queue) (moved_permutes c.front c.back v) in
    let all_after : length next3 ≡ ring.vars + 1 = length-set (set (set next before after) last v) v 0 ∙ length-set (set next before after) last v ∙ same_next ∙ ring.all_after in
    let all_before : length previous3 ≡ ring.vars + 1 = length-set (set (set previous after before) v last) 0 v ∙ length-set (set previous after before) v last ∙ same_previous ∙ ring.all_before in
    let count : length next3 - 1 ≡ length queue = omega (arith, all_after, queue_length ring.vars queue moves) in
    let same : ring_of next3 ≡ queue = ap (following next3 0) count ∙ following_is previous3 next3 0 queue 0 way in
    record {
      ring = record { vars = ring.vars; all_before = all_before; all_after = all_after; ring = subst (λ l. Leads previous3 next3 0 l 0) (sym same) way; queue = subst (IsQueue ring.vars) (sym same) moves };
      each_once = rw (vars_is, queue_length ring.vars (ring_of next) ring.queue) (subst (IsQueue ring.vars) (sym same) moves);
      is = same ∙ sym (moved_is c.front c.back v c.apart) ∙ ap (moved_to_end v) (sym c.place);
    }

-- the same of vectors as a program reads and writes them
pub var_within : (previous next : List ℕ) (v : ℕ) → IsRing previous next → Contains (ring_of next) v → (v < length previous) × (v < length next)
var_within previous next v ring contains =
    let below : v < ring.vars + 1 = All-contains (λ x. x < ring.vars + 1) (ring_of next) v (below_of_queue ring.vars (ring_of next) ring.queue) contains in
    (omega (arith, ring.all_before), omega (arith, ring.all_after))

pub cut_read : (previous next : List ℕ) (v before after : ℕ) → IsRing previous next → Contains (ring_of next) v → before ≡ get_or previous v before → after ≡ get_or next v after → Cut previous next v before after
cut_read previous next v before after ring contains before_is after_is =
    let within = var_within previous next v ring contains in
    cut_here previous next v before after ring contains (sym (get_or_read previous v before within.0 before_is 0)) (sym (get_or_read next v after within.1 after_is 0))

last_read : (previous next previous1 : List ℕ) (v before after last : ℕ) → Cut previous next v before after → previous1 ≡ set previous after before → last ≡ get_or previous1 0 last → get_or (set previous after before) 0 0 ≡ last
last_read previous next previous1 v before after last c is1 last_is =
    let some : 0 < length previous = omega (arith, c.after_in) in
    let within : 0 < length (set previous after before) = rw (length-set previous after before) some in
    sym (get_or_read (set previous after before) 0 last within (subst (λ l. last ≡ get_or l 0 last) is1 last_is) 0)

pub last_within : (previous next previous1 next1 : List ℕ) (v before after last : ℕ) → Cut previous next v before after → previous1 ≡ set previous after before → next1 ≡ set next before after → last ≡ get_or previous1 0 last → last < length next1
last_within previous next previous1 next1 v before after last c is1 is2 last_is =
    let is_last : last_or 0 (c.front ++ c.back) ≡ last = sym c.last ∙ last_read previous next previous1 v before after last c is1 last_is in
    rw (is2, length-set next before after) (subst (λ x. x < length next) is_last c.last_in)

pub linked : (previous next previous1 next1 previous2 next2 previous3 next3 : List ℕ) (v before after last : ℕ) → IsRing previous next → Cut previous next v before after
    → previous1 ≡ set previous after before → next1 ≡ set next before after → last ≡ get_or previous1 0 last
    → previous2 ≡ set previous1 v last → next2 ≡ set next1 last v
    → previous3 ≡ set previous2 0 v → next3 ≡ set next2 v 0 → (vars : ℕ) → vars ≡ length (ring_of next) → Linked vars previous3 next3 (moved_to_end v (ring_of next))
linked previous next previous1 next1 previous2 next2 previous3 next3 v before after last ring c p1 n1 last_is p2 n2 p3 n3 vars vars_is =
    let done = linked_last previous next v before after last ring c (last_read previous next previous1 v before after last c p1 last_is) vars vars_is in
    rw (p3, n3, p2, n2, p1, n1) done

-- the ring of the variables in order
pub range_more : (from count : ℕ) → range_with_len from (count + 1) ≡ range_with_len from count ++ (from + count) ∷ []
range_more from count =
    sym (map-id (range_with_len from (count + 1)))
    ∙ map-range_with_len_more (λ x. x) from count (from + count) refl
    ∙ ap (λ l. l ++ (from + count) ∷ []) (map-id (range_with_len from count))

in_order : (vars : ℕ) (previous next : List ℕ)
    → ((i : ℕ) → i < vars → get_or next i 0 ≡ i + 1) → get_or next vars 0 ≡ 0 → get_or previous 0 0 ≡ vars → ((i : ℕ) → i < vars → get_or previous (i + 1) 0 ≡ i)
    → (k m : ℕ) → k + m ≡ vars → Leads previous next k (range_with_len (k + 1) m) 0
in_order vars previous next forth end start back k zero is = let at : k ≡ vars = omega arith in (rw at end, start ∙ sym at)
in_order vars previous next forth end start back k (suc m) is =
    let below : k < vars = omega arith in
    (forth k below, back k below, in_order vars previous next forth end start back (k + 1) m (omega arith))

pub ring_in_order : (vars : ℕ) (previous next : List ℕ) → previous ≡ vars ∷ range_with_len 0 vars → next ≡ range_with_len 1 vars ++ 0 ∷ [] → Linked vars previous next (variables vars)
ring_in_order vars previous next previous_is next_is =
    let all_before : length previous ≡ vars + 1 = rw previous_is (omega (arith, length-range_with_len 0 vars)) in
    let all_after : length next ≡ vars + 1 = rw (next_is, length_push (range_with_len 1 vars) 0, length-range_with_len 1 vars) refl in
    let forth : (i : ℕ) → i < vars → get_or next i 0 ≡ i + 1 = λ i below.
    let within : i < length (range_with_len 1 vars) = rw (length-range_with_len 1 vars) below in
    ap (λ l. get_or l i 0) next_is ∙ get_or_append_left (range_with_len 1 vars) (0 ∷ []) 0 i within ∙ get_or-range_with_len 1 vars i 0 below ∙ omega arith in
    let end : get_or next vars 0 ≡ 0 = ap (λ l. get_or l vars 0) next_is ∙ get_or_push (range_with_len 1 vars) 0 0 vars (length-range_with_len 1 vars) in
    let start : get_or previous 0 0 ≡ vars = ap (λ l. get_or l 0 0) previous_is in
    let back : (i : ℕ) → i < vars → get_or previous (i + 1) 0 ≡ i = λ i below. ap (λ l. get_or l (i + 1) 0) previous_is ∙ rw add-one (get_or-range_with_len 0 vars i 0 below ∙ omega arith) in
    let way : Leads previous next 0 (variables vars) 0 = in_order vars previous next forth end start back 0 vars (omega arith) in
    let count : length next - 1 ≡ length (variables vars) = omega (arith, all_after, length-range_with_len 1 vars) in
    let same : ring_of next ≡ variables vars = ap (following next 0) count ∙ following_is previous next 0 (variables vars) 0 way in
    let each_once : IsQueue vars (ring_of next) = subst (IsQueue vars) (sym same) (IsPermutation-refl (variables vars)) in
    record {
      ring = record { vars = vars; all_before = all_before; all_after = all_after; ring = subst (λ l. Leads previous next 0 l 0) (sym same) way; queue = each_once };
      each_once = each_once;
      is = same;
    }
