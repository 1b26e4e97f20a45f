-- Watches that stand in lists once, and lists that links make.
use Rattle.std.proofs.Common.{◌≡◌, ◌≢◌, ℕ, zero, suc, ◌*◌, ◌<◌, ◌≤◌, Bool, true, false, eqb, List, [], ◌∷◌, ◌++◌, length, get_or, set, map, All, Option, None, refl, sym, ap, ◌∙◌, subst, arith}
use Rattle.std.specs.List.Sorted.{IsPermutation}
use Rattle.std.proofs.lemmas.Bool.{eqb-true, eq-eqb, and_parts, and_from, false≢true}
use Rattle.std.proofs.lemmas.List.{length-map, length-append, get_or-map, ext_get_or, set-get_or}
use Rattle.std.proofs.lemmas.List.Elements.{All-nil, All-cons, All-append, All-weaker, All-head, All-tail}
use Rattle.std.proofs.lemmas.List.Sorted.{length_permutation, IsPermutation-trans, IsPermutation-refl, IsPermutation-sym, IsPermutation-middle, IsPermutation-append_left, IsPermutation-append_right}
use Rattle.std.proofs.lemmas.Map.Keys.{IsDistinct-IsPermutation}
use Rattle.sat_links.specs.declared.watches.Watch.{Watch}
use Rattle.sat_links.specs.Watches.{joined, slot_of, slots_of, HasClauses, same_watch}
use Rattle.sat_links.specs.Links.{walk, lists_of, AllLead, IsLinked}
use Rattle.sat_links.proofs.ApartLemmas.{Misses, Apart, Misses-parts, Misses-append, Apart-left, Apart-right, All-parts, apart_from_distinct, distinct_from_apart, eqb_flips}
use Rattle.sat_links.proofs.LinkLemmas.{walk_is}

-- the test of two watches tells whether they are one
pub one_watch : (a b : Watch) → same_watch a b ≡ true → a ≡ b
one_watch a b e =
    let parts = and_parts (eqb a.clause b.clause) (eqb a.slot b.slot) e in
    let clauses : a.clause ≡ b.clause = eqb-true a.clause b.clause parts.0 in
    let places : a.slot ≡ b.slot = eqb-true a.slot b.slot parts.1 in
    (λ j. record { clause = clauses j; slot = places j })

pub same_itself : (a : Watch) → same_watch a a ≡ true
same_itself a = and_from (eqb a.clause a.clause) (eqb a.slot a.slot) (eq-eqb a.clause a.clause refl) (eq-eqb a.slot a.slot refl)

pub other_watch : (a b : Watch) → a ≢ b → same_watch a b ≡ false
other_watch a b differs = by (same_watch a b) refl
  where
    by : (t : Bool) → same_watch a b ≡ t → same_watch a b ≡ false
    by true e = absurd (differs (one_watch a b e))
    by false e = e

-- the slots of clauses are of those clauses, and apart
abbrev pub IsBelow : ℕ → Watch → Type 0
IsBelow clauses w = (w.clause < clauses) × (w.slot < 2)

pub slots_below : (clauses : ℕ) → All (IsBelow clauses) (slots_of clauses)
slots_below zero = All-nil (IsBelow zero)
slots_below (suc clauses) =
    All-append (IsBelow (suc clauses)) (slots_of clauses) (slot_of clauses 0 ∷ slot_of clauses 1 ∷ [])
    (All-weaker (IsBelow clauses) (IsBelow (suc clauses)) (λ w below. (omega (arith, below.0), below.1)) (slots_of clauses) (slots_below clauses))
    (All-cons (IsBelow (suc clauses)) (slot_of clauses 0) (slot_of clauses 1 ∷ []) (omega arith, omega arith) (All-cons (IsBelow (suc clauses)) (slot_of clauses 1) [] (omega arith, omega arith) (All-nil (IsBelow (suc clauses)))))

pub above : (clauses number : ℕ) (w : Watch) → IsBelow clauses w → w ≢ slot_of clauses number
above clauses number w below e = let same : w.clause ≡ clauses = ap (λ v. v.clause) e in omega (arith, below.0)

pub two_slots : (clause : ℕ) → slot_of clause 0 ≢ slot_of clause 1
two_slots clause e =
    let number : Watch → ℕ = λ v. v.slot in
    let same : number (slot_of clause 0) ≡ number (slot_of clause 1) = ap number e in
    omega arith

apart_more : (clauses : ℕ) (ws : List Watch) → All (IsBelow clauses) ws → Apart ws → Apart (ws ++ slot_of clauses 0 ∷ slot_of clauses 1 ∷ [])
apart_more clauses [] below apart = ((two_slots clauses, tt), (tt, tt))
apart_more clauses (w ∷ ws) below apart =
    let here = All-head (IsBelow clauses) w ws below in
    (Misses-append w ws (slot_of clauses 0 ∷ slot_of clauses 1 ∷ []) apart.0 (above clauses 0 w here, (above clauses 1 w here, tt)), apart_more clauses ws (All-tail (IsBelow clauses) w ws below) apart.1)

slots_apart : (clauses : ℕ) → Apart (slots_of clauses)
slots_apart zero = tt
slots_apart (suc clauses) = apart_more clauses (slots_of clauses) (slots_below clauses) (slots_apart clauses)

pub length-slots_of : (clauses : ℕ) → length (slots_of clauses) ≡ 2 * clauses
length-slots_of zero = refl
length-slots_of (suc clauses) = length-append (slots_of clauses) (slot_of clauses 0 ∷ slot_of clauses 1 ∷ []) ∙ omega (arith, length-slots_of clauses)

flips : (x y : Watch) → same_watch x y ≡ same_watch y x
flips x y = rw (eqb_flips x.clause y.clause, eqb_flips x.slot y.slot) refl

-- watches that are the slots of clauses
pub permuted_apart : (clauses : ℕ) (ws : List Watch) → IsPermutation (slots_of clauses) ws → Apart ws
permuted_apart clauses ws moved =
    apart_from_distinct same_watch (λ a b e same. false≢true (sym e ∙ ap (same_watch a) (sym same) ∙ same_itself a)) ws
    (IsDistinct-IsPermutation same_watch flips (slots_of clauses) ws moved (distinct_from_apart same_watch other_watch (slots_of clauses) (slots_apart clauses)))

-- each list is a part of the lists joined
pub misses_each : (w : Watch) (lists : List (List Watch)) (place : ℕ) → Misses w (joined lists) → Misses w (get_or lists place [])
misses_each w [] place misses = tt
misses_each w (list ∷ lists) zero misses = (Misses-parts w list (joined lists) misses).0
misses_each w (list ∷ lists) (suc place) misses = misses_each w lists place (Misses-parts w list (joined lists) misses).1

pub apart_each : (lists : List (List Watch)) (place : ℕ) → Apart (joined lists) → Apart (get_or lists place [])
apart_each [] place apart = tt
apart_each (list ∷ lists) zero apart = Apart-left list (joined lists) apart
apart_each (list ∷ lists) (suc place) apart = apart_each lists place (Apart-right list (joined lists) apart)

pub all_each : (P : Watch → Type 0) (lists : List (List Watch)) (place : ℕ) → All P (joined lists) → All P (get_or lists place [])
all_each P [] place all = All-nil P
all_each P (list ∷ lists) zero all = (All-parts P list (joined lists) all).0
all_each P (list ∷ lists) (suc place) all = all_each P lists place (All-parts P list (joined lists) all).1

length_each : (lists : List (List Watch)) (place : ℕ) → length (get_or lists place []) ≤ length (joined lists)
length_each [] place = omega arith
length_each (list ∷ lists) zero = omega (arith, length-append list (joined lists))
length_each (list ∷ lists) (suc place) = omega (arith, length-append list (joined lists), length_each lists place)

-- a watch more in one list is one more in all
pub joined_more : (lists : List (List Watch)) (at : ℕ) (w : Watch) (xs ys : List Watch) → at < length lists → IsPermutation xs (w ∷ ys) → IsPermutation (joined (set lists at xs)) (w ∷ joined (set lists at ys))
joined_more [] at w xs ys within moved = absurd (omega arith)
joined_more (list ∷ lists) zero w xs ys within moved = IsPermutation-append_left (joined lists) xs (w ∷ ys) moved
joined_more (list ∷ lists) (suc at) w xs ys within moved =
    IsPermutation-trans (list ++ joined (set lists at xs)) (list ++ w ∷ joined (set lists at ys)) (w ∷ (list ++ joined (set lists at ys)))
    (IsPermutation-append_right list (joined (set lists at xs)) (w ∷ joined (set lists at ys)) (joined_more lists at w xs ys (omega arith) moved))
    (IsPermutation-middle list w (joined (set lists at ys)))

-- a watch taken out of its list, and a watch put first in one
pub joined_without : (lists : List (List Watch)) (at : ℕ) (w : Watch) (xs ys : List Watch) → at < length lists → get_or lists at [] ≡ xs ++ w ∷ ys → IsPermutation (joined lists) (w ∷ joined (set lists at (xs ++ ys)))
joined_without lists at w xs ys within is =
    let same : set lists at (xs ++ w ∷ ys) ≡ lists = ap (set lists at) (sym is) ∙ set-get_or lists at [] in
    subst (λ ls. IsPermutation (joined ls) (w ∷ joined (set lists at (xs ++ ys)))) same (joined_more lists at w (xs ++ w ∷ ys) (xs ++ ys) within (IsPermutation-middle xs w ys))

pub joined_with : (lists : List (List Watch)) (at : ℕ) (w : Watch) → at < length lists → IsPermutation (w ∷ joined lists) (joined (set lists at (w ∷ get_or lists at [])))
joined_with lists at w within =
    let list = get_or lists at [] in
    IsPermutation-sym (joined (set lists at (w ∷ list))) (w ∷ joined lists)
    (subst (λ ls. IsPermutation (joined (set lists at (w ∷ list))) (w ∷ joined ls)) (set-get_or lists at []) (joined_more lists at w (w ∷ list) list within (IsPermutation-refl (w ∷ list))))

-- lists that links lead through, and that have the slots of clauses, are the lists of the links
pub record Linked (heads : List (Option Watch)) (next : List (List (Option Watch))) (lists : List (List Watch)) : Type 0 where
  pub linked : IsLinked heads next
  pub is : lists_of heads next ≡ lists

pub linked : (heads : List (Option Watch)) (next : List (List (Option Watch))) (lists : List (List Watch)) → length lists ≡ length heads → AllLead heads next lists → HasClauses (length next) lists → Linked heads next lists
linked heads next lists same_count lead watches =
    let f = walk next (2 * length next) in
    let total : length (joined lists) ≡ 2 * length next = length_permutation (slots_of (length next)) (joined lists) watches ∙ length-slots_of (length next) in
    let same : lists_of heads next ≡ lists =
    ext_get_or [] (map f heads) lists (length-map heads f ∙ sym same_count) (λ place within.
    get_or-map f heads place None [] (subst (λ n. place < n) (length-map heads f) within)
    ∙ walk_is next (get_or heads place None) (get_or lists place []) (2 * length next) (lead place) (omega (arith, total, length_each lists place)))
    in
    record { linked = record { lead = subst (AllLead heads next) (sym same) lead; watches = subst (HasClauses (length next)) (sym same) watches }; is = same }

pub lists_count : (heads : List (Option Watch)) (next : List (List (Option Watch))) → length (lists_of heads next) ≡ length heads
lists_count heads next = length-map heads (walk next (2 * length next))
