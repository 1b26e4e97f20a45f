-- What the calls on lists of watches read and leave.
use Rattle.std.proofs.Common.{◌≡◌, ◌≢◌, ℕ, zero, suc, ◌+◌, ◌-◌, ◌*◌, ◌<◌, ◌≤◌, not, take, List, [], ◌∷◌, ◌++◌, length, get_or, set, filter, replicate, slice_get, All, Contains, Option, None, Some, IfSome, refl, sym, ap, ◌∙◌, subst, inl, inr, add-one, arith}
use Rattle.std.specs.List.Sorted.{IsPermutation}
use Rattle.std.proofs.lemmas.Bool.{cases_eq}
use Rattle.std.proofs.lemmas.List.{length-set, length-append, length-replicate, replicate_more, take_all, append_assoc, get_or-set_same, get_or-set_other, get_or_append_left}
use Rattle.std.proofs.lemmas.List.Elements.{All-head, All-tail, All-contains}
use Rattle.std.proofs.lemmas.List.Sorted.{IsPermutation-refl, IsPermutation-trans, IsPermutation-middle, IsPermutation-cons, IsPermutation-append_left, IsPermutation-append_comm}
use Rattle.sat_links.specs.declared.watches.Watch.{Watch}
use Rattle.sat_links.specs.Watches.{joined, slot_of, slots_of, HasClauses, same_watch, without, StandsAfter}
use Rattle.sat_links.specs.Links.{next_of, lists_of, LeadsTo, AllLead, IsLinked, Relinks, Cuts}
use Rattle.sat_links.proofs.Facts.{watches_below, no_watches, joined_none, more_lists, joined_more}
use Rattle.sat_links.proofs.ApartLemmas.{Misses, Apart, Apart-middle, without_middle}
use Rattle.sat_links.proofs.LinkLemmas.{cut_first, cut_after, put_first}
use Rattle.sat_links.proofs.WatchLemmas.{IsBelow, Linked, same_itself, other_watch, permuted_apart, misses_each, apart_each, all_each, joined_without, joined_with, linked, lists_count, two_slots, above}

-- what is read at the start of a list, and after one of its watches
pub first_is : (next : List (List (Option Watch))) (from : Option Watch) (xs : List Watch) → LeadsTo next from xs → from ≡ slice_get xs 0
first_is next from [] way = way
first_is next from (x ∷ xs) way = way.0

pub after_is : (next : List (List (Option Watch))) (from : Option Watch) (xs : List Watch) (k : ℕ) (w : Watch) → LeadsTo next from xs → slice_get xs k ≡ Some w → next_of next w ≡ slice_get xs (suc k)
after_is next from [] k w way at = cc
after_is next from (x ∷ xs) zero w way at = let same : x ≡ w = cc in ap (next_of next) (sym same) ∙ first_is next (next_of next x) xs way.1
after_is next from (x ∷ xs) (suc k) w way at = after_is next (next_of next x) xs k w way.1 at

-- a watch of the lists is one of the slots
pub watch_below : (heads : List (Option Watch)) (next : List (List (Option Watch))) (w : Watch) → IsLinked heads next → Contains (joined (lists_of heads next)) w → IsBelow (length next) w
watch_below heads next w is contains = All-contains (IsBelow (length next)) (joined (lists_of heads next)) w (watches_below (length next) (lists_of heads next) is.watches) contains

-- what holds of each watch of a list holds of a watch in it, and of the one before that
got : (P : Watch → Type 0) (list : List Watch) (k : ℕ) (w : Watch) → All P list → slice_get list k ≡ Some w → P w
got P [] k w all at = cc
got P (x ∷ xs) zero w all at = let same : x ≡ w = cc in subst P same (All-head P x xs all)
got P (x ∷ xs) (suc k) w all at = got P xs k w (All-tail P x xs all) at

stands_all : (P : Watch → Type 0) (list : List Watch) (before : Option Watch) (w : Watch) → All P list → StandsAfter list before w → IfSome before P × P w
stands_all P list None w all stands = (tt, got P list 0 w all stands)
stands_all P list (Some b) w all stands = (got P list stands.0 b all stands.1, got P list (stands.0 + 1) w all stands.2)

pub stands_below : (heads : List (Option Watch)) (next : List (List (Option Watch))) (old : List (List Watch)) (at : ℕ) (before : Option Watch) (w : Watch) → IsLinked heads next → lists_of heads next ≡ old → StandsAfter (get_or old at []) before w
    → IfSome before (IsBelow (length next)) × IsBelow (length next) w
stands_below heads next old at before w is old_is stands =
    let below : All (IsBelow (length next)) (joined old) = watches_below (length next) old (subst (HasClauses (length next)) old_is is.watches) in
    stands_all (IsBelow (length next)) (get_or old at []) before w (all_each (IsBelow (length next)) old at below) stands

-- a list cut before a watch that stands first, and around a watch and the one after it
first_split : (list : List Watch) (w : Watch) → slice_get list 0 ≡ Some w → (after : List Watch) × (list ≡ w ∷ after)
first_split [] w at = cc
first_split (x ∷ xs) w at = let same : x ≡ w = cc in (xs, ap (λ y. y ∷ xs) same)

after_split : (list : List Watch) (k : ℕ) (b w : Watch) → slice_get list k ≡ Some b → slice_get list (suc k) ≡ Some w → (front : List Watch) × (after : List Watch) × (list ≡ front ++ b ∷ w ∷ after)
after_split [] k b w at next_at = cc
after_split (x ∷ xs) zero b w at next_at =
    let same : x ≡ b = cc in
    let rest = first_split xs w next_at in
    ([], rest.0, ap (λ y. y ∷ xs) same ∙ ap (λ l. b ∷ l) rest.1)
after_split (x ∷ xs) (suc k) b w at next_at =
    let rest = after_split xs k b w at next_at in
    (x ∷ rest.0, rest.1, ap (λ l. x ∷ l) rest.2)

-- a watch cut out of its list: the list around it, and the links that leave it out
pub record CutOut (heads heads1 : List (Option Watch)) (next next1 : List (List (Option Watch))) (lists : List (List Watch)) (at : ℕ) (w : Watch) : Type 0 where
  pub before : List Watch
  pub after : List Watch
  pub is : get_or lists at [] ≡ before ++ w ∷ after
  pub lead : AllLead heads1 next1 (set lists at (before ++ after))
  pub same_heads : length heads1 ≡ length heads
  pub same_next : length next1 ≡ length next

pub cut_out : (heads heads1 : List (Option Watch)) (next next1 : List (List (Option Watch))) (lists : List (List Watch)) (at : ℕ) (before : Option Watch) (w : Watch)
    → AllLead heads next lists → HasClauses (length next) lists → at < length heads → at < length lists → StandsAfter (get_or lists at []) before w → Cuts heads next at before w heads1 next1
    → CutOut heads heads1 next next1 lists at w
cut_out heads heads1 next next1 lists at None w lead watches in_heads in_lists stands cuts =
    let split = first_split (get_or lists at []) w stands in
    record {
      before = [];
      after = split.0;
      is = split.1;
      lead = rw (cuts.0, cuts.1) (cut_first heads next lists at w split.0 lead in_heads in_lists split.1);
      same_heads = ap length cuts.0 ∙ length-set heads at (next_of next w);
      same_next = ap length cuts.1;
    }
cut_out heads heads1 next next1 lists at (Some b) w lead watches in_heads in_lists stands cuts =
    let split = after_split (get_or lists at []) stands.0 b w stands.1 (subst (λ k. slice_get (get_or lists at []) k ≡ Some w) (add-one stands.0) stands.2) in
    let front = split.0 in
    let after = split.1 in
    let out = permuted_apart (length next) (b ∷ joined (set lists at (front ++ w ∷ after))) (IsPermutation-trans (slots_of (length next)) (joined lists) (b ∷ joined (set lists at (front ++ w ∷ after))) watches (joined_without lists at b front (w ∷ after) in_lists split.2)) in
    let same : (front ++ b ∷ []) ++ after ≡ front ++ b ∷ after = append_assoc front (b ∷ []) after in
    record {
      before = front ++ b ∷ [];
      after = after;
      is = split.2 ∙ sym (append_assoc front (b ∷ []) (w ∷ after));
      lead = rw (cuts.0, same) (cut_after heads next next1 lists at b w front after lead cuts.1 in_lists split.2 (λ place. misses_each b (set lists at (front ++ w ∷ after)) place out.0));
      same_heads = ap length cuts.0;
      same_next = cuts.1.count;
    }

pub cut_count : (heads heads1 : List (Option Watch)) (next next1 : List (List (Option Watch))) (at : ℕ) (before : Option Watch) (w : Watch) → Cuts heads next at before w heads1 next1 → length next1 ≡ length next
cut_count heads heads1 next next1 at None w cuts = ap length cuts.1
cut_count heads heads1 next next1 at (Some b) w cuts = cuts.1.count

-- two lists are others, and the rest stay
pub record TwoSet (old new : List (List Watch)) (one two : ℕ) (at_one at_two : List Watch) : Type 0 where
  pub first : get_or new one [] ≡ at_one
  pub second : get_or new two [] ≡ at_two
  pub others : (place : ℕ) → place ≢ one → place ≢ two → get_or new place [] ≡ get_or old place []
  pub count : length new ≡ length old

two_set : (lists new : List (List Watch)) (one two : ℕ) (xs : List Watch) (w : Watch) → one < length lists → two < length lists → one ≢ two
    → new ≡ set (set lists one xs) two (w ∷ get_or (set lists one xs) two []) → TwoSet lists new one two xs (w ∷ get_or lists two [])
two_set lists new one two xs w in_one in_two differ is =
    let lists1 = set lists one xs in
    let list2 = w ∷ get_or lists1 two [] in
    let in_two1 : two < length lists1 = rw (length-set lists one xs) in_two in
    record {
      first = ap (λ ls. get_or ls one []) is ∙ get_or-set_other lists1 two one list2 [] differ ∙ get_or-set_same lists one xs [] in_one;
      second = ap (λ ls. get_or ls two []) is ∙ get_or-set_same lists1 two list2 [] in_two1 ∙ ap (λ l. w ∷ l) (get_or-set_other lists one two xs [] (λ e. differ (sym e)));
      others = λ place apart1 apart2. ap (λ ls. get_or ls place []) is ∙ get_or-set_other lists1 two place list2 [] apart2 ∙ get_or-set_other lists one place xs [] apart1;
      count = ap length is ∙ length-set lists1 two list2 ∙ length-set lists one xs;
    }

-- the lists after a watch was moved
pub record Moved (heads : List (Option Watch)) (next : List (List (Option Watch))) (old : List (List Watch)) (at to : ℕ) (w : Watch) : Type 0 where
  pub linked : IsLinked heads next
  pub lists : TwoSet old (lists_of heads next) at to (without w (get_or old at [])) (w ∷ get_or old to [])
  pub same_watches : IsPermutation (joined old) (joined (lists_of heads next))

moved : (heads heads1 heads2 : List (Option Watch)) (next next1 next2 : List (List (Option Watch))) (at to : ℕ) (before : Option Watch) (w : Watch)
    → IsLinked heads next → at < length (lists_of heads next) → to < length (lists_of heads next) → at ≢ to → StandsAfter (get_or (lists_of heads next) at []) before w → Cuts heads next at before w heads1 next1
    → heads2 ≡ set heads1 to (Some w) → Relinks next1 w (get_or heads1 to None) next2 → Moved heads2 next2 (lists_of heads next) at to w
moved heads heads1 heads2 next next1 next2 at to before w is in_lists to_lists differ stands cuts heads2_is r =
    let lists = lists_of heads next in
    let count : length lists ≡ length heads = lists_count heads next in
    let in_heads : at < length heads = omega (arith, count) in
    let out = cut_out heads heads1 next next1 lists at before w is.lead is.watches in_heads in_lists stands cuts in
    let lists1 = set lists at (out.before ++ out.after) in
    let count1 : length lists1 ≡ length heads1 = length-set lists at (out.before ++ out.after) ∙ count ∙ sym out.same_heads in
    let leaves = joined_without lists at w out.before out.after in_lists out.is in
    let apart = permuted_apart (length next) (w ∷ joined lists1) (IsPermutation-trans (slots_of (length next)) (joined lists) (w ∷ joined lists1) is.watches leaves) in
    let to_heads1 : to < length heads1 = omega (arith, out.same_heads, count) in
    let to_lists1 : to < length lists1 = omega (arith, count1) in
    let lists2 = set lists1 to (w ∷ get_or lists1 to []) in
    let lead2 : AllLead heads2 next2 lists2 = rw heads2_is (put_first heads1 next1 next2 lists1 to w out.lead r to_heads1 to_lists1 (λ place. misses_each w lists1 place apart.0)) in
    let moves : IsPermutation (joined lists) (joined lists2) = IsPermutation-trans (joined lists) (w ∷ joined lists1) (joined lists2) leaves (joined_with lists1 to w to_lists1) in
    let same_next : length next2 ≡ length next = r.count ∙ out.same_next in
    let watches2 : HasClauses (length next2) lists2 = subst (λ n. HasClauses n lists2) (sym same_next) (IsPermutation-trans (slots_of (length next)) (joined lists) (joined lists2) is.watches moves) in
    let count2 : length lists2 ≡ length heads2 = length-set lists1 to (w ∷ get_or lists1 to []) ∙ count1 ∙ sym (ap length heads2_is ∙ length-set heads1 to (Some w)) in
    let list_apart = apart_each lists at (permuted_apart (length next) (joined lists) is.watches) in
    let parts = Apart-middle out.before out.after w (subst Apart out.is list_apart) in
    let left : filter (λ other. not (same_watch w other)) (get_or lists at []) ≡ out.before ++ out.after =
    ap (filter (λ other. not (same_watch w other))) out.is ∙ without_middle (same_watch w) w (same_itself w) (other_watch w) out.before out.after parts.0 parts.1 in
    let done = linked heads2 next2 lists2 count2 lead2 watches2 in
    record {
      linked = done.linked;
      lists = two_set lists (lists_of heads2 next2) at to (without w (get_or lists at [])) w in_lists to_lists differ (done.is ∙ ap (λ ls. set ls to (w ∷ get_or ls to [])) (ap (set lists at) (sym left)));
      same_watches = subst (λ ls. IsPermutation (joined lists) (joined ls)) (sym done.is) moves;
    }

pub moved_from : (heads heads1 heads2 : List (Option Watch)) (next next1 next2 : List (List (Option Watch))) (old : List (List Watch)) (at to : ℕ) (before : Option Watch) (w : Watch)
    → IsLinked heads next → lists_of heads next ≡ old → at < length old → to < length old → at ≢ to → StandsAfter (get_or old at []) before w → Cuts heads next at before w heads1 next1
    → heads2 ≡ set heads1 to (Some w) → Relinks next1 w (get_or heads1 to None) next2 → Moved heads2 next2 old at to w
moved_from heads heads1 heads2 next next1 next2 old at to before w is old_is in_lists to_lists differ stands cuts heads2_is r =
    let lists = lists_of heads next in
    let done = moved heads heads1 heads2 next next1 next2 at to before w is (subst (λ ls. at < length ls) (sym old_is) in_lists) (subst (λ ls. to < length ls) (sym old_is) to_lists) differ
    (subst (λ ls. StandsAfter (get_or ls at []) before w) (sym old_is) stands) cuts heads2_is r in
    subst (λ ls. Moved heads2 next2 ls at to w) old_is done

-- links after a row of links was added for a new clause
LeadsTo-below : (old new : List (List (Option Watch))) (clauses : ℕ) → ((w : Watch) → w.clause < clauses → next_of new w ≡ next_of old w) → (from : Option Watch) (xs : List Watch) → All (IsBelow clauses) xs → LeadsTo old from xs → LeadsTo new from xs
LeadsTo-below old new clauses same from [] below way = way
LeadsTo-below old new clauses same from (x ∷ xs) below way = (
  way.0,
  subst (λ after. LeadsTo new after xs) (sym (same x (All-head (IsBelow clauses) x xs below).0)) (LeadsTo-below old new clauses same (next_of old x) xs (All-tail (IsBelow clauses) x xs below) way.1),
)

misses_above : (clauses number : ℕ) (xs : List Watch) → All (IsBelow clauses) xs → Misses (slot_of clauses number) xs
misses_above clauses number [] below = tt
misses_above clauses number (x ∷ xs) below = ((λ e. above clauses number x (All-head (IsBelow clauses) x xs below) (sym e)), misses_above clauses number xs (All-tail (IsBelow clauses) x xs below))

misses_put : (v w : Watch) (lists : List (List Watch)) (at : ℕ) → at < length lists → v ≢ w → ((place : ℕ) → Misses v (get_or lists place [])) → (place : ℕ) → Misses v (get_or (set lists at (w ∷ get_or lists at [])) place [])
misses_put v w lists at within differs misses place =
    elim (cases_eq place at) [
      | inl e ↦ rw (e, get_or-set_same lists at (w ∷ get_or lists at []) [] within) (differs, misses at)
      | inr other ↦ rw (get_or-set_other lists at place (w ∷ get_or lists at []) [] other) (misses place)
    ]

-- the lists after a clause was added
pub record Added (heads : List (Option Watch)) (next : List (List (Option Watch))) (old : List (List Watch)) (first second clauses : ℕ) : Type 0 where
  pub linked : IsLinked heads next
  pub lists : TwoSet old (lists_of heads next) first second (slot_of clauses 0 ∷ get_or old first []) (slot_of clauses 1 ∷ get_or old second [])
  pub watches : HasClauses (clauses + 1) (lists_of heads next)

added : (heads heads1 heads2 : List (Option Watch)) (next next1 next2 next3 : List (List (Option Watch))) (row : List (Option Watch)) (first second : ℕ) (clauses : ℕ)
    → IsLinked heads next → first < length (lists_of heads next) → second < length (lists_of heads next) → first ≢ second → clauses ≡ length next → next1 ≡ next ++ row ∷ []
    → heads1 ≡ set heads first (Some (slot_of clauses 0)) → Relinks next1 (slot_of clauses 0) (get_or heads first None) next2
    → heads2 ≡ set heads1 second (Some (slot_of clauses 1)) → Relinks next2 (slot_of clauses 1) (get_or heads1 second None) next3
    → Added heads2 next3 (lists_of heads next) first second clauses
added heads heads1 heads2 next next1 next2 next3 row first second clauses is first_lists in_second differ clauses_is next1_is heads1_is r1 heads2_is r2 =
    let lists = lists_of heads next in
    let w0 = slot_of clauses 0 in
    let w1 = slot_of clauses 1 in
    let watches : HasClauses clauses lists = subst (λ n. HasClauses n lists) (sym clauses_is) is.watches in
    let below : All (IsBelow clauses) (joined lists) = watches_below clauses lists watches in
    let same : (w : Watch) → w.clause < clauses → next_of next1 w ≡ next_of next w = λ w within.
    ap (λ l. get_or l w.slot None) (ap (λ l. get_or l w.clause []) next1_is ∙ get_or_append_left next (row ∷ []) [] w.clause (subst (λ n. w.clause < n) clauses_is within)) in
    let count : length lists ≡ length heads = lists_count heads next in
    let in_first : first < length heads = omega (arith, count) in
    let lead0 : AllLead heads next1 lists = λ place. LeadsTo-below next next1 clauses same (get_or heads place None) (get_or lists place []) (all_each (IsBelow clauses) lists place below) (is.lead place) in
    let misses0 : (place : ℕ) → Misses w0 (get_or lists place []) = λ place. misses_above clauses 0 (get_or lists place []) (all_each (IsBelow clauses) lists place below) in
    let misses1 : (place : ℕ) → Misses w1 (get_or lists place []) = λ place. misses_above clauses 1 (get_or lists place []) (all_each (IsBelow clauses) lists place below) in
    let lists1 = set lists first (w0 ∷ get_or lists first []) in
    let lead1 : AllLead heads1 next2 lists1 = rw heads1_is (put_first heads next1 next2 lists first w0 lead0 r1 in_first first_lists misses0) in
    let same_heads : length heads1 ≡ length heads = ap length heads1_is ∙ length-set heads first (Some w0) in
    let count1 : length lists1 ≡ length heads1 = length-set lists first (w0 ∷ get_or lists first []) ∙ count ∙ sym same_heads in
    let second_heads : second < length heads1 = omega (arith, same_heads, count) in
    let second_lists : second < length lists1 = omega (arith, count1) in
    let lists2 = set lists1 second (w1 ∷ get_or lists1 second []) in
    let lead2 : AllLead heads2 next3 lists2 =
    rw heads2_is (put_first heads1 next2 next3 lists1 second w1 lead1 r2 second_heads second_lists (misses_put w1 w0 lists first first_lists (λ e. two_slots clauses (sym e)) misses1)) in
    let count2 : length lists2 ≡ length heads2 = length-set lists1 second (w1 ∷ get_or lists1 second []) ∙ count1 ∙ sym (ap length heads2_is ∙ length-set heads1 second (Some w1)) in
    let all = joined lists in
    let moves : IsPermutation (slots_of clauses ++ w0 ∷ w1 ∷ []) (joined lists2) =
    IsPermutation-trans (slots_of clauses ++ w0 ∷ w1 ∷ []) (all ++ w0 ∷ w1 ∷ []) (joined lists2) (IsPermutation-append_left (w0 ∷ w1 ∷ []) (slots_of clauses) all watches)
    (IsPermutation-trans (all ++ w0 ∷ w1 ∷ []) (w0 ∷ w1 ∷ all) (joined lists2) (IsPermutation-append_comm all (w0 ∷ w1 ∷ []))
    (IsPermutation-trans (w0 ∷ w1 ∷ all) (w1 ∷ w0 ∷ all) (joined lists2) (IsPermutation-middle (w0 ∷ []) w1 all)
    (IsPermutation-trans (w1 ∷ w0 ∷ all) (w1 ∷ joined lists1) (joined lists2) (IsPermutation-cons w1 (w0 ∷ all) (joined lists1) (joined_with lists first w0 first_lists)) (joined_with lists1 second w1 second_lists)))) in
    let watches2 : HasClauses (clauses + 1) lists2 = rw add-one moves in
    let total : clauses + 1 ≡ length next3 = sym (r2.count ∙ r1.count ∙ ap length next1_is ∙ length-append next (row ∷ []) ∙ ap (λ n. n + 1) (sym clauses_is)) in
    let done = linked heads2 next3 lists2 count2 lead2 (subst (λ n. HasClauses n lists2) total watches2) in
    record {
      linked = done.linked;
      lists = two_set lists (lists_of heads2 next3) first second (w0 ∷ get_or lists first []) w1 first_lists in_second differ done.is;
      watches = subst (HasClauses (clauses + 1)) (sym done.is) watches2;
    }

pub added_from : (heads heads1 heads2 : List (Option Watch)) (next next1 next2 next3 : List (List (Option Watch))) (row : List (Option Watch)) (old : List (List Watch)) (first second : ℕ) (clauses : ℕ)
    → IsLinked heads next → lists_of heads next ≡ old → first < length old → second < length old → first ≢ second → clauses ≡ length next → next1 ≡ next ++ row ∷ []
    → heads1 ≡ set heads first (Some (slot_of clauses 0)) → Relinks next1 (slot_of clauses 0) (get_or heads first None) next2
    → heads2 ≡ set heads1 second (Some (slot_of clauses 1)) → Relinks next2 (slot_of clauses 1) (get_or heads1 second None) next3
    → Added heads2 next3 old first second clauses
added_from heads heads1 heads2 next next1 next2 next3 row old first second clauses is old_is in_first in_second differ clauses_is next1_is heads1_is r1 heads2_is r2 =
    subst (λ ls. Added heads2 next3 ls first second clauses) old_is
    (added heads heads1 heads2 next next1 next2 next3 row first second clauses is (subst (λ ls. first < length ls) (sym old_is) in_first) (subst (λ ls. second < length ls) (sym old_is) in_second) differ clauses_is next1_is heads1_is r1 heads2_is r2)

-- lists without watches
no_heads : (count place : ℕ) → get_or (replicate {A = Option Watch} count None) place None ≡ None
no_heads zero place = refl
no_heads (suc count) zero = refl
no_heads (suc count) (suc place) = no_heads count place

pub linked_none : (count : ℕ) (heads : List (Option Watch)) (next : List (List (Option Watch))) → heads ≡ replicate count None → next ≡ [] → Linked heads next (replicate count [])
linked_none count heads next heads_are none =
    let lists = replicate {A = List Watch} count [] in
    linked heads next lists (length-replicate count [] ∙ sym (ap length heads_are ∙ length-replicate count None))
    (λ place. rw (no_watches count place) (ap (λ hs. get_or hs place None) heads_are ∙ no_heads count place))
    (rw none (subst (IsPermutation []) (sym (joined_none count)) (IsPermutation-refl [])))

pub two_more : (n : ℕ) (heads heads1 heads2 : List (Option Watch)) → heads ≡ replicate (2 * n) None → heads1 ≡ heads ++ None ∷ [] → heads2 ≡ heads1 ++ None ∷ [] → heads2 ≡ replicate (2 * (n + 1)) None
two_more n heads heads1 heads2 are one two =
    let next : heads1 ≡ replicate (2 * n + 1) None = one ∙ ap (λ l. l ++ None ∷ []) are ∙ replicate_more (2 * n) None in
    two ∙ ap (λ l. l ++ None ∷ []) next ∙ replicate_more (2 * n + 1) None ∙ ap (λ k. replicate k None) (omega arith)

-- empty lists more
more_heads : (count : ℕ) (heads : List (Option Watch)) (place : ℕ) → get_or (heads ++ replicate count None) place None ≡ get_or heads place None
more_heads count [] place = no_heads count place
more_heads count (h ∷ hs) zero = refl
more_heads count (h ∷ hs) (suc place) = more_heads count hs place

pub reaches : (n held : ℕ) (heads heads1 : List (Option Watch)) (next : List (List (Option Watch))) (old : List (List Watch)) → IsLinked heads next → lists_of heads next ≡ old → length old ≤ n → held ≡ length heads → heads1 ≡ take n heads ++ replicate (n - held) None
    → Linked heads1 next (old ++ replicate (n - length old) [])
reaches n held heads heads1 next old is old_is enough held_is heads1_is =
    let same : length old ≡ length heads = ap length (sym old_is) ∙ lists_count heads next in
    let count : ℕ = n - length old in
    let grown : heads1 ≡ heads ++ replicate count None = heads1_is ∙ ap (λ hs. hs ++ replicate (n - held) None) (take_all n heads (omega arith)) ∙ ap (λ k. heads ++ replicate (n - k) None) (held_is ∙ sym same) in
    let lead : AllLead heads1 next (old ++ replicate count []) = λ place.
    rw (grown, more_heads count heads place, more_lists count old place) (subst (λ ls. LeadsTo next (get_or heads place None) (get_or ls place [])) old_is (is.lead place)) in
    let lengths : length (old ++ replicate count []) ≡ length heads1 = length-append old (replicate count []) ∙ omega (arith, length-replicate {A = List Watch} count [], ap length grown, length-append heads (replicate count None), length-replicate {A = Option Watch} count None) in
    let watches : HasClauses (length next) (old ++ replicate count []) = subst (IsPermutation (slots_of (length next))) (sym (joined_more count old)) (subst (HasClauses (length next)) old_is is.watches) in
    linked heads1 next (old ++ replicate count []) lengths lead watches
