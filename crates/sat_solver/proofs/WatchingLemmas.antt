-- Stores that watch: another literal watched, and a clause more.
use Rattle.std.proofs.Common.{◌≡◌, ◌≢◌, ℕ, zero, suc, ◌+◌, ◌-◌, ◌*◌, ◌<◌, ◌≤◌, Bool, true, false, not, cond, eqb, List, [], ◌∷◌, ◌++◌, Some, IsTrue, replicate, get_or, set, length, slice_get, All, refl, sym, ap, subst, ◌∙◌, inl, inr, ◌⊎◌, arith}
use Rattle.std.specs.List.{IsDistinct}
use Rattle.std.specs.List.Sorted.{IsPermutation}
use Rattle.std.proofs.lemmas.Bool.{cases_eq, cases_lt, false≢true}
use Rattle.std.proofs.lemmas.List.{length-set, length_push, length-append, length-replicate, get_or_past}
use Rattle.std.proofs.lemmas.List.Sorted.{IsPermutation-trans, IsPermutation-refl}
use Rattle.std.proofs.lemmas.Map.Keys.{IsDistinct-head}
use Rattle.std.proofs.lemmas.Option.{same_Some, none-some}
use Rattle.sat_clauses.specs.declared.literal.Lit.{Lit}
use Rattle.sat_clauses.specs.Literals.{IsLiteral, same_literal}
use Rattle.sat_clauses.specs.ClauseLists.{has, without as clauses_without, IsClause}
use Rattle.sat_clauses.proofs.SetLemmas.{one_literal, same_itself}
use Rattle.sat_links.specs.declared.watches.Watch.{Watch}
use Rattle.sat_links.specs.Watches.{place_of, IsListed, watches_of, joined, slot_of, slots_of, HasClauses, without, OthersStay}
use Rattle.sat_links.proofs.Facts.{stays_without, was_with, is_listed, more_lists, joined_more}
use Rattle.sat_solver.specs.declared.pair.Pair.{Pair}
use Rattle.sat_solver.specs.Keeping.{KeepsClauses}
use Rattle.sat_solver.specs.Watching.{watched, guard, moved, IsPairOf, Watches, StandsIn, IsShort, IsSeenTo, Watching}
use Rattle.sat_solver.proofs.ClauseLemmas.{in_without, has-at, All-has}
use Rattle.sat_solver.proofs.AlongLemmas.{All-at, at_front, at_push, at_end}

pub lit_cases : (a b : Lit) → (a ≡ b) ⊎ (a ≢ b)
lit_cases a b = by (same_literal a b) refl
  where
    by : (t : Bool) → same_literal a b ≡ t → (a ≡ b) ⊎ (a ≢ b)
    by true e = inl (one_literal a b e)
    by false e = inr (λ same. false≢true (sym e ∙ ap (same_literal a) (sym same) ∙ same_itself a))

pub other_literal : (a b : Lit) → a ≢ b → same_literal a b ≡ false
other_literal a b differ = by (same_literal a b) refl
  where
    by : (t : Bool) → same_literal a b ≡ t → t ≡ false
    by true e = absurd (differ (one_literal a b e))
    by false e = refl

-- two slots are one, or are the two of a pair
pub slot_cases : (s t : ℕ) → s < 2 → t < 2 → (s ≡ t) ⊎ (eqb s 0 ≡ not (eqb t 0))
slot_cases zero zero p q = inl refl
slot_cases zero (suc zero) p q = inr refl
slot_cases (suc zero) zero p q = inr refl
slot_cases (suc zero) (suc zero) p q = inl refl
slot_cases (suc (suc s)) t p q = absurd (omega arith)
slot_cases s (suc (suc t)) p q = absurd (omega arith)

flipped : (b : Bool) (x y : Lit) → cond b x y ≡ cond (not b) y x
flipped true x y = refl
flipped false x y = refl

pub guard_other : (pair : Pair) (s t : ℕ) → eqb s 0 ≡ not (eqb t 0) → watched pair t ≡ guard pair s
guard_other pair s t e = flipped (eqb t 0) pair.first pair.second ∙ ap (λ b. cond b pair.second pair.first) (sym e)

moved_here : (pair : Pair) (s : ℕ) (lit : Lit) → watched (moved pair s lit) s ≡ lit
moved_here pair s lit = by (eqb s 0)
  where
    by : (b : Bool) → cond b (cond b lit pair.first) (cond b pair.second lit) ≡ lit
    by true = refl
    by false = refl

moved_other : (pair : Pair) (s t : ℕ) (lit : Lit) → eqb s 0 ≡ not (eqb t 0) → watched (moved pair s lit) t ≡ watched pair t
moved_other pair s t lit e = by (eqb s 0) (eqb t 0) e
  where
    by : (b c : Bool) → b ≡ not c → cond c (cond b lit pair.first) (cond b pair.second lit) ≡ cond c pair.first pair.second
    by true true e = absurd (false≢true (sym e))
    by true false e = refl
    by false true e = refl
    by false false e = absurd (false≢true e)

pub set_here : {X : Type 0} (xs : List X) (k : ℕ) (x y : X) → slice_get xs k ≡ Some x → slice_get (set xs k y) k ≡ Some y
set_here [] k x y at = cc
set_here (z ∷ xs) zero x y at = refl
set_here (z ∷ xs) (suc k) x y at = set_here xs k x y at

set_apart : {X : Type 0} (xs : List X) (k j : ℕ) (y : X) → j ≢ k → slice_get (set xs k y) j ≡ slice_get xs j
set_apart [] k j y differ = refl
set_apart (z ∷ xs) zero zero y differ = absurd (differ refl)
set_apart (z ∷ xs) zero (suc j) y differ = refl
set_apart (z ∷ xs) (suc k) zero y differ = refl
set_apart (z ∷ xs) (suc k) (suc j) y differ = set_apart xs k j y (λ e. differ (ap suc e))

pub pairs_apart : (pairs : List Pair) (k j : ℕ) (pair : Pair) → j ≢ k → slice_get (set pairs k pair) j ≡ slice_get pairs j
pairs_apart pairs k j pair differ = set_apart pairs k j pair differ

one_lit : (pairs : List Pair) (a b : Lit) (v w : Watch) → v ≡ w → Watches pairs a v → Watches pairs b w → a ≡ b
one_lit pairs a b v w same p q =
    let here : slice_get pairs w.clause ≡ Some p.pair = ap (λ x. slice_get pairs x.clause) (sym same) ∙ p.found in
    let pair : p.pair ≡ q.pair = same_Some p.pair q.pair (sym here ∙ q.found) in
    sym p.is ∙ ap (λ x. watched p.pair x.slot) same ∙ ap (λ x. watched x w.slot) pair ∙ q.is

-- the clause of a pair has the literal that guards a slot
pub guard_in : (clauses : List (List Lit)) (pair : Pair) (slot : ℕ) (clause : List Lit) → IsPairOf clauses pair → slice_get clauses pair.place ≡ Some clause → IsTrue (has clause (guard pair slot))
guard_in clauses pair slot clause is at = by (eqb slot 0)
  where
    same : is.clause ≡ clause
    same = same_Some is.clause clause (sym is.found ∙ at)

    by : (b : Bool) → IsTrue (has clause (cond b pair.second pair.first))
    by true = subst (λ c. IsTrue (has c pair.second)) same is.second
    by false = subst (λ c. IsTrue (has c pair.first)) same is.first

-- a watch moves to another literal
module _ (clauses : List (List Lit)) (vars : ℕ) (pairs : List Pair) (lists now_lists : List (List Watch)) (short : List ℕ) (is : Watching clauses vars pairs lists short)
    (lit to : Lit) (watch : Watch) (pair : Pair) (found : slice_get pairs watch.clause ≡ Some pair) (of_lit : Watches pairs lit watch)
    (new : to ≢ lit) (other : to ≢ guard pair watch.slot) (there : (clause : List Lit) → slice_get clauses pair.place ≡ Some clause → IsTrue (has clause to))
    (left : watches_of now_lists lit ≡ without watch (watches_of lists lit)) (front : watches_of now_lists to ≡ watch ∷ watches_of lists to)
    (others : OthersStay lists now_lists lit to) (count : length now_lists ≡ length lists) (same_watches : IsPermutation (joined lists) (joined now_lists)) where
  now : List Pair
  now = set pairs watch.clause (moved pair watch.slot to)

  now_is : now ≡ set pairs watch.clause (moved pair watch.slot to)
  unfolding now
  now_is = refl

  at_now : slice_get now watch.clause ≡ Some (moved pair watch.slot to)
  unfolding now
  at_now = set_here pairs watch.clause pair (moved pair watch.slot to) found

  apart_now : (j : ℕ) → j ≢ watch.clause → slice_get now j ≡ slice_get pairs j
  unfolding now
  apart_now j differ = set_apart pairs watch.clause j (moved pair watch.slot to) differ

  pair_is : (v : Watch) → v.clause ≡ watch.clause → (p : Pair) → slice_get pairs v.clause ≡ Some p → p ≡ pair
  pair_is v e p at = same_Some p pair (sym at ∙ ap (slice_get pairs) e ∙ found)

  kept : (l : Lit) (v : Watch) → watch ≢ v → Watches pairs l v → Watches now l v
  kept l v differs w = by (cases_eq v.clause watch.clause)
    where
      by : (v.clause ≡ watch.clause) ⊎ (v.clause ≢ watch.clause) → Watches now l v
      by (inr apart) = record { pair = w.pair; found = apart_now v.clause apart ∙ w.found; is = w.is; slot = w.slot }
      by (inl e) = elim (slot_cases watch.slot v.slot of_lit.slot w.slot) [
        | inl same ↦ absurd (differs (λ j. record { clause = sym e j; slot = same j }))
        | inr apart ↦ record {
          pair = moved pair watch.slot to;
          found = ap (slice_get now) e ∙ at_now;
          is = moved_other pair watch.slot v.slot to apart ∙ ap (λ p. watched p v.slot) (sym (pair_is v e w.pair w.found)) ∙ w.is;
          slot = w.slot;
        }
      ]

  back : (l : Lit) (v : Watch) → Watches now l v → ((watch ≡ v) × (l ≡ to)) ⊎ ((watch ≢ v) × Watches pairs l v)
  back l v w = by (cases_eq v.clause watch.clause)
    where
      by : (v.clause ≡ watch.clause) ⊎ (v.clause ≢ watch.clause) → ((watch ≡ v) × (l ≡ to)) ⊎ ((watch ≢ v) × Watches pairs l v)
      by (inr apart) = inr ((λ e. apart (ap (λ x. x.clause) (sym e))), record { pair = w.pair; found = sym (apart_now v.clause apart) ∙ w.found; is = w.is; slot = w.slot })
      by (inl e) =
          let is_moved : w.pair ≡ moved pair watch.slot to = same_Some w.pair (moved pair watch.slot to) (sym w.found ∙ ap (slice_get now) e ∙ at_now) in
          elim (slot_cases watch.slot v.slot of_lit.slot w.slot) [
            | inl same ↦ inl ((λ j. record { clause = sym e j; slot = same j }), sym w.is ∙ ap (λ p. watched p v.slot) is_moved ∙ ap (watched (moved pair watch.slot to)) (sym same) ∙ moved_here pair watch.slot to)
            | inr apart ↦ inr (
              (λ same. differ_slots (ap (λ x. x.slot) same) apart),
              record {
                pair = pair;
                found = ap (slice_get pairs) e ∙ found;
                is = sym (moved_other pair watch.slot v.slot to apart) ∙ ap (λ p. watched p v.slot) (sym is_moved) ∙ w.is;
                slot = w.slot;
              },
            )
          ]
        where
          differ_slots : watch.slot ≡ v.slot → eqb watch.slot 0 ≡ not (eqb v.slot 0) → ⊥
          differ_slots same apart = no_flip (eqb v.slot 0) (ap (λ s. eqb s 0) (sym same) ∙ apart)
            where
              no_flip : (b : Bool) → b ≡ not b → ⊥
              no_flip true e = false≢true (sym e)
              no_flip false e = false≢true e

  was_listed : (l : Lit) → IsListed now_lists l → IsListed lists l
  was_listed l h = (h.0, subst (λ n. place_of l < n) count h.1)

  stands : (l : Lit) (v : Watch) → IsListed now_lists l → Watches now l v → StandsIn (watches_of now_lists l) v
  stands l v h w = elim (back l v w) [
    | inl (same, e) ↦ (0, ap (λ x. slice_get (watches_of now_lists x) 0) e ∙ ap (λ ls. slice_get ls 0) front ∙ ap (λ x. Some x) same)
    | inr (differs, old) ↦ by (is.watches l v (was_listed l h) old) differs (lit_cases l lit) (lit_cases l to)
  ]
    where
      by : StandsIn (watches_of lists l) v → watch ≢ v → (l ≡ lit) ⊎ (l ≢ lit) → (l ≡ to) ⊎ (l ≢ to) → StandsIn (watches_of now_lists l) v
      by at differs (inl e) _ =
          let moved_on = stays_without (watches_of lists l) watch v at.0 differs at.1 in
          (moved_on.0, ap (λ x. slice_get (watches_of now_lists x) moved_on.0) e ∙ ap (λ ls. slice_get ls moved_on.0) left ∙ ap (λ x. slice_get (without watch (watches_of lists x)) moved_on.0) (sym e) ∙ moved_on.1)
      by at differs (inr ne) (inl e) = (suc at.0, ap (λ x. slice_get (watches_of now_lists x) (suc at.0)) e ∙ ap (λ ls. slice_get ls (suc at.0)) front ∙ ap (λ x. slice_get (watches_of lists x) at.0) (sym e) ∙ at.1)
      by at differs (inr ne) (inr nf) = (at.0, ap (λ ls. slice_get ls at.0) (others l h.0 ne nf) ∙ at.1)

  in_front : (v : Watch) (k : ℕ) → IsListed lists to → slice_get (watch ∷ watches_of lists to) k ≡ Some v → Watches now to v
  in_front v zero h at =
      let same : watch ≡ v = same_Some watch v at in
      subst (Watches now to) same (record { pair = moved pair watch.slot to; found = at_now; is = moved_here pair watch.slot to; slot = of_lit.slot })
  in_front v (suc k) h at =
      let old = is.listed to v k h at in
      kept to v (λ same. new (one_lit pairs to lit v watch (sym same) old of_lit)) old

  stood : (l : Lit) (v : Watch) (k : ℕ) → IsListed now_lists l → slice_get (watches_of now_lists l) k ≡ Some v → Watches now l v
  stood l v k h at = by (lit_cases l lit) (lit_cases l to)
    where
      by : (l ≡ lit) ⊎ (l ≢ lit) → (l ≡ to) ⊎ (l ≢ to) → Watches now l v
      by _ (inl e) = subst (λ x. Watches now x v) (sym e) (in_front v k (subst (IsListed lists) e (was_listed l h)) (ap (λ ls. slice_get ls k) (sym front) ∙ ap (λ x. slice_get (watches_of now_lists x) k) (sym e) ∙ at))
      by (inl e) (inr nf) =
          let before = was_with (watches_of lists lit) watch v k (ap (λ ls. slice_get ls k) (sym left) ∙ ap (λ x. slice_get (watches_of now_lists x) k) (sym e) ∙ at) in
          let old : Watches pairs l v = is.listed l v before.1.0 (was_listed l h) (ap (λ x. slice_get (watches_of lists x) before.1.0) e ∙ before.1.1) in
          kept l v before.0 old
      by (inr ne) (inr nf) =
          let old : Watches pairs l v = is.listed l v k (was_listed l h) (ap (λ ls. slice_get ls k) (sym (others l h.0 ne nf)) ∙ at) in
          kept l v (λ same. ne (one_lit pairs l lit v watch (sym same) old of_lit)) old

  moved_pair : IsPairOf clauses (moved pair watch.slot to)
  moved_pair = by (eqb watch.slot 0) other
    where
      old : IsPairOf clauses pair
      old = is.paired watch.clause pair found

      by : (b : Bool) → to ≢ cond b pair.second pair.first → IsPairOf clauses (record { place = pair.place; first = cond b to pair.first; second = cond b pair.second to })
      by true ne = record { clause = old.clause; found = old.found; first = there old.clause old.found; second = old.second; differ = ne }
      by false ne = record { clause = old.clause; found = old.found; first = old.first; second = there old.clause old.found; differ = λ e. ne (sym e) }

  paired_now : (number : ℕ) (p : Pair) → slice_get now number ≡ Some p → IsPairOf clauses p
  paired_now number p at = by (cases_eq number watch.clause)
    where
      by : (number ≡ watch.clause) ⊎ (number ≢ watch.clause) → IsPairOf clauses p
      by (inr apart) = is.paired number p (sym (apart_now number apart) ∙ at)
      by (inl e) = subst (IsPairOf clauses) (same_Some (moved pair watch.slot to) p (sym at_now ∙ ap (slice_get now) (sym e) ∙ at)) moved_pair

  seen_to : (place : ℕ) → IsSeenTo short pairs place → IsSeenTo short now place
  seen_to place (inl h) = inl h
  seen_to place (inr h) = by (cases_eq h.0 watch.clause)
    where
      by : (h.0 ≡ watch.clause) ⊎ (h.0 ≢ watch.clause) → IsSeenTo short now place
      by (inr apart) = inr (h.0, h.1, apart_now h.0 apart ∙ h.2, h.3)
      by (inl e) =
          let p : h.1 ≡ pair = same_Some h.1 pair (sym h.2 ∙ ap (slice_get pairs) e ∙ found) in
          inr (watch.clause, moved pair watch.slot to, at_now, ap (λ x. x.place) (sym p) ∙ h.3)

  pub rewatched : Watching clauses vars (set pairs watch.clause (moved pair watch.slot to)) now_lists short
  rewatched = subst (λ ps. Watching clauses vars ps now_lists short) now_is (record {
    literals = count ∙ is.literals;
    numbers = subst (λ n. HasClauses n now_lists) (sym (ap length now_is ∙ length-set pairs watch.clause (moved pair watch.slot to))) (IsPermutation-trans (slots_of (length pairs)) (joined lists) (joined now_lists) is.numbers same_watches);
    paired = paired_now;
    watches = stands;
    listed = stood;
    shorts = is.shorts;
    all = λ place h. seen_to place (is.all place h);
  })

-- a clause more that watches two of its literals
more_pair : (clauses : List (List Lit)) (clause : List Lit) (pair : Pair) → IsPairOf clauses pair → IsPairOf (clauses ++ clause ∷ []) pair
more_pair clauses clause pair is = record { clause = is.clause; found = at_front clauses (clause ∷ []) pair.place is.clause is.found; first = is.first; second = is.second; differ = is.differ }

more_short : (clauses : List (List Lit)) (clause : List Lit) (place : ℕ) → IsShort clauses place → IsShort (clauses ++ clause ∷ []) place
more_short clauses clause place is = record { clause = is.clause; found = at_front clauses (clause ∷ []) place is.clause is.found; short = is.short }

module _ (clauses : List (List Lit)) (clause : List Lit) (vars : ℕ) (pairs : List Pair) (lists now_lists : List (List Watch)) (short : List ℕ) (is : Watching clauses vars pairs lists short)
    (first second : Lit) (in_first : IsTrue (has clause first)) (in_second : IsTrue (has clause second)) (differ : first ≢ second)
    (at_first_list : watches_of now_lists first ≡ slot_of (length pairs) 0 ∷ watches_of lists first) (at_second_list : watches_of now_lists second ≡ slot_of (length pairs) 1 ∷ watches_of lists second)
    (others : OthersStay lists now_lists first second) (count : length now_lists ≡ length lists) (each_once : HasClauses (length pairs + 1) now_lists) where
  added : Pair
  added = record { place = length clauses; first = first; second = second }

  added_is : added ≡ record { place = length clauses; first = first; second = second }
  unfolding added
  added_is = refl

  first_of : (v : Watch) → v ≡ slot_of (length pairs) 0 → Watches (pairs ++ added ∷ []) first v
  unfolding added
  first_of v e = subst (Watches (pairs ++ added ∷ []) first) (sym e) (record { pair = added; found = at_end pairs added; is = refl; slot = omega arith })

  second_of : (v : Watch) → v ≡ slot_of (length pairs) 1 → Watches (pairs ++ added ∷ []) second v
  unfolding added
  second_of v e = subst (Watches (pairs ++ added ∷ []) second) (sym e) (record { pair = added; found = at_end pairs added; is = refl; slot = omega arith })

  kept_more : (l : Lit) (v : Watch) → Watches pairs l v → Watches (pairs ++ added ∷ []) l v
  kept_more l v w = record { pair = w.pair; found = at_front pairs (added ∷ []) v.clause w.pair w.found; is = w.is; slot = w.slot }

  -- a watch is an old one, or one of the two that were added
  data Origin (l : Lit) (v : Watch) : Type 0 where
    old : Watches pairs l v → Origin l v
    new_first : v ≡ slot_of (length pairs) 0 → l ≡ first → Origin l v
    new_second : v ≡ slot_of (length pairs) 1 → l ≡ second → Origin l v

  origin : (l : Lit) (v : Watch) → Watches (pairs ++ added ∷ []) l v → Origin l v
  unfolding added
  origin l v w = by (at_push pairs added v.clause w.pair w.found)
    where
      by : ((v.clause < length pairs) × (slice_get pairs v.clause ≡ Some w.pair)) ⊎ ((v.clause ≡ length pairs) × (added ≡ w.pair)) → Origin l v
      by (inl h) = old (record { pair = w.pair; found = h.1; is = w.is; slot = w.slot })
      by (inr h) = slots v.slot refl w.slot
        where
          slots : (s : ℕ) → v.slot ≡ s → s < 2 → Origin l v
          slots zero e below = new_first (λ j. record { clause = h.0 j; slot = e j }) (sym w.is ∙ ap (λ p. watched p v.slot) (sym h.1) ∙ ap (watched added) e)
          slots (suc zero) e below = new_second (λ j. record { clause = h.0 j; slot = e j }) (sym w.is ∙ ap (λ p. watched p v.slot) (sym h.1) ∙ ap (watched added) e)
          slots (suc (suc s)) e below = absurd (omega arith)

  listed_before : (l : Lit) → IsListed now_lists l → IsListed lists l
  listed_before l h = (h.0, subst (λ n. place_of l < n) count h.1)

  stands_more : (l : Lit) (v : Watch) → IsListed now_lists l → Watches (pairs ++ added ∷ []) l v → StandsIn (watches_of now_lists l) v
  stands_more l v h w = from (origin l v w)
    where
      by : StandsIn (watches_of lists l) v → (l ≡ first) ⊎ (l ≢ first) → (l ≡ second) ⊎ (l ≢ second) → StandsIn (watches_of now_lists l) v
      by at (inl e) _ = (suc at.0, ap (λ x. slice_get (watches_of now_lists x) (suc at.0)) e ∙ ap (λ ls. slice_get ls (suc at.0)) at_first_list ∙ ap (λ x. slice_get (watches_of lists x) at.0) (sym e) ∙ at.1)
      by at (inr ne) (inl e) = (suc at.0, ap (λ x. slice_get (watches_of now_lists x) (suc at.0)) e ∙ ap (λ ls. slice_get ls (suc at.0)) at_second_list ∙ ap (λ x. slice_get (watches_of lists x) at.0) (sym e) ∙ at.1)
      by at (inr ne) (inr nf) = (at.0, ap (λ ls. slice_get ls at.0) (others l h.0 ne nf) ∙ at.1)

      from : Origin l v → StandsIn (watches_of now_lists l) v
      from (old w) = by (is.watches l v (listed_before l h) w) (lit_cases l first) (lit_cases l second)
      from (new_first same e) = (0, ap (λ x. slice_get (watches_of now_lists x) 0) e ∙ ap (λ ls. slice_get ls 0) at_first_list ∙ ap (λ x. Some x) (sym same))
      from (new_second same e) = (0, ap (λ x. slice_get (watches_of now_lists x) 0) e ∙ ap (λ ls. slice_get ls 0) at_second_list ∙ ap (λ x. Some x) (sym same))

  stood_more : (l : Lit) (v : Watch) (k : ℕ) → IsListed now_lists l → slice_get (watches_of now_lists l) k ≡ Some v → Watches (pairs ++ added ∷ []) l v
  stood_more l v k h at = by (lit_cases l first) (lit_cases l second)
    where
      in_first_list : (j : ℕ) → l ≡ first → slice_get (slot_of (length pairs) 0 ∷ watches_of lists first) j ≡ Some v → Watches (pairs ++ added ∷ []) l v
      in_first_list zero e there_at = subst (λ x. Watches (pairs ++ added ∷ []) x v) (sym e) (first_of v (sym (same_Some (slot_of (length pairs) 0) v there_at)))
      in_first_list (suc j) e there_at = kept_more l v (is.listed l v j (listed_before l h) (ap (λ x. slice_get (watches_of lists x) j) e ∙ there_at))

      in_second_list : (j : ℕ) → l ≡ second → slice_get (slot_of (length pairs) 1 ∷ watches_of lists second) j ≡ Some v → Watches (pairs ++ added ∷ []) l v
      in_second_list zero e there_at = subst (λ x. Watches (pairs ++ added ∷ []) x v) (sym e) (second_of v (sym (same_Some (slot_of (length pairs) 1) v there_at)))
      in_second_list (suc j) e there_at = kept_more l v (is.listed l v j (listed_before l h) (ap (λ x. slice_get (watches_of lists x) j) e ∙ there_at))

      by : (l ≡ first) ⊎ (l ≢ first) → (l ≡ second) ⊎ (l ≢ second) → Watches (pairs ++ added ∷ []) l v
      by (inl e) _ = in_first_list k e (ap (λ ls. slice_get ls k) (sym at_first_list) ∙ ap (λ x. slice_get (watches_of now_lists x) k) (sym e) ∙ at)
      by (inr ne) (inl e) = in_second_list k e (ap (λ ls. slice_get ls k) (sym at_second_list) ∙ ap (λ x. slice_get (watches_of now_lists x) k) (sym e) ∙ at)
      by (inr ne) (inr nf) = kept_more l v (is.listed l v k (listed_before l h) (ap (λ ls. slice_get ls k) (sym (others l h.0 ne nf)) ∙ at))

  added_pair : IsPairOf (clauses ++ clause ∷ []) added
  unfolding added
  added_pair = record { clause = clause; found = at_end clauses clause; first = in_first; second = in_second; differ = differ }

  paired_more : (number : ℕ) (p : Pair) → slice_get (pairs ++ added ∷ []) number ≡ Some p → IsPairOf (clauses ++ clause ∷ []) p
  paired_more number p at = elim (at_push pairs added number p at) [
    | inl (h, there) ↦ more_pair clauses clause p (is.paired number p there)
    | inr (e, same) ↦ subst (IsPairOf (clauses ++ clause ∷ [])) same added_pair
  ]

  all_more : (place : ℕ) → place < length (clauses ++ clause ∷ []) → IsSeenTo short (pairs ++ added ∷ []) place
  unfolding added
  all_more place h = by (cases_lt place (length clauses))
    where
      before : IsSeenTo short pairs place → IsSeenTo short (pairs ++ added ∷ []) place
      before (inl x) = inl x
      before (inr x) = inr (x.0, x.1, at_front pairs (added ∷ []) x.0 x.1 x.2, x.3)

      by : (place < length clauses) ⊎ (length clauses ≤ place) → IsSeenTo short (pairs ++ added ∷ []) place
      by (inl below) = before (is.all place below)
      by (inr past) = inr (length pairs, added, at_end pairs added, omega (arith, length_push clauses clause))

  pub pushed : Watching (clauses ++ clause ∷ []) vars (pairs ++ record { place = length clauses; first = first; second = second } ∷ []) now_lists short
  pushed = subst (λ p. Watching (clauses ++ clause ∷ []) vars (pairs ++ p ∷ []) now_lists short) added_is (record {
    literals = count ∙ is.literals;
    numbers = subst (λ n. HasClauses n now_lists) (sym (length_push pairs added)) each_once;
    paired = paired_more;
    watches = stands_more;
    listed = stood_more;
    shorts = λ k place at. more_short clauses clause place (is.shorts k place at);
    all = all_more;
  })

-- a clause more that watches nothing
pub pushed_short : (clauses : List (List Lit)) (clause : List Lit) (vars : ℕ) (pairs : List Pair) (lists : List (List Watch)) (short : List ℕ) → length clause < 2 → Watching clauses vars pairs lists short
    → Watching (clauses ++ clause ∷ []) vars pairs lists (short ++ length clauses ∷ [])
pushed_short clauses clause vars pairs lists short few is = record {
  literals = is.literals;
  numbers = is.numbers;
  paired = λ number p at. more_pair clauses clause p (is.paired number p at);
  watches = is.watches;
  listed = is.listed;
  shorts = λ k place at. shorts k place (at_push short (length clauses) k place at);
  all = λ place h. by place h (cases_lt place (length clauses));
}
  where
    shorts : (k place : ℕ) → ((k < length short) × (slice_get short k ≡ Some place)) ⊎ ((k ≡ length short) × (length clauses ≡ place)) → IsShort (clauses ++ clause ∷ []) place
    shorts k place (inl h) = more_short clauses clause place (is.shorts k place h.1)
    shorts k place (inr h) = subst (IsShort (clauses ++ clause ∷ [])) h.1 (record { clause = clause; found = at_end clauses clause; short = few })

    before : (place : ℕ) → IsSeenTo short pairs place → IsSeenTo (short ++ length clauses ∷ []) pairs place
    before place (inl x) = inl (x.0, at_front short (length clauses ∷ []) x.0 place x.1)
    before place (inr x) = inr x

    by : (place : ℕ) → place < length (clauses ++ clause ∷ []) → (place < length clauses) ⊎ (length clauses ≤ place) → IsSeenTo (short ++ length clauses ∷ []) pairs place
    by place h (inl below) = before place (is.all place below)
    by place h (inr past) =
        let same : length clauses ≡ place = omega (arith, length_push clauses clause) in
        inl (length short, subst (λ n. slice_get (short ++ length clauses ∷ []) (length short) ≡ Some n) same (at_end short (length clauses)))

-- no clauses
none_joined : (n : ℕ) → joined (replicate n []) ≡ []
none_joined zero = refl
none_joined (suc n) = none_joined n

none_in : (n k j : ℕ) (w : Watch) → slice_get (get_or (replicate n []) k []) j ≡ Some w → ⊥
none_in zero k j w at = cc
none_in (suc n) zero j w at = cc
none_in (suc n) (suc k) j w at = none_in n k j w at

no_pair : (pairs : List Pair) (k : ℕ) (p : Pair) → pairs ≡ [] → slice_get pairs k ≡ Some p → ⊥
no_pair [] k p e at = cc
no_pair (x ∷ xs) k p e at = cc

pub watching_none : (vars : ℕ) → Watching [] vars [] (replicate (2 * vars) []) []
watching_none vars = record {
  literals = length-replicate (2 * vars) [];
  numbers = subst (IsPermutation []) (sym (none_joined (2 * vars))) (IsPermutation-refl []);
  paired = λ number pair at. cc;
  watches = λ lit w h is. absurd (no_pair [] w.clause is.pair refl is.found);
  listed = λ lit w k h at. absurd (none_in (2 * vars) (place_of lit) k w at);
  shorts = λ k place at. cc;
  all = λ place h. absurd (omega arith);
}

-- the first two of distinct literals differ
pub distinct_two : (clause : List Lit) (d : Lit) → 2 ≤ length clause → IsDistinct same_literal clause → get_or clause 0 d ≢ get_or clause 1 d
distinct_two [] d h distinct = absurd (omega arith)
distinct_two (a ∷ []) d h distinct = absurd (omega arith)
distinct_two (a ∷ b ∷ rest) d h distinct = λ e. false≢true (sym (IsDistinct-head same_literal a (b ∷ rest) distinct).0 ∙ ap (same_literal a) (sym e) ∙ same_itself a)

-- a clause with nothing but one literal is short
pub alone_short : (clause : List Lit) (lit : Lit) → IsDistinct same_literal clause → clauses_without clause lit ≡ [] → length clause < 2
alone_short [] lit distinct none = omega arith
alone_short (a ∷ []) lit distinct none = omega arith
alone_short (a ∷ b ∷ rest) lit distinct none = by (same_literal lit a) refl (same_literal lit b) refl
  where
    left : (x : Lit) → IsTrue (has (a ∷ b ∷ rest) x) → same_literal lit x ≡ false → ⊥
    left x there other = false≢true (subst (λ ls. IsTrue (has ls x)) none (in_without (a ∷ b ∷ rest) lit x there other))

    by : (s : Bool) → same_literal lit a ≡ s → (t : Bool) → same_literal lit b ≡ t → length (a ∷ b ∷ rest) < 2
    by false e t f = absurd (left a (has-at (a ∷ b ∷ rest) 0 a (omega arith)) e)
    by true e false f = absurd (left b (has-at (a ∷ b ∷ rest) 1 a (omega arith)) f)
    by true e true f = absurd (distinct_two (a ∷ b ∷ rest) a (omega arith) distinct (sym (one_literal lit a e) ∙ one_literal lit b f))

-- room for more variables
module _ (clauses : List (List Lit)) (vars more : ℕ) (pairs : List Pair) (lists : List (List Watch)) (short : List ℕ) (is : Watching clauses vars pairs lists short) (keeps : KeepsClauses vars clauses) (up : vars ≤ more) where
  abbrev grown : List (List Watch)
  grown = lists ++ replicate (2 * more - length lists) []

  watched_within : (lit : Lit) (watch : Watch) → Watches pairs lit watch → (1 ≤ lit.var) × (lit.var ≤ vars)
  watched_within lit watch watches =
      let pair = is.paired watch.clause watches.pair watches.found in
      let literals = (All-at IsClause clauses watches.pair.place pair.clause keeps.each pair.found).literals in
      let low : IsTrue (has pair.clause lit) = subst (λ (l : Lit). IsTrue (has pair.clause l)) watches.is (by (eqb watch.slot 0) watches.pair pair) in
      ((All-has IsLiteral pair.clause lit literals low).0, All-has (λ l. l.var ≤ vars) pair.clause lit (All-at (λ c. All (λ l. l.var ≤ vars) c) clauses watches.pair.place pair.clause keeps.within pair.found) low)
    where
      by : (b : Bool) (p : Pair) → (of : IsPairOf clauses p) → IsTrue (has of.clause (cond b p.first p.second))
      by true p of = of.first
      by false p of = of.second

  pub reached : Watching clauses more pairs grown short
  reached = record {
    literals = length-append lists (replicate (2 * more - length lists) []) ∙ omega (arith, length-replicate {A = List Watch} (2 * more - length lists) [], is.literals);
    numbers = subst (IsPermutation (slots_of (length pairs))) (sym (joined_more (2 * more - length lists) lists)) is.numbers;
    paired = is.paired;
    watches = λ lit watch listed watches.
        let within = watched_within lit watch watches in
        subst (λ list. StandsIn list watch) (sym (more_lists (2 * more - length lists) lists (place_of lit))) (is.watches lit watch (is_listed vars lists lit is.literals within.0 within.1) watches);
    listed = λ lit watch k listed at. old lit watch k listed.0 (ap (λ list. slice_get list k) (sym (more_lists (2 * more - length lists) lists (place_of lit))) ∙ at);
    shorts = is.shorts;
    all = is.all;
  }
    where
      old : (lit : Lit) (watch : Watch) (k : ℕ) → 1 ≤ lit.var → slice_get (watches_of lists lit) k ≡ Some watch → Watches pairs lit watch
      old lit watch k low at = by (cases_lt (place_of lit) (length lists))
        where
          by : (place_of lit < length lists) ⊎ (length lists ≤ place_of lit) → Watches pairs lit watch
          by (inl below) = is.listed lit watch k (low, below) at
          by (inr past) = absurd (none-some watch (sym (ap (λ list. slice_get list k) (get_or_past lists (place_of lit) [] past)) ∙ at))
