-- Trails as numbers: what makes them rise.
use Rattle.std.proofs.Common.{◌≡◌, ℕ, zero, suc, ◌≤◌, ◌<◌, ◌*◌, ◌^◌, Bool, true, false, cond, leb, List, [], ◌∷◌, ◌++◌, Option, Some, None, is_none, take, drop, length, slice_get, refl, sym, subst, ap, arith, ◌⊎◌, inl, inr}
use Rattle.std.proofs.Math.Nat.{pow-succ'}
use Rattle.std.proofs.lemmas.Bool.{cases_lt, leb-false}
use Rattle.std.proofs.lemmas.List.{take_all, length-take}
use Rattle.std.proofs.lemmas.Option.{none-some, same_Some}
use Rattle.sat_solver.specs.declared.entry.Entry.{Entry}
use Rattle.sat_solver.specs.Entries.{AllAlong, decisions, up_to}
use Rattle.sat_solver.specs.Measures.{digit, weight}
use Rattle.sat_solver.proofs.TrailLemmas.{decisions-push}
use Rattle.sat_solver.proofs.LevelLemmas.{place_up_to}

digit_low : (entry : Entry) → 1 ≤ digit entry
digit_low entry = elim (is_none entry.reason) as (λ b. 1 ≤ cond b 1 2) [ true ↦ omega arith | false ↦ omega arith ]

digit_high : (entry : Entry) → digit entry ≤ 2
digit_high entry = elim (is_none entry.reason) as (λ b. cond b 1 2 ≤ 2) [ true ↦ omega arith | false ↦ omega arith ]

pub power_above : (n : ℕ) → 0 < 3 ^ n
power_above zero = omega arith
power_above (suc n) = let rest = power_above n in omega (arith, rest, pow-succ' 3 n)

times_low : (d p : ℕ) → 1 ≤ d → p ≤ d * p
times_low d p h = grind arith

times_high : (d p : ℕ) → d ≤ 2 → d * p ≤ 2 * p
times_high d p h = grind arith

pub weight_below : (vars : ℕ) (entries : List Entry) → weight vars entries < 3 ^ vars
weight_below vars [] = power_above vars
weight_below zero (x ∷ xs) = omega arith
weight_below (suc vars) (x ∷ xs) =
    let rest = weight_below vars xs in
    let most = times_high (digit x) (3 ^ vars) (digit_high x) in
    let triple : 3 ^ suc vars ≡ 3 * 3 ^ vars = pow-succ' 3 vars in
    omega (arith, rest, most, triple)

pub weight_more : (vars : ℕ) (entries added : List Entry) → weight vars entries ≤ weight vars (entries ++ added)
weight_more vars [] added = omega arith
weight_more zero (x ∷ xs) added = omega arith
weight_more (suc vars) (x ∷ xs) added = let rest = weight_more vars xs added in omega (arith, rest)

pub weight_push : (vars : ℕ) (entries : List Entry) (y : Entry) → length entries < vars → weight vars entries < weight vars (entries ++ y ∷ [])
weight_push zero entries y h = absurd (omega arith)
weight_push (suc vars) [] y h = let some = power_above vars in let most = times_low (digit y) (3 ^ vars) (digit_low y) in omega (arith, some, most)
weight_push (suc vars) (x ∷ xs) y h = let rest = weight_push vars xs y (omega arith) in omega (arith, rest)

-- a literal that was forced in the place of a decision
pub weight_turn : (vars : ℕ) (entries rest : List Entry) (decision forced : Entry) → digit decision ≡ 1 → digit forced ≡ 2 → length entries < vars → weight vars (entries ++ decision ∷ rest) < weight vars (entries ++ forced ∷ [])
weight_turn zero entries rest decision forced one two h = absurd (omega arith)
weight_turn (suc vars) [] rest decision forced one two h =
    let below = weight_below vars rest in
    let first : digit decision * 3 ^ vars ≡ 1 * 3 ^ vars = ap (λ d. d * 3 ^ vars) one in
    let second : digit forced * 3 ^ vars ≡ 2 * 3 ^ vars = ap (λ d. d * 3 ^ vars) two in
    omega (arith, below, first, second)
weight_turn (suc vars) (x ∷ xs) rest decision forced one two h = let less = weight_turn vars xs rest decision forced one two (omega arith) in omega (arith, less)

-- the entry behind those up to a level is above it
pub past_up_to : (entries : List Entry) (level n : ℕ) (x : Entry) → up_to level entries ≡ take n entries → slice_get entries n ≡ Some x → level < x.level
past_up_to [] level n x e at = absurd (none-some x at)
past_up_to (y ∷ ys) level n x e at = by n (leb y.level level) refl e at (λ m. past_up_to ys level m x)
  where
    by : (n : ℕ) (t : Bool) → leb y.level level ≡ t → cond t (y ∷ up_to level ys) (up_to level ys) ≡ take n (y ∷ ys) → slice_get (y ∷ ys) n ≡ Some x → ((m : ℕ) → up_to level ys ≡ take m ys → slice_get ys m ≡ Some x → level < x.level) → level < x.level
    by zero true f e at rest = cc
    by zero false f e at rest = subst (λ (z : Entry). level < z.level) (same_Some y x at) (leb-false y.level level f)
    by (suc m) true f e at rest = rest m (cc) at
    by (suc m) false f e at rest =
        let low = place_up_to ys level 0 y (ap (λ xs. slice_get xs 0) e) in
        let high = leb-false y.level level f in
        absurd (omega (arith, low.2, high))

-- a jump back that asserts a literal goes farther
pub jump_farther : (vars : ℕ) (entries : List Entry) (levels : AllAlong (λ before entry. entry.level ≡ decisions (before ++ entry ∷ [])) entries) (level n : ℕ) (forced : Entry) → up_to level entries ≡ take n entries → n ≤ length entries → level ≡ decisions (take n entries) → level < decisions entries → length entries ≤ vars → digit forced ≡ 2 → weight vars entries < weight vars (up_to level entries ++ forced ∷ [])
jump_farther vars entries levels level n forced is short here below many two = by (cases_lt n (length entries))
  where
    at_place : (xs : List Entry) (k : ℕ) → k < length xs → (x : Entry) × (slice_get xs k ≡ Some x) × (xs ≡ take k xs ++ x ∷ drop (suc k) xs)
    at_place [] k h = absurd (omega arith)
    at_place (x ∷ xs) zero h = (x, refl, refl)
    at_place (x ∷ xs) (suc k) h = let rest = at_place xs k (omega arith) in (rest.0, rest.1, ap (λ ys. x ∷ ys) rest.2)

    decided : (x : Entry) → slice_get entries n ≡ Some x → (o : Option ℕ) → x.reason ≡ o → ◌≡◌ {A = ℕ} (cond (is_none o) 1 2) 1
    decided x at None e = refl
    decided x at (Some r) e =
        let above = past_up_to entries level n x is at in
        let count = decisions-push (take n entries) x in
        let zero_more : ◌≡◌ {A = ℕ} (cond (is_none x.reason) 1 0) 0 = ap (λ o. cond (is_none o) 1 0) e in
        absurd (omega (arith, above, count, zero_more, levels n x at, here))

    by : (n < length entries) ⊎ (length entries ≤ n) → weight vars entries < weight vars (up_to level entries ++ forced ∷ [])
    by (inr h) = absurd (omega (arith, below, here, ap decisions (take_all n entries h)))
    by (inl h) =
        let x = at_place entries n h in
        let one : ◌≡◌ {A = ℕ} (digit x.0) 1 = decided x.0 x.1 x.0.reason refl in
        let less = weight_turn vars (take n entries) (drop (suc n) entries) x.0 forced one two (omega (arith, length-take n entries)) in
        subst (λ xs. weight vars xs < weight vars (up_to level entries ++ forced ∷ [])) (sym x.2) (subst (λ xs. weight vars (take n entries ++ x.0 ∷ drop (suc n) entries) < weight vars (xs ++ forced ∷ [])) (sym is) less)
