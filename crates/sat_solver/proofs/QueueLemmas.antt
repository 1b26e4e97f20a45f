-- The queue of a trail's variables.
use Rattle.std.proofs.Common.{◌≡◌, ℕ, ◌≤◌, ◌<◌, ◌-◌, Bool, List, ◌∷◌, Option, None, IsSome, All, Contains, length, get_or, refl, sym, subst, ap, ◌∙◌, arith}
use Rattle.std.proofs.lemmas.List.{get_or_at, get_or_default, length-append}
use Rattle.std.proofs.lemmas.List.Elements.{All-from_get_or}
use Rattle.std.proofs.lemmas.List.FromFn.{get_or-range_with_len, length-range_with_len}
use Rattle.std.proofs.lemmas.List.Sorted.{length_permutation, All-permutation, Contains-permutation, IsPermutation-sym}
use Rattle.sat_links.specs.Queues.{variables, IsQueue, HasValue, IsLastFree}

module _ (vars : ℕ) (queue : List ℕ) (is : IsQueue vars queue) where
  pub queue_length : length queue ≡ vars
  queue_length = length_permutation (variables vars) queue is ∙ length-range_with_len 1 vars

  in_variables : All (λ var. (1 ≤ var) × (var ≤ vars)) (variables vars)
  in_variables =
      All-from_get_or (λ var. (1 ≤ var) × (var ≤ vars)) (variables vars) 0 (λ k h.
      let within : k < vars = subst (λ n. k < n) (length-range_with_len 1 vars) h in
      let here = get_or-range_with_len 1 vars k 0 within in
      (omega (arith, here), omega (arith, here)))

  pub queue_within : All (λ var. (1 ≤ var) × (var ≤ vars)) queue
  queue_within = All-permutation (λ var. (1 ≤ var) × (var ≤ vars)) (variables vars) queue is in_variables

  pub last_within : (values : List (Option Bool)) (var : ℕ) → IsLastFree values queue var → (1 ≤ var) × (var ≤ vars)
  last_within values var last =
      let k : ℕ = length last.before in
      let inside : k < length queue = omega (arith, ap length last.place, length-append last.before (var ∷ last.after)) in
      let here : get_or queue k 0 ≡ var = ap (λ q. get_or q k 0) last.place ∙ get_or_at last.before var last.after 0 k refl in
      subst (λ v. (1 ≤ v) × (v ≤ vars)) here (queue_within k 0 inside)

  -- each variable of the queue has a value where each value is there
  module _ (values : List (Option Bool)) (many : length values ≡ vars) where
    read : (k : ℕ) (d : Option Bool) → k < vars → get_or values (get_or (variables vars) k 0 - 1) None ≡ get_or values k d
    read k d h =
        let here = get_or-range_with_len 1 vars k 0 h in
        ap (λ i. get_or values i None) (omega (arith, here)) ∙ get_or_default values k None d (omega (arith, many))

    pub all_valued : All (HasValue values) queue → All IsSome values
    all_valued all = λ k d h.
        let there = All-permutation (HasValue values) queue (variables vars) (IsPermutation-sym (variables vars) queue is) all k 0 (subst (λ n. k < n) (sym (length-range_with_len 1 vars)) (omega (arith, many))) in
        subst (IsSome {T = Bool}) (read k d (omega (arith, many))) there

    pub queue_valued : All IsSome values → All (HasValue values) queue
    queue_valued all =
        All-permutation (HasValue values) (variables vars) queue is (All-from_get_or (HasValue values) (variables vars) 0 (λ k h.
        let within : k < vars = subst (λ n. k < n) (length-range_with_len 1 vars) h in
        subst (IsSome {T = Bool}) (sym (read k None within)) (all k None (omega (arith, many)))))

  -- each of the variables is in the queue
  pub in_queue : (var : ℕ) → 1 ≤ var → var ≤ vars → Contains queue var
  in_queue var low high =
      let here : get_or (variables vars) (var - 1) var ≡ var = get_or-range_with_len 1 vars (var - 1) var (omega arith) ∙ omega arith in
      Contains-permutation (variables vars) queue var is (var - 1, omega (arith, length-range_with_len 1 vars), here)
