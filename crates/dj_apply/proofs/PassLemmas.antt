-- One part more of the pass along the chain.
use Rattle.std.proofs.Common.{◌≡◌, ℕ, suc, ◌-◌, ◌≤◌, List, slice_get, Option, None, Some, Result, Ok, Err, Contains, refl, sym, ap, ◌∙◌, subst, arith}
use Rattle.std.specs.Prelude.{MatchOption, IfOk, OnOk}
use Rattle.std.specs.List.{flat_map}
use Rattle.std.specs.List.Sorted.{IsPermutation}
use Rattle.std.proofs.lemmas.Option.{slice_get-map}
use Rattle.dj_tree.specs.Trees.{Delta, Operation, Part, Source}
use Rattle.dj_tree.specs.declared.source.Instance.{Instance}
use Rattle.dj_calculus.specs.Accepted.{IsAccepted}
use Rattle.dj_calculus.specs.Configurations.{Configuration}
use Rattle.dj_calculus.specs.Instances.{IsNotAfter}
use Rattle.dj_calculus.specs.Parts.{chain}
use Rattle.dj_calculus.specs.Tables.{Table}
use Rattle.dj_calculus.proofs.Members.{mapped}
use Rattle.dj_calculus.proofs.Counting.{got_within}
use Rattle.dj_line.specs.Placing.{numbers_of, numbers_along}
use Rattle.dj_line.proofs.ActiveOrders.{active_part}
use Rattle.dj_product_laws.specs.OnePass.{Passed, and_part, StopsAt}
use Rattle.dj_product_laws.specs.PartFaults.{operations_in}
use Rattle.dj_product_laws.specs.Passes.{attempt_all, met}
use Rattle.dj_product_laws.proofs.ForApply.{order_of, pair_of_least}
use Rattle.dj_product_laws.proofs.OnePart.{no_elements}
use Rattle.dj_apply.specs.ActiveOperations.{active_operations}
use Rattle.dj_apply.specs.Attempts.{IsMet}
use Rattle.dj_apply.specs.Least.{IsLeastBy}

-- all parts up to the n-th are passed, or this is the least rule that is met in the one at k
abbrev pub Outcome : Source → Configuration → ℕ → Table → ℕ → Option Instance → Type 0
Outcome source c k u n o = MatchOption o (Passed source c n u) (λ i. StopsAt source c k i.rule i.at × (i.second ≡ i.at))

module _ (source : Source) (accepted : IsAccepted source) (c : Configuration) (k : ℕ) where
  module _ (part : Part) (at_k : slice_get (chain source) k ≡ Some part) (xs : List Operation) (order : IsPermutation (operations_in source c part) xs) (t u : Table) (passed : Passed source c k t) (is : u ≡ attempt_all xs t) where
    by_outcome : (o : Option Instance) → IsLeastBy IsNotAfter (IsMet xs t) o → Outcome source c k u (suc k) o
    by_outcome None none =
        subst (Passed source c (suc k)) (sym is)
        (and_part {part = part} {xs = xs} passed at_k (order_of (operations_in source c part) xs order) (no_elements (met xs t) (λ q has. none (record { rule = q.0; at = q.1; second = q.1 }) (has, refl))))
    by_outcome (Some i) least = (
      record {
        table = t;
        passed = passed;
        part = part;
        at_k = at_k;
        xs = xs;
        order = order_of (operations_in source c part) xs order;
        least = pair_of_least (λ r p. Contains (met xs t) (r, p)) i (record { is = least.0; least = least.1 });
      },
      least.0.1,
    )

  pub part_passed : (numbers : List ℕ) (xs : List Operation) (t u : Table) (o : Option Instance) → slice_get (numbers_along source) k ≡ Some numbers → IsPermutation (active_operations source c numbers) xs
      → Passed source c k t → u ≡ attempt_all xs t → IsLeastBy IsNotAfter (IsMet xs t) o → Outcome source c k u (suc k) o
  part_passed numbers xs t u o here order passed is least =
      let part = mapped (numbers_of source) (slice_get (chain source) k) numbers (sym (slice_get-map (numbers_of source) (chain source) k) ∙ here) in
      let active = active_part source accepted c part.0 (got_within (chain source) k part.0 part.1) in
      let same : active_operations source c numbers ≡ operations_in source c part.0 = ap (active_operations source c) (sym part.2) ∙ ap (flat_map (λ (d : Delta). d.operations)) active in
      by_outcome part.0 part.1 xs (subst (λ (ys : List Operation). IsPermutation ys xs) same order) t u passed is o least

pub next_number : (k : ℕ) → 1 ≤ k → suc (k - 1) ≡ k
next_number k low = omega arith

pub if_ok_both : {A E : Type 0} (P : Type 0) (Q R : A → Type 0) (r : Result A E) → OnOk r P → IfOk r Q → ((x : A) → P → Q x → R x) → IfOk r R
if_ok_both P Q R (Ok x) p q f = f x p q
if_ok_both P Q R (Err e) p q f = tt
