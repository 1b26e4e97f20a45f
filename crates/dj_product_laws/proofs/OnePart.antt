-- One part whose active deltas are disjoint: what is met in it, and the table after it.
use Rattle.std.proofs.Common.{◌≡◌, ◌↔◌, ℕ, suc, List, [], ◌∷◌, ◌++◌, take, Some, slice_get, Contains, refl, sym, ap, ◌∙◌, subst, arith}
use Rattle.std.specs.List.{AllPairs}
use Rattle.std.specs.Option.{option_and_then}
use Rattle.std.proofs.lemmas.List.Elements.{Contains-append_left, Contains-append_right}
use Rattle.std.proofs.lemmas.List.Sorted.{IsPermutation-sym, Contains-permutation}
use Rattle.dj_tree.specs.Trees.{Operation, Part, Source}
use Rattle.dj_calculus.specs.Configurations.{Configuration}
use Rattle.dj_calculus.specs.Parts.{chain, active}
use Rattle.dj_calculus.specs.Accepted.{IsAccepted}
use Rattle.dj_calculus.specs.Conflicts.{Disjoint}
use Rattle.dj_calculus.specs.Tables.{Table}
use Rattle.dj_calculus.specs.Operations.{run, apply, apply_delta}
use Rattle.dj_calculus.specs.Products.{Makes, table_after}
use Rattle.dj_calculus.proofs.Members.{Each, none, and, each_of, either, in_front_or_behind, from_flat, within_flat, same_some}
use Rattle.dj_calculus.proofs.ProductLemmas.{default_along}
use Rattle.dj_calculus.proofs.GoodLemmas.{declared, classes_once}
use Rattle.dj_calculus.proofs.Independence.{reordered, run_reordered, each_reordered}
use Rattle.dj_calculus.proofs.DisjointDeltas.{NoConflict}
use Rattle.dj_calculus.proofs.ProductExists.{take_one_more, next_part_makes}
use Rattle.dj_calculus_laws.proofs.ForProducts.{all_operations}
use Rattle.dj_calculus_laws.proofs.OrderProofs.{table_after_next}
use Rattle.dj_product_laws.specs.OperationFaults.{faults}
use Rattle.dj_product_laws.specs.Passes.{attempt, attempt_all, met, AllSameMembers, no_operations, operation_and, IsAnOrder}
use Rattle.dj_product_laws.specs.PartFaults.{operations_in, AreBroken}
use Rattle.dj_product_laws.proofs.EachTwo.{EachTwo, each_two_of, each_two_reordered}
use Rattle.dj_product_laws.proofs.FaultProofs.{rule_from, rule_told, none_within, applied_once}
use Rattle.dj_product_laws.proofs.MemberOrders.{HasOnce, has_once, once_if, faults_kept, members_turned, same_attempt_once}
use Rattle.dj_product_laws.proofs.Clear.{clear_turned, met_are_faults, pairwise_clear, clear_by_delta}

-- ---- members in any order

-- the same table stands after them
pub same_attempts : (order xs : List Operation) (t : Table) → AllSameMembers order xs → Each HasOnce order → attempt_all xs t ≡ attempt_all order t
same_attempts order xs t no_operations onces = refl
same_attempts order xs t (operation_and {x = x} {y = y} {xs = rest} {ys = others} alike more) (and once onces) =
    ap (attempt_all others) (same_attempt_once x y t alike once) ∙ same_attempts rest others (attempt x t) more onces

-- and the same is met
met_onward : (order xs : List Operation) (t : Table) (q : ℕ × ℕ) → AllSameMembers order xs → Each HasOnce order → Contains (met order t) q → Contains (met xs t) q
met_onward order xs t q no_operations onces has = has
met_onward order xs t q (operation_and {x = x} {y = y} {xs = rest} {ys = others} alike more) (and once onces) has =
    either (in_front_or_behind (faults t x) (met rest (attempt x t)) q has)
    (λ here. Contains-append_left (faults t y) (met others (attempt y t)) q (faults_kept t x y q alike here))
    (λ later. Contains-append_right (faults t y) (met others (attempt y t)) q
    (subst (λ u. Contains (met others u) q) (sym (same_attempt_once x y t alike once)) (met_onward rest others (attempt x t) q more onces later)))

met_back : (order xs : List Operation) (t : Table) (q : ℕ × ℕ) → AllSameMembers order xs → Each HasOnce order → Contains (met xs t) q → Contains (met order t) q
met_back order xs t q no_operations onces has = has
met_back order xs t q (operation_and {x = x} {y = y} {xs = rest} {ys = others} alike more) (and once onces) has =
    either (in_front_or_behind (faults t y) (met others (attempt y t)) q has)
    (λ here. Contains-append_left (faults t x) (met rest (attempt x t)) q (faults_kept t y x q (members_turned x y alike) here))
    (λ later. Contains-append_right (faults t x) (met rest (attempt x t)) q
    (met_back rest others (attempt x t) q more onces (subst (λ u. Contains (met others u) q) (same_attempt_once x y t alike once) later)))

-- ---- operations one after the other

front_is_nothing : {X : Type 0} (xs ys : List X) → xs ++ ys ≡ [] → xs ≡ []
front_is_nothing [] ys e = refl
front_is_nothing (x ∷ xs) ys e = absurd cc

rest_is_nothing : {X : Type 0} (xs ys : List X) → xs ++ ys ≡ [] → ys ≡ []
rest_is_nothing [] ys e = e
rest_is_nothing (x ∷ xs) ys e = absurd cc

pub no_elements : {X : Type 0} (xs : List X) → ((x : X) → ¬ (Contains xs x)) → xs ≡ []
no_elements [] empty = refl
no_elements (x ∷ xs) empty = absurd (empty x (0, omega arith, refl))

-- where nothing is met, the operations are defined one after the other, and make what the attempts make
pub run_attempts : (xs : List Operation) (t : Table) → Each HasOnce xs → met xs t ≡ [] → run apply xs t ≡ Some (attempt_all xs t)
run_attempts xs t none nothing = refl
run_attempts xs t (and {x = x} {xs = rest} once onces) nothing =
    ap (option_and_then (run apply rest)) (applied_once x t (once_if x once) (front_is_nothing (faults t x) (met rest (attempt x t)) nothing))
    ∙ run_attempts rest (attempt x t) onces (rest_is_nothing (faults t x) (met rest (attempt x t)) nothing)

-- ---- a part of an accepted source

module _ (source : Source) (c : Configuration) (part : Part) (accepted : IsAccepted source) where
  pub each_has_once : Each HasOnce (operations_in source c part)
  each_has_once =
      each_of HasOnce (operations_in source c part) (λ x within.
      let d = from_flat (λ d. d.operations) (active source c part) x within in has_once source d.0 x accepted (declared source accepted c part d.0 d.1) d.2)

  module _ (disjoint : AllPairs Disjoint (active source c part)) where
    pub clear_in_part : EachTwo NoConflict (operations_in source c part)
    clear_in_part =
        clear_by_delta (active source c part) (each_two_of Disjoint (active source c part) disjoint)
        (each_of _ (active source c part) (λ d within. classes_once source accepted d (declared source accepted c part d within)))

    module _ (xs : List Operation) (o : IsAnOrder (operations_in source c part) xs) where
      once_in_order : Each HasOnce o.order
      once_in_order = each_reordered HasOnce (operations_in source c part) o.order (reordered _ _ o.permuted) each_has_once

      clear_in_order : EachTwo NoConflict o.order
      clear_in_order = each_two_reordered NoConflict clear_turned (operations_in source c part) o.order (reordered _ _ o.permuted) clear_in_part

      pub broken_from_met : (t : Table) (rule at : ℕ) → Contains (met xs t) (rule, at) → AreBroken (operations_in source c part) t rule at
      broken_from_met t rule at has =
          let there = subst (λ qs. Contains {X = ℕ × ℕ} qs (rule, at)) (met_are_faults o.order t clear_in_order) (met_back o.order xs t (rule, at) o.members once_in_order has) in
          let x = from_flat (faults t) o.order (rule, at) there in
          (x.0, Contains-permutation o.order (operations_in source c part) x.0 (IsPermutation-sym (operations_in source c part) o.order o.permuted) x.1, rule_from t x.0 (rule, at) x.2)

      pub met_from_broken : (t : Table) (rule at : ℕ) → AreBroken (operations_in source c part) t rule at → Contains (met xs t) (rule, at)
      met_from_broken t rule at b =
          let there = within_flat (faults t) o.order b.0 (rule, at) (Contains-permutation (operations_in source c part) o.order b.0 o.permuted b.1) (rule_told t b.0 rule at b.2) in
          met_onward o.order xs t (rule, at) o.members once_in_order (subst (λ qs. Contains {X = ℕ × ℕ} qs (rule, at)) (sym (met_are_faults o.order t clear_in_order)) there)

      -- where nothing is met, the active deltas make the table after the attempts
      pub deltas_make : (t : Table) → met xs t ≡ [] → run apply_delta (active source c part) t ≡ Some (attempt_all xs t)
      deltas_make t nothing =
          let nothing_met : met o.order t ≡ [] = no_elements (met o.order t) (λ q has. none_within (met xs t) q nothing (met_onward o.order xs t q o.members once_in_order has)) in
          sym (all_operations (active source c part) t)
          ∙ sym (run_reordered apply (operations_in source c part) o.order t (reordered _ _ o.permuted) (pairwise_clear (operations_in source c part) clear_in_part))
          ∙ run_attempts o.order t once_in_order nothing_met ∙ ap Some (sym (same_attempts o.order xs t o.members once_in_order))

      pub part_makes_next : (k : ℕ) (t : Table) → slice_get (chain source) k ≡ Some part → Makes source c (take k (chain source)) t → met xs t ≡ []
          → Makes source c (take (suc k) (chain source)) (attempt_all xs t)
      part_makes_next k t at_k makes nothing =
          let parts = chain source in
          let next = next_part_makes source accepted c (take k parts) part t makes disjoint (λ d x of_part of_delta rule at breaks.
          none_within (met xs t) (rule, at) nothing (met_from_broken t rule at (x, within_flat (λ d. d.operations) (active source c part) d x of_part of_delta, breaks))) in
          let made : Makes source c (take (suc k) parts) next.0 = subst (λ ps. Makes source c ps next.0) (sym (take_one_more parts k part at_k)) next.1 in
          let before : table_after source c k ≡ Some t = makes.each _ (default_along source c (take k parts)) in
          let after : table_after source c (suc k) ≡ Some (attempt_all xs t) = table_after_next source c k part at_k ∙ ap (option_and_then (run apply_delta (active source c part))) before ∙ deltas_make t nothing in
          let same : next.0 ≡ attempt_all xs t = same_some next.0 (attempt_all xs t) (table_after source c (suc k)) (made.each _ (default_along source c (take (suc k) parts))) after in
          subst (Makes source c (take (suc k) parts)) same made

pub met_are_broken : (source : Source) (c : Configuration) (part : Part) (xs : List Operation) (t : Table) (rule at : ℕ) → IsAccepted source
    → AllPairs Disjoint (active source c part) → IsAnOrder (operations_in source c part) xs
    → Contains (met xs t) (rule, at) ↔ AreBroken (operations_in source c part) t rule at
met_are_broken source c part xs t rule at accepted disjoint o =
    (broken_from_met source c part accepted disjoint xs o t rule at, met_from_broken source c part accepted disjoint xs o t rule at)

pub part_makes : (source : Source) (c : Configuration) (k : ℕ) (part : Part) (xs : List Operation) (t : Table) → IsAccepted source
    → slice_get (chain source) k ≡ Some part → AllPairs Disjoint (active source c part) → Makes source c (take k (chain source)) t
    → IsAnOrder (operations_in source c part) xs → met xs t ≡ [] → Makes source c (take (suc k) (chain source)) (attempt_all xs t)
part_makes source c k part xs t accepted at_k disjoint makes o nothing = part_makes_next source c part accepted disjoint xs o k t at_k makes nothing
