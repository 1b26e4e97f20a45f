-- Allowed orders agree where the active deltas of each part are disjoint.
use Rattle.std.proofs.Common.{List, None, Some, [], ap, arith, refl, slice_get, subst, suc, sym, take, zero, ℕ, ◌++◌, ◌↔◌, ◌∙◌, ◌∷◌, ◌≡◌, ◌≤◌, ◌⊎◌}
use Rattle.std.specs.List.{flat_map}
use Rattle.std.specs.Option.{option_and_then}
use Rattle.std.proofs.lemmas.Grind.{flat_map-append}
use Rattle.std.proofs.lemmas.List.{append-nil}
use Rattle.dj_tree.specs.Trees.{Delta, Part, Source}
use Rattle.dj_calculus.specs.Configurations.{Configuration}
use Rattle.dj_calculus.specs.Parts.{chain, active}
use Rattle.dj_calculus.specs.Tables.{Table, empty_table}
use Rattle.dj_calculus.specs.Operations.{run, apply_delta}
use Rattle.dj_calculus.specs.Products.{AllowedAlong, fold_deltas, Makes, table_after}
use Rattle.dj_calculus.proofs.Members.{among_others, either}
use Rattle.dj_calculus.proofs.Chains.{none_or_value}
use Rattle.dj_calculus.proofs.OrderLemmas.{splits, ends}
use Rattle.dj_calculus.proofs.Independence.{run_reordered, reordered, then_same}
use Rattle.dj_calculus.proofs.GoodLemmas.{run_append}
use Rattle.dj_calculus.proofs.ProductExists.{pairs_of, take_one_more}
use Rattle.dj_calculus.proofs.ProductLemmas.{default_along}
use Rattle.dj_calculus_laws.specs.OrderLaws.{AreDisjoint}

module _ (source : Source) (c : Configuration) where
  same_runs : (parts : List Part) (one other : List Delta) (t : Table) → AreDisjoint source c parts → AllowedAlong source c parts one
      → AllowedAlong source c parts other → run apply_delta one t ≡ run apply_delta other t
  same_runs [] one other t disjoint first second =
      ap (λ order. run apply_delta order t) (ends source c one first ∙ sym (ends source c other second))
  same_runs (part ∷ parts) one other t disjoint first second =
      let a = splits source c part parts one first in
      let b = splits source c part parts other second in
      let pairwise = pairs_of (active source c part) (disjoint part (0, omega arith, refl)) in
      let run_a = run_reordered apply_delta (active source c part) a.mine t (reordered (active source c part) a.mine a.permuted) pairwise in
      let run_b = run_reordered apply_delta (active source c part) b.mine t (reordered (active source c part) b.mine b.permuted) pairwise in
      ap (λ order. run apply_delta order t) a.joined ∙ run_append apply_delta a.mine a.later t
      ∙ ap (option_and_then (run apply_delta a.later)) (run_a ∙ sym run_b)
      ∙ then_same (run apply_delta a.later) (run apply_delta b.later) (run apply_delta b.mine t)
      (λ u. same_runs parts a.later b.later u (λ p within. disjoint p (among_others part p parts within)) a.rest b.rest)
      ∙ sym (run_append apply_delta b.mine b.later t) ∙ ap (λ order. run apply_delta order t) (sym b.joined)

  pub one_order_makes : (parts : List Part) (order : List Delta) (t : Table) → AreDisjoint source c parts → AllowedAlong source c parts order
      → fold_deltas order ≡ Some t → Makes source c parts t
  one_order_makes parts order t disjoint allowed folds =
      record { each = λ other along. same_runs parts other order empty_table disjoint along allowed ∙ folds }

  pub table_after_makes : (k : ℕ) (t : Table) → AreDisjoint source c (take k (chain source)) → Makes source c (take k (chain source)) t ↔ (table_after source c k ≡ Some t)
  table_after_makes k t disjoint = (
    λ makes. makes.each _ (default_along source c (take k (chain source))),
    λ after. one_order_makes (take k (chain source)) _ t disjoint (default_along source c (take k (chain source))) after,
  )

  pub table_after_next : (k : ℕ) (part : Part) → slice_get (chain source) k ≡ Some part
      → table_after source c (suc k) ≡ option_and_then (run apply_delta (active source c part)) (table_after source c k)
  table_after_next k part is =
      let before = flat_map (active source c) (take k (chain source)) in
      ap (λ parts. fold_deltas (flat_map (active source c) parts)) (take_one_more (chain source) k part is)
      ∙ ap fold_deltas (flat_map-append (active source c) (take k (chain source)) (part ∷ []))
      ∙ run_append apply_delta before (active source c part ++ []) empty_table
      ∙ ap (λ order. option_and_then (run apply_delta order) (fold_deltas before)) (append-nil (active source c part))

take_past : {X : Type 0} (xs : List X) (n : ℕ) → slice_get xs n ≡ None → take (suc n) xs ≡ take n xs
take_past [] zero e = refl
take_past [] (suc n) e = refl
take_past (x ∷ xs) zero e = absurd cc
take_past (x ∷ xs) (suc n) e = ap (λ ys. x ∷ ys) (take_past xs n e)

next_stopped : (source : Source) (c : Configuration) (n : ℕ) → table_after source c n ≡ None → table_after source c (suc n) ≡ None
next_stopped source c n none =
    either (none_or_value (slice_get (chain source) n))
    (λ past. ap (λ parts. fold_deltas (flat_map (active source c) parts)) (take_past (chain source) n past) ∙ none)
    (λ part. table_after_next source c n part.0 part.1 ∙ ap (option_and_then (run apply_delta (active source c part.0))) none)

earlier_or_same : (k n : ℕ) → k ≤ suc n → (k ≤ n) ⊎ (k ≡ suc n)
earlier_or_same k n low = grind arith

pub stays_stopped : (source : Source) (c : Configuration) (k n : ℕ) → k ≤ n → table_after source c k ≡ None → table_after source c n ≡ None
stays_stopped source c k zero low none = let same : k ≡ 0 = omega arith in subst (λ i. table_after source c i ≡ None) same none
stays_stopped source c k (suc n) low none =
    either (earlier_or_same k n low) (λ earlier. next_stopped source c n (stays_stopped source c k n earlier none)) (λ same. subst (λ i. table_after source c i ≡ None) same none)

pub orders_agree : (source : Source) (c : Configuration) (parts : List Part) (one other : List Delta) → AreDisjoint source c parts
    → AllowedAlong source c parts one → AllowedAlong source c parts other → fold_deltas one ≡ fold_deltas other
orders_agree source c parts one other disjoint first second = same_runs source c parts one other empty_table disjoint first second
