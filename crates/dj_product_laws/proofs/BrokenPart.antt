-- Parts with a broken operation are one part, behind which nothing is made, and what it breaks counts.
use Rattle.std.proofs.Common.{take-take, ◌≡◌, ◌⊎◌, ℕ, zero, suc, ◌<◌, ◌≤◌, List, [], ◌∷◌, ◌++◌, take, drop, Some, None, slice_get, Contains, refl, ap, ◌∙◌, subst, arith}
use Rattle.std.specs.List.{flat_map}
use Rattle.std.specs.Option.{option_and_then}
use Rattle.std.proofs.lemmas.Bool.{cases_lt}
use Rattle.dj_tree.specs.Trees.{Operation, Delta, Part, Source}
use Rattle.dj_tree.specs.declared.source.Instance.{Instance}
use Rattle.dj_calculus.specs.Configurations.{Configuration}
use Rattle.dj_calculus.specs.Parts.{chain, active}
use Rattle.dj_calculus.specs.Accepted.{IsAccepted}
use Rattle.dj_calculus.specs.Tables.{Table, empty_table}
use Rattle.dj_calculus.specs.Operations.{run, apply_delta}
use Rattle.dj_calculus.specs.Products.{part_and, fold_deltas, Makes}
use Rattle.dj_calculus.specs.Instances.{layer, IsLeast}
use Rattle.dj_calculus.specs.LineRules.{OperationRule, LineRule, overlap, of_operation, of_product, Stands}
use Rattle.dj_calculus.proofs.Members.{either, from_flat, within_flat, inserted, moved_first, same_some, not_both}
use Rattle.dj_calculus.proofs.ProductLemmas.{default_along}
use Rattle.dj_calculus.proofs.LayerLemmas.{second_layer, of_higher_table}
use Rattle.dj_calculus.proofs.GoodLemmas.{split_at, run_append, along_append, declared, broken_delta}
use Rattle.dj_product_laws.specs.LeastPairs.{IsLeastPair}
use Rattle.dj_product_laws.specs.LineConflicts.{PreventsProduct}
use Rattle.dj_product_laws.specs.PartFaults.{BreaksAt}

-- parts make one table at most
pub one_made : (source : Source) (c : Configuration) (parts : List Part) (t u : Table) → Makes source c parts t → Makes source c parts u → t ≡ u
one_made source c parts t u a b =
    let order = default_along source c parts in
    same_some t u _ (a.each _ order) (b.each _ order)

got_in_front : {X : Type 0} (xs : List X) (k n : ℕ) → k < n → slice_get (take n xs) k ≡ slice_get xs k
got_in_front [] k zero low = absurd (omega arith)
got_in_front [] k (suc n) low = refl
got_in_front (x ∷ xs) k zero low = absurd (omega arith)
got_in_front (x ∷ xs) zero (suc n) low = refl
got_in_front (x ∷ xs) (suc k) (suc n) low = got_in_front xs k n (omega arith)

module _ (source : Source) (c : Configuration) (accepted : IsAccepted source) where
  -- parts of which one has a broken operation on the table that those before it make, make none
  nothing_made : (before later : List Part) (part : Part) (t u : Table) (delta : Delta) (x : Operation) (rule at : ℕ) → Makes source c before t
      → Contains (active source c part) delta → Contains delta.operations x → OperationRule t x rule at → Makes source c (before ++ part ∷ later) u → ⊥
  nothing_made before later part t u delta x rule at makes within has breaks made =
      let found = inserted (active source c part) delta within in
      let first : List Delta = flat_map (active source c) before in
      let rest : List Delta = found.others ++ flat_map (active source c) later in
      let along = along_append source c before (part ∷ later) first (delta ∷ rest) (default_along source c before) (part_and {mine = delta ∷ found.others} (moved_first (active source c part) delta found) (default_along source c later)) in
      let whole : fold_deltas (first ++ delta ∷ rest) ≡ Some u = made.each _ along in
      let to_here : fold_deltas first ≡ Some t = makes.each _ (default_along source c before) in
      let broken = broken_delta source accepted delta t x rule at (declared source accepted c part delta within) has breaks in
      let stopped : fold_deltas (first ++ delta ∷ rest) ≡ None = run_append apply_delta first (delta ∷ rest) empty_table ∙ ap (option_and_then (run apply_delta (delta ∷ rest))) to_here ∙ ap (option_and_then (run apply_delta rest)) broken in
      not_both u _ stopped whole

  pub nothing_behind : (k n rule at : ℕ) (t : Table) → BreaksAt source c k rule at → k < n → ¬ (Makes source c (take n (chain source)) t)
  nothing_behind k n rule at t b low made =
      let front = take n (chain source) in
      let at_k : slice_get front k ≡ Some b.part = got_in_front (chain source) k n low ∙ b.at_k in
      let split : front ≡ take k (chain source) ++ b.part ∷ drop (suc k) front = split_at front k b.part at_k ∙ ap (λ ps. ps ++ b.part ∷ drop (suc k) front) (take-take k n (chain source) (omega arith)) in
      let d = from_flat (λ d. d.operations) (active source c b.part) b.broken.0 b.broken.1 in
      nothing_made (take k (chain source)) (drop (suc k) front) b.part b.table t d.0 b.broken.0 rule at b.before d.1 d.2 b.broken.2
      (subst (λ ps. Makes source c ps t) split made)

  pub one_part_breaks : (k n rule at r p : ℕ) → BreaksAt source c k rule at → BreaksAt source c n r p → k ≡ n
  one_part_breaks k n rule at r p one other =
      either (cases_lt k n) (λ before. absurd (nothing_behind k n rule at other.table one before other.before))
      (λ low. either (cases_lt n k) (λ before. absurd (nothing_behind n k r p one.table other before one.before)) (λ high. omega (arith, low, high)))

  -- ---- what it breaks counts

  not_after : (first at rule place second : ℕ) → layer rule ≤ 2 → ((i : Instance) → layer i.rule < 2 → ¬ (Stands source c i)) → (k : ℕ) → IsLeastPair (BreaksAt source c k) first at
      → LineRule source c rule place second → (first < rule) ⊎ ((first ≡ rule) × ((at < place) ⊎ ((at ≡ place) × (at ≤ second))))
  not_after first at rule place second low none k least (overlap part i j one other p q within behind at_i at_j its_least) =
      absurd (none (record { rule = 1; at = p; second = q }) (omega arith) (overlap part i j one other p q within behind at_i at_j its_least))
  not_after first at rule place second low none k least (of_operation n part t delta x r p is makes within of breaks) =
      let other : BreaksAt source c n r p = record { part = part; at_k = is; table = t; before = makes; broken = (x, within_flat (λ d. d.operations) (active source c part) delta x within of, breaks) } in
      let here = one_part_breaks n k r p first at other least.is in
      lexical first at r p (least.least r p (subst (λ m. BreaksAt source c m r p) here other))
    where
      lexical : (a b r p : ℕ) → (a < r) ⊎ ((a ≡ r) × (b ≤ p)) → (a < r) ⊎ ((a ≡ r) × ((b < p) ⊎ ((b ≡ p) × (b ≤ p))))
      lexical a b r p h = grind arith
  not_after first at rule place second low none k least (of_product t r p product breaks) = absurd (of_higher_table t r p breaks (omega arith))

  pub least_broken_counts : (k rule at : ℕ) → ((i : Instance) → layer i.rule < 2 → ¬ (Stands source c i)) → IsLeastPair (BreaksAt source c k) rule at
      → IsLeast (PreventsProduct source c) (record { rule = rule; at = at; second = at })
  least_broken_counts k rule at none least =
      let b = least.is in
      let d = from_flat (λ d. d.operations) (active source c b.part) b.broken.0 b.broken.1 in
      let second : layer rule ≡ 2 = second_layer b.table b.broken.0 rule at b.broken.2 in
      record {
        is = (
          record {
            stands = of_operation k b.part b.table d.0 b.broken.0 rule at b.at_k b.before d.1 d.2 b.broken.2;
            clean = λ lower below. none lower (omega arith);
          },
          omega arith,
        );
        least = λ other prevents. not_after rule at other.rule other.at other.second prevents.1 none k least prevents.0.stands;
      }
