-- One pass along the parts gives the product, or stops at the least instance that counts.
use Rattle.std.proofs.Common.{◌≡◌, ℕ, ◌<◌, List, take, length, Some, slice_get, Contains, ap, subst}
use Rattle.std.specs.List.{AllPairs}
use Rattle.dj_tree.specs.Trees.{Operation, Part, Source}
use Rattle.dj_tree.specs.declared.source.Instance.{Instance}
use Rattle.dj_calculus.specs.Configurations.{Configuration}
use Rattle.dj_calculus.specs.Parts.{chain, active}
use Rattle.dj_calculus.specs.Accepted.{IsAccepted}
use Rattle.dj_calculus.specs.Conflicts.{Disjoint}
use Rattle.dj_calculus.specs.Tables.{Table, empty_table}
use Rattle.dj_calculus.specs.Products.{fold_deltas, Makes, Product}
use Rattle.dj_calculus.specs.Instances.{layer, IsLeast}
use Rattle.dj_calculus.specs.LineRules.{Stands}
use Rattle.dj_calculus.proofs.OrderLemmas.{ends}
use Rattle.dj_calculus.proofs.Counting.{got_within}
use Rattle.dj_calculus.proofs.Members.{same_some}
use Rattle.dj_calculus.proofs.ProductExists.{take_all}
use Rattle.dj_calculus.proofs.ProductLaw.{product_exactly_if}
use Rattle.dj_product_laws.specs.Passes.{met, IsAnOrder}
use Rattle.dj_product_laws.specs.LeastPairs.{IsLeastPair}
use Rattle.dj_product_laws.specs.LineConflicts.{PreventsProduct}
use Rattle.dj_product_laws.specs.PartFaults.{operations_in, AreBroken, BreaksAt}
use Rattle.dj_product_laws.specs.OnePass.{Passed, begins, and_part, StopsAt}
use Rattle.dj_product_laws.proofs.ConflictProofs.{NoConflictIn, disjoint_from, none_of_first_layer}
use Rattle.dj_product_laws.proofs.OnePart.{met_from_broken, broken_from_met, part_makes_next}
use Rattle.dj_product_laws.proofs.BrokenPart.{one_made, least_broken_counts}

-- the least that is met in a part, on the table that the parts before it make, is the least that counts
pub least_met_counts : (source : Source) (c : Configuration) (k : ℕ) (part : Part) (xs : List Operation) (t : Table) (rule at : ℕ) → IsAccepted source
    → ((i : Instance) → layer i.rule < 2 → ¬ (Stands source c i)) → slice_get (chain source) k ≡ Some part → AllPairs Disjoint (active source c part)
    → Makes source c (take k (chain source)) t → IsAnOrder (operations_in source c part) xs → IsLeastPair (λ r p. Contains (met xs t) (r, p)) rule at
    → IsLeast (PreventsProduct source c) (record { rule = rule; at = at; second = at })
least_met_counts source c k part xs t rule at accepted none at_k disjoint makes order least =
    least_broken_counts source c accepted k rule at none (record {
      is = record { part = part; at_k = at_k; table = t; before = makes; broken = broken_from_met source c part accepted disjoint xs order t rule at least.is };
      least = λ r p b. least.least r p (met_from_broken source c part accepted disjoint xs order t r p
          (moved r p b (same_some b.part part _ b.at_k at_k) (one_made source c (take k (chain source)) b.table t b.before makes)));
    })
  where
    moved : (r p : ℕ) (b : BreaksAt source c k r p) → b.part ≡ part → b.table ≡ t → AreBroken (operations_in source c part) t r p
    moved r p b same_part same_table =
        subst (λ u. AreBroken (operations_in source c part) u r p) same_table (subst (λ q. AreBroken (operations_in source c q) b.table r p) same_part b.broken)

module _ (source : Source) (c : Configuration) (accepted : IsAccepted source) where
  -- no parts make the empty table
  pub nothing_yet : Makes source c (take 0 (chain source)) empty_table
  nothing_yet = record { each = λ order allowed. ap fold_deltas (ends source c order allowed) }

  module _ (clear : NoConflictIn source c) where
    pub disjoint_at : (k : ℕ) (part : Part) → slice_get (chain source) k ≡ Some part → AllPairs Disjoint (active source c part)
    disjoint_at k part at_k = disjoint_from source c clear part (got_within (chain source) k part at_k)

    passed_makes_front : (k : ℕ) (t : Table) → Passed source c k t → Makes source c (take k (chain source)) t
    passed_makes_front k t begins = nothing_yet
    passed_makes_front k t (and_part {k = n} {t = before} {part = part} {xs = xs} passed at_n order nothing) =
        part_makes_next source c part accepted (disjoint_at n part at_n) xs order n before at_n (passed_makes_front n before passed) nothing

    -- the product, from what all parts make
    pub all_make_product : (t : Table) → Makes source c (take (length (chain source)) (chain source)) t → Product source c t
    all_make_product t makes = subst (λ ps. Makes source c ps t) (take_all (chain source)) makes

    pub clean_with_product : (t : Table) → Product source c t → (i : Instance) → ¬ (PreventsProduct source c i)
    clean_with_product t product i prevents =
        (product_exactly_if source accepted c).0 (record { disjoint = disjoint_from source c clear; table = t; product = product }) i prevents.1 prevents.0

pub passed_makes : (source : Source) (c : Configuration) (k : ℕ) (t : Table) → IsAccepted source → NoConflictIn source c → Passed source c k t
    → Makes source c (take k (chain source)) t
passed_makes source c k t accepted clear passed = passed_makes_front source c accepted clear k t passed

pub passed_is_product : (source : Source) (c : Configuration) (t : Table) → IsAccepted source → NoConflictIn source c
    → Passed source c (length (chain source)) t → Product source c t
passed_is_product source c t accepted clear passed = all_make_product source c accepted clear t (passed_makes source c (length (chain source)) t accepted clear passed)

pub passed_is_clean : (source : Source) (c : Configuration) (t : Table) → IsAccepted source → NoConflictIn source c
    → Passed source c (length (chain source)) t → (i : Instance) → ¬ (PreventsProduct source c i)
passed_is_clean source c t accepted clear passed = clean_with_product source c accepted clear t (passed_is_product source c t accepted clear passed)

pub stopped_counts : (source : Source) (c : Configuration) (k rule at : ℕ) → IsAccepted source → NoConflictIn source c → StopsAt source c k rule at
    → IsLeast (PreventsProduct source c) (record { rule = rule; at = at; second = at })
stopped_counts source c k rule at accepted clear s =
    least_met_counts source c k s.part s.xs s.table rule at accepted (none_of_first_layer source c clear) s.at_k (disjoint_at source c accepted clear k s.part s.at_k)
    (passed_makes source c k s.table accepted clear s.passed) s.order s.least
