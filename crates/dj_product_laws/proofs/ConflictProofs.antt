-- The least conflict is the least instance that counts, and without conflicts the active deltas of each part are disjoint.
use Rattle.std.proofs.Common.{◌≡◌, ◌⊎◌, inl, inr, ◌↔◌, ℕ, ◌<◌, ◌≤◌, Some, slice_get, slice_index_or, Contains, refl, arith}
use Rattle.std.specs.List.{AllPairs}
use Rattle.std.proofs.lemmas.Option.{slice_get_within, get_or_from_slice_get}
use Rattle.dj_tree.specs.Trees.{Delta, Part, Source}
use Rattle.dj_tree.specs.declared.source.Instance.{Instance}
use Rattle.dj_calculus.specs.Configurations.{Configuration}
use Rattle.dj_calculus.specs.Parts.{chain, active}
use Rattle.dj_calculus.specs.Conflicts.{ConflictAt, Disjoint}
use Rattle.dj_calculus.specs.Instances.{layer, IsLeast}
use Rattle.dj_calculus.specs.LineRules.{LineRule, overlap, of_operation, of_product, Stands, Counts}
use Rattle.dj_calculus.proofs.LayerLemmas.{none_below_overlap, not_first_operation, of_higher_table}
use Rattle.dj_calculus.proofs.Counting.{there_is}
use Rattle.dj_calculus_laws.proofs.RuleProofs.{operation_rules, table_rules}
use Rattle.dj_product_laws.specs.LeastPairs.{IsLeastPair}
use Rattle.dj_product_laws.specs.LineConflicts.{ConflictIn, PreventsProduct}

module _ (source : Source) (c : Configuration) where
  pub conflict_of : (part : Part) (i j : ℕ) (one other : Delta) (p q : ℕ) → Contains (chain source) part → i < j → slice_get (active source c part) i ≡ Some one
      → slice_get (active source c part) j ≡ Some other → ConflictAt one other p q → ConflictIn source c p q
  conflict_of part i j one other p q within behind at_i at_j clash =
      record { part = part; of_chain = within; i = i; j = j; behind = behind; one = one; other = other; at_i = at_i; at_j = at_j; clash = clash }

  -- ---- the least conflict

  not_after : (first second rule at place : ℕ) → IsLeastPair (ConflictIn source c) first second → LineRule source c rule at place
      → (1 < rule) ⊎ ((1 ≡ rule) × ((first < at) ⊎ ((first ≡ at) × (second ≤ place))))
  not_after first second rule at place least (overlap part i j one other p q within behind at_i at_j its_least) =
      inr (refl, least.least p q (conflict_of part i j one other p q within behind at_i at_j its_least.clash))
  not_after first second rule at place least (of_operation k part t delta x r p is makes within of breaks) =
      inl (omega (arith, (operation_rules t x r p breaks).0))
  not_after first second rule at place least (of_product t r p product breaks) = inl (omega (arith, (table_rules t r p breaks).0))

  pub least_conflict_counts : (first second : ℕ) → IsLeastPair (ConflictIn source c) first second
      → IsLeast (Counts source c) (record { rule = 1; at = first; second = second })
  least_conflict_counts first second least =
      let w = least.is in
      record {
        is = record {
          stands = overlap w.part w.i w.j w.one w.other first second w.of_chain w.behind w.at_i w.at_j
              (record { clash = w.clash; least = λ p q clash. least.least p q (conflict_of w.part w.i w.j w.one w.other p q w.of_chain w.behind w.at_i w.at_j clash) });
          clean = λ lower below other. none_below_overlap lower.rule (omega arith);
        };
        least = λ other counts. not_after first second other.rule other.at other.second least counts.stands;
      }

  pub least_conflict_prevents : (first second : ℕ) → IsLeastPair (ConflictIn source c) first second
      → IsLeast (PreventsProduct source c) (record { rule = 1; at = first; second = second })
  least_conflict_prevents first second least =
      let counts = least_conflict_counts first second least in
      record { is = (counts.is, omega arith); least = λ other prevents. counts.least other prevents.0 }

  -- ---- no conflict

  abbrev pub NoConflictIn : Type 0
  NoConflictIn = (first second : ℕ) → ¬ (ConflictIn source c first second)

  pub disjoint_from : NoConflictIn → (part : Part) → Contains (chain source) part → AllPairs Disjoint (active source c part)
  disjoint_from clear part within i j d behind low =
      let ds = active source c part in
      let one = there_is ds i (omega arith) in
      let other = there_is ds j low in
      let disjoint : Disjoint one.0 other.0 = λ found. clear found.0 found.1.0 (conflict_of part i j one.0 other.0 found.0 found.1.0 within behind one.1 other.1 found.1.1) in
      rw (get_or_from_slice_get ds i one.0 d one.1, get_or_from_slice_get ds j other.0 d other.1) disjoint

  pub clear_from : ((part : Part) → Contains (chain source) part → AllPairs Disjoint (active source c part)) → NoConflictIn
  clear_from disjoint first second w =
      let ds = active source c w.part in
      let apart : Disjoint (slice_index_or ds w.i w.one) (slice_index_or ds w.j w.one) = disjoint w.part w.of_chain w.i w.j w.one w.behind (slice_get_within ds w.j w.other w.at_j) in
      let between : Disjoint w.one w.other = rw (← get_or_from_slice_get ds w.i w.one w.one w.at_i, ← get_or_from_slice_get ds w.j w.other w.one w.at_j) apart in
      between (first, (second, w.clash))

  none_first : NoConflictIn → (rule at second : ℕ) → LineRule source c rule at second → layer rule < 2 → ⊥
  none_first clear rule at second (overlap part i j one other p q within behind at_i at_j least) low =
      clear p q (conflict_of part i j one other p q within behind at_i at_j least.clash)
  none_first clear rule at second (of_operation k part t delta x r p is makes within of breaks) low = not_first_operation t x r p breaks low
  none_first clear rule at second (of_product t r p product breaks) low = of_higher_table t r p breaks (omega arith)

  pub none_of_first_layer : NoConflictIn → (i : Instance) → layer i.rule < 2 → ¬ (Stands source c i)
  none_of_first_layer clear i low stands = none_first clear i.rule i.at i.second stands low

pub disjoint_exactly_if : (source : Source) (c : Configuration)
    → NoConflictIn source c ↔ ((part : Part) → Contains (chain source) part → AllPairs Disjoint (active source c part))
disjoint_exactly_if source c = (disjoint_from source c, clear_from source c)
