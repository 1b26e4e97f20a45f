-- There is a product exactly where no instance of layers 1 and 2 counts.
use Rattle.std.proofs.Common.{◌≡◌, ◌⊎◌, inl, inr, ◌↔◌, ℕ, zero, suc, ◌<◌, ◌≤◌, take, Some, slice_get, Contains, arith}
use Rattle.std.specs.List.{AllPairs}
use Rattle.std.proofs.lemmas.Option.{get_or_from_slice_get}
use Rattle.dj_tree.specs.Trees.{Part, Delta, Source, Operation}
use Rattle.dj_tree.specs.declared.source.Instance.{Instance}
use Rattle.dj_calculus.specs.Configurations.{Configuration}
use Rattle.dj_calculus.specs.Parts.{chain, active}
use Rattle.dj_calculus.specs.Accepted.{IsAccepted}
use Rattle.dj_calculus.specs.Conflicts.{ConflictAt, Disjoint, LeastConflict}
use Rattle.dj_calculus.specs.Tables.{Table}
use Rattle.dj_calculus.specs.Products.{Makes}
use Rattle.dj_calculus.specs.Instances.{layer}
use Rattle.dj_calculus.specs.LineRules.{OperationRule, LineRule, overlap, of_operation, of_product, Stands, Counts}
use Rattle.dj_calculus.specs.Good.{HasProduct}
use Rattle.dj_calculus.proofs.LayerLemmas.{none_below_overlap, of_higher_table, second_layer}
use Rattle.dj_calculus.proofs.GoodLemmas.{no_overlap, no_broken_operation}
use Rattle.dj_calculus.proofs.Members.{either}
use Rattle.dj_calculus.proofs.ProductExists.{product_exists}
use Rattle.dj_calculus.proofs.Counting.{there_is}

-- ---- of conflicts there is a least

abbrev Compared : ℕ → ℕ → ℕ → ℕ → Type 0
Compared p q x y = (x < p) ⊎ (((x ≡ p) × (y < q)) ⊎ ((p < x) ⊎ ((p ≡ x) × (q ≤ y))))

compared : (p q x y : ℕ) → Compared p q x y
compared p q x y = grind arith

sorted : (one other : Delta) (p q x y : ℕ) → ((x y : ℕ) → x < p → ¬ (ConflictAt one other x y)) → ((y : ℕ) → y < q → ¬ (ConflictAt one other p y))
    → ConflictAt one other x y → Compared p q x y → (p < x) ⊎ ((p ≡ x) × (q ≤ y))
sorted one other p q x y before beside at (inl lower) = absurd (before x y lower at)
sorted one other p q x y before beside at (inr (inl same)) = absurd (beside y same.1 (rw same.0 at at))
sorted one other p q x y before beside at (inr (inr above)) = above

earlier_or_same : (x n : ℕ) → x < suc n → (x < n) ⊎ (x ≡ n)
earlier_or_same x n low = grind arith

module _ (one other : Delta) (no_least : (p q : ℕ) → ¬ (LeastConflict one other p q)) where
  none_at : (p m : ℕ) → ((x y : ℕ) → x < p → ¬ (ConflictAt one other x y)) → (q : ℕ) → q < m → ¬ (ConflictAt one other p q)
  none_at p zero before q low at = absurd (omega arith)
  none_at p (suc m) before q low at =
      no_least p q (record { clash = at; least = λ x y other_at. sorted one other p q x y before (λ z under. none_at p m before z (omega arith)) other_at (compared p q x y) })

  none_below : (n x y : ℕ) → x < n → ¬ (ConflictAt one other x y)
  none_below zero x y low at = absurd (omega arith)
  none_below (suc n) x y low at =
      either (earlier_or_same x n low) (λ before. none_below n x y before at) (λ same. none_at n (suc y) (none_below n) y (omega arith) (rw same at at))

  pub no_conflict : Disjoint one other
  no_conflict found = none_below (suc found.0) found.0 found.1.0 (omega arith) found.1.1

-- ---- the law

module _ (source : Source) (accepted : IsAccepted source) (c : Configuration) where
  pub nothing_counts : HasProduct source c → (rule at second : ℕ) → LineRule source c rule at second → layer rule ≤ 2 → ⊥
  nothing_counts has rule at second (overlap part i j one other p q within behind at_i at_j least) low =
      no_overlap source accepted c has part i j one other p q within behind at_i at_j least
  nothing_counts has rule at second (of_operation k part t delta x r p is makes within of breaks) low =
      no_broken_operation source accepted c has k part t delta x r p is makes within of breaks
  nothing_counts has rule at second (of_product t r p product breaks) low = of_higher_table t r p breaks (omega arith)

  module _ (clean : (i : Instance) → layer i.rule ≤ 2 → ¬ (Counts source c i)) where
    none_first : (i : Instance) → layer i.rule < 2 → ¬ (Stands source c i)
    none_first i low stands = clean i (omega arith) (record { stands = stands; clean = λ lower below other. none_below_overlap lower.rule (omega arith) })

    apart : (part : Part) → Contains (chain source) part → AllPairs Disjoint (active source c part)
    apart part within i j d behind low =
        let ds = active source c part in
        let one = there_is ds i (omega arith) in
        let other = there_is ds j low in
        let disjoint : Disjoint one.0 other.0 = no_conflict one.0 other.0 (λ p q least.
        none_first (record { rule = 1; at = p; second = q }) (omega arith) (overlap part i j one.0 other.0 p q within behind one.1 other.1 least)) in
        rw (get_or_from_slice_get ds i one.0 d one.1, get_or_from_slice_get ds j other.0 d other.1) disjoint

    unbroken : (k : ℕ) (part : Part) (t : Table) (delta : Delta) (x : Operation) → slice_get (chain source) k ≡ Some part → Makes source c (take k (chain source)) t
        → Contains (active source c part) delta → Contains delta.operations x → (rule at : ℕ) → ¬ (OperationRule t x rule at)
    unbroken k part t delta x is makes within has rule at breaks =
        let second : layer rule ≡ 2 = second_layer t x rule at breaks in
        clean (record { rule = rule; at = at; second = at }) (omega arith)
        (record {
          stands = of_operation k part t delta x rule at is makes within has breaks;
          clean = λ lower below. none_first lower (omega arith);
        })

    its_product : HasProduct source c
    its_product =
        let found = product_exists source accepted c apart unbroken in
        record { disjoint = apart; table = found.0; product = found.1 }

  pub product_exactly_if : HasProduct source c ↔ ((i : Instance) → layer i.rule ≤ 2 → ¬ (Counts source c i))
  product_exactly_if = (λ has i low counts. nothing_counts has i.rule i.at i.second counts.stands low, λ clean. its_product clean)
