-- What stands without a lower instance that counts, stands without a lower instance that stands.
use Rattle.std.proofs.Common.{◌≡◌, ℕ, zero, suc, ◌<◌, ◌≤◌, ◌↔◌, Bool, true, false, nat_lt, Some, slice_get, length, Contains, refl, arith}
use Rattle.std.proofs.lemmas.Option.{slice_get_within}
use Rattle.dj_calculus.specs.Configurations.{Configuration}
use Rattle.dj_calculus.specs.Parts.{chain, active}
use Rattle.std.specs.Bool.{if◌then◌else◌}
use Rattle.dj_tree.specs.declared.source.Instance.{Instance}
use Rattle.dj_tree.specs.Trees.{Expr, Operation, Delta, Part, Source}
use Rattle.dj_calculus.specs.Tables.{Table}
use Rattle.dj_calculus.specs.Typing.{Home}
use Rattle.dj_calculus.specs.BodyRules.{NodeRule, unknown_variable}
use Rattle.dj_calculus.specs.TableRules.{TableRule, of_node}
use Rattle.dj_calculus.specs.LineRules.{OperationRule, class_there, LineRule, overlap, of_operation, of_product}
use Rattle.dj_calculus.specs.Instances.{layer, IsLower, CountsAmong, IsLeast}

-- where nothing of a layer below n counts, nothing of such a layer stands
pub none_stands : (Stands : Instance → Type 0) (n : ℕ) → ((i : Instance) → layer i.rule < n → ¬ (CountsAmong Stands i))
    → (i : Instance) → layer i.rule < n → ¬ (Stands i)
none_stands Stands zero none i low stands = absurd (omega arith)
none_stands Stands (suc n) none i low stands =
    none i low (record { stands = stands; clean = λ j lower. none_stands Stands n (λ k below. none k (omega arith)) j (omega arith) })

pub counts_by_layers : (Stands : Instance → Type 0) (i : Instance)
    → CountsAmong Stands i ↔ (Stands i × ((lower : Instance) → IsLower lower i → ¬ (CountsAmong Stands lower)))
counts_by_layers Stands i = (
  λ counts. (counts.stands, λ lower below other. counts.clean lower below other.stands),
  λ both. record { stands = both.0; clean = λ lower below. none_stands Stands (layer i.rule) (λ j low. both.1 j low) lower below },
)

first_layer : (b c d e : Bool) → (if b then 1 else (if c then 2 else (if d then 3 else (if e then 4 else 5)))) < 1 → ⊥
first_layer true c d e low = omega arith
first_layer false true d e low = omega arith
first_layer false false true e low = omega arith
first_layer false false false true low = omega arith
first_layer false false false false low = omega arith

-- no layer is below the first
pub none_below_overlap : (rule : ℕ) → layer rule < 1 → ⊥
none_below_overlap rule low = first_layer (nat_lt rule 2) (nat_lt rule 9) (nat_lt rule 12) (nat_lt rule 14) low

-- ---- rules by their layers

pub not_first_operation : (t : Table) (operation : Operation) (rule at : ℕ) → OperationRule t operation rule at → layer rule < 2 → ⊥
not_first_operation t operation rule at (class_there is) low = omega arith
not_first_operation t operation rule at _ low = omega arith

pub of_higher_node : (t : Table) (home : Home) (e : Expr) (rule at : ℕ) → NodeRule t home e rule at → layer rule < 3 → ⊥
of_higher_node t home e rule at (unknown_variable is) low = omega arith
of_higher_node t home e rule at _ low = omega arith

pub of_higher_table : (t : Table) (rule at : ℕ) → TableRule t rule at → layer rule < 3 → ⊥
of_higher_table t rule at (of_node home body r p is breaks) low = of_higher_node t home breaks.node rule at breaks.breaks low
of_higher_table t rule at _ low = omega arith

-- two active deltas of one part, one behind the other
pub record HasPair (source : Source) (c : Configuration) : Type 0 where
  pub part : Part
  pub of_chain : Contains (chain source) part
  pub i : ℕ
  pub j : ℕ
  pub behind : i < j
  pub one : Delta
  pub other : Delta
  pub at_i : slice_get (active source c part) i ≡ Some one
  pub at_j : slice_get (active source c part) j ≡ Some other

-- what stands of the first layer is an overlap, so there are two active deltas of one part
pub overlaps_first : (source : Source) (c : Configuration) (rule at second : ℕ) → LineRule source c rule at second → layer rule < 2 → HasPair source c
overlaps_first source c rule at second (overlap part i j one other p q within behind at_i at_j least) low =
    record { part = part; of_chain = within; i = i; j = j; behind = behind; one = one; other = other; at_i = at_i; at_j = at_j }
overlaps_first source c rule at second (of_operation k part t delta operation r p x makes y z breaks) low =
    absurd (not_first_operation t operation rule at breaks low)
overlaps_first source c rule at second (of_product t r p product breaks) low = absurd (of_higher_table t rule at breaks (omega arith))

-- of at most one delta there is no second
pub no_second : (source : Source) (c : Configuration) → ((part : Part) → Contains (chain source) part → length (active source c part) ≤ 1) → ¬ (HasPair source c)
no_second source c one pair = absurd (omega (arith, one pair.part pair.of_chain, slice_get_within (active source c pair.part) pair.j pair.other pair.at_j))

-- ---- the order of instances

pub one_least : (P : Instance → Type 0) (i j : Instance) → IsLeast P i → IsLeast P j → i ≡ j
one_least P i j a b = grind (arith, a.least j b.is, b.least i a.is)

-- a rule on operations is of layer 2
pub second_layer : (t : Table) (operation : Operation) (rule at : ℕ) → OperationRule t operation rule at → layer rule ≡ 2
second_layer t operation rule at (class_there is) = refl
second_layer t operation rule at _ = refl
