-- Laws of broken operations, of conflicts, and of one pass.
use Rattle.std.specs.Prelude.{◌≡◌, ◌⊎◌, ◌↔◌, ℕ, suc, ◌<◌, List, [], take, length, slice_get, Some, Contains}
use Rattle.std.specs.List.{AllPairs}
use Rattle.dj_tree.specs.Trees.{Operation, Delta, Part, Source}
use Rattle.dj_tree.specs.declared.source.Instance.{Instance}
use Rattle.dj_calculus.specs.Configurations.{Configuration}
use Rattle.dj_calculus.specs.Parts.{chain, active}
use Rattle.dj_calculus.specs.Accepted.{IsAccepted}
use Rattle.dj_calculus.specs.Conflicts.{Disjoint}
use Rattle.dj_calculus.specs.Tables.{Table}
use Rattle.dj_calculus.specs.Operations.{apply}
use Rattle.dj_calculus.specs.Products.{Makes, Product}
use Rattle.dj_calculus.specs.Good.{HasProduct}
use Rattle.dj_calculus.specs.Instances.{layer, IsLeast}
use Rattle.dj_calculus.specs.LineRules.{OperationRule, Stands, Counts}
use Rattle.dj_product_laws.specs.OperationFaults.{faults}
use Rattle.dj_product_laws.specs.Passes.{attempt, attempt_all, met, SameMembers, IsAnOrder}
use Rattle.dj_product_laws.specs.LeastPairs.{IsLeastPair}
use Rattle.dj_product_laws.specs.LineConflicts.{ConflictIn, PreventsProduct}
use Rattle.dj_product_laws.specs.PartFaults.{operations_in, AreBroken, BreaksAt}
use Rattle.dj_product_laws.specs.OnePass.{Passed, StopsAt}

-- ---- operations

-- the faults of an operation are the rules that it breaks
abbrev pub FaultsAreRules : Type 0
FaultsAreRules = (t : Table) (x : Operation) (rule at : ℕ) → Contains (faults t x) (rule, at) ↔ OperationRule t x rule at

-- an operation of an accepted source without a fault is applied
abbrev pub FaultlessIsApplied : Type 0
FaultlessIsApplied = (source : Source) (delta : Delta) (x : Operation) (t : Table) → IsAccepted source → Contains source.deltas delta
    → Contains delta.operations x → faults t x ≡ [] → apply x t ≡ Some (attempt x t)

-- whatever the order of its members, it has the same faults and makes the same table
abbrev pub SameFaults : Type 0
SameFaults = (t : Table) (x y : Operation) (rule at : ℕ) → SameMembers x y → Contains (faults t x) (rule, at) ↔ Contains (faults t y) (rule, at)

abbrev pub SameApply : Type 0
SameApply = (source : Source) (delta : Delta) (x y : Operation) (t : Table) → IsAccepted source → Contains source.deltas delta
    → Contains delta.operations x → SameMembers x y → apply y t ≡ apply x t

abbrev pub SameAttempt : Type 0
SameAttempt = (source : Source) (delta : Delta) (x y : Operation) (t : Table) → IsAccepted source → Contains source.deltas delta
    → Contains delta.operations x → SameMembers x y → attempt y t ≡ attempt x t

-- ---- a part

-- What is met in a part whose active deltas are disjoint, in any order of their operations, are the rules that they break on the table before
-- the part.
abbrev pub MetAreBroken : Type 0
MetAreBroken = (source : Source) (c : Configuration) (part : Part) (xs : List Operation) (t : Table) (rule at : ℕ) → IsAccepted source
    → AllPairs Disjoint (active source c part) → IsAnOrder (operations_in source c part) xs
    → Contains (met xs t) (rule, at) ↔ AreBroken (operations_in source c part) t rule at

-- Where none is met, the table after them is what the parts up to and with this one make.
abbrev pub PartMakes : Type 0
PartMakes = (source : Source) (c : Configuration) (k : ℕ) (part : Part) (xs : List Operation) (t : Table) → IsAccepted source
    → slice_get (chain source) k ≡ Some part → AllPairs Disjoint (active source c part) → Makes source c (take k (chain source)) t
    → IsAnOrder (operations_in source c part) xs → met xs t ≡ [] → Makes source c (take (suc k) (chain source)) (attempt_all xs t)

-- ---- the parts

-- parts with a broken operation are one part
abbrev pub OnePartBreaks : Type 0
OnePartBreaks = (source : Source) (c : Configuration) (k n rule at other_rule other_at : ℕ) → IsAccepted source → BreaksAt source c k rule at
    → BreaksAt source c n other_rule other_at → k ≡ n

-- and no front of the chain beyond it makes a table
abbrev pub NothingBehind : Type 0
NothingBehind = (source : Source) (c : Configuration) (k n rule at : ℕ) (t : Table) → IsAccepted source → BreaksAt source c k rule at → k < n
    → ¬ (Makes source c (take n (chain source)) t)

-- Where no instance of layer 1 stands, the least that a part breaks is the least that counts.
abbrev pub LeastBrokenCounts : Type 0
LeastBrokenCounts = (source : Source) (c : Configuration) (k rule at : ℕ) → IsAccepted source → ((i : Instance) → layer i.rule < 2 → ¬ (Stands source c i))
    → IsLeastPair (BreaksAt source c k) rule at → IsLeast (PreventsProduct source c) (record { rule = rule; at = at; second = at })

-- So in a part whose active deltas are disjoint the least that is met, in any order of their operations, is.
abbrev pub LeastMetCounts : Type 0
LeastMetCounts = (source : Source) (c : Configuration) (k : ℕ) (part : Part) (xs : List Operation) (t : Table) (rule at : ℕ) → IsAccepted source
    → ((i : Instance) → layer i.rule < 2 → ¬ (Stands source c i)) → slice_get (chain source) k ≡ Some part → AllPairs Disjoint (active source c part)
    → Makes source c (take k (chain source)) t → IsAnOrder (operations_in source c part) xs → IsLeastPair (λ r p. Contains (met xs t) (r, p)) rule at
    → IsLeast (PreventsProduct source c) (record { rule = rule; at = at; second = at })

-- ---- conflicts

-- the least conflict is the least instance that counts
abbrev pub LeastConflictCounts : Type 0
LeastConflictCounts = (source : Source) (c : Configuration) (first second : ℕ) → IsLeastPair (ConflictIn source c) first second
    → IsLeast (Counts source c) (record { rule = 1; at = first; second = second })

abbrev pub LeastConflictPrevents : Type 0
LeastConflictPrevents = (source : Source) (c : Configuration) (first second : ℕ) → IsLeastPair (ConflictIn source c) first second
    → IsLeast (PreventsProduct source c) (record { rule = 1; at = first; second = second })

-- Without conflicts the active deltas of each part are disjoint, and no instance of layer 1 stands.
abbrev pub DisjointExactlyIf : Type 0
DisjointExactlyIf = (source : Source) (c : Configuration)
    → ((first second : ℕ) → ¬ (ConflictIn source c first second)) ↔ ((part : Part) → Contains (chain source) part → AllPairs Disjoint (active source c part))

abbrev pub NoneOfFirstLayer : Type 0
NoneOfFirstLayer = (source : Source) (c : Configuration) → ((first second : ℕ) → ¬ (ConflictIn source c first second))
    → (i : Instance) → layer i.rule < 2 → ¬ (Stands source c i)

-- ---- one pass

-- Without conflicts the table that stands after some parts is what they make.
abbrev pub PassedMakes : Type 0
PassedMakes = (source : Source) (c : Configuration) (k : ℕ) (t : Table) → IsAccepted source → ((first second : ℕ) → ¬ (ConflictIn source c first second))
    → Passed source c k t → Makes source c (take k (chain source)) t

-- After all parts it is the product, and nothing prevents one.
abbrev pub PassedIsProduct : Type 0
PassedIsProduct = (source : Source) (c : Configuration) (t : Table) → IsAccepted source → ((first second : ℕ) → ¬ (ConflictIn source c first second))
    → Passed source c (length (chain source)) t → Product source c t

abbrev pub PassedIsClean : Type 0
PassedIsClean = (source : Source) (c : Configuration) (t : Table) → IsAccepted source → ((first second : ℕ) → ¬ (ConflictIn source c first second))
    → Passed source c (length (chain source)) t → (i : Instance) → ¬ (PreventsProduct source c i)

-- Where the pass stops, the least that is met is the least that counts.
abbrev pub StoppedCounts : Type 0
StoppedCounts = (source : Source) (c : Configuration) (k rule at : ℕ) → IsAccepted source → ((first second : ℕ) → ¬ (ConflictIn source c first second))
    → StopsAt source c k rule at → IsLeast (PreventsProduct source c) (record { rule = rule; at = at; second = at })

-- ---- one answer

-- A configuration of an accepted source has a product, or there is a least instance that prevents one, and not both.
abbrev pub ProductOrLeast : Type 0
ProductOrLeast = (source : Source) (c : Configuration) → IsAccepted source → HasProduct source c ⊎ ((i : Instance) × IsLeast (PreventsProduct source c) i)

abbrev pub NotBoth : Type 0
NotBoth = (source : Source) (c : Configuration) (i : Instance) → IsAccepted source → HasProduct source c → ¬ (PreventsProduct source c i)
