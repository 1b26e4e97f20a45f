-- One pass along the chain of parts.
use Rattle.std.specs.Prelude.{◌≡◌, ℕ, suc, List, [], slice_get, Some, Contains}
use Rattle.dj_tree.specs.Trees.{Operation, Part, Source}
use Rattle.dj_calculus.specs.Configurations.{Configuration}
use Rattle.dj_calculus.specs.Parts.{chain}
use Rattle.dj_calculus.specs.Tables.{Table, empty_table}
use Rattle.dj_product_laws.specs.Passes.{attempt_all, met, IsAnOrder}
use Rattle.dj_product_laws.specs.LeastPairs.{IsLeastPair}
use Rattle.dj_product_laws.specs.PartFaults.{operations_in}

-- this table stands after the first k parts, no operation of which is broken: the operations of each part were attempted in some order
pub data Passed (source : Source) (c : Configuration) : ℕ → Table → Type 0 where
  begins : Passed source c 0 empty_table
  and_part : {k : ℕ} {t : Table} {part : Part} {xs : List Operation} → Passed source c k t → slice_get (chain source) k ≡ Some part
      → IsAnOrder (operations_in source c part) xs → met xs t ≡ [] → Passed source c (suc k) (attempt_all xs t)

-- The pass stops at the part of place k, and this is the least rule, with its least place, that is met there.
pub record StopsAt (source : Source) (c : Configuration) (k rule at : ℕ) : Type 0 where
  pub table : Table
  pub passed : Passed source c k table
  pub part : Part
  pub at_k : slice_get (chain source) k ≡ Some part
  pub xs : List Operation
  pub order : IsAnOrder (operations_in source c part) xs
  pub least : IsLeastPair (λ r p. Contains (met xs table) (r, p)) rule at
