-- Operations one after the other, where a broken one changes nothing, and lists of operations that are the same but for order.
use Rattle.std.specs.Prelude.{ℕ, List, [], ◌∷◌, ◌++◌, Option}
use Rattle.std.specs.List.Sorted.{IsPermutation}
use Rattle.std.specs.Option.{unwrap_or}
use Rattle.dj_tree.specs.Trees.{Spot, Field, Method, MemberOperation, Operation, adds_class, modifies_class, removes_class}
use Rattle.dj_calculus.specs.Tables.{Table}
use Rattle.dj_calculus.specs.Operations.{apply}
use Rattle.dj_product_laws.specs.OperationFaults.{faults}

-- ---- one pass

-- the table after an operation with these faults: what it makes, where it has none and makes one, and else the table as it is
abbrev pub unless_broken : List (ℕ × ℕ) → Option Table → Table → Table
unless_broken [] made t = unwrap_or made t
unless_broken (fault ∷ more) made t = t

-- the table after the operation, or the table as it is where the operation is broken on it
abbrev pub attempt : Operation → Table → Table
attempt x t = unless_broken (faults t x) (apply x t) t

-- the table after these operations, each attempted on what the ones before it leave
abbrev pub attempt_all : List Operation → Table → Table
attempt_all [] t = t
attempt_all (x ∷ xs) t = attempt_all xs (attempt x t)

-- the rules and places that they break on the way, each on what the ones before it leave
abbrev pub met : List Operation → Table → List (ℕ × ℕ)
met [] t = []
met (x ∷ xs) t = faults t x ++ met xs (attempt x t)

-- ---- other orders

-- the two operations are the same but for the order of their members
pub data SameMembers : Operation → Operation → Type 0 where
  adds : {name : Spot} {parent : Option Spot} {fields fields' : List Field} {methods methods' : List Method} → IsPermutation fields fields'
      → IsPermutation methods methods'
      → SameMembers (adds_class (record { name = name; parent = parent; fields = fields; methods = methods })) (adds_class (record { name = name; parent = parent; fields = fields'; methods = methods' }))
  modifies : {name : Spot} {parent : Option Spot} {members members' : List MemberOperation} → IsPermutation members members'
      → SameMembers (modifies_class (record { name = name; parent = parent; members = members })) (modifies_class (record { name = name; parent = parent; members = members' }))
  removes : {name : Spot} → SameMembers (removes_class name) (removes_class name)

-- and so are those at each place of two lists
pub data AllSameMembers : List Operation → List Operation → Type 0 where
  no_operations : AllSameMembers [] []
  operation_and : {x y : Operation} {xs ys : List Operation} → SameMembers x y → AllSameMembers xs ys → AllSameMembers (x ∷ xs) (y ∷ ys)

-- the second list has the operations of the first in any order, each with its members in any order
pub record IsAnOrder (operations xs : List Operation) : Type 0 where
  pub order : List Operation
  pub permuted : IsPermutation operations order
  pub members : AllSameMembers order xs
