-- Pairs of conflicting things, by their places.
use Rattle.std.specs.Prelude.{◌≡◌, ◌⊎◌, ◌<◌, ◌≤◌, true, List}
use Rattle.dj_tree.specs.Trees.{Delta, Operation, Part, Source}
use Rattle.dj_calculus.specs.Configurations.{Configuration}
use Rattle.dj_calculus.specs.Parts.{active}
use Rattle.dj_calculus.specs.Things as calculus
use Rattle.dj_calculus.specs.Things.{touched_by}
use Rattle.dj_calculus.specs.Conflicts.{conflict}
use Rattle.dj_product_laws.specs.Overlaps.{ConflictAmong}
use Rattle.dj_apply.specs.Least.{Among}
use Rattle.dj_apply.specs.declared.overlaps.Thing.{Thing}

-- the order of such pairs: by the first place, then by the second
abbrev pub IsNoLater : Thing → Thing → Type 0
IsNoLater a b = (a.first < b.first) ⊎ ((a.first ≡ b.first) × (a.second ≤ b.second))

-- the two things conflict, and these are their places
abbrev pub Clash : calculus.Thing → calculus.Thing → Thing → Type 0
Clash a b found = (conflict a b ≡ true) × (found ≡ record { first = a.at; second = b.at })

-- a thing conflicts with one that the operation touches
abbrev pub ThingClash : calculus.Thing → Operation → Thing → Type 0
ThingClash a y = Among (Clash a) (touched_by y)

-- a thing of the one operation conflicts with one of the other
abbrev pub OperationClash : Operation → Operation → Thing → Type 0
OperationClash x y = Among (λ a. ThingClash a y) (touched_by x)

-- one of these things conflicts with one that the operation touches
abbrev pub ThingsClash : List calculus.Thing → Operation → Thing → Type 0
ThingsClash before y = Among (λ b. Among (λ a. Clash a b) before) (touched_by y)

-- a thing of one of the first operations conflicts with one of one of the others
abbrev pub OperationsClash : List Operation → List Operation → Thing → Type 0
OperationsClash xs ys = Among (λ x. Among (OperationClash x) ys) xs

-- two of these deltas conflict at these places, the first in the earlier delta
abbrev pub DeltasClash : List Delta → Thing → Type 0
DeltasClash deltas found = ConflictAmong deltas found.first found.second

-- two active deltas of the part do
abbrev pub PartClash : Source → Configuration → Part → Thing → Type 0
PartClash source c part = DeltasClash (active source c part)
