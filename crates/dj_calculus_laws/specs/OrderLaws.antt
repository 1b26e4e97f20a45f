-- One allowed order is enough where the active deltas of each part are disjoint.
use Rattle.std.specs.Prelude.{◌≡◌, ◌↔◌, ◌≤◌, ℕ, suc, List, take, slice_get, Some, None, Contains}
use Rattle.std.specs.List.{AllPairs}
use Rattle.std.specs.Option.{option_and_then}
use Rattle.dj_tree.specs.Trees.{Delta, Part, Source}
use Rattle.dj_calculus.specs.Configurations.{Configuration}
use Rattle.dj_calculus.specs.Parts.{chain, active}
use Rattle.dj_calculus.specs.Conflicts.{Disjoint}
use Rattle.dj_calculus.specs.Tables.{Table}
use Rattle.dj_calculus.specs.Operations.{run, apply_delta}
use Rattle.dj_calculus.specs.Products.{AllowedAlong, fold_deltas, Makes, table_after}

-- the active deltas of each of these parts are disjoint
abbrev pub AreDisjoint : Source → Configuration → List Part → Type 0
AreDisjoint source c parts = (part : Part) → Contains parts part → AllPairs Disjoint (active source c part)

-- any two allowed orders come to the same
abbrev pub OrdersAgree : Type 0
OrdersAgree = (source : Source) (c : Configuration) (parts : List Part) (one other : List Delta) → AreDisjoint source c parts
    → AllowedAlong source c parts one → AllowedAlong source c parts other → fold_deltas one ≡ fold_deltas other

-- so the parts make what one allowed order folds to
abbrev pub OneOrderMakes : Type 0
OneOrderMakes = (source : Source) (c : Configuration) (parts : List Part) (order : List Delta) (t : Table) → AreDisjoint source c parts
    → AllowedAlong source c parts order → fold_deltas order ≡ Some t → Makes source c parts t

-- the first k parts make the table after them
abbrev pub TableAfterMakes : Type 0
TableAfterMakes = (source : Source) (c : Configuration) (k : ℕ) (t : Table) → AreDisjoint source c (take k (chain source))
    → Makes source c (take k (chain source)) t ↔ (table_after source c k ≡ Some t)

-- after one part more stands what its active deltas make of it
abbrev pub TableAfterNext : Type 0
TableAfterNext = (source : Source) (c : Configuration) (k : ℕ) (part : Part) → slice_get (chain source) k ≡ Some part
    → table_after source c (suc k) ≡ option_and_then (run apply_delta (active source c part)) (table_after source c k)

-- where the default order is undefined after some parts, it is after more
abbrev pub StaysUndefined : Type 0
StaysUndefined = (source : Source) (c : Configuration) (k n : ℕ) → k ≤ n → table_after source c k ≡ None → table_after source c n ≡ None
