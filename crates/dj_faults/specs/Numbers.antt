-- Names by their numbers.
use Rattle.std.specs.Prelude.{◌≡◌, ℕ, ◌<◌, Bool, true, false, List, Some, slice_get, take, nat_eq}
use Rattle.std.specs.List.{list_any}
use Rattle.dj_names.specs.Texts.{AreDistinct}
use Rattle.dj_tree.specs.declared.declarations.Spot.{Spot}
use Rattle.dj_tree.specs.declared.source.Source.{Source}
use Rattle.dj_tree.specs.WellFormed.{IsWellFormed}

-- whether one of the names has this number
abbrev pub is_met : List Spot → ℕ → Bool
is_met spots number = list_any (λ x. nat_eq x.name.0 number) spots

-- at this place of a name whose number an earlier one has, among so many names
pub record Again (spots : List Spot) (count : ℕ) (at : ℕ) : Type 0 where
  pub number : ℕ
  pub x : Spot
  pub within : number < count
  pub there : slice_get spots number ≡ Some x
  pub met : is_met (take number spots) x.name.0 ≡ true
  pub here : x.at ≡ at

-- at this place of a name whose number none of the others has
abbrev pub Unmet : List Spot → Spot → ℕ → Type 0
Unmet others x at = (is_met others x.name.0 ≡ false) × (x.at ≡ at)

-- a well formed source, whose names are distinct, as those of any source are
pub record IsSound (source : Source) : Type 0 where
  pub formed : IsWellFormed source
  pub distinct : AreDistinct source.names
