-- Members of one class put over those in force above it.
use Rattle.std.specs.Prelude.{◌≡◌, ◌⊎◌, ◌<◌, ◌^◌, ℕ, List, map, slice_get, Option, Some}
use Rattle.dj_names.specs.declared.names.Name.{Name}
use Rattle.ifj_table.specs.declared.entry.FieldEntry.{FieldEntry}
use Rattle.ifj_table.specs.declared.entry.MethodEntry.{MethodEntry}
use Rattle.ifj_table.specs.declared.lookups.Found.{Found}

-- the numbers of the names of fields, and of methods
abbrev pub field_numbers : List FieldEntry → List ℕ
field_numbers fields = map (λ f. f.spot.name.0) fields

abbrev pub method_numbers : List MethodEntry → List ℕ
method_numbers methods = map (λ m. m.spot.name.0) methods

-- what is said of a key, with the first `count` keys of an owner put over what was said before: its place among them, and else
-- what was said before
abbrev pub IsOver : List ℕ → ℕ → Name → ℕ → Option Found → Option Found → Type 0
IsOver keys count owner key before after =
    ((place : ℕ) × (place < count) × (slice_get keys place ≡ Some key) × (after ≡ Some (record { owner = owner; place = place })))
    ⊎ (((place : ℕ) → place < count → ¬ (slice_get keys place ≡ Some key)) × (after ≡ before))

-- so it is of each key
abbrev pub Overlays : List ℕ → ℕ → Name → (ℕ → Option Found) → (ℕ → Option Found) → Type 0
Overlays keys count owner before after = (key : ℕ) → key < 2 ^ 32 → IsOver keys count owner key (before key) (after key)
