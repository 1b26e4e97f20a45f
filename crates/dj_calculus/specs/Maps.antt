-- Finite maps from texts, in the order of their bytes.
use Rattle.std.specs.Prelude.{map, Option, Some, None}
use Rattle.std.specs.Ordering.{nat_cmp}
use Rattle.std.specs.declared.cmp.Ordering.{Ordering}
use Rattle.std.specs.Cmp.Lexicographic.{slice_cmp}
use Rattle.std.specs.FinMap.{FinMap, insert, remove, entries, from_entries}
use Rattle.dj_names.specs.Texts.{Text}

abbrev pub text_cmp : Text → Text → Ordering
text_cmp = slice_cmp nat_cmp

abbrev pub TextMap : Type 0 → Type 0
TextMap X = FinMap text_cmp X

-- the map with this value at a key, or with none
abbrev pub with_at : {X : Type 0} → TextMap X → Text → Option X → TextMap X
with_at m key None = remove m key
with_at m key (Some value) = insert m key value

-- the map with each value changed
abbrev pub map_values : {X Y : Type 0} → (X → Y) → TextMap X → TextMap Y
map_values change m = from_entries (map (λ entry. (entry.0, change entry.1)) (entries m))
