-- Lists of entries in the order of their names, as finite maps.
use Rattle.std.specs.Prelude.{◌≡◌, ◌<◌, ◌≤◌, ℕ, List, map, length, slice_get, Some}
use Rattle.std.specs.declared.cmp.Ordering.TheVariants.{Less}
use Rattle.std.specs.FinMap.{from_entries}
use Rattle.dj_names.specs.Texts.{Text}
use Rattle.dj_calculus.specs.Maps.{TextMap, text_cmp}

-- of two places of the list the earlier text is less
abbrev pub AreRising : List Text → Type 0
AreRising keys = (i j : ℕ) (x y : Text) → i < j → slice_get keys i ≡ Some x → slice_get keys j ≡ Some y → text_cmp x y ≡ Less

-- a text that isn't in the list would stand at this place: the texts before are less, and those from there on are greater
pub record IsGap (keys : List Text) (key : Text) (at : ℕ) : Type 0 where
  pub within : at ≤ length keys
  pub before : (i : ℕ) (x : Text) → i < at → slice_get keys i ≡ Some x → text_cmp x key ≡ Less
  pub behind : (i : ℕ) (x : Text) → at ≤ i → slice_get keys i ≡ Some x → text_cmp key x ≡ Less

-- entries by their keys, each with what it says
abbrev pub pairs_of : {E X : Type 0} → (E → Text) → (E → X) → List E → List (Text × X)
pairs_of key read entries = map (λ entry. (key entry, read entry)) entries

abbrev pub map_of : {E X : Type 0} → (E → Text) → (E → X) → List E → TextMap X
map_of key read entries = from_entries (pairs_of key read entries)
