-- The numbers of deltas, and where a line places them.
use Rattle.std.specs.Prelude.{◌≡◌, ℕ, ◌-◌, ◌≤◌, ◌==◌, Bool, true, List, [], map, slice_get, Option, Some, None, unwrap_or}
use Rattle.std.specs.Option.{option_and_then}
use Rattle.std.specs.List.{list_any, find, position_or_len}
use Rattle.std.specs.Str.{bytes_eq}
use Rattle.dj_names.specs.Texts.{Text}
use Rattle.dj_tree.specs.Trees.{Formula, Item, Part, Source, always}
use Rattle.dj_calculus.specs.Contents.{items_of}
use Rattle.dj_calculus.specs.Parts.{chain}

-- the number of the first delta of this name, from 0, and how many deltas there are where none has it
abbrev pub delta_number : Source → Text → ℕ
delta_number source name = position_or_len (λ d. bytes_eq d.name.text name) source.deltas

-- the numbers of a part's deltas, in the order of its items
abbrev pub numbers_of : Source → Part → List ℕ
numbers_of source part = map (λ i. delta_number source i.delta.text) part.items

-- the numbers of each part's deltas, part by part along the chain
abbrev pub numbers_along : Source → List (List ℕ)
numbers_along source = map (numbers_of source) (chain source)

-- the part of this number along the chain, counted from 1, has an item that names the delta of this number
pub record StandsIn (source : Source) (delta part : ℕ) : Type 0 where
  pub counted : 1 ≤ part
  pub named : list_any (λ number. number == delta) (unwrap_or (slice_get (numbers_along source) (part - 1)) []) ≡ true

-- the item names the delta of this number
abbrev pub is_item_of : Source → ℕ → Item → Bool
is_item_of source delta item = delta_number source item.delta.text == delta

-- the condition of the item that names the delta of this number. No condition is true.
abbrev pub condition_of : Source → ℕ → Formula
condition_of source delta = unwrap_or (option_and_then (λ i. i.condition) (find (is_item_of source delta) (items_of source))) always

-- the formula of valid configurations, or the condition of a delta
abbrev pub formula_of : Source → Option ℕ → Formula
formula_of source None = source.valid
formula_of source (Some delta) = condition_of source delta
