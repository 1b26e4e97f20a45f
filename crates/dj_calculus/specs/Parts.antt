-- The parts of a line in their order, and which deltas of a part are active.
use Rattle.std.specs.Prelude.{◌≡◌, ℕ, zero, suc, Bool, true, false, List, [], ◌∷◌, length, Option, Some, None, is_none, if◌then◌else◌}
use Rattle.std.specs.List.{find, filter_map}
use Rattle.std.specs.Option.{option_map_or}
use Rattle.std.specs.Str.{bytes_eq}
use Rattle.dj_names.specs.Texts.{Text}
use Rattle.dj_tree.specs.Trees.{Delta, Item, Part, Source}
use Rattle.dj_calculus.specs.Formulas.{value}
use Rattle.dj_calculus.specs.Configurations.{Configuration, chosen}

-- ---- the chain

-- the first part without `after`
abbrev pub first_part : List Part → Option Part
first_part parts = find (λ p. is_none p.after) parts

-- the part's `after` names the other
abbrev pub comes_after : Part → Part → Bool
comes_after before part = option_map_or (λ name. bytes_eq name.text before.name.text) part.after false

-- the first part whose `after` names this one
abbrev pub next_part : List Part → Part → Option Part
next_part parts p = find (comes_after p) parts

-- the parts that are reached from the first one by going on to the next, in any number of steps
pub data IsReached (parts : List Part) : Part → Type 0 where
  begins : (p : Part) → first_part parts ≡ Some p → IsReached parts p
  goes_on : (p q : Part) → IsReached parts p → next_part parts p ≡ Some q → IsReached parts q

-- this part, where there is one, and those after it, as many as `count` at most
abbrev pub parts_from : ℕ → List Part → Option Part → List Part
parts_from zero parts p = []
parts_from (suc count) parts None = []
parts_from (suc count) parts (Some p) = p ∷ parts_from count parts (next_part parts p)

-- The chain of parts: those that are reached, in the order in which they are. Where no two parts share a name none is reached twice, so
-- as many steps as there are parts are enough (law ChainIsReached).
abbrev pub chain : Source → List Part
chain source = parts_from (length source.parts) source.parts (first_part source.parts)

-- ---- active deltas

abbrev pub delta_named : Source → Text → Option Delta
delta_named source name = find (λ d. bytes_eq d.name.text name) source.deltas

-- whether the condition of an item holds. No condition is true.
abbrev pub is_on : Source → Configuration → Item → Bool
is_on source c item = option_map_or (value (chosen source c)) item.condition true

-- the deltas of a part whose condition holds, in the order of its items
abbrev pub active : Source → Configuration → Part → List Delta
active source c part = filter_map (λ i. if is_on source c i then delta_named source i.delta.text else None) part.items
