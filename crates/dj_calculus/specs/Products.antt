-- Allowed orders of the active deltas, and the product of a configuration.
use Rattle.std.specs.Prelude.{◌≡◌, ℕ, ◌≤◌, List, [], ◌∷◌, ◌++◌, take, slice_get, Option, Some, IsNone}
use Rattle.std.specs.List.{flat_map, filter_map}
use Rattle.std.specs.List.Sorted.{IsPermutation}
use Rattle.dj_names.specs.Texts.{Text}
use Rattle.dj_tree.specs.Trees.{Delta, Part, Source}
use Rattle.dj_calculus.specs.Configurations.{Configuration, pieces_of}
use Rattle.dj_calculus.specs.Parts.{chain, active, delta_named}
use Rattle.dj_calculus.specs.Tables.{Table, empty_table}
use Rattle.dj_calculus.specs.Operations.{run, apply_delta}

-- the active deltas of these parts, part by part, each once, and in any order inside a part
pub data AllowedAlong (source : Source) (c : Configuration) : List Part → List Delta → Type 0 where
  no_parts : AllowedAlong source c [] []
  part_and : {part : Part} {parts : List Part} {mine later : List Delta} → IsPermutation (active source c part) mine
      → AllowedAlong source c parts later → AllowedAlong source c (part ∷ parts) (mine ++ later)

abbrev pub IsAllowed : Source → Configuration → List Delta → Type 0
IsAllowed source c order = AllowedAlong source c (chain source) order

-- the order in which the items stand
abbrev pub default_order : Source → Configuration → List Delta
default_order source c = flat_map (active source c) (chain source)

-- the operations of these deltas on the empty table
abbrev pub fold_deltas : List Delta → Option Table
fold_deltas order = run apply_delta order empty_table

-- These parts make this table: every allowed order of their active deltas gives it, and with the same places. To ask for the places too
-- is more than sameness but for places. The two agree where the active deltas of each part are disjoint.
pub record Makes (source : Source) (c : Configuration) (parts : List Part) (t : Table) : Type 0 where
  pub each : (order : List Delta) → AllowedAlong source c parts order → fold_deltas order ≡ Some t

-- the table after the first k parts of the chain, in the default order
abbrev pub table_after : Source → Configuration → ℕ → Option Table
table_after source c k = fold_deltas (flat_map (active source c) (take k (chain source)))

-- the product of the configuration
abbrev pub Product : Source → Configuration → Table → Type 0
Product source c t = Makes source c (chain source) t

-- ---- order words

pub data OrderFault : Type 0 where
  unknown_delta : ℕ → OrderFault
  not_allowed : OrderFault

-- the deltas that the pieces of a word name
abbrev pub order_of : Source → Text → List Delta
order_of source word = filter_map (delta_named source) (pieces_of word)

-- the piece of this number, from 0, names no delta
abbrev pub IsUnknownPiece : Source → Text → ℕ → Type 0
IsUnknownPiece source word k = (piece : Text) × (slice_get (pieces_of word) k ≡ Some piece) × IsNone (delta_named source piece)

-- the word stands for this allowed order
pub record OrderWord (source : Source) (c : Configuration) (word : Text) (order : List Delta) : Type 0 where
  pub known : (k : ℕ) → ¬ (IsUnknownPiece source word k)
  pub names : order ≡ order_of source word
  pub allowed : IsAllowed source c order

-- why the word stands for none: its leftmost piece that names no delta, and else that the order isn't allowed
pub data OrderWordFault (source : Source) (c : Configuration) (word : Text) : OrderFault → Type 0 where
  leftmost : (k : ℕ) → IsUnknownPiece source word k → ((other : ℕ) → IsUnknownPiece source word other → k ≤ other)
      → OrderWordFault source c word (unknown_delta k)
  disallowed : ((k : ℕ) → ¬ (IsUnknownPiece source word k)) → ¬ (IsAllowed source c (order_of source word))
      → OrderWordFault source c word not_allowed
