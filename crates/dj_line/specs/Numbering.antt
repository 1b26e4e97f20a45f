-- Deltas by the numbers of their names, and where each is placed.
use Rattle.std.specs.Prelude.{◌≡◌, ◌⊎◌, ℕ, ◌<◌, ◌≤◌, ◌-◌, List, map, nat_eq, slice_get, Contains, Option, Some, None, IfSome, length}
use Rattle.std.specs.Option.{option_map}
use Rattle.std.specs.List.{position_or_len}
use Rattle.arena_walk.specs.declared.arena.NodeId.{NodeId}
use Rattle.dj_tree.specs.Trees as plain
use Rattle.dj_tree.specs.Plain.{plain_formula, plain_source}
use Rattle.dj_tree.specs.declared.source.Source.{Source}
use Rattle.dj_tree.specs.declared.declarations.Item.{Item}
use Rattle.dj_tree.specs.declared.declarations.PartDecl.{PartDecl}
use Rattle.dj_line.specs.declared.tables.Placing.{Placing}
use Rattle.dj_line.specs.Placing.{StandsIn, condition_of}

-- no number stands twice
abbrev pub StandOnce : List ℕ → Type 0
StandOnce xs = (i j n : ℕ) → slice_get xs i ≡ Some n → slice_get xs j ≡ Some n → i ≡ j

-- the number of an item's delta, where these are the deltas' names
abbrev pub number_by : List ℕ → Item → ℕ
number_by keys item = position_or_len (nat_eq item.delta.name.0) keys

-- the placing is as before and no item is of the delta, or it is that of an item of the delta
abbrev pub IsSetTo : List Placing → (Item → ℕ) → List Item → ℕ → ℕ → Placing → Type 0
IsSetTo old number items part delta p =
    ((slice_get old delta ≡ Some p) × ((item : Item) → Contains items item → number item ≡ delta → ⊥))
    ⊎ ((item : Item) × Contains items item × (number item ≡ delta) × (p.part ≡ part) × (p.when ≡ item.when))

-- the item stands in the part of this number along the chain, from 0
pub record StandsAt (parts : List PartDecl) (chain : List ℕ) (k : ℕ) (item : Item) : Type 0 where
  pub number : ℕ
  pub part : PartDecl
  pub on_chain : slice_get chain k ≡ Some number
  pub is_part : slice_get parts number ≡ Some part
  pub within : Contains part.items item

-- these are the numbers of the items of each part of the chain
abbrev pub HasItems : (Item → ℕ) → List PartDecl → List ℕ → List (List ℕ) → Type 0
HasItems number parts chain lists = map Some lists ≡ map (λ k. option_map (λ p. map number p.items) (slice_get parts k)) chain

-- each delta that no item in the first parts of the chain is of is not placed, and the others are placed as an item says
abbrev pub ArePlaced : (Item → ℕ) → List PartDecl → List ℕ → ℕ → List Placing → Type 0
ArePlaced number parts chain count placings =
    (delta : ℕ) (p : Placing) → slice_get placings delta ≡ Some p
    → ((p.part ≡ 0) × ((k : ℕ) (item : Item) → k < count → StandsAt parts chain k item → number item ≡ delta → ⊥))
    ⊎ ((item : Item) × StandsAt parts chain (p.part - 1) item × (number item ≡ delta) × (1 ≤ p.part) × (p.when ≡ item.when))

-- what a condition of the code says
abbrev pub when_formula : Source → Option NodeId → plain.Formula
when_formula source None = plain.always
when_formula source (Some root) = plain_formula source.names source.formulas root.0

-- the placing of the delta of this number is right
pub record IsPlaced (source : Source) (delta : ℕ) (p : Placing) : Type 0 where
  pub stands : StandsIn (plain_source source) delta p.part
  pub condition : when_formula source p.when ≡ condition_of (plain_source source) delta
  pub root : IfSome p.when (λ root. root.0 < length source.formulas)
