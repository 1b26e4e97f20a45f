-- The allowed orders of parts with one or two active deltas.
use Rattle.std.proofs.Common.{◌≡◌, ◌⊎◌, inl, inr, ℕ, zero, suc, ◌<◌, List, [], ◌∷◌, ◌++◌, refl, ◌∙◌, arith}
use Rattle.std.specs.List.{swap}
use Rattle.std.specs.List.Sorted.{IsPermutation, apply_swaps, SwapsInRange}
use Rattle.dj_tree.specs.Trees.{Delta, Part, Source}
use Rattle.dj_calculus.specs.Configurations.{Configuration}
use Rattle.dj_calculus.specs.Parts.{active}
use Rattle.dj_calculus.specs.Products.{AllowedAlong, no_parts, part_and}

swap_one : {X : Type 0} (x : X) (i j : ℕ) → i < 1 → j < 1 → swap (x ∷ []) i j ≡ x ∷ []
swap_one x zero zero p q = refl
swap_one x zero (suc j) p q = absurd (omega arith)
swap_one x (suc i) j p q = absurd (omega arith)

swaps_one : {X : Type 0} (x : X) (moves : List (ℕ × ℕ)) → SwapsInRange 1 moves → apply_swaps (x ∷ []) moves ≡ x ∷ []
swaps_one x [] below = refl
swaps_one x (m ∷ moves) below = rw (swaps_one x moves below.2) (swap_one x m.0 m.1 below.0 below.1)

-- one delta has one order
pub one_order : {X : Type 0} (x : X) (ys : List X) → IsPermutation (x ∷ []) ys → ys ≡ x ∷ []
one_order x ys p = p.is ∙ swaps_one x p.moves p.below

abbrev pub EitherOrder : {X : Type 0} → X → X → List X → Type 0
EitherOrder x y ys = (ys ≡ x ∷ y ∷ []) ⊎ (ys ≡ y ∷ x ∷ [])

swap_two : {X : Type 0} (x y : X) (i j : ℕ) → i < 2 → j < 2 → EitherOrder x y (swap (x ∷ y ∷ []) i j)
swap_two x y zero zero p q = inl refl
swap_two x y zero (suc zero) p q = inr refl
swap_two x y (suc zero) zero p q = inr refl
swap_two x y (suc zero) (suc zero) p q = inl refl
swap_two x y (suc (suc i)) j p q = absurd (omega arith)
swap_two x y zero (suc (suc j)) p q = absurd (omega arith)
swap_two x y (suc zero) (suc (suc j)) p q = absurd (omega arith)

turned : {X : Type 0} (x y : X) (ys : List X) → EitherOrder y x ys → EitherOrder x y ys
turned x y ys (inl e) = inr e
turned x y ys (inr e) = inl e

swapped : {X : Type 0} (x y : X) (ys : List X) (i j : ℕ) → i < 2 → j < 2 → EitherOrder x y ys → EitherOrder x y (swap ys i j)
swapped x y ys i j p q (inl e) = rw e (swap_two x y i j p q)
swapped x y ys i j p q (inr e) = rw e (turned x y _ (swap_two y x i j p q))

swaps_two : {X : Type 0} (x y : X) (moves : List (ℕ × ℕ)) → SwapsInRange 2 moves → EitherOrder x y (apply_swaps (x ∷ y ∷ []) moves)
swaps_two x y [] below = inl refl
swaps_two x y (m ∷ moves) below = swapped x y _ m.0 m.1 below.0 below.1 (swaps_two x y moves below.2)

-- two deltas have two
pub two_orders : {X : Type 0} (x y : X) (ys : List X) → IsPermutation (x ∷ y ∷ []) ys → EitherOrder x y ys
two_orders x y ys p = rw p.is (swaps_two x y p.moves p.below)

-- ---- along parts

pub record Splits (source : Source) (c : Configuration) (part : Part) (parts : List Part) (order : List Delta) : Type 0 where
  pub mine : List Delta
  pub later : List Delta
  pub permuted : IsPermutation (active source c part) mine
  pub rest : AllowedAlong source c parts later
  pub joined : order ≡ mine ++ later

pub splits : (source : Source) (c : Configuration) (part : Part) (parts : List Part) (order : List Delta) → AllowedAlong source c (part ∷ parts) order
    → Splits source c part parts order
splits source c part parts order (part_and {mine = mine} {later = later} p rest) = record { mine = mine; later = later; permuted = p; rest = rest; joined = refl }

pub ends : (source : Source) (c : Configuration) (order : List Delta) → AllowedAlong source c [] order → order ≡ []
ends source c order no_parts = refl
