-- Weights of lists and trees: each element has a number, and a list the sum of these. A list in which no weight is above 1 in all has at
-- most one element of weight 1.
use Rattle.std.proofs.Common.{◌≡◌, ◌⊎◌, inl, inr, ℕ, zero, suc, ◌+◌, ◌≤◌, Bool, cond, List, [], ◌∷◌, ◌++◌, map, Option, Some, None, slice_get, refl, sym, ap, subst, arith}
use Rattle.std.specs.List.{flat_map, filter_map, cons_option}
use Rattle.arena_walk.specs.Tree.{Tree, Trees, branch, no_trees, tree_and, trees_of, root_of, nodes, nodes_each}
use Rattle.dj_source_laws.specs.Subtrees.{subtrees, subtrees_each}
use Rattle.dj_calculus.proofs.Members.{either}
use Rattle.dj_source_laws.specs.Said.{optional}

abbrev pub weigh : {X : Type 0} → (X → ℕ) → List X → ℕ
weigh f [] = 0
weigh f (x ∷ xs) = f x + weigh f xs

abbrev pub bit : Bool → ℕ
bit b = cond b 1 0

pub weigh_append : {X : Type 0} (f : X → ℕ) (xs ys : List X) → weigh f (xs ++ ys) ≡ weigh f xs + weigh f ys
weigh_append f [] ys = omega arith
weigh_append f (x ∷ xs) ys = omega (arith, weigh_append f xs ys)

pub weigh_map : {X Y : Type 0} (f : Y → ℕ) (g : X → Y) (xs : List X) → weigh f (map g xs) ≡ weigh (λ (x : X). f (g x)) xs
weigh_map f g [] = refl
weigh_map f g (x ∷ xs) = omega (arith, weigh_map f g xs)

pub weigh_flat : {X Y : Type 0} (f : Y → ℕ) (g : X → List Y) (xs : List X) → weigh f (flat_map g xs) ≡ weigh (λ (x : X). weigh f (g x)) xs
weigh_flat f g [] = refl
weigh_flat f g (x ∷ xs) = omega (arith, weigh_append f (g x) (flat_map g xs), weigh_flat f g xs)

weigh_option : {Y : Type 0} (f : Y → ℕ) (o : Option Y) (ys : List Y) → weigh f (cons_option o ys) ≡ weigh f (optional o) + weigh f ys
weigh_option f None ys = omega arith
weigh_option f (Some y) ys = omega arith

pub weigh_filter_map : {X Y : Type 0} (f : Y → ℕ) (h : X → Option Y) (xs : List X) → weigh f (filter_map h xs) ≡ weigh (λ (x : X). weigh f (optional (h x))) xs
weigh_filter_map f h [] = refl
weigh_filter_map f h (x ∷ xs) = omega (arith, weigh_option f (h x) (filter_map h xs), weigh_filter_map f h xs)

pub weigh_same : {X : Type 0} (f g : X → ℕ) (xs : List X) → ((x : X) → f x ≡ g x) → weigh f xs ≡ weigh g xs
weigh_same f g [] same = refl
weigh_same f g (x ∷ xs) same = omega (arith, same x, weigh_same f g xs same)

-- ---- elements with a weight

pub weighs_some : {X : Type 0} (f : X → ℕ) (xs : List X) (k : ℕ) (x : X) → slice_get xs k ≡ Some x → f x ≤ weigh f xs
weighs_some f [] k x at = absurd cc
weighs_some f (y ∷ xs) zero x at = let same : y ≡ x = cc in subst (λ z. f z ≤ f y + weigh f xs) same (omega arith)
weighs_some f (y ∷ xs) (suc k) x at = omega (arith, weighs_some f xs k x at)

-- where the whole is 1 at most, only one place has a weight
pub one_place : {X : Type 0} (f : X → ℕ) (xs : List X) (i j : ℕ) (x y : X) → weigh f xs ≤ 1 → slice_get xs i ≡ Some x → slice_get xs j ≡ Some y
    → 1 ≤ f x → 1 ≤ f y → i ≡ j
one_place f [] i j x y few at_i at_j some_x some_y = absurd cc
one_place f (z ∷ xs) zero zero x y few at_i at_j some_x some_y = refl
one_place f (z ∷ xs) zero (suc j) x y few at_i at_j some_x some_y =
    let same : z ≡ x = cc in
    let first : 1 ≤ f z = subst (λ u. 1 ≤ f u) (sym same) some_x in
    absurd (omega (arith, first, weighs_some f xs j y at_j))
one_place f (z ∷ xs) (suc i) zero x y few at_i at_j some_x some_y =
    let same : z ≡ y = cc in
    let first : 1 ≤ f z = subst (λ u. 1 ≤ f u) (sym same) some_y in
    absurd (omega (arith, first, weighs_some f xs i x at_i))
one_place f (z ∷ xs) (suc i) (suc j) x y few at_i at_j some_x some_y =
    ap suc (one_place f xs i j x y (omega arith) at_i at_j some_x some_y)

none_or_some : (n : ℕ) → (n ≡ 0) ⊎ (1 ≤ n)
none_or_some zero = inl refl
none_or_some (suc n) = inr (omega arith)

-- a list that weighs something has an element that does
pub weighed : {X : Type 0} (f : X → ℕ) (xs : List X) → 1 ≤ weigh f xs → (k : ℕ) × ((x : X) × (slice_get xs k ≡ Some x) × (1 ≤ f x))
weighed f [] some = absurd (omega arith)
weighed f (x ∷ xs) some =
    either (none_or_some (f x)) (λ e. let later = weighed f xs (omega (arith, e)) in (suc later.0, later.1)) (λ here. (0, (x, refl, here)))

-- where only one place has a weight, of 1 at most, the whole weighs 1 at most
pub weighs_one : {X : Type 0} (f : X → ℕ) (xs : List X) → ((x : X) → f x ≤ 1)
    → ((i j : ℕ) (x y : X) → slice_get xs i ≡ Some x → slice_get xs j ≡ Some y → 1 ≤ f x → 1 ≤ f y → i ≡ j) → weigh f xs ≤ 1
weighs_one f [] small once = omega arith
weighs_one f (x ∷ xs) small once =
    either (none_or_some (f x))
    (λ e. omega (arith, e, weighs_one f xs small (λ i j y z at_i at_j some_y some_z. omega (arith, once (suc i) (suc j) y z at_i at_j some_y some_z))))
    (λ here. either (none_or_some (weigh f xs)) (λ e. omega (arith, e, small x))
    (λ more. let later = weighed f xs more in absurd (omega (arith, once 0 (suc later.0) x later.1.0 refl later.1.1 here later.1.2))))

-- ---- trees

abbrev mutual
  pub heavy : {N : Type 0} → (Tree N → ℕ) → Tree N → ℕ
  heavy f (branch n kids) = heavy_each f kids + f (branch n kids)

  pub heavy_each : {N : Type 0} → (Tree N → ℕ) → Trees N → ℕ
  heavy_each f no_trees = 0
  heavy_each f (tree_and t kids) = heavy f t + heavy_each f kids

mutual
  pub weigh_subtrees : {N : Type 0} (f : Tree N → ℕ) (t : Tree N) → weigh f (subtrees t) ≡ heavy f t
  weigh_subtrees f (branch n kids) = omega (arith, weigh_append f (subtrees_each kids) (branch n kids ∷ []), weigh_subtrees_each f kids)

  weigh_subtrees_each : {N : Type 0} (f : Tree N → ℕ) (kids : Trees N) → weigh f (subtrees_each kids) ≡ heavy_each f kids
  weigh_subtrees_each f no_trees = refl
  weigh_subtrees_each f (tree_and t kids) =
      omega (arith, weigh_append f (subtrees t) (subtrees_each kids), weigh_subtrees f t, weigh_subtrees_each f kids)

mutual
  pub weigh_nodes : {N : Type 0} (f : N → ℕ) (t : Tree N) → weigh f (nodes t) ≡ heavy (λ (u : Tree N). f (root_of u)) t
  weigh_nodes f (branch n kids) = omega (arith, weigh_append f (nodes_each kids) (n ∷ []), weigh_nodes_each f kids)

  weigh_nodes_each : {N : Type 0} (f : N → ℕ) (kids : Trees N) → weigh f (nodes_each kids) ≡ heavy_each (λ (u : Tree N). f (root_of u)) kids
  weigh_nodes_each f no_trees = refl
  weigh_nodes_each f (tree_and t kids) =
      omega (arith, weigh_append f (nodes t) (nodes_each kids), weigh_nodes f t, weigh_nodes_each f kids)

pub heavy_more : {N : Type 0} (f : Tree N → ℕ) (ts : List (Tree N)) (t : Tree N)
    → heavy_each f (trees_of (ts ++ t ∷ [])) ≡ heavy_each f (trees_of ts) + heavy f t
heavy_more f [] t = omega arith
heavy_more f (u ∷ ts) t = omega (arith, heavy_more f ts t)
