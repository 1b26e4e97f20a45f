-- What holds of each two elements of a list, the earlier and the later.
use Rattle.std.proofs.Common.{◌≡◌, suc, List, [], ◌∷◌, ◌++◌, map, Contains, arith, refl, subst}
use Rattle.std.specs.List.{AllPairs}
use Rattle.dj_tree.specs.Trees.{Spot}
use Rattle.dj_calculus.proofs.Members.{Each, none, and, each_of, each_at, each_append, each_map, among_others, StandOnce, later_once, first_apart, mapped_within}
use Rattle.dj_calculus.proofs.Counting.{number_in}
use Rattle.dj_calculus.proofs.Independence.{Reordered, same, keep, crossed, joined, each_reordered}

pub each_then : {X : Type 0} {P Q : X → Type 0} → ((x : X) → P x → Q x) → (xs : List X) → Each P xs → Each Q xs
each_then onward xs none = none
each_then onward xs (and {x = x} {xs = rest} here all) = and (onward x here) (each_then onward rest all)

pub each_in : {X : Type 0} {P : X → Type 0} (xs : List X) (x : X) → Each P xs → Contains xs x → P x
each_in {P} xs x all has = let at = number_in xs x has in each_at P xs at.0 x all at.1

pub data EachTwo {X : Type 0} (R : X → X → Type 0) : List X → Type 0 where
  no_two : EachTwo R []
  two_and : {x : X} {xs : List X} → Each (R x) xs → EachTwo R xs → EachTwo R (x ∷ xs)

module _ {X : Type 0} (R : X → X → Type 0) where
  -- in another order
  pub each_two_reordered : ((x y : X) → R x y → R y x) → (xs ys : List X) → Reordered xs ys → EachTwo R xs → EachTwo R ys
  each_two_reordered turn xs ys same all = all
  each_two_reordered turn xs ys (keep x {xs = us} {ys = vs} r) (two_and first more) =
      two_and (each_reordered (R x) us vs r first) (each_two_reordered turn us vs r more)
  each_two_reordered turn xs ys (crossed x y) (two_and (and is first) (two_and second more)) = two_and (and (turn x y is) second) (two_and first more)
  each_two_reordered turn xs ys (joined {ys = ms} p q) all = each_two_reordered turn ms ys q (each_two_reordered turn xs ms p all)

  pub each_two_of : (xs : List X) → AllPairs R xs → EachTwo R xs
  each_two_of [] all = no_two
  each_two_of (x ∷ xs) all =
      two_and (each_of (R x) xs (λ y within. subst (R x) within.2 (all 0 (suc within.0) y (omega arith) (omega (arith, within.1)))))
      (each_two_of xs (λ i j d behind low. all (suc i) (suc j) d (omega arith) (omega arith)))

  -- in two lists, one behind the other
  pub each_two_append : (xs ys : List X) → EachTwo R xs → EachTwo R ys → ((x y : X) → Contains xs x → Contains ys y → R x y) → EachTwo R (xs ++ ys)
  each_two_append xs ys no_two later between = later
  each_two_append xs ys (two_and {x = x} {xs = rest} first more) later between =
      two_and (each_append (R x) rest ys first (each_of (R x) ys (λ y within. between x y (0, omega arith, refl) within)))
      (each_two_append rest ys more later (λ z y of_rest of_ys. between z y (among_others x z rest of_rest) of_ys))

  -- where names stand once, elements by their names
  pub each_two_named : {Y : Type 0} (name : Y → Spot) (f : Y → X) → ((y z : Y) → ¬ ((name y).text ≡ (name z).text) → R (f y) (f z)) → (ys : List Y)
      → StandOnce (map name ys) → EachTwo R (map f ys)
  each_two_named name f apart [] once = no_two
  each_two_named name f apart (y ∷ ys) once =
      two_and (each_map (R (f y)) f ys (λ z within. apart y z (first_apart (name y) (name z) (map name ys) once (mapped_within name ys z within))))
      (each_two_named name f apart ys (later_once (name y) (map name ys) once))
