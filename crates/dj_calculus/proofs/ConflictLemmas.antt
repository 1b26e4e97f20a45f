-- A pair of things is the least one that conflicts where a test of all pairs says so.
use Rattle.std.proofs.Common.{◌≡◌, ◌⊎◌, ℕ, ◌<◌, ◌≤◌, ◌==◌, Bool, true, false, not, ◌&&◌, ◌||◌, List, nat_lt, nat_le, Contains, arith, subst}
use Rattle.std.specs.List.{list_all}
use Rattle.std.proofs.lemmas.List.Sums.{AllPass-from_list_all}
use Rattle.std.proofs.lemmas.Bool.Decides.{nat_tests}
use Rattle.dj_tree.specs.Trees.{Delta}
use Rattle.dj_calculus.specs.Things.{things}
use Rattle.dj_calculus.specs.Conflicts.{conflict, ConflictAt, LeastConflict}

-- each element of a list passes, if a test of all says so
pub passes : {X : Type 0} (test : X → Bool) (xs : List X) (x : X) → list_all test xs ≡ true → Contains xs x → test x ≡ true
passes test xs x all has = subst (λ y. test y ≡ true) has.2 (AllPass-from_list_all test xs all has.0 x has.1)

-- the second pair of places isn't before the first
abbrev pub not_before : ℕ → ℕ → ℕ → ℕ → Bool
not_before p q x y = nat_lt p x || (p == x) && nat_le q y

abbrev pub is_least : Delta → Delta → ℕ → ℕ → Bool
is_least one other p q = list_all (λ a. list_all (λ b. not (conflict a b) || not_before p q a.at b.at) (things other)) (things one)

not_before_holds : (p q x y : ℕ) → not_before p q x y ≡ true → (p < x) ⊎ ((p ≡ x) × (q ≤ y))
not_before_holds p q x y e = grind (arith, nat_tests)

clashing : (a b : Bool) → a ≡ true → not a || b ≡ true → b ≡ true
clashing true b p e = e
clashing false b p e = absurd cc

pub least_by_test : (one other : Delta) (p q : ℕ) → ConflictAt one other p q → is_least one other p q ≡ true → LeastConflict one other p q
least_by_test one other p q clash test = record { clash = clash; least = least }
  where
    least : (x y : ℕ) → ConflictAt one other x y → (p < x) ⊎ ((p ≡ x) × (q ≤ y))
    least x y at =
        let row : list_all (λ b. not (conflict at.a b) || not_before p q at.a.at b.at) (things other) ≡ true = passes (λ a. list_all (λ b. not (conflict a b) || not_before p q a.at b.at) (things other)) (things one) at.a test at.of_one in
        let here : not (conflict at.a at.b) || not_before p q at.a.at at.b.at ≡ true = passes (λ b. not (conflict at.a b) || not_before p q at.a.at b.at) (things other) at.b row at.of_other in
        rw (← at.first_at, ← at.second_at) (not_before_holds p q at.a.at at.b.at (clashing _ _ at.clash here))
