-- The first three parts of the sample S8, and what their active deltas make.
use Rattle.std.proofs.Common.{◌≡◌, ℕ, true, nat_le, ◌≤◌, List, [], ◌∷◌, Some, length, Contains, codes, refl, arith}
use Rattle.std.specs.FinMap.{insert, remove, empty}
use Rattle.dj_tree.specs.Trees.{Delta, Part}
use Rattle.dj_calculus.specs.Parts.{chain, active}
use Rattle.dj_calculus.specs.Tables.{ClassEntry, Table}
use Rattle.dj_calculus.specs.Entries.{class_entry}
use Rattle.dj_calculus.specs.Products.{AllowedAlong, fold_deltas}
use Rattle.dj_calculus.specs.Samples.Builders.{field, class}
use Rattle.dj_calculus.specs.Samples.S8
use Rattle.std.proofs.lemmas.Bool.Decides.{nat_tests}
use Rattle.dj_calculus.proofs.ConflictLemmas.{passes}
use Rattle.dj_calculus.proofs.MapLemmas.{text_get-insert, text_get-remove, text_get-empty}
use Rattle.dj_calculus.proofs.OrderLemmas.{one_order, splits, ends}

-- the class that came back
abbrev pub returned : ClassEntry
returned = class_entry (class "C" 202 (field "C" 206 "g" 208 ∷ []) [])

abbrev pub first_table : Table
first_table = insert empty (codes "C") (class_entry (class "C" 134 (field "C" 138 "f" 140 ∷ field "C" 143 "g" 145 ∷ []) []))

abbrev pub before_last : Table
before_last = insert (remove first_table (codes "C")) (codes "C") returned

folds : fold_deltas (S8.delta_p ∷ S8.delta_q ∷ S8.delta_r ∷ []) ≡ Some before_last
folds = simp (text_get-insert ClassEntry, text_get-remove ClassEntry, text_get-empty ClassEntry) refl

pub every_order : (order : List Delta) → AllowedAlong S8.sample [] (S8.part_a ∷ S8.part_b ∷ S8.part_c ∷ []) order → fold_deltas order ≡ Some before_last
every_order order allowed =
    let first = splits S8.sample [] S8.part_a (S8.part_b ∷ S8.part_c ∷ []) order allowed in
    let second = splits S8.sample [] S8.part_b (S8.part_c ∷ []) first.later first.rest in
    let third = splits S8.sample [] S8.part_c [] second.later second.rest in
    rw (first.joined, one_order S8.delta_p first.mine first.permuted, second.joined, one_order S8.delta_q second.mine second.permuted, third.joined, one_order S8.delta_r third.mine third.permuted, ends S8.sample [] third.later third.rest)
    folds

few : (n : ℕ) → nat_le n 1 ≡ true → n ≤ 1
few n e = grind (arith, nat_tests)

-- each part has one active delta
pub one_active : (part : Part) → Contains (chain S8.sample) part → length (active S8.sample [] part) ≤ 1
one_active part within = few _ (passes (λ p. nat_le (length (active S8.sample [] p)) 1) (chain S8.sample) part refl within)
