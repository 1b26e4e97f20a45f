-- Declarations in another order: their names still stand once.
use Rattle.std.proofs.Common.{◌≡◌, ℕ, zero, suc, ◌<◌, List, map, Some, slice_get, sym, subst, arith}
use Rattle.std.specs.List.Sorted.{IsPermutation}
use Rattle.std.proofs.lemmas.List.Sorted.{IsPermutation-map}
use Rattle.dj_tree.specs.Trees.{Spot}
use Rattle.dj_calculus.proofs.Independence.{reordered}
use Rattle.dj_calculus.proofs.Members.{each_at}
use Rattle.dj_product_laws.proofs.EachTwo.{EachTwo, no_two, two_and, each_two_reordered, each_two_named}
use Rattle.java_reader.specs.Making.{StandOnce}

abbrev NamesDiffer : Spot → Spot → Type 0
NamesDiffer x y = ¬ (x.text ≡ y.text)

two_at : {X : Type 0} (R : X → X → Type 0) (xs : List X) (i j : ℕ) (x y : X) → EachTwo R xs → i < j → slice_get xs i ≡ Some x → slice_get xs j ≡ Some y → R x y
two_at R xs i j x y no_two low at_i at_j = absurd cc
two_at R xs i zero x y (two_and first more) low at_i at_j = absurd (omega arith)
two_at R xs zero (suc j) x y (two_and {x = z} {xs = rest} first more) low at_i at_j =
    let same : z ≡ x = cc in subst (λ w. R w y) same (each_at (R z) rest j y first at_j)
two_at R xs (suc i) (suc j) x y (two_and {x = z} {xs = rest} first more) low at_i at_j = two_at R rest i j x y more (omega arith) at_i at_j

pub once_reordered : {E : Type 0} (name : E → Spot) (es fs : List E) → IsPermutation es fs → StandOnce (map name es) → StandOnce (map name fs)
once_reordered name es fs permuted once at r =
    two_at NamesDiffer (map name fs) r.before r.number r.x r.y
    (each_two_reordered NamesDiffer (λ x y apart same. apart (sym same)) (map name es) (map name fs) (reordered _ _ (IsPermutation-map name es fs permuted))
    (each_two_named NamesDiffer name name (λ x y apart. apart) es once)) r.earlier r.at_before r.at_number r.same
