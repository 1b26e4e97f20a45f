use Rattle.std.proofs.Common.{ℕ, List, nat_cmp, sym, subst}
use Rattle.std.specs.Cmp.{unsigned_Decides}
use Rattle.std.specs.List.Sorted.{IsPermutation, IsSorted}
use Rattle.std.proofs.lemmas.Slice.Eq.{slice_eq-Decides}
use Rattle.dj_line.proofs.Sorting.{sorts_agree}
use Rattle.dj_line.proofs.order_words.are_same.Goals as goal

pub returns : goal.returns
returns c =
    let numbers = c.args.numbers.items in
    let others = c.args.others.now in
    let first = c.as_slice.result.now in
    let second = c.as_slice-2.result.now in
    let P : List ℕ → Type 0 = IsPermutation numbers in
    let Q : List ℕ → Type 0 = λ xs. IsPermutation xs second in
    let R : List ℕ → Type 0 = IsPermutation c.in_ok-second.second.items in
    let S : List ℕ → Type 0 = IsSorted nat_cmp in
    sorts_agree numbers others first second c.eq.result (subst P (sym c.as_slice.ensures.value) c.in_ok-sort.ensures.permutation)
    (subst Q c.in_ok-second.ensures.items (subst R (sym c.as_slice-2.ensures.value) c.in_ok-sort-2.ensures.permutation))
    (subst S (sym c.as_slice.ensures.value) c.in_ok-sort.ensures.sorted) (subst S (sym c.as_slice-2.ensures.value) c.in_ok-sort-2.ensures.sorted)
    (slice_eq-Decides unsigned_Decides first second c.eq.result c.eq.ensures)
