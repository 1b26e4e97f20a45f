use Rattle.std.proofs.Common.{◌≡◌, ◌∙◌, ◌<◌, ◌≤◌, ◌+◌, ℕ, List, length, take, drop, nat_eq, sym, ap, subst, arith}
use Rattle.std.specs.List.Sorted.{IsPermutation}
use Rattle.std.specs.Vec.{vec_len}
use Rattle.std.proofs.lemmas.Bool.{eqb-true}
use Rattle.dj_line.specs.Lines.{plain_line}
use Rattle.dj_line.specs.OrderWords.{active_along}
use Rattle.dj_line.proofs.AcceptedLines.{numbers_below}
use Rattle.dj_line.proofs.OrderWords.{Decides, active_here, front_of, goes_on, at_end, no_elements, alike, unlike, length_along}
use Rattle.dj_line.proofs.PartItems.{part_items}
use Rattle.dj_line.proofs.line.Line.is_in_order.Goals as goal

pub active-requires-clause-below : goal.active-requires-clause-below
active-requires-clause-below c =
    let line = c.args.self.now in
    let low : c.loop-part.part < length line.items.items = omega (arith, c.len-part-end.ensures, c.loop-part-test.true) in
    numbers_below (plain_line line) line.accepted c.loop-part.part c.as_slice.result.now (part_items line c.loop-part.part c.index.result.now c.as_slice.result.now low c.index.ensures c.as_slice.ensures.value)

pub returns-then-rest-len : goal.returns-then-rest-len
returns-then-rest-len c =
    let line = c.args.self.now in
    let config = c.args.config.now.chosen.items in
    let all = active_along (plain_line line) config in
    let k = c.loop-part.part in
    let rest = c.loop-part.rest.now in
    let active = c.in_ok-active.active.items in
    let count : vec_len c.in_ok-active.active ≡ length active = omega (arith, c.in_ok-active.active.ok.0) in
    let low : k < length line.items.items = omega (arith, c.len-part-end.ensures, c.loop-part-test.true) in
    let at = active_here line config k c.index.result.now c.as_slice.result.now active low c.index.ensures c.as_slice.ensures.value c.in_ok-active.ensures in
    λ ordered. let front = front_of all c.args.deltas.now rest k active at c.loop-part.invariant ordered in
    absurd (omega (arith, front.long, c.len.ensures, count, c.if-rest-len.true))

pub returns-then-not-branch : goal.returns-then-not-branch
returns-then-not-branch c =
    let line = c.args.self.now in
    let config = c.args.config.now.chosen.items in
    let all = active_along (plain_line line) config in
    let k = c.loop-part.part in
    let rest = c.loop-part.rest.now in
    let active = c.in_ok-active.active.items in
    let count : vec_len c.in_ok-active.active ≡ length active = omega (arith, c.in_ok-active.active.ok.0) in
    let low : k < length line.items.items = omega (arith, c.len-part-end.ensures, c.loop-part-test.true) in
    let at = active_here line config k c.index.result.now c.as_slice.result.now active low c.index.ensures c.as_slice.ensures.value c.in_ok-active.ensures in
    let P : List ℕ → Type 0 = IsPermutation active in
    λ ordered. let front = front_of all c.args.deltas.now rest k active at c.loop-part.invariant ordered in
    unlike _ c.in_ok-are_same.field-0 c.if-not-branch.true c.in_ok-are_same.ensures (subst P (ap (λ n. take n rest) (sym (c.len-in-loop-part.ensures ∙ count)) ∙ sym c.split_at.ensures.front) front.same)

pub loop-part-preserved : goal.loop-part-preserved
loop-part-preserved c =
    let line = c.args.self.now in
    let config = c.args.config.now.chosen.items in
    let all = active_along (plain_line line) config in
    let k = c.loop-part.part in
    let rest = c.loop-part.rest.now in
    let active = c.in_ok-active.active.items in
    let count : vec_len c.in_ok-active.active ≡ length active = omega (arith, c.in_ok-active.active.ok.0) in
    let low : k < length line.items.items = omega (arith, c.len-part-end.ensures, c.loop-part-test.true) in
    let at = active_here line config k c.index.result.now c.as_slice.result.now active low c.index.ensures c.as_slice.ensures.value c.in_ok-active.ensures in
    let P : List ℕ → Type 0 = IsPermutation active in
    let same = subst P (c.split_at.ensures.front ∙ ap (λ n. take n rest) (c.len-in-loop-part.ensures ∙ count)) (alike _ c.in_ok-are_same.field-0 c.if-not-branch.false c.in_ok-are_same.ensures) in
    let Q : List ℕ → Type 0 = Decides all (drop (k + 1) all) c.args.deltas.now in
    subst Q (ap (λ n. drop n rest) (sym (c.len-in-loop-part.ensures ∙ count)) ∙ sym c.split_at.ensures.back) (goes_on all c.args.deltas.now rest k active at c.loop-part.invariant same)

pub returns : goal.returns
returns c =
    let line = c.args.self.now in
    let rest = c.loop-part.rest.now in
    let all = active_along (plain_line line) c.args.config.now.chosen.items in
    let past : length all ≤ c.loop-part.part = omega (arith, c.len-part-end.ensures, c.loop-part-test.false, length_along line c.args.config.now.chosen.items) in
    at_end all c.args.deltas.now rest c.loop-part.part c.is_empty.result past c.loop-part.invariant
    (λ e. no_elements rest (eqb-true (length rest) 0 (sym c.is_empty.ensures ∙ e)))
    (λ e. c.is_empty.ensures ∙ ap (λ (xs : List ℕ). nat_eq (length xs) 0) e)
