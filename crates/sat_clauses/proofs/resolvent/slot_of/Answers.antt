use Rattle.std.proofs.Common.{◌≡◌, Some, sym, ◌∙◌, arith}
use Rattle.std.proofs.lemmas.Bool.{true≢false}
use Rattle.std.proofs.lemmas.Option.{slice_get_within}
use Rattle.sat_clauses.proofs.SlotLemmas.{slot_filled, slot_told}
use Rattle.sat_clauses.proofs.resolvent.slot_of.Goals as goal
use Rattle.sat_clauses.proofs.resolvent.slot_of.Goals.{else-place-slots-via-then-place-slots+else-eq, else-place-slots-via-else-place-slots}

pub returns-in_err-place-clause-nowhere : goal.returns-in_err-place-clause-nowhere
returns-in_err-place-clause-nowhere c = rw c.from_residual.ensures (λ place at. let noted = c.requires place c.args.lit at in let none = c.in_err-place.ensures.value in cc)

pub returns-then-eq-clause-there : goal.returns-then-eq-clause-there
returns-then-eq-clause-there c = slot_filled c.args.slots.now c.in_ok-place.field-0.now c.args.lit _ c.if-place-slots.true (sym c.eq.ensures ∙ c.if-eq.true)

pub returns-else-place-slots-clause-nowhere : goal.returns-else-place-slots-clause-nowhere
returns-else-place-slots-clause-nowhere c =
    λ place at.
    let noted = c.requires place c.args.lit at in
    let found = c.in_ok-place.ensures.value in
    let same : c.in_ok-place.field-0.now ≡ place = cc in
    let here = rw (sym same) at at in
    elim c.else-place-slots.branch [
      | else-place-slots-via-then-place-slots+else-eq w ↦ true≢false (sym (slot_told c.args.slots.now c.in_ok-place.field-0.now c.args.lit _ here) ∙ sym w.eq.ensures ∙ w.if-eq.false)
      | else-place-slots-via-else-place-slots w ↦ let within = slice_get_within c.args.slots.now c.in_ok-place.field-0.now (Some c.args.lit) here in let past = w.if-place-slots.false in omega arith
    ]
