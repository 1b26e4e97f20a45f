use Rattle.std.proofs.Common.{◌≡◌, ◌+◌, ◌++◌, ◌∷◌, [], None, Some, take, ap, sym, subst, ◌∙◌}
use Rattle.std.specs.List.{IsDistinct}
use Rattle.std.proofs.lemmas.List.{take_all, append-nil}
use Rattle.indexmap.specs.IndexMap.{get}
use Rattle.sat_clauses.specs.Literals.{same_literal}
use Rattle.sat_clauses.specs.Resolvents.{filled}
use Rattle.sat_clauses.proofs.SlotLemmas.{filled_step, once_placed, distinct_filled}
use Rattle.sat_clauses.proofs.resolvent.Resolvent.literals.Goals as goal
use Rattle.sat_clauses.proofs.resolvent.Resolvent.literals.Goals.{in-Some+in_ok-push, in_default}

pub loop-slot-preserved : goal.loop-slot-preserved
loop-slot-preserved c =
    let slots = c.as_slice-slots.result.now in
    let at = c.loop-slot.slot-index in
    elim c.match-slot.branch [
      | in-Some+in_ok-push w ↦
          let more : filled (take (at + 1) slots) ≡ filled (take at slots) ++ filled (Some w.in-Some.lit ∷ []) = filled_step slots at None c.loop-slot-test.true ∙ ap (λ slot. filled (take at slots) ++ filled (slot ∷ [])) w.in-Some.is in
          ap (λ v. v.items) w.lits-is ∙ w.in_ok-push.ensures.items ∙ ap (λ ls. ls ++ w.in-Some.lit ∷ []) c.loop-slot.invariant ∙ sym more
      | in_default w ↦
          let more : filled (take (at + 1) slots) ≡ filled (take at slots) ++ [] = filled_step slots at None c.loop-slot-test.true ∙ ap (λ slot. filled (take at slots) ++ filled (slot ∷ [])) w.in_default.is in
          ap (λ v. v.items) w.lits-is ∙ c.loop-slot.invariant ∙ sym (more ∙ append-nil (filled (take at slots)))
    ]

pub returns-clause-literals : goal.returns-clause-literals
returns-clause-literals c =
    c.loop-slot.invariant ∙ ap filled (take_all c.loop-slot.slot-index c.as_slice-slots.result.now c.loop-slot-test.false) ∙ ap filled c.as_slice-slots.ensures.value ∙ c.self.view_is

pub returns-clause-distinct : goal.returns-clause-distinct
returns-clause-distinct c =
    let slots = c.self.inside.slots.items in
    let made : c.loop-slot.lits.items ≡ filled slots = c.loop-slot.invariant ∙ ap filled (take_all c.loop-slot.slot-index c.as_slice-slots.result.now c.loop-slot-test.false) ∙ ap filled c.as_slice-slots.ensures.value in
    subst (IsDistinct same_literal) (sym made) (distinct_filled slots (once_placed slots (get same_literal c.self.inside.places) c.self.invariant))
