use Rattle.std.proofs.Common.{◌≡◌, ◌<◌, true, false, get_or, length, ap, sym, ◌∙◌}
use Rattle.std.proofs.lemmas.Bool.{not-true, not-false}
use Rattle.std.proofs.lemmas.List.{take_all}
use Rattle.sat_clauses.specs.declared.literal.Lit.{Lit}
use Rattle.sat_clauses.specs.Literals.{same_literal}
use Rattle.sat_clauses.specs.ClauseLists.{with_literal, without, joined}
use Rattle.sat_clauses.proofs.ListLemmas.{joined_with, joined_without}
use Rattle.sat_clauses.proofs.resolvent.Resolvent.resolve.Goals as goal
use Rattle.sat_clauses.proofs.resolvent.Resolvent.resolve.Goals.{then-ne+in_default, else-ne}

pub loop-lit-preserved : goal.loop-lit-preserved
loop-lit-preserved c =
    let zero_lit : Lit = record { var = 0; positive = false } in
    let lits = c.args.other.now in
    let at = c.loop-lit.lit-index in
    let lit : Lit = get_or lits at zero_lit in
    let out = c.opposite-opposite.result in
    let base = without c.args.self.now c.args.pivot in
    let within : at < length lits = c.loop-lit-test.true in
    elim c.if-ne.branch [
      | then-ne+in_default w ↦
          let other : same_literal lit out ≡ false = not-true (same_literal lit out) (sym c.ne.ensures ∙ w.if-ne.true) in
          w.self-is ∙ w.in_default.ensures.ok ∙ ap (λ ls. with_literal ls lit) c.loop-lit.invariant ∙ sym (joined_with base lits at zero_lit out within other)
      | else-ne w ↦
          let same : same_literal lit out ≡ true = not-false (same_literal lit out) (sym c.ne.ensures ∙ w.if-ne.false) in
          w.self-is ∙ c.loop-lit.invariant ∙ sym (joined_without base lits at zero_lit out within same)
    ]

pub returns-clause-ok : goal.returns-clause-ok
returns-clause-ok c =
    let base = without c.args.self.now c.args.pivot in
    c.loop-lit.invariant
    ∙ ap (λ ls. joined base (without ls c.opposite-opposite.result)) (take_all c.loop-lit.lit-index c.args.other.now c.loop-lit-test.false)
    ∙ ap (λ out. joined base (without c.args.other.now out)) c.opposite-opposite.ensures
