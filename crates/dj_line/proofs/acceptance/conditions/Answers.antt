use Rattle.std.proofs.Common.{◌≡◌, ◌∙◌, ◌∷◌, [], ◌+◌, ℕ, None, length, get_or, slice_get, sym, ap, subst, length-append}
use Rattle.std.proofs.lemmas.Option.{slice_get-get_or}
use Rattle.dj_tree.specs.Trees as plain
use Rattle.dj_tree.specs.Plain.{plain_source}
use Rattle.dj_calculus.proofs.Members.{either}
use Rattle.dj_formula.specs.declared.formula.Formula.{Formula}
use Rattle.dj_conditions.specs.Conditions.{StandsFor}
use Rattle.dj_line.specs.declared.tables.Placing.{Placing}
use Rattle.dj_line.specs.Placing.{condition_of}
use Rattle.dj_line.proofs.LineOf.{got_pushed}
use Rattle.dj_line.proofs.acceptance.conditions.Goals as goal

abbrev no_placing : Placing
no_placing = record { part = 0; when = None }

pub condition-requires-clause-there : goal.condition-requires-clause-there
condition-requires-clause-there c =
    let k = c.loop-placing.placing-index in
    (c.requires.placed k (get_or c.args.placings.now k no_placing) (slice_get-get_or c.args.placings.now k no_placing c.loop-placing-test.true)).root

pub loop-placing-preserved : goal.loop-placing-preserved
loop-placing-preserved c =
    let s = c.args.source.now in
    let k = c.loop-placing.placing-index in
    let placed = c.requires.placed k (get_or c.args.placings.now k no_placing) (slice_get-get_or c.args.placings.now k no_placing c.loop-placing-test.true) in
    let old = c.loop-placing.formulas.items in
    let new = c.in_ok-condition.field-0 in
    let stands = subst (λ (meant : plain.Formula). StandsFor (plain_source s) new meant) placed.condition c.in_ok-condition.ensures in
    record {
      count = ap length c.in_ok-push.ensures.items ∙ length-append old (new ∷ []) ∙ ap (λ n. n + 1) c.loop-placing.invariant.count;
      stand = λ delta formula got.
          either (got_pushed old new delta formula (ap (λ fs. slice_get fs delta) (sym c.in_ok-push.ensures.items) ∙ got))
          (λ before. c.loop-placing.invariant.stand delta formula before)
          (λ last.
          let here : k ≡ delta = sym (last.0 ∙ c.loop-placing.invariant.count) in
          let P : ℕ → Type 0 = λ n. StandsFor (plain_source s) formula (condition_of (plain_source s) n) in
          subst P here (subst (λ (f : Formula). StandsFor (plain_source s) f (condition_of (plain_source s) k)) last.1 stands));
    }
