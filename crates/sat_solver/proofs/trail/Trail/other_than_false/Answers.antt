use Rattle.std.proofs.Common.{◌≡◌, ◌+◌, true, false, [], ◌∷◌, ◌++◌, Some, take, get_or, sym, ap, subst, ◌∙◌, inl, inr}
use Rattle.std.proofs.lemmas.Bool.{not-true, not-false, true≢false}
use Rattle.std.proofs.lemmas.List.{take_more, take_all}
use Rattle.sat_clauses.specs.declared.literal.Lit.{Lit}
use Rattle.sat_clauses.specs.ClauseLists.{without}
use Rattle.sat_clauses.specs.Literals.{same_literal}
use Rattle.sat_clauses.proofs.SetLemmas.{same_itself}
use Rattle.sat_solver.specs.Entries.{IsFalseIn, IsFalseClause}
use Rattle.sat_solver.proofs.ClauseLemmas.{truth_false, truth_is, truth_told, false_truth, false_without_push}
use Rattle.sat_solver.proofs.trail.Trail.other_than_false.Goals as goal
use Rattle.sat_solver.proofs.trail.Trail.other_than_false.Goals.{else-ne-via-then-ne+else-ne-2, else-ne-via-else-ne}

pub literals-preserved : goal.literals-preserved
literals-preserved c =
    let none : Lit = record { var = 0; positive = false } in
    let clause = c.args.clause.now in
    let k = c.literals.lit-index in
    let lit : Lit = get_or clause k none in
    let more : take (k + 1) clause ≡ take k clause ++ lit ∷ [] = take_more clause k none c.literals-test.true in
    elim c.else-ne.branch [
      | else-ne-via-then-ne+else-ne-2 w ↦
          let falsified : IsFalseIn c.args.self.now.entries lit = truth_false c.args.self.now.entries lit (sym w.truth.ensures ∙ truth_is w.truth.result false (not-false _ (sym w.ne-then-ne.ensures ∙ w.if-ne-2.false))) in
          subst (λ ls. IsFalseClause c.args.self.now.entries (without ls c.args.other)) (sym more) (false_without_push c.args.self.now.entries (take k clause) c.args.other lit c.literals.invariant (inr falsified))
      | else-ne-via-else-ne w ↦
          let same : same_literal lit c.args.other ≡ true = not-false (same_literal lit c.args.other) (sym c.ne.ensures ∙ w.if-ne.false) in
          subst (λ ls. IsFalseClause c.args.self.now.entries (without ls c.args.other)) (sym more) (false_without_push c.args.self.now.entries (take k clause) c.args.other lit c.literals.invariant (inl same))
    ]

pub returns-clause-none : goal.returns-clause-none
returns-clause-none c = subst (λ ls. IsFalseClause c.args.self.now.entries (without ls c.args.other)) (take_all c.literals.lit-index c.args.clause.now c.literals-test.false) c.literals.invariant

pub returns-then-ne-2-clause-not_false : goal.returns-then-ne-2-clause-not_false
returns-then-ne-2-clause-not_false c =
    λ falsified.
    let lit : Lit = get_or c.args.clause.now c.literals.lit-index (record { var = 0; positive = false }) in
    let is : c.truth.result ≡ Some false = c.truth.ensures ∙ false_truth c.args.self.now.entries lit falsified in
    true≢false (sym (truth_told c.truth.result false is) ∙ not-true _ (sym c.ne-then-ne.ensures ∙ c.if-ne-2.true))

pub returns-then-ne-2-clause-differs : goal.returns-then-ne-2-clause-differs
returns-then-ne-2-clause-differs c =
    λ same.
    let lit : Lit = get_or c.args.clause.now c.literals.lit-index (record { var = 0; positive = false }) in
    let other : same_literal lit c.args.other ≡ false = not-true (same_literal lit c.args.other) (sym c.ne.ensures ∙ c.if-ne.true) in
    true≢false (sym (same_itself lit) ∙ ap (same_literal lit) same ∙ other)
