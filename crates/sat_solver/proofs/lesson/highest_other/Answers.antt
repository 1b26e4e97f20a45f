use Rattle.std.proofs.Common.{◌≡◌, ◌<◌, max, ◌++◌, ◌∷◌, [], true, false, ◌+◌, take, get_or, sym, subst, ◌∙◌, arith}
use Rattle.std.proofs.lemmas.Bool.{not-true, not-false}
use Rattle.std.proofs.lemmas.List.{take_more, take_all}
use Rattle.sat_clauses.specs.declared.literal.Lit.{Lit}
use Rattle.sat_clauses.specs.Literals.{same_literal}
use Rattle.sat_clauses.specs.ClauseLists.{without}
use Rattle.sat_solver.specs.Entries.{IsFalseIn}
use Rattle.sat_solver.specs.Lessons.{IsSecond}
use Rattle.sat_solver.proofs.ClauseLemmas.{has-at, from_without}
use Rattle.sat_solver.proofs.LevelLemmas.{IsHighest, false_within, highest_skip, highest_more, highest_others, highest_least, level_given, second_skip, second_stays, second_new}
use Rattle.sat_solver.proofs.lesson.highest_other.Goals as goal
use Rattle.sat_solver.proofs.lesson.highest_other.Goals.{then-ne+then-level-highest, then-ne+else-level-highest, else-ne}

pub level_of-level-requires : goal.level_of-level-requires
level_of-level-requires c =
    let none : Lit = record { var = 0; positive = false } in
    let lit : Lit = get_or c.args.clause.now c.loop-other.other-index none in
    false_within c.args.trail.now.vars c.args.trail.now.entries c.requires.trail.within lit (c.requires.falsified lit (has-at c.args.clause.now c.loop-other.other-index none (omega arith)))

pub loop-other-preserved : goal.loop-other-preserved
loop-other-preserved c =
    let none : Lit = record { var = 0; positive = false } in
    let entries = c.args.trail.now.entries in
    let clause = c.args.clause.now in
    let k = c.loop-other.other-index in
    let other : Lit = get_or clause k none in
    let xs = take k clause in
    let more : take (k + 1) clause ≡ xs ++ other ∷ [] = take_more clause k none (omega arith) in
    let falsified : IsFalseIn entries other = c.requires.falsified other (has-at clause k none (omega arith)) in
    elim c.if-ne.branch [
      | then-ne+then-level-highest w ↦
          let ne : same_literal other c.args.lit ≡ false = not-true (same_literal other c.args.lit) (sym c.ne.ensures ∙ w.if-ne.true) in
          let level = w.level_of-level.result in
          let on = level_given entries other level falsified w.level_of-level.ensures in
          let up : max level c.loop-other.highest.level ≡ level = omega (arith, w.if-level-highest.true) in
          rw (more, w.highest-is) (record {
            highest = subst (IsHighest entries (without (xs ++ other ∷ []) c.args.lit)) up (highest_more entries xs c.args.lit other c.loop-other.highest.level c.loop-other.invariant.highest ne level on);
            second = second_new entries c.requires.trail.fresh xs c.args.lit other level ne on;
          })
      | then-ne+else-level-highest w ↦
          let ne : same_literal other c.args.lit ≡ false = not-true (same_literal other c.args.lit) (sym c.ne.ensures ∙ w.if-ne.true) in
          let level = w.level_of-level.result in
          let below : level < c.loop-other.highest.level = w.if-level-highest.false in
          let up : max level c.loop-other.highest.level ≡ c.loop-other.highest.level = omega (arith, below) in
          rw (more, w.highest-is) (record {
            highest = subst (IsHighest entries (without (xs ++ other ∷ []) c.args.lit)) up (highest_more entries xs c.args.lit other c.loop-other.highest.level c.loop-other.invariant.highest ne level (level_given entries other level falsified w.level_of-level.ensures));
            second = second_stays entries xs c.args.lit other c.loop-other.highest.level c.loop-other.highest.second (omega arith) c.loop-other.invariant.highest c.loop-other.invariant.second;
          })
      | else-ne w ↦
          let same : same_literal other c.args.lit ≡ true = not-false (same_literal other c.args.lit) (sym c.ne.ensures ∙ w.if-ne.false) in
          rw (more, w.highest-is) (record {
            highest = highest_skip entries xs c.args.lit other c.loop-other.highest.level c.loop-other.invariant.highest same;
            second = second_skip entries xs c.args.lit other c.loop-other.highest.level c.loop-other.highest.second same c.loop-other.invariant.second;
          })
    ]

pub returns-clause-others : goal.returns-clause-others
returns-clause-others c =
    let entries = c.args.trail.now.entries in
    let level = c.loop-other.highest.level in
    let all = take_all c.loop-other.other-index c.args.clause.now c.loop-other-test.false in
    let highest : IsHighest entries (without c.args.clause.now c.args.lit) level = subst (λ xs. IsHighest entries (without xs c.args.lit) level) all c.loop-other.invariant.highest in
    highest_others entries c.requires.trail.fresh (without c.args.clause.now c.args.lit) level (λ x h. c.requires.falsified x (from_without c.args.clause.now c.args.lit x h).0) highest

pub returns-clause-least : goal.returns-clause-least
returns-clause-least c =
    let entries = c.args.trail.now.entries in
    let level = c.loop-other.highest.level in
    let all = take_all c.loop-other.other-index c.args.clause.now c.loop-other-test.false in
    let highest : IsHighest entries (without c.args.clause.now c.args.lit) level = subst (λ xs. IsHighest entries (without xs c.args.lit) level) all c.loop-other.invariant.highest in
    highest_least entries c.requires.trail.fresh (without c.args.clause.now c.args.lit) level highest

pub returns-clause-second : goal.returns-clause-second
returns-clause-second c =
    subst (λ xs. IsSecond c.args.trail.now.entries (without xs c.args.lit) c.loop-other.highest.level c.loop-other.highest.second) (take_all c.loop-other.other-index c.args.clause.now c.loop-other-test.false) c.loop-other.invariant.second
