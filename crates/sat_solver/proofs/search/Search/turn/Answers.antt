use Rattle.std.proofs.Common.{◌≡◌, ◌<◌, ◌++◌, ◌∷◌, [], List, map, sym, subst, ◌∙◌, arith}
use Rattle.sat_clauses.specs.declared.literal.Lit.{Lit}
use Rattle.sat_clauses.specs.Derivations.{Follow, resolution_of}
use Rattle.sat_clauses.proofs.DerivationLemmas.{Follow-push}
use Rattle.sat_solver.specs.Searches.{LearnsOrEnds, Learns, steps_in, weight_of}
use Rattle.sat_solver.proofs.CountLemmas.{rises_farther}
use Rattle.sat_solver.proofs.search.Search.turn.Goals as goal
use Rattle.sat_solver.proofs.search.Search.turn.Goals.{After-propagate}

-- what followed still follows after the propagation
known : (c : After-propagate) (clauses : List (List Lit)) → Follow clauses (steps_in c.args.self.now) c.args.self.now.store.clauses → Follow clauses (steps_in c.propagate.new.self) c.propagate.new.self.store.clauses
known c clauses follow =
    subst (Follow clauses (steps_in c.propagate.new.self)) (sym c.propagate.ensures.clauses) (subst (λ steps. Follow clauses (map resolution_of steps.items) c.args.self.now.store.clauses) (sym c.propagate.ensures.steps) follow)

pub returns-then-decide : goal.returns-then-decide
returns-then-decide c =
    let old = c.args.self.now in
    let new = c.decide.new.self in
    let vars : new.trail.vars ≡ old.trail.vars = c.decide.ensures.vars ∙ c.propagate.ensures.vars in
    let farther : weight_of old < weight_of new = omega (arith, c.propagate.ensures.farther, c.decide.ensures.farther c.if-decide.true) in
    record {
      search = c.decide.ensures.search;
      vars = vars;
      rises = rises_farther old.trail new.trail c.requires.trail c.decide.ensures.search.trail vars farther;
      known = λ clauses follow. subst (Follow clauses (steps_in new)) (sym c.decide.ensures.clauses) (subst (λ steps. Follow clauses (map resolution_of steps.items) c.propagate.new.self.store.clauses) (sym c.decide.ensures.steps) (known (goal.at.returns-then-decide c).After-propagate clauses follow));
    }

pub returns-then-branch : goal.returns-then-branch
returns-then-branch c =
    let old = c.args.self.now in
    let middle = c.propagate.new.self in
    let new = c.learn.new.self in
    let learns : Learns middle new = subst (LearnsOrEnds middle new) c.if-branch.true c.in_ok-learn.ensures.learns in
    let vars : new.trail.vars ≡ old.trail.vars = learns.vars ∙ c.propagate.ensures.vars in
    let farther : weight_of old < weight_of new = omega (arith, c.propagate.ensures.farther, learns.farther) in
    let all = middle.store.clauses in
    record {
      search = learns.search;
      vars = vars;
      rises = rises_farther old.trail new.trail c.requires.trail learns.search.trail vars farther;
      known = λ clauses follow.
          let more : Follow clauses (steps_in middle ++ learns.derived.step ∷ []) (all ++ learns.clause ∷ []) = Follow-push clauses all (steps_in middle) learns.derived.step learns.clause (known (goal.at.returns-then-branch c).After-propagate clauses follow) learns.derived.makes in
          subst (Follow clauses (steps_in new)) (sym learns.store) (subst (λ steps. Follow clauses steps (all ++ learns.clause ∷ [])) (sym learns.derived.steps) more);
    }
