use Rattle.std.proofs.Common.{false, IsTrue, map, unwrap_or, sym, ap, subst, ◌∙◌}
use Rattle.sat_clauses.specs.Literals.{is_true}
use Rattle.sat_clauses.specs.ClauseLists.{holds}
use Rattle.sat_solver.specs.Keeping.{KeepsClauses}
use Rattle.sat_solver.proofs.SolutionLemmas.{store_holds, reads_true}
use Rattle.sat_solver.proofs.search.Search.assignment.Goals as goal

pub returns-clause-holds : goal.returns-clause-holds
returns-clause-holds c =
    let trail = c.args.self.now.trail in
    let clauses = c.args.self.now.store.clauses in
    let values = c.in_ok-found.ensures ∙ ap (map (λ value. unwrap_or value false)) c.values.ensures.values in
    let keeps : KeepsClauses trail.vars clauses = subst (λ n. KeepsClauses n clauses) (sym c.requires.search.paired.vars) c.count-clauses.ensures.kept in
    subst (λ vs. IsTrue (holds vs clauses)) (sym values) (store_holds trail.vars trail.entries c.requires.valued clauses keeps c.requires.settled)

pub returns-clause-truths : goal.returns-clause-truths
returns-clause-truths c = λ lit low high truth.
    let trail = c.args.self.now.trail in
    let values = c.in_ok-found.ensures ∙ ap (map (λ value. unwrap_or value false)) c.values.ensures.values in
    subst (λ vs. IsTrue (is_true vs lit)) (sym values) (reads_true trail.vars trail.entries c.requires.valued lit low high truth)
