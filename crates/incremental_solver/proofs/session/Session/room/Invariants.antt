use Rattle.std.proofs.Common.{◌≡◌, ℕ, ◌≤◌, ◌<◌, All, List, Some, slice_get}
use Rattle.sat_clauses.specs.declared.literal.Lit.{Lit}
use Rattle.incremental_solver.proofs.session.Session.room.Given as goal

abbrev pub invariant-loop-place : goal.invariant-loop-place
invariant-loop-place l = record {
  old : l.self.search.store.vars ≤ l.vars;
  assumed : All (λ lit. lit.var ≤ l.vars) l.assumptions;
  seen : (k : ℕ) (clause : List Lit) → l.self.known ≤ k → k < l.place → slice_get l.added k ≡ Some clause → All (λ lit. lit.var ≤ l.vars) clause;
}
