use Rattle.std.proofs.Common.{◌≡◌, take}
use Rattle.sat_solver.specs.Stores.{greatest_var}
use Rattle.sat_solver.specs.Watching.{IsWatching}
use Rattle.sat_solver.proofs.store.Store.new.Given as goal

abbrev pub invariant-loop-place : goal.invariant-loop-place
invariant-loop-place l = record {
  clauses : l.store.clauses ≡ take l.place l.clauses;
  vars : l.store.vars ≡ greatest_var l.clauses;
  watching : IsWatching l.store;
  unseen : l.store.seen ≡ 0;
}
