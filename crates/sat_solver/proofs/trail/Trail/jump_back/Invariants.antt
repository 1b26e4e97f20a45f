use Rattle.std.proofs.Common.{◌≡◌, ℕ, ◌≤◌, ◌<◌, take, length, slice_get, Some, vec_len, vec_capacity}
use Rattle.sat_solver.specs.declared.entry.Entry.{Entry}
use Rattle.sat_solver.specs.Entries.{decisions}
use Rattle.sat_solver.specs.Trails.{KeepsTrail}
use Rattle.sat_solver.proofs.trail.Trail.jump_back.Given as goal

abbrev pub invariant-back : goal.invariant-back
invariant-back l = record {
  keeps : KeepsTrail l.self-inside.values.items l.self-inside.levels.items l.self-inside.entries.items (decisions l.self-inside.entries.items) 0 (vec_capacity l.self-inside.entries);
  prefix : l.self-inside.entries.items ≡ take (length l.self-inside.entries.items) l.initial.self-inside.entries.items;
  dropped : (k : ℕ) (x : Entry) → length l.self-inside.entries.items ≤ k → slice_get l.initial.self-inside.entries.items k ≡ Some x → l.level < x.level;
  vars : length l.self-inside.values.items ≡ length l.initial.self-inside.values.items;
  worked : l.self-inside.worked ≡ l.initial.self-inside.worked;
}

abbrev pub decreases-back : goal.decreases-back
decreases-back l = vec_len l.self-inside.entries
