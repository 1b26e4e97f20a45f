use Rattle.std.proofs.Common.{◌≡◌, ◌≢◌, ◌-◌, ◌+◌, ◌≤◌, List, ℕ, length, take, drop, vec_len}
use Rattle.std.specs.Option.{ForSome, option_map}
use Rattle.dj_io.proofs.whole.read_whole.Given as goal

-- the bytes so far are the front of what was left, the rest of it is still left, and no count has changed
abbrev pub invariant-chunks : goal.invariant-chunks
invariant-chunks g l =
    let left = g.F.Files.left in
    let faults = g.F.Files.faults in
    record {
      within : vec_len l.bytes ≤ l.limit;
      enough : ForSome (left l.fn.files l.path) (λ all. vec_len l.bytes ≤ length all);
      front : ForSome (left l.fn.files l.path) (λ all. l.bytes.items ≡ take (vec_len l.bytes) all);
      rest : left l.files l.path ≡ option_map (drop (vec_len l.bytes)) (left l.fn.files l.path);
      others : (other : List ℕ) → other ≢ l.path → left l.files other ≡ left l.fn.files other;
      counts : (each : List ℕ) → faults l.files each ≡ faults l.fn.files each;
    }

abbrev pub decreases-chunks : goal.decreases-chunks
decreases-chunks g l = l.limit + 1 - vec_len l.bytes
