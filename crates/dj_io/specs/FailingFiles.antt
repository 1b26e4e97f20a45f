-- Files in memory with their counts of faults, and the calls that fail.
use Rattle.std.specs.Prelude.{ℕ, ◌+◌, ◌==◌, ◌||◌, Bool, not, List, slice_index}
use Rattle.std.specs.List.{list_any}
use Rattle.dj_io.specs.Contents.{place_of, is_among}

pub record FailingFiles : Type 0 where
  -- each path with what is left of it
  pub files : List (List ℕ × List ℕ)
  -- the count of faults of each file, and then that of all the paths that no file has
  pub counts : List ℕ
  -- how many read calls there were, as far as a u64 counts
  pub calls : ℕ
  -- the numbers of the calls that fail, from 1
  pub failing : List ℕ

-- the count of faults of a path
abbrev pub faults_of : FailingFiles → List ℕ → ℕ
faults_of state path = slice_index state.counts (place_of state.files path)

-- whether the next call fails, as a read of this path
abbrev pub read_fails : FailingFiles → List ℕ → Bool
read_fails state path = list_any (λ call. call == state.calls + 1) state.failing || not (is_among state.files path)
