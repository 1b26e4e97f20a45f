-- A sink in memory with its count of faults, and the calls that fail.
use Rattle.std.specs.Prelude.{ℕ, ◌+◌, ◌-◌, ◌==◌, ◌||◌, Bool, List, Option, length, min, find, option_map, unwrap_or, is_some, nat_lt}
use Rattle.dj_io.specs.declared.memory_sink.Fail.{Fail}

pub record FailingOutput : Type 0 where
  pub bytes : List ℕ
  -- how many bytes there may be
  pub room : ℕ
  -- the calls that fail, by their numbers from 1, and how much each of them keeps
  pub failing : List Fail
  -- how many put calls there were, as far as a u64 counts
  pub calls : ℕ
  pub faults : ℕ

-- how much the next call keeps, if it is listed
abbrev pub listed_kept : List Fail → ℕ → Option ℕ
listed_kept failing calls = option_map (λ fail. fail.kept) (find (λ fail. fail.call == calls + 1) failing)

-- whether the next call fails, as a put of this piece
abbrev pub put_fails : FailingOutput → List ℕ → Bool
put_fails output piece =
    is_some (listed_kept output.failing output.calls) || nat_lt (output.room - length output.bytes) (length piece)

-- how much of the piece it keeps: what it is told to, as far as the piece goes and there is room
abbrev pub kept_of : FailingOutput → List ℕ → ℕ
kept_of output piece =
    min (min (unwrap_or (listed_kept output.failing output.calls) (length piece)) (length piece)) (output.room - length output.bytes)
