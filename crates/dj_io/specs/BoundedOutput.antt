-- A sink in memory that keeps what fits in its room.
use Rattle.std.specs.Prelude.{ℕ, ◌-◌, ◌==◌, List, Option, Some, None, length, min, if◌then◌else◌}

pub record BoundedOutput : Type 0 where
  pub bytes : List ℕ
  -- how many bytes there may be
  pub room : ℕ
  -- how many bytes were put and not kept, as far as a u64 counts
  pub past : ℕ

-- how many of the wanted bytes fit
abbrev pub fitting : List ℕ → ℕ → ℕ → ℕ
fitting bytes room wanted = min wanted (room - length bytes)

-- what was written, where all of it was kept
abbrev pub told : BoundedOutput → Option (List ℕ)
told output = if output.past == 0 then Some output.bytes else None
