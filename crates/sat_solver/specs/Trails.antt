-- Trails.
use Rattle.std.specs.Prelude.{◌≡◌, ℕ, ◌+◌, ◌-◌, ◌≤◌, List, [], ◌∷◌, ◌++◌, Bool, Option, None, is_none, length, count_by, slice_index, All}
use Rattle.sat_solver.specs.declared.entry.Entry.{Entry}
use Rattle.sat_solver.specs.Entries.{value_in, values_of, AllAlong, decisions}

-- what contracts see of a trail: the number of its variables, its literals with their levels, oldest first, the present
-- level, and how many of the literals were worked through
pub record TrailState : Type 0 where
  pub vars : ℕ
  pub entries : List Entry
  pub level : ℕ
  pub worked : ℕ

-- a trail has literals of its variables, each variable once at most; each decision opens the next level
pub record IsTrail (trail : TrailState) : Type 0 where
  pub within : All (λ entry. (1 ≤ entry.lit.var) × (entry.lit.var ≤ trail.vars)) trail.entries
  pub fresh : AllAlong (λ before entry. value_in before entry.lit.var ≡ None) trail.entries
  pub levels : AllAlong (λ before entry. entry.level ≡ decisions (before ++ entry ∷ [])) trail.entries
  pub level : trail.level ≡ decisions trail.entries
  pub small : length trail.entries ≤ trail.vars
  pub worked : trail.worked ≤ length trail.entries

-- the trail of a number of variables without literals
abbrev pub empty_trail : ℕ → TrailState
empty_trail vars = record { vars = vars; entries = []; level = 0; worked = 0 }

-- the trail with an entry at its end
abbrev pub with_entry : TrailState → Entry → TrailState
with_entry trail entry = record { vars = trail.vars; entries = trail.entries ++ entry ∷ []; level = entry.level; worked = trail.worked }

-- how the parts of a trail belong together: the values and levels by variable, and room for an entry of each variable
pub record KeepsTrail (values : List (Option Bool)) (levels : List ℕ) (entries : List Entry) (level worked capacity : ℕ) : Type 0 where
  pub trail : IsTrail (record { vars = length values; entries = entries; level = level; worked = worked })
  pub valued : values ≡ values_of (length values) entries
  pub leveled : All (λ entry. slice_index levels (entry.lit.var - 1) ≡ entry.level) entries
  pub lengths : length levels ≡ length values
  pub free : length entries + count_by is_none values ≡ length values
  pub room : length values ≤ capacity
