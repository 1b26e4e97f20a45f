-- How far a search has come.
use Rattle.std.specs.Prelude.{◌≡◌, ℕ, zero, suc, ◌+◌, ◌*◌, ◌^◌, ◌==◌, List, [], ◌∷◌, is_none, if◌then◌else◌, map, count_by}
use Rattle.std.specs.List.{range_with_len}
use Rattle.std.specs.Ordering.{nat_cmp}
use Rattle.std.specs.Cmp.Lexicographic.{slice_cmp}
use Rattle.sat_solver.specs.declared.entry.Entry.{Entry}
use Rattle.sat_solver.specs.Trails.{TrailState, IsTrail}

-- how many literals of a trail are of each level, from 0 to the present one
abbrev pub level_counts : TrailState → List ℕ
level_counts trail = map (λ level. count_by (λ entry. entry.level == level) trail.entries) (range_with_len 0 (trail.level + 1))

-- a decision counts 1, and a literal that was forced counts 2
abbrev pub digit : Entry → ℕ
digit entry = if is_none entry.reason then 1 else 2

-- the entries as the digits of a number in base 3, with as many places as there are variables
abbrev pub weight : ℕ → List Entry → ℕ
weight vars [] = 0
weight zero (entry ∷ entries) = 0
weight (suc vars) (entry ∷ entries) = digit entry * 3 ^ vars + weight vars entries

-- the weights of two trails are ordered as their lists of counts are in lexicographic order
abbrev pub WeightIsLexicographic : Type 0
WeightIsLexicographic = (a b : TrailState) → IsTrail a → IsTrail b → a.vars ≡ b.vars
    → nat_cmp (weight a.vars a.entries) (weight b.vars b.entries) ≡ slice_cmp nat_cmp (level_counts a) (level_counts b)
