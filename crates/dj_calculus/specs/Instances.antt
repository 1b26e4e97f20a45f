-- Instances of rules: which layer a rule belongs to, when an instance counts, and the order of instances.
use Rattle.std.specs.Prelude.{◌≡◌, ◌⊎◌, ℕ, ◌<◌, ◌≤◌, nat_lt, if◌then◌else◌}
use Rattle.dj_tree.specs.declared.source.Instance.{Instance}

-- the layer of a rule, from 1 to 5
abbrev pub layer : ℕ → ℕ
layer rule =
    if nat_lt rule 2 then 1
    else (if nat_lt rule 9 then 2
    else (if nat_lt rule 12 then 3
    else (if nat_lt rule 14 then 4
    else 5)))

-- the instance's rule is of a lower layer
abbrev pub IsLower : Instance → Instance → Type 0
IsLower i j = layer i.rule < layer j.rule

-- the instance stands, and none of a lower layer does. So it counts exactly if it stands and none of a lower layer counts.
pub record CountsAmong (Stands : Instance → Type 0) (i : Instance) : Type 0 where
  pub stands : Stands i
  pub clean : (lower : Instance) → IsLower lower i → ¬ (Stands lower)

-- instances are ordered by rule, then by place, then by second place
abbrev pub IsNotAfter : Instance → Instance → Type 0
IsNotAfter i j = (i.rule < j.rule) ⊎ ((i.rule ≡ j.rule) × ((i.at < j.at) ⊎ ((i.at ≡ j.at) × (i.second ≤ j.second))))

-- the least of these instances
pub record IsLeast (P : Instance → Type 0) (i : Instance) : Type 0 where
  pub is : P i
  pub least : (other : Instance) → P other → IsNotAfter i other
