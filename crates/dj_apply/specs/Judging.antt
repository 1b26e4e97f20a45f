-- Which rules an operation breaks on a table, as instances.
use Rattle.std.specs.Prelude.{◌≡◌, ◌⊎◌, ℕ, Some, IsSome, IsNone, IsFalse}
use Rattle.dj_names.specs.Texts.{Text}
use Rattle.dj_tree.specs.Trees.{MemberOperation, adds_field, adds_method, modifies_method, removes_field, removes_method, Operation}
use Rattle.dj_tree.specs.declared.source.Instance.{Instance}
use Rattle.dj_calculus.specs.Tables.{MethodEntry, Table}
use Rattle.dj_calculus.specs.Entries.{signature_of, same_signature}
use Rattle.dj_calculus.specs.LineRules.{OperationRule}
use Rattle.ifj_table.specs.Lookups.{own_field, own_method}

-- the operation breaks the instance's rule at its place, which is its second place too
abbrev pub Breaks : Table → Operation → Instance → Type 0
Breaks t x i = OperationRule t x i.rule i.at × (i.second ≡ i.at)

-- this rule at this place
abbrev pub instance_at : ℕ → ℕ → Instance
instance_at rule at = record { rule = rule; at = at; second = at }

-- an operation on a member of the class, which is in the table, breaks the instance's rule
abbrev pub MemberBreaks : Table → Text → MemberOperation → Instance → Type 0
MemberBreaks t class (adds_field f) i = IsSome (own_field t class f.name.text) × (i ≡ instance_at 4 f.name.at)
MemberBreaks t class (removes_field f) i = IsNone (own_field t class f.text) × (i ≡ instance_at 5 f.at)
MemberBreaks t class (adds_method m) i = IsSome (own_method t class m.name.text) × (i ≡ instance_at 6 m.name.at)
MemberBreaks t class (removes_method m) i = IsNone (own_method t class m.text) × (i ≡ instance_at 7 m.at)
MemberBreaks t class (modifies_method m) i =
    (IsNone (own_method t class m.name.text) × (i ≡ instance_at 7 m.name.at))
    ⊎ ((old : MethodEntry) × (own_method t class m.name.text ≡ Some old) × IsFalse (same_signature old.signature (signature_of m)) × (i ≡ instance_at 8 m.name.at))
