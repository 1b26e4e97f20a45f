-- The rules on a line in a configuration: 1 on the active deltas, 2 to 8 on their operations, and the others on the product.
use Rattle.std.specs.Prelude.{◌≡◌, ℕ, ◌<◌, take, slice_get, Some, IsSome, IsNone, IsFalse, Contains}
use Rattle.std.specs.FinMap.{get}
use Rattle.dj_tree.specs.Trees.{Spot, Field, Method, Class, adds_field, adds_method, modifies_method, removes_field, removes_method}
use Rattle.dj_tree.specs.Trees.{Change, Operation, adds_class, modifies_class, removes_class, Delta, Part, Source}
use Rattle.dj_tree.specs.declared.source.Instance.{Instance}
use Rattle.dj_calculus.specs.Configurations.{Configuration}
use Rattle.dj_calculus.specs.Parts.{chain, active}
use Rattle.dj_calculus.specs.Conflicts.{LeastConflict}
use Rattle.dj_calculus.specs.Tables.{MethodEntry, ClassEntry, Table}
use Rattle.dj_calculus.specs.Entries.{signature_of, same_signature}
use Rattle.dj_calculus.specs.Products.{Makes, Product}
use Rattle.dj_calculus.specs.Instances.{CountsAmong}
use Rattle.dj_calculus.specs.TableRules.{TableRule}

-- on this table the operation breaks the rule of this number, at this place
pub data OperationRule (t : Table) : Operation → ℕ → ℕ → Type 0 where
  -- 2, class there: `adds class`, and the class is in the table
  class_there : {c : Class} → IsSome (get t c.name.text) → OperationRule t (adds_class c) 2 c.name.at
  -- 3, class missing: `removes class` or `modifies class`, and it isn't
  removed_class_missing : {c : Spot} → IsNone (get t c.text) → OperationRule t (removes_class c) 3 c.at
  modified_class_missing : {c : Change} → IsNone (get t c.name.text) → OperationRule t (modifies_class c) 3 c.name.at
  -- 4, field there: a field is added that the class has
  field_there : {c : Change} (f : Field) (entry : ClassEntry) → Contains c.members (adds_field f) → get t c.name.text ≡ Some entry
      → IsSome (get entry.fields f.name.text) → OperationRule t (modifies_class c) 4 f.name.at
  -- 5, field missing: the class is there, without the field removed
  field_missing : {c : Change} (f : Spot) (entry : ClassEntry) → Contains c.members (removes_field f) → get t c.name.text ≡ Some entry
      → IsNone (get entry.fields f.text) → OperationRule t (modifies_class c) 5 f.at
  -- 6, method there: a method is added that the class has
  method_there : {c : Change} (m : Method) (entry : ClassEntry) → Contains c.members (adds_method m) → get t c.name.text ≡ Some entry
      → IsSome (get entry.methods m.name.text) → OperationRule t (modifies_class c) 6 m.name.at
  -- 7, method missing: the class is there, without the method removed or modified
  removed_method_missing : {c : Change} (m : Spot) (entry : ClassEntry) → Contains c.members (removes_method m) → get t c.name.text ≡ Some entry
      → IsNone (get entry.methods m.text) → OperationRule t (modifies_class c) 7 m.at
  modified_method_missing : {c : Change} (m : Method) (entry : ClassEntry) → Contains c.members (modifies_method m) → get t c.name.text ≡ Some entry
      → IsNone (get entry.methods m.name.text) → OperationRule t (modifies_class c) 7 m.name.at
  -- 8, signature differs: a modified method has another signature
  signature_differs : {c : Change} (m : Method) (entry : ClassEntry) (old : MethodEntry) → Contains c.members (modifies_method m)
      → get t c.name.text ≡ Some entry → get entry.methods m.name.text ≡ Some old → IsFalse (same_signature old.signature (signature_of m))
      → OperationRule t (modifies_class c) 8 m.name.at

-- the rule of the first number is broken in the configuration, at this place and, for rule 1, this second place
pub data LineRule (source : Source) (c : Configuration) : ℕ → ℕ → ℕ → Type 0 where
  -- 1, overlap: two active deltas of one part overlap. Each two break it once, at their least conflict. The first place is that in the delta
  -- of the earlier item, though it may be the greater one.
  overlap : (part : Part) (i j : ℕ) (one other : Delta) (first second : ℕ) → Contains (chain source) part → i < j
      → slice_get (active source c part) i ≡ Some one → slice_get (active source c part) j ≡ Some other → LeastConflict one other first second
      → LineRule source c 1 first second
  -- 2 to 8: an operation of an active delta breaks it, on the table that the parts before make
  of_operation : (k : ℕ) (part : Part) (t : Table) (delta : Delta) (operation : Operation) (rule at : ℕ) → slice_get (chain source) k ≡ Some part
      → Makes source c (take k (chain source)) t → Contains (active source c part) delta → Contains delta.operations operation
      → OperationRule t operation rule at → LineRule source c rule at at
  -- 9 to 23: the product breaks it
  of_product : (t : Table) (rule at : ℕ) → Product source c t → TableRule t rule at → LineRule source c rule at at

abbrev pub Stands : Source → Configuration → Instance → Type 0
Stands source c i = LineRule source c i.rule i.at i.second

abbrev pub Counts : Source → Configuration → Instance → Type 0
Counts source c i = CountsAmong (Stands source c) i

-- the configuration breaks the rule of this number: an instance of it counts
abbrev pub BreaksRule : Source → Configuration → ℕ → Type 0
BreaksRule source c rule = (i : Instance) × Counts source c i × (i.rule ≡ rule)
