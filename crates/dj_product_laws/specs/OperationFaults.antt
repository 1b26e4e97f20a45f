-- The rules from 2 to 8 that an operation breaks on a table, each with its place, as a list made by look-ups. Law FaultsAreRules says that
-- these are just the rules that it breaks.
use Rattle.std.specs.Prelude.{ℕ, List, [], ◌∷◌, Option, Some, None, if◌then◌else◌}
use Rattle.std.specs.List.{flat_map}
use Rattle.std.specs.FinMap.{get}
use Rattle.dj_tree.specs.Trees.{Method, MemberOperation, adds_field, adds_method, modifies_method, removes_field, removes_method}
use Rattle.dj_tree.specs.Trees.{Operation, adds_class, modifies_class, removes_class}
use Rattle.dj_calculus.specs.Contents.{class_name}
use Rattle.dj_calculus.specs.Tables.{MethodEntry, ClassEntry, Table}
use Rattle.dj_calculus.specs.Entries.{signature_of, same_signature}

-- the rule is broken at this place where something is there, and where nothing is
abbrev pub if_there : {X : Type 0} → ℕ → ℕ → Option X → List (ℕ × ℕ)
if_there rule at None = []
if_there rule at (Some held) = (rule, at) ∷ []

abbrev pub if_missing : {X : Type 0} → ℕ → ℕ → Option X → List (ℕ × ℕ)
if_missing rule at None = (rule, at) ∷ []
if_missing rule at (Some held) = []

-- what `modifies` of a method breaks where this one is there, or none: 7, method missing; 8, signature differs
abbrev pub modify_faults : Method → Option MethodEntry → List (ℕ × ℕ)
modify_faults m None = (7, m.name.at) ∷ []
modify_faults m (Some old) = if same_signature old.signature (signature_of m) then [] else (8, m.name.at) ∷ []

-- what an operation on a member breaks in a class: 4, field there; 5, field missing; 6, method there; 7, method missing
abbrev pub member_faults : ClassEntry → MemberOperation → List (ℕ × ℕ)
member_faults c (adds_field f) = if_there 4 f.name.at (get c.fields f.name.text)
member_faults c (adds_method m) = if_there 6 m.name.at (get c.methods m.name.text)
member_faults c (modifies_method m) = modify_faults m (get c.methods m.name.text)
member_faults c (removes_field f) = if_missing 5 f.at (get c.fields f.text)
member_faults c (removes_method m) = if_missing 7 m.at (get c.methods m.text)

-- what an operation breaks where this is its class, or none: 2, class there; 3, class missing; or what its members break, each in the class
-- as it stands before the operation
abbrev pub class_faults : Operation → Option ClassEntry → List (ℕ × ℕ)
class_faults (adds_class c) held = if_there 2 c.name.at held
class_faults (removes_class c) held = if_missing 3 c.at held
class_faults (modifies_class c) None = (3, c.name.at) ∷ []
class_faults (modifies_class c) (Some entry) = flat_map (member_faults entry) c.members

-- the pairs of a rule and a place that the operation breaks on the table
abbrev pub faults : Table → Operation → List (ℕ × ℕ)
faults t x = class_faults x (get t (class_name x).text)
