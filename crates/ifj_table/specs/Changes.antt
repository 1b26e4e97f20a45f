-- Changes of one class of a table, and of its members.
use Rattle.std.specs.Prelude.{ℕ, ◌+◌, ◌*◌, [], ◌∷◌, ◌++◌, length}
use Rattle.std.specs.Option.{option_map}
use Rattle.std.specs.FinMap.{get, insert, remove, empty}
use Rattle.dj_names.specs.Texts.{Text}
use Rattle.arena_walk.specs.Tree.{size}
use Rattle.dj_tree.specs.Trees.{Spot, Method}
use Rattle.dj_calculus.specs.Maps.{TextMap, with_at}
use Rattle.dj_calculus.specs.Tables.{FieldEntry, MethodEntry, ClassEntry}
use Rattle.dj_calculus.specs.Entries.{signature_of, body_of}

-- the map with what stands at a key changed, where something does
abbrev pub changed_at : {X : Type 0} → TextMap X → Text → (X → X) → TextMap X
changed_at m key change = with_at m key (option_map change (get m key))

-- a class without members, whose name stands at this place
abbrev pub bare_class : ℕ → Spot → ClassEntry
bare_class at parent = record { at = at; parent = parent; fields = empty; methods = empty }

abbrev pub with_parent : Spot → ClassEntry → ClassEntry
with_parent parent c = record c { parent = parent }

abbrev pub with_field : Text → FieldEntry → ClassEntry → ClassEntry
with_field f entry c = record c { fields = insert c.fields f entry }

abbrev pub without_field : Text → ClassEntry → ClassEntry
without_field f c = record c { fields = remove c.fields f }

abbrev pub with_method : Text → MethodEntry → ClassEntry → ClassEntry
with_method m entry c = record c { methods = insert c.methods m entry }

abbrev pub without_method : Text → ClassEntry → ClassEntry
without_method m c = record c { methods = remove c.methods m }

-- the method with one more body, that of a new declaration, which it takes its places from
abbrev pub pushed_body : Method → MethodEntry → MethodEntry
pushed_body m old = record { at = m.name.at; signature = signature_of m; bodies = old.bodies ++ body_of m ∷ [] }

abbrev pub with_body : Method → ClassEntry → ClassEntry
with_body m c = record c { methods = changed_at c.methods m.name.text (pushed_body m) }

-- how many names a method says: its own, its result type, its parameters with their types, and one at most for each node
abbrev pub names_said : Method → ℕ
names_said m = 2 + 2 * length m.parameters + size m.body
