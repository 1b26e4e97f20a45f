-- What a delta's operations make of a table, and where they are undefined. Each operation in a plain sentence is a law in OperationLaws.
-- A step changes one part of what it is applied to: it looks at what stands there, changes it where it can, and writes it back.
use Rattle.std.specs.Prelude.{List, [], ◌∷◌, ◌++◌, Option, Some, None, if◌then◌else◌}
use Rattle.std.specs.Option.{option_map, option_and_then}
use Rattle.std.specs.FinMap.{get}
use Rattle.dj_tree.specs.Trees.{Spot, Method, adds_field, adds_method, modifies_method, removes_field, removes_method}
use Rattle.dj_tree.specs.Trees.{Operation, adds_class, modifies_class, removes_class, Delta}
use Rattle.dj_calculus.specs.Maps.{with_at}
use Rattle.dj_calculus.specs.Contents.{class_name}
use Rattle.dj_calculus.specs.Things.{Step, extends, does, steps_of, Piece, superclass, field_named, method_named, piece}
use Rattle.dj_calculus.specs.Tables.{FieldEntry, MethodEntry, ClassEntry, Table}
use Rattle.dj_calculus.specs.Entries.{field_entry, signature_of, body_of, method_entry, class_entry, same_signature, says_original}

-- one step after the other. It is undefined as soon as one is.
abbrev pub run : {X S : Type 0} → (X → S → Option S) → List X → S → Option S
run step [] s = Some s
run step (x ∷ xs) s = option_and_then (run step xs) (step x s)

-- the state with one part of it changed, where that can be changed
abbrev pub update : {S A : Type 0} → (S → A) → (A → S → S) → (A → Option A) → S → Option S
update look write change s = option_map (λ part. write part s) (change (look s))

-- ---- changes of what may be missing

-- what is added isn't there yet
abbrev pub enter : {X : Type 0} → X → Option X → Option (Option X)
enter new None = Some (Some new)
enter new (Some old) = None

-- what is removed is there
abbrev pub leave : {X : Type 0} → Option X → Option (Option X)
leave None = None
leave (Some old) = Some None

-- what is changed is there
abbrev pub inside : {X : Type 0} → (X → Option X) → Option X → Option (Option X)
inside change None = None
inside change (Some old) = option_map Some (change old)

-- ---- steps within a class

-- what may stand at a piece of a class
abbrev pub Held : Piece → Type 0
Held superclass = Spot
Held (field_named f) = Option FieldEntry
Held (method_named m) = Option MethodEntry

abbrev pub look : (p : Piece) → ClassEntry → Held p
look superclass c = c.parent
look (field_named f) c = get c.fields f
look (method_named m) c = get c.methods m

abbrev pub write : (p : Piece) → Held p → ClassEntry → ClassEntry
write superclass parent c = record c { parent = parent }
write (field_named f) held c = record c { fields = with_at c.fields f held }
write (method_named m) held c = record c { methods = with_at c.methods m held }

-- A method is modified by one of the same signature. Its body is appended where it says `original`, and else is the only one.
abbrev pub modify : Method → MethodEntry → Option MethodEntry
modify m old =
    if same_signature old.signature (signature_of m)
    then Some (record { at = m.name.at; signature = signature_of m; bodies = (if says_original m.body then old.bodies else []) ++ body_of m ∷ [] })
    else None

abbrev pub changes : (step : Step) → Held (piece step) → Option (Held (piece step))
changes (extends parent) held = Some parent
changes (does (adds_field f)) held = enter (field_entry f) held
changes (does (adds_method m)) held = enter (method_entry m) held
changes (does (modifies_method m)) held = inside (modify m) held
changes (does (removes_field f)) held = leave held
changes (does (removes_method m)) held = leave held

abbrev pub take_step : Step → ClassEntry → Option ClassEntry
take_step step c = update (look (piece step)) (write (piece step)) (changes step) c

-- ---- operations on a table

abbrev pub class_changes : Operation → Option ClassEntry → Option (Option ClassEntry)
class_changes (adds_class c) held = enter (class_entry c) held
class_changes (modifies_class change) held = inside (run take_step (steps_of change)) held
class_changes (removes_class c) held = leave held

abbrev pub apply : Operation → Table → Option Table
apply operation t = update (λ u. get u (class_name operation).text) (λ held u. with_at u (class_name operation).text held) (class_changes operation) t

-- a delta's operations in their order
abbrev pub apply_delta : Delta → Table → Option Table
apply_delta delta t = run apply delta.operations t
