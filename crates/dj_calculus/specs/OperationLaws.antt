-- What each operation does, in plain sentences.
use Rattle.std.specs.Prelude.{◌≡◌, List, [], ◌∷◌, ◌++◌, Some, None, IsTrue, IsFalse}
use Rattle.std.specs.Option.{option_map}
use Rattle.std.specs.FinMap.{get, insert, remove}
use Rattle.dj_tree.specs.Trees.{Spot, Field, Method, Class, adds_field, adds_method, modifies_method, removes_field, removes_method}
use Rattle.dj_tree.specs.Trees.{Change, adds_class, modifies_class, removes_class}
use Rattle.dj_calculus.specs.Things.{extends, does, steps_of}
use Rattle.dj_calculus.specs.Tables.{FieldEntry, Body, MethodEntry, ClassEntry, Table}
use Rattle.dj_calculus.specs.Entries.{field_entry, signature_of, body_of, method_entry, class_entry, same_signature, says_original}
use Rattle.dj_calculus.specs.Operations.{run, take_step, apply}

-- `adds class` enters the class with its members, and is undefined where the class is in the table.
pub record AddsClass : Type 0 where
  pub enters : (c : Class) (t : Table) → get t c.name.text ≡ None → apply (adds_class c) t ≡ Some (insert t c.name.text (class_entry c))
  pub undefined : (c : Class) (t : Table) (old : ClassEntry) → get t c.name.text ≡ Some old → apply (adds_class c) t ≡ None

-- `removes class` takes the class out with all its members, and is undefined where the class isn't in the table.
pub record RemovesClass : Type 0 where
  pub takes_out : (c : Spot) (t : Table) (old : ClassEntry) → get t c.text ≡ Some old → apply (removes_class c) t ≡ Some (remove t c.text)
  pub undefined : (c : Spot) (t : Table) → get t c.text ≡ None → apply (removes_class c) t ≡ None

-- `modifies class` does its steps in order on the class, and is undefined where one of them is or the class isn't in the table.
pub record ModifiesClass : Type 0 where
  pub changes : (c : Change) (t : Table) (old : ClassEntry) → get t c.name.text ≡ Some old
      → apply (modifies_class c) t ≡ option_map (insert t c.name.text) (run take_step (steps_of c) old)
  pub undefined : (c : Change) (t : Table) → get t c.name.text ≡ None → apply (modifies_class c) t ≡ None

-- `extends` replaces the superclass.
abbrev pub Extends : Type 0
Extends = (parent : Spot) (c : ClassEntry) → take_step (extends parent) c ≡ Some (record c { parent = parent })

-- A field is added where the class has none of the name, and removed where it has one.
pub record ChangesFields : Type 0 where
  pub adds : (f : Field) (c : ClassEntry) → get c.fields f.name.text ≡ None
      → take_step (does (adds_field f)) c ≡ Some (record c { fields = insert c.fields f.name.text (field_entry f) })
  pub adds_undefined : (f : Field) (c : ClassEntry) (old : FieldEntry) → get c.fields f.name.text ≡ Some old → take_step (does (adds_field f)) c ≡ None
  pub removes : (f : Spot) (c : ClassEntry) (old : FieldEntry) → get c.fields f.text ≡ Some old
      → take_step (does (removes_field f)) c ≡ Some (record c { fields = remove c.fields f.text })
  pub removes_undefined : (f : Spot) (c : ClassEntry) → get c.fields f.text ≡ None → take_step (does (removes_field f)) c ≡ None

-- So is a method, with its one body.
pub record ChangesMethods : Type 0 where
  pub adds : (m : Method) (c : ClassEntry) → get c.methods m.name.text ≡ None
      → take_step (does (adds_method m)) c ≡ Some (record c { methods = insert c.methods m.name.text (method_entry m) })
  pub adds_undefined : (m : Method) (c : ClassEntry) (old : MethodEntry) → get c.methods m.name.text ≡ Some old
      → take_step (does (adds_method m)) c ≡ None
  pub removes : (m : Spot) (c : ClassEntry) (old : MethodEntry) → get c.methods m.text ≡ Some old
      → take_step (does (removes_method m)) c ≡ Some (record c { methods = remove c.methods m.text })
  pub removes_undefined : (m : Spot) (c : ClassEntry) → get c.methods m.text ≡ None → take_step (does (removes_method m)) c ≡ None

-- the class with the method as it is declared last, with these bodies
abbrev pub with_bodies : Method → List Body → ClassEntry → ClassEntry
with_bodies m bodies c =
    record c { methods = insert c.methods m.name.text (record { at = m.name.at; signature = signature_of m; bodies = bodies }) }

-- A method is modified where the class has it with the same signature. A body that says `original` is appended, and any other is the only one.
pub record ModifiesMethod : Type 0 where
  pub appends : (m : Method) (c : ClassEntry) (old : MethodEntry) → get c.methods m.name.text ≡ Some old
      → IsTrue (same_signature old.signature (signature_of m)) → IsTrue (says_original m.body)
      → take_step (does (modifies_method m)) c ≡ Some (with_bodies m (old.bodies ++ body_of m ∷ []) c)
  pub replaces : (m : Method) (c : ClassEntry) (old : MethodEntry) → get c.methods m.name.text ≡ Some old
      → IsTrue (same_signature old.signature (signature_of m)) → IsFalse (says_original m.body)
      → take_step (does (modifies_method m)) c ≡ Some (with_bodies m (body_of m ∷ []) c)
  pub differs : (m : Method) (c : ClassEntry) (old : MethodEntry) → get c.methods m.name.text ≡ Some old
      → IsFalse (same_signature old.signature (signature_of m)) → take_step (does (modifies_method m)) c ≡ None
  pub missing : (m : Method) (c : ClassEntry) → get c.methods m.name.text ≡ None → take_step (does (modifies_method m)) c ≡ None
