-- What a delta touches: of each operation the whole class, or the mention of it and what the steps of its change touch.
use Rattle.std.specs.Prelude.{ℕ, List, [], ◌∷◌, ◌++◌, map, Option, Some, None}
use Rattle.std.specs.List.{flat_map}
use Rattle.dj_names.specs.Texts.{Text}
use Rattle.dj_tree.specs.Trees.{Spot, MemberOperation, adds_field, adds_method, modifies_method, removes_field, removes_method}
use Rattle.dj_tree.specs.Trees.{Change, Operation, adds_class, modifies_class, removes_class, Delta}

-- ---- steps

-- what a `modifies class` does to the class, one step at a time
pub data Step : Type 0 where
  extends : Spot → Step
  does : MemberOperation → Step

-- the new superclass, where one is given
abbrev pub first_steps : Option Spot → List Step
first_steps None = []
first_steps (Some parent) = extends parent ∷ []

-- its superclass where `extends` is given, and then its member operations
abbrev pub steps_of : Change → List Step
steps_of change = first_steps change.parent ++ map does change.members

-- ---- things

-- a piece of a class: its superclass, or its field or method of a name
pub data Piece : Type 0 where
  superclass : Piece
  field_named : Text → Piece
  method_named : Text → Piece

-- the whole class, the mention of it, or a piece of it
pub data Touch : Type 0 where
  whole : Touch
  mention : Touch
  only : Piece → Touch

-- what is touched of which class, and the place of the name that says so
pub record Thing : Type 0 where
  pub class : Text
  pub touch : Touch
  pub at : ℕ

-- the piece that a step touches, and the name that says it
abbrev pub piece : Step → Piece
piece (extends parent) = superclass
piece (does (adds_field f)) = field_named f.name.text
piece (does (adds_method m)) = method_named m.name.text
piece (does (modifies_method m)) = method_named m.name.text
piece (does (removes_field f)) = field_named f.text
piece (does (removes_method m)) = method_named m.text

abbrev pub place : Step → ℕ
place (extends parent) = parent.at
place (does (adds_field f)) = f.name.at
place (does (adds_method m)) = m.name.at
place (does (modifies_method m)) = m.name.at
place (does (removes_field f)) = f.at
place (does (removes_method m)) = m.at

abbrev pub thing_of : Text → Step → Thing
thing_of class step = record { class = class; touch = only (piece step); at = place step }

abbrev pub touched_by : Operation → List Thing
touched_by (adds_class c) = record { class = c.name.text; touch = whole; at = c.name.at } ∷ []
touched_by (modifies_class c) = record { class = c.name.text; touch = mention; at = c.name.at } ∷ map (thing_of c.name.text) (steps_of c)
touched_by (removes_class c) = record { class = c.text; touch = whole; at = c.at } ∷ []

-- the things that a delta touches, in source order
abbrev pub things : Delta → List Thing
things delta = flat_map touched_by delta.operations
