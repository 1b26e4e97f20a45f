-- What a thing touches, by the numbers of names.
use Rattle.std.specs.Prelude.{ℕ, ◌+◌, ◌<◌, List, [], length, slice_get, unwrap_or, Option, None, Some}
use Rattle.dj_names.specs.Texts.{Text}
use Rattle.dj_calculus.specs.Things as plain
use Rattle.dj_tree.specs.declared.declarations.Spot.{Spot}
use Rattle.dj_tree.specs.declared.declarations.ClassChange.{ClassChange}
use Rattle.dj_tree.specs.declared.declarations.ClassOp.{ClassOp}
use Rattle.dj_tree.specs.declared.declarations.ClassOp.TheVariants.{Adds, Modifies, Removes}
use Rattle.dj_apply.specs.declared.things.Touch.{Touch}
use Rattle.dj_apply.specs.declared.things.Touch.TheVariants.{Whole, Mention, Superclass, Field, Method}
use Rattle.dj_apply.specs.declared.things.Touched.{Touched}

-- how many steps a change has, and how many things an operation touches
abbrev pub parent_length : Option Spot → ℕ
parent_length None = 0
parent_length (Some parent) = 1

abbrev pub step_length : ClassChange → ℕ
step_length c = parent_length c.parent + length c.members

abbrev pub touched_length : ClassOp → ℕ
touched_length (Adds c) = 1
touched_length (Modifies c) = step_length c + 1
touched_length (Removes c) = 1

-- the text of the name of a number
abbrev pub text_of : List Text → ℕ → Text
text_of names number = unwrap_or (slice_get names number) []

abbrev pub plain_touch : List Text → Touch → plain.Touch
plain_touch names Whole = plain.whole
plain_touch names Mention = plain.mention
plain_touch names Superclass = plain.only plain.superclass
plain_touch names (Field f) = plain.only (plain.field_named (text_of names f.0))
plain_touch names (Method m) = plain.only (plain.method_named (text_of names m.0))

-- the thing that it stands for
abbrev pub plain_thing : List Text → Touched → plain.Thing
plain_thing names t = record { class = text_of names t.class.0; touch = plain_touch names t.touch; at = t.at }

-- the name of the piece, where it has one, is there
abbrev pub IsTouch : List Text → Touch → Type 0
IsTouch names Whole = Unit {0}
IsTouch names Mention = Unit {0}
IsTouch names Superclass = Unit {0}
IsTouch names (Field f) = f.0 < length names
IsTouch names (Method m) = m.0 < length names

pub record IsTouched (names : List Text) (t : Touched) : Type 0 where
  pub class : t.class.0 < length names
  pub touch : IsTouch names t.touch
