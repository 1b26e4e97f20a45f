-- The types of expressions, by the texts of their names.
use Rattle.std.specs.Prelude.{◌<◌, List, length}
use Rattle.dj_names.specs.Texts.{Text}
use Rattle.dj_names.specs.declared.names.Name.{Name}
use Rattle.dj_tree.specs.Plain.{plain_spot}
use Rattle.dj_calculus.specs.Subclasses as calculus
use Rattle.ifj_typing.specs.declared.kind.Kind.{Kind}
use Rattle.ifj_typing.specs.declared.kind.Kind.TheVariants.{Null, Class}

-- the text of a name
abbrev pub text_of : List Text → Name → Text
text_of names name = (plain_spot names (record { name = name; at = 0 })).text

abbrev pub plain_kind : List Text → Kind → calculus.Kind
plain_kind names Null = calculus.null_kind
plain_kind names (Class c) = calculus.class_kind (text_of names c)

-- the name of a type is in the table of names
abbrev pub IsKnownKind : List Text → Kind → Type 0
IsKnownKind names Null = Unit {0}
IsKnownKind names (Class c) = c.0 < length names
