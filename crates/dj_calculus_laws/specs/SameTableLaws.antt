-- Tables that are the same but for places.
use Rattle.std.specs.Prelude.{◌≡◌, ◌↔◌, IsTrue}
use Rattle.dj_calculus.specs.Tables.{Signature, heading_of, Table, SameTable}
use Rattle.dj_calculus.specs.Entries.{same_signature}
use Rattle.dj_calculus.specs.TableForms.{IsTable, HasDistinctParameters}
use Rattle.dj_calculus.specs.Typing.{WellTyped}
use Rattle.dj_calculus.specs.JavaText.{java_text}

-- They have the same canonical text,
abbrev pub SameText : Type 0
SameText = (t u : Table) → SameTable t u → java_text t ≡ java_text u

-- and they are well typed together.
abbrev pub TypedTogether : Type 0
TypedTogether = (t u : Table) → SameTable t u → WellTyped t ↔ WellTyped u

-- One is a class table, and has no parameter twice, where the other is and has none.
abbrev pub TablesTogether : Type 0
TablesTogether = (t u : Table) → SameTable t u → IsTable t → IsTable u

abbrev pub DistinctTogether : Type 0
DistinctTogether = (t u : Table) → SameTable t u → HasDistinctParameters t → HasDistinctParameters u

-- Two signatures are the same exactly if their headings are.
abbrev pub SameHeadings : Type 0
SameHeadings = (s t : Signature) → IsTrue (same_signature s t) ↔ (heading_of s ≡ heading_of t)
