-- Shorter words for the trees of the samples. Each name is followed by its place as a byte offset.
use Prim.Native.String.{String}
use Rattle.std.specs.Prelude.{ℕ, List, Some, None, codes}
use Rattle.dj_tree.specs.Trees.{Spot, Formula, Expr, Field, Method, Class, MemberOperation, Change, Operation, Delta, Item, Part}

abbrev pub spot : String → ℕ → Spot
spot name at = record { text = codes name; at = at }

-- kind name
abbrev pub field : String → ℕ → String → ℕ → Field
field kind kind_at name at = record { kind = spot kind kind_at; name = spot name at }

-- kind name(parameters) { return body; }
abbrev pub method : String → ℕ → String → ℕ → List Field → Expr → Method
method kind kind_at name at parameters body = record { kind = spot kind kind_at; name = spot name at; parameters = parameters; body = body }

abbrev pub class : String → ℕ → List Field → List Method → Class
class name at fields methods = record { name = spot name at; parent = None; fields = fields; methods = methods }

-- class name extends parent
abbrev pub subclass : String → ℕ → String → ℕ → List Field → List Method → Class
subclass name at parent parent_at fields methods = record { name = spot name at; parent = Some (spot parent parent_at); fields = fields; methods = methods }

abbrev pub change : String → ℕ → List MemberOperation → Change
change name at members = record { name = spot name at; parent = None; members = members }

abbrev pub delta_of : String → ℕ → List Operation → Delta
delta_of name at operations = record { name = spot name at; operations = operations }

abbrev pub item : String → ℕ → Item
item name at = record { delta = spot name at; condition = None }

abbrev pub item_when : String → ℕ → Formula → Item
item_when name at condition = record { delta = spot name at; condition = Some condition }

abbrev pub part : String → ℕ → List Item → Part
part name at items = record { name = spot name at; after = None; items = items }

abbrev pub part_after : String → ℕ → String → ℕ → List Item → Part
part_after name at after after_at items = record { name = spot name at; after = Some (spot after after_at); items = items }
