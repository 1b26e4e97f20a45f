-- What the entries of a table stand for, over its names and its nodes.
use Rattle.std.specs.Prelude.{List, ℕ, map}
use Rattle.dj_names.specs.Texts.{Text}
use Rattle.dj_tree.specs.Trees as plain
use Rattle.dj_tree.specs.Plain.{plain_spot, plain_expr}
use Rattle.dj_tree.specs.declared.declarations.Spot.{Spot}
use Rattle.dj_tree.specs.declared.expression.ExprNode.{ExprNode}
use Rattle.dj_calculus.specs.Tables as calculus
use Rattle.dj_calculus.specs.Maps.{TextMap}
use Rattle.ifj_table.specs.Sorted.{map_of}
use Rattle.ifj_table.specs.declared.entry.FieldEntry.{FieldEntry}
use Rattle.ifj_table.specs.declared.entry.Body.{Body}
use Rattle.ifj_table.specs.declared.entry.MethodEntry.{MethodEntry}
use Rattle.ifj_table.specs.declared.entry.ClassEntry.{ClassEntry}

-- the text of a name, by its spot and by its number
abbrev pub text_at : List Text → Spot → Text
text_at names spot = (plain_spot names spot).text

-- ---- members

abbrev pub plain_field : List Text → FieldEntry → calculus.FieldEntry
plain_field names f = record { at = f.spot.at; kind = plain_spot names f.kind }

abbrev pub plain_signature : List Text → MethodEntry → calculus.Signature
plain_signature names m = record { parameters = map (plain_spot names) m.parameters; result = plain_spot names m.result }

abbrev pub plain_body : List Text → List ExprNode → Body → calculus.Body
plain_body names exprs b = record { names = map (plain_spot names) b.parameters; value = plain_expr names exprs b.root.0 }

abbrev pub plain_method : List Text → List ExprNode → MethodEntry → calculus.MethodEntry
plain_method names exprs m = record { at = m.spot.at; signature = plain_signature names m; bodies = map (plain_body names exprs) m.bodies.items }

-- ---- classes

abbrev pub fields_of : List Text → List FieldEntry → TextMap calculus.FieldEntry
fields_of names fields = map_of (λ f. text_at names f.spot) (plain_field names) fields

abbrev pub methods_of : List Text → List ExprNode → List MethodEntry → TextMap calculus.MethodEntry
methods_of names exprs methods = map_of (λ m. text_at names m.spot) (plain_method names exprs) methods

abbrev pub plain_class : List Text → List ExprNode → ClassEntry → calculus.ClassEntry
plain_class names exprs c =
    record {
      at = c.spot.at;
      parent = plain_spot names c.parent;
      fields = fields_of names c.fields.items;
      methods = methods_of names exprs c.methods.items;
    }

abbrev pub classes_of : List Text → List ExprNode → List ClassEntry → calculus.Table
classes_of names exprs classes = map_of (λ c. text_at names c.spot) (plain_class names exprs) classes
