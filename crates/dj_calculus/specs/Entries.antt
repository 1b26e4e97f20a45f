-- The entry of a table that a declaration makes.
use Rattle.std.specs.Prelude.{Bool, true, false, ◌&&◌, List, [], ◌∷◌, map, Option, Some, None, codes}
use Rattle.std.specs.List.{list_any}
use Rattle.std.specs.Str.{bytes_eq}
use Rattle.std.specs.FinMap.{from_entries}
use Rattle.arena_walk.specs.Tree.{nodes}
use Rattle.dj_tree.specs.Trees.{Spot, Expr, ExprForm, OriginalForm, Field, Method, Class}
use Rattle.dj_calculus.specs.Tables.{FieldEntry, Signature, Body, MethodEntry, ClassEntry}

abbrev pub field_entry : Field → FieldEntry
field_entry f = record { at = f.name.at; kind = f.kind }

abbrev pub signature_of : Method → Signature
signature_of m = record { parameters = map (λ p. p.kind) m.parameters; result = m.kind }

abbrev pub body_of : Method → Body
body_of m = record { names = map (λ p. p.name) m.parameters; value = m.body }

abbrev pub method_entry : Method → MethodEntry
method_entry m = record { at = m.name.at; signature = signature_of m; bodies = body_of m ∷ [] }

-- An omitted superclass is `Object`, at the place of the class name.
abbrev pub superclass_of : Spot → Option Spot → Spot
superclass_of name None = record { text = codes "Object"; at = name.at }
superclass_of name (Some parent) = parent

abbrev pub class_entry : Class → ClassEntry
class_entry c =
    record {
      at = c.name.at;
      parent = superclass_of c.name c.parent;
      fields = from_entries (map (λ f. (f.name.text, field_entry f)) c.fields);
      methods = from_entries (map (λ m. (m.name.text, method_entry m)) c.methods);
    }

-- ---- signatures and bodies

abbrev pub same_types : List Spot → List Spot → Bool
same_types [] [] = true
same_types (x ∷ xs) (y ∷ ys) = bytes_eq x.text y.text && same_types xs ys
same_types xs ys = false

-- the same types, wherever they stand
abbrev pub same_signature : Signature → Signature → Bool
same_signature s t = same_types s.parameters t.parameters && bytes_eq s.result.text t.result.text

abbrev pub is_original : ExprForm → Bool
is_original (OriginalForm at) = true
is_original form = false

-- the expression says `original(..)` somewhere
abbrev pub says_original : Expr → Bool
says_original e = list_any is_original (nodes e)
