-- Declarations by their names, and what becomes of them in a table.
use Rattle.std.specs.Prelude.{◌≢◌, ℕ, List, map, All}
use Rattle.std.specs.FinMap.{from_entries}
use Rattle.dj_names.specs.Texts.{Text}
use Rattle.dj_tree.specs.Trees.{Spot, Field, Method}
use Rattle.dj_tree.specs.Plain.{plain_spot, plain_field, plain_method}
use Rattle.dj_tree.specs.WellFormed.{IsClass}
use Rattle.dj_tree.specs.declared.declarations.ClassDecl.{ClassDecl}
use Rattle.dj_tree.specs.declared.expression.ExprNode.{ExprNode}
use Rattle.dj_calculus.specs.Entries.{field_entry, method_entry}
use Rattle.dj_calculus.specs.Expressions.{IsExpression}
use Rattle.dj_calculus.specs.FaultPlaces.{Repeats}
use Rattle.dj_calculus.specs.Subclasses.{object}
use Rattle.dj_calculus.specs.Tables.{ClassEntry}
use Rattle.java_reader.specs.declared.named.Named.{Named}

-- the declarations themselves
abbrev pub declared : {D : Type 0} → List (Named D) → List D
declared sorted = map (λ n. n.declaration.now) sorted

-- no name stands twice
abbrev pub StandOnce : List Spot → Type 0
StandOnce names = (at : ℕ) → ¬ (Repeats names at)

-- the class with these fields, and with these methods, in place of its own
abbrev pub with_fields : List Field → ClassEntry → ClassEntry
with_fields fields c = record c { fields = from_entries (map (λ f. (f.name.text, field_entry f)) fields) }

abbrev pub with_methods : List Method → ClassEntry → ClassEntry
with_methods methods c = record c { methods = from_entries (map (λ m. (m.name.text, method_entry m)) methods) }

-- a class that can be put into a table: its names and nodes are there, it isn't `Object`, none of its fields or methods stands twice, and its bodies
-- are expressions
pub record IsReady (names : List Text) (exprs : List ExprNode) (c : ClassDecl) : Type 0 where
  pub known : IsClass names exprs c
  pub declarable : (plain_spot names c.spot).text ≢ object
  pub fields : StandOnce (map (λ f. f.name) (map (plain_field names) c.fields))
  pub methods : StandOnce (map (λ m. m.name) (map (plain_method names exprs) c.methods))
  pub bodies : All (λ m. IsExpression (plain_method names exprs m).body) c.methods
