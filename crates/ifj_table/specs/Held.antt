-- Which entries a table may keep.
use Rattle.std.proofs.Props.{props}
use Rattle.std.specs.Prelude.{◌≡◌, ◌<◌, ℕ, false, List, All, map, length}
use Rattle.std.specs.Str.{bytes_eq}
use Rattle.dj_names.specs.Texts.{Text}
use Rattle.dj_tree.specs.Plain.{plain_expr}
use Rattle.dj_tree.specs.Propositions.{IsExprNode-prop}
use Rattle.dj_tree.specs.WellFormed.{IsKnown, IsExprNode}
use Rattle.dj_tree.specs.declared.expression.ExprNode.{ExprNode}
use Rattle.dj_calculus.specs.Expressions.{IsExpression}
use Rattle.dj_calculus.specs.Subclasses.{object}
use Rattle.ifj_table.specs.Sorted.{AreRising}
use Rattle.ifj_table.specs.Entries.{text_at}
use Rattle.ifj_table.specs.declared.entry.FieldEntry.{FieldEntry}
use Rattle.ifj_table.specs.declared.entry.Body.{Body}
use Rattle.ifj_table.specs.declared.entry.MethodEntry.{MethodEntry}
use Rattle.ifj_table.specs.declared.entry.ClassEntry.{ClassEntry}

-- each name and node that an entry speaks of is there, each body is an expression with as many names as the signature has types, and each
-- method has a body
pub record IsFieldEntry (names : List Text) (f : FieldEntry) : Type 0 where
  pub spot : IsKnown names f.spot
  pub kind : IsKnown names f.kind

pub record IsBody (names : List Text) (exprs : List ExprNode) (types : ℕ) (b : Body) : Type 0 where
  pub parameters : All (IsKnown names) b.parameters
  pub count : length b.parameters ≡ types
  pub root : b.root.0 < length exprs
  pub expression : IsExpression (plain_expr names exprs b.root.0)

pub record IsMethodEntry (names : List Text) (exprs : List ExprNode) (m : MethodEntry) : Type 0 where
  pub spot : IsKnown names m.spot
  pub result : IsKnown names m.result
  pub parameters : All (IsKnown names) m.parameters
  pub some : 0 < length m.bodies.items
  pub bodies : All (IsBody names exprs (length m.parameters)) m.bodies.items

pub record IsClassEntry (names : List Text) (exprs : List ExprNode) (c : ClassEntry) : Type 0 where
  pub spot : IsKnown names c.spot
  pub parent : IsKnown names c.parent
  pub declarable : bytes_eq (text_at names c.spot) object ≡ false
  pub fields : All (IsFieldEntry names) c.fields.items
  pub rising_fields : AreRising (map (λ f. text_at names f.spot) c.fields.items)
  pub methods : All (IsMethodEntry names exprs) c.methods.items
  pub rising_methods : AreRising (map (λ m. text_at names m.spot) c.methods.items)

-- the classes of a table, each of which is one, in the order of their names
pub record AreClasses (names : List Text) (exprs : List ExprNode) (classes : List ClassEntry) : Type 0 where
  pub nodes : All (IsExprNode names) exprs
  pub each : All (IsClassEntry names exprs) classes
  pub rising : AreRising (map (λ c. text_at names c.spot) classes)

-- ---- these are propositions

IsBody-prop : (names : List Text) (exprs : List ExprNode) (types : ℕ) (b : Body) → IsProp (IsBody names exprs types b)
IsBody-prop names exprs types b = hlevel props

IsMethodEntry-prop : (names : List Text) (exprs : List ExprNode) (m : MethodEntry) → IsProp (IsMethodEntry names exprs m)
IsMethodEntry-prop names exprs m = hlevel (props, IsBody-prop)

IsClassEntry-prop : (names : List Text) (exprs : List ExprNode) (c : ClassEntry) → IsProp (IsClassEntry names exprs c)
IsClassEntry-prop names exprs c = hlevel (props, IsMethodEntry-prop)

pub AreClasses-prop : (names : List Text) (exprs : List ExprNode) (classes : List ClassEntry) → IsProp (AreClasses names exprs classes)
AreClasses-prop names exprs classes = hlevel (props, IsExprNode-prop, IsClassEntry-prop)
