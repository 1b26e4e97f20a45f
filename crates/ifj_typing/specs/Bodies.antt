-- The rules of layer 5 in the bodies that a table keeps.
use Rattle.std.specs.Prelude.{◌≡◌, ℕ, length}
use Rattle.dj_names.specs.Texts.{Text}
use Rattle.dj_tree.specs.Trees.{Expr}
use Rattle.dj_tree.specs.declared.source.Instance.{Instance}
use Rattle.dj_calculus.specs.Tables as calculus
use Rattle.dj_calculus.specs.Subclasses.{Kind, class_kind, Below}
use Rattle.dj_calculus.specs.Typing.{Home, home_of, Types}
use Rattle.dj_calculus.specs.BodyRules.{place_of, BreaksWithin}
use Rattle.ifj_table.specs.Tables.{plain_table, table_names, table_nodes, table_classes}
use Rattle.ifj_table.specs.Entries.{text_at, plain_method, plain_body}
use Rattle.ifj_table.specs.declared.entry.Body.{Body}
use Rattle.ifj_table.specs.declared.entry.MethodEntry.{MethodEntry}
use Rattle.ifj_table.specs.declared.entry.ClassEntry.{ClassEntry}
use Rattle.ifj_table.specs.declared.table.Table.{Table}
use Rattle.ifj_typing.specs.Least.{Before, OfElement}

-- the body breaks the rule of this number, at this place
pub data BodyRule (t : calculus.Table) (home : Home) (e : Expr) : ℕ → ℕ → Type 0 where
  within : {rule at : ℕ} → BreaksWithin t home e rule at → BodyRule t home e rule at
  returned : (kind : Kind) → Types t home e kind → ¬ (Below t kind (class_kind home.heading.result)) → BodyRule t home e 21 (place_of e)

pub record BreaksBody (t : calculus.Table) (home : Home) (e : Expr) (i : Instance) : Type 0 where
  pub breaks : BodyRule t home e i.rule i.at
  pub one_place : i.second ≡ i.at

-- ---- the bodies of a table: of a method, of a class, and all of them

abbrev pub body_home : Table → Text → MethodEntry → Body → Home
body_home t class method body = home_of class (plain_method (table_names t) (table_nodes t) method) (plain_body (table_names t) (table_nodes t) body)

abbrev pub body_value : Table → Body → Expr
body_value t body = (plain_body (table_names t) (table_nodes t) body).value

abbrev pub BreaksBodyOf : Table → Text → MethodEntry → Body → Instance → Type 0
BreaksBodyOf t class method body = BreaksBody (plain_table t) (body_home t class method body) (body_value t body)

abbrev pub BreaksMethodOf : Table → Text → MethodEntry → Instance → Type 0
BreaksMethodOf t class method = Before (OfElement (BreaksBodyOf t class method) method.bodies.items) (length method.bodies.items)

abbrev pub BreaksClassOf : Table → ClassEntry → Instance → Type 0
BreaksClassOf t class = Before (OfElement (BreaksMethodOf t (text_at (table_names t) class.spot)) class.methods.items) (length class.methods.items)

abbrev pub BreaksBodies : Table → Instance → Type 0
BreaksBodies t = Before (OfElement (BreaksClassOf t) (table_classes t)) (length (table_classes t))
