-- What a value with names and nodes by number stands for.
use Rattle.std.specs.Prelude.{◌≡◌, ◌<◌, ℕ, List, Option, All, IfSome, map, length}
use Rattle.std.specs.Option.{option_map}
use Rattle.arena_walk.specs.declared.arena.NodeId.{NodeId}
use Rattle.dj_tree.specs.Trees as plain
use Rattle.dj_tree.specs.Plain.{plain_spot, plain_formula, plain_expr, plain_field, plain_method, plain_class, plain_member, plain_change, plain_operation, plain_delta, plain_item, plain_part}
use Rattle.dj_tree.specs.WellFormed.{IsKnown, IsField, IsMethod, IsClass, IsMember, IsChange, IsOperation, IsDelta, IsItem, IsPart}
use Rattle.dj_tree.specs.declared.declarations.Spot.{Spot}
use Rattle.dj_tree.specs.declared.declarations.FieldDecl.{FieldDecl}
use Rattle.dj_tree.specs.declared.declarations.Method.{Method}
use Rattle.dj_tree.specs.declared.declarations.ClassDecl.{ClassDecl}
use Rattle.dj_tree.specs.declared.declarations.MemberOp.{MemberOp}
use Rattle.dj_tree.specs.declared.declarations.ClassChange.{ClassChange}
use Rattle.dj_tree.specs.declared.declarations.ClassOp.{ClassOp}
use Rattle.dj_tree.specs.declared.declarations.DeltaDecl.{DeltaDecl}
use Rattle.dj_tree.specs.declared.declarations.Item.{Item}
use Rattle.dj_tree.specs.declared.declarations.PartDecl.{PartDecl}
use Rattle.dj_declarations.specs.View.{spot_at, member_op_view}
use Rattle.dj_declarations.specs.declared.raw.RawChange.{RawChange}
use Rattle.dj_parser.specs.declared.tables.Tables.{Tables}

-- the value stands for x, and is well formed
pub record Stands {A X : Type 0} (plain_of : A → X) (IsWell : A → Type 0) (value : A) (x : X) : Type 0 where
  pub same : plain_of value ≡ x
  pub well : IsWell value

-- all values of a list, and the value of an option, stand for what they are to stand for
abbrev pub StandEach : {A X : Type 0} → (A → X) → (A → Type 0) → List A → List X → Type 0
StandEach plain_of IsWell values xs = Stands (map plain_of) (All IsWell) values xs

abbrev pub StandsOptional : {A X : Type 0} → (A → X) → (A → Type 0) → Option A → Option X → Type 0
StandsOptional plain_of IsWell value x = Stands (option_map plain_of) (λ o. IfSome o IsWell) value x

abbrev pub IsSpotFor : Tables → Spot → plain.Spot → Type 0
IsSpotFor t value x = Stands (plain_spot t.names) (IsKnown t.names) value x

abbrev pub IsExprFor : Tables → NodeId → plain.Expr → Type 0
IsExprFor t value x = Stands (λ root. plain_expr t.names t.exprs root.0) (λ root. root.0 < length t.exprs) value x

abbrev pub IsFormulaFor : Tables → NodeId → plain.Formula → Type 0
IsFormulaFor t value x = Stands (λ root. plain_formula t.names t.formulas root.0) (λ root. root.0 < length t.formulas) value x

abbrev pub IsFieldFor : Tables → FieldDecl → plain.Field → Type 0
IsFieldFor t value x = Stands (plain_field t.names) (IsField t.names) value x

abbrev pub IsMethodFor : Tables → Method → plain.Method → Type 0
IsMethodFor t value x = Stands (plain_method t.names t.exprs) (IsMethod t.names t.exprs) value x

abbrev pub IsClassFor : Tables → ClassDecl → plain.Class → Type 0
IsClassFor t value x = Stands (plain_class t.names t.exprs) (IsClass t.names t.exprs) value x

abbrev pub IsMemberFor : Tables → MemberOp → plain.MemberOperation → Type 0
IsMemberFor t value x = Stands (plain_member t.names t.exprs) (IsMember t.names t.exprs) value x

abbrev pub IsChangeFor : Tables → ClassChange → plain.Change → Type 0
IsChangeFor t value x = Stands (plain_change t.names t.exprs) (IsChange t.names t.exprs) value x

abbrev pub IsOperationFor : Tables → ClassOp → plain.Operation → Type 0
IsOperationFor t value x = Stands (plain_operation t.names t.exprs) (IsOperation t.names t.exprs) value x

abbrev pub IsDeltaFor : Tables → DeltaDecl → plain.Delta → Type 0
IsDeltaFor t value x = Stands (plain_delta t.names t.exprs) (IsDelta t.names t.exprs) value x

abbrev pub IsItemFor : Tables → Item → plain.Item → Type 0
IsItemFor t value x = Stands (plain_item t.names t.formulas) (IsItem t.names t.formulas) value x

abbrev pub IsPartFor : Tables → PartDecl → plain.Part → Type 0
IsPartFor t value x = Stands (plain_part t.names t.formulas) (IsPart t.names t.formulas) value x

-- values in lists and options
abbrev pub IsOptionalFor : Tables → Option Spot → Option plain.Spot → Type 0
IsOptionalFor t value x = StandsOptional (plain_spot t.names) (IsKnown t.names) value x

abbrev pub IsConditionFor : Tables → Option NodeId → Option plain.Formula → Type 0
IsConditionFor t value x = StandsOptional (λ root. plain_formula t.names t.formulas root.0) (λ root. root.0 < length t.formulas) value x

abbrev pub AreFieldsFor : Tables → List FieldDecl → List plain.Field → Type 0
AreFieldsFor t values xs = StandEach (plain_field t.names) (IsField t.names) values xs

abbrev pub AreMethodsFor : Tables → List Method → List plain.Method → Type 0
AreMethodsFor t values xs = StandEach (plain_method t.names t.exprs) (IsMethod t.names t.exprs) values xs

-- the change of a class that its tokens stand for
abbrev pub plain_change_view : List ℕ → RawChange → plain.Change
plain_change_view bytes c = record { name = spot_at bytes c.name; parent = option_map (spot_at bytes) c.parent; members = map (member_op_view bytes) c.members.items }
