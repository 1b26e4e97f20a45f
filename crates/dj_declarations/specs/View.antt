-- What declarations as tokens stand for, in a text.
use Rattle.std.specs.Prelude.{ℕ, List, map}
use Rattle.std.specs.Option.{option_map}
use Rattle.std.specs.Global.{Vec}
use Rattle.dj_lexer.specs.Symbols.{symbol_of}
use Rattle.dj_lexer.specs.declared.token.Token.{Token}
use Rattle.dj_tree.specs.Trees.{Spot, Formula, Expr, Field, Method, Class, MemberOperation, modifies_method, removes_field, removes_method}
use Rattle.dj_tree.specs.Trees.{Operation, adds_class, modifies_class, removes_class, Delta, Item, Part, Source}
use Rattle.dj_tree.specs.ClassGrammar.{Member, field_member, method_member, fields_of, methods_of}
use Rattle.dj_tree.specs.LineGrammar.{adds_member}
use Rattle.dj_reader.specs.Terminals.{spot_of}
use Rattle.dj_formula_reader.specs.declared.machine.FormulaMark.{FormulaMark}
use Rattle.dj_formula_reader.specs.Laws.{formula_of}
use Rattle.dj_formula_reader.specs.View.{forms_of}
use Rattle.dj_expr_reader.specs.declared.machine.ExprMark.{ExprMark}
use Rattle.dj_expr_reader.specs.Marks.{expr_of}
use Rattle.dj_expr_reader.specs.View.{plain_marks}
use Rattle.dj_declarations.specs.Readings.{method_of}
use Rattle.dj_declarations.specs.declared.raw.RawField.{RawField}
use Rattle.dj_declarations.specs.declared.raw.RawMethod.{RawMethod}
use Rattle.dj_declarations.specs.declared.raw.RawMember.{RawMember}
use Rattle.dj_declarations.specs.declared.raw.RawMember.TheVariants as raw_member
use Rattle.dj_declarations.specs.declared.raw.RawClass.{RawClass}
use Rattle.dj_declarations.specs.declared.raw.RawMemberOp.{RawMemberOp}
use Rattle.dj_declarations.specs.declared.raw.RawMemberOp.TheVariants as raw_op
use Rattle.dj_declarations.specs.declared.raw.RawChange.{RawChange}
use Rattle.dj_declarations.specs.declared.raw.RawClassOp.{RawClassOp}
use Rattle.dj_declarations.specs.declared.raw.RawClassOp.TheVariants as raw_class_op
use Rattle.dj_declarations.specs.declared.raw.RawDelta.{RawDelta}
use Rattle.dj_declarations.specs.declared.raw.RawItem.{RawItem}
use Rattle.dj_declarations.specs.declared.raw.RawPart.{RawPart}
use Rattle.dj_declarations.specs.declared.raw.RawSource.{RawSource}

-- ---- views

abbrev pub spot_at : List ℕ → Token → Spot
spot_at bytes token = spot_of (symbol_of bytes token)

abbrev pub formula_view : List ℕ → List FormulaMark → Formula
formula_view bytes marks = formula_of (forms_of bytes marks)

abbrev pub expr_view : List ℕ → List ExprMark → Expr
expr_view bytes marks = expr_of (plain_marks bytes marks)

abbrev pub field_view : List ℕ → RawField → Field
field_view bytes f = record { kind = spot_at bytes f.kind; name = spot_at bytes f.name }

-- the parameters and the body of a method
abbrev pub rest_view : List ℕ → Vec RawField × List ExprMark → List Field × Expr
rest_view bytes rest = (map (field_view bytes) rest.0.items, expr_view bytes rest.1)

abbrev pub method_view : List ℕ → RawMethod → Method
method_view bytes m = method_of (field_view bytes m.declared) (map (field_view bytes) m.parameters.items, expr_view bytes m.body)

abbrev pub member_view : List ℕ → RawMember → Member
member_view bytes (raw_member.Field f) = field_member (field_view bytes f)
member_view bytes (raw_member.Method m) = method_member (method_view bytes m)

abbrev pub class_view : List ℕ → RawClass → Class
class_view bytes c =
    record {
      name = spot_at bytes c.name;
      parent = option_map (spot_at bytes) c.parent;
      fields = fields_of (map (member_view bytes) c.members.items);
      methods = methods_of (map (member_view bytes) c.members.items);
    }

abbrev pub member_op_view : List ℕ → RawMemberOp → MemberOperation
member_op_view bytes (raw_op.Adds m) = adds_member (member_view bytes m)
member_op_view bytes (raw_op.Modifies m) = modifies_method (method_view bytes m)
member_op_view bytes (raw_op.RemovesField f) = removes_field (spot_at bytes f)
member_op_view bytes (raw_op.RemovesMethod m) = removes_method (spot_at bytes m)

abbrev pub change_view : List ℕ → RawChange → Operation
change_view bytes c =
    modifies_class (record { name = spot_at bytes c.name; parent = option_map (spot_at bytes) c.parent; members = map (member_op_view bytes) c.members.items })

abbrev pub class_op_view : List ℕ → RawClassOp → Operation
class_op_view bytes (raw_class_op.Adds c) = adds_class (class_view bytes c)
class_op_view bytes (raw_class_op.Modifies c) = change_view bytes c
class_op_view bytes (raw_class_op.Removes c) = removes_class (spot_at bytes c)

abbrev pub delta_view : List ℕ → RawDelta → Delta
delta_view bytes d = record { name = spot_at bytes d.name; operations = map (class_op_view bytes) d.ops.items }

abbrev pub item_view : List ℕ → RawItem → Item
item_view bytes i = record { delta = spot_at bytes i.delta; condition = option_map (formula_view bytes) i.when }

abbrev pub part_view : List ℕ → RawPart → Part
part_view bytes p =
    record { name = spot_at bytes p.name; after = option_map (spot_at bytes) p.after; items = map (item_view bytes) p.items.items }

abbrev pub source_view : List ℕ → RawSource → Source
source_view bytes s =
    record {
      title = spot_at bytes s.title;
      features = map (spot_at bytes) s.features.items;
      valid = formula_view bytes s.valid;
      parts = map (part_view bytes) s.parts.items;
      deltas = map (delta_view bytes) s.deltas.items;
    }
