-- The plain tree of a value of the code: the text in place of a name's number, and the tree in place of a node's number. It says
-- what a value stands for where the value is well formed, that is, each number is in range.
use Rattle.std.specs.Prelude.{ℕ, List, [], map, slice_get, unwrap_or}
use Rattle.std.specs.Option.{option_map}
use Rattle.dj_names.specs.Texts.{Text}
use Rattle.arena_walk.specs.Tree.{Tree, over, fold_tree}
use Rattle.arena_walk.specs.Forest.{tree_at}
use Rattle.dj_tree.specs.Arities.{formula_arity, expr_arity}
use Rattle.dj_tree.specs.Trees as plain
use Rattle.dj_tree.specs.Trees.{FormulaForm, TrueForm, FalseForm, FeatureForm, NotForm, AndForm, OrForm, ImpliesForm, SameForm}
use Rattle.dj_tree.specs.Trees.{ExprForm, VariableForm, ThisForm, NullForm, FieldForm, CallForm, NewForm, CastForm, AssignForm, OriginalForm}
use Rattle.dj_tree.specs.declared.declarations.Spot.{Spot}
use Rattle.dj_tree.specs.declared.declarations.FieldDecl.{FieldDecl}
use Rattle.dj_tree.specs.declared.declarations.Method.{Method}
use Rattle.dj_tree.specs.declared.declarations.ClassDecl.{ClassDecl}
use Rattle.dj_tree.specs.declared.declarations.MemberOp.{MemberOp}
use Rattle.dj_tree.specs.declared.declarations.MemberOp.TheVariants.{AddsField, AddsMethod, ModifiesMethod, RemovesField, RemovesMethod}
use Rattle.dj_tree.specs.declared.declarations.ClassChange.{ClassChange}
use Rattle.dj_tree.specs.declared.declarations.ClassOp.{ClassOp}
use Rattle.dj_tree.specs.declared.declarations.ClassOp.TheVariants.{Adds, Modifies, Removes}
use Rattle.dj_tree.specs.declared.declarations.DeltaDecl.{DeltaDecl}
use Rattle.dj_tree.specs.declared.declarations.Item.{Item}
use Rattle.dj_tree.specs.declared.declarations.PartDecl.{PartDecl}
use Rattle.dj_tree.specs.declared.source.Source.{Source}
use Rattle.dj_tree.specs.declared.source.JavaSource.{JavaSource}
use Rattle.dj_tree.specs.declared.formula.FormulaNode.{FormulaNode}
use Rattle.dj_tree.specs.declared.formula.FormulaNode.TheVariants.{True, False, Feature, Not, And, Or, Implies, Same}
use Rattle.dj_tree.specs.declared.expression.ExprNode.{ExprNode}
use Rattle.dj_tree.specs.declared.expression.ExprNode.TheVariants.{Variable, This, Null, Field, Call, New, Cast, Assign, Original}

abbrev pub plain_spot : List Text → Spot → plain.Spot
plain_spot names spot = record { text = unwrap_or (slice_get names spot.name.0) []; at = spot.at }

abbrev pub formula_form : List Text → FormulaNode → FormulaForm
formula_form names True = TrueForm
formula_form names False = FalseForm
formula_form names (Feature x) = FeatureForm (plain_spot names x)
formula_form names Not = NotForm
formula_form names And = AndForm
formula_form names Or = OrForm
formula_form names Implies = ImpliesForm
formula_form names Same = SameForm

-- The number of arguments is left out, since the parts tell it.
abbrev pub expr_form : List Text → ExprNode → ExprForm
expr_form names (Variable x) = VariableForm (plain_spot names x)
expr_form names (This at) = ThisForm at
expr_form names (Null at) = NullForm at
expr_form names (Field f) = FieldForm (plain_spot names f)
expr_form names (Call m arguments) = CallForm (plain_spot names m)
expr_form names (New c) = NewForm (plain_spot names c)
expr_form names (Cast c) = CastForm (plain_spot names c)
expr_form names (Assign f) = AssignForm (plain_spot names f)
expr_form names (Original at arguments) = OriginalForm at

-- the tree of a tree's nodes, each in its plain form
abbrev pub in_form : {N F : Type 0} → (N → F) → Tree N → Tree F
in_form form tree = fold_tree (λ n parts. over (form n) parts) tree

abbrev pub plain_formula : List Text → List FormulaNode → ℕ → plain.Formula
plain_formula names formulas root = unwrap_or (option_map (in_form (formula_form names)) (tree_at formula_arity formulas root)) plain.always

abbrev pub plain_expr : List Text → List ExprNode → ℕ → plain.Expr
plain_expr names exprs root = unwrap_or (option_map (in_form (expr_form names)) (tree_at expr_arity exprs root)) (plain.null_at 0)

abbrev pub plain_field : List Text → FieldDecl → plain.Field
plain_field names f = record { kind = plain_spot names f.kind; name = plain_spot names f.spot }

abbrev pub plain_method : List Text → List ExprNode → Method → plain.Method
plain_method names exprs m =
    record {
      kind = plain_spot names m.result;
      name = plain_spot names m.spot;
      parameters = map (plain_field names) m.parameters;
      body = plain_expr names exprs m.body.0;
    }

abbrev pub plain_class : List Text → List ExprNode → ClassDecl → plain.Class
plain_class names exprs c =
    record {
      name = plain_spot names c.spot;
      parent = option_map (plain_spot names) c.parent;
      fields = map (plain_field names) c.fields;
      methods = map (plain_method names exprs) c.methods;
    }

abbrev pub plain_member : List Text → List ExprNode → MemberOp → plain.MemberOperation
plain_member names exprs (AddsField f) = plain.adds_field (plain_field names f)
plain_member names exprs (AddsMethod m) = plain.adds_method (plain_method names exprs m)
plain_member names exprs (ModifiesMethod m) = plain.modifies_method (plain_method names exprs m)
plain_member names exprs (RemovesField f) = plain.removes_field (plain_spot names f)
plain_member names exprs (RemovesMethod m) = plain.removes_method (plain_spot names m)

abbrev pub plain_change : List Text → List ExprNode → ClassChange → plain.Change
plain_change names exprs c =
    record {
      name = plain_spot names c.spot;
      parent = option_map (plain_spot names) c.parent;
      members = map (plain_member names exprs) c.members;
    }

abbrev pub plain_operation : List Text → List ExprNode → ClassOp → plain.Operation
plain_operation names exprs (Adds c) = plain.adds_class (plain_class names exprs c)
plain_operation names exprs (Modifies c) = plain.modifies_class (plain_change names exprs c)
plain_operation names exprs (Removes c) = plain.removes_class (plain_spot names c)

abbrev pub plain_delta : List Text → List ExprNode → DeltaDecl → plain.Delta
plain_delta names exprs d = record { name = plain_spot names d.spot; operations = map (plain_operation names exprs) d.ops }

abbrev pub plain_item : List Text → List FormulaNode → Item → plain.Item
plain_item names formulas i =
    record { delta = plain_spot names i.delta; condition = option_map (λ root. plain_formula names formulas root.0) i.when }

abbrev pub plain_part : List Text → List FormulaNode → PartDecl → plain.Part
plain_part names formulas p =
    record { name = plain_spot names p.spot; after = option_map (plain_spot names) p.after; items = map (plain_item names formulas) p.items }

abbrev pub plain_source : Source → plain.Source
plain_source s =
    record {
      title = plain_spot s.names s.title;
      features = map (plain_spot s.names) s.features;
      valid = plain_formula s.names s.formulas s.valid.0;
      parts = map (plain_part s.names s.formulas) s.parts;
      deltas = map (plain_delta s.names s.exprs) s.deltas;
    }

abbrev pub plain_java : JavaSource → List plain.Class
plain_java s = map (plain_class s.names s.exprs) s.classes
