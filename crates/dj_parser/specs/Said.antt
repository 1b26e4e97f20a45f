-- The texts that a source says: one for each name where it is said, and one for each node of a formula or an expression, empty where the node is no name.
-- Their number bounds the names and the nodes that the source needs.
use Rattle.std.specs.Prelude.{List, [], ◌∷◌, ◌++◌, Option, Some, None}
use Rattle.dj_names.specs.Texts.{Text}
use Rattle.arena_walk.specs.Tree.{Tree, Trees, branch, no_trees, tree_and}
use Rattle.dj_tree.specs.Trees.{Spot, Formula, FormulaForm, TrueForm, FalseForm, FeatureForm, NotForm, AndForm, OrForm, ImpliesForm, SameForm}
use Rattle.dj_tree.specs.Trees.{Expr, ExprForm, VariableForm, ThisForm, NullForm, FieldForm, CallForm, NewForm, CastForm, AssignForm, OriginalForm}
use Rattle.dj_tree.specs.Trees.{Field, Method, Class, MemberOperation, adds_field, adds_method, modifies_method, removes_field, removes_method, Change}
use Rattle.dj_tree.specs.Trees.{Operation, adds_class, modifies_class, removes_class, Delta, Item, Part, Source}

-- the texts of each thing of a list, one after the other
abbrev pub said_each : {X : Type 0} → (X → List Text) → List X → List Text
said_each said [] = []
said_each said (x ∷ xs) = said x ++ said_each said xs

abbrev pub said_spot : Spot → List Text
said_spot x = x.text ∷ []

abbrev pub said_optional : Option Spot → List Text
said_optional None = []
said_optional (Some x) = said_spot x

-- ---- formulas and expressions

-- the text of each node of a tree, in post-order
abbrev mutual
  pub said_tree : {N : Type 0} → (N → Text) → Tree N → List Text
  said_tree text (branch n kids) = said_trees text kids ++ text n ∷ []

  pub said_trees : {N : Type 0} → (N → Text) → Trees N → List Text
  said_trees text no_trees = []
  said_trees text (tree_and t kids) = said_tree text t ++ said_trees text kids

abbrev pub formula_text : FormulaForm → Text
formula_text TrueForm = []
formula_text FalseForm = []
formula_text (FeatureForm x) = x.text
formula_text NotForm = []
formula_text AndForm = []
formula_text OrForm = []
formula_text ImpliesForm = []
formula_text SameForm = []

abbrev pub expr_text : ExprForm → Text
expr_text (VariableForm x) = x.text
expr_text (ThisForm at) = []
expr_text (NullForm at) = []
expr_text (FieldForm f) = f.text
expr_text (CallForm m) = m.text
expr_text (NewForm c) = c.text
expr_text (CastForm c) = c.text
expr_text (AssignForm f) = f.text
expr_text (OriginalForm at) = []

abbrev pub said_formula : Formula → List Text
said_formula a = said_tree formula_text a

abbrev pub said_expr : Expr → List Text
said_expr e = said_tree expr_text e

-- ---- classes

abbrev pub said_field : Field → List Text
said_field f = said_spot f.kind ++ said_spot f.name

abbrev pub said_method : Method → List Text
said_method m = said_spot m.kind ++ (said_spot m.name ++ (said_each said_field m.parameters ++ said_expr m.body))

abbrev pub said_class : Class → List Text
said_class c = said_spot c.name ++ (said_optional c.parent ++ (said_each said_field c.fields ++ said_each said_method c.methods))

-- ---- deltas

abbrev pub said_member : MemberOperation → List Text
said_member (adds_field f) = said_field f
said_member (adds_method m) = said_method m
said_member (modifies_method m) = said_method m
said_member (removes_field f) = said_spot f
said_member (removes_method m) = said_spot m

abbrev pub said_change : Change → List Text
said_change c = said_spot c.name ++ (said_optional c.parent ++ said_each said_member c.members)

abbrev pub said_operation : Operation → List Text
said_operation (adds_class c) = said_class c
said_operation (modifies_class c) = said_change c
said_operation (removes_class c) = said_spot c

abbrev pub said_delta : Delta → List Text
said_delta d = said_spot d.name ++ said_each said_operation d.operations

-- ---- lines

abbrev pub said_condition : Option Formula → List Text
said_condition None = []
said_condition (Some a) = said_formula a

abbrev pub said_item : Item → List Text
said_item i = said_spot i.delta ++ said_condition i.condition

abbrev pub said_part : Part → List Text
said_part p = said_spot p.name ++ (said_optional p.after ++ said_each said_item p.items)

abbrev pub said_source : Source → List Text
said_source s =
    said_spot s.title
    ++ (said_each said_spot s.features ++ (said_formula s.valid ++ (said_each said_part s.parts ++ said_each said_delta s.deltas)))
