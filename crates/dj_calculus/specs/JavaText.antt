-- The canonical Java text of a table: a function of the map. It is meant for flat tables. Of others, which say `original` or have methods
-- of several bodies, nothing is claimed.
use Rattle.std.specs.Prelude.{List, [], ◌∷◌, ◌++◌, Bool, true, false, ◌||◌, map, codes, if◌then◌else◌}
use Rattle.std.specs.List.{flat_map, zip}
use Rattle.std.specs.FinMap.{entries}
use Rattle.dj_names.specs.Texts.{Text}
use Rattle.arena_walk.specs.Tree.{fold_tree}
use Rattle.dj_tree.specs.Trees.{Spot, Expr, ExprForm, VariableForm, ThisForm, NullForm, FieldForm, CallForm, NewForm, CastForm, AssignForm, OriginalForm}
use Rattle.dj_calculus.specs.Tables.{FieldEntry, Signature, Body, MethodEntry, ClassEntry, Table}

-- ---- expressions

-- the text of an expression, and the form of its root
pub record Written : Type 0 where
  pub form : ExprForm
  pub text : Text

abbrev pub is_cast : ExprForm → Bool
is_cast (CastForm d) = true
is_cast form = false

abbrev pub is_assignment : ExprForm → Bool
is_assignment (AssignForm f) = true
is_assignment form = false

abbrev pub in_parentheses : Text → Text
in_parentheses text = codes "(" ++ text ++ codes ")"

-- a receiver, in parentheses where it is a cast or an assignment
abbrev pub receiver : Written → Text
receiver e = if is_cast e.form || is_assignment e.form then in_parentheses e.text else e.text

-- what a cast is of, in parentheses where it is an assignment
abbrev pub operand : Written → Text
operand e = if is_assignment e.form then in_parentheses e.text else e.text

-- texts with a comma and a space between each two
abbrev pub listed : List Text → Text
listed [] = []
listed (text ∷ []) = text
listed (text ∷ other ∷ rest) = text ++ (codes ", " ++ listed (other ∷ rest))

abbrev pub arguments_text : List Written → Text
arguments_text arguments = in_parentheses (listed (map (λ e. e.text) arguments))

-- an expression has no node with another number of parts
abbrev pub text_over : ExprForm → List Written → Text
text_over (VariableForm x) [] = x.text
text_over (ThisForm at) [] = codes "this"
text_over (NullForm at) [] = codes "null"
text_over (FieldForm f) (e ∷ []) = receiver e ++ (codes "." ++ f.text)
text_over (CallForm m) (e ∷ arguments) = receiver e ++ (codes "." ++ (m.text ++ arguments_text arguments))
text_over (NewForm c) [] = codes "new " ++ (c.text ++ codes "()")
text_over (CastForm d) (e ∷ []) = in_parentheses d.text ++ (codes " " ++ operand e)
text_over (AssignForm f) (e ∷ v ∷ []) = receiver e ++ (codes "." ++ (f.text ++ (codes " = " ++ v.text)))
text_over (OriginalForm at) arguments = codes "original" ++ arguments_text arguments
text_over form parts = []

abbrev pub written_over : ExprForm → List Written → Written
written_over form parts = record { form = form; text = text_over form parts }

abbrev pub expression_text : Expr → Text
expression_text e = (fold_tree written_over e).text

-- ---- classes

-- a text as a line, which ends with LF
abbrev pub line : Text → Text
line text = text ++ 10 ∷ []

abbrev pub field_text : Text × FieldEntry → Text
field_text entry = line (codes "  " ++ (entry.1.kind.text ++ (codes " " ++ (entry.0 ++ codes ";"))))

-- a parameter: its type and its name
abbrev pub parameter_text : Spot × Spot → Text
parameter_text parameter = parameter.0.text ++ (codes " " ++ parameter.1.text)

abbrev pub head_text : Text → Signature → List Spot → Text
head_text m signature names =
    codes "  " ++ (signature.result.text ++ (codes " " ++ (m ++ (in_parentheses (listed (map parameter_text (zip signature.parameters names))) ++ codes " {"))))

abbrev pub body_text : Text → Signature → Body → Text
body_text m signature body =
    line (head_text m signature body.names) ++ (line (codes "    return " ++ (expression_text body.value ++ codes ";")) ++ line (codes "  }"))

-- a method, which has one body
abbrev pub method_text : Text × MethodEntry → Text
method_text entry = flat_map (body_text entry.0 entry.1.signature) entry.1.bodies

-- a class: its fields and then its methods, each by the bytes of their names
abbrev pub class_text : Text × ClassEntry → Text
class_text entry =
    line (codes "class " ++ (entry.0 ++ (codes " extends " ++ (entry.1.parent.text ++ codes " {"))))
    ++ (flat_map field_text (entries entry.1.fields) ++ (flat_map method_text (entries entry.1.methods) ++ line (codes "}")))

-- the classes by the bytes of their names
abbrev pub java_text : Table → Text
java_text t = flat_map class_text (entries t)
