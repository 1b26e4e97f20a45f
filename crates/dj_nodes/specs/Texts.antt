-- What holds of the text of each name in a formula and in an expression.
use Rattle.dj_names.specs.Texts.{Text}
use Rattle.arena_walk.specs.Tree.{root_of, EachNode}
use Rattle.dj_tree.specs.Trees.{Formula, FormulaForm, TrueForm, FalseForm, FeatureForm, NotForm, AndForm, OrForm, ImpliesForm, SameForm}
use Rattle.dj_tree.specs.Trees.{Expr, ExprForm, VariableForm, ThisForm, NullForm, FieldForm, CallForm, NewForm, CastForm, AssignForm, OriginalForm}

-- P holds of the text of the name that the node says, where it says one
abbrev pub FormulaFormText : (Text → Type 0) → FormulaForm → Type 0
FormulaFormText P TrueForm = Unit {0}
FormulaFormText P FalseForm = Unit {0}
FormulaFormText P (FeatureForm x) = P x.text
FormulaFormText P NotForm = Unit {0}
FormulaFormText P AndForm = Unit {0}
FormulaFormText P OrForm = Unit {0}
FormulaFormText P ImpliesForm = Unit {0}
FormulaFormText P SameForm = Unit {0}

abbrev pub ExprFormText : (Text → Type 0) → ExprForm → Type 0
ExprFormText P (VariableForm x) = P x.text
ExprFormText P (ThisForm at) = Unit {0}
ExprFormText P (NullForm at) = Unit {0}
ExprFormText P (FieldForm f) = P f.text
ExprFormText P (CallForm m) = P m.text
ExprFormText P (NewForm class) = P class.text
ExprFormText P (CastForm class) = P class.text
ExprFormText P (AssignForm f) = P f.text
ExprFormText P (OriginalForm at) = Unit {0}

-- P holds of the text of each name in the tree
abbrev pub FormulaTexts : (Text → Type 0) → Formula → Type 0
FormulaTexts P a = EachNode (λ u _. FormulaFormText P (root_of u)) 0 a

abbrev pub ExprTexts : (Text → Type 0) → Expr → Type 0
ExprTexts P e = EachNode (λ u _. ExprFormText P (root_of u)) 0 e
