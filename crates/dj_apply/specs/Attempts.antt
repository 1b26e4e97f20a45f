-- Rules that operations break one after the other, as instances.
use Rattle.std.specs.Prelude.{◌≡◌, List, Contains, map}
use Rattle.dj_names.specs.Texts.{Text}
use Rattle.dj_tree.specs.Trees.{Operation}
use Rattle.dj_tree.specs.Plain.{plain_operation}
use Rattle.dj_tree.specs.declared.expression.ExprNode.{ExprNode}
use Rattle.dj_tree.specs.declared.source.Instance.{Instance}
use Rattle.dj_calculus.specs.Tables.{Table}
use Rattle.dj_product_laws.specs.Passes.{met}
use Rattle.dj_apply.specs.declared.attempts.NamedOperation.{NamedOperation}

-- the instance's rule is met at its place, which is its second place too, where these operations are attempted one after the other
abbrev pub IsMet : List Operation → Table → Instance → Type 0
IsMet xs t i = Contains (met xs t) (i.rule, i.at) × (i.second ≡ i.at)

abbrev pub plain_operations : List Text → List ExprNode → List NamedOperation → List Operation
plain_operations names exprs operations = map (λ x. plain_operation names exprs x.operation.now) operations
