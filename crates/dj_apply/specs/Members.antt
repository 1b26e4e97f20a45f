-- Members of an operation, as the code lists them.
use Rattle.std.specs.Prelude.{List, map}
use Rattle.dj_names.specs.Texts.{Text}
use Rattle.dj_tree.specs.Trees.{MemberOperation, adds_field, adds_method, modifies_method, removes_field, removes_method}
use Rattle.dj_tree.specs.Plain.{plain_spot, plain_field, plain_method}
use Rattle.dj_tree.specs.WellFormed.{IsKnown, IsField, IsMethod}
use Rattle.dj_tree.specs.declared.expression.ExprNode.{ExprNode}
use Rattle.dj_apply.specs.declared.members.Member.{Member}
use Rattle.dj_apply.specs.declared.members.Member.TheVariants.{AddsField, AddsMethod, ModifiesMethod, RemovesField, RemovesMethod}
use Rattle.dj_apply.specs.declared.members.NamedMember.{NamedMember}

-- the operation on a member that it stands for
abbrev pub plain_taken : List Text → List ExprNode → Member → MemberOperation
plain_taken names exprs (AddsField f) = adds_field (plain_field names f.now)
plain_taken names exprs (AddsMethod m) = adds_method (plain_method names exprs m.now)
plain_taken names exprs (ModifiesMethod m) = modifies_method (plain_method names exprs m.now)
plain_taken names exprs (RemovesField f) = removes_field (plain_spot names f)
plain_taken names exprs (RemovesMethod m) = removes_method (plain_spot names m)

-- its names and nodes are there
abbrev pub IsTaken : List Text → List ExprNode → Member → Type 0
IsTaken names exprs (AddsField f) = IsField names f.now
IsTaken names exprs (AddsMethod m) = IsMethod names exprs m.now
IsTaken names exprs (ModifiesMethod m) = IsMethod names exprs m.now
IsTaken names exprs (RemovesField f) = IsKnown names f
IsTaken names exprs (RemovesMethod m) = IsKnown names m

abbrev pub plain_members : List Text → List ExprNode → List NamedMember → List MemberOperation
plain_members names exprs members = map (λ m. plain_taken names exprs m.member) members
