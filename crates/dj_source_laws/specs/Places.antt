-- The token that says a thing.
use Rattle.std.specs.Prelude.{ℕ, codes}
use Rattle.arena_walk.specs.Tree.{root_of}
use Rattle.dj_lexer.specs.Symbols.{Symbol}
use Rattle.dj_tree.specs.Words.{word, named}
use Rattle.dj_tree.specs.Trees.{Spot, ExprForm, VariableForm, ThisForm, NullForm, FieldForm, CallForm, NewForm, CastForm, AssignForm, OriginalForm, Expr}
use Rattle.dj_tree.specs.Trees.{MemberOperation, adds_field, adds_method, modifies_method, removes_field, removes_method, Operation, adds_class, Source}
use Rattle.dj_calculus.specs.Contents.{class_name}
use Rattle.dj_source_laws.specs.Said.{MemberSaid, member_name, member_type, parameter_name, parameter_type, body_node}
use Rattle.dj_source_laws.specs.Said.{OperationSaid, its_class, its_parent, in_member}
use Rattle.dj_source_laws.specs.Said.{Said, the_title, a_feature, in_valid, a_part, its_after, an_item, in_condition, a_delta, in_delta, JavaSaid}

-- a node of an expression: its keyword or its name
abbrev pub token_of_form : ExprForm → Symbol
token_of_form (VariableForm x) = named x
token_of_form (ThisForm at) = word (codes "this") at
token_of_form (NullForm at) = word (codes "null") at
token_of_form (FieldForm f) = named f
token_of_form (CallForm m) = named m
token_of_form (NewForm c) = named c
token_of_form (CastForm c) = named c
token_of_form (AssignForm f) = named f
token_of_form (OriginalForm at) = word (codes "original") at

abbrev pub token_of_node : Expr → Symbol
token_of_node e = token_of_form (root_of e)

-- the name of the member that an operation is on
abbrev pub member_spot : MemberOperation → Spot
member_spot (adds_field f) = f.name
member_spot (adds_method m) = m.name
member_spot (modifies_method m) = m.name
member_spot (removes_field f) = f
member_spot (removes_method m) = m

abbrev pub token_in_member : MemberOperation → MemberSaid → Symbol
token_in_member m member_name = named (member_spot m)
token_in_member m (member_type kind) = named kind
token_in_member m (parameter_name p) = named p.name
token_in_member m (parameter_type p) = named p.kind
token_in_member m (body_node e) = token_of_node e

abbrev pub token_in : Operation → OperationSaid → Symbol
token_in o its_class = named (class_name o)
token_in o (its_parent parent) = named parent
token_in o (in_member m what) = token_in_member m what

abbrev pub token_of : Source → Said → Symbol
token_of source the_title = named source.title
token_of source (a_feature x) = named x
token_of source (in_valid x) = named x
token_of source (a_part p) = named p.name
token_of source (its_after p x) = named x
token_of source (an_item p i) = named i.delta
token_of source (in_condition p i x) = named x
token_of source (a_delta d) = named d.name
token_of source (in_delta d o what) = token_in o what

abbrev pub place_of : Source → Said → ℕ
place_of source what = (token_of source what).at

abbrev pub token_in_java : JavaSaid → Symbol
token_in_java it = token_in (adds_class it.class) it.what

abbrev pub place_in_java : JavaSaid → ℕ
place_in_java it = (token_in_java it).at
