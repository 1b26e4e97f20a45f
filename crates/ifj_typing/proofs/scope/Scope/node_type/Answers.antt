use Rattle.std.proofs.Common.{◌≡◌, ◌<◌, ◌∙◌, length, ap, sym, subst, arith}
use Rattle.std.proofs.lemmas.Option.{slice_get-get_or}
use Rattle.arena_walk.specs.Tree.{over}
use Rattle.dj_tree.specs.Arities.{expr_arity}
use Rattle.dj_tree.specs.Plain.{plain_spot, expr_form}
use Rattle.dj_tree.specs.Trees.{VariableForm, ThisForm, NullForm, FieldForm, CallForm, NewForm, CastForm, AssignForm}
use Rattle.dj_tree.specs.declared.expression.ExprNode.{ExprNode}
use Rattle.dj_calculus.specs.Typing.{type_of_this, type_of_null}
use Rattle.std.specs.declared.result.Result.TheVariants.{Ok}
use Rattle.ifj_typing.specs.declared.kind.Kind.TheVariants.{Null, Class}
use Rattle.ifj_typing.specs.Said.{SaysRoot}
use Rattle.ifj_typing.specs.Scopes.{scope_names, scope_table, scope_home}
use Rattle.ifj_typing.proofs.Shapes.{typed_behind, no_part, one_part, two_parts, first_part}
use Rattle.ifj_typing.proofs.scope.Scope.node_type.Goals as goal

pub kind_of-requires : goal.kind_of-requires
kind_of-requires c =
    let low : 0 < length c.args.parts.now = omega (arith, c.requires.arity, ap expr_arity c.in-Field.is) in
    c.requires.typed 0 _ (slice_get-get_or c.args.parts.now 0 _ low)

pub kind_of-requires-in-Call : goal.kind_of-requires-in-Call
kind_of-requires-in-Call c =
    let low : 0 < length c.args.parts.now = omega (arith, c.requires.arity, ap expr_arity c.in-Call.is) in
    c.requires.typed 0 _ (slice_get-get_or c.args.parts.now 0 _ low)

pub kind_of-requires-in-Cast : goal.kind_of-requires-in-Cast
kind_of-requires-in-Cast c =
    let low : 0 < length c.args.parts.now = omega (arith, c.requires.arity, ap expr_arity c.in-Cast.is) in
    c.requires.typed 0 _ (slice_get-get_or c.args.parts.now 0 _ low)

pub kind_of-requires-in-Assign : goal.kind_of-requires-in-Assign
kind_of-requires-in-Assign c =
    let low : 0 < length c.args.parts.now = omega (arith, c.requires.arity, ap expr_arity c.in-Assign.is) in
    c.requires.typed 0 _ (slice_get-get_or c.args.parts.now 0 _ low)

pub kind_of-requires-in-Assign-2 : goal.kind_of-requires-in-Assign-2
kind_of-requires-in-Assign-2 c =
    let low : 1 < length c.args.parts.now = omega (arith, c.requires.arity, ap expr_arity c.in-Assign.is) in
    c.requires.typed 1 _ (slice_get-get_or c.args.parts.now 1 _ low)

pub call-requires-clause-typed : goal.call-requires-clause-typed
call-requires-clause-typed c = typed_behind (scope_names c.args.self.now) c.args.parts.now c.behind_first.result.now c.behind_first.ensures c.requires.typed

pub returns-in-Variable-clause-says : goal.returns-in-Variable-clause-says
returns-in-Variable-clause-says c = λ es right.
    let s = c.args.self.now in
    let count : length c.args.parts.now ≡ _ = c.requires.arity ∙ ap expr_arity c.in-Variable.is in
    subst (λ (n : ExprNode). SaysRoot (scope_table s) (scope_home s) (scope_names s) (over (expr_form (scope_names s) n) es) c.variable.result) (sym c.in-Variable.is)
    (no_part (scope_table s) (scope_home s) (scope_names s) (VariableForm (plain_spot (scope_names s) c.in-Variable.x)) c.variable.result es c.args.parts.now right count c.variable.ensures.says)

pub returns-in-This-clause-says : goal.returns-in-This-clause-says
returns-in-This-clause-says c = λ es right.
    let s = c.args.self.now in
    let count : length c.args.parts.now ≡ _ = c.requires.arity ∙ ap expr_arity c.in-This.is in
    subst (λ (n : ExprNode). SaysRoot (scope_table s) (scope_home s) (scope_names s) (over (expr_form (scope_names s) n) es) (Ok (Class s.class))) (sym c.in-This.is)
    (no_part (scope_table s) (scope_home s) (scope_names s) (ThisForm c.in-This.field-0) (Ok (Class s.class)) es c.args.parts.now right count type_of_this)

pub returns-in-Null-clause-says : goal.returns-in-Null-clause-says
returns-in-Null-clause-says c = λ es right.
    let s = c.args.self.now in
    let count : length c.args.parts.now ≡ _ = c.requires.arity ∙ ap expr_arity c.in-Null.is in
    subst (λ (n : ExprNode). SaysRoot (scope_table s) (scope_home s) (scope_names s) (over (expr_form (scope_names s) n) es) (Ok Null)) (sym c.in-Null.is)
    (no_part (scope_table s) (scope_home s) (scope_names s) (NullForm c.in-Null.field-0) (Ok Null) es c.args.parts.now right count type_of_null)

pub returns-in-Field-clause-says : goal.returns-in-Field-clause-says
returns-in-Field-clause-says c = λ es right.
    let s = c.args.self.now in
    let count : length c.args.parts.now ≡ _ = c.requires.arity ∙ ap expr_arity c.in-Field.is in
    subst (λ (n : ExprNode). SaysRoot (scope_table s) (scope_home s) (scope_names s) (over (expr_form (scope_names s) n) es) c.field.result) (sym c.in-Field.is)
    (one_part (scope_table s) (scope_home s) (scope_names s) (FieldForm (plain_spot (scope_names s) c.in-Field.field)) c.field.result es c.args.parts.now _ c.kind_of.result right count c.kind_of.ensures.found c.field.ensures.says)

pub returns-in-Call-clause-says : goal.returns-in-Call-clause-says
returns-in-Call-clause-says c = λ es right.
    let s = c.args.self.now in
    let count : length c.args.parts.now ≡ _ = c.requires.arity ∙ ap expr_arity c.in-Call.is in
    subst (λ (n : ExprNode). SaysRoot (scope_table s) (scope_home s) (scope_names s) (over (expr_form (scope_names s) n) es) c.call.result) (sym c.in-Call.is)
    (first_part (scope_table s) (scope_home s) (scope_names s) (CallForm (plain_spot (scope_names s) c.in-Call.method)) c.call.result es c.args.parts.now c.behind_first.result.now _ c.kind_of-in-Call.result right (omega (arith, count)) c.kind_of-in-Call.ensures.found c.behind_first.ensures c.call.ensures.says)

pub returns-in-New-clause-says : goal.returns-in-New-clause-says
returns-in-New-clause-says c = λ es right.
    let s = c.args.self.now in
    let count : length c.args.parts.now ≡ _ = c.requires.arity ∙ ap expr_arity c.in-New.is in
    subst (λ (n : ExprNode). SaysRoot (scope_table s) (scope_home s) (scope_names s) (over (expr_form (scope_names s) n) es) c.object.result) (sym c.in-New.is)
    (no_part (scope_table s) (scope_home s) (scope_names s) (NewForm (plain_spot (scope_names s) c.in-New.class)) c.object.result es c.args.parts.now right count c.object.ensures.says)

pub returns-in-Cast-clause-says : goal.returns-in-Cast-clause-says
returns-in-Cast-clause-says c = λ es right.
    let s = c.args.self.now in
    let count : length c.args.parts.now ≡ _ = c.requires.arity ∙ ap expr_arity c.in-Cast.is in
    subst (λ (n : ExprNode). SaysRoot (scope_table s) (scope_home s) (scope_names s) (over (expr_form (scope_names s) n) es) c.cast.result) (sym c.in-Cast.is)
    (one_part (scope_table s) (scope_home s) (scope_names s) (CastForm (plain_spot (scope_names s) c.in-Cast.class)) c.cast.result es c.args.parts.now _ c.kind_of-in-Cast.result right count c.kind_of-in-Cast.ensures.found c.cast.ensures.says)

pub returns-in-Assign-clause-says : goal.returns-in-Assign-clause-says
returns-in-Assign-clause-says c = λ es right.
    let s = c.args.self.now in
    let count : length c.args.parts.now ≡ _ = c.requires.arity ∙ ap expr_arity c.in-Assign.is in
    subst (λ (n : ExprNode). SaysRoot (scope_table s) (scope_home s) (scope_names s) (over (expr_form (scope_names s) n) es) c.assignment.result) (sym c.in-Assign.is)
    (two_parts (scope_table s) (scope_home s) (scope_names s) (AssignForm (plain_spot (scope_names s) c.in-Assign.field)) c.assignment.result es c.args.parts.now _ _ c.kind_of-in-Assign.result c.kind_of-in-Assign-2.result right count c.kind_of-in-Assign.ensures.found c.kind_of-in-Assign-2.ensures.found c.assignment.ensures.says)

pub returns-in-Original-clause-says : goal.returns-in-Original-clause-says
returns-in-Original-clause-says c = λ es right.
    let s = c.args.self.now in
    subst (λ (n : ExprNode). SaysRoot (scope_table s) (scope_home s) (scope_names s) (over (expr_form (scope_names s) n) es) c.original.result) (sym c.in-Original.is)
    (c.original.ensures.says es right)
