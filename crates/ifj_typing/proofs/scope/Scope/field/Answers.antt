use Rattle.std.proofs.Common.{subst}
use Rattle.dj_tree.specs.Plain.{plain_spot}
use Rattle.dj_calculus.specs.Typing.{Types, type_of_field}
use Rattle.ifj_typing.specs.Kinds.{text_of, plain_kind}
use Rattle.ifj_typing.specs.Scopes.{scope_names, scope_table, scope_home}
use Rattle.ifj_typing.specs.declared.kind.Kind.{Kind}
use Rattle.ifj_typing.proofs.OneRule.{says_null_field, says_no_field}
use Rattle.ifj_typing.proofs.scope.Scope.field.Goals as goal

pub returns-in-Null-clause-says : goal.returns-in-Null-clause-says
returns-in-Null-clause-says c = λ e types.
    let s = c.args.self.now in
    let null = subst (λ (k : Kind). Types (scope_table s) (scope_home s) e (plain_kind (scope_names s) k)) c.in-Null.is types in
    rw c.instance.ensures (says_null_field (scope_table s) (scope_home s) e (plain_spot (scope_names s) c.args.field) null)

pub returns-in-Some-clause-says : goal.returns-in-Some-clause-says
returns-in-Some-clause-says c = λ e types.
    let s = c.args.self.now in
    let its = subst (λ (k : Kind). Types (scope_table s) (scope_home s) e (plain_kind (scope_names s) k)) c.in-Class.is types in
    type_of_field its c.in-Some.ensures.found

pub returns-in-None-clause-says : goal.returns-in-None-clause-says
returns-in-None-clause-says c = λ e types.
    let s = c.args.self.now in
    let its = subst (λ (k : Kind). Types (scope_table s) (scope_home s) e (plain_kind (scope_names s) k)) c.in-Class.is types in
    rw c.instance-in-None.ensures (says_no_field (scope_table s) (scope_home s) e (plain_spot (scope_names s) c.args.field) (text_of (scope_names s) c.in-Class.class) its c.in-None.ensures.found)
