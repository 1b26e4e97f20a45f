use Rattle.std.proofs.Common.{inl, inr}
use Rattle.dj_tree.specs.Plain.{plain_spot}
use Rattle.dj_calculus.specs.Typing.{type_of_cast}
use Rattle.ifj_typing.specs.Kinds.{plain_kind}
use Rattle.ifj_typing.specs.Scopes.{scope_names, scope_table, scope_home}
use Rattle.ifj_typing.proofs.OneRule.{says_unknown_cast, says_unrelated}
use Rattle.ifj_typing.proofs.Owners.{denied}
use Rattle.ifj_typing.proofs.scope.Scope.cast.Goals as goal

pub returns-then-not-exists-clause-says : goal.returns-then-not-exists-clause-says
returns-then-not-exists-clause-says c = λ e types.
    let s = c.args.self.now in
    rw c.instance.ensures (says_unknown_cast (scope_table s) (scope_home s) (plain_spot (scope_names s) c.args.class) e (plain_kind (scope_names s) c.args.kind) types (denied c.exists.result c.exists.ensures c.if-not-exists.true))

pub returns-then-is_below-clause-says : goal.returns-then-is_below-clause-says
returns-then-is_below-clause-says c = λ e types. type_of_cast (c.exists.ensures.0 c.if-not-exists.false) types (inl (c.is_below.ensures.0 c.if-is_below.true))

pub returns-then-is_above-clause-says : goal.returns-then-is_above-clause-says
returns-then-is_above-clause-says c = λ e types. type_of_cast (c.exists.ensures.0 c.if-not-exists.false) types (inr (c.is_above.ensures.0 c.if-is_above.true))

pub returns-clause-says : goal.returns-clause-says
returns-clause-says c = λ e types.
    let s = c.args.self.now in
    rw c.instance-2.ensures (says_unrelated (scope_table s) (scope_home s) (plain_spot (scope_names s) c.args.class) e (plain_kind (scope_names s) c.args.kind) types
    (c.exists.ensures.0 c.if-not-exists.false) (denied c.is_below.result c.is_below.ensures c.if-is_below.false) (denied c.is_above.result c.is_above.ensures c.if-is_above.false))
