use Rattle.dj_tree.specs.Plain.{plain_spot}
use Rattle.dj_calculus.specs.Typing.{type_of_new}
use Rattle.ifj_typing.specs.Scopes.{scope_names, scope_table, scope_home}
use Rattle.ifj_typing.proofs.OneRule.{says_new}
use Rattle.ifj_typing.proofs.Owners.{denied}
use Rattle.ifj_typing.proofs.scope.Scope.object.Goals as goal

pub returns-then-exists-clause-says : goal.returns-then-exists-clause-says
returns-then-exists-clause-says c = type_of_new (c.exists.ensures.0 c.if-exists.true)

pub returns-else-exists-clause-says : goal.returns-else-exists-clause-says
returns-else-exists-clause-says c =
    let s = c.args.self.now in
    rw c.instance.ensures (says_new (scope_table s) (scope_home s) (plain_spot (scope_names s) c.args.class) (denied c.exists.result c.exists.ensures c.if-exists.false))
