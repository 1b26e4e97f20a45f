use Rattle.dj_tree.specs.Plain.{plain_spot}
use Rattle.dj_calculus.specs.Typing.{type_of_variable}
use Rattle.ifj_typing.specs.Scopes.{scope_names, scope_table, scope_home}
use Rattle.ifj_typing.proofs.OneRule.{says_variable}
use Rattle.ifj_typing.proofs.scope.Scope.variable.Goals as goal

pub returns-in-Some-clause-says : goal.returns-in-Some-clause-says
returns-in-Some-clause-says c = type_of_variable c.in-Some.ensures.found

pub returns-in-None-clause-says : goal.returns-in-None-clause-says
returns-in-None-clause-says c =
    let s = c.args.self.now in
    rw c.instance.ensures (says_variable (scope_table s) (scope_home s) (plain_spot (scope_names s) c.args.x) c.in-None.ensures.found)
