use Rattle.std.proofs.Common.{subst, map}
use Rattle.arena_walk.specs.Tree.{trees_of}
use Rattle.dj_tree.specs.Plain.{plain_spot}
use Rattle.dj_tree.specs.declared.declarations.Spot.{Spot}
use Rattle.std.proofs.Common.{List}
use Rattle.dj_calculus.specs.Instances.{IsLeast}
use Rattle.dj_calculus.specs.Tables.{texts_of}
use Rattle.dj_calculus.specs.Typing.{AllBelow, type_of_original}
use Rattle.ifj_typing.specs.Said.{BreaksArguments}
use Rattle.ifj_typing.specs.Scopes.{scope_names, scope_table, scope_home}
use Rattle.ifj_typing.proofs.OneRule.{says_original}
use Rattle.ifj_typing.proofs.scope.Scope.original.Goals as goal

pub returns-in-Ok-clause-says : goal.returns-in-Ok-clause-says
returns-in-Ok-clause-says c = λ es right.
    let s = c.args.self.now in
    type_of_original (subst (λ (types : List Spot). AllBelow (scope_table s) (scope_home s) (trees_of es) (texts_of (map (plain_spot (scope_names s)) types))) c.as_slice.ensures (c.in-Ok.ensures es right))

pub returns-in-Err-clause-says : goal.returns-in-Err-clause-says
returns-in-Err-clause-says c = λ es right.
    let s = c.args.self.now in
    says_original (scope_table s) (scope_home s) c.args.at (trees_of es) c.in-Err.instance
    (subst (λ (types : List Spot). IsLeast (BreaksArguments (scope_table s) (scope_home s) (trees_of es) (texts_of (map (plain_spot (scope_names s)) types)) c.args.at) c.in-Err.instance) c.as_slice.ensures
    (c.in-Err.ensures es right))
