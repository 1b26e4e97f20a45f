use Rattle.std.proofs.Common.{subst, map, List}
use Rattle.arena_walk.specs.Tree.{trees_of}
use Rattle.dj_tree.specs.Plain.{plain_spot}
use Rattle.dj_tree.specs.declared.declarations.Spot.{Spot}
use Rattle.dj_calculus.specs.Instances.{IsLeast}
use Rattle.dj_calculus.specs.Tables.{texts_of, heading_of}
use Rattle.dj_calculus.specs.Typing.{Types, AllBelow, type_of_call}
use Rattle.ifj_table.specs.Entries.{plain_signature}
use Rattle.ifj_typing.specs.Kinds.{text_of, plain_kind}
use Rattle.ifj_typing.specs.Said.{BreaksArguments}
use Rattle.ifj_typing.specs.Scopes.{scope_names, scope_table, scope_home}
use Rattle.ifj_typing.specs.declared.kind.Kind.{Kind}
use Rattle.ifj_typing.proofs.Fitting.{have_types}
use Rattle.ifj_typing.proofs.OneRule.{says_null_call, says_no_method, says_call}
use Rattle.ifj_typing.proofs.scope.Scope.call.Goals as goal

pub returns-in-Null-clause-says : goal.returns-in-Null-clause-says
returns-in-Null-clause-says c = λ e es types right.
    let s = c.args.self.now in
    let null = subst (λ (k : Kind). Types (scope_table s) (scope_home s) e (plain_kind (scope_names s) k)) c.in-Null.is types in
    rw c.instance.ensures (says_null_call (scope_table s) (scope_home s) e (plain_spot (scope_names s) c.args.method) (trees_of es) null
    (have_types (scope_table s) (scope_home s) (scope_names s) es c.args.arguments.now right c.requires.typed))

pub returns-in-None-clause-says : goal.returns-in-None-clause-says
returns-in-None-clause-says c = λ e es types right.
    let s = c.args.self.now in
    let its = subst (λ (k : Kind). Types (scope_table s) (scope_home s) e (plain_kind (scope_names s) k)) c.in-Class.is types in
    rw c.instance-in-None.ensures (says_no_method (scope_table s) (scope_home s) e (plain_spot (scope_names s) c.args.method) (trees_of es) (text_of (scope_names s) c.in-Class.class) its
    (have_types (scope_table s) (scope_home s) (scope_names s) es c.args.arguments.now right c.requires.typed) c.in-None.ensures.found)

pub returns-in-Ok-clause-says : goal.returns-in-Ok-clause-says
returns-in-Ok-clause-says c = λ e es types right.
    let s = c.args.self.now in
    let its = subst (λ (k : Kind). Types (scope_table s) (scope_home s) e (plain_kind (scope_names s) k)) c.in-Class.is types in
    type_of_call {heading = heading_of (plain_signature (scope_names s) c.in-Some.found.now)} its c.in-Some.ensures.found
    (subst (λ (types : List Spot). AllBelow (scope_table s) (scope_home s) (trees_of es) (texts_of (map (plain_spot (scope_names s)) types))) c.as_slice.ensures (c.in-Ok.ensures es right))

pub returns-in-Err-clause-says : goal.returns-in-Err-clause-says
returns-in-Err-clause-says c = λ e es types right.
    let s = c.args.self.now in
    let its = subst (λ (k : Kind). Types (scope_table s) (scope_home s) e (plain_kind (scope_names s) k)) c.in-Class.is types in
    says_call (scope_table s) (scope_home s) e (plain_spot (scope_names s) c.args.method) (trees_of es) (text_of (scope_names s) c.in-Class.class)
    (heading_of (plain_signature (scope_names s) c.in-Some.found.now)) its c.in-Some.ensures.found c.in-Err.instance
    (subst (λ (types : List Spot). IsLeast (BreaksArguments (scope_table s) (scope_home s) (trees_of es) (texts_of (map (plain_spot (scope_names s)) types)) c.args.method.at) c.in-Err.instance) c.as_slice.ensures
    (c.in-Err.ensures es right))
