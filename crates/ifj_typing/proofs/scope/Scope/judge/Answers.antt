use Rattle.std.proofs.Common.{List, Contains, sym, subst}
use Rattle.std.specs.List.{AllZip}
use Rattle.std.proofs.lemmas.Option.{slice_get_within}
use Rattle.arena_walk.specs.Tree.{over}
use Rattle.arena_walk.proofs.Visitors.{list_of-trees_of}
use Rattle.dj_tree.specs.Plain.{expr_form}
use Rattle.dj_tree.specs.Trees.{Expr}
use Rattle.ifj_typing.specs.Said.{IsRight}
use Rattle.ifj_typing.specs.Scopes.{scope_names, scope_table, scope_home}
use Rattle.ifj_typing.proofs.Parts.{parts_typed, says_over, says_part}
use Rattle.ifj_typing.proofs.scope.Scope.judge.Goals as goal

pub node_type-requires-clause-typed : goal.node_type-requires-clause-typed
node_type-requires-clause-typed c = λ k out here.
    record { sound = λ i is. c.in-None.ensures i (k, slice_get_within c.args.parts.now k out here, (out, here, is)); known = c.requires.kinds k out here }

pub returns-in-Some-clause-says : goal.returns-in-Some-clause-says
returns-in-Some-clause-says c = λ es right.
    let s = c.args.self.now in
    let whole = over (expr_form (scope_names s) c.args.node.now) es in
    says_part (scope_table s) (scope_home s) (scope_names s) whole c.args.parts.now
    (subst (λ (ds : List Expr). AllZip (IsRight (scope_table s) (scope_home s) (scope_names s)) ds c.args.parts.now) (sym (list_of-trees_of es)) right) c.in-Some.instance c.in-Some.ensures

pub returns-in-None-clause-says : goal.returns-in-None-clause-says
returns-in-None-clause-says c = λ es right.
    let s = c.args.self.now in
    let whole = over (expr_form (scope_names s) c.args.node.now) es in
    says_over (scope_table s) (scope_home s) (scope_names s) whole c.node_type.result
    (λ part has. parts_typed (scope_table s) (scope_home s) (scope_names s) es c.args.parts.now right c.in-None.ensures part (subst (λ (ds : List Expr). Contains ds part) (list_of-trees_of es) has))
    (c.node_type.ensures.says es right)
