use Rattle.std.proofs.Common.{map, length, ◌∙◌, sym, ◌≡◌, Some, subst}
use Rattle.arena_walk.proofs.Visitors.{length_outs}
use Rattle.dj_tree.specs.Plain.{plain_spot}
use Rattle.dj_calculus.specs.Tables.{texts_of}
use Rattle.ifj_typing.specs.Arguments.{FitsAt, WrongAt}
use Rattle.ifj_typing.specs.Least.{Judges, Before, EachBefore}
use Rattle.ifj_typing.specs.Scopes.{scope_names, scope_table, scope_home}
use Rattle.ifj_typing.proofs.Fitting.{have_types, all_below, wrong_number, least_wrong}
use Rattle.ifj_typing.proofs.LastNamed.{length_texts}
use Rattle.ifj_typing.proofs.scope.Scope.fit.Goals as goal

pub returns-then-arguments-types : goal.returns-then-arguments-types
returns-then-arguments-types c = λ es right.
    let s = c.args.self.now in
    let us = texts_of (map (plain_spot (scope_names s)) c.args.types.now) in
    rw c.instance.ensures (wrong_number (scope_table s) (scope_home s) es us c.args.at (have_types (scope_table s) (scope_home s) (scope_names s) es c.args.arguments.now right c.requires.typed)
    (λ same. c.if-arguments-types.true (sym (length_outs _ es c.args.arguments.now right) ∙ same ∙ length_texts (scope_names s) c.args.types.now)))

pub returns-in-Some : goal.returns-in-Some
returns-in-Some c = λ es right.
    let s = c.args.self.now in
    let us = texts_of (map (plain_spot (scope_names s)) c.args.types.now) in
    let count : length es ≡ length us = length_outs _ es c.args.arguments.now right ∙ c.if-arguments-types.false ∙ sym (length_texts (scope_names s) c.args.types.now) in
    least_wrong (scope_table s) (scope_home s) es us c.args.at (have_types (scope_table s) (scope_home s) (scope_names s) es c.args.arguments.now right c.requires.typed) count c.in-Some.instance
    (subst (λ n. Judges (EachBefore (FitsAt (scope_table s) (scope_home s) es us) n) (Before (WrongAt (scope_table s) (scope_home s) es us) n) (Some c.in-Some.instance)) (sym (length_texts (scope_names s) c.args.types.now)) (c.in-Some.ensures es right))

pub returns-in-None : goal.returns-in-None
returns-in-None c = λ es right.
    let s = c.args.self.now in
    let us = texts_of (map (plain_spot (scope_names s)) c.args.types.now) in
    let count : length es ≡ length us = length_outs _ es c.args.arguments.now right ∙ c.if-arguments-types.false ∙ sym (length_texts (scope_names s) c.args.types.now) in
    all_below (scope_table s) (scope_home s) es us count
    (subst (EachBefore (FitsAt (scope_table s) (scope_home s) es us)) (sym (length_texts (scope_names s) c.args.types.now)) (c.in-None.ensures es right))
