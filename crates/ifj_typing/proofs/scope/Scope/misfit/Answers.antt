use Rattle.std.proofs.Common.{◌≡◌, ◌<◌, map, length, subst, arith}
use Rattle.std.proofs.lemmas.Option.{slice_get-get_or}
use Rattle.dj_tree.specs.Plain.{plain_spot}
use Rattle.dj_calculus.specs.Tables.{texts_of}
use Rattle.ifj_typing.specs.Arguments.{FitsAt, WrongAt}
use Rattle.ifj_typing.specs.Least.{Judges, Before, EachBefore}
use Rattle.ifj_typing.specs.Scopes.{scope_names, scope_table, scope_home}
use Rattle.ifj_typing.proofs.Fitting.{fit_next}
use Rattle.ifj_typing.proofs.scope.Scope.misfit.Goals as goal

pub misfit_of-requires-clause-typed : goal.misfit_of-requires-clause-typed
misfit_of-requires-clause-typed c = c.requires.typed c.loop-number.number _ (slice_get-get_or c.args.arguments.now c.loop-number.number _ (omega arith))

pub loop-number-preserved : goal.loop-number-preserved
loop-number-preserved c = λ es right.
    let s = c.args.self.now in
    let n = c.loop-number.number in
    let low : n < length c.args.arguments.now = omega arith in
    let also : n < length c.args.types.now = omega arith in
    fit_next (scope_table s) (scope_home s) (scope_names s) es c.args.arguments.now c.args.types.now n _ _ c.loop-number.least c.misfit_of.result c.lesser-least.result right low also
    (c.loop-number.invariant es right) c.misfit_of.ensures c.lesser-least.ensures

pub returns : goal.returns
returns c = λ es right.
    let s = c.args.self.now in
    let us = texts_of (map (plain_spot (scope_names s)) c.args.types.now) in
    let end : c.loop-number.number ≡ length c.args.types.now = omega arith in
    subst (λ n. Judges (EachBefore (FitsAt (scope_table s) (scope_home s) es us) n) (Before (WrongAt (scope_table s) (scope_home s) es us) n) c.loop-number.least) end
    (c.loop-number.invariant es right)
