use Rattle.std.proofs.Common.{◌≡◌, ◌+◌, ◌-◌, ◌++◌, ap, arith}
use Rattle.std.specs.Prelude.{codes}
use Rattle.arena_walk.proofs.SlotLemmas.{room_before}
use Rattle.dj_tree.specs.Arities.{expr_arity}
use Rattle.java_text.specs.declared.pieces.Piece.TheVariants.{Node}
use Rattle.java_text.specs.Pieces.{kids_at, each_work}
use Rattle.java_text.proofs.Putting.{puts_one, puts_mark, puts_then, puts_as}
use Rattle.java_text.proofs.Parts.{tree_there}
use Rattle.java_text.proofs.Arguments.{last_of, closed, before, argument_put}
use Rattle.java_text.proofs.pieces.push_arguments.Goals as goal

pub overflow_sub-argument : goal.overflow_sub-argument
overflow_sub-argument c =
    let exprs = c.args.exprs.now in
    let at = c.args.at.0 in
    let here = tree_there exprs at c.requires.there in
    let low = c.requires.enough in
    room_before expr_arity exprs at here.0 (kids_at exprs at) c.arguments.behind c.arguments.end here.1 (omega (arith, low, c.arguments-test.true)) c.arguments.invariant.0

pub arguments-preserved : goal.arguments-preserved
arguments-preserved c =
    let exprs = c.args.exprs.now in
    let at = c.args.at.0 in
    let kids = kids_at exprs at in
    let here = tree_there exprs at c.requires.there in
    let low = c.requires.enough in
    let some = room_before expr_arity exprs at here.0 kids c.arguments.behind c.arguments.end here.1 (omega (arith, low, c.arguments-test.true)) c.arguments.invariant.0 in
    let child = c.arguments.end - 1 in
    let first = c.first-end.result.0 in
    let within : child + 1 ≡ c.arguments.end = omega (arith, some) in
    let this = before exprs at here.0 kids c.arguments.behind child first here.1 (omega (arith, low, c.arguments-test.true)) (omega (arith, within, c.arguments.invariant.0)) c.first-end.ensures.tree in (
      this.number,
      λ names.
          argument_put names exprs at kids c.arguments.behind child first _ _ _ _ this (c.arguments.invariant.1 names) (c.in_ok-push_comma.ensures names exprs)
          (puts_one names exprs (Node (record { 0 = child })) (omega (arith, within, c.arguments.invariant.0, c.requires.there)) c.in_ok-push-2.ensures.ok),
    )

pub returns : goal.returns
returns c = λ names.
    let exprs = c.args.exprs.now in
    let kids = kids_at exprs c.args.at.0 in
    let all : c.arguments.behind ≡ c.args.count = omega (arith, c.arguments-test.false, c.arguments.auto.behind-end) in
    puts_as names exprs (puts_then names exprs (c.arguments.invariant.1 names) (puts_mark names exprs _ c.in_ok-push-3.ensures.ok))
    (ap (λ k. codes "(" ++ closed names (last_of k kids)) all)
    (let work = ap (λ k. each_work (last_of k kids)) all in omega (arith, work))
