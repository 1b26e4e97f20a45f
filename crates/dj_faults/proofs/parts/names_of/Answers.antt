use Rattle.std.proofs.Common.{◌∙◌, ◌++◌, [], ◌∷◌, get_or, sym, ap}
use Rattle.std.proofs.lemmas.Option.{slice_get-get_or}
use Rattle.dj_faults.proofs.ChainLemmas.{names_next}
use Rattle.dj_faults.proofs.parts.names_of.Goals as goal

pub loop-number-preserved : goal.loop-number-preserved
loop-number-preserved c =
    let i = c.loop-number.number-index in
    let k = get_or c.args.numbers.now i 0 in
    let x = get_or c.args.parts.now k c.index-parts-number.result in
    c.in_ok-push.ensures.items ∙ ap (λ xs. xs ++ x.spot ∷ []) c.loop-number.invariant
    ∙ sym (names_next c.args.parts.now c.args.numbers.now i k x (slice_get-get_or c.args.numbers.now i 0 c.loop-number-test.true) (slice_get-get_or c.args.parts.now k c.index-parts-number.result (c.requires i 0 c.loop-number-test.true)))
