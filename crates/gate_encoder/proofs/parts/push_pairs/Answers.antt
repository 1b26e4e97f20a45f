use Rattle.std.proofs.Common.{◌∷◌, [], arith}
use Rattle.gate_encoder.proofs.Appended.{on_err, begun_each}
use Rattle.gate_encoder.proofs.parts.push_pairs.Goals as goal

pub returns-in_err-push-clause-err : goal.returns-in_err-push-clause-err
returns-in_err-push-clause-err c =
    on_err _ _ (begun_each c.args.clauses.now c.loop-lit.clauses c.push.new.self (λ l. c.args.first ∷ l ∷ []) c.args.each.now c.loop-lit.lit-index (omega arith) c.loop-lit.invariant c.in_err-push.ensures.err)
