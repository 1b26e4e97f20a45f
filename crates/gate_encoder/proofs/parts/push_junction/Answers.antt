use Rattle.std.proofs.Common.{◌∙◌}
use Rattle.gate_encoder.proofs.Appended.{on_err, begun_whole}
use Rattle.gate_encoder.proofs.parts.push_junction.Goals as goal

pub returns-in_err-push-clause-err : goal.returns-in_err-push-clause-err
returns-in_err-push-clause-err c =
    on_err _ _ (begun_whole c.args.clauses.now _ _ c.push_pairs.new.clauses (rw c.opposite.ensures at c.in_ok-push_pairs.ensures.ok))

pub returns-in_err-extend_from_slice-clause-err : goal.returns-in_err-extend_from_slice-clause-err
returns-in_err-extend_from_slice-clause-err c =
    on_err _ _ (begun_whole c.args.clauses.now _ _ c.push_pairs.new.clauses (rw c.opposite.ensures at c.in_ok-push_pairs.ensures.ok))

pub returns-in_err-push-2-clause-err : goal.returns-in_err-push-2-clause-err
returns-in_err-push-2-clause-err c =
    on_err _ _ (begun_whole c.args.clauses.now _ _ c.push-2.new.self (c.in_err-push-2.ensures.err ∙ rw c.opposite.ensures at c.in_ok-push_pairs.ensures.ok))
