use Rattle.gate_encoder.proofs.Appended.{on_err, two_of_four, three_of_four}
use Rattle.gate_encoder.proofs.parts.push_equal.Goals as goal

pub returns-in_err-push-3-clause-err : goal.returns-in_err-push-3-clause-err
returns-in_err-push-3-clause-err c =
    on_err _ _
    (two_of_four c.args.clauses.now c.push.new.self c.push-2.new.self c.push-3.new.self _ _ _ _
    (rw (c.opposite.ensures, c.opposite-2.ensures) at c.in_ok-push.ensures.ok)
    (rw (c.opposite-3.ensures, c.opposite-4.ensures) at c.in_ok-push-2.ensures.ok)
    c.in_err-push-3.ensures.err)

pub returns-in_err-push-4-clause-err : goal.returns-in_err-push-4-clause-err
returns-in_err-push-4-clause-err c =
    on_err _ _
    (three_of_four c.args.clauses.now c.push.new.self c.push-2.new.self c.push-3.new.self c.push-4.new.self _ _ _ _
    (rw (c.opposite.ensures, c.opposite-2.ensures) at c.in_ok-push.ensures.ok)
    (rw (c.opposite-3.ensures, c.opposite-4.ensures) at c.in_ok-push-2.ensures.ok)
    c.in_ok-push-3.ensures.ok
    c.in_err-push-4.ensures.err)
