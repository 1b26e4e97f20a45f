use Rattle.std.proofs.Common.{refl}
use Rattle.dj_line.proofs.NumberNamed.{no_name, no_key, at_key}
use Rattle.dj_line.proofs.line.number_named.Goals as goal

pub returns-in_err-name : goal.returns-in_err-name
returns-in_err-name c = λ spots are known. rw c.from_residual.ensures (no_name c.args.names.now spots known c.args.text.now (c.in_err-name.ensures.absent.0 refl))

pub returns-in_err-number : goal.returns-in_err-number
returns-in_err-number c = λ spots are known.
    rw c.from_residual-in_err-number.ensures
    (no_key c.args.names.now spots known c.args.keys.now.keys are c.find.ensures.distinct c.args.text.now c.in_ok-name.name.0 c.in_ok-name.ensures.found c.in_err-number.ensures.index)

pub returns : goal.returns
returns c = λ spots are known.
    at_key c.args.names.now spots known c.args.keys.now.keys are c.args.text.now c.in_ok-name.name.0 c.in_ok-number.number c.in_ok-name.ensures.found c.in_ok-number.ensures.index
