use Rattle.std.proofs.Common.{refl, arith}
use Rattle.dj_formula_reader.specs.Machine.{formula_reading}
use Rattle.dj_formula_reader.proofs.formula.read_formula.Goals as goal

pub tokens-init : goal.tokens-init
unfolding formula_reading
tokens-init c = (rw (c.new.ensures, c.new-2.ensures.items) refl, omega arith)
