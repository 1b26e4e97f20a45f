use Rattle.gate_encoder.proofs.FormulaValues.{tree_value}
use Rattle.gate_encoder.proofs.laws.formulas_have_values.Goals as goal

pub returns : goal.returns
returns g c = λ names first tree v whole below truth all. tree_value v names truth first tree whole below all
