use Rattle.dj_formula_reader.proofs.OneFormula as lemmas
use Rattle.dj_formula_reader.proofs.laws.one_formula.Goals as goal

pub returns : goal.returns
returns c = lemmas.one_formula
