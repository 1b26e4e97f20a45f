use Rattle.dj_calculus.proofs.laws.void_is_good.Goals as goal

pub returns : goal.returns
returns c = λ source void chosen valid. absurd (void chosen valid)
