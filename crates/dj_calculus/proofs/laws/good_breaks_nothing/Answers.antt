use Rattle.dj_calculus.proofs.GoodLemmas.{good_breaks_nothing}
use Rattle.dj_calculus.proofs.laws.good_breaks_nothing.Goals as goal

pub returns : goal.returns
returns c = λ source chosen accepted good i stands. good_breaks_nothing source accepted chosen good i.rule i.at i.second stands
