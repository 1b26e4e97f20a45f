use Rattle.std.proofs.Common.{refl}
use Rattle.dj_calculus.proofs.examples.expression_texts.Goals as goal

pub returns : goal.returns
returns c = record { call = refl; chain = refl }
