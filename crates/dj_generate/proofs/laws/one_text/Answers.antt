use Rattle.dj_generate.proofs.FromProducts.{one_generated}
use Rattle.dj_generate.proofs.laws.one_text.Goals as goal

pub returns : goal.returns
returns c = one_generated
