use Rattle.dj_calculus.proofs.PartChain.{chain_is_reached}
use Rattle.dj_calculus.proofs.laws.chain_is_reached.Goals as goal

pub returns : goal.returns
returns c = chain_is_reached
