use Rattle.dj_source_laws.proofs.ChainLaws.{has_chain, one_chain}
use Rattle.dj_source_laws.proofs.laws.accepted_has_chain.Goals as goal

pub returns-clause-chain : goal.returns-clause-chain
returns-clause-chain c = has_chain

pub returns-clause-one_chain : goal.returns-clause-one_chain
returns-clause-one_chain c = one_chain
