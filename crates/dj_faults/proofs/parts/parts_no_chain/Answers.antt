use Rattle.std.proofs.Common.{rules}
use Rattle.std.proofs.lemmas.Result.{IfOk-weaker}
use Rattle.dj_faults.proofs.ChainLemmas.{least_no_chain}
use Rattle.dj_faults.proofs.parts.parts_no_chain.Goals as goal

pub returns : goal.returns
returns c = IfOk-weaker c.unknown.result _ _ (λ o is. least_no_chain c.args.source.now c.requires.sound c.requires.once _ _ _ o c.in_ok-reached.ensures.chain (search rules) (search rules) is) c.unknown.ensures
