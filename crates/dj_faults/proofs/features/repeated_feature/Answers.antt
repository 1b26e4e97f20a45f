use Rattle.std.proofs.Common.{length, subst}
use Rattle.std.proofs.lemmas.Result.{IfOk-weaker}
use Rattle.dj_faults.specs.LeastPlace.{IsLeastPlace}
use Rattle.dj_faults.specs.Numbers.{Again}
use Rattle.dj_faults.proofs.ListFaults.{least_repeated_feature}
use Rattle.dj_faults.proofs.features.repeated_feature.Goals as goal

pub returns : goal.returns
returns c = IfOk-weaker c.repeated.result _ _ (λ o is. least_repeated_feature c.args.source.now c.requires o (subst (λ xs. IsLeastPlace (Again xs (length xs)) o) c.as_slice.ensures is)) c.repeated.ensures
