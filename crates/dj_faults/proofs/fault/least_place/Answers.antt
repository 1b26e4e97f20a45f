use Rattle.std.proofs.Common.{arith}
use Rattle.dj_calculus.specs.Faults.{RepeatedPart}
use Rattle.dj_faults.specs.Inside.{RepeatedOperation, RepeatedMember, RepeatedParameter, OriginalOutside}
use Rattle.dj_faults.proofs.fault.least_place.Goals as goal

pub parts_no_chain-requires-clause-once : goal.parts_no_chain-requires-clause-once
parts_no_chain-requires-clause-once c = λ at stands. c.requires.earlier RepeatedPart at (rw c.in-PartsNoChain.is (omega arith)) stands

pub returns-in-RepeatedOperation : goal.returns-in-RepeatedOperation
returns-in-RepeatedOperation c = rw c.in-RepeatedOperation.is (c.requires.inside RepeatedOperation)

pub returns-in-RepeatedMember : goal.returns-in-RepeatedMember
returns-in-RepeatedMember c = rw c.in-RepeatedMember.is (c.requires.inside RepeatedMember)

pub returns-in-RepeatedParameter : goal.returns-in-RepeatedParameter
returns-in-RepeatedParameter c = rw c.in-RepeatedParameter.is (c.requires.inside RepeatedParameter)

pub returns-in-OriginalOutside : goal.returns-in-OriginalOutside
returns-in-OriginalOutside c = rw c.in-OriginalOutside.is (c.requires.inside OriginalOutside)
