-- The faults of the code, and what they stand for.
use Rattle.dj_calculus.specs.Faults as line
use Rattle.dj_calculus.specs.Faults.{Fault}
use Rattle.dj_faults.specs.declared.fault.LineFault.{LineFault}
use Rattle.dj_faults.specs.declared.fault.LineFault.TheVariants.{RepeatedFeature, UnknownFeature, TooManyFeatures, RepeatedDelta, UnknownDelta, DeltaNotPlaced, DeltaPlacedTwice, RepeatedPart, UnknownPart, PartsNoChain, RepeatedOperation, RepeatedMember, RepeatedParameter, ReservedClass, OriginalOutside}

abbrev pub fault_of : LineFault → Fault
fault_of RepeatedFeature = line.RepeatedFeature
fault_of UnknownFeature = line.UnknownFeature
fault_of TooManyFeatures = line.TooManyFeatures
fault_of RepeatedDelta = line.RepeatedDelta
fault_of UnknownDelta = line.UnknownDelta
fault_of DeltaNotPlaced = line.DeltaNotPlaced
fault_of DeltaPlacedTwice = line.DeltaPlacedTwice
fault_of RepeatedPart = line.RepeatedPart
fault_of UnknownPart = line.UnknownPart
fault_of PartsNoChain = line.PartsNoChain
fault_of RepeatedOperation = line.RepeatedOperation
fault_of RepeatedMember = line.RepeatedMember
fault_of RepeatedParameter = line.RepeatedParameter
fault_of ReservedClass = line.ReservedClass
fault_of OriginalOutside = line.OriginalOutside
