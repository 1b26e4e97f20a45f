-- The faults of a source that the grammar accepts, in the order in which they are looked for.
use Rattle.std.specs.Prelude.{ℕ}

pub data Fault : Type 0 where
  RepeatedFeature : Fault
  UnknownFeature : Fault
  TooManyFeatures : Fault
  RepeatedDelta : Fault
  UnknownDelta : Fault
  DeltaNotPlaced : Fault
  DeltaPlacedTwice : Fault
  RepeatedPart : Fault
  UnknownPart : Fault
  PartsNoChain : Fault
  RepeatedOperation : Fault
  RepeatedMember : Fault
  RepeatedParameter : Fault
  ReservedClass : Fault
  OriginalOutside : Fault

abbrev pub fault_rank : Fault → ℕ
fault_rank RepeatedFeature = 0
fault_rank UnknownFeature = 1
fault_rank TooManyFeatures = 2
fault_rank RepeatedDelta = 3
fault_rank UnknownDelta = 4
fault_rank DeltaNotPlaced = 5
fault_rank DeltaPlacedTwice = 6
fault_rank RepeatedPart = 7
fault_rank UnknownPart = 8
fault_rank PartsNoChain = 9
fault_rank RepeatedOperation = 10
fault_rank RepeatedMember = 11
fault_rank RepeatedParameter = 12
fault_rank ReservedClass = 13
fault_rank OriginalOutside = 14
