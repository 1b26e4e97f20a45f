-- A source has one first fault at most.
use Rattle.std.proofs.Common.{◌≡◌, ℕ, List, [], ◌∷◌, Some, slice_get, refl, arith}
use Rattle.dj_tree.specs.Trees.{Source}
use Rattle.dj_calculus.specs.Faults.{Fault, fault_rank, RepeatedFeature, UnknownFeature, TooManyFeatures, RepeatedDelta, UnknownDelta, DeltaNotPlaced, DeltaPlacedTwice, RepeatedPart, UnknownPart, PartsNoChain, RepeatedOperation, RepeatedMember, RepeatedParameter, ReservedClass, OriginalOutside}
use Rattle.dj_calculus.specs.Accepted.{FirstFault}
use Rattle.dj_calculus.proofs.Members.{same_some}

-- the faults by their ranks
abbrev faults : List Fault
faults = RepeatedFeature ∷ UnknownFeature ∷ TooManyFeatures ∷ RepeatedDelta ∷ UnknownDelta ∷ DeltaNotPlaced ∷ DeltaPlacedTwice ∷ RepeatedPart ∷ UnknownPart ∷ PartsNoChain ∷ RepeatedOperation ∷ RepeatedMember ∷ RepeatedParameter ∷ ReservedClass ∷ OriginalOutside ∷ []

at_its_rank : (f : Fault) → slice_get faults (fault_rank f) ≡ Some f
at_its_rank RepeatedFeature = refl
at_its_rank UnknownFeature = refl
at_its_rank TooManyFeatures = refl
at_its_rank RepeatedDelta = refl
at_its_rank UnknownDelta = refl
at_its_rank DeltaNotPlaced = refl
at_its_rank DeltaPlacedTwice = refl
at_its_rank RepeatedPart = refl
at_its_rank UnknownPart = refl
at_its_rank PartsNoChain = refl
at_its_rank RepeatedOperation = refl
at_its_rank RepeatedMember = refl
at_its_rank RepeatedParameter = refl
at_its_rank ReservedClass = refl
at_its_rank OriginalOutside = refl

same_rank : (f g : Fault) → fault_rank f ≡ fault_rank g → f ≡ g
same_rank f g e = same_some f g _ (at_its_rank f) (rw e (at_its_rank g))

pub same_fault : (source : Source) (f g : Fault) (a b : ℕ) → FirstFault source f a → FirstFault source g b → f ≡ g
same_fault source f g a b p q = same_rank f g (omega (arith, p.first g b q.stands, q.first f a p.stands))

pub same_place : (source : Source) (f : Fault) (a b : ℕ) → FirstFault source f a → FirstFault source f b → a ≡ b
same_place source f a b p q = omega (arith, p.least b q.stands, q.least a p.stands)
