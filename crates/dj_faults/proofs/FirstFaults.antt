-- The first of the faults, looked for in the order of the table.
use Rattle.std.proofs.Common.{◌≡◌, ℕ, zero, suc, ◌+◌, ◌<◌, ◌≤◌, List, [], ◌∷◌, get_or, None, Some, refl, sym, ap, ◌∙◌, subst, arith}
use Rattle.std.proofs.lemmas.Bool.{cases_lt}
use Rattle.dj_tree.specs.Trees.{Source}
use Rattle.dj_calculus.specs.Faults as line
use Rattle.dj_calculus.specs.Faults.{Fault, fault_rank}
use Rattle.dj_calculus.specs.FaultPlaces.{FaultStands}
use Rattle.dj_calculus.specs.Accepted.{FirstFault, IsAccepted}
use Rattle.dj_calculus.proofs.Members.{either}
use Rattle.dj_calculus.proofs.Counting.{earlier_or_last}
use Rattle.dj_faults.specs.declared.fault.LineFault.{LineFault}
use Rattle.dj_faults.specs.declared.fault.LineFault.TheVariants.{RepeatedFeature, UnknownFeature, TooManyFeatures, RepeatedDelta, UnknownDelta, DeltaNotPlaced, DeltaPlacedTwice, RepeatedPart, UnknownPart, PartsNoChain, RepeatedOperation, RepeatedMember, RepeatedParameter, ReservedClass, OriginalOutside}
use Rattle.dj_faults.specs.LeastPlace.{IsLeastPlace}
use Rattle.dj_faults.specs.LineFaults.{fault_of}

abbrev pub table : List LineFault
table = RepeatedFeature ∷ UnknownFeature ∷ TooManyFeatures ∷ RepeatedDelta ∷ UnknownDelta ∷ DeltaNotPlaced ∷ DeltaPlacedTwice ∷ RepeatedPart ∷ UnknownPart ∷ PartsNoChain ∷ RepeatedOperation ∷ RepeatedMember ∷ RepeatedParameter ∷ ReservedClass ∷ OriginalOutside ∷ []

-- each stands at its rank
pub at_rank : (i : ℕ) (d : LineFault) → i < 15 → fault_rank (fault_of (get_or table i d)) ≡ i
at_rank zero d low = refl
at_rank (suc zero) d low = refl
at_rank (suc (suc zero)) d low = refl
at_rank (suc (suc (suc zero))) d low = refl
at_rank (suc (suc (suc (suc zero)))) d low = refl
at_rank (suc (suc (suc (suc (suc zero))))) d low = refl
at_rank (suc (suc (suc (suc (suc (suc zero)))))) d low = refl
at_rank (suc (suc (suc (suc (suc (suc (suc zero))))))) d low = refl
at_rank (suc (suc (suc (suc (suc (suc (suc (suc zero)))))))) d low = refl
at_rank (suc (suc (suc (suc (suc (suc (suc (suc (suc zero))))))))) d low = refl
at_rank (suc (suc (suc (suc (suc (suc (suc (suc (suc (suc zero)))))))))) d low = refl
at_rank (suc (suc (suc (suc (suc (suc (suc (suc (suc (suc (suc zero))))))))))) d low = refl
at_rank (suc (suc (suc (suc (suc (suc (suc (suc (suc (suc (suc (suc zero)))))))))))) d low = refl
at_rank (suc (suc (suc (suc (suc (suc (suc (suc (suc (suc (suc (suc (suc zero))))))))))))) d low = refl
at_rank (suc (suc (suc (suc (suc (suc (suc (suc (suc (suc (suc (suc (suc (suc zero)))))))))))))) d low = refl
at_rank (suc (suc (suc (suc (suc (suc (suc (suc (suc (suc (suc (suc (suc (suc (suc k))))))))))))))) d low = absurd (omega arith)

own_rank : (f : Fault) (d : LineFault) → fault_of (get_or table (fault_rank f) d) ≡ f
own_rank line.RepeatedFeature d = refl
own_rank line.UnknownFeature d = refl
own_rank line.TooManyFeatures d = refl
own_rank line.RepeatedDelta d = refl
own_rank line.UnknownDelta d = refl
own_rank line.DeltaNotPlaced d = refl
own_rank line.DeltaPlacedTwice d = refl
own_rank line.RepeatedPart d = refl
own_rank line.UnknownPart d = refl
own_rank line.PartsNoChain d = refl
own_rank line.RepeatedOperation d = refl
own_rank line.RepeatedMember d = refl
own_rank line.RepeatedParameter d = refl
own_rank line.ReservedClass d = refl
own_rank line.OriginalOutside d = refl

rank_low : (f : Fault) → fault_rank f < 15
rank_low line.RepeatedFeature = omega arith
rank_low line.UnknownFeature = omega arith
rank_low line.TooManyFeatures = omega arith
rank_low line.RepeatedDelta = omega arith
rank_low line.UnknownDelta = omega arith
rank_low line.DeltaNotPlaced = omega arith
rank_low line.DeltaPlacedTwice = omega arith
rank_low line.RepeatedPart = omega arith
rank_low line.UnknownPart = omega arith
rank_low line.PartsNoChain = omega arith
rank_low line.RepeatedOperation = omega arith
rank_low line.RepeatedMember = omega arith
rank_low line.RepeatedParameter = omega arith
rank_low line.ReservedClass = omega arith
rank_low line.OriginalOutside = omega arith

abbrev pub NoneBelow : Source → ℕ → Type 0
NoneBelow source i = (other : Fault) (at : ℕ) → fault_rank other < i → ¬ (FaultStands source other at)

pub none_next : (source : Source) (i : ℕ) (d : LineFault) → i < 15 → NoneBelow source i → IsLeastPlace (FaultStands source (fault_of (get_or table i d))) None → NoneBelow source (i + 1)
none_next source i d low before is other at less stands =
    either (earlier_or_last (fault_rank other) i less) (λ earlier. before other at earlier stands)
    (λ last. is.least at (subst (λ f. FaultStands source f at) (sym (own_rank other d) ∙ ap (λ k. fault_of (get_or table k d)) last) stands))

pub accepted : (source : Source) (i : ℕ) → 15 ≤ i → NoneBelow source i → IsAccepted source
accepted source i high none fault at stands = none fault at (omega (arith, rank_low fault)) stands

pub first_is : (source : Source) (i : ℕ) (d : LineFault) (at : ℕ) → i < 15 → NoneBelow source i → IsLeastPlace (FaultStands source (fault_of (get_or table i d))) (Some at) → FirstFault source (fault_of (get_or table i d)) at
first_is source i d at low before is =
    record {
      stands = is.stands;
      first = λ other place stands. either (cases_lt (fault_rank other) i) (λ less. absurd (before other place less stands)) (λ more. let rank = at_rank i d low in omega arith);
      least = is.least;
    }
