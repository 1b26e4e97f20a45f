-- What the answer for a source says, both ways.
use Rattle.std.proofs.Common.{◌≡◌, ℕ, Result, Ok, Err, refl, sym, ap, ◌∙◌, subst}
use Rattle.std.specs.Prelude.{◌↔◌, MatchResult, IsOk}
use Rattle.dj_tree.specs.Trees.{Source}
use Rattle.dj_calculus.specs.Accepted.{FirstFault, IsAccepted}
use Rattle.dj_calculus.specs.Faults.{Fault}
use Rattle.dj_calculus.specs.Faults as plain
use Rattle.dj_calculus.proofs.FaultLemmas.{same_fault, same_place}
use Rattle.dj_faults.specs.LineFaults.{fault_of}
use Rattle.dj_faults.specs.declared.fault.LineFault.{LineFault}
use Rattle.dj_faults.specs.declared.fault.LineFault.TheVariants.{RepeatedFeature, UnknownFeature, TooManyFeatures, RepeatedDelta, UnknownDelta, DeltaNotPlaced, DeltaPlacedTwice, RepeatedPart, UnknownPart, PartsNoChain, RepeatedOperation, RepeatedMember, RepeatedParameter, ReservedClass, OriginalOutside}
use Rattle.dj_line.specs.declared.errors.LineError.{LineError}
use Rattle.dj_line.specs.declared.errors.LineError.TheVariants.{Refused, NoMemory}
use Rattle.dj_line.specs.declared.line.Line.{Line}
use Rattle.dj_line.specs.Lines.{plain_line}
use Rattle.dj_line.specs.LineErrors.{IsLineError}

-- the fault of the code
abbrev code_fault : Fault → LineFault
code_fault plain.RepeatedFeature = RepeatedFeature
code_fault plain.UnknownFeature = UnknownFeature
code_fault plain.TooManyFeatures = TooManyFeatures
code_fault plain.RepeatedDelta = RepeatedDelta
code_fault plain.UnknownDelta = UnknownDelta
code_fault plain.DeltaNotPlaced = DeltaNotPlaced
code_fault plain.DeltaPlacedTwice = DeltaPlacedTwice
code_fault plain.RepeatedPart = RepeatedPart
code_fault plain.UnknownPart = UnknownPart
code_fault plain.PartsNoChain = PartsNoChain
code_fault plain.RepeatedOperation = RepeatedOperation
code_fault plain.RepeatedMember = RepeatedMember
code_fault plain.RepeatedParameter = RepeatedParameter
code_fault plain.ReservedClass = ReservedClass
code_fault plain.OriginalOutside = OriginalOutside

code_fault_of : (f : LineFault) → code_fault (fault_of f) ≡ f
code_fault_of RepeatedFeature = refl
code_fault_of UnknownFeature = refl
code_fault_of TooManyFeatures = refl
code_fault_of RepeatedDelta = refl
code_fault_of UnknownDelta = refl
code_fault_of DeltaNotPlaced = refl
code_fault_of DeltaPlacedTwice = refl
code_fault_of RepeatedPart = refl
code_fault_of UnknownPart = refl
code_fault_of PartsNoChain = refl
code_fault_of RepeatedOperation = refl
code_fault_of RepeatedMember = refl
code_fault_of RepeatedParameter = refl
code_fault_of ReservedClass = refl
code_fault_of OriginalOutside = refl

pub same_code : (f g : LineFault) → fault_of f ≡ fault_of g → f ≡ g
same_code f g e = sym (code_fault_of f) ∙ ap code_fault e ∙ code_fault_of g

abbrev Answer : Source → Result Line LineError → Type 0
Answer source result = MatchResult result (λ line. (plain_line line ≡ source) × IsAccepted source) (IsLineError source)

pub given_exactly : (source : Source) (result : Result Line LineError) → Answer source result → (result ≡ Err NoMemory → ⊥) → IsOk result ↔ IsAccepted source
given_exactly source (Ok line) answer some = ((λ _. answer.1), (λ _. refl))
given_exactly source (Err (Refused fault at)) answer some = ((λ ok. absurd (cc)), (λ accepted. absurd (accepted (fault_of fault) at answer.stands)))
given_exactly source (Err NoMemory) answer some = absurd (some refl)

pub refused_exactly : (source : Source) (fault : LineFault) (at : ℕ) (result : Result Line LineError) → Answer source result → (result ≡ Err NoMemory → ⊥)
    → (result ≡ Err (Refused fault at)) ↔ FirstFault source (fault_of fault) at
refused_exactly source fault at (Ok line) answer some = ((λ e. absurd (cc)), (λ first. absurd (answer.1 (fault_of fault) at first.stands)))
refused_exactly source fault at (Err (Refused other place)) answer some = (
  (λ is.
      let f : other ≡ fault = cc in
      let p : place ≡ at = cc in
      subst (λ (k : ℕ). FirstFault source (fault_of fault) k) p (subst (λ (g : LineFault). FirstFault source (fault_of g) place) f answer)),
  (λ first.
      let same = same_code other fault (same_fault source (fault_of other) (fault_of fault) place at answer first) in
      let here = same_place source (fault_of fault) place at (subst (λ (g : LineFault). FirstFault source (fault_of g) place) same answer) first in
      ap (λ g. Err (Refused g place)) same ∙ ap (λ k. Err (Refused fault k)) here),
)
refused_exactly source fault at (Err NoMemory) answer some = absurd (some refl)
