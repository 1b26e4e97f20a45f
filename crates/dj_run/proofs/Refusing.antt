-- Answers with the texts of refusals.
use Rattle.std.proofs.Common.{◌≡◌, ◌≢◌, ℕ, List, [], Result, Ok, Err, IfOk, OnOk}
use Rattle.dj_names.specs.Texts.{Text}
use Rattle.dj_report.specs.Refusals.{IsRefusalText, too_long}
use Rattle.dj_refusals.specs.declared.refusal.Refusal.TheVariants.{TooLong}

-- that there are too many bytes is said without looking at them
pub long_text : (text : Text) → IsRefusalText [] TooLong text → (bytes : List ℕ) → IsRefusalText bytes TooLong text
long_text _ too_long bytes = too_long

-- an answer that is told by a fault, where the error is that of the fault
pub told_by : {T E F X : Type 0} (r : Result T E) (error memory : X) (of : F → X) (P : T → F → Type 0) (Q : T → Type 0) → IfOk r (λ x. (f : F) → error ≡ of f → P x f)
    → OnOk r (error ≢ memory) → ((x : T) → error ≢ memory → ((f : F) → error ≡ of f → P x f) → Q x) → IfOk r Q
told_by (Ok x) error memory of P Q told other make = make x other told
told_by (Err e) error memory of P Q told other make = tt
